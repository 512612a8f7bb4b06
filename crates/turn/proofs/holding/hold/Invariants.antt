use Rattle.std.proofs.Common.{length, drop}
use Rattle.turn.proofs.holding.hold.Given as goal

abbrev pub ghosts-publish : goal.ghosts-publish
ghosts-publish g a = record { added = drop (length a.access.now.me.0.seen) (g.T.Counted.entries a.value.now) }
