use Rattle.std.specs.Prelude.{◌||◌}
use Rattle.turn.specs.Shares.{has_share}
use Rattle.turn.specs.laws.ShareLaws.{MarkedBelow}
use Rattle.turn.proofs.shares.Shares.together.Given as goal

abbrev pub invariant-loop-share : goal.invariant-loop-share
invariant-loop-share l = MarkedBelow (λ i. has_share l.self.marks i || has_share l.others.marks i) l.share l.marks
