use Rattle.std.specs.Prelude.{◌&&◌, nat_lt, nat_le}
use Rattle.turn.specs.Shares.{has_share, rank}
use Rattle.turn.specs.laws.ShareLaws.{MarkedBelow}
use Rattle.turn.proofs.shares.Shares.next_least.Given as goal

abbrev pub invariant-loop-share : goal.invariant-loop-share
invariant-loop-share l = MarkedBelow (λ i. has_share l.self.marks i && nat_lt 0 (rank l.self.marks i) && nat_le (rank l.self.marks i) l.many) l.share l.marks
