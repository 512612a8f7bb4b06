use Rattle.std.proofs.Common.{◌≡◌, ◌++◌, ℕ, List, length}
use Rattle.std.specs.Io.KnownBytes.{Appends}
use Rattle.conversation.proofs.writing.write_whole.Given as goal

abbrev pub invariant-writes : goal.invariant-writes
invariant-writes g l = (front : List ℕ) × (l.bytes ≡ front ++ l.rest) × Appends (g.W.Write.contents l.initial.writer) (g.W.Write.contents l.writer) front

abbrev pub decreases-writes : goal.decreases-writes
decreases-writes g l = length l.rest
