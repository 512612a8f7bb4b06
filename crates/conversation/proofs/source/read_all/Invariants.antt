use Rattle.std.proofs.Common.{◌≤◌, ◌-◌, length}
use Rattle.std.specs.Io.KnownBytes.{Consumes}
use Rattle.conversation.proofs.source.read_all.Given as goal

abbrev pub invariant-pieces : goal.invariant-pieces
invariant-pieces g l = record {
  room : length l.bytes.items ≤ l.limit;
  read : Consumes (g.R.Read.remaining l.initial.reader) (g.R.Read.remaining l.reader) l.bytes.items;
}

abbrev pub decreases-pieces : goal.decreases-pieces
decreases-pieces g l = l.limit - length l.bytes.items
