use Rattle.std.proofs.Common.{◌≡◌, ◌≤◌, ◌-◌, []}
use Rattle.conversation.specs.Pieces.{Reached}
use Rattle.conversation.specs.Streams.{streams}
use Rattle.conversation.proofs.converse.converse.Given as goal
use Rattle.conversation.specs.declared.limits.TheConstants.{MOST_READS, MOST_SCRIPT_BYTES}

abbrev pub invariant-reads : goal.invariant-reads
invariant-reads g l = record {
  few : l.conversation.lines ≤ l.taken.bytes;
  within : l.taken.bytes ≤ MOST_SCRIPT_BYTES;
  sent : l.conversation.out.items ≡ [];
  reached : g.A.Answers.alone l.initial.state → g.A.Answers.alone l.state × Reached g.A.Answers.define (g.A.Answers.world l.initial.state) (streams (g.R.Read.remaining l.initial.reader) (g.W.Write.contents l.initial.writer))
      (streams (g.R.Read.remaining l.reader) (g.W.Write.contents l.writer)) l.taken.bytes (g.A.Answers.world l.state) l.conversation.lines l.conversation.line.items;
}

abbrev pub decreases-reads : goal.decreases-reads
decreases-reads g l = MOST_READS - l.taken.reads
