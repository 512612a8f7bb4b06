use Rattle.std.proofs.Common.{◌≡◌, ◌≤◌, ◌+◌, ◌++◌, ℕ, List, length}
use Rattle.conversation.specs.Pieces.{HasAnswered}
use Rattle.conversation.proofs.converse.Conversation.answer_each.Given as goal

abbrev pub invariant-lines : goal.invariant-lines
invariant-lines g l = record {
  few : l.self.lines + length l.rest ≤ l.initial.self.lines + length l.piece;
  reported : g.A.Answers.alone l.initial.state → g.A.Answers.alone l.state × ((before : List ℕ) × (l.piece ≡ before ++ l.rest) × ((start : g.A.Answers.Worlds) (seen front : List ℕ)
      → HasAnswered g.A.Answers.define start seen (g.A.Answers.world l.initial.state) l.initial.self.lines l.initial.self.line.items (front ++ l.initial.self.out.items)
      → HasAnswered g.A.Answers.define start (seen ++ before) (g.A.Answers.world l.state) l.self.lines l.self.line.items (front ++ l.self.out.items)));
}

abbrev pub decreases-lines : goal.decreases-lines
decreases-lines g l = length l.rest
