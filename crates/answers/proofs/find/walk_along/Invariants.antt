use Rattle.std.proofs.Common.{◌≡◌, drop, length, []}
use Rattle.answers.specs.Gathered.{IsBuilding}
use Rattle.answers.specs.States.{StateOf}
use Rattle.answers.proofs.find.walk_along.Given as goal

abbrev pub invariant-loop-mark : goal.invariant-loop-mark
invariant-loop-mark g l = record {
  building : (end : StateOf g.row.R.Denot g.row.R-Pending.Denot) → IsBuilding g.R.Behaves.behaviour (g.R.Behaves.behaviour l.moves.register) l.moves.question.now end l.fn.start [] l.path
      → IsBuilding g.R.Behaves.behaviour (g.R.Behaves.behaviour l.moves.register) l.moves.question.now end l.state l.steps.items (drop l.mark-index l.path);
  long : length l.steps.items ≡ l.mark-index;
}
