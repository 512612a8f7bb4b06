use Rattle.answers.specs.Gathered.{IsGathered, IsSearched}
use Rattle.answers.proofs.find.gather.Given as goal

abbrev pub invariant-loop-index : goal.invariant-loop-index
invariant-loop-index g l = (s : IsSearched g.R.Behaves.behaviour g.R.PartialEq.eq g.R.Pending.PartialEq.eq l.moves.question.now l.moves.register (g.R.Register.Holds l.moves.register) (g.R.Register.Reaches l.moves.register) l.reached.keys.keys l.reached.goals.items l.reached.marks.items)
    → IsGathered (g.R.Behaves.behaviour l.moves.register) l.moves.question.now s.nodes l.reached.marks.items l.index l.found.items
