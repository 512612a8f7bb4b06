use Rattle.answers.specs.Graphs.{all_over}
use Rattle.answers.proofs.NotedGoals.{over_below}
use Rattle.std.proofs.lemmas.Bool.Decides.{same_from_decides}
use Rattle.answers.proofs.moves.MovesGraph.is_goal.Goals as goal

pub returns : goal.returns
returns g c =
    let q = c.args.self.now.question.now in
    let n = (g.R.Behaves.behaviour c.args.self.now.register).processes in
    same_from_decides c.is_done.result (all_over q c.args.node.now n) c.is_done.ensures (over_below q c.args.node.now n)
