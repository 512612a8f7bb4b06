use Rattle.std.proofs.Common.{Err, sym, subst}
use Rattle.answers.specs.Graphs.{IsStateOf}
use Rattle.answers.proofs.Schedules.{initial_is_state_of}
use Rattle.answers.proofs.find.explore.Goals as goal

pub reach-requires-clause-holds : goal.reach-requires-clause-holds
reach-requires-clause-holds g c =
    let r = c.args.moves.now.register in
    let b = g.R.Behaves.behaviour r in
    subst (IsStateOf b (g.R.Register.Holds r) (g.R.Register.Reaches r) r) (sym c.in-Ok.ensures)
    (initial_is_state_of b (g.R.Register.Holds r) (g.R.Register.Reaches r) (g.met.R.Register.lawful r) r c.args.moves.now.question.now.value c.requires)

pub returns-in-Err-TooMany-clause-too_many : goal.returns-in-Err-TooMany-clause-too_many
returns-in-Err-TooMany-clause-too_many g c e = record { many = c.in-Err-TooMany.ensures.too_many (λ i. Err (c.in-Err-TooMany.field-0-is i)) }
