use Rattle.std.proofs.Common.{◌≡◌, ◌+◌, refl, sym, subst, ◌∙◌}
use Rattle.std.specs.List.{list_any}
use Rattle.answers.specs.declared.found.Possible.{Possible}
use Rattle.answers.specs.Gathered.{IsGathered}
use Rattle.answers.specs.laws.StateLaws.{answers_eq}
use Rattle.answers.proofs.NotedGoals.{gathered_not_done}
use Rattle.answers.proofs.Listed.{listed_before, listed_now}
use Rattle.answers.proofs.find.gather_one.Goals as goal

pub returns-then-not-index : goal.returns-then-not-index
returns-then-not-index g c s h =
    gathered_not_done (g.R.Behaves.behaviour c.args.moves.now.register) c.args.moves.now.question.now s.nodes c.args.reached.now.goals.items c.args.reached.now.marks.items s.all.trail.marked s.kept.by_goal
    c.args.index c.index.result.now c.index.ensures s.all.sorted c.args.found.now.items h c.requires.there c.if-not-index.true

pub returns-then-is_listed : goal.returns-then-is_listed
returns-then-is_listed g c s h =
    let state = c.in-Ok.walk.state in
    let answers : c.answers.result.now ≡ state.answers = c.answers.ensures in
    listed_before g.R.Behaves.behaviour (g.R.Behaves.behaviour c.args.moves.now.register) c.args.moves.now.question.now s.nodes c.args.reached.now.goals.items c.args.reached.now.marks.items s.all.trail.marked s.kept.by_goal
    c.args.index c.index.result.now c.index.ensures s.all.sorted c.args.found.now.items h c.requires.there c.if-not-index.false state
    c.in-Ok.walk.steps.items (c.in-Ok.ensures.led s)
    ((λ i. list_any (λ (a : Possible). answers_eq a.answers.items (sym answers i)) (sym c.deref.ensures.value i)) ∙ (sym c.is_listed.ensures ∙ c.if-is_listed.true))

pub returns : goal.returns
returns g c s h =
    let state = c.in-Ok.walk.state in
    let answers : c.answers.result.now ≡ state.answers = c.answers.ensures in
    let copied : c.in-Ok-copy_answers.answers.items ≡ state.answers = c.in-Ok-copy_answers.ensures ∙ c.answers-2.ensures in
    subst (IsGathered (g.R.Behaves.behaviour c.args.moves.now.register) c.args.moves.now.question.now s.nodes c.args.reached.now.marks.items (c.args.index + 1)) (sym c.in-Ok-push.ensures.items)
    (listed_now g.R.Behaves.behaviour (g.R.Behaves.behaviour c.args.moves.now.register) c.args.moves.now.question.now s.nodes c.args.reached.now.goals.items c.args.reached.now.marks.items s.all.trail.marked s.kept.by_goal
    c.args.index c.index.result.now c.index.ensures s.all.sorted c.args.found.now.items h c.requires.there c.if-not-index.false state
    c.in-Ok.walk.steps.items (c.in-Ok.ensures.led s)
    ((λ i. list_any (λ (a : Possible). answers_eq a.answers.items (sym answers i)) (sym c.deref.ensures.value i)) ∙ (sym c.is_listed.ensures ∙ c.if-is_listed.false))
    c.in-Ok.ensures.long (record { answers = c.in-Ok-copy_answers.answers; steps = c.in-Ok.walk.steps }) copied refl)
