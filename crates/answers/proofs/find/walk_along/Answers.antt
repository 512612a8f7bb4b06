use Rattle.std.proofs.Common.{◌+◌, List, drop, length, sym, ap, subst, ◌∙◌}
use Rattle.std.proofs.lemmas.List.{drop_all, length_push}
use Rattle.frames.specs.declared.types.Step.{Step}
use Rattle.answers.specs.Gathered.{IsBuilding}
use Rattle.answers.proofs.Building.{label_at, taken_at, taken_fits, taken_step, none_taken}
use Rattle.answers.proofs.find.walk_along.Goals as goal

pub loop-mark-init : goal.loop-mark-init
loop-mark-init g c = record {
  building = λ end h. subst (λ (s : List Step). IsBuilding g.R.Behaves.behaviour (g.R.Behaves.behaviour c.args.moves.now.register) c.args.moves.now.question.now end c.args.start s c.args.path.now)
      (sym c.new-steps.ensures.items) h;
  long = ap length c.new-steps.ensures.items;
}

pub step_at-requires : goal.step_at-requires
step_at-requires g c = record {
  labelled = label_at g.R.Behaves.behaviour (g.R.Behaves.behaviour c.args.moves.now.register) c.args.moves.now.question.now c.requires.0 c.loop-mark.state
      c.loop-mark.steps.items c.args.path.now c.loop-mark.mark-index _ c.loop-mark-test.true (c.loop-mark.invariant.building c.requires.0 c.requires.1);
}

pub unreachable-requires : goal.unreachable-requires
unreachable-requires g c =
    let r = c.args.moves.now.register in
    none_taken _ _ _ _ _ _ _ _
    (taken_at g.R.Behaves.behaviour (g.R.Behaves.behaviour r) c.args.moves.now.question.now c.requires.0 c.loop-mark.state (g.R.Register.Holds r) (g.R.Register.Reaches r) (g.met.R.Register.lawful r)
    c.loop-mark.steps.items c.args.path.now c.loop-mark.mark-index _ c.step_at.result c.loop-mark-test.true (c.loop-mark.invariant.building c.requires.0 c.requires.1) c.step_at.ensures) c.in_default.is

pub advanced-requires : goal.advanced-requires
advanced-requires g c =
    let r = c.args.moves.now.register in
    taken_fits _ _ _ _ _ _ _ _ _
    (taken_at g.R.Behaves.behaviour (g.R.Behaves.behaviour r) c.args.moves.now.question.now c.requires.0 c.loop-mark.state (g.R.Register.Holds r) (g.R.Register.Reaches r) (g.met.R.Register.lawful r)
    c.loop-mark.steps.items c.args.path.now c.loop-mark.mark-index _ c.step_at.result c.loop-mark-test.true (c.loop-mark.invariant.building c.requires.0 c.requires.1) c.step_at.ensures) c.in-Some.is

pub loop-mark-preserved : goal.loop-mark-preserved
loop-mark-preserved g c =
    let r = c.args.moves.now.register in
    let is = g.R.Behaves.behaviour in
    let q = c.args.moves.now.question.now in
    let i = c.loop-mark.mark-index in
    let path = c.args.path.now in
    record {
      building = λ end h. subst (λ (s : List Step). IsBuilding is (is r) q end c.in-Ok.next s (drop (i + 1) path)) (sym c.in-Ok-push.ensures.items)
          (taken_step is (is r) q end c.loop-mark.state c.loop-mark.steps.items c.in-Some.step c.in-Ok.next (drop (i + 1) path) c.step_at.result
          (taken_at is (is r) q end c.loop-mark.state (g.R.Register.Holds r) (g.R.Register.Reaches r) (g.met.R.Register.lawful r)
          c.loop-mark.steps.items path i _ c.step_at.result c.loop-mark-test.true (c.loop-mark.invariant.building end h) c.step_at.ensures) c.in-Some.is c.in-Ok.ensures);
      long = ap length c.in-Ok-push.ensures.items ∙ (length_push c.loop-mark.steps.items c.in-Some.step ∙ ap (λ n. n + 1) c.loop-mark.invariant.long);
    }

pub returns-clause-led : goal.returns-clause-led
returns-clause-led g c end h =
    subst (IsBuilding g.R.Behaves.behaviour (g.R.Behaves.behaviour c.args.moves.now.register) c.args.moves.now.question.now end c.loop-mark.state c.loop-mark.steps.items)
    (drop_all c.loop-mark.mark-index c.args.path.now c.loop-mark-test.false) (c.loop-mark.invariant.building end h)
