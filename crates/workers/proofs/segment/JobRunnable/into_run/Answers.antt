use Rattle.std.proofs.Common.{ap, sym, subst, ◌∙◌}
use Rattle.std.specs.Arc.{arc_value}
use Rattle.frames.specs.Recorded.{AllFit}
use Rattle.workers.proofs.segment.JobRunnable.into_run.Goals as goal

pub run_of_owned-requires : goal.run_of_owned-requires
run_of_owned-requires g c =
    let is = g.R.Behaves.behaviour in
    subst (AllFit (is (arc_value c.self.inside.entry).register)) (sym c.into_vec.ensures) c.self.invariant

pub returns : goal.returns
returns g c = (
  ap (λ r. r.entry) c.in_ok-new.ensures.ok ∙ c.in_ok-run.ensures.entry ∙ ap (λ j. j.entry) c.self.view_is,
  ap (λ r. r.steps) c.in_ok-new.ensures.ok ∙ c.in_ok-run.ensures.steps ∙ c.into_vec.ensures ∙ ap (λ j. j.steps) c.self.view_is,
)
