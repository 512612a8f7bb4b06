use Rattle.std.proofs.Common.{◌≡◌, ◌∙◌, ℕ, ◌+◌, ◌<◌, ◌≤◌, List, length, get_or, drop, sym, ap}
use Rattle.std.proofs.lemmas.List.{drop_all, drop_more}
use Rattle.frames.specs.declared.types.Step.{Step}
use Rattle.frames.specs.Behaviour.{Behaviour}
use Rattle.frames.specs.Configuration.{Configuration, replayed, stepped}
use Rattle.views.proofs.spot.make_steps.Goals as goal

-- after one more step, the remaining steps lead to the same configuration
one_step_more : {R P : Type 0} (is : R → Behaviour P) (register : R) (c next whole : Configuration R P) (steps : List Step)
    (i : ℕ) (d : Step) → i < length steps → c.register ≡ register → next ≡ stepped (is c.register) c (get_or steps i d)
    → replayed (is register) c (drop i steps) ≡ whole
    → replayed (is register) next (drop (i + 1) steps) ≡ whole
one_step_more is register c next whole steps i d here same h so_far =
    ap (λ e. replayed (is register) e (drop (i + 1) steps)) (h ∙ ap (λ r. stepped (is r) c (get_or steps i d)) same)
    ∙ ap (replayed (is register) c) (sym (drop_more steps i d here)) ∙ so_far

pub loop-step-preserved : goal.loop-step-preserved
loop-step-preserved g c =
    let now = c.args.config.now.register in
    let so_far = c.loop-step.invariant in
    let after = c.step.ensures.after in
    record {
      register = ap (λ e. e.register) after ∙ so_far.register;
      config = one_step_more g.R.Behaves.behaviour now c.loop-step.config c.step.new.self _ c.args.steps.now c.loop-step.step-index _
          c.loop-step-test.true so_far.register after so_far.config;
    }

-- after all steps, the configuration is the one that they lead to
all_steps_made : {R P : Type 0} (b : Behaviour P) (c whole : Configuration R P) (steps : List Step) (i : ℕ) → length steps ≤ i
    → replayed b c (drop i steps) ≡ whole → c ≡ whole
all_steps_made b c whole steps i done so_far = ap (replayed b c) (sym (drop_all i steps done)) ∙ so_far

pub returns : goal.returns
returns g c =
    all_steps_made (g.R.Behaves.behaviour c.args.config.now.register) c.loop-step.config _ c.args.steps.now c.loop-step.step-index
    c.loop-step-test.false c.loop-step.invariant.config
