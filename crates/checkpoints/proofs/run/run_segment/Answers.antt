use Rattle.std.proofs.Common.{◌≡◌, map, ap, sym, subst, ◌∙◌, IfOk}
use Rattle.std.proofs.lemmas.List.{map-id}
use Rattle.frames.specs.Recorded.{AllFit}
use Rattle.checkpoints.proofs.run.run_segment.Goals as goal

pub run_of-requires : goal.run_of-requires
run_of-requires g c =
    let is = g.R.Behaves.behaviour in
    let steps = c.args.steps.now in
    let fit = subst (AllFit (is c.args.entry.now.register)) (sym (map-id steps)) c.requires in
    subst (λ r. AllFit (is r) (map (λ s. s) steps)) (sym (ap (λ d. d.register) (c.in_ok-entry.ensures.ok ∙ c.in_ok-copy.ensures))) fit

pub returns-clause-steps : goal.returns-clause-steps
returns-clause-steps g c = subst (λ l. IfOk c.run_of.result (λ run. run.steps ≡ l)) (map-id c.args.steps.now) c.run_of.ensures.steps
