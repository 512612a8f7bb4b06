use Rattle.std.proofs.Common.{◌≡◌, ◌∙◌, ap, sym, subst, true, take, drop}
use Rattle.std.proofs.lemmas.List.Elements.{All-take, All-drop}
use Rattle.frames.specs.Configuration.{fits_step, replayed}
use Rattle.frames.specs.Recorded.{AllFit}
use Rattle.views.proofs.Lenses.{end_behaviour, advanced_alike}
use Rattle.views.proofs.lens.advanced.Goals as goal

pub make_steps-requires : goal.make_steps-requires
make_steps-requires g c =
    let is = g.R.Behaves.behaviour in
    let run = c.args.run.now in
    let b = is run.entry.register in
    let steps : c.following.result.now ≡ drop c.args.made (take c.args.count run.steps) =
    c.following.ensures ∙ ap (drop c.args.made) (c.front.ensures ∙ ap (take c.args.count) c.steps.ensures.steps) in
    let home : is c.args.config.register ≡ b = c.requires.from.behaves_alike ∙ end_behaviour is (record { run = run; count = c.args.made }) in
    let all : AllFit b (drop c.args.made (take c.args.count run.steps)) =
    All-drop (λ s. fits_step b s ≡ true) c.args.made (take c.args.count run.steps) (All-take (λ s. fits_step b s ≡ true) c.args.count run.steps c.steps.ensures.kept.fits) in
    subst (λ x. AllFit x c.following.result.now) (sym home) (subst (AllFit b) (sym steps) all)

pub returns : goal.returns
returns g c =
    let is = g.R.Behaves.behaviour in
    let run = c.args.run.now in
    let steps : c.following.result.now ≡ drop c.args.made (take c.args.count run.steps) =
    c.following.ensures ∙ ap (drop c.args.made) (c.front.ensures ∙ ap (take c.args.count) c.steps.ensures.steps) in
    advanced_alike is run c.args.made c.args.count c.args.config c.make_steps.new.config c.requires.order c.requires.from
    (c.make_steps.ensures ∙ ap (replayed (is c.args.config.register) c.args.config) steps)
