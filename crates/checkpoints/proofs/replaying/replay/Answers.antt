use Rattle.std.proofs.Common.{map, ap, sym, subst, ◌∙◌}
use Rattle.std.proofs.lemmas.List.{map-id}
use Rattle.frames.specs.Configuration.{replayed, history}
use Rattle.frames.specs.Recorded.{AllFit}
use Rattle.checkpoints.proofs.Replays.{from_same}
use Rattle.checkpoints.proofs.replaying.replay.Goals as goal

pub replay_from-requires : goal.replay_from-requires
replay_from-requires g c =
    let is = g.R.Behaves.behaviour in
    let steps = c.args.steps.now in
    let fit = subst (AllFit (is c.args.register)) (sym (map-id steps)) c.requires.fits in
    subst (λ r. AllFit (is r) (map (λ s. s) steps)) (sym (ap (λ d. d.register) c.in_ok-initial.ensures)) fit

pub returns-clause-config : goal.returns-clause-config
returns-clause-config g c =
    c.into_replayed.ensures.config ∙ c.in_ok-made.ensures.config
    ∙ from_same g.R.Behaves.behaviour replayed _ _ c.args.steps.now c.in_ok-initial.ensures

pub returns-clause-events : goal.returns-clause-events
returns-clause-events g c =
    c.into_replayed.ensures.events ∙ c.in_ok-made.ensures.events
    ∙ from_same g.R.Behaves.behaviour history _ _ c.args.steps.now c.in_ok-initial.ensures
