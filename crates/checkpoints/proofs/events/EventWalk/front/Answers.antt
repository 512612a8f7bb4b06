use Rattle.std.proofs.Common.{◌∙◌, ap, take}
use Rattle.checkpoints.specs.StoredEvents.{stored_events}
use Rattle.checkpoints.specs.MarkedSteps.{reported_events}
use Rattle.checkpoints.proofs.MarkedEvents.{front_reported}
use Rattle.checkpoints.proofs.events.EventWalk.front.Goals as goal

pub returns : goal.returns
returns c =
    let marks = c.self.inside.marks.now in
    let events = stored_events c.self.inside.events.now in
    ap (λ s. reported_events s marks events) c.front.ensures ∙ front_reported c.args.count c.self.inside.steps.now marks events ∙ ap (take c.args.count) c.self.view_is
