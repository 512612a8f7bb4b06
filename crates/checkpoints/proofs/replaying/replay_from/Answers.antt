use Rattle.std.proofs.Common.{◌≡◌, ◌∙◌, ◌+◌, ◌∷◌, ◌++◌, true, map, drop, ap, sym, subst, append-nil}
use Rattle.frames.specs.Configuration.{fits_step, replayed, history}
use Rattle.checkpoints.specs.StoredEvents.{stored_events}
use Rattle.checkpoints.specs.MarkedSteps.{reported_events}
use Rattle.checkpoints.proofs.Replays.{still_under_way, left_at, none_left, first_fits, still_all_steps}
use Rattle.checkpoints.proofs.MarkedEvents.{reported_more}
use Rattle.checkpoints.proofs.replaying.replay_from.Goals as goal

pub step-reported-requires : goal.step-reported-requires
step-reported-requires g c =
    let is = g.R.Behaves.behaviour in
    let at = c.loop-item in
    let step_in = g.S.HasStep.step_in in
    let items = c.args.items.now in
    let step = c.step-step.result in
    let rest = map step_in (drop (at.item-index + 1) items) in
    let first = left_at step_in items at.item-index c.item-item.result c.loop-item-test.true c.item-item.is ∙ ap (λ s. s ∷ rest) (sym c.step-step.ensures) in
    let fits = first_fits step (map step_in (drop at.item-index items)) rest first (is c.args.entry.register) at.invariant.under_way.fit in
    subst (λ r. fits_step (is r) step ≡ true) (sym at.invariant.under_way.register) fits

pub loop-item-preserved : goal.loop-item-preserved
loop-item-preserved g c =
    let step_in = g.S.HasStep.step_in in
    let items = c.args.items.now in
    let at = c.loop-item in
    let so_far = at.invariant in
    let step = c.step-step.result in
    let left = map step_in (drop at.item-index items) in
    let rest = map step_in (drop (at.item-index + 1) items) in
    let first = left_at step_in items at.item-index c.item-item.result c.loop-item-test.true c.item-item.is ∙ ap (λ s. s ∷ rest) (sym c.step-step.ensures) in
    let one = c.step-reported.result in
    let more = reported_more at.steps.items c.push_reserved.new.self.items at.marks.items c.push_reported.new.marks.items (stored_events at.events.items) (stored_events c.push_reported.new.events.items) step one
    so_far.are_reported c.push_reserved.ensures.items c.in_ok-push_reported.ensures.added in
    record {
      under_way = still_under_way g.R.Behaves.behaviour c.args.entry at.config c.step-reported.new.self step (map step_in items) left rest
          (reported_events at.steps.items at.marks.items (stored_events at.events.items)) (reported_events c.push_reserved.new.self.items c.push_reported.new.marks.items (stored_events c.push_reported.new.events.items)) one
          first c.step-reported.ensures.after c.step-reported.ensures.events more.reports so_far.under_way;
      steps = still_all_steps step left rest first at.steps.items c.push_reserved.new.self.items c.push_reserved.ensures.items ∙ so_far.steps;
      are_reported = more.read_first;
      steps_room = c.push_reserved.ensures.capacity ∙ so_far.steps_room;
      made = c.push_reserved.ensures.len ∙ ap (λ n. n + 1) so_far.made;
      marks_room = c.push_reported.ensures.marks_room ∙ so_far.marks_room;
      marked = c.in_ok-push_reported.ensures.marks ∙ ap (λ n. n + 1) so_far.marked;
    }

pub returns-clause-steps : goal.returns-clause-steps
returns-clause-steps g c =
    let at = c.loop-item in
    let none = none_left g.S.HasStep.step_in c.args.items.now at.item-index c.loop-item-test.false in
    let made = at.steps.items in
    c.new-reported.ensures.steps ∙ sym (append-nil made) ∙ ap (λ l. made ++ l) (sym none) ∙ at.invariant.steps

pub returns-clause-config : goal.returns-clause-config
returns-clause-config g c =
    let at = c.loop-item in
    let none = none_left g.S.HasStep.step_in c.args.items.now at.item-index c.loop-item-test.false in
    ap (replayed (g.R.Behaves.behaviour c.args.entry.register) at.config) (sym none) ∙ at.invariant.under_way.config

pub returns-clause-events : goal.returns-clause-events
returns-clause-events g c =
    let at = c.loop-item in
    let none = none_left g.S.HasStep.step_in c.args.items.now at.item-index c.loop-item-test.false in
    let made = reported_events at.steps.items at.marks.items (stored_events at.events.items) in
    let later = history (g.R.Behaves.behaviour c.args.entry.register) at.config in
    c.new-reported.ensures.reported ∙ sym (append-nil made) ∙ ap (λ l. made ++ later l) (sym none) ∙ at.invariant.under_way.events
