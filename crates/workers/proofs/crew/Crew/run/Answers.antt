use Rattle.std.proofs.Common.{subst, arith}
use Rattle.workers.specs.Outcomes.{IsDoneOf}
use Rattle.workers.specs.Slots.{AreFull}
use Rattle.workers.proofs.FilledSlots.{at_start, full_at_end, full_is_some, full_length, full_outcomes}
use Rattle.workers.proofs.crew.Crew.run.Goals as goal

pub work_with_thieves-workplace-requires-clause-ready : goal.work_with_thieves-workplace-requires-clause-ready
work_with_thieves-workplace-requires-clause-ready g c κs within =
    at_start (IsDoneOf g.J.Runnable.named g.J.Runnable.gives) _ _ c.in_ok-workplace.workplace.1.items c.in_ok-workplace.ensures.1 c.in_ok-workplace.ensures.2

pub into_outcomes-requires-clause-full : goal.into_outcomes-requires-clause-full
into_outcomes-requires-clause-full g c =
    let ends = IsDoneOf g.J.Runnable.named g.J.Runnable.gives in
    let shared = c.work_with_thieves-workplace.ensures in
    let worked = c.work-slots.ensures in
    full_is_some ends _ c.work-slots.result.1.items (full_at_end ends _ _ _ _ _ c.work-slots.result.1.items c.in_ok-workplace.ensures.1 shared.done shared.same.2 worked.done worked.same.2 worked.all)

pub into_outcomes-requires-clause-room : goal.into_outcomes-requires-clause-room
into_outcomes-requires-clause-room g c =
    let ends = IsDoneOf g.J.Runnable.named g.J.Runnable.gives in
    let shared = c.work_with_thieves-workplace.ensures in
    let worked = c.work-slots.ensures in
    let full = full_length ends _ c.work-slots.result.1.items (full_at_end ends _ _ _ _ _ c.work-slots.result.1.items c.in_ok-workplace.ensures.1 shared.done shared.same.2 worked.done worked.same.2 worked.all) in
    let room = c.in_ok-all.ensures.capacity in
    let count = c.len-count.ensures in
    let all = c.args.jobs.ok.0 in
    omega arith

pub returns : goal.returns
returns g c =
    let ends = IsDoneOf g.J.Runnable.named g.J.Runnable.gives in
    let shared = c.work_with_thieves-workplace.ensures in
    let worked = c.work-slots.ensures in
    let full = full_at_end ends c.args.jobs.items _ _ _ _ c.work-slots.result.1.items c.in_ok-workplace.ensures.1 shared.done shared.same.2 worked.done worked.same.2 worked.all in
    full_outcomes g.J.Runnable.named g.J.Runnable.gives c.args.jobs.items c.into_outcomes.result.items (subst (AreFull ends c.args.jobs.items) c.into_outcomes.ensures full)
