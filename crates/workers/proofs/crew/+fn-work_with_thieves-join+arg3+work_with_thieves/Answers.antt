use Rattle.std.proofs.Common.{ap, sym, subst, arith}
use Rattle.crossbeam_deque.specs.Handles.{worker_view}
use Rattle.workers.specs.Outcomes.{IsDoneOf}
use Rattle.workers.specs.Slots.{IsAtWork}
use Rattle.workers.proofs.DequeRule.{comes_back}
use Rattle.workers.proofs.FilledSlots.{ran_slots, takes_over, slots_length}
use Rattle.workers.proofs.crew.+fn-work_with_thieves-join+arg3+work_with_thieves.Goals as goal

pub hire-requires-clause-room : goal.hire-requires-clause-room
hire-requires-clause-room g t c =
    let count = slots_length (IsDoneOf g.J.Runnable.named g.J.Runnable.gives) 0 _ _ c.args.workplace.1.items c.requires.ready.slotted in
    let len = c.len.ensures in
    omega arith

pub absorb-requires-clause-rule : goal.absorb-requires-clause-rule
absorb-requires-clause-rule g t c = comes_back _ _ _ _ (let part = c.join-thief.ensures.second.1.part in part)

pub put_all-requires : goal.put_all-requires
put_all-requires g t c =
    ran_slots (IsDoneOf g.J.Runnable.named g.J.Runnable.gives) (worker_view c.args.workplace.0).jobs _ _ _ _ c.join-thief.result.1.1.items c.join-thief.result.0.ran.items
    (ap (λ v. v.jobs) c.in-Ok.ensures.left) c.in-Ok.ensures.knows c.join-thief.ensures.second.1 c.join-thief.ensures.first.1

pub returns-clause-done : goal.returns-clause-done
returns-clause-done g t c =
    let ends = IsDoneOf g.J.Runnable.named g.J.Runnable.gives in
    let jobs = (worker_view c.args.workplace.0).jobs in
    let over = takes_over ends jobs _ _ _ _ (worker_view c.absorb.new.self) c.join-thief.result.1.1.items c.join-thief.result.0.ran.items
    (ap (λ v. v.jobs) c.in-Ok.ensures.left) c.in-Ok.ensures.knows c.join-thief.ensures.second.1 c.join-thief.ensures.first.1 c.absorb.ensures.rule in
    subst (IsAtWork ends jobs (worker_view c.absorb.new.self)) (sym c.put_all.ensures) over
