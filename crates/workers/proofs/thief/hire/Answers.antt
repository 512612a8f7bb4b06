use Rattle.crossbeam_deque.specs.Handles.{view, worker_view}
use Rattle.workers.specs.Outcomes.{IsDoneOf}
use Rattle.workers.proofs.DequeRule.{hires}
use Rattle.workers.proofs.FilledSlots.{has_run_none}
use Rattle.workers.proofs.thief.hire.Goals as goal

pub another-pass-requires : goal.another-pass-requires
another-pass-requires g c = hires _ _ c.requires.parts

pub returns-clause-ran : goal.returns-clause-ran
returns-clause-ran g c = has_run_none (IsDoneOf g.J.Runnable.named g.J.Runnable.gives) (worker_view c.args.owner.now) (view c.another-pass.result) c.in_ok-ran.ran.items c.another-pass.ensures.rule.1 c.in_ok-ran.ensures.items
