use Rattle.pages.specs.page.Pending.{pending_status_at}
use Rattle.pages.proofs.Ranges.{mapped_more}
use Rattle.pages.proofs.page.pending.pending_statuses.Goals as goal

pub loop-p-preserved : goal.loop-p-preserved
loop-p-preserved g c = mapped_more (pending_status_at (g.R.Behaves.behaviour c.args.config.now.register) c.args.config.now) c.loop-p.p _ _ _ c.loop-p.invariant c.in_ok-push.ensures.items c.in_ok-pending_status_at.ensures
