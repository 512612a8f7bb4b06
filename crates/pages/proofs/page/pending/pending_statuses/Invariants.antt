use Rattle.std.proofs.Common.{◌≡◌, map}
use Rattle.std.specs.List.{range_with_len}
use Rattle.pages.specs.page.Pending.{pending_status_at}
use Rattle.pages.proofs.page.pending.pending_statuses.Given as goal

abbrev pub invariant-loop-p : goal.invariant-loop-p
invariant-loop-p g l = l.all.items ≡ map (pending_status_at (g.R.Behaves.behaviour l.config.register) l.config) (range_with_len 0 l.p)
