use Rattle.std.proofs.Common.{◌≡◌, take}
use Rattle.pages.proofs.page.pending.cloned.Given as goal

abbrev pub invariant-loop-status : goal.invariant-loop-status
invariant-loop-status l = l.all.items ≡ take l.status-index l.statuses
