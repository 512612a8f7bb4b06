use Rattle.std.proofs.Common.{ap, ◌∙◌}
use Rattle.cutoff.specs.FoundFits.{found_fit_at}
use Rattle.cutoff.proofs.FoundFits.{found_fit_at-none_added}
use Rattle.cutoff.proofs.found_fits.record_fit.Goals as goal

pub loop-seen-preserved : goal.loop-seen-preserved
loop-seen-preserved c = record { same = λ k. ap (λ l. found_fit_at l k) c.in_ok-push.ensures.items ∙ found_fit_at-none_added c.loop-seen.seen.items k ∙ c.loop-seen.invariant.same k }
