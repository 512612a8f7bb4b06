use Rattle.std.proofs.Common.{◌≡◌, ◌+◌, ◌-◌, ℕ, vec_len}
use Rattle.cutoff.specs.FoundFits.{found_fit_at}
use Rattle.cutoff.proofs.found_fits.record_fit.Given as goal

abbrev pub invariant-loop-seen : goal.invariant-loop-seen
invariant-loop-seen l = record { same : (k : ℕ) → found_fit_at l.seen.items k ≡ found_fit_at l.fn.seen.items k }

abbrev pub decreases-loop-seen : goal.decreases-loop-seen
decreases-loop-seen l = l.key + 1 - vec_len l.seen
