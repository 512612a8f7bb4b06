use Rattle.std.proofs.Common.{◌≡◌, ℕ, ◌<◌, true}
use Rattle.std.specs.List.{list_all}
use Rattle.answers.specs.Questions.{operations_of}
use Rattle.answers.proofs.fits.all_operations_fit.Given as goal

abbrev pub invariant-loop-p : goal.invariant-loop-p
invariant-loop-p g l = (p : ℕ) → p < l.p → list_all ((g.R.Behaves.behaviour l.register).suits p) (operations_of l.question p) ≡ true
