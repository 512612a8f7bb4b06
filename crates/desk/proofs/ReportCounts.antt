-- What a report counts.
use Rattle.std.proofs.Common.{◌≡◌, ◌+◌, Option, Some, None, refl, sym, subst, arith}
use Rattle.cutoff.specs.declared.install.Installation.{Installation}
use Rattle.cutoff.specs.declared.install.Installation.TheVariants.{Installed, Stale, Gone}
use Rattle.desk.specs.declared.report.Report.{Report}
use Rattle.desk.specs.Reports.{IsSum, sum_of_reports, report_with, no_jobs}

-- the counts add up in a report of no jobs, in one with one more job, and in a sum of two
pub sum_none : (r : Report) → r ≡ no_jobs → IsSum r
sum_none r none = subst IsSum (sym none) (omega arith)

pub sum_more : (answer : Option Installation) (r : Report) → IsSum r → IsSum (report_with answer r)
sum_more (Some Installed) r s = omega arith
sum_more (Some Stale) r s = omega arith
sum_more (Some Gone) r s = omega arith
sum_more None r s = omega arith

pub planned_more : (answer : Option Installation) (r : Report) → (report_with answer r).planned ≡ r.planned + 1
planned_more (Some Installed) r = refl
planned_more (Some Stale) r = refl
planned_more (Some Gone) r = refl
planned_more None r = refl

pub sum_both : (a b sum : Report) → IsSum a → IsSum b → sum ≡ sum_of_reports a b → IsSum sum
sum_both a b sum p q is = subst IsSum (sym is) (omega arith)
