-- Reports of fills: how many jobs were planned, and how they ended.
use Rattle.std.specs.Prelude.{◌≡◌, ◌+◌, Option, Some, None}
use Rattle.cutoff.specs.declared.install.Installation.{Installation}
use Rattle.cutoff.specs.declared.install.Installation.TheVariants.{Installed, Stale, Gone}
use Rattle.desk.specs.declared.report.Report.{Report}

-- a report's number of planned jobs is the sum of its other counts
abbrev pub IsSum : Report → Type 0
IsSum r = r.planned ≡ r.installed + r.stale + r.gone + r.memory

-- the report of a fill that has no jobs: all counts are 0
abbrev pub no_jobs : Report
no_jobs = record { planned = 0; installed = 0; stale = 0; gone = 0; memory = 0 }

-- the report r with one more planned job; the first argument says whether the job's run was
-- installed, stale or gone, and is `None` if the job ran out of memory
abbrev pub report_with : Option Installation → Report → Report
report_with (Some Installed) r = record { planned = r.planned + 1; installed = r.installed + 1; stale = r.stale; gone = r.gone; memory = r.memory }
report_with (Some Stale) r = record { planned = r.planned + 1; installed = r.installed; stale = r.stale + 1; gone = r.gone; memory = r.memory }
report_with (Some Gone) r = record { planned = r.planned + 1; installed = r.installed; stale = r.stale; gone = r.gone + 1; memory = r.memory }
report_with None r = record { planned = r.planned + 1; installed = r.installed; stale = r.stale; gone = r.gone; memory = r.memory + 1 }

-- the sum of two reports, count by count
abbrev pub sum_of_reports : Report → Report → Report
sum_of_reports a b =
    record {
      planned = a.planned + b.planned;
      installed = a.installed + b.installed;
      stale = a.stale + b.stale;
      gone = a.gone + b.gone;
      memory = a.memory + b.memory;
    }

-- no job gave a run: there was no job, or each job ran out of memory
abbrev pub IsIdle : Report → Type 0
IsIdle r = r.memory ≡ r.planned
