-- The jobs of a chart's plan, which are segments to replay, and the runs that they give.
use Rattle.std.specs.Prelude.{◌≡◌}
use Rattle.std.specs.Arc.{arc_value}
use Rattle.std.specs.declared.alloc.Global.{Global}
use Rattle.std.specs.declared.sync.Arc.{Arc}
use Rattle.checkpoints.specs.Runs.{SegmentRun}
use Rattle.cutoff.specs.Plans.{Planned}

-- a run (a replayed segment) that threads share
abbrev pub SharedRun : Type 0 → Type 0 → Type 0
SharedRun R P = Arc (SegmentRun R P) Global

-- the run has the job's entry, which is the configuration from which it begins, and the job's steps
abbrev pub IsRunOf : {R P : Type 0} → Planned R P → SharedRun R P → Type 0
IsRunOf job run = ((arc_value run).entry ≡ job.entry) × ((arc_value run).steps ≡ job.steps)
