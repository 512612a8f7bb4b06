-- What a crew returns: one outcome for each job, in the order of the jobs.
use Rattle.std.specs.Prelude.{◌≡◌, List, [], ◌∷◌}
use Rattle.workers.specs.declared.job.JobOutcome.{JobOutcome}
use Rattle.workers.specs.declared.job.JobOutcome.TheVariants.{Ran, NoMemory}
use Rattle.workers.specs.declared.job.Done.{Done}

module _ {J R : Type 0} (gives : J → R → Type 0) where
  -- a possible outcome of this job: a result that the job can give, or out of memory
  abbrev pub IsOutcomeOf : J → JobOutcome R → Type 0
  IsOutcomeOf job (Ran run) = gives job run
  IsOutcomeOf job NoMemory = Unit {0}

module _ {J K R : Type 0} (key : J → K) (gives : J → R → Type 0) where
  -- this job's key, with a possible outcome of this job
  abbrev pub IsDoneOf : J → Done K R → Type 0
  IsDoneOf job done = (done.key ≡ key job) × IsOutcomeOf gives job done.outcome

  -- the list has one possible outcome for each job, in the order of the jobs, each with its job's
  -- key
  abbrev pub OneForEach : List J → List (Done K R) → Type 0
  OneForEach [] [] = Unit {0}
  OneForEach (job ∷ jobs) (done ∷ rest) = IsDoneOf job done × OneForEach jobs rest
  OneForEach _ _ = ⊥
