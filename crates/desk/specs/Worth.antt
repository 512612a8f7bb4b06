-- How many threads a round of a fill is worth.
use Rattle.std.specs.Prelude.{ℕ, ◌≤◌, ◌*◌, List, length, sum_by}
use Rattle.cutoff.specs.Plans.{Planned}

-- how many steps these jobs replay
abbrev pub steps_of_all : {R P : Type 0} → List (Planned R P) → ℕ
steps_of_all jobs = sum_by (λ j. length j.steps) jobs

-- These jobs have 16,384 steps or more for each of these threads.
abbrev pub AreWorth : {R P : Type 0} → ℕ → List (Planned R P) → Type 0
AreWorth threads jobs = threads * 16384 ≤ steps_of_all jobs
