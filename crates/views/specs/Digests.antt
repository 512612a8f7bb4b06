-- Digests: to hash a list of steps, one number is computed from it and hashed in its place.
use Rattle.std.specs.Prelude.{ℕ, ◌+◌, ◌*◌, ◌%◌, ◌^◌, List, [], ◌∷◌}
use Rattle.frames.specs.declared.types.Step.{Step}
use Rattle.frames.specs.declared.types.Step.TheVariants as step
use Rattle.views.specs.declared.digest.TheConstants.{FACTOR}

-- the number that a step adds to a digest: the kind of step in the two lowest bits, the process
-- above them, and the choice or value at 1024 and above
abbrev pub number_of_step : Step → ℕ
number_of_step (step.Go p c) = 4 * p + 1024 * c
number_of_step (step.Write p v) = 4 * p + 1024 * v + 1
number_of_step (step.Read p) = 4 * p + 2
number_of_step (step.Stop p) = 4 * p + 3

-- the digest of a list of steps with one more step at its end, given the digest of the list
abbrev pub digest_with_step : ℕ → Step → ℕ
digest_with_step digest s = ((digest * FACTOR) % 2 ^ 64 + number_of_step s) % 2 ^ 64

-- the digest of a list of steps with more steps at its end, given the digest of the list
abbrev pub with_steps : ℕ → List Step → ℕ
with_steps digest [] = digest
with_steps digest (s ∷ steps) = with_steps (digest_with_step digest s) steps

-- the digest of a list of steps: the number that is hashed in place of the list
abbrev pub digest : List Step → ℕ
digest steps = with_steps 0 steps
