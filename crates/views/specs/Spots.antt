-- What successive parts of runs reach and record. A part is a run with the number `count`: only the
-- run's first `count` steps are replayed.
use Rattle.std.specs.Prelude.{ℕ, ◌≡◌, List, [], ◌∷◌, ◌++◌, length, take}
use Rattle.frames.specs.declared.types.Step.{Step}
use Rattle.frames.specs.declared.types.StepEvents.{StepEvents}
use Rattle.frames.specs.Behaviour.{Behaviour}
use Rattle.frames.specs.Configuration.{Configuration, replayed, history}
use Rattle.cutoff.specs.Fitting.{RunPart}
use Rattle.frames.specs.Recorded.{first_configuration, configuration_after, without_register}

module _ {R P : Type 0} (is : R → Behaviour P) where
  -- the configuration that a part reaches: the one after the first `count` steps of its run
  abbrev pub part_end : RunPart R P → Configuration R P
  part_end part = replayed (is part.run.entry.register) part.run.entry (take part.count part.run.steps)

  -- the events that a part records: those of the first `count` steps of its run
  abbrev pub part_events : RunPart R P → List StepEvents
  part_events part = history (is part.run.entry.register) part.run.entry (take part.count part.run.steps)

  -- the configuration that the last of these parts of runs reaches; c if there are no parts
  abbrev pub parts_end : Configuration R P → List (RunPart R P) → Configuration R P
  parts_end c [] = c
  parts_end c (part ∷ parts) = parts_end (part_end part) parts

  -- the events that these parts of runs record, part by part
  abbrev pub parts_events : List (RunPart R P) → List StepEvents
  parts_events [] = []
  parts_events (part ∷ parts) = part_events part ++ parts_events parts

-- two configurations are alike: their registers behave alike, and their cells, words, pending
-- operations and stopped marks are equal
pub record IsAlike {R P : Type 0} (is : R → Behaviour P) (c d : Configuration R P) : Type 0 where
  pub behaves_alike : is c.register ≡ is d.register
  pub all_else : without_register c ≡ without_register d

-- These parts of runs are the result of settling the first `place` steps of a branch. The branch
-- has the steps `steps`, and `len` is the number of all of them. Take the configuration that the
-- last part reaches, or the initial configuration `start` if there are no parts. Its register
-- behaves like that of `start`. In all else it equals the configuration that the first `place`
-- steps reach from the initial value, `value`. The parts record the events of these first steps.
pub record IsSpotOf {R P : Type 0} (is : R → Behaviour P) (start : Configuration R P) (value : ℕ) (steps : List Step) (place len : ℕ) (parts : List (RunPart R P)) : Type 0 where
  pub counted : len ≡ length steps
  pub behaves_alike : is (parts_end is start parts).register ≡ is start.register
  pub reaches : without_register (parts_end is start parts) ≡ configuration_after (is start.register) value (take place steps)
  pub records : parts_events is parts ≡ history (is start.register) (first_configuration (is start.register) value) (take place steps)
