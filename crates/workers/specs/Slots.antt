-- Outcomes while a crew is at work. The caller has a slot for each job; each thief has a list of
-- the outcomes of the jobs that it ran.
use Rattle.std.specs.Prelude.{◌≡◌, ℕ, zero, suc, ◌<◌, List, [], ◌∷◌, All, map, slice_set, Option, Some, None}
use Rattle.workers.specs.declared.thief.Taken.{Taken}
use Rattle.workers.specs.declared.hand.Hand.{Hand}
use Rattle.workers.specs.Hands.{weigh, one_at}

-- these slots after each of a thief's outcomes is put into its job's slot
abbrev pub with_all : {D : Type 0} → List (Option D) → List (Taken D) → List (Option D)
with_all slots [] = slots
with_all slots (t ∷ ts) = with_all (slice_set slots t.index (Some t.done)) ts

-- `ends job done` says that `done` is a possible outcome of `job`
module _ {J D : Type 0} (ends : J → D → Type 0) where
  -- there is a job with this number in the list, and `done` is an outcome of that job
  abbrev pub IsOutcomeAt : List J → ℕ → D → Type 0
  IsOutcomeAt [] number done = ⊥
  IsOutcomeAt (job ∷ jobs) zero done = ends job done
  IsOutcomeAt (job ∷ jobs) (suc number) done = IsOutcomeAt jobs number done

  -- the slot of the job with this number has an outcome of that job; or it is empty, and the number
  -- isn't in `taken`
  abbrev pub IsSlot : ℕ → List ℕ → J → Option D → Type 0
  IsSlot number taken job None = weigh (one_at number) taken ≡ 0
  IsSlot number taken job (Some done) = ends job done

  -- there is one slot for each of these jobs, in the order of the jobs, and `IsSlot` holds of each
  -- slot; the first job has the number `number`, and the others have the numbers after it, in order
  abbrev pub AreSlots : ℕ → List ℕ → List J → List (Option D) → Type 0
  AreSlots number taken [] [] = Unit {0}
  AreSlots number taken (job ∷ jobs) (slot ∷ slots) = IsSlot number taken job slot × AreSlots (suc number) taken jobs slots
  AreSlots number taken _ _ = ⊥

  -- there is one slot for each of these jobs, and it has an outcome of its job
  abbrev pub AreFull : List J → List (Option D) → Type 0
  AreFull [] [] = Unit {0}
  AreFull (job ∷ jobs) (Some done ∷ slots) = ends job done × AreFull jobs slots
  AreFull _ _ = ⊥

  -- The caller's hand (what it owns and knows of the deque) has at least one part of the deque's
  -- ownership, and knows the jobs. There is a slot for each job, and it has an outcome if the hand
  -- has taken the job.
  pub record IsAtWork (jobs : List J) (v : Hand J) (slots : List (Option D)) : Type 0 where
    pub part : 0 < v.parts
    pub known : v.jobs ≡ jobs
    pub slotted : AreSlots 0 v.taken jobs slots

  -- A thief's hand (what it knows of the deque) has one part and knows the jobs. `ran` has an
  -- outcome of each job that the hand has taken, in the order in which they were taken.
  pub record HasRunItsJobs (jobs : List J) (v : Hand J) (ran : List (Taken D)) : Type 0 where
    pub part : v.parts ≡ 1
    pub known : v.jobs ≡ jobs
    pub taken : map (λ t. t.index) ran ≡ v.taken
    pub outcomes : All (λ t. IsOutcomeAt jobs t.index t.done) ran
