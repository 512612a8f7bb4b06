-- The invariant of a crew's deque: each job that was dealt is in the deque, or was taken once. A
-- hand is what the caller's end of the deque, or a thief's pass (its right to steal), knows of the
-- deque. Ownership of the deque has 8 parts, which are divided among the hands.
use Rattle.std.specs.Prelude.{◌≡◌, ℕ, zero, suc, ◌+◌, ◌<◌, ◌==◌, if◌then◌else◌, ◌≤◌, List, [], ◌∷◌, ◌++◌, length, map, All, Some}
use Rattle.std.specs.List.{slice_get}
use mathlib.Core.Option.{some}
use lib.ListN.{get_elem?}
use Rattle.workers.specs.declared.hand.Hand.{Hand}
use Rattle.workers.specs.declared.hand.Numbered.{Numbered}

-- the sum of the weights h x over the numbers x in a list
abbrev pub weigh : (ℕ → ℕ) → List ℕ → ℕ
weigh h [] = 0
weigh h (x ∷ xs) = h x + weigh h xs

-- the sum of the weights h x over the numbers x below n
abbrev pub weigh_below : (ℕ → ℕ) → ℕ → ℕ
weigh_below h zero = 0
weigh_below h (suc n) = weigh_below h n + h n

-- the weight that is 1 for x, and 0 for any other number; with it, the sum over a list is how often
-- x is in the list
abbrev pub one_at : ℕ → ℕ → ℕ
one_at x y = if y == x then 1 else 0

module _ {J : Type 0} where
  -- a hand with this many parts, which knows that the jobs `jobs` were dealt, and has taken those
  -- with the numbers `taken`
  abbrev pub hand : ℕ → List J → List ℕ → Hand J
  hand parts jobs taken = record { parts = parts; jobs = jobs; taken = taken }

  -- the sum of f v over all hands v
  abbrev pub total : (Hand J → ℕ) → List (Hand J) → ℕ
  total f [] = 0
  total f (v ∷ vs) = f v + total f vs

  -- the numbers of numbered jobs
  abbrev pub numbers : List (Numbered J) → List ℕ
  numbers items = map (λ item. item.index) items

  -- this is the job with this number in the list
  abbrev pub IsJobAt : List J → ℕ → J → Type 0
  IsJobAt jobs number job = slice_get jobs number ≡ Some job

  -- a hand with at least one part knows that `jobs` were dealt, and a hand with no part has taken
  -- no job
  pub record KnowsJobs (jobs : List J) (v : Hand J) : Type 0 where
    pub dealt : 0 < v.parts → v.jobs ≡ jobs
    pub idle : v.parts ≡ 0 → v.taken ≡ []

  -- The jobs that were dealt are `jobs`, in order, and have the numbers from 0 on. Each of these
  -- numbers either is in the deque, once, or was taken by one hand, once; no other number is in the
  -- deque or was taken. That is: for any weights, the weights of the numbers taken by the hands,
  -- plus the weights of the numbers of `items`, which are in the deque, have the same sum as the
  -- weights of the numbers of all jobs. Each item is the job with its number. The hands have 8
  -- parts in all, which is more than the caller and its 4 thieves need. `KnowsJobs` holds of `jobs`
  -- and each hand.
  pub record IsDealt (items : List (Numbered J)) (hands : List (Hand J)) : Type 0 where
    pub jobs : List J
    pub whole : total (λ v. v.parts) hands ≡ 8
    pub once : (h : ℕ → ℕ) → total (λ v. weigh h v.taken) hands + weigh h (numbers items) ≡ weigh_below h (length jobs)
    pub each : All (λ item. IsJobAt jobs item.index item.job) items
    pub knows : (port : ℕ) (v : Hand J) → get_elem? hands port ≡ some v → KnowsJobs jobs v

  -- The hand v takes the jobs `items`, and is then w. In all, w has taken at most as many jobs as
  -- were dealt.
  pub record HasTaken (v : Hand J) (items : List (Numbered J)) (w : Hand J) : Type 0 where
    pub hand_is : w ≡ hand v.parts v.jobs (v.taken ++ numbers items)
    pub each : All (λ item. IsJobAt v.jobs item.index item.job) items
    pub within : length w.taken ≤ length v.jobs

  -- if a hand has all 8 parts, it has taken, exactly once, the number of each job that was dealt
  abbrev pub HasAllJobs : Hand J → Type 0
  HasAllJobs v = v.parts ≡ 8 → (h : ℕ → ℕ) → weigh h v.taken ≡ weigh_below h (length v.jobs)
