-- What a plan finds at segments: whether stored runs fit down to them.
use Rattle.std.specs.Prelude.{ℕ, ◌≡◌, ◌⊎◌, Bool, true, false, List, [], ◌∷◌, ◌++◌, Option, Some, None, map, slice_index_or}
use Rattle.frames.specs.Behaviour.{Behaviour}
use Rattle.frames.specs.Configuration.{Configuration}
use Rattle.schedule_trie.specs.Trie.{TrieOf, keys_in, has}
use Rattle.schedule_trie.specs.Climbs.{keys_to, HasClimbedTo}
use Rattle.cutoff.specs.Fitting.{StoredRun, Fits, steps_at}
use Rattle.cutoff.specs.Plans.{Planned, Descends, job_of, key_of, with_job}
use Rattle.cutoff.specs.Prefixes.{HasTrueRun, RunsTo, IsAbove}

-- what a plan has found at a key: whether stored runs fit down to it; `None` if it hasn't visited
-- the key
abbrev pub found_fit_at : List (Option Bool) → ℕ → Option Bool
found_fit_at seen k = slice_index_or seen k None

-- `fits` is a plan's answer to whether stored runs fit down to a key; if there is no key, `fits` is
-- true; otherwise `fits` is true and the key is one of the marked ones, or `fits` is what a visit
-- of the key found
abbrev pub IsKnownAt : (ℕ → Type 0) → List (Option Bool) → Option ℕ → Bool → Type 0
IsKnownAt Marked seen None fits = fits ≡ true
IsKnownAt Marked seen (Some k) fits = (Marked k × (fits ≡ true)) ⊎ (found_fit_at seen k ≡ Some fits)

-- `left` are the last keys of a branch, none of which the plan has visited; `fits` is the plan's
-- answer to whether stored runs fit down to the key right above them (true if there is no such key)
pub record IsUnseenPart (Marked : ℕ → Type 0) (seen : List (Option Bool)) (keys : List ℕ) (fits : Bool) (left : List ℕ) : Type 0 where
  pub above : Option ℕ
  pub reached : HasClimbedTo keys above
  pub path : keys ≡ keys_to keys above ++ left
  pub lacks : (k : ℕ) → has k left ≡ true → found_fit_at seen k ≡ None
  pub known : IsKnownAt Marked seen above fits

module _ {R P : Type 0} (E : R → R → Bool) (is : R → Behaviour P) (trie : TrieOf (StoredRun R P)) where
  -- the answer to whether a run that fits is stored in the segment k, which begins at c: if true,
  -- there is such a run, and the jobs stay; if false, there is none, and k's job is added
  abbrev pub FitsOrAddsJob : Configuration R P → ℕ → Bool → List (Planned R P) → List (Planned R P) → Type 0
  FitsOrAddsJob c k true old new = HasTrueRun E is trie c k × (new ≡ old)
  FitsOrAddsJob c k false old new = (Fits E trie c k → ⊥) × (new ≡ old ++ record { key = k; entry = c; steps = steps_at trie k } ∷ [])

  module _ (start : Configuration R P) where
    -- one of these segments is the first that no stored run fits; `jobs` are `old`, with that
    -- segment's job added if the segment had none
    abbrev pub AddsMissed : List (Planned R P) → List (Planned R P) → List ℕ → Type 0
    AddsMissed old jobs keys =
        (m : ℕ) × (end : Configuration R P) × Descends E (is start.register) trie start keys (Some m) end × (has m (map key_of jobs) ≡ true)
        × (jobs ≡ with_job old (job_of trie (Some m) end))

    -- A walk down each branch with the key `last` has reached this key, and has found whether
    -- stored runs fit down to it. If true, they do, and no job was added. If false, they don't, and
    -- the job of the first segment that no stored run fits was added if that segment had none.
    abbrev pub HasDescended : List (Planned R P) → List (Planned R P) → Option ℕ → Bool → Type 0
    HasDescended old jobs last true = ((i : ℕ) → HasClimbedTo (keys_in trie.branches i) last → RunsTo E is trie start last (keys_in trie.branches i)) × (jobs ≡ old)
    HasDescended old jobs last false = (i : ℕ) → HasClimbedTo (keys_in trie.branches i) last → AddsMissed old jobs (keys_to (keys_in trie.branches i) last)

    -- what a plan has found at the key k is right: if it is true, stored runs fit down to k; if it
    -- is false, they don't, and the first segment that no stored run fits has a job; if it is
    -- `None`, k has no job
    abbrev pub IsRightAt : List (Planned R P) → ℕ → Option Bool → Type 0
    IsRightAt jobs k None = has k (map key_of jobs) ≡ false
    IsRightAt jobs k (Some true) = HasDescended jobs jobs (Some k) true
    IsRightAt jobs k (Some false) = HasDescended jobs jobs (Some k) false

    -- what a plan has found at each key is right
    abbrev pub AreSeen : List (Option Bool) → List (Planned R P) → Type 0
    AreSeen seen jobs = (k : ℕ) → IsRightAt jobs k (found_fit_at seen k)

    -- A walk has reached the key right above `key` (`None` if there is none). If `fits` is true,
    -- stored runs fit down to that upper key, and no job was added. If `fits` is false, they don't,
    -- and the job of the first segment that no stored run fits was added if that segment had none.
    abbrev pub HasDescendedAbove : List (Planned R P) → List (Planned R P) → ℕ → Bool → Type 0
    HasDescendedAbove old jobs key fits = (above : Option ℕ) → IsAbove trie key above → HasDescended old jobs above fits
