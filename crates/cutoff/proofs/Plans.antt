-- The jobs of branches, one after the other.
use Rattle.std.proofs.Common.{◌≡◌, ℕ, zero, suc, ◌+◌, ◌<◌, ◌≤◌, Bool, List, [], ◌∷◌, length, map, drop, Option, refl, sym, ap, subst, ◌∙◌, arith}
use Rattle.frames.specs.Behaviour.{Behaviour}
use Rattle.frames.specs.Configuration.{Configuration}
use Rattle.schedule_trie.specs.Trie.{TrieOf, KeyedBranch, keys_in}
use Rattle.cutoff.specs.Fitting.{StoredRun}
use Rattle.cutoff.specs.Plans.{Planned, keys_of, Descends, job_of, with_job, Plans}

-- the paths of the branches from i on are that of the branch i, then those of the branches after it
paths_left : (branches : List KeyedBranch) (i : ℕ) → i < length branches → map keys_of (drop i branches) ≡ keys_in branches i ∷ map keys_of (drop (suc i) branches)
paths_left [] i h = absurd (omega arith)
paths_left (s ∷ ss) zero h = refl
paths_left (s ∷ ss) (suc i) h = paths_left ss i (omega arith)

-- no path is left after the last branch
none_left : (branches : List KeyedBranch) (i : ℕ) → length branches ≤ i → map keys_of (drop i branches) ≡ []
none_left [] zero h = refl
none_left [] (suc i) h = refl
none_left (s ∷ ss) zero h = absurd (omega arith)
none_left (s ∷ ss) (suc i) h = none_left ss i (omega arith)

-- one branch adds a job for its first segment that no stored run fits, if it has no job yet
abbrev pub Adds : {R P : Type 0} → (R → R → Bool) → Behaviour P → TrieOf (StoredRun R P) → Configuration R P → List ℕ → List (Planned R P) → List (Planned R P) → Type 0
Adds {R} {P} E b trie c keys old new = (missed : Option ℕ) × (end : Configuration R P) × Descends E b trie c keys missed end × (new ≡ with_job old (job_of trie missed end))

module _ {R P : Type 0} (E : R → R → Bool) (b : Behaviour P) (trie : TrieOf (StoredRun R P)) (c : Configuration R P) where
  pub plan_adds : (old start new all : List (Planned R P)) (keys : List ℕ) (paths : List (List ℕ)) → old ≡ start → Adds E b trie c keys old new → Plans E b trie c new paths all
      → Plans E b trie c start (keys ∷ paths) all
  plan_adds old start new all keys paths first adds p =
      (adds.0, adds.1, adds.2, subst (λ l. Plans E b trie c l paths all) (adds.3 ∙ ap (λ l. with_job l (job_of trie adds.0 adds.1)) first) p)

  pub plan_on : (old new all : List (Planned R P)) (i : ℕ) (keys : List ℕ) → i < length trie.branches → keys ≡ keys_in trie.branches i → Adds E b trie c keys old new
      → Plans E b trie c new (map keys_of (drop (i + 1) trie.branches)) all → Plans E b trie c old (map keys_of (drop i trie.branches)) all
  plan_on old new all i keys h are adds p =
      let step : i + 1 ≡ suc i = omega arith in
      subst (λ l. Plans E b trie c old l all) (sym (paths_left trie.branches i h))
      (subst (λ ks. Plans E b trie c old (ks ∷ map keys_of (drop (suc i) trie.branches)) all) are
      (plan_adds old old new all keys (map keys_of (drop (suc i) trie.branches)) refl adds (subst (λ j. Plans E b trie c new (map keys_of (drop j trie.branches)) all) step p)))

  pub plan_ends : (done : List (Planned R P)) (i : ℕ) → length trie.branches ≤ i → Plans E b trie c done (map keys_of (drop i trie.branches)) done
  plan_ends done i past = subst (λ l. Plans E b trie c done l done) (sym (none_left trie.branches i past)) refl
