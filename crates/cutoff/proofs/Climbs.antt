-- Stored runs that lead to a configuration, climbed from below.
use Rattle.std.proofs.Common.{◌≡◌, ℕ, ◌+◌, ◌<◌, ◌≤◌, arith, length, Bool, true, false, List, [], ◌∷◌, ◌++◌, Option, Some, None, slice_get, inl, inr, refl, sym, ap, subst, ◌∙◌}
use Rattle.std.specs.Prelude.{⊤}
use Rattle.std.specs.Cmp.{IsPartialEquivalence}
use Rattle.std.specs.Option.{IfSome}
use Rattle.frames.specs.declared.types.Step.{Step}
use Rattle.frames.specs.Behaviour.{Behaviour}
use Rattle.frames.specs.Configuration.{Configuration, replayed}
use Rattle.frames.specs.Equality.{SameConfiguration}
use Rattle.frames.specs.Recorded.{without_register}
use Rattle.frames.specs.laws.WithoutRegister.{register_kept, without_register_same, same_with_register, same_symm, same_trans}
use Rattle.checkpoints.specs.Runs.{SegmentRun, IsTrueRun}
use Rattle.std.proofs.lemmas.List.{length-append}
use Rattle.schedule_trie.specs.Trie.{TrieOf, segment_at, note_of, keys_in, has, Once, IsCut}
use Rattle.schedule_trie.specs.Climbs.{keys_up_to, keys_to, HasClimbedTo}
use Rattle.schedule_trie.proofs.climbs.Climbs.{IsStepUp, step_up}
use Rattle.schedule_trie.proofs.lists.NoRepeats.{once_before}
use Rattle.schedule_trie.proofs.lists.KeyPositions.{parting}
use Rattle.cutoff.specs.Fitting.{StoredRun, steps_at}
use Rattle.cutoff.specs.Links.{run_number, IsExitOf, IsStored, IsLinked}
use Rattle.cutoff.specs.Plans.{FitsDownTo, FitsDown}
use Rattle.cutoff.specs.Prefixes.{note_if_any, IsAbove}
use Rattle.cutoff.proofs.Fits.{stored-from_stored_in, exit_same, run_fits_from_fits, no_note_no_fit}
use Rattle.cutoff.proofs.Keys.{lacks_cons, path_once}

-- a run with the steps of the segment `key` fits it just if the runs above lead to the run's entry
module _ {R P : Type 0} (E : R → R → Bool) (b : Behaviour P) (trie : TrieOf (StoredRun R P)) (key : ℕ) (run : SegmentRun R P) where
  pub down_parts : (c : Configuration R P) (front back : List ℕ) → has key front ≡ false → FitsDown E b trie key run c (front ++ key ∷ back)
      → (run.steps ≡ steps_at trie key) × FitsDownTo E b trie c front run.entry
  down_parts c [] back lacks (inl f) = (f.1.steps, f.1.entry)
  down_parts c [] back lacks (inr f) = absurd (f.0 refl)
  down_parts c (k ∷ front) back lacks (inl f) = absurd ((lacks_cons key k front lacks).0 f.0)
  down_parts c (k ∷ front) back lacks (inr f) =
      let rest = down_parts (replayed b c (steps_at trie k)) front back (lacks_cons key k front lacks).1 f.2 in
      (rest.0, (f.1, rest.1))

  pub down_whole : (c : Configuration R P) (front back : List ℕ) → has key front ≡ false → run.steps ≡ steps_at trie key → FitsDownTo E b trie c front run.entry
      → FitsDown E b trie key run c (front ++ key ∷ back)
  down_whole c [] back lacks steps down = inl (refl, record { steps = steps; entry = down })
  down_whole c (k ∷ front) back lacks steps down =
      inr ((lacks_cons key k front lacks).0, down.0, down_whole (replayed b c (steps_at trie k)) front back (lacks_cons key k front lacks).1 steps down.1)

-- if no run is stored at the last of these keys, stored runs don't fit all of them
down_missing : {R P : Type 0} (E : R → R → Bool) (b : Behaviour P) (trie : TrieOf (StoredRun R P)) (k : ℕ) (entry c : Configuration R P) (front : List ℕ)
    → note_of (segment_at trie.segments k) ≡ None → FitsDownTo E b trie c (front ++ k ∷ []) entry → ⊥
down_missing E b trie k entry c [] none d = no_note_no_fit E trie c k none d.0
down_missing E b trie k entry c (j ∷ front) none d = down_missing E b trie k entry (replayed b c (steps_at trie j)) front none d.1

pub climb_missing : {R P : Type 0} (E : R → R → Bool) (b : Behaviour P) (trie : TrieOf (StoredRun R P)) (k : ℕ) (entry c : Configuration R P) (keys : List ℕ) (at : Option ℕ)
    → at ≡ Some k → HasClimbedTo keys at → note_of (segment_at trie.segments k) ≡ None → FitsDownTo E b trie c (keys_to keys at) entry → ⊥
climb_missing E b trie k entry c keys at here there none d =
    let p = parting keys k (subst (HasClimbedTo keys) here there) in
    down_missing E b trie k entry c p.front none
    (subst (λ l. FitsDownTo E b trie c l entry) p.to (subst (λ o. FitsDownTo E b trie c (keys_to keys o) entry) here d))

-- if runs down to k lead to `entry`, the run s at k ends there, and those above lead to s's entry
module _ {R P : Type 0} (E : R → R → Bool) (per : IsPartialEquivalence E) (is : R → Behaviour P) (alike : (x y : R) → E x y ≡ true → is x ≡ is y) (b : Behaviour P)
    (trie : TrieOf (StoredRun R P)) (k : ℕ) (s : StoredRun R P) (noted : note_of (segment_at trie.segments k) ≡ Some s) (true_run : IsTrueRun (is s.run.entry.register) s.run)
    (entry : Configuration R P) where
  pub down_before : (c : Configuration R P) (front : List ℕ) → is c.register ≡ b → FitsDownTo E b trie c (front ++ k ∷ []) entry
      → SameConfiguration E entry s.run.exit × FitsDownTo E b trie c front s.run.entry
  down_before c [] home d =
      let fits = run_fits_from_fits E trie c k s noted d.0 in
      let exit = exit_same E is alike b c (steps_at trie k) s.run home true_run fits in
      (same_trans E per entry (replayed b c (steps_at trie k)) s.run.exit d.1 (same_symm E per s.run.exit (replayed b c (steps_at trie k)) exit), fits.entry)
  down_before c (j ∷ front) home d =
      let rest = down_before (replayed b c (steps_at trie j)) front (ap is (register_kept b c (steps_at trie j)) ∙ home) d.1 in
      (rest.0, (d.0, rest.1))

-- a configuration that `exits` has at a run's number equals that run's exit
module _ {R P : Type 0} (E : R → R → Bool) (per : IsPartialEquivalence E) (b : Behaviour P) (s : StoredRun R P) (entry : Configuration R P) where
  pub link_same : (h : R) (exits : List (Configuration ⊤ P)) (segment : List Step) → IsStored E h exits segment s → (a : ℕ) → s.id ≡ Some a
      → slice_get exits a ≡ Some (without_register entry) → E entry.register h ≡ true → (without_register entry ≡ without_register s.run.exit) × (E entry.register s.run.entry.register ≡ true)
  link_same h exits segment links a numbered there own =
      let here : slice_get exits a ≡ Some (without_register s.run.exit) = subst (λ o. IsExitOf exits o (without_register s.run.exit)) numbered links.id in
      let home : E h s.run.entry.register ≡ true = per.symm h s.run.entry.register ∙ links.own in
      (cc, per.trans entry.register h s.run.entry.register own home)

  pub ends_same : IsTrueRun b s.run → (without_register entry ≡ without_register s.run.exit) → E entry.register s.run.entry.register ≡ true → SameConfiguration E entry s.run.exit
  ends_same true_run same own =
      let kept : s.run.exit.register ≡ s.run.entry.register = ap (λ c. c.register) true_run.exit ∙ register_kept b s.run.entry s.run.steps in
      same_with_register E entry s.run.exit (subst (λ r. E entry.register r ≡ true) (sym kept) own) same

-- a stored run with the link a begins at the exit of the run with the number a
pub linked_entry : {R P : Type 0} (E : R → R → Bool) (h : R) (exits : List (Configuration ⊤ P)) (segment : List Step) (s : StoredRun R P) → IsStored E h exits segment s
    → (a : ℕ) → s.link ≡ Some a → (slice_get exits a ≡ Some (without_register s.run.entry)) × (E s.run.entry.register h ≡ true)
linked_entry E h exits segment s links a linked = (subst (λ o. IsExitOf exits o (without_register s.run.entry)) linked links.link, links.own)

-- one step up in a climb: if runs down to the segment k lead to `entry`, the run at k ends there,
-- and those above lead to the entry of the run at k
module _ {R P : Type 0} (E : R → R → Bool) (per : IsPartialEquivalence E) (is : R → Behaviour P) (alike : (x y : R) → E x y ≡ true → is x ≡ is y)
    (trie : TrieOf (StoredRun R P)) (start entry : Configuration R P) (keys : List ℕ) (k : ℕ) (s : StoredRun R P) (noted : note_of (segment_at trie.segments k) ≡ Some s)
    (true_run : IsTrueRun (is s.run.entry.register) s.run) where
  abbrev b : Behaviour P
  b = is start.register

  pub climb_ends : has k keys ≡ true → FitsDownTo E b trie start (keys_up_to k keys) entry → SameConfiguration E entry s.run.exit
  climb_ends h d =
      let p = parting keys k h in
      (down_before E per is alike b trie k s noted true_run entry start p.front refl (subst (λ l. FitsDownTo E b trie start l entry) p.to d)).0

  module _ (above : Option ℕ) (step : IsStepUp keys k above) where
    pub climb_above : FitsDownTo E b trie start (keys_up_to k keys) entry → FitsDownTo E b trie start (keys_to keys above) s.run.entry
    climb_above d =
        (down_before E per is alike b trie k s noted true_run entry start (keys_to keys above) refl (subst (λ l. FitsDownTo E b trie start l entry) step.is d)).1

-- the keys down to one of a branch's keys are at most as many as all its keys
pub keys_to_few : (keys : List ℕ) (last : Option ℕ) → HasClimbedTo keys last → length (keys_to keys last) ≤ length keys
keys_to_few keys None h = omega arith
keys_to_few keys (Some k) h =
    let p = parting keys k h in
    let to : length (keys_up_to k keys) ≡ length p.front + 1 = ap length p.to ∙ length-append p.front (k ∷ []) in
    let all : length keys ≡ length p.front + length (k ∷ p.back) = ap length p.is ∙ length-append p.front (k ∷ p.back) in
    omega (arith, to, all)

-- the keys down to a key of the branch are at least one
pub keys_up_to_some : (keys : List ℕ) (k : ℕ) → has k keys ≡ true → 0 < length (keys_up_to k keys)
keys_up_to_some keys k h =
    let p = parting keys k h in
    let to : length (keys_up_to k keys) ≡ length p.front + 1 = ap length p.to ∙ length-append p.front (k ∷ []) in
    omega (arith, to)

-- a climb that has passed all keys is above the first
past_first : (keys : List ℕ) (at : Option ℕ) (counter all : ℕ) → HasClimbedTo keys at → counter + length (keys_to keys at) ≤ all → all ≤ counter → at ≡ None
past_first keys None counter all h short past = refl
past_first keys (Some k) counter all h short past = let some = keys_up_to_some keys k h in absurd (omega (arith, some))

-- a climb that has made as many steps as the branch has keys, or more, is above the first
pub past_all : (keys : List ℕ) (last at : Option ℕ) (counter end : ℕ) → HasClimbedTo keys last → length keys ≤ end → HasClimbedTo keys at → counter + length (keys_to keys at) ≤ length (keys_to keys last)
    → end ≤ counter → at ≡ None
past_all keys last at counter end there made reached short past =
    let few = keys_to_few keys last there in
    past_first keys at counter (length (keys_to keys last)) reached short (omega (arith, few, made, past))

-- one step up leaves one key less
pub step_up_shorter : (keys : List ℕ) (k : ℕ) (above : Option ℕ) → IsStepUp keys k above → length (keys_up_to k keys) ≡ length (keys_to keys above) + 1
step_up_shorter keys k above step = ap length step.is ∙ length-append (keys_to keys above) (k ∷ [])

-- `above` is the key right above `key`: what runs down to `above` say of a run at `key`
module _ {R P : Type 0} (E : R → R → Bool) (per : IsPartialEquivalence E) (is : R → Behaviour P) (alike : (x y : R) → E x y ≡ true → is x ≡ is y)
    (trie : TrieOf (StoredRun R P)) (whole : IsCut trie) (start : Configuration R P) (key : ℕ) (above : Option ℕ)
    (each : IsAbove trie key above) where
  pub above_step : (i : ℕ) → has key (keys_in trie.branches i) ≡ true → IsStepUp (keys_in trie.branches i) key above
  above_step i h = step_up (keys_in trie.branches i) key above (path_once trie whole i) h (λ front back e. each i front back e)

  lacks_above : (i : ℕ) (step : IsStepUp (keys_in trie.branches i) key above) → has key (keys_to (keys_in trie.branches i) above) ≡ false
  lacks_above i step = once_before (keys_to (keys_in trie.branches i) above) key step.back (subst Once step.parts (path_once trie whole i))

  pub fits_whole : (run : SegmentRun R P) (i : ℕ) → has key (keys_in trie.branches i) ≡ true → run.steps ≡ steps_at trie key
      → FitsDownTo E (is start.register) trie start (keys_to (keys_in trie.branches i) above) run.entry
      → FitsDown E (is start.register) trie key run start (keys_in trie.branches i)
  fits_whole run i h steps down =
      let step = above_step i h in
      subst (FitsDown E (is start.register) trie key run start) (sym step.parts)
      (down_whole E (is start.register) trie key run start (keys_to (keys_in trie.branches i) above) step.back (lacks_above i step) steps down)

  pub fits_parts : (run : SegmentRun R P) (i : ℕ) → has key (keys_in trie.branches i) ≡ true → FitsDown E (is start.register) trie key run start (keys_in trie.branches i)
      → (run.steps ≡ steps_at trie key) × FitsDownTo E (is start.register) trie start (keys_to (keys_in trie.branches i) above) run.entry
  fits_parts run i h fits =
      let step = above_step i h in
      down_parts E (is start.register) trie key run start (keys_to (keys_in trie.branches i) above) step.back (lacks_above i step)
      (subst (FitsDown E (is start.register) trie key run start) step.parts fits)

-- the run stored at `above` ends at `entry`, so that run's number is that of a run with this exit
pub number_linked : {R P : Type 0} (E : R → R → Bool) (per : IsPartialEquivalence E) (is : R → Behaviour P) (alike : (x y : R) → E x y ≡ true → is x ≡ is y)
    (trie : TrieOf (StoredRun R P)) (start entry : Configuration R P) (keys : List ℕ) (above : Option ℕ) (next : ℕ) (o : Option (StoredRun R P)) → HasClimbedTo keys above
    → note_if_any trie above ≡ o → IfSome o (λ s. IsTrueRun (is s.run.entry.register) s.run)
    → FitsDownTo E (is start.register) trie start (keys_to keys above) entry → IsLinked E start.register next None (without_register start) trie
    → IsLinked E start.register next (run_number o) (without_register entry) trie
number_linked E per is alike trie start entry keys above next None h e true_run d l = record { exits = l.exits; as_many = l.as_many; each = l.each; reached_exit = tt }
number_linked E per is alike trie start entry keys None next (Some s) h e true_run d l = cc
number_linked E per is alike trie start entry keys (Some k) next (Some s) h e true_run d l =
    let same = climb_ends E per is alike trie start entry keys k s e true_run h d in
    record {
      exits = l.exits;
      as_many = l.as_many;
      each = l.each;
      reached_exit = subst (IsExitOf l.exits s.id) (sym (without_register_same E entry s.run.exit same)) (stored-from_stored_in E start.register l.exits trie k s (l.each k) e).id;
    }
