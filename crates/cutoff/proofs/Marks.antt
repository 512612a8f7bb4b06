-- The mark after a fork of a whole branch, which keeps each segment.
use Rattle.std.proofs.Common.{◌≡◌, ◌⊎◌, ℕ, Bool, true, List, [], ◌∷◌, ◌++◌, map, length, Option, None, Some, Result, Ok, Err, OnOk, IfErr, inl, inr, refl, sym, ap, subst, ◌∙◌}
use Rattle.std.specs.Option.{option_map}
use Rattle.frames.specs.Behaviour.{Behaviour}
use Rattle.frames.specs.Configuration.{Configuration}
use Rattle.schedule_trie.specs.declared.refusal.Refusal.{Refusal}
use Rattle.schedule_trie.specs.Forest.{index_of, len_of, slots_in, step_of}
use Rattle.schedule_trie.specs.Trie.{TrieOf, KeyedBranch, segment_at, slots_of, note_of, keys_in, has, forest}
use Rattle.schedule_trie.specs.Climbs.{keys_to}
use Rattle.schedule_trie.specs.Edits.{Fork, IsEdited, IsUnedited}
use Rattle.schedule_trie.specs.changes.Forks.{IsForkedWhole, CutsNoneAtEnd}
use Rattle.cutoff.specs.Fitting.{StoredRun, RunFits, bare_run, steps_at}
use Rattle.cutoff.specs.Prefixes.{HasTrueRun, RunsDown, RunsTo, RunsToOnAll, exit_or_start, exit_or}
use Rattle.cutoff.specs.Charts.{Charted, IsCharted}
use Rattle.cutoff.proofs.Edited.{charted_edited}
use Rattle.cutoff.proofs.Prefixes.{down_after}
use Rattle.schedule_trie.proofs.branches.KeyedBranches.{keys_in-last}
use Rattle.cutoff.proofs.SameBranches.{charted_marked}

module _ {R P : Type 0} (E : R → R → Bool) (is : R → Behaviour P) (old new : TrieOf (StoredRun R P)) (same : new.segments ≡ old.segments) where
  steps_same : (k : ℕ) → steps_at old k ≡ steps_at new k
  steps_same k = ap (λ ps. map step_of (slots_of (segment_at ps k))) (sym same)

  true_same : (c : Configuration R P) (k : ℕ) → HasTrueRun E is old c k → HasTrueRun E is new c k
  true_same c k h = record {
    stored = h.stored;
    noted = subst (λ ps. note_of (segment_at ps k) ≡ Some h.stored) (sym same) h.noted;
    true_run = h.true_run;
    fits = subst (λ s. RunFits E c s h.stored.run) (steps_same k) h.fits;
  }

  runs_to_kept : (start : Configuration R P) (k : ℕ) (keys : List ℕ) → RunsTo E is old start (Some k) keys → RunsTo E is new start (Some k) keys
  runs_to_kept start k keys d =
      subst (RunsDown E is new (is start.register) start (keys_to keys (Some k))) (ap (λ ps. exit_or start (option_map bare_run (note_of (segment_at ps k)))) (sym same))
      (down_after E is old new steps_same true_same (is start.register) start (keys_to keys (Some k)) (exit_or_start old start (Some k)) d)

-- the marked segment can stay marked after a fork of a whole branch
module _ {R P : Type 0} (E : R → R → Bool) (is : R → Behaviour P) (old new : TrieOf (StoredRun R P)) (start : Configuration R P) (index : ℕ) (name : List ℕ) (forked : IsForkedWhole old new index name) where
  runs_to_forked : (k i j : ℕ) → RunsToOnAll E is old start (Some k) → has k (keys_in new.branches i) ≡ true → keys_in new.branches i ≡ keys_in old.branches j → RunsTo E is new start (Some k) (keys_in new.branches i)
  runs_to_forked k i j marked h e =
      subst (RunsTo E is new start (Some k)) (sym e) (runs_to_kept E is old new forked.segments start k (keys_in old.branches j) (marked j (subst (λ keys. has k keys ≡ true) e h)))

  abbrev new_branch : KeyedBranch
  new_branch = record { name = name; keys = keys_in old.branches index }

  runs_to_either : (k i : ℕ) → RunsToOnAll E is old start (Some k) → has k (keys_in new.branches i) ≡ true
      → (keys_in (old.branches ++ new_branch ∷ []) i ≡ keys_in old.branches i) ⊎ (keys_in (old.branches ++ new_branch ∷ []) i ≡ keys_in old.branches index)
      → RunsTo E is new start (Some k) (keys_in new.branches i)
  runs_to_either k i marked h (inl e) = runs_to_forked k i i marked h (ap (λ ss. keys_in ss i) forked.branches ∙ e)
  runs_to_either k i marked h (inr e) = runs_to_forked k i index marked h (ap (λ ss. keys_in ss i) forked.branches ∙ e)

  pub marked_whole : (mark : Option ℕ) → RunsToOnAll E is old start mark → RunsToOnAll E is new start mark
  marked_whole None marked = tt
  marked_whole (Some k) marked = λ i h. runs_to_either k i marked h (keys_in-last old.branches new_branch i)

-- if the named branch has a length, there is such a branch, and this is how many cells it has
len_found : {T : Type 0} (trie : TrieOf T) (name : List ℕ) (place : ℕ) → len_of (forest trie) name ≡ Some place
    → (index : ℕ) × ((index_of (forest trie).branches name ≡ Some index) × (place ≡ length (slots_in (forest trie).branches index)))
len_found trie name place e = by (index_of (forest trie).branches name) refl e
  where
    by : (o : Option ℕ) → index_of (forest trie).branches name ≡ o → option_map (λ i. length (slots_in (forest trie).branches i)) o ≡ Some place
        → (index : ℕ) × ((index_of (forest trie).branches name ≡ Some index) × (place ≡ length (slots_in (forest trie).branches index)))
    by None at e = cc
    by (Some i) at e = let long : length (slots_in (forest trie).branches i) ≡ place = cc in (i, (at, sym long))

-- the invariant of a chart after a fork; the mark stays too, if the fork is of all cells
pub charted_forked : {R P Y : Type 0} (E : R → R → Bool) (is : R → Behaviour P) (next : ℕ) (fresh mark after : Option ℕ) (c : Charted R P) (new : TrieOf (StoredRun R P)) (source : List ℕ) (place : ℕ) (name : List ℕ) (result : Result Y Refusal)
    → IsCharted E is next fresh mark c → (after ≡ None) ⊎ ((after ≡ mark) × (len_of (forest c.trie) source ≡ Some place))
    → OnOk result (IsEdited c.trie new (Fork source place name)) → OnOk result (CutsNoneAtEnd c.trie new source place name) → IfErr result (IsUnedited c.trie new (Fork source place name))
    → IsCharted E is next None after (record { trie = new; start = c.start; value = c.value })
charted_forked {R} {P} {Y} E is next fresh mark after c new source place name result was (inl none) ok end err =
    subst (λ m. IsCharted E is next None m (record { trie = new; start = c.start; value = c.value })) (sym none)
    (charted_edited E is next fresh mark c new (Fork source place name) result was refl ok err)
charted_forked {R} {P} {Y} E is next fresh mark after c new source place name (Ok y) was (inr whole) ok end err =
    let found = len_found c.trie source place whole.1 in
    charted_marked E is next None None None after (record { trie = new; start = c.start; value = c.value }) tt
    (subst (RunsToOnAll E is new c.start) (sym whole.0) (marked_whole E is c.trie new c.start found.0 name (end found.0 found.1.0 found.1.1) mark was.marked))
    (charted_edited E is next fresh mark c new (Fork source place name) (Ok y) was refl ok err)
charted_forked {R} {P} {Y} E is next fresh mark after c new source place name (Err e) was (inr whole) ok end err =
    subst (λ d. IsCharted E is next None after (record { trie = d; start = c.start; value = c.value })) (sym err.unchanged)
    (charted_marked E is next fresh mark None after c tt (subst (RunsToOnAll E is c.trie c.start) (sym whole.0) was.marked) was)
