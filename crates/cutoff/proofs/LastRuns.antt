-- A settle of a branch's first cells: the place at which they end, its result, and the chart then.
use Rattle.std.proofs.Common.{◌≡◌, ◌⊎◌, ℕ, zero, suc, ◌-◌, ◌+◌, ◌<◌, ◌≤◌, Bool, true, List, [], ◌∷◌, ◌++◌, length, map, Option, Some, None, refl, sym, ap, subst, ◌∙◌, arith}
use Rattle.std.specs.Option.{option_map, option_or}
use Rattle.frames.specs.Behaviour.{Behaviour}
use Rattle.frames.specs.Configuration.{Configuration}
use Rattle.frames.specs.Recorded.{without_register}
use Rattle.schedule_trie.specs.Forest.{index_of}
use Rattle.schedule_trie.specs.Trie.{TrieOf, segment_at, slots_of, line, has, keys_in, forest, SpotIsAt}
use Rattle.schedule_trie.specs.Climbs.{keys_up_to}
use Rattle.schedule_trie.proofs.climbs.Climbs.{up_to-here}
use Rattle.schedule_trie.proofs.lists.NoRepeats.{has-in}
use Rattle.schedule_trie.proofs.lists.KeyPositions.{parting}
use Rattle.cutoff.specs.Fitting.{StoredRun, RunPart, part_of_stored, reached, KeepsRuns}
use Rattle.cutoff.specs.Settles.{Settles, GetsRun, SettlesTo, IsSettledLast, last_part}
use Rattle.cutoff.specs.Links.{IsLinked}
use Rattle.cutoff.specs.Prefixes.{AreFresh, RunsTo, RunsToOnAll, IsPlaceIn, note_if_any}
use Rattle.cutoff.specs.Charts.{Charted, IsCharted, keys_at, keys_named, reached_by}
use Rattle.cutoff.proofs.FreshRuns.{fresh_given}
use Rattle.cutoff.proofs.SameBranches.{charted_kept, charted_marked}
use Rattle.cutoff.proofs.Walks.{reached_none}

-- the last part of a list that ends with p is p
last_of_parts : {R P : Type 0} (before : List (RunPart R P)) (p : RunPart R P) → last_part (before ++ p ∷ []) ≡ Some p
last_of_parts [] p = refl
last_of_parts (q ∷ []) p = refl
last_of_parts (q ∷ r ∷ before) p = last_of_parts (r ∷ before) p

-- the segment in which a settle ended can be marked
pub marked_settled : {R P : Type 0} (E : R → R → Bool) (is : R → Behaviour P) (trie new : TrieOf (StoredRun R P)) (start : Configuration R P) (key count n : ℕ) → 0 < count → count ≤ length (slots_of (segment_at trie.segments key))
    → new.branches ≡ trie.branches → ((i m place : ℕ) → IsPlaceIn trie key m place i → SettlesTo E is trie new start key m place i n) → RunsToOnAll E is new start (Some key)
marked_settled E is trie new start key count n some few same settles i h =
    let there = subst (λ s. has key (keys_in s i) ≡ true) same h in
    let p = parting (keys_in trie.branches i) key there in
    let lies : IsPlaceIn trie key count (length (line (segment_at trie.segments) p.front) + count) i = record {
      there = there;
      ends = record { front = p.front; is = p.to; sum = refl };
      positive = some;
      within = few;
    } in
    subst (λ s. RunsTo E is new start (Some key) (keys_in s i)) (sym same) (settles i count (length (line (segment_at trie.segments) p.front) + count) lies).down

-- a chart after a settle that keeps fresh runs as they were; `id` is the number that a run got
-- next, so runs with this number or a greater one are fresh too
pub charted_settled : {R P : Type 0} (E : R → R → Bool) (is : R → Behaviour P) (next after : ℕ) (fresh mark id other : Option ℕ) (c : Charted R P) (new : TrieOf (StoredRun R P)) (Missed : ℕ → Type 0)
    → KeepsRuns c.trie new Missed → IsLinked E c.start.register after None (without_register c.start) new → (id ≡ None) ⊎ (id ≡ Some next)
    → ((first : Option ℕ) → AreFresh E is c.trie c.start first → AreFresh E is new c.start first) → RunsToOnAll E is new c.start other → IsCharted E is next fresh mark c
    → IsCharted E is after (option_or fresh id) other (record { trie = new; start = c.start; value = c.value })
charted_settled E is next after fresh mark id other c new Missed keeps linked given kept marked was =
    charted_marked E is after None None (option_or fresh id) other (record { trie = new; start = c.start; value = c.value })
    (kept (option_or fresh id) (fresh_given E is c.trie c.start c.start.register next (without_register c.start) fresh id was.linked given was.fresh_marked)) marked
    (charted_kept E is next after fresh mark c new Missed keeps linked was)

-- if the last of the first `place` cells is at `offset` in the segment `key`, the first `place`
-- cells end with the first offset + 1 cells of that segment
pub place_found : {T : Type 0} (trie : TrieOf T) (i place key offset : ℕ) → SpotIsAt (segment_at trie.segments) (keys_in trie.branches i) (place - 1) (key, offset) → (place ≡ 0 → ⊥)
    → IsPlaceIn trie key (offset + 1) place i
place_found trie i place key offset lies positive = record {
  there = ap (has key) lies.is ∙ has-in key lies.front lies.back;
  ends = record {
    front = lies.front;
    is = ap (keys_up_to key) lies.is ∙ up_to-here key lies.front lies.back lies.first;
    sum = let b = lies.before in some_more place positive b;
  };
  positive = omega arith;
  within = let w = lies.within in omega (arith, w);
}
  where
    some_more : (place : ℕ) → (place ≡ 0 → ⊥) → length (line (segment_at trie.segments) lies.front) + offset ≡ place - 1 → length (line (segment_at trie.segments) lies.front) + (offset + 1) ≡ place
    some_more zero positive b = absurd (positive refl)
    some_more (suc n) positive b = omega (arith, b)

-- the offset of that cell is below each number that the place is below
pub offset_below : {T : Type 0} (trie : TrieOf T) (i place key offset n : ℕ) → SpotIsAt (segment_at trie.segments) (keys_in trie.branches i) (place - 1) (key, offset) → (place ≡ 0 → ⊥)
    → place < n → (offset < n) × (offset + 1 < n)
offset_below trie i place key offset n lies positive small = let sum = (place_found trie i place key offset lies positive).ends.sum in (omega arith, omega arith)

-- a settle of no cells returns no run, and replays nothing
pub none_settled : {R P : Type 0} (E : R → R → Bool) (b : Behaviour P) (c : Charted R P) (name : List ℕ) (place : ℕ) → place ≡ 0 → IsSettledLast E b c c name place None 0
none_settled {R} {P} E b c name place none = (
  [],
  record {
    settles = subst (λ p. Settles E b c.trie c.trie c.start p (reached c.trie p (keys_named c.trie name)) [] 0) (sym none)
        (subst (λ ks. Settles E b c.trie c.trie c.start 0 ks [] 0) (sym (reached_none c.trie (keys_named c.trie name))) (refl, refl));
    sum = sym none;
  },
  refl,
)

-- the result of a settle of the first `place` cells, which end in the segment `key`
pub last_settled : {R P : Type 0} (E : R → R → Bool) (is : R → Behaviour P) (old new : Charted R P) (name : List ℕ) (place key count i n : ℕ) (o : Option (StoredRun R P))
    → index_of (forest old.trie).branches name ≡ Some i → SettlesTo E is old.trie new.trie old.start key count place i n → o ≡ note_if_any new.trie (Some key)
    → IsSettledLast E (is old.start.register) old new name place (option_map (part_of_stored count) o) n
last_settled E is old new name place key count i n o found s stored =
    let named : keys_named old.trie name ≡ keys_in old.trie.branches i = ap (λ o. keys_at o old.trie.branches) found in (
      s.parts,
      record {
        settles = subst (λ ks. Settles E (is old.start.register) old.trie new.trie old.start place (reached old.trie place ks) s.parts n) (sym named) s.settles;
        sum = s.sum;
      },
      ap last_part s.last.is ∙ last_of_parts s.last.before (part_of_stored count s.last.stored) ∙ ap (option_map (part_of_stored count)) (sym (stored ∙ s.last.noted)),
    )

-- which runs a settle keeps or stores, with the branch given by its name instead of its index
pub keeps_named : {R P : Type 0} (E : R → R → Bool) (is : R → Behaviour P) (v : Charted R P) (old new : TrieOf (StoredRun R P)) (start : Configuration R P) (value : ℕ)
    → ◌≡◌ {A = Charted R P} (record { trie = old; start = start; value = value }) v → (name : List ℕ) (place i : ℕ) → index_of (forest old).branches name ≡ Some i
    → KeepsRuns old new (GetsRun E (is start.register) old new start (reached old place (keys_in old.branches i)))
    → KeepsRuns v.trie new (GetsRun E (is v.start.register) v.trie new v.start (reached_by v.trie name place))
keeps_named {R} {P} E is v old new start value same name place i found keeps =
    let named : keys_named old name ≡ keys_in old.branches i = ap (λ o. keys_at o old.branches) found in
    subst (λ (w : Charted R P). KeepsRuns w.trie new (GetsRun E (is w.start.register) w.trie new w.start (reached_by w.trie name place))) same
    (subst (λ ks. KeepsRuns old new (GetsRun E (is start.register) old new start (reached old place ks))) (sym named) keeps)
