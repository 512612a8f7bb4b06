-- A climb of a branch, in terms of the fields.
use Rattle.std.proofs.Common.{◌≡◌, ℕ, ◌<◌, ◌≤◌, true, true≢false, ◌+◌, List, [], ◌∷◌, ◌++◌, length, Option, Some, None, IsSome, refl, sym, ap, subst, ◌∙◌, arith}
use Rattle.std.proofs.lemmas.List.{length-append}
use Rattle.lineage.specs.Family.{item_at, path_in, last_of}
use Rattle.schedule_trie.specs.declared.trie.Trie.TheInside.{Inside}
use Rattle.schedule_trie.specs.Trie.{TrieOf, SegmentOf, segment_at, slots_of, line, keys_in, above_of, has, Once, IsWhole}
use Rattle.schedule_trie.specs.TrieFields.{trie_of, IsWholeWithPaths}
use Rattle.schedule_trie.proofs.lists.NoRepeats.{Once-from_linked, has-head, has-tail, has-in}
use Rattle.schedule_trie.specs.Climbs.{keys_to, HasClimbedTo}
use Rattle.schedule_trie.proofs.climbs.Climbs.{IsLast, IsStepUp, last_is, step_up, cells_up, shorter_up}
use Rattle.schedule_trie.proofs.branches.Lines.{keys_are, line_fits, sound_short}
use Rattle.schedule_trie.proofs.climbs.KeysAbove.{above_is, lacked_none}
use Rattle.schedule_trie.proofs.segments.StepSet.{item_there, none_there}
use Rattle.schedule_trie.proofs.segments.TouchedSegments.{some_slots}
use Rattle.branch_terms.specs.declared.limits.TheConstants.{MOST_CELLS_MADE}

module _ {T : Type 0} (t : Inside T) (c : TrieOf T) (seen : trie_of t ≡ c) (held : IsWholeWithPaths t) (index : ℕ) where
  -- a path has no key twice
  path_once : Once (keys_in c.branches index)
  path_once =
      subst (λ z. Once (keys_in z.branches index)) seen
      (Once-from_linked held.whole.sound.shares.above (keys_in (trie_of t).branches index) (held.whole.sound.shares.linked index))

  same : keys_in c.branches index ≡ path_in t.segments index
  same = sym (ap (λ z. keys_in z.branches index) seen) ∙ keys_are t held index

  -- a climb starts at the last key of the path
  pub path_last : (last : Option ℕ) → last ≡ last_of (path_in t.segments index) → IsLast (keys_in c.branches index) last
  path_last last e = subst (IsLast (keys_in c.branches index)) (ap last_of same ∙ sym e) (last_is (keys_in c.branches index) path_once)

  -- one step of a climb
  pub path_up : (key : ℕ) (above : Option ℕ) → has key (keys_in c.branches index) ≡ true
      → ((i : ℕ) (front back : List ℕ) → path_in t.segments i ≡ front ++ key ∷ back → above ≡ last_of front) → IsStepUp (keys_in c.branches index) key above
  path_up key above h each = step_up (keys_in c.branches index) key above path_once h (λ front back e. each index front back (sym same ∙ e))

-- one pass of a climb's loop: the key above is on the path, there are fewer keys down to it, and
-- the cells add up
pub record IsClimbPass {T : Type 0} (at : ℕ → Option (SegmentOf T)) (keys : List ℕ) (last : Option ℕ) (key : ℕ) (above : Option ℕ) : Type 0 where
  pub step : IsStepUp keys key above
  pub fewer : length (keys_to keys above) < length (keys_to keys last)
  pub cells : length (line at (keys_to keys last)) ≡ length (line at (keys_to keys above)) + length (slots_of (at key))

-- climbs of a branch; a step up needs that `above` is right above `key` in each branch with `key`
module _ {T : Type 0} (c : TrieOf T) (whole : IsWhole c) (index : ℕ) where
  pub branch_once : Once (keys_in c.branches index)
  branch_once = Once-from_linked whole.sound.shares.above (keys_in c.branches index) (whole.sound.shares.linked index)

  pub branch_up : (key : ℕ) (above : Option ℕ) → has key (keys_in c.branches index) ≡ true
      → ((i : ℕ) (front back : List ℕ) → keys_in c.branches i ≡ front ++ key ∷ back → above ≡ last_of front) → IsStepUp (keys_in c.branches index) key above
  branch_up key above h each = step_up (keys_in c.branches index) key above branch_once h (λ front back e. each index front back e)

  -- one pass of a climb's loop: from a segment to the one above it
  module _ (last : Option ℕ) (key : ℕ) where
    pub climb_pass : (above : Option ℕ) → HasClimbedTo (keys_in c.branches index) last → last ≡ Some key
        → ((i : ℕ) (front back : List ℕ) → keys_in c.branches i ≡ front ++ key ∷ back → above ≡ last_of front)
        → IsClimbPass (segment_at c.segments) (keys_in c.branches index) last key above
    climb_pass above reached at each =
        let s = branch_up key above (subst (HasClimbedTo (keys_in c.branches index)) at reached) each in
        record {
          step = s;
          fewer = subst (λ o. length (keys_to (keys_in c.branches index) above) < length (keys_to (keys_in c.branches index) o)) (sym at)
              (shorter_up (segment_at c.segments) (keys_in c.branches index) key above s);
          cells = ap (λ o. length (line (segment_at c.segments) (keys_to (keys_in c.branches index) o))) at
              ∙ cells_up (segment_at c.segments) (keys_in c.branches index) key above s;
        }

  pub branch_short : length (line (segment_at c.segments) (keys_in c.branches index)) ≤ MOST_CELLS_MADE
  branch_short =
      let short = sound_short (segment_at c.segments) c.branches c.made whole.sound index in
      omega (arith, short, whole.within.cells, whole.within.most_cells)

-- if each key's segment has a cell, there are at most as many keys as cells
few_keys : {T : Type 0} (at : ℕ → Option (SegmentOf T)) (keys : List ℕ) → ((k : ℕ) → has k keys ≡ true → 0 < length (slots_of (at k))) → length keys ≤ length (line at keys)
few_keys at [] h = omega arith
few_keys at (k ∷ ks) h =
    let rest = few_keys at ks (λ j g. h j (has-tail j k ks g)) in
    let one = h k (has-head k ks) in
    let sum = length-append (slots_of (at k)) (line at ks) in
    omega (arith, rest, one, sum)

pub path_few : {T : Type 0} (t : Inside T) → IsWholeWithPaths t → (i : ℕ) → length (keys_in (trie_of t).branches i) ≤ t.made
path_few t held i =
    let at = segment_at (trie_of t).segments in
    let keys = keys_in (trie_of t).branches i in
    let sound = held.whole.sound in
    let few = few_keys at keys (λ k h. some_slots t.made (at k) (sound.held i k h) (sound.segments k)) in
    let short = line_fits t held i in
    omega (arith, few, short)

-- if `above` is right above `key` in each path that has `key`, then so it is in each branch
module _ {T : Type 0} (t : Inside T) (c : TrieOf T) (seen : trie_of t ≡ c) (held : IsWholeWithPaths t) (key : ℕ) (above : Option ℕ) where
  -- `above` is the key right above `key` in each path that has `key`, or None if `key` is the first
  abbrev pub IsAbove : Type 0
  IsAbove = (i : ℕ) (front back : List ℕ) → path_in t.segments i ≡ front ++ key ∷ back → above ≡ last_of front

  pub each_up : IsAbove → (i : ℕ) (front back : List ℕ) → keys_in c.branches i ≡ front ++ key ∷ back → above ≡ last_of front
  each_up each i front back e = each i front back (sym (keys_are t held i) ∙ ap (λ z. keys_in z.branches i) seen ∙ e)

  -- if `key` has no item, no path has `key`, so `IsAbove` holds
  pub none_up : item_at t.segments key ≡ None → IsAbove
  none_up none i front back e =
      let h : has key (keys_in (trie_of t).branches i) ≡ true = ap (has key) (keys_are t held i ∙ e) ∙ has-in key front back in
      absurd (true≢false (sym (subst IsSome none (item_there t key (held.whole.sound.held i key h)))))

  pub first_up : IsAbove → (item_at t.segments key ≡ None → above ≡ None) → above ≡ above_of c.branches key
  first_up each none =
      subst (λ z. above ≡ above_of z.branches key) seen
      (above_is (trie_of t).branches key above (λ i front back e. each i front back (sym (keys_are t held i) ∙ e))
      (λ lacks. none (none_there t key (lacked_none (segment_at (trie_of t).segments key) (trie_of t).branches key (held.whole.sound.live key) lacks))))

-- a climb of a branch that finds no item has ended
module _ {T : Type 0} (t : Inside T) (c : TrieOf T) (seen : trie_of t ≡ c) (held : IsWholeWithPaths t) where
  pub climb_has_ended : (at : Option ℕ) → ((k : ℕ) → at ≡ Some k → item_at t.segments k ≡ None) → (i : ℕ) → HasClimbedTo (keys_in c.branches i) at → at ≡ None
  climb_has_ended None none i reached = refl
  climb_has_ended (Some k) none i reached =
      let there = item_there t k (held.whole.sound.held i k (subst (λ z. has k (keys_in z.branches i) ≡ true) (sym seen) reached)) in
      absurd (true≢false (sym (subst IsSome (none k refl) there)))
