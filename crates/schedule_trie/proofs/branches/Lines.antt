-- The cells at a list of keys (`line`), and a trie's forest in terms of its fields.
use Rattle.schedule_steps.specs.declared.types.Step.{Step}
use Rattle.std.proofs.Common.{append_assoc, append-nil, ◌≡◌, ℕ, zero, suc, ◌+◌, ◌<◌, ◌≤◌, nat_eq, Bool, true, false, ◌||◌, List, [], ◌∷◌, ◌++◌, length, map, drop, get_or, slice_get, Option, Some, None, refl, sym, ap, subst, ◌∙◌, true≢false, arith}
use Rattle.std.specs.Option.{option_map, IfSome}
use Rattle.std.proofs.lemmas.List.{map-append, length-map, drop_all}
use Rattle.std.proofs.Math.Seq.{drop-cons}
use Rattle.std.specs.List.{position}
use Rattle.schedule_trie.specs.declared.trie.Trie.TheInside.{Inside}
use Rattle.branch_terms.specs.Forest.{step_of, cell_of, slots_in, index_of, name_in}
use Rattle.std.specs.Cmp.Lexicographic.{pointwise}
use Rattle.std.proofs.lemmas.Option.{slice_get-map}
use Rattle.schedule_trie.specs.Trie.{forest, segment_at, SegmentOf, KeyedBranch, line, slots_of, branches_on, keys_in, has, has_cell, Once, IsSegment, IsSoundTrie}
use Rattle.lineage.specs.Family.{path_in}
use Rattle.schedule_trie.specs.TrieFields.{names_of, trie_of, IsWholeWithPaths}
use Rattle.schedule_trie.proofs.branches.KeyedBranches.{names_on, length-keyed_branches, keys_in-keyed_branches}
use Rattle.schedule_trie.proofs.lists.NoRepeats.{has-append, has-head, has-tail, Once-append, Once-bounded, has_not_from, Once-from_linked}
use Rattle.branch_terms.specs.declared.limits.TheConstants.{MOST_CELLS_MADE}

module _ {T : Type 0} (at : ℕ → Option (SegmentOf T)) where
  -- a branch's cells are those of its line
  pub slots_in_on : (branches : List KeyedBranch) (i : ℕ) → slots_in (branches_on at branches) i ≡ line at (keys_in branches i)
  slots_in_on [] i = refl
  slots_in_on (s ∷ ss) zero = refl
  slots_in_on (s ∷ ss) (suc i) = slots_in_on ss i

  pub line-drop : (ks : List ℕ) (i : ℕ) → i < length ks → line at (drop i ks) ≡ slots_of (at (get_or ks i 0)) ++ line at (drop (suc i) ks)
  line-drop ks i h = ap (line at) (drop-cons ks i 0 h)

  -- a cell of a line is in the segment of one of its keys
  pub in_line : (x : ℕ) (ks : List ℕ) → has_cell x (line at ks) ≡ true → (k : ℕ) × (has k ks ≡ true) × (has_cell x (slots_of (at k)) ≡ true)
  in_line x [] h = absurd (true≢false (sym h))
  in_line x (k ∷ ks) h = by (has_cell x (slots_of (at k))) refl (in_line x ks)
    where
      split : (has_cell x (slots_of (at k)) || has_cell x (line at ks)) ≡ true
      split = sym (has-append x (map cell_of (slots_of (at k))) (map cell_of (line at ks))) ∙ sym (ap (has x) (map-append cell_of (slots_of (at k)) (line at ks))) ∙ h

      by : (b : Bool) → has_cell x (slots_of (at k)) ≡ b
          → (has_cell x (line at ks) ≡ true → (j : ℕ) × (has j ks ≡ true) × (has_cell x (slots_of (at j)) ≡ true))
          → (j : ℕ) × (has j (k ∷ ks) ≡ true) × (has_cell x (slots_of (at j)) ≡ true)
      by true e rest = (k, has-head k ks, e)
      by false e rest = let p = rest (sym (ap (λ c. c || has_cell x (line at ks)) e) ∙ split) in (p.0, has-tail p.0 k ks p.1, p.2)

  module _ (made : ℕ) (segments : (k : ℕ) → IfSome (at k) (IsSegment made))
      (apart : (j k x : ℕ) → has_cell x (slots_of (at j)) ≡ true → has_cell x (slots_of (at k)) ≡ true → j ≡ k) where
    pub once_at : (k : ℕ) → Once (map cell_of (slots_of (at k)))
    once_at k = by (at k) (segments k)
      where
        by : (o : Option (SegmentOf T)) → IfSome o (IsSegment made) → Once (map cell_of (slots_of o))
        by None h = tt
        by (Some p) h = h.once

    pub given_at : (k x : ℕ) → has_cell x (slots_of (at k)) ≡ true → x < made
    given_at k x = by (at k) (segments k)
      where
        by : (o : Option (SegmentOf T)) → IfSome o (IsSegment made) → has_cell x (slots_of o) ≡ true → x < made
        by None h e = absurd (true≢false (sym e))
        by (Some p) h e = h.given x e

    pub line_once : (ks : List ℕ) → Once ks → Once (map cell_of (line at ks))
    line_once [] h = tt
    line_once (k ∷ ks) h =
        subst Once (sym (map-append cell_of (slots_of (at k)) (line at ks)))
        (Once-append (map cell_of (slots_of (at k))) (map cell_of (line at ks)) (once_at k) (line_once ks h.1)
        (λ x e. has_not_from x (map cell_of (line at ks)) (λ g.
        let p = in_line x ks g in
        let same : k ≡ p.0 = apart k p.0 x e p.2 in
        true≢false (sym (subst (λ j. has j ks ≡ true) (sym same) p.1) ∙ h.0))))

    pub line_short : (ks : List ℕ) → Once ks → length (line at ks) ≤ made
    line_short ks h =
        let b : length (map cell_of (line at ks)) ≤ made = Once-bounded (map cell_of (line at ks)) made (line_once ks h) (λ x e. let p = in_line x ks e in given_at p.0 x p.2) in
        subst (λ n. n ≤ made) (length-map (line at ks) cell_of) b

-- if the numbers of a segment's cells are below `made`, they are also below a greater number
pub IsSegment-weaker : {T : Type 0} (made more : ℕ) → made ≤ more → (o : Option (SegmentOf T)) → IfSome o (IsSegment made) → IfSome o (IsSegment more)
IsSegment-weaker made more grows None h = tt
IsSegment-weaker made more grows (Some p) h = record { some = h.some; few = h.few; once = h.once; given = λ x g. let l : x < made = h.given x g in omega arith }

-- no branch has more cells than were ever made
pub sound_short : {T : Type 0} (at : ℕ → Option (SegmentOf T)) (branches : List KeyedBranch) (made : ℕ) → IsSoundTrie at branches made → (i : ℕ) → length (line at (keys_in branches i)) ≤ made
sound_short at branches made s i =
    line_short at made s.segments s.apart (keys_in branches i)
    (Once-from_linked s.shares.above (keys_in branches i) (s.shares.linked i))

-- the forest in terms of the fields
module _ {T : Type 0} (t : Inside T) where
  pub index_is : (name : List ℕ) → index_of (forest (trie_of t)).branches name ≡ position (pointwise nat_eq name) (names_of t)
  index_is name = ap (position (pointwise nat_eq name)) (names_on (segment_at (trie_of t).segments) (names_of t) t.segments.paths)

  pub name_is : (i : ℕ) → name_in (forest (trie_of t)).branches i ≡ option_map (λ e. e.0) (slice_get t.branches.entries i)
  name_is i = ap (λ l. slice_get l i) (names_on (segment_at (trie_of t).segments) (names_of t) t.segments.paths) ∙ slice_get-map (λ e. e.0) t.branches.entries i

  pub keys_are : IsWholeWithPaths t → (i : ℕ) → keys_in (trie_of t).branches i ≡ path_in t.segments i
  keys_are h i = keys_in-keyed_branches (names_of t) t.segments.paths i h.paths

  pub path_within : IsWholeWithPaths t → (i : ℕ) → i < length (trie_of t).branches → i < length t.segments.paths
  path_within h i inside = subst (λ n. i < n) (length-keyed_branches (names_of t) t.segments.paths ∙ sym h.paths) inside

  pub line_fits : IsWholeWithPaths t → (i : ℕ) → length (line (segment_at (trie_of t).segments) (keys_in (trie_of t).branches i)) ≤ t.made
  line_fits h i = sound_short (segment_at (trie_of t).segments) (trie_of t).branches t.made h.whole.sound i

  -- the keys of a branch, in terms of the fields
  pub keys_by_fields : IsWholeWithPaths t → (i : ℕ) (keys : List ℕ) → keys ≡ path_in t.segments i
      → (keys ≡ keys_in (trie_of t).branches i) × (length (line (segment_at (trie_of t).segments) keys) ≤ (trie_of t).made) × ((trie_of t).made ≤ MOST_CELLS_MADE)
  keys_by_fields h i keys e =
      let same : keys_in (trie_of t).branches i ≡ keys = keys_are h i ∙ sym e in
      (sym same, subst (λ l. length (line (segment_at (trie_of t).segments) l) ≤ t.made) same (line_fits h i), omega (arith, h.whole.within.cells, h.whole.within.most_cells))

-- the steps of a line, read key by key: `done` are the steps read so far
module _ {T : Type 0} (at : ℕ → Option (SegmentOf T)) where
  pub steps_more : (keys : List ℕ) (i : ℕ) (done more : List Step) → i < length keys
      → done ++ map step_of (line at (drop i keys)) ≡ map step_of (line at keys) → more ≡ done ++ map step_of (slots_of (at (get_or keys i 0)))
      → more ++ map step_of (line at (drop (i + 1) keys)) ≡ map step_of (line at keys)
  steps_more keys i done more h sum new =
      let step : i + 1 ≡ suc i = omega arith in
      ap (λ l. l ++ map step_of (line at (drop (i + 1) keys))) new
      ∙ ap (λ n. (done ++ map step_of (slots_of (at (get_or keys i 0)))) ++ map step_of (line at (drop n keys))) step
      ∙ append_assoc done (map step_of (slots_of (at (get_or keys i 0)))) (map step_of (line at (drop (suc i) keys)))
      ∙ ap (λ l. done ++ l) (sym (map-append step_of (slots_of (at (get_or keys i 0))) (line at (drop (suc i) keys))) ∙ ap (map step_of) (sym (line-drop at keys i h)))
      ∙ sum

  pub steps_all : (i : ℕ) (keys : List ℕ) (done : List Step) → length keys ≤ i
      → done ++ map step_of (line at (drop i keys)) ≡ map step_of (line at keys) → done ≡ map step_of (line at keys)
  steps_all i keys done past sum = sym (append-nil done) ∙ sym (ap (λ l. done ++ map step_of (line at l)) (drop_all i keys past)) ∙ sum
