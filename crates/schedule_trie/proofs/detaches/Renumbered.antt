-- Copies of segments, with new cells.
use Rattle.std.proofs.Common.{◌≡◌, ℕ, suc, ◌+◌, ◌<◌, ◌≤◌, true, List, [], ◌∷◌, ◌++◌, length, map, take, drop, get_or, Option, Some, None, IsSome, refl, sym, ap, subst, ◌∙◌, true≢false, arith, add-one, append_assoc, append-nil}
use Rattle.std.specs.Option.{IfSome}
use Rattle.std.proofs.lemmas.List.{length-map, length-append, map-append, take_all, take_more, at_drop_more, at_drop_all}
use Rattle.schedule_steps.specs.declared.types.Step.{Step}
use Rattle.branch_terms.specs.declared.slot.Slot.{Slot}
use Rattle.schedule_trie.specs.declared.segment.Segment.{Segment}
use Rattle.branch_terms.specs.Forest.{slot, step_of, cell_of, numbered, renumbered}
use Rattle.schedule_trie.specs.Trie.{SegmentOf, segment, slots_of, note_of, line, has, has_cell, Once, IsSegment}
use Rattle.schedule_trie.specs.TrieFields.{segment_of}
use Rattle.schedule_trie.specs.changes.Detaches.{AreCopies}
use Rattle.branch_terms.proofs.LimbLists.{length-numbered}
use Rattle.schedule_trie.proofs.lists.NoRepeats.{has_cases, has_not_from, has-head, has-tail}
use Rattle.schedule_trie.proofs.branches.Lines.{line-drop}
use Rattle.schedule_trie.proofs.edits.Pushes.{line-append}

pub length-renumbered : (n : ℕ) (slots : List Slot) → length (renumbered n slots) ≡ length slots
length-renumbered n slots = length-numbered n (map step_of slots) ∙ length-map slots step_of

numbered-append : (n : ℕ) (xs ys : List Step) → numbered n (xs ++ ys) ≡ numbered n xs ++ numbered (n + length xs) ys
numbered-append n [] ys = ap (λ m. numbered m ys) (omega arith)
numbered-append n (x ∷ xs) ys =
    ap (λ l. slot n x ∷ l) (numbered-append (suc n) xs ys ∙ ap (λ m. numbered (suc n) xs ++ numbered m ys) (omega arith))

renumbered-append : (n : ℕ) (xs ys : List Slot) → renumbered n (xs ++ ys) ≡ renumbered n xs ++ renumbered (n + length xs) ys
renumbered-append n xs ys =
    ap (numbered n) (map-append step_of xs ys) ∙ numbered-append n (map step_of xs) (map step_of ys)
    ∙ ap (λ m. renumbered n xs ++ numbered (n + m) (map step_of ys)) (length-map xs step_of)

-- numbering cells one by one
module _ (slots : List Slot) (first cell i : ℕ) (done : List Slot)
    (was : done ++ numbered cell (map step_of (drop i slots)) ≡ renumbered first slots) where
  pub renumbered_more : (d : Slot) (more : List Slot) → i < length slots
      → more ≡ done ++ slot cell (get_or slots i d).step ∷ []
      → more ++ numbered (cell + 1) (map step_of (drop (i + 1) slots)) ≡ renumbered first slots
  renumbered_more d more less pushed =
      let rest = map step_of (drop (i + 1) slots) in
      ap (λ l. l ++ numbered (cell + 1) rest) pushed
      ∙ append_assoc done (slot cell (get_or slots i d).step ∷ []) (numbered (cell + 1) rest)
      ∙ ap (λ n. done ++ slot cell (get_or slots i d).step ∷ numbered n rest) (add-one cell)
      ∙ ap (λ l. done ++ l) (sym (at_drop_more (λ l. numbered cell (map step_of l)) slots i d less))
      ∙ was

  pub renumbered_all : length slots ≤ i → done ≡ renumbered first slots
  renumbered_all past =
      sym (append-nil done)
      ∙ ap (λ l. done ++ l) (sym (at_drop_all (λ l. numbered cell (map step_of l)) slots i past))
      ∙ was

-- `numbered` gives the numbers from n to n + `length steps` - 1, none of them twice
numbered_cell : (n : ℕ) (steps : List Step) (x : ℕ) → has_cell x (numbered n steps) ≡ true → (n ≤ x) × (x < n + length steps)
numbered_cell n [] x h = absurd (true≢false (sym h))
numbered_cell n (s ∷ ss) x h =
    has_cases x n (map cell_of (numbered (suc n) ss)) ((n ≤ x) × (x < n + suc (length ss))) h
    (λ e. (omega arith, omega arith))
    (λ r. let p = numbered_cell (suc n) ss x r in (omega (arith, p.0), omega (arith, p.1)))

numbered_once : (n : ℕ) (steps : List Step) → Once (map cell_of (numbered n steps))
numbered_once n [] = tt
numbered_once n (s ∷ ss) =
    (has_not_from n (map cell_of (numbered (suc n) ss)) (λ h. let p = numbered_cell (suc n) ss n h in omega (arith, p.0)), numbered_once (suc n) ss)

renumbered_cell : (n : ℕ) (slots : List Slot) (x : ℕ) → has_cell x (renumbered n slots) ≡ true → (n ≤ x) × (x < n + length slots)
renumbered_cell n slots x h = let p = numbered_cell n (map step_of slots) x h in (p.0, omega (arith, p.1, length-map slots step_of))

-- for each key, `at` gives the value that has the same index in its list as the key
abbrev pub HaveValues : {X : Type 0} → (ℕ → Option X) → List ℕ → List X → Type 0
HaveValues at [] [] = Unit {0}
HaveValues at [] (x ∷ xs) = ⊥
HaveValues at (k ∷ ks) [] = ⊥
HaveValues at (k ∷ ks) (x ∷ xs) = (at k ≡ Some x) × HaveValues at ks xs

module _ {T : Type 0} where
  -- the segment at each new key is a copy, with new cells, of that at the old key of the same index
  abbrev pub AreCopied : (ℕ → Option (SegmentOf T)) → (ℕ → Option (SegmentOf T)) → ℕ → List ℕ → List ℕ → Type 0
  AreCopied at new n [] [] = Unit {0}
  AreCopied at new n [] (j ∷ js) = ⊥
  AreCopied at new n (k ∷ ks) [] = ⊥
  AreCopied at new n (k ∷ ks) (j ∷ js) =
      (new j ≡ Some (segment (renumbered n (slots_of (at k))) None)) × AreCopied at new (n + length (slots_of (at k))) ks js

  -- one more copy is made
  copies_last : (at : ℕ → Option (SegmentOf T)) (n : ℕ) (ks : List ℕ) (ss : List (Segment T)) (k : ℕ) (s : Segment T) → AreCopies at n ks ss
      → s.slots.items ≡ renumbered (n + length (line at ks)) (slots_of (at k)) → s.note ≡ None → AreCopies at n (ks ++ k ∷ []) (ss ++ s ∷ [])
  copies_last at n [] [] k s h slots note = (slots ∙ ap (λ m. renumbered m (slots_of (at k))) (omega arith), note, tt)
  copies_last at n [] (z ∷ ss) k s h slots note = absurd h
  copies_last at n (j ∷ ks) [] k s h slots note = absurd h
  copies_last at n (j ∷ ks) (z ∷ ss) k s h slots note = (
    h.0,
    h.1,
    copies_last at (n + length (slots_of (at j))) ks ss k s h.2
        (slots ∙ ap (λ m. renumbered m (slots_of (at k))) (omega (arith, length-append (slots_of (at j)) (line at ks)))) note,
  )

  pub copied_from : (at new : ℕ → Option (SegmentOf T)) (get_new : ℕ → Option (Segment T)) (n : ℕ) (ks js : List ℕ) (ss : List (Segment T))
      → ((j : ℕ) → new j ≡ segment_of (get_new j)) → AreCopies at n ks ss → HaveValues get_new js ss → AreCopied at new n ks js
  copied_from at new get_new n [] [] [] seen c v = tt
  copied_from at new get_new n [] [] (s ∷ ss) seen c v = absurd c
  copied_from at new get_new n [] (j ∷ js) [] seen c v = absurd v
  copied_from at new get_new n [] (j ∷ js) (s ∷ ss) seen c v = absurd c
  copied_from at new get_new n (k ∷ ks) js [] seen c v = absurd c
  copied_from at new get_new n (k ∷ ks) [] (s ∷ ss) seen c v = absurd v
  copied_from at new get_new n (k ∷ ks) (j ∷ js) (s ∷ ss) seen c v = (
    seen j ∙ ap segment_of v.0 ∙ (λ i. Some (segment (c.0 i) (c.1 i))),
    copied_from at new get_new (n + length (slots_of (at k))) ks js ss seen c.2 v.1,
  )

  pub line_copied : (at new : ℕ → Option (SegmentOf T)) (n : ℕ) (ks js : List ℕ) → AreCopied at new n ks js → line new js ≡ renumbered n (line at ks)
  line_copied at new n [] [] c = refl
  line_copied at new n [] (j ∷ js) c = absurd c
  line_copied at new n (k ∷ ks) [] c = absurd c
  line_copied at new n (k ∷ ks) (j ∷ js) c =
      (λ i. slots_of (c.0 i) ++ line_copied at new (n + length (slots_of (at k))) ks js c.1 i)
      ∙ sym (renumbered-append n (slots_of (at k)) (line at ks))

  -- `o` is a segment whose cells have numbers from n to `made` - 1, and it has no note
  pub record IsCopied (n made : ℕ) (o : Option (SegmentOf T)) : Type 0 where
    pub cells : (x : ℕ) → has_cell x (slots_of o) ≡ true → (n ≤ x) × (x < made)
    pub segment : IfSome o (IsSegment made)
    pub there : IsSome o
    pub note : note_of o ≡ None

  copied_here : (at new : ℕ → Option (SegmentOf T)) (n made j k : ℕ) → new j ≡ Some (segment (renumbered n (slots_of (at k))) None)
      → (0 < length (slots_of (at k))) × (length (slots_of (at k)) ≤ 128) → n + length (slots_of (at k)) ≤ made → IsCopied n made (new j)
  copied_here at new n made j k e size few = subst (IsCopied n made) (sym e) (record {
    cells = cells;
    segment = record {
      some = omega (arith, size.0, length-renumbered n (slots_of (at k)));
      few = omega (arith, size.1, length-renumbered n (slots_of (at k)));
      once = numbered_once n (map step_of (slots_of (at k)));
      given = λ x h. (cells x h).1;
    };
    there = refl;
    note = refl;
  })
    where
      cells : (x : ℕ) → has_cell x (renumbered n (slots_of (at k))) ≡ true → (n ≤ x) × (x < made)
      cells x h = let p = renumbered_cell n (slots_of (at k)) x h in (p.0, omega (arith, p.1))

  IsCopied-weaker : (n m made : ℕ) (o : Option (SegmentOf T)) → n ≤ m → IsCopied m made o → IsCopied n made o
  IsCopied-weaker n m made o h c = record { cells = λ x g. let p = c.cells x g in (omega (arith, p.0), p.1); segment = c.segment; there = c.there; note = c.note }

  pub each_copied : (at new : ℕ → Option (SegmentOf T)) (n made : ℕ) (ks js : List ℕ) (j : ℕ) → AreCopied at new n ks js
      → ((k : ℕ) → has k ks ≡ true → (0 < length (slots_of (at k))) × (length (slots_of (at k)) ≤ 128)) → n + length (line at ks) ≤ made → has j js ≡ true → IsCopied n made (new j)
  each_copied at new n made [] [] j c sizes few h = absurd (true≢false (sym h))
  each_copied at new n made [] (i ∷ js) j c sizes few h = absurd c
  each_copied at new n made (k ∷ ks) [] j c sizes few h = absurd c
  each_copied at new n made (k ∷ ks) (i ∷ js) j c sizes few h =
      let parts : length (line at (k ∷ ks)) ≡ length (slots_of (at k)) + length (line at ks) = length-append (slots_of (at k)) (line at ks) in
      has_cases j i js (IsCopied n made (new j)) h
      (λ e. subst (λ z. IsCopied n made (new z)) (sym e) (copied_here at new n made i k c.0 (sizes k (has-head k ks)) (omega arith)))
      (λ r. IsCopied-weaker n (n + length (slots_of (at k))) made (new j) (omega arith)
      (each_copied at new (n + length (slots_of (at k))) made ks js j c.1 (λ z g. sizes z (has-tail z k ks g)) (omega arith) r))

  -- no two copies have a common cell
  pub apart_copied : (at new : ℕ → Option (SegmentOf T)) (n : ℕ) (ks js : List ℕ) (i j x : ℕ) → AreCopied at new n ks js
      → ((k : ℕ) → has k ks ≡ true → (0 < length (slots_of (at k))) × (length (slots_of (at k)) ≤ 128)) → has i js ≡ true → has j js ≡ true
      → has_cell x (slots_of (new i)) ≡ true → has_cell x (slots_of (new j)) ≡ true → i ≡ j
  apart_copied at new n [] [] i j x c sizes hi hj a b = absurd (true≢false (sym hi))
  apart_copied at new n [] (z ∷ js) i j x c sizes hi hj a b = absurd c
  apart_copied at new n (k ∷ ks) [] i j x c sizes hi hj a b = absurd c
  apart_copied at new n (k ∷ ks) (z ∷ js) i j x c sizes hi hj a b =
      has_cases i z js (i ≡ j) hi
      (λ e. has_cases j z js (i ≡ j) hj (λ f. e ∙ sym f) (λ r. absurd (never i j e a r b)))
      (λ q. has_cases j z js (i ≡ j) hj (λ f. absurd (never j i f b q a))
      (λ r. apart_copied at new (n + length (slots_of (at k))) ks js i j x c.1 (λ y g. sizes y (has-tail y k ks g)) q r a b))
    where
      never : (i j : ℕ) → i ≡ z → has_cell x (slots_of (new i)) ≡ true → has j js ≡ true → has_cell x (slots_of (new j)) ≡ true → ⊥
      never i j e a r b =
          let first = renumbered_cell n (slots_of (at k)) x (subst (λ o. has_cell x (slots_of o) ≡ true) (ap new e ∙ c.0) a) in
          let rest = each_copied at new (n + length (slots_of (at k))) ((n + length (slots_of (at k))) + length (line at ks)) ks js j c.1
          (λ y g. sizes y (has-tail y k ks g)) (omega arith) r in
          let below = first.1 in
          let above = (rest.cells x b).0 in
          omega arith

  -- the copies so far, in a walk over the path
  module _ (at : ℕ → Option (SegmentOf T)) (made : ℕ) (keys : List ℕ) (i cell : ℕ) (inside : i < length keys) where
    pub cell_below : cell + length (line at (drop i keys)) ≡ made + length (line at keys)
        → (cell + length (slots_of (at (get_or keys i 0)))) + length (line at (drop (i + 1) keys)) ≡ made + length (line at keys)
    cell_below sum =
        let step : i + 1 ≡ suc i = omega arith in
        subst (λ m. (cell + length (slots_of (at (get_or keys i 0)))) + length (line at (drop m keys)) ≡ made + length (line at keys)) (sym step)
        (omega (arith, ap length (line-drop at keys i inside), length-append (slots_of (at (get_or keys i 0))) (line at (drop (suc i) keys))))

    pub cell_fits : (slots : List Slot) (most : ℕ) → slots ≡ slots_of (at (get_or keys i 0))
        → cell + length (line at (drop i keys)) ≡ made + length (line at keys)
        → made + length (line at keys) ≤ most → cell + length slots ≤ most
    cell_fits slots most are sum fits = omega (arith, ap length are, cell_below sum, fits)

    pub cell_after : cell ≡ made + length (line at (take i keys))
        → cell + length (slots_of (at (get_or keys i 0))) ≡ made + length (line at (take (i + 1) keys))
    cell_after same =
        omega (
          arith,
          ap (λ l. length (line at l)) (take_more keys i 0 inside),
          ap length (line-append at (take i keys) (get_or keys i 0 ∷ [])),
          length-append (line at (take i keys)) (slots_of (at (get_or keys i 0)) ++ []),
          ap length (append-nil (slots_of (at (get_or keys i 0)))),
        )

    pub copies_more : (done more : List (Segment T)) (s : Segment T) → AreCopies at made (take i keys) done → cell ≡ made + length (line at (take i keys))
        → s.slots.items ≡ renumbered cell (slots_of (at (get_or keys i 0))) → s.note ≡ None → more ≡ done ++ s ∷ [] → AreCopies at made (take (i + 1) keys) more
    copies_more done more s so_far same slots note grown =
        subst (λ l. AreCopies at made l more) (sym (take_more keys i 0 inside))
        (subst (AreCopies at made (take i keys ++ get_or keys i 0 ∷ [])) (sym grown)
        (copies_last at made (take i keys) done (get_or keys i 0) s so_far (slots ∙ ap (λ m. renumbered m (slots_of (at (get_or keys i 0)))) same) note))

  pub copies_all : (at : ℕ → Option (SegmentOf T)) (made : ℕ) (keys : List ℕ) (i : ℕ) (done : List (Segment T))
      → length keys ≤ i → AreCopies at made (take i keys) done → AreCopies at made keys done
  copies_all at made keys i done past = subst (λ ks. AreCopies at made ks done) (take_all i keys past)
