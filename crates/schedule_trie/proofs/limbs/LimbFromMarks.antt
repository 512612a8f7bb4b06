-- The limb of a branch, from the marks of its segments.
use Rattle.std.proofs.Common.{◌≡◌, ℕ, zero, suc, ◌+◌, ◌<◌, ◌≤◌, Bool, true, false, ◌||◌, nat_eq, List, [], ◌∷◌, ◌++◌, length, map, take, drop, slice_get, Option, Some, None, refl, sym, ap, subst, ◌∙◌, true≢false, arith, append_assoc, eq-eqb, cond}
use Rattle.std.specs.List.{list_any}
use Rattle.std.specs.Option.{IfSome, option_map}
use Rattle.std.proofs.lemmas.Bool.{eqb-true, or_left, or_right, false_from_ne_true}
use Rattle.std.proofs.lemmas.List.{map-append, length-append}
use Rattle.std.proofs.lemmas.Option.{slice_get-map}
use Rattle.std.proofs.Math.Seq.{drop-append_seam}
use Rattle.lineage.specs.Family.{last_of}
use Rattle.branch_terms.specs.declared.slot.Slot.{Slot}
use Rattle.schedule_trie.specs.declared.mark.Mark.{Mark}
use Rattle.branch_terms.specs.Forest.{Branch, branch, slots_in, name_of, name_in, cell_of, cell_in, step_of}
use Rattle.schedule_trie.specs.Trie.{TrieOf, SegmentOf, forest, segment_at, slots_of, line, keys_in, has, has_cell, Once, Linked, IsWhole}
use Rattle.schedule_trie.specs.Climbs.{keys_up_to}
use Rattle.branch_terms.specs.Limbs.{has_slot, holds, is_in_branches, shared_with, first_with, limb_of, limbs}
use Rattle.schedule_trie.specs.Marks.{mark, mark_at, IsMarkOf, IsOwnPart, AreMarked, IsMark, MarksFirst}
use Rattle.schedule_trie.proofs.climbs.Climbs.{up_to-here, line-last}
use Rattle.schedule_trie.proofs.lists.LastKeys.{last_from-parts}
use Rattle.schedule_trie.proofs.branches.Lines.{in_line, slots_in_on, sound_short}
use Rattle.branch_terms.proofs.LimbLists.{has_slot-head, has_slot-tail, any_from, any_none, first_is, StopsAt, prefix_is, all_in}
use Rattle.branch_terms.proofs.LimbsLawful.{slots_at, slots_in-first, limbs_at}
use Rattle.branch_terms.proofs.Lists.{nat_eq_symmetric}
use Rattle.schedule_trie.proofs.lists.NoRepeats.{has_cases, has-head, has-append, has_not_from, Once-from_linked, has-left, has-right, Once-right, Once-apart, once_before}
use Rattle.schedule_trie.proofs.lists.KeyPositions.{parting}
use Rattle.schedule_trie.proofs.edits.Pushes.{line-append}
use Rattle.schedule_trie.proofs.branches.Shared.{same_front}
use Rattle.schedule_trie.proofs.segments.TouchedSegments.{some_slots}

-- membership of a cell, in its two definitions
has_slot-has_cell : (x : ℕ) (xs : List Slot) → has_slot x xs ≡ has_cell x xs
has_slot-has_cell x [] = refl
has_slot-has_cell x (s ∷ xs) = (λ i. nat_eq_symmetric s.cell x i || has_slot-has_cell x xs i)

-- a key of the second of two joined lists isn't in the first, if no key is twice in them
lacked_in_front : (xs ys : List ℕ) (k : ℕ) → Once (xs ++ ys) → has k ys ≡ true → has k xs ≡ false
lacked_in_front xs ys k once h = has_not_from k xs (λ g. Once-apart k xs ys once g h)

keys_up_to-append : (k : ℕ) (xs ys : List ℕ) → has k xs ≡ false → keys_up_to k (xs ++ ys) ≡ xs ++ keys_up_to k ys
keys_up_to-append k [] ys h = refl
keys_up_to-append k (x ∷ xs) ys h = by (nat_eq k x) refl (keys_up_to-append k xs ys)
  where
    by : (b : Bool) → nat_eq k x ≡ b → (has k xs ≡ false → keys_up_to k (xs ++ ys) ≡ xs ++ keys_up_to k ys) → keys_up_to k (x ∷ (xs ++ ys)) ≡ x ∷ (xs ++ keys_up_to k ys)
    by true e rest = absurd (true≢false (sym (ap (λ c. c || has k xs) e) ∙ h))
    by false e rest = ap (λ b. cond b (x ∷ []) (x ∷ keys_up_to k (xs ++ ys))) e ∙ ap (λ l. x ∷ l) (rest (sym (ap (λ c. c || has k xs) e) ∙ h))

slots_in-taken : (n : ℕ) (bs : List Branch) (j : ℕ) → j < n → slots_in (take n bs) j ≡ slots_in bs j
slots_in-taken zero bs j less = absurd (omega arith)
slots_in-taken (suc n) [] j less = refl
slots_in-taken (suc n) (b ∷ bs) zero less = refl
slots_in-taken (suc n) (b ∷ bs) (suc j) less = slots_in-taken n bs j (omega arith)

-- a cell of joined lists is in the list in which its index lies
cell_in-left : (ys zs : List Slot) (n : ℕ) → n < length ys → has_slot (cell_in (ys ++ zs) n) ys ≡ true
cell_in-left [] zs n less = absurd (omega arith)
cell_in-left (y ∷ ys) zs zero less = has_slot-head y ys
cell_in-left (y ∷ ys) zs (suc n) less = has_slot-tail (cell_in (ys ++ zs) n) y ys (cell_in-left ys zs n (omega arith))

cell_in-middle : (xs ys zs : List Slot) (n : ℕ) → length xs ≤ n → n < length xs + length ys → has_slot (cell_in (xs ++ (ys ++ zs)) n) ys ≡ true
cell_in-middle [] ys zs n more less = cell_in-left ys zs n (omega arith)
cell_in-middle (x ∷ xs) ys zs zero more less = absurd (omega arith)
cell_in-middle (x ∷ xs) ys zs (suc n) more less = cell_in-middle xs ys zs n (omega arith) (omega arith)

line_has : {T : Type 0} (at : ℕ → Option (SegmentOf T)) (k x : ℕ) (ks : List ℕ) → has k ks ≡ true → has_cell x (slots_of (at k)) ≡ true → has_cell x (line at ks) ≡ true
line_has at k x [] h g = absurd (true≢false (sym h))
line_has at k x (j ∷ ks) h g =
    ap (has x) (map-append cell_of (slots_of (at j)) (line at ks)) ∙ has-append x (map cell_of (slots_of (at j))) (map cell_of (line at ks))
    ∙ has_cases k j ks ((has_cell x (slots_of (at j)) || has_cell x (line at ks)) ≡ true) h
    (λ e. or_left (has_cell x (slots_of (at j))) (has_cell x (line at ks)) (subst (λ i. has_cell x (slots_of (at i)) ≡ true) e g))
    (λ r. or_right (has_cell x (slots_of (at j))) (has_cell x (line at ks)) (line_has at k x ks r g))

-- m is the mark of the last key of `front`; or `front` is empty, and m has branch 0 and 0 cells
stem_cases : (marks : List (Option Mark)) (front : List ℕ) (m : Mark) (P : Type 0) → IsMarkOf marks (last_of front) m → (front ≡ [] → m ≡ mark 0 0 → P)
    → ((f : List ℕ) (k : ℕ) → front ≡ f ++ k ∷ [] → mark_at marks k ≡ Some m → P) → P
stem_cases marks [] m P is none some = none refl is
stem_cases marks (x ∷ xs) m P is none some =
    let p = last_from-parts xs x x in
    some p.1.0 p.0 p.1.1.1 (subst (λ o. IsMarkOf marks o m) p.1.1.0 is)

module _ {T : Type 0} (c : TrieOf T) (whole : IsWhole c) (index : ℕ) (marks : List (Option Mark)) (first : MarksFirst c index marks) (m : Mark) (own : List ℕ)
    (part : IsOwnPart marks (keys_in c.branches index) m own) where
  abbrev at : ℕ → Option (SegmentOf T)
  at = segment_at c.segments

  abbrev keys : List ℕ
  keys = keys_in c.branches index

  abbrev bs : List Branch
  bs = (forest c).branches

  abbrev above : ℕ → Option ℕ
  above = whole.sound.shares.above

  once : Once (part.front ++ own)
  once = subst Once part.is (Once-from_linked above keys (whole.sound.shares.linked index))

  pub own_once : Once own
  own_once = Once-right part.front own once

  in_keys : (k : ℕ) → has k own ≡ true → has k keys ≡ true
  in_keys k h = ap (has k) part.is ∙ has-right k part.front own h

  pub own_places : (k : ℕ) → has k own ≡ true → k < length marks
  own_places k h = first.places k (whole.sound.held index k (in_keys k h))

  is_mark : (k : ℕ) → mark_at marks k ≡ Some m → IsMark at c.branches index k m
  is_mark k e = subst (λ o. IfSome o (IsMark at c.branches index k)) e (first.right k)

  -- the branch of the mark begins with the same keys
  stem_path : (f : List ℕ) (k : ℕ) → part.front ≡ f ++ k ∷ [] → mark_at marks k ≡ Some m → (back : List ℕ) × (keys_in c.branches m.branch ≡ f ++ k ∷ back)
  stem_path f k e marked =
      let p = parting (keys_in c.branches m.branch) k (is_mark k marked).has_it in
      let path : keys ≡ f ++ k ∷ own = part.is ∙ ap (λ l. l ++ own) e ∙ append_assoc f (k ∷ []) own in
      let same : p.front ≡ f = same_front above p.front p.back f own k (subst (Linked above None) p.is (whole.sound.shares.linked m.branch))
      (subst (Linked above None) path (whole.sound.shares.linked index)) in
      (p.back, p.is ∙ ap (λ l. l ++ k ∷ p.back) same)

  front_known : (k : ℕ) → has k part.front ≡ true → (p : ℕ) × (p < index) × (has k (keys_in c.branches p) ≡ true)
  front_known k h =
      stem_cases marks part.front m ((p : ℕ) × (p < index) × (has k (keys_in c.branches p) ≡ true)) part.marked
      (λ e z. absurd (true≢false (sym (subst (λ l. has k l ≡ true) e h))))
      (λ f j e marked.
      let path = stem_path f j e marked in (
        m.branch,
        (is_mark j marked).within,
        ap (has k) (path.1 ∙ sym (append_assoc f (j ∷ []) path.0)) ∙ has-left k (f ++ j ∷ []) path.0 (subst (λ l. has k l ≡ true) e h),
      ))

  pub cells_are : m.cells ≡ length (line at part.front)
  cells_are =
      stem_cases marks part.front m (m.cells ≡ length (line at part.front)) part.marked
      (λ e z. ap (λ n. n.cells) z ∙ ap (λ l. length (line at l)) (sym e))
      (λ f j e marked.
      let path = stem_path f j e marked in
      let linked = subst Once path.1 (Once-from_linked above (keys_in c.branches m.branch) (whole.sound.shares.linked m.branch)) in
      (is_mark j marked).cells
      ∙ ap (λ l. length (line at (keys_up_to j l))) path.1
      ∙ ap (λ l. length (line at l)) (up_to-here j f path.0 (once_before f j path.0 linked) ∙ sym e))

  total : length (line at keys) ≡ length (line at part.front) + length (line at own)
  total = ap (λ l. length (line at l)) part.is ∙ ap length (line-append at part.front own) ∙ length-append (line at part.front) (line at own)

  -- 32 bits can count the branch's cells: there are fewer than 2^32
  pub own_few : m.cells + length (line at own) < 4294967296
  own_few =
      let short = sound_short at c.branches c.made whole.sound index in
      let most = whole.within.most_cells in
      let cells = whole.within.cells in
      omega (arith, short, most, cells, cells_are, total)

  -- the branches that have a segment have its cells, and no others do
  segment_in : (j k x : ℕ) → has k (keys_in c.branches j) ≡ true → has_cell x (slots_of (at k)) ≡ true → has_slot x (slots_in bs j) ≡ true
  segment_in j k x h g =
      ap (has_slot x) (slots_in_on at c.branches j) ∙ has_slot-has_cell x (line at (keys_in c.branches j)) ∙ line_has at k x (keys_in c.branches j) h g

  segment_out : (j k x : ℕ) → has k (keys_in c.branches j) ≡ false → has_cell x (slots_of (at k)) ≡ true → has_slot x (slots_in bs j) ≡ false
  segment_out j k x h g = false_from_ne_true (has_slot x (slots_in bs j)) (λ e.
      let p = in_line at x (keys_in c.branches j) (sym (has_slot-has_cell x (line at (keys_in c.branches j))) ∙ ap (has_slot x) (sym (slots_in_on at c.branches j)) ∙ e) in
      let same : p.0 ≡ k = whole.sound.apart p.0 k x p.2 g in
      true≢false (sym (subst (λ z. has z (keys_in c.branches j) ≡ true) same p.1) ∙ h))

  abbrev earlier : List Branch
  earlier = take index bs

  out_of_earlier : (j k x : ℕ) → ((i : ℕ) → i < index → has k (keys_in c.branches i) ≡ false) → has_cell x (slots_of (at k)) ≡ true → has_slot x (slots_in earlier j) ≡ false
  out_of_earlier j k x none g = false_from_ne_true (has_slot x (slots_in earlier j)) (λ e.
      let r = slots_in-first index bs j x e in
      true≢false (sym r.1 ∙ segment_out j k x (none j r.0) g))

  in_earlier : (j k x : ℕ) → j < index → has k (keys_in c.branches j) ≡ true → has_cell x (slots_of (at k)) ≡ true → has_slot x (slots_in earlier j) ≡ true
  in_earlier j k x less h g = ap (has_slot x) (slots_in-taken index bs j less) ∙ segment_in j k x h g

  front_in : (x : ℕ) → has_slot x (line at part.front) ≡ true → list_any (holds x) earlier ≡ true
  front_in x h =
      let p = in_line at x part.front (sym (has_slot-has_cell x (line at part.front)) ∙ h) in
      let q = front_known p.0 p.1 in
      any_from earlier q.0 x (in_earlier q.0 p.0 x q.1 q.2 p.2)

  stops : (ks : List ℕ) → ((k : ℕ) → has k ks ≡ true → has k own ≡ true) → StopsAt (is_in_branches earlier) (line at ks)
  stops [] inside = tt
  stops (k ∷ ks) inside =
      let mine = inside k (has-head k ks) in
      by (slots_of (at k)) refl (some_slots c.made (at k) (whole.sound.held index k (in_keys k mine)) (whole.sound.segments k)) mine
    where
      by : (slots : List Slot) → slots_of (at k) ≡ slots → 0 < length (slots_of (at k)) → has k own ≡ true → StopsAt (is_in_branches earlier) (slots_of (at k) ++ line at ks)
      by [] e some mine = let none = ap length e in absurd (omega arith)
      by (s ∷ ss) e some mine =
          subst (λ l. StopsAt (is_in_branches earlier) (l ++ line at ks)) (sym e)
          (any_none earlier s.cell (λ j. out_of_earlier j k s.cell (λ i less. first.none i k (part.unmarked k mine) less)
          (ap (has_cell s.cell) e ∙ has-head s.cell (map cell_of ss))))

  abbrev slots : List Slot
  slots = line at part.front ++ line at own

  slots_are : slots_in bs index ≡ slots
  slots_are = slots_in_on at c.branches index ∙ ap (line at) part.is ∙ line-append at part.front own

  shared_is : shared_with earlier slots ≡ length (line at part.front)
  shared_is = prefix_is (is_in_branches earlier) (line at part.front) (line at own) (all_in earlier (line at part.front) front_in) (stops own (λ k h. h))

  from_is : (n : ℕ) → n ≡ length (line at part.front) → first_with earlier slots n ≡ m.branch
  from_is zero e =
      stem_cases marks part.front m (0 ≡ m.branch) part.marked
      (λ none z. sym (ap (λ n. n.branch) z))
      (λ f j is marked.
      let some = some_slots c.made (at j) (whole.sound.held m.branch j (is_mark j marked).has_it) (whole.sound.segments j) in
      let long = ap (λ l. length (line at l)) is ∙ ap length (line-last at f j) ∙ length-append (line at f) (slots_of (at j)) in
      absurd (omega (arith, some, long, e)))
  from_is (suc n) e =
      stem_cases marks part.front m (first_with earlier slots (suc n) ≡ m.branch) part.marked
      (λ none z. let short = ap (λ l. length (line at l)) none in absurd (omega (arith, short, e)))
      (λ f j is marked.
      let mk = is_mark j marked in
      let some = some_slots c.made (at j) (whole.sound.held m.branch j mk.has_it) (whole.sound.segments j) in
      let long = ap (λ l. length (line at l)) is ∙ ap length (line-last at f j) ∙ length-append (line at f) (slots_of (at j)) in
      let parts : slots ≡ line at f ++ (slots_of (at j) ++ line at own) =
      ap (λ l. line at l ++ line at own) is ∙ ap (λ l. l ++ line at own) (line-last at f j) ∙ append_assoc (line at f) (slots_of (at j)) (line at own) in
      let there : has_cell (cell_in slots n) (slots_of (at j)) ≡ true =
      sym (has_slot-has_cell (cell_in slots n) (slots_of (at j))) ∙ ap (λ l. has_slot (cell_in l n) (slots_of (at j))) parts
      ∙ cell_in-middle (line at f) (slots_of (at j)) (line at own) n (omega (arith, some, long, e)) (omega (arith, some, long, e)) in
      first_is earlier m.branch (cell_in slots n) (in_earlier m.branch j (cell_in slots n) mk.within mk.has_it there)
      (λ i less. ap (has_slot (cell_in slots n)) (slots_in-taken index bs i (omega (arith, less, mk.within))) ∙ segment_out i j (cell_in slots n) (mk.first i less) there))

  steps_are : map step_of (drop (shared_with earlier slots) slots) ≡ map step_of (line at own)
  steps_are = ap (λ n. map step_of (drop n slots)) shared_is ∙ ap (map step_of) (drop-append_seam (line at part.front) (line at own))

  limb_is : (b : Branch) → slice_get bs index ≡ Some b → limb_of earlier b ≡ record { name = b.name; from = m.branch; shared = m.cells; steps = map step_of (line at own) }
  limb_is b e =
      let here : b.slots ≡ slots = sym (slots_at bs index b e) ∙ slots_are in
      let from : first_with earlier slots (shared_with earlier slots) ≡ m.branch = from_is (shared_with earlier slots) shared_is in
      let shared : shared_with earlier slots ≡ m.cells = shared_is ∙ sym cells_are in
      ap (λ l. limb_of earlier (branch b.name l)) here ∙ (λ i. record { name = b.name; from = from i; shared = shared i; steps = steps_are i })

  pub is_limb : (name : List ℕ) → name_in bs index ≡ Some name
      → slice_get (limbs (forest c)) index ≡ Some (record { name = name; from = m.branch; shared = m.cells; steps = map step_of (line at own) })
  is_limb name named = by (slice_get bs index) refl
    where
      by : (o : Option Branch) → slice_get bs index ≡ o
          → slice_get (limbs (forest c)) index ≡ Some (record { name = name; from = m.branch; shared = m.cells; steps = map step_of (line at own) })
      by None e = let none : None ≡ Some name = sym (slice_get-map name_of bs index ∙ ap (option_map name_of) e) ∙ named in cc
      by (Some b) e =
          let one : Some b.name ≡ Some name = sym (slice_get-map name_of bs index ∙ ap (option_map name_of) e) ∙ named in
          let same : b.name ≡ name = cc in
          limbs_at [] bs index b e ∙ ap Some (limb_is b e) ∙ ap (λ n. Some (record { name = n; from = m.branch; shared = m.cells; steps = map step_of (line at own) })) same

  -- after the branch's own keys are marked
  module _ (new : List (Option Mark)) (are_marked : AreMarked at marks new own index m.cells) where
    own_mark : (k : ℕ) → has k own ≡ true → IsMark at c.branches (index + 1) k (mark index (m.cells + length (line at (keys_up_to k own))))
    own_mark k h =
        let up : keys_up_to k keys ≡ part.front ++ keys_up_to k own = ap (keys_up_to k) part.is ∙ keys_up_to-append k part.front own (lacked_in_front part.front own k once h) in
        let long : length (line at (keys_up_to k keys)) ≡ length (line at part.front) + length (line at (keys_up_to k own)) =
        ap (λ l. length (line at l)) up ∙ ap length (line-append at part.front (keys_up_to k own)) ∙ length-append (line at part.front) (line at (keys_up_to k own)) in
        record {
          within = omega arith;
          has_it = in_keys k h;
          first = λ j less. first.none j k (part.unmarked k h) less;
          cells = omega (arith, long, cells_are);
        }

    IsMark-weaker : (k : ℕ) (o : Option Mark) → IfSome o (IsMark at c.branches index k) → IfSome o (IsMark at c.branches (index + 1) k)
    IsMark-weaker k None h = tt
    IsMark-weaker k (Some n) h = record { within = omega (arith, h.within); has_it = h.has_it; first = h.first; cells = h.cells }

    right : (k : ℕ) → IfSome (mark_at new k) (IsMark at c.branches (index + 1) k)
    right k = by (has k own) refl
      where
        by : (b : Bool) → has k own ≡ b → IfSome (mark_at new k) (IsMark at c.branches (index + 1) k)
        by true h = subst (λ o. IfSome o (IsMark at c.branches (index + 1) k)) (sym (are_marked.marked k h)) (own_mark k h)
        by false h = subst (λ o. IfSome o (IsMark at c.branches (index + 1) k)) (sym (are_marked.others k h)) (IsMark-weaker k (mark_at marks k) (first.right k))

    none : (j k : ℕ) → mark_at new k ≡ None → j < index + 1 → has k (keys_in c.branches j) ≡ false
    none j k e less = by (has k own) refl
      where
        at_last : has k own ≡ false → mark_at marks k ≡ None → has k keys ≡ false
        at_last h free = has_not_from k keys (λ g. in_front (has k part.front) refl (sym (ap (has k) part.is ∙ has-append k part.front own) ∙ g))
          where
            in_front : (b : Bool) → has k part.front ≡ b → (has k part.front || has k own) ≡ true → ⊥
            in_front true f g = let q = front_known k f in true≢false (sym q.2 ∙ first.none q.0 k free q.1)
            in_front false f g = true≢false (sym (sym (ap (λ b. b || has k own) f) ∙ g) ∙ h)

        which : has k own ≡ false → mark_at marks k ≡ None → (b : Bool) → nat_eq j index ≡ b → has k (keys_in c.branches j) ≡ false
        which h free true same = subst (λ n. has k (keys_in c.branches n) ≡ false) (sym (eqb-true j index same)) (at_last h free)
        which h free false other = first.none j k free (before other)
          where
            before : nat_eq j index ≡ false → j < index
            before f = let ne : j ≡ index → ⊥ = λ g. true≢false (sym (eq-eqb j index g) ∙ f) in omega (arith, ne, less)

        by : (b : Bool) → has k own ≡ b → has k (keys_in c.branches j) ≡ false
        by true h = let clash : None ≡ Some (mark index (m.cells + length (line at (keys_up_to k own)))) = sym e ∙ are_marked.marked k h in cc
        by false h = which h (sym (are_marked.others k h) ∙ e) (nat_eq j index) refl

    pub marks_next : MarksFirst c (index + 1) new
    marks_next = record { places = λ k h. let p = first.places k h in omega (arith, p, are_marked.count); right = right; none = none }
