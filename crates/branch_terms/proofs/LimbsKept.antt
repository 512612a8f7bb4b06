-- The forest of a forest's limbs is that forest, except for the numbers of its cells.
use Rattle.std.proofs.Common.{◌≡◌, ℕ, zero, suc, ◌+◌, ◌-◌, ◌<◌, ◌≤◌, Bool, true, false, nat_eq, nat_lt, List, [], ◌∷◌, ◌++◌, length, map, take, drop, slice_get, Some, cond, ◌&&◌, refl, sym, ap, subst, ◌∙◌, true≢false, arith, append_assoc, append-nil}
use Rattle.std.specs.List.{list_all, prefix_len, position_or_len}
use Rattle.std.proofs.lemmas.Bool.Decides.{nat_tests}
use Rattle.std.proofs.lemmas.List.{length-append, length-map, map-append, take-append-drop, take-map, length-take-le}
use Rattle.std.proofs.lemmas.List.Sums.{prefix_len-le-length}
use Rattle.schedule_steps.specs.declared.types.Step.{Step}
use Rattle.branch_terms.specs.declared.slot.Slot.{Slot}
use Rattle.branch_terms.specs.declared.limb.Limb.{Limb}
use Rattle.branch_terms.specs.Forest.{Forest, Branch, branch, numbered, slots_in, step_of, cell_in, name_of, IsForest}
use Rattle.branch_terms.specs.Limbs.{has_slot, holds, is_in_branches, shared_with, first_with, limb_of, limbs_after, limbs, slots_on, with_limb, with_limbs, no_branches, forest_of}
use Rattle.branch_terms.specs.Renumbering.{IsRenumbered, is_one_cell}
use Rattle.branch_terms.proofs.LimbLists.{slots_in-front, slots_in-last, slots_in-past, any_from, IsFirst, first_has, all_in, has_taken, cell_in-has, cell_in-taken, steps-numbered}
use Rattle.branch_terms.proofs.LimbsAgain.{IsBuiltFrom, built_from_none, shared_within_stem, built_from_more, limbs_after-put}
use Rattle.branch_terms.proofs.LimbsLawful.{AreSameUpTo, slots_in-left, slots_in-next, place_of_cell, passes_at, limb_may_share}
use Rattle.branch_terms.proofs.Lists.{by_order, cell_in_at, slice_get_some, nat_eq_symmetric, nat_eq_alike}
use Rattle.branch_terms.proofs.LimbLists.{length-numbered}
use Rattle.std.proofs.lemmas.Option.{slice_get_within}

-- lists of cells with the same steps have the same length
same_length : (xs ys : List Slot) → map step_of xs ≡ map step_of ys → length xs ≡ length ys
same_length xs ys e = sym (length-map xs step_of) ∙ ap length e ∙ length-map ys step_of

-- if the branch at an index has a cell, there is a branch at that index
branch_within : (bs : List Branch) (i k : ℕ) → k < length (slots_in bs i) → i < length bs
branch_within [] i k h = absurd (omega arith)
branch_within (b ∷ bs) zero k h = omega arith
branch_within (b ∷ bs) (suc i) k h = let r = branch_within bs i k h in omega arith

-- if the first n items pass the test, the longest prefix whose items pass has at least n items
passes_least : {X : Type 0} (test : X → Bool) (n : ℕ) (xs : List X) → list_all test (take n xs) ≡ true → n ≤ length xs → n ≤ prefix_len test xs
passes_least test zero xs all few = omega arith
passes_least test (suc n) [] all few = absurd (omega arith)
passes_least test (suc n) (x ∷ xs) all few = by (passes_least test n xs) (test x) all
  where
    by : (list_all test (take n xs) ≡ true → n ≤ length xs → n ≤ prefix_len test xs) → (c : Bool) → (c && list_all test (take n xs)) ≡ true
        → suc n ≤ cond c (1 + prefix_len test xs) 0
    by rest true h = let r = rest h (omega arith) in omega arith
    by rest false h = absurd (true≢false (sym h))

-- new cells are numbered one by one: the one at index d has the number `made + d`
cell_in-numbered : (made d : ℕ) (steps : List Step) → d < length steps → cell_in (numbered made steps) d ≡ made + d
cell_in-numbered made d [] less = absurd (omega arith)
cell_in-numbered made zero (s ∷ ss) less = omega arith
cell_in-numbered made (suc d) (s ∷ ss) less = cell_in-numbered (suc made) d ss (omega arith) ∙ omega arith

-- of new cells that follow n shared ones, the one at index `n + d` has the number `made + d`
cell_in-new : (xs : List Slot) (n made d k : ℕ) (steps : List Step) → n ≤ length xs → d < length steps → k ≡ n + d
    → cell_in (take n xs ++ numbered made steps) k ≡ made + d
cell_in-new xs zero made d k steps few less place =
    let same : k ≡ d = omega arith in ap (cell_in (numbered made steps)) same ∙ cell_in-numbered made d steps less
cell_in-new [] (suc n) made d k steps few less place = absurd (omega arith)
cell_in-new (x ∷ xs) (suc n) made d zero steps few less place = absurd (omega arith)
cell_in-new (x ∷ xs) (suc n) made d (suc k) steps few less place = cell_in-new xs n made d k steps (omega arith) less (omega arith)

-- a cell among the first n is the same cell in the list of the first n
cell_in-first : (xs : List Slot) (n k : ℕ) → k < n → cell_in xs k ≡ cell_in (take n xs) k
cell_in-first xs zero k less = absurd (omega arith)
cell_in-first [] (suc n) k less = refl
cell_in-first (x ∷ xs) (suc n) zero less = refl
cell_in-first (x ∷ xs) (suc n) (suc k) less = cell_in-first xs n k (omega arith)

-- two lists of cells that are equal up to each common cell; the cell at index k of the first is the
-- one at index m of the second
module _ (xs ys : List Slot) (agree : AreSameUpTo xs ys) (k m : ℕ) (inside : k < length xs) (within : m < length ys)
    (same : cell_in xs k ≡ cell_in ys m) where
  -- the lists are equal up to this cell
  same_up_to : take (suc k) xs ≡ take (suc m) ys
  same_up_to =
      let s = slice_get_some xs k inside in
      let t = slice_get_some ys m within in
      agree k m s.0 t.0 s.1 t.1 (sym (cell_in_at xs k s.0 s.1) ∙ same ∙ cell_in_at ys m t.0 t.1)

  -- this cell is at the same index in both lists
  same_place : k ≡ m
  same_place =
      let left : length (take (suc k) xs) ≡ suc k = length-take-le (suc k) xs (omega arith) in
      let right : length (take (suc m) ys) ≡ suc m = length-take-le (suc m) ys (omega arith) in
      let up : length (take (suc k) xs) ≡ length (take (suc m) ys) = ap length same_up_to in
      omega arith

-- a branch b after the branches `earlier`: b and each of these are equal up to each common cell
module _ (earlier : List Branch) (b : Branch) (agree : (j : ℕ) → j < length earlier → AreSameUpTo b.slots (slots_in earlier j)) where
  -- how many of its first cells b shares with earlier branches
  abbrev common : ℕ
  common = shared_with earlier b.slots

  -- the index of the first earlier branch that has the last shared cell
  abbrev stem : ℕ
  stem = first_with earlier b.slots common

  -- b has at least as many cells as it shares
  common_few : common ≤ length b.slots
  common_few = prefix_len-le-length (is_in_branches earlier) b.slots

  -- up to a shared cell s, b has the same cells as the first earlier branch that has s
  front_of : (k : ℕ) → k < common → (s : Slot) → slice_get b.slots k ≡ Some s
      → take (suc k) b.slots ≡ take (suc k) (slots_in earlier (position_or_len (holds s.cell) earlier))
  front_of k less s here =
      let few = common_few in
      let first : IsFirst earlier s.cell (position_or_len (holds s.cell) earlier) = first_has earlier s.cell (passes_at (is_in_branches earlier) b.slots k s here less) in
      let ys = slots_in earlier (position_or_len (holds s.cell) earlier) in
      let p = place_of_cell s.cell ys first.has_it in
      let inside : p.0 < length ys = slice_get_within ys p.0 p.1 p.2 in
      let same : cell_in b.slots k ≡ cell_in ys p.0 = cell_in_at b.slots k s here ∙ sym p.3 ∙ sym (cell_in_at ys p.0 p.1 p.2) in
      let up = agree (position_or_len (holds s.cell) earlier) first.within in
      subst (λ n. take (suc k) b.slots ≡ take (suc n) ys) (sym (same_place b.slots ys up k p.0 (omega arith) inside same))
      (same_up_to b.slots ys up k p.0 (omega arith) inside same)

  -- if the first k cells of b are shared, they are the first k cells of an earlier branch: of the
  -- first one that has the last of these cells
  front_by : (k : ℕ) → k ≤ common → take k b.slots ≡ take k (slots_in earlier (first_with earlier b.slots k))
  front_by zero few = refl
  front_by (suc k) few =
      let most = common_few in
      let s = slice_get_some b.slots k (omega arith) in
      subst (λ x. take (suc k) b.slots ≡ take (suc k) (slots_in earlier (position_or_len (holds x) earlier))) (sym (cell_in_at b.slots k s.0 s.1))
      (front_of k (omega arith) s.0 s.1)

  -- the shared cells are the first cells of the earlier branch at index `stem`
  front_is : take common b.slots ≡ take common (slots_in earlier stem)
  front_is = front_by common (omega arith)

  -- no earlier branch has any of b's cells after the shared ones
  own_apart : (k j m : ℕ) → common ≤ k → k < length b.slots → m < length (slots_in earlier j) → cell_in b.slots k ≡ cell_in (slots_in earlier j) m → ⊥
  own_apart k j m more inside within same =
      let up : take (suc k) b.slots ≡ take (suc m) (slots_in earlier j) =
      same_up_to b.slots (slots_in earlier j) (agree j (branch_within earlier j m within)) k m inside within same in
      let all : list_all (is_in_branches earlier) (take (suc k) b.slots) ≡ true =
      all_in earlier (take (suc k) b.slots)
      (λ x e. any_from earlier j x (has_taken (suc m) x (slots_in earlier j) (subst (λ l. has_slot x l ≡ true) up e))) in
      let least = passes_least (is_in_branches earlier) (suc k) b.slots all (omega arith) in
      omega arith

-- the forest with these branches; `made` is 0, since `IsRenumbered` ignores it
abbrev forest_with : List Branch → Forest
forest_with branches = record { branches = branches; made = 0 }

-- Two sides that are equal except for the numbers of cells: the branches `earlier`, and the forest
-- g. Branch b is added to the first side, and the limb of b to the second.
module _ (earlier : List Branch) (b : Branch) (agree : (j : ℕ) → j < length earlier → AreSameUpTo b.slots (slots_in earlier j))
    (once : AreSameUpTo b.slots b.slots)
    (g : Forest) (built : IsBuiltFrom (limbs_after [] earlier) g) (kept : IsRenumbered (forest_with earlier) g) where
  -- the limb of b
  abbrev l : Limb
  l = limb_of earlier b

  -- the cells of the limb's branch in g
  abbrev new : List Slot
  new = slots_on g l

  -- the branches of the first side, with b
  abbrev first_side : List Branch
  first_side = earlier ++ b ∷ []

  -- the branches of the second side, with the limb's branch
  abbrev second_side : List Branch
  second_side = g.branches ++ branch b.name new ∷ []

  -- the cells of the branch of g from which the limb's branch starts
  abbrev origin : List Slot
  origin = slots_in g.branches l.from

  -- there are at least as many of these cells as the limb shares
  enough : l.shared ≤ length origin
  enough = shared_within_stem (limbs_after [] earlier) g l built (limb_may_share earlier b agree)

  -- both sides have the same number of branches before b and its limb are added
  count : length earlier ≡ length g.branches
  count = sym (length-map earlier name_of) ∙ ap length kept.names ∙ length-map g.branches name_of

  -- each earlier branch has the same number of cells on both sides
  lengths : (i : ℕ) → length (slots_in earlier i) ≡ length (slots_in g.branches i)
  lengths i = same_length (slots_in earlier i) (slots_in g.branches i) (kept.steps i)

  -- b and the limb's branch have the same steps
  steps_new : map step_of b.slots ≡ map step_of new
  steps_new =
      let own = drop l.shared b.slots in
      ap (map step_of) (sym (take-append-drop l.shared b.slots))
      ∙ map-append step_of (take l.shared b.slots) own
      ∙ ap (λ xs. map step_of xs ++ map step_of own) (front_is earlier b agree)
      ∙ ap (λ ss. ss ++ map step_of own)
      (sym (take-map step_of l.shared (slots_in earlier l.from)) ∙ ap (take l.shared) (kept.steps l.from) ∙ take-map step_of l.shared origin)
      ∙ ap (λ ss. map step_of (take l.shared origin) ++ ss) (sym (steps-numbered g.made l.steps))
      ∙ sym (map-append step_of (take l.shared origin) (numbered g.made l.steps))

  -- the names stay equal on both sides
  names_more : map name_of first_side ≡ map name_of second_side
  names_more =
      map-append name_of earlier (b ∷ []) ∙ ap (λ ns. ns ++ b.name ∷ []) kept.names ∙ sym (map-append name_of g.branches (branch b.name new ∷ []))

  -- on both sides the earlier branches are unchanged, the last is b or the limb's branch, and none
  -- follows
  first_side_front : (i : ℕ) → i < length earlier → slots_in first_side i ≡ slots_in earlier i
  first_side_front i less = slots_in-front earlier b i less

  second_side_front : (i : ℕ) → i < length earlier → slots_in second_side i ≡ slots_in g.branches i
  second_side_front i less = slots_in-front g.branches (branch b.name new) i (omega (arith, count))

  first_side_last : (i : ℕ) → i ≡ length earlier → slots_in first_side i ≡ b.slots
  first_side_last i e = ap (slots_in first_side) e ∙ slots_in-last earlier b

  second_side_last : (i : ℕ) → i ≡ length earlier → slots_in second_side i ≡ new
  second_side_last i e = ap (slots_in second_side) (e ∙ count) ∙ slots_in-last g.branches (branch b.name new)

  first_side_past : (i : ℕ) → length earlier < i → slots_in first_side i ≡ []
  first_side_past i more = slots_in-past first_side i (omega (arith, length-append earlier (b ∷ [])))

  second_side_past : (i : ℕ) → length earlier < i → slots_in second_side i ≡ []
  second_side_past i more = slots_in-past second_side i (omega (arith, count, length-append g.branches (branch b.name new ∷ [])))

  -- each branch has the same steps on both sides
  steps_more : (i : ℕ) → map step_of (slots_in first_side i) ≡ map step_of (slots_in second_side i)
  steps_more i =
      by_order i (length earlier) (map step_of (slots_in first_side i) ≡ map step_of (slots_in second_side i))
      (λ less. ap (map step_of) (first_side_front i less) ∙ kept.steps i ∙ ap (map step_of) (sym (second_side_front i less)))
      (λ e. ap (map step_of) (first_side_last i e) ∙ steps_new ∙ ap (map step_of) (sym (second_side_last i e)))
      (λ more. ap (map step_of) (first_side_past i more ∙ sym (second_side_past i more)))

  -- place k of branch i has an old cell: on both sides the one at place k of the earlier branch j
  record IsOld (i k : ℕ) : Type 0 where
    j : ℕ
    within : k < length (slots_in earlier j)
    left : cell_in (slots_in first_side i) k ≡ cell_in (slots_in earlier j) k
    right : cell_in (slots_in second_side i) k ≡ cell_in (slots_in g.branches j) k

  -- place k of branch i has one of the last branch's own cells, the one at index d of these: on the
  -- first side the cell of b, on the second a new cell of g
  record IsOwn (i k : ℕ) : Type 0 where
    d : ℕ
    place : k ≡ l.shared + d
    within : k < length b.slots
    left : cell_in (slots_in first_side i) k ≡ cell_in b.slots k
    right : cell_in (slots_in second_side i) k ≡ g.made + d

  -- each place of an earlier branch has an old cell
  old_front : (i k : ℕ) → i < length earlier → k < length (slots_in first_side i) → IsOld i k
  old_front i k less within = record {
    j = i;
    within = subst (λ xs. k < length xs) (first_side_front i less) within;
    left = ap (λ xs. cell_in xs k) (first_side_front i less);
    right = ap (λ xs. cell_in xs k) (second_side_front i less);
  }

  -- each shared place of the last branch has an old cell
  old_last : (i k : ℕ) → i ≡ length earlier → k < l.shared → IsOld i k
  old_last i k e less =
      let few = common_few earlier b agree in
      let long = enough in
      let size = lengths l.from in
      let front_cell : cell_in b.slots k ≡ cell_in (take l.shared b.slots) k = cell_in-first b.slots l.shared k less in
      record {
        j = l.from;
        within = omega arith;
        left =
            ap (λ xs. cell_in xs k) (first_side_last i e) ∙ front_cell ∙ ap (λ xs. cell_in xs k) (front_is earlier b agree)
            ∙ sym (cell_in-first (slots_in earlier l.from) l.shared k less);
        right = ap (λ xs. cell_in xs k) (second_side_last i e) ∙ cell_in-taken origin (numbered g.made l.steps) l.shared k less long;
      }

  -- each later place of the last branch has one of its own cells
  own_last : (i k d : ℕ) → i ≡ length earlier → k ≡ l.shared + d → k < length b.slots → IsOwn i k
  own_last i k d e place inside =
      let size : length b.slots ≡ l.shared + length l.steps =
      same_length b.slots new steps_new ∙ length-append (take l.shared origin) (numbered g.made l.steps)
      ∙ (λ z. length-take-le l.shared origin enough z + length-numbered g.made l.steps z) in
      record {
        d = d;
        place = place;
        within = inside;
        left = ap (λ xs. cell_in xs k) (first_side_last i e);
        right = ap (λ xs. cell_in xs k) (second_side_last i e) ∙ cell_in-new origin l.shared g.made d k l.steps enough (omega arith) place;
      }

  -- each place of the last branch has an old cell or one of its own
  last_place : (i k : ℕ) (P : Type 0) → i ≡ length earlier → k < length (slots_in first_side i) → (IsOld i k → P) → (IsOwn i k → P) → P
  last_place i k P e within old own = by (nat_lt k l.shared) refl
    where
      by : (x : Bool) → nat_lt k l.shared ≡ x → P
      by true f = old (old_last i k e (grind (arith, nat_tests)))
      by false f =
          let more : l.shared ≤ k = grind (arith, nat_tests) in
          own (own_last i k (k - l.shared) e (omega arith) (subst (λ xs. k < length xs) (first_side_last i e) within))

  -- each place of each branch has an old cell or one of the own cells of the last branch
  places : (i k : ℕ) (P : Type 0) → k < length (slots_in first_side i) → (IsOld i k → P) → (IsOwn i k → P) → P
  places i k P within old own =
      by_order i (length earlier) P
      (λ less. old (old_front i k less within))
      (λ e. last_place i k P e within old own)
      (λ more. let none : length (slots_in first_side i) ≡ 0 = ap length (first_side_past i more) in absurd (omega arith))

  -- on the second side, the number of an old cell is below the number of cells made
  old_below : (i k : ℕ) → IsOld i k → cell_in (slots_in second_side i) k < g.made
  old_below i k p =
      let xs = slots_in g.branches p.j in
      subst (λ x. x < g.made) (sym p.right) (built.given p.j (cell_in xs k) (cell_in-has xs k (omega (arith, p.within, lengths p.j))))

  -- two places with old cells have the same cell on one side exactly if they do on the other
  cells_old : (i k j m : ℕ) → IsOld i k → IsOld j m → is_one_cell first_side i k j m ≡ is_one_cell second_side i k j m
  cells_old i k j m p q = (λ z. nat_eq (p.left z) (q.left z)) ∙ kept.cells p.j k q.j m p.within q.within ∙ sym (λ z. nat_eq (p.right z) (q.right z))

  -- on neither side does a place with one of the last branch's own cells have the same cell as a
  -- place with an old cell
  cells_apart : (i k j m : ℕ) → IsOwn i k → IsOld j m → is_one_cell first_side i k j m ≡ is_one_cell second_side i k j m
  cells_apart i k j m p q =
      nat_eq_alike (cell_in (slots_in first_side i) k) (cell_in (slots_in first_side j) m) (cell_in (slots_in second_side i) k) (cell_in (slots_in second_side j) m)
      (λ e. absurd (own_apart earlier b agree k q.j m (omega (arith, p.place)) p.within q.within (sym p.left ∙ e ∙ q.left)))
      (λ e. absurd (omega (arith, e, p.right, old_below j m q)))

  -- two places with own cells have the same cell only if they are the same place, on both sides
  cells_own : (i k j m : ℕ) → IsOwn i k → IsOwn j m → is_one_cell first_side i k j m ≡ is_one_cell second_side i k j m
  cells_own i k j m p q =
      nat_eq_alike (cell_in (slots_in first_side i) k) (cell_in (slots_in first_side j) m) (cell_in (slots_in second_side i) k) (cell_in (slots_in second_side j) m)
      (λ e. let one = same_place b.slots b.slots once k m p.within q.within (sym p.left ∙ e ∙ q.left) in omega (arith, one, p.place, q.place, p.right, q.right))
      (λ e. let one : k ≡ m = omega (arith, e, p.place, q.place, p.right, q.right) in p.left ∙ ap (cell_in b.slots) one ∙ sym q.left)

  -- any two places have the same cell on one side exactly if they do on the other
  cells_more : (i k j m : ℕ) → k < length (slots_in first_side i) → m < length (slots_in first_side j) → is_one_cell first_side i k j m ≡ is_one_cell second_side i k j m
  cells_more i k j m inside within =
      let P = is_one_cell first_side i k j m ≡ is_one_cell second_side i k j m in
      places i k P inside
      (λ p. places j m P within (cells_old i k j m p)
      (λ q. nat_eq_symmetric (cell_in (slots_in first_side i) k) (cell_in (slots_in first_side j) m) ∙ cells_apart j m i k q p
      ∙ nat_eq_symmetric (cell_in (slots_in second_side j) m) (cell_in (slots_in second_side i) k)))
      (λ p. places j m P within (cells_apart i k j m p) (cells_own i k j m p))

  -- with b and its limb, both sides are still equal except for the numbers of cells
  kept_more : IsRenumbered (forest_with first_side) (with_limb g l)
  kept_more = record { names = names_more; steps = steps_more; cells = cells_more }

-- if the first branches of a forest and the forest g are equal except for the numbers of cells, so
-- are all its branches and g with the limbs of the others added
kept_from : (f : Forest) → IsForest f → (earlier rest : List Branch) → f.branches ≡ earlier ++ rest → (g : Forest)
    → IsBuiltFrom (limbs_after [] earlier) g → IsRenumbered (forest_with earlier) g → IsRenumbered (forest_with f.branches) (with_limbs g (limbs_after earlier rest))
kept_from f h earlier [] e g built kept = subst (λ bs. IsRenumbered (forest_with bs) g) (sym (append-nil earlier) ∙ sym e) kept
kept_from f h earlier (b ∷ bs) e g built kept =
    let here : slots_in f.branches (length earlier) ≡ b.slots = ap (λ l. slots_in l (length earlier)) e ∙ slots_in-next earlier bs b in
    let agree : (j : ℕ) → j < length earlier → AreSameUpTo b.slots (slots_in earlier j) = λ j less.
    subst (λ xs. AreSameUpTo xs (slots_in earlier j)) here
    (subst (λ ys. AreSameUpTo (slots_in f.branches (length earlier)) ys) (ap (λ l. slots_in l j) e ∙ slots_in-left earlier (b ∷ bs) j less) (h.shared (length earlier) j)) in
    let once : AreSameUpTo b.slots b.slots = subst (λ xs. AreSameUpTo xs xs) here (h.shared (length earlier) (length earlier)) in
    let next : IsBuiltFrom (limbs_after [] (earlier ++ b ∷ [])) (with_limb g (limb_of earlier b)) =
    subst (λ ls. IsBuiltFrom ls (with_limb g (limb_of earlier b))) (sym (limbs_after-put [] earlier b))
    (built_from_more (limbs_after [] earlier) g (limb_of earlier b) built (limb_may_share earlier b agree)) in
    kept_from f h (earlier ++ b ∷ []) bs (e ∙ sym (append_assoc earlier (b ∷ []) bs)) (with_limb g (limb_of earlier b)) next
    (kept_more earlier b agree once g built kept)

-- two forests with no branches are equal
kept_none : IsRenumbered (forest_with []) no_branches
kept_none = record { names = refl; steps = λ i. refl; cells = λ i k j m inside within. refl }

-- the forest of a forest's limbs is that forest, except for the numbers of its cells
pub limbs_kept : (f : Forest) → IsForest f → IsRenumbered f (forest_of (limbs f))
limbs_kept f h =
    let r = kept_from f h [] f.branches refl no_branches built_from_none kept_none in
    record { names = r.names; steps = r.steps; cells = r.cells }
