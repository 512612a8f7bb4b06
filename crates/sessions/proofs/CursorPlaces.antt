-- Cursors are within their branches, also after an edit.
use Rattle.std.proofs.Common.{◌≡◌, ℕ, zero, suc, ◌+◌, ◌<◌, ◌≤◌, Bool, true, false, not, ◌&&◌, cond, nat_eq, nat_lt, nat_le, List, [], ◌∷◌, ◌++◌, length, map, take, slice_get, get_or, Option, Some, None, Ok, Err, IfOk, is_some, refl, sym, ap, subst, ◌∙◌, true≢false, arith}
use Rattle.std.specs.Option.{option_map, IfSome}
use Rattle.std.specs.List.{position, position_or_len, remove, list_any}
use Rattle.std.specs.Cmp.Lexicographic.{pointwise, nat_list_eq_equiv}
use Rattle.std.proofs.lemmas.List.{length-append, length-map, length-take-le, get_or-set_same, get_or-set_other}
use Rattle.std.specs.Prelude.{slice_set}
use Rattle.std.proofs.lemmas.List.Folds.{list_any_at}
use Rattle.std.proofs.Math.ListN.{get_or-map}
use Rattle.std.proofs.lemmas.List.Quantifiers.{position-Some}
use Rattle.std.proofs.lemmas.List.Sums.{fails_before_first}
use Rattle.std.proofs.lemmas.Option.{slice_get-get_or, slice_get_within, slice_get_past, get_or_from_slice_get}
use Rattle.std.proofs.lemmas.Bool.{and_parts, eqb-true, eqb-false, le-ltb, leb-false, ltb-false, ltb-true}
use Rattle.branch_terms.proofs.LimbLists.{length-numbered}
use Rattle.branch_terms.proofs.Lists.{cell_in_at}
use Rattle.schedule_trie.proofs.branches.NamesApart.{found_apart}
use Rattle.frames.specs.declared.types.Step.{Step}
use Rattle.schedule_trie.specs.declared.slot.Slot.{Slot}
use Rattle.schedule_trie.specs.declared.limits.Limits.{Limits}
use Rattle.schedule_trie.specs.declared.refusal.Refusal.TheVariants.{NoPlace, Full, NameTaken, BadName, TooManyBranches, LastBranch}
use Rattle.schedule_trie.specs.Names.{is_well_formed}
use Rattle.schedule_trie.specs.Edits.{Edit, Insert, Remove, Replace, Fork, Detach, Drop, edited}
use Rattle.schedule_trie.specs.Forest as forests
use Rattle.schedule_trie.specs.Forest.{Forest, Branch, IsForest, AreNamedApart, index_of, slots_in, name_in, name_of, everywhere, only_in, put_before, put_last, without, is_cell, cell_in, cell_of, cell_on_branch, cell_by, place_of, place_by, len_of}
use Rattle.cutoff.specs.Charts.{looked_at}
use Rattle.pages.proofs.Linearizations.{some_if_is_some}
use Rattle.views.specs.Looks.{steps_in}
use Rattle.views.proofs.Spots.{len_is_step_count}
use Rattle.sessions.specs.declared.cursor.Cursor.{Cursor}
use Rattle.sessions.specs.declared.cursor.Shift.{Shift}
use Rattle.sessions.specs.declared.cursor.Shift.TheVariants as shift
use Rattle.sessions.specs.Edits.{moved_by, drops_occupied}
use Rattle.sessions.specs.Cursors.{AreAtPlaces, first_cursor, IsAtPlace, cursor_at, each_cursor, is_occupied, is_on_branch, cursor, acts_in, is_shifted_by, shifted, shifted_place}
use Rattle.sessions.proofs.EditCases.{tested_ok, found_ok, from_ok}

same_name : (xs ys : List ℕ) → pointwise nat_eq xs ys ≡ true → xs ≡ ys
same_name [] [] e = refl
same_name [] (y ∷ ys) e = cc
same_name (x ∷ xs) [] e = cc
same_name (x ∷ xs) (y ∷ ys) e = by (same_name xs ys) (nat_eq x y) refl e
  where
    by : (pointwise nat_eq xs ys ≡ true → xs ≡ ys) → (b : Bool) → nat_eq x y ≡ b → (b && pointwise nat_eq xs ys) ≡ true → x ∷ xs ≡ y ∷ ys
    by rest true h g =
        let following : xs ≡ ys = rest g in
        let here : x ≡ y = eqb-true x y h in
        cc
    by rest false h g = cc

-- a cursor is at a place that exists: its branch has this index, and is long enough
pub record IsWithinBranch (bs : List Branch) (c : Cursor) : Type 0 where
  pub index : ℕ
  pub named : name_in bs index ≡ Some c.branch
  pub within : c.place ≤ length (slots_in bs index)

named_at : (name : List ℕ) (bs : List Branch) (i : ℕ) → index_of bs name ≡ Some i → name_in bs i ≡ Some name
named_at name bs i e =
    let p = position-Some (pointwise nat_eq name) (map name_of bs) i name e in
    let same : name ≡ get_or (map name_of bs) i name = same_name name (get_or (map name_of bs) i name) p.1 in
    slice_get-get_or (map name_of bs) i name p.0 ∙ ap Some (sym same)

found_if_looked : (f : Forest) (place : ℕ) (o : Option ℕ) → forests.on_found o (looked_at f place) ≡ Ok f → (i : ℕ) × (o ≡ Some i) × (place ≤ length (slots_in f.branches i))
found_if_looked f place None e = absurd (cc)
found_if_looked f place (Some i) e = (i, refl, by (nat_lt (length (slots_in f.branches i)) place) refl e)
  where
    by : (b : Bool) → nat_lt (length (slots_in f.branches i)) place ≡ b → cond b (Err NoPlace) (Ok f) ≡ Ok f → place ≤ length (slots_in f.branches i)
    by true h g = absurd (cc)
    by false h g = ltb-false (length (slots_in f.branches i)) place h

pub within_branch : (f : Forest) (c : Cursor) → IsAtPlace f c → IsWithinBranch f.branches c
within_branch f c e =
    let p = found_if_looked f c.place (index_of f.branches c.branch) e in
    record { index = p.0; named = named_at c.branch f.branches p.0 p.1; within = p.2 }

pub at_place_if_within : (f : Forest) (c : Cursor) → AreNamedApart f.branches → IsWithinBranch f.branches c → IsAtPlace f c
at_place_if_within f c apart s =
    ap (λ o. forests.on_found o (looked_at f c.place)) (found_apart f.branches s.index c.branch apart s.named)
    ∙ ap (λ b. cond b (Err NoPlace) (Ok f)) (le-ltb (length (slots_in f.branches s.index)) c.place s.within)

-- a cursor's place still exists if the branches keep their names and none of them is shorter
pub on_longer : (bs cs : List Branch) (c : Cursor) → map name_of cs ≡ map name_of bs → ((j : ℕ) → length (slots_in bs j) ≤ length (slots_in cs j)) → IsWithinBranch bs c → IsWithinBranch cs c
on_longer bs cs c names longer s =
    let more = longer s.index in
    record { index = s.index; named = ap (λ ns. slice_get ns s.index) names ∙ s.named; within = omega (arith, s.within) }

names_everywhere : (g : List Slot → List Slot) (bs : List Branch) → map name_of (everywhere g bs) ≡ map name_of bs
names_everywhere g [] = refl
names_everywhere g (b ∷ bs) = ap (λ ns. b.name ∷ ns) (names_everywhere g bs)

slots_everywhere : (g : List Slot → List Slot) (bs : List Branch) (j : ℕ) → g [] ≡ [] → slots_in (everywhere g bs) j ≡ g (slots_in bs j)
slots_everywhere g [] j e = sym e
slots_everywhere g (b ∷ bs) zero e = refl
slots_everywhere g (b ∷ bs) (suc j) e = slots_everywhere g bs j e

names_only_in : (i : ℕ) (g : List Slot → List Slot) (bs : List Branch) → map name_of (only_in i g bs) ≡ map name_of bs
names_only_in i g [] = refl
names_only_in zero g (b ∷ bs) = refl
names_only_in (suc i) g (b ∷ bs) = ap (λ ns. b.name ∷ ns) (names_only_in i g bs)

longer_only_in : (i : ℕ) (g : List Slot → List Slot) (bs : List Branch) → ((l : List Slot) → length l ≤ length (g l)) → (j : ℕ) → length (slots_in bs j) ≤ length (slots_in (only_in i g bs) j)
longer_only_in i g [] h j = omega arith
longer_only_in zero g (b ∷ bs) h zero = h b.slots
longer_only_in zero g (b ∷ bs) h (suc j) = omega arith
longer_only_in (suc i) g (b ∷ bs) h zero = omega arith
longer_only_in (suc i) g (b ∷ bs) h (suc j) = longer_only_in i g bs h j

-- a branch with a cell added before the one with number `x`
module _ (x : ℕ) (new : Slot) where
  pub put_longer : (slots : List Slot) → length slots ≤ length (put_before x new slots)
  put_longer [] = omega arith
  put_longer (y ∷ ys) = by (put_longer ys) (nat_eq y.cell x)
    where
      by : length ys ≤ length (put_before x new ys) → (b : Bool) → suc (length ys) ≤ length (cond b (new ∷ y ∷ []) (y ∷ []) ++ put_before x new ys)
      by rest true = omega arith
      by rest false = omega arith

  pub put_one_more : (slots : List Slot) (k : ℕ) (s : Slot) → slice_get slots k ≡ Some s → s.cell ≡ x → suc (length slots) ≤ length (put_before x new slots)
  put_one_more [] k s e h = absurd (cc)
  put_one_more (y ∷ ys) zero s e h = by (put_longer ys) (nat_eq y.cell x) refl
    where
      by : length ys ≤ length (put_before x new ys) → (b : Bool) → nat_eq y.cell x ≡ b → suc (suc (length ys)) ≤ length (cond b (new ∷ y ∷ []) (y ∷ []) ++ put_before x new ys)
      by rest true g = omega arith
      by rest false g = let same : y ≡ s = cc in absurd (eqb-false y.cell x g (ap (λ z. z.cell) same ∙ h))
  put_one_more (y ∷ ys) (suc k) s e h = by (put_one_more ys k s e h) (nat_eq y.cell x)
    where
      by : suc (length ys) ≤ length (put_before x new ys) → (b : Bool) → suc (suc (length ys)) ≤ length (cond b (new ∷ y ∷ []) (y ∷ []) ++ put_before x new ys)
      by rest true = omega arith
      by rest false = omega arith

-- none of these cells has the number x
abbrev pub HasNoCell : ℕ → List Slot → Type 0
HasNoCell x slots = (k : ℕ) (s : Slot) → slice_get slots k ≡ Some s → s.cell ≡ x → ⊥

-- the number x is the number of at most one of these cells
abbrev pub HasCellAtMostOnce : ℕ → List Slot → Type 0
HasCellAtMostOnce x slots = (k l : ℕ) (s t : Slot) → slice_get slots k ≡ Some s → slice_get slots l ≡ Some t → s.cell ≡ x → t.cell ≡ x → k ≡ l

-- if no cell has the number x, removing the cells with this number removes none
pub without_none : (x : ℕ) (slots : List Slot) → HasNoCell x slots → length slots ≤ length (without x slots)
without_none x [] h = omega arith
without_none x (y ∷ ys) h = by (without_none x ys (λ k s e c. h (suc k) s e c)) (nat_eq y.cell x) refl
  where
    by : length ys ≤ length (without x ys) → (b : Bool) → nat_eq y.cell x ≡ b → suc (length ys) ≤ length (cond (not b) (y ∷ without x ys) (without x ys))
    by rest true e = absurd (h 0 y refl (eqb-true y.cell x e))
    by rest false e = omega arith

-- if at most one cell has the number x, removing the cells with this number removes at most one
pub without_one : (x : ℕ) (slots : List Slot) → HasCellAtMostOnce x slots → length slots ≤ suc (length (without x slots))
without_one x [] h = omega arith
without_one x (y ∷ ys) h = by (without_one x ys (λ k l s t d e a b. let same : suc k ≡ suc l = h (suc k) (suc l) s t d e a b in omega arith)) (nat_eq y.cell x) refl
  where
    lacks : y.cell ≡ x → HasNoCell x ys
    lacks e k s at c = let same : 0 ≡ suc k = h 0 (suc k) y s refl at e c in omega arith

    by : length ys ≤ suc (length (without x ys)) → (b : Bool) → nat_eq y.cell x ≡ b → suc (length ys) ≤ suc (length (cond (not b) (y ∷ without x ys) (without x ys)))
    by rest true e = let all = without_none x ys (lacks (eqb-true y.cell x e)) in omega arith
    by rest false e = omega arith

-- if place k was found for the number x, there is a cell at k, and its number is x
pub cell_found : (x k : ℕ) (slots : List Slot) (d : Slot) → position (is_cell x) slots ≡ Some k → (s : Slot) × (slice_get slots k ≡ Some s) × (s.cell ≡ x)
cell_found x k slots d e =
    let p = position-Some (is_cell x) slots k d e in
    (get_or slots k d, slice_get-get_or slots k d p.0, eqb-true (get_or slots k d).cell x p.1)

-- if no place was found for the number x, no cell has this number
pub cell_lacked : (x : ℕ) (slots : List Slot) → position (is_cell x) slots ≡ None → HasNoCell x slots
cell_lacked x slots e k s at c = by (nat_lt (position_or_len (is_cell x) slots) (length slots)) refl e
  where
    inside : k < length slots
    inside = slice_get_within slots k s at

    here : get_or slots k s ≡ s
    here = get_or_from_slice_get slots k s s at

    by : (b : Bool) → nat_lt (position_or_len (is_cell x) slots) (length slots) ≡ b → cond b (Some (position_or_len (is_cell x) slots)) None ≡ None → ⊥
    by true h g = absurd (cc)
    by false h g =
        let past : length slots ≤ position_or_len (is_cell x) slots = ltb-false (position_or_len (is_cell x) slots) (length slots) h in
        let other : is_cell x (get_or slots k s) ≡ false = fails_before_first (is_cell x) slots k s (omega (arith, inside)) in
        eqb-false s.cell x (ap (is_cell x) (sym here) ∙ other) c

pub slot_at_place : (slots : List Slot) (k : ℕ) → k < length slots → (s : Slot) × (slice_get slots k ≡ Some s)
slot_at_place [] k h = absurd (omega arith)
slot_at_place (y ∷ ys) zero h = (y, refl)
slot_at_place (y ∷ ys) (suc k) h = slot_at_place ys k (omega arith)

-- cells of one branch that have the same number are at the same place
pub same_cell_same_place : (f : Forest) → IsForest f → (j k l : ℕ) (s t : Slot) → slice_get (slots_in f.branches j) k ≡ Some s → slice_get (slots_in f.branches j) l ≡ Some t → s.cell ≡ t.cell → k ≡ l
same_cell_same_place f held j k l s t d e c =
    let slots = slots_in f.branches j in
    let shared : take (suc k) slots ≡ take (suc l) slots = held.shared j j k l s t d e c in
    let within_k : k < length slots = slice_get_within slots k s d in
    let within_l : l < length slots = slice_get_within slots l t e in
    let first : length (take (suc k) slots) ≡ suc k = length-take-le (suc k) slots (omega arith) in
    let second : length (take (suc l) slots) ≡ suc l = length-take-le (suc l) slots (omega arith) in
    let lengths : length (take (suc k) slots) ≡ length (take (suc l) slots) = ap length shared in
    omega arith

-- an edit at a place of a branch, and a cursor
module _ (f : Forest) (held : IsForest f) (name : List ℕ) (place i : ℕ) (found : index_of f.branches name ≡ Some i) (c : Cursor) (s : IsWithinBranch f.branches c) where
  abbrev here : List Slot
  here = slots_in f.branches i

  abbrev there : List Slot
  there = slots_in f.branches s.index

  place_of_is : (x : ℕ) → place_of f c.branch x ≡ position (is_cell x) there
  place_of_is x = ap (λ o. place_by o f x) (found_apart f.branches s.index c.branch held.apart s.named)

  cell_is : (t : Slot) → slice_get here place ≡ Some t → cell_on_branch f name place ≡ Some t.cell
  cell_is t e = ap (λ o. cell_by o f place) found ∙ ap (option_map cell_of) e

  cell_none : length here ≤ place → cell_on_branch f name place ≡ None
  cell_none past = ap (λ o. cell_by o f place) found ∙ ap (option_map cell_of) (slice_get_past here place past)

  -- an edit at the end of a branch moves no cursor
  none_shifted : length here ≤ place → is_shifted_by f name place c ≡ true → ⊥
  none_shifted past e =
      let p = and_parts (pointwise nat_eq name c.branch) (nat_lt place c.place) (ap (λ o. acts_in o f name c.branch && nat_lt place c.place) (sym (cell_none past)) ∙ e) in
      let same : name ≡ c.branch = same_name name c.branch p.0 in
      let index : Some i ≡ Some s.index = sym found ∙ ap (index_of f.branches) same ∙ found_apart f.branches s.index c.branch held.apart s.named in
      let one : i ≡ s.index = cc in
      let lengths : length here ≡ length there = ap (λ j. length (slots_in f.branches j)) one in
      let ahead : place < c.place = ltb-true place c.place p.1 in
      omega (arith, s.within)

  -- if an edit at a cell moves the cursor, the cursor's branch has the cell, and the cursor is
  -- after the edit's place
  shifted_after : (t : Slot) → slice_get here place ≡ Some t → is_shifted_by f name place c ≡ true → ((k : ℕ) × (position (is_cell t.cell) there ≡ Some k)) × (place < c.place)
  shifted_after t at e =
      let p = and_parts (is_some (place_of f c.branch t.cell)) (nat_lt place c.place) (ap (λ o. acts_in o f name c.branch && nat_lt place c.place) (sym (cell_is t at)) ∙ e) in
      (some_if_is_some (position (is_cell t.cell) there) (ap is_some (sym (place_of_is t.cell)) ∙ p.0), ltb-true place c.place p.1)

  shifted_within_branch : (cs : List Branch) (sh : Shift) → (is_shifted_by f name place c ≡ true → IsWithinBranch cs (cursor c.branch (shifted_place sh c.place)))
      → (is_shifted_by f name place c ≡ false → IsWithinBranch cs c) → IsWithinBranch cs (shifted sh f name place c)
  shifted_within_branch cs sh up down = by (is_shifted_by f name place c) refl
    where
      by : (b : Bool) → is_shifted_by f name place c ≡ b → IsWithinBranch cs (cond b (cursor c.branch (shifted_place sh c.place)) c)
      by true e = up e
      by false e = down e

  insert_last : (new : Slot) → length here ≤ place → IsWithinBranch (only_in i (put_last new) f.branches) (shifted shift.Up f name place c)
  insert_last new past =
      shifted_within_branch (only_in i (put_last new) f.branches) shift.Up (λ e. absurd (none_shifted past e))
      (λ e. on_longer f.branches (only_in i (put_last new) f.branches) c (names_only_in i (put_last new) f.branches)
      (longer_only_in i (put_last new) f.branches (λ l. let more = length-append l (new ∷ []) in omega arith)) s)

  insert_before : (new t : Slot) → slice_get here place ≡ Some t → IsWithinBranch (everywhere (put_before t.cell new) f.branches) (shifted shift.Up f name place c)
  insert_before new t at =
      let g = put_before t.cell new in
      let cs = everywhere g f.branches in
      let names = names_everywhere g f.branches in
      shifted_within_branch cs shift.Up
      (λ e.
      let p = shifted_after t at e in
      let q = cell_found t.cell p.0.0 there t p.0.1 in
      let more : suc (length there) ≤ length (g there) = put_one_more t.cell new there p.0.0 q.0 q.1 q.2 in
      let same : length (slots_in cs s.index) ≡ length (g there) = ap length (slots_everywhere g f.branches s.index refl) in
      record { index = s.index; named = ap (λ ns. slice_get ns s.index) names ∙ s.named; within = omega (arith, s.within) })
      (λ e. on_longer f.branches cs c names
      (λ j. let same : length (slots_in cs j) ≡ length (g (slots_in f.branches j)) = ap length (slots_everywhere g f.branches j refl) in
      let more = put_longer t.cell new (slots_in f.branches j) in omega arith) s)

  cell_once : (x : ℕ) → HasCellAtMostOnce x there
  cell_once x k l a b e d m n = same_cell_same_place f held s.index k l a b e d (m ∙ sym n)

  -- a cell has the same place in each branch that has it
  one_place : (t : Slot) → slice_get here place ≡ Some t → (k : ℕ) → position (is_cell t.cell) there ≡ Some k → (k ≡ place) × (k < length there)
  one_place t at k e =
      let q = cell_found t.cell k there t e in
      let shared : take (suc place) here ≡ take (suc k) there = held.shared i s.index place k t q.0 at q.1 (sym q.2) in
      let inside : place < length here = slice_get_within here place t at in
      let within_k : k < length there = slice_get_within there k q.0 q.1 in
      let first : length (take (suc place) here) ≡ suc place = length-take-le (suc place) here (omega arith) in
      let second : length (take (suc k) there) ≡ suc k = length-take-le (suc k) there (omega arith) in
      let lengths : length (take (suc place) here) ≡ length (take (suc k) there) = ap length shared in
      (omega arith, within_k)

  unshifted_within : (t : Slot) → slice_get here place ≡ Some t → is_shifted_by f name place c ≡ false → (o : Option ℕ) → position (is_cell t.cell) there ≡ o
      → (n : ℕ) → n ≡ length (without t.cell there) → length there ≤ suc (length (without t.cell there)) → c.place ≤ n
  unshifted_within t at e None h n same few = let all = without_none t.cell there (cell_lacked t.cell there h) in omega (arith, s.within)
  unshifted_within t at e (Some k) h n same few =
      let one = one_place t at k h in
      let acts : (true && nat_lt place c.place) ≡ false =
      ap (λ o. is_some o && nat_lt place c.place) (sym (place_of_is t.cell ∙ h)) ∙ ap (λ o. acts_in o f name c.branch && nat_lt place c.place) (sym (cell_is t at)) ∙ e in
      let before : c.place ≤ place = ltb-false place c.place acts in
      omega (arith, one)

  remove_at : (t : Slot) → slice_get here place ≡ Some t → IsWithinBranch (everywhere (without t.cell) f.branches) (shifted shift.Down f name place c)
  remove_at t at =
      let g = without t.cell in
      let cs = everywhere g f.branches in
      let named = ap (λ ns. slice_get ns s.index) (names_everywhere g f.branches) ∙ s.named in
      let same : length (slots_in cs s.index) ≡ length (g there) = ap length (slots_everywhere g f.branches s.index refl) in
      let few : length there ≤ suc (length (g there)) = without_one t.cell there (cell_once t.cell) in
      shifted_within_branch cs shift.Down
      (λ e. let p = shifted_after t at e in record { index = s.index; named = named; within = omega (arith, s.within, p.1) })
      (λ e. record { index = s.index; named = named; within = unshifted_within t at e (position (is_cell t.cell) there) refl (length (slots_in cs s.index)) same few })

-- with more branches after these, a branch keeps its name and its slots, and a cursor its place
name_more : (bs more : List Branch) (j : ℕ) (name : List ℕ) → name_in bs j ≡ Some name → name_in (bs ++ more) j ≡ Some name
name_more [] more j name e = absurd (cc)
name_more (b ∷ bs) more zero name e = e
name_more (b ∷ bs) more (suc j) name e = name_more bs more j name e

slots_more : (bs more : List Branch) (j : ℕ) (name : List ℕ) → name_in bs j ≡ Some name → slots_in (bs ++ more) j ≡ slots_in bs j
slots_more [] more j name e = absurd (cc)
slots_more (b ∷ bs) more zero name e = refl
slots_more (b ∷ bs) more (suc j) name e = slots_more bs more j name e

on_more : (bs more : List Branch) (c : Cursor) → IsWithinBranch bs c → IsWithinBranch (bs ++ more) c
on_more bs more c s =
    let same : length (slots_in (bs ++ more) s.index) ≡ length (slots_in bs s.index) = ap length (slots_more bs more s.index c.branch s.named) in
    record { index = s.index; named = name_more bs more s.index c.branch s.named; within = omega (arith, s.within) }

-- a cursor's place still exists if another branch, with index i, is removed
on_fewer : (bs : List Branch) (i : ℕ) (c : Cursor) (j : ℕ) → (i ≡ j → ⊥) → name_in bs j ≡ Some c.branch → c.place ≤ length (slots_in bs j) → IsWithinBranch (remove bs i) c
on_fewer [] i c j apart e h = absurd (cc)
on_fewer (b ∷ bs) zero c zero apart e h = absurd (apart refl)
on_fewer (b ∷ bs) zero c (suc j) apart e h = record { index = j; named = e; within = h }
on_fewer (b ∷ bs) (suc i) c zero apart e h = record { index = 0; named = e; within = h }
on_fewer (b ∷ bs) (suc i) c (suc j) apart e h =
    let s = on_fewer bs i c j (λ same. apart (ap suc same)) e h in
    record { index = suc s.index; named = s.named; within = s.within }

lt_from_le : (a b : ℕ) → a ≤ b → (a ≡ b → ⊥) → a < b
lt_from_le a b h apart = by (nat_lt a b) refl
  where
    by : (t : Bool) → nat_lt a b ≡ t → a < b
    by true e = ltb-true a b e
    by false e = let past : b ≤ a = ltb-false a b e in absurd (apart (omega arith))

other_name : (xs ys : List ℕ) → pointwise nat_eq xs ys ≡ false → xs ≡ ys → ⊥
other_name xs ys e same = true≢false (sym (nat_list_eq_equiv.refl xs) ∙ ap (pointwise nat_eq xs) same ∙ e)

same_index_same_name : (bs : List Branch) (i j : ℕ) (xs ys : List ℕ) → i ≡ j → name_in bs i ≡ Some xs → name_in bs j ≡ Some ys → xs ≡ ys
same_index_same_name bs i j xs ys same a b = let e : Some xs ≡ Some ys = sym a ∙ ap (name_in bs) same ∙ b in cc

cursor_within : (cursors : List (Option Cursor)) (who : ℕ) (c : Cursor) → cursor_at cursors who ≡ Some c → who < length cursors
cursor_within [] who c e = absurd (cc)
cursor_within (o ∷ os) zero c e = omega arith
cursor_within (o ∷ os) (suc who) c e = let rest = cursor_within os who c e in omega arith

other_branch_if_free : (name : List ℕ) (cursors : List (Option Cursor)) (who : ℕ) (c : Cursor) → is_occupied name cursors ≡ false → cursor_at cursors who ≡ Some c → pointwise nat_eq name c.branch ≡ false
other_branch_if_free name cursors who c free at = by (pointwise nat_eq name c.branch) refl
  where
    by : (b : Bool) → pointwise nat_eq name c.branch ≡ b → b ≡ false
    by true e = absurd (true≢false (sym (list_any_at (is_on_branch name) cursors who None (cursor_within cursors who c at) (ap (is_on_branch name) at ∙ e)) ∙ free))
    by false e = refl

renumbered_longer : (n : ℕ) (l : List Slot) → length l ≤ length (forests.renumbered n l)
renumbered_longer n l = let a = length-numbered n (map forests.step_of l) in let b = length-map l forests.step_of in omega arith

replaced_longer : (step : Step) (x : ℕ) (l : List Slot) → length l ≤ length (forests.replaced_by step x l)
replaced_longer step x l = let b = length-map l (forests.with_step x step) in omega arith

cursor_after : Edit → Forest → Cursor → Cursor
cursor_after (Insert name place step) f c = shifted shift.Up f name place c
cursor_after (Remove name place) f c = shifted shift.Down f name place c
cursor_after edit f c = c

-- the edit doesn't drop the branch of the cursor c
abbrev KeepsBranch : Edit → Cursor → Type 0
KeepsBranch (Drop name) c = pointwise nat_eq name c.branch ≡ false
KeepsBranch edit c = Unit {0}

module _ (limits : Limits) (f : Forest) (held : IsForest f) (c : Cursor) (s : IsWithinBranch f.branches c) where
  abbrev IsWithinBranchAfter : Edit → Forest → Type 0
  IsWithinBranchAfter edit g = IsWithinBranch g.branches (cursor_after edit f c)

  edited_one : (edit : Edit) → KeepsBranch edit c → IfOk (edited limits f edit) (IsWithinBranchAfter edit)
  unfolding cursor_after
  edited_one (Insert name place step) h =
      let goes = IsWithinBranchAfter (Insert name place step) in
      found_ok goes (index_of f.branches name) (forests.insert_at limits f place step)
      (λ i found. tested_ok goes (nat_lt (length (slots_in f.branches i)) place) NoPlace _
      (λ fits. tested_ok goes (nat_le limits.cells f.made) Full (Ok (forests.inserted f i place step))
      (λ room. by i found (ltb-false (length (slots_in f.branches i)) place fits) (nat_eq place (length (slots_in f.branches i))) refl)))
    where
      by : (i : ℕ) → index_of f.branches name ≡ Some i → place ≤ length (slots_in f.branches i) → (b : Bool) → nat_eq place (length (slots_in f.branches i)) ≡ b
          → IsWithinBranch
          (cond b (only_in i (put_last (forests.slot f.made step)) f.branches) (everywhere (put_before (cell_in (slots_in f.branches i) place) (forests.slot f.made step)) f.branches))
          (shifted shift.Up f name place c)
      by i found within true same =
          let last : place ≡ length (slots_in f.branches i) = eqb-true place (length (slots_in f.branches i)) same in
          insert_last f held name place i found c s (forests.slot f.made step) (omega arith)
      by i found within false other =
          let apart = eqb-false place (length (slots_in f.branches i)) other in
          let t = slot_at_place (slots_in f.branches i) place (lt_from_le place (length (slots_in f.branches i)) within apart) in
          subst (λ x. IsWithinBranch (everywhere (put_before x (forests.slot f.made step)) f.branches) (shifted shift.Up f name place c)) (sym (cell_in_at (slots_in f.branches i) place t.0 t.1))
          (insert_before f held name place i found c s (forests.slot f.made step) t.0 t.1)
  edited_one (Remove name place) h =
      let goes = IsWithinBranchAfter (Remove name place) in
      found_ok goes (index_of f.branches name) (forests.at_cell f place without)
      (λ i found. tested_ok goes (nat_le (length (slots_in f.branches i)) place) NoPlace _ (λ fits.
      let here = slots_in f.branches i in
      let t = slot_at_place here place (leb-false (length here) place fits) in
      subst (λ x. IsWithinBranch (everywhere (without x) f.branches) (shifted shift.Down f name place c)) (sym (cell_in_at here place t.0 t.1)) (remove_at f held name place i found c s t.0 t.1)))
  edited_one (Replace name place step) h =
      let goes = IsWithinBranchAfter (Replace name place step) in
      found_ok goes (index_of f.branches name) (forests.at_cell f place (forests.replaced_by step))
      (λ i found. tested_ok goes (nat_le (length (slots_in f.branches i)) place) NoPlace _ (λ fits.
      let change = forests.replaced_by step (cell_in (slots_in f.branches i) place) in
      on_longer f.branches (everywhere change f.branches) c (names_everywhere change f.branches)
      (λ j. let same : length (slots_in (everywhere change f.branches) j) ≡ length (change (slots_in f.branches j)) = ap length (slots_everywhere change f.branches j refl) in
      let more = replaced_longer step (cell_in (slots_in f.branches i) place) (slots_in f.branches j) in omega arith) s))
  edited_one (Fork name place new) h =
      let goes = IsWithinBranchAfter (Fork name place new) in
      found_ok goes (index_of f.branches name) (forests.fork_at limits f place new)
      (λ i found. tested_ok goes (list_any (pointwise nat_eq new) (map name_of f.branches)) NameTaken _
      (λ other. tested_ok goes (not (is_well_formed new)) BadName _
      (λ formed. tested_ok goes (nat_lt (length (slots_in f.branches i)) place) NoPlace _
      (λ fits. tested_ok goes (nat_le limits.branches (length f.branches)) TooManyBranches _
      (λ room. on_more f.branches (forests.branch new (take place (slots_in f.branches i)) ∷ []) c s)))))
  edited_one (Detach name) h =
      let goes = IsWithinBranchAfter (Detach name) in
      found_ok goes (index_of f.branches name) (forests.detach_at limits f)
      (λ i found. tested_ok goes (nat_lt limits.cells (f.made + length (slots_in f.branches i))) Full _ (λ room.
      let change = forests.renumbered f.made in
      on_longer f.branches (only_in i change f.branches) c (names_only_in i change f.branches) (longer_only_in i change f.branches (renumbered_longer f.made)) s))
  edited_one (Drop name) h =
      let goes = IsWithinBranchAfter (Drop name) in
      found_ok goes (index_of f.branches name) (forests.drop_at f)
      (λ i found. tested_ok goes (nat_le (length f.branches) 1) LastBranch _ (λ more.
      let named = named_at name f.branches i found in
      on_fewer f.branches i c s.index (λ same. other_name name c.branch h (same_index_same_name f.branches i s.index name c.branch same named s.named)) s.named s.within))

-- the changed cursors are at places of the branches g, if `change` takes each cursor that is at a
-- place of the branches f to a place of g
each_placed : (f g : Forest) (change : Cursor → Cursor) (cursors : List (Option Cursor)) → ((who : ℕ) (c : Cursor) → cursor_at cursors who ≡ Some c → IsAtPlace f c → IsAtPlace g (change c))
    → AreAtPlaces f cursors → AreAtPlaces g (each_cursor change cursors)
each_placed f g change cursors one all who =
    subst (λ o. IfSome o (IsAtPlace g)) (sym (get_or-map (option_map change) cursors who None)) (by (cursor_at cursors who) refl (all who))
  where
    by : (o : Option Cursor) → cursor_at cursors who ≡ o → IfSome o (IsAtPlace f) → IfSome (option_map change o) (IsAtPlace g)
    by None e h = tt
    by (Some c) e h = one who c e h

-- as `each_placed`, but the cursors don't change
all_kept : (f g : Forest) (cursors : List (Option Cursor)) → ((who : ℕ) (c : Cursor) → cursor_at cursors who ≡ Some c → IsAtPlace f c → IsAtPlace g c) → AreAtPlaces f cursors → AreAtPlaces g cursors
all_kept f g cursors one all who = by (cursor_at cursors who) refl (all who)
  where
    by : (o : Option Cursor) → cursor_at cursors who ≡ o → IfSome o (IsAtPlace f) → IfSome o (IsAtPlace g)
    by None e h = tt
    by (Some c) e h = one who c e h

module _ (limits : Limits) (f g : Forest) (held : IsForest f) (apart : AreNamedApart g.branches) (cursors : List (Option Cursor)) (all : AreAtPlaces f cursors) where
  one_placed : (edit : Edit) → edited limits f edit ≡ Ok g → (c : Cursor) → KeepsBranch edit c → IsAtPlace f c → IsAtPlace g (cursor_after edit f c)
  one_placed edit e c stays here = at_place_if_within g (cursor_after edit f c) apart (from_ok (IsWithinBranchAfter limits f held c (within_branch f c here) edit) (edited limits f edit) g e (edited_one limits f held c (within_branch f c here) edit stays))

  -- after an edit that drops no branch with a cursor on it, each cursor is at a place that exists
  pub edited_placed : (edit : Edit) → edited limits f edit ≡ Ok g → drops_occupied edit cursors ≡ false → AreAtPlaces g (moved_by edit f cursors)
  unfolding cursor_after
  edited_placed (Insert name place step) e h = each_placed f g (shifted shift.Up f name place) cursors (λ who c at. one_placed (Insert name place step) e c tt) all
  edited_placed (Remove name place) e h = each_placed f g (shifted shift.Down f name place) cursors (λ who c at. one_placed (Remove name place) e c tt) all
  edited_placed (Replace name place step) e h = all_kept f g cursors (λ who c at. one_placed (Replace name place step) e c tt) all
  edited_placed (Fork name place new) e h = all_kept f g cursors (λ who c at. one_placed (Fork name place new) e c tt) all
  edited_placed (Detach name) e h = all_kept f g cursors (λ who c at. one_placed (Detach name) e c tt) all
  edited_placed (Drop name) e h = all_kept f g cursors (λ who c at. one_placed (Drop name) e c (other_branch_if_free name cursors who c h at)) all

-- after a session's cursor is put at a place that exists, all cursors are at such places
pub put_placed : (f : Forest) (cursors : List (Option Cursor)) (who : ℕ) (o : Option Cursor) → who < length cursors → IfSome o (IsAtPlace f) → AreAtPlaces f cursors
    → AreAtPlaces f (slice_set cursors who o)
put_placed f cursors who o h one all k = by (nat_eq k who) refl
  where
    by : (b : Bool) → nat_eq k who ≡ b → IfSome (cursor_at (slice_set cursors who o) k) (IsAtPlace f)
    by true e =
        let here : cursor_at (slice_set cursors who o) k ≡ o = ap (cursor_at (slice_set cursors who o)) (eqb-true k who e) ∙ get_or-set_same cursors who o None h in
        subst (λ p. IfSome p (IsAtPlace f)) (sym here) one
    by false e = subst (λ p. IfSome p (IsAtPlace f)) (sym (get_or-set_other cursors who k o None (eqb-false k who e))) (all k)

-- the cursor of a session that joins is at a place that exists
pub first_placed : (f : Forest) → AreNamedApart f.branches → IfSome (first_cursor f) (IsAtPlace f)
first_placed f apart = by (name_in f.branches 0) refl
  where
    by : (o : Option (List ℕ)) → name_in f.branches 0 ≡ o → IfSome (option_map (λ name. cursor name 0) o) (IsAtPlace f)
    by None e = tt
    by (Some name) e = at_place_if_within f (cursor name 0) apart (record { index = 0; named = e; within = omega arith })

-- a place that is at most a branch's length exists, if a cursor is on that branch
pub place_exists : (f : Forest) (c : Cursor) (place n : ℕ) → IsAtPlace f c → len_of f c.branch ≡ Some n → place ≤ n → IsAtPlace f (cursor c.branch place)
place_exists f c place n h len few =
    let p = found_if_looked f c.place (index_of f.branches c.branch) h in
    let lengths : Some (length (slots_in f.branches p.0)) ≡ Some n = ap (option_map (λ i. length (slots_in f.branches i))) (sym p.1) ∙ len in
    let same : length (slots_in f.branches p.0) ≡ n = cc in
    ap (λ o. forests.on_found o (looked_at f place)) p.1 ∙ ap (λ b. cond b (Err NoPlace) (Ok f)) (le-ltb (length (slots_in f.branches p.0)) place (omega arith))

-- each place up to the end of a cursor's branch exists, so the place of a hit does
pub hit_exists : (f : Forest) (c : Cursor) (place : ℕ) → IsAtPlace f c → place < length (steps_in f c.branch) + 1
    → IsAtPlace f (cursor c.branch place)
hit_exists f c place h within =
    let p = found_if_looked f c.place (index_of f.branches c.branch) h in
    let n = length (slots_in f.branches p.0) in
    let len : len_of f c.branch ≡ Some n = ap (option_map (λ i. length (slots_in f.branches i))) p.1 in
    let long = len_is_step_count f c.branch n (sym len) in
    place_exists f c place n h len (omega (arith, long, within))
