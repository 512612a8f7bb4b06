-- A new cell before a cell.
use Rattle.std.proofs.Common.{◌≡◌, ℕ, zero, suc, ◌+◌, ◌<◌, ◌≤◌, Bool, true, false, nat_eq, cond, List, [], ◌∷◌, ◌++◌, length, map, slice_get, Option, Some, IsSome, ◌⊎◌, refl, sym, ap, subst, ◌∙◌, true≢false, arith, eq-eqb, inl, inr}
use Rattle.std.specs.List.{insert}
use Rattle.std.proofs.lemmas.Bool.{eqb-true, eqb-false}
use Rattle.std.proofs.lemmas.List.Concat.{flat_map-append}
use Rattle.indexmap.proofs.SetLemmas.{map-insert}
use Rattle.schedule_steps.specs.declared.types.Step.{Step}
use Rattle.branch_terms.specs.declared.slot.Slot.{Slot}
use Rattle.branch_terms.specs.Forest.{slot, cell_of, before_cell, put_before, everywhere}
use Rattle.schedule_trie.specs.Trie.{SegmentOf, KeyedBranch, slots_of, branches_on, has, has_cell, Once, IsSoundTrie}
use Rattle.schedule_trie.proofs.lists.NoRepeats.{has-head, has-tail, has_cases, has_not_from}
use Rattle.schedule_trie.proofs.branches.Lines.{once_at, given_at}
use Rattle.schedule_trie.proofs.segments.Changes.{absent_by, cell_apart, Changes, there-changed, line_through, everywhere_on, has_cell_get}
use Rattle.schedule_trie.proofs.edits.Pushes.{segments_more, apart_more}

-- a number in a list after an insert was there before, or is the inserted one
pub has-inserted : (x y : ℕ) (ys : List ℕ) (i : ℕ) → has x (insert ys i y) ≡ true → (has x ys ≡ true) ⊎ (x ≡ y)
has-inserted x y [] zero h = has_cases x y [] ((has x [] ≡ true) ⊎ (x ≡ y)) h (λ e. inr e) (λ r. inl r)
has-inserted x y [] (suc i) h = has_cases x y [] ((has x [] ≡ true) ⊎ (x ≡ y)) h (λ e. inr e) (λ r. inl r)
has-inserted x y (z ∷ zs) zero h = has_cases x y (z ∷ zs) ((has x (z ∷ zs) ≡ true) ⊎ (x ≡ y)) h (λ e. inr e) (λ r. inl r)
has-inserted x y (z ∷ zs) (suc i) h =
    has_cases x z (insert zs i y) ((has x (z ∷ zs) ≡ true) ⊎ (x ≡ y)) h
    (λ e. inl (subst (λ w. has w (z ∷ zs) ≡ true) (sym e) (has-head z zs)))
    (λ r. elim (has-inserted x y zs i r) [ inl g ↦ inl (has-tail x z zs g) | inr e ↦ inr e ])

pub Once-inserted : (y : ℕ) (ys : List ℕ) (i : ℕ) → Once ys → has y ys ≡ false → Once (insert ys i y)
Once-inserted y [] zero once h = (refl, tt)
Once-inserted y [] (suc i) once h = (refl, tt)
Once-inserted y (z ∷ zs) zero once h = (h, once)
Once-inserted y (z ∷ zs) (suc i) once h = (
  has_not_from z (insert zs i y) (λ g. elim (has-inserted z y zs i g) [
    | inl r ↦ true≢false (sym r ∙ once.0)
    | inr e ↦ true≢false (sym (subst (λ w. has w (z ∷ zs) ≡ true) e (has-head z zs)) ∙ h)
  ]),
  Once-inserted y zs i once.1 (has_not_from y zs (λ g. true≢false (sym (has-tail y z zs g) ∙ h))),
)

-- nothing is inserted before a cell that isn't there
pub put_before-absent : (x : ℕ) (new : Slot) (slots : List Slot) → has_cell x slots ≡ false → put_before x new slots ≡ slots
put_before-absent x new =
    absent_by x (λ l. put_before x new l ≡ l) refl
    (λ s ss other rest. ap (λ b. cond b (new ∷ s ∷ []) (s ∷ []) ++ put_before x new ss) other ∙ ap (λ l. s ∷ l) rest)

-- inserting a cell at an index is inserting it before the cell there
pub inserted-at : (slots : List Slot) (i : ℕ) (s new : Slot) → Once (map cell_of slots) → slice_get slots i ≡ Some s
    → insert slots i new ≡ put_before s.cell new slots
inserted-at [] i s new once e = absurd (cc)
inserted-at (z ∷ zs) zero s new once e =
    let same : z ≡ s = cc in
    let cells : z.cell ≡ s.cell = ap cell_of same in
    sym (ap (λ b. cond b (new ∷ z ∷ []) (z ∷ []) ++ put_before s.cell new zs) (eq-eqb z.cell s.cell cells)
    ∙ ap (λ l. new ∷ z ∷ l) (put_before-absent s.cell new zs (subst (λ x. has_cell x zs ≡ false) cells once.0)))
inserted-at (z ∷ zs) (suc i) s new once e =
    sym (ap (λ b. cond b (new ∷ z ∷ []) (z ∷ []) ++ put_before s.cell new zs) (cell_apart z zs i s once.0 e) ∙ ap (λ l. z ∷ l) (sym (inserted-at zs i s new once.1 e)))

-- the cells of a segment, with a new one before one of them
module _ {T : Type 0} (old : ℕ → Option (SegmentOf T)) (branches : List KeyedBranch) (made key offset : ℕ) (step : Step) (s : Slot)
    (sound : IsSoundTrie old branches made) (at_cell : slice_get (slots_of (old key)) offset ≡ Some s) where
  abbrev pub put : List Slot → List Slot
  put slots = put_before s.cell (slot made step) slots

  abbrev pub with_cell : List Slot
  with_cell = insert (slots_of (old key)) offset (slot made step)

  pub with_cell_is_put : with_cell ≡ put (slots_of (old key))
  with_cell_is_put = inserted-at (slots_of (old key)) offset s (slot made step) (once_at old made sound.segments sound.apart key) at_cell

  pub put_through : (xs ys : List Slot) → put (xs ++ ys) ≡ put xs ++ put ys
  put_through xs ys = flat_map-append (before_cell s.cell (slot made step)) xs ys

  pub put_elsewhere : (j : ℕ) → (j ≡ key → ⊥) → put (slots_of (old j)) ≡ slots_of (old j)
  put_elsewhere j ne =
      put_before-absent s.cell (slot made step) (slots_of (old j)) (has_not_from s.cell (map cell_of (slots_of (old j)))
      (λ h. ne (sound.apart j key s.cell h (has_cell_get (slots_of (old key)) offset s at_cell))))

  cells_are : map cell_of with_cell ≡ insert (map cell_of (slots_of (old key))) offset made
  cells_are = map-insert cell_of (slots_of (old key)) offset (slot made step)

  pub with_cell_once : Once (map cell_of with_cell)
  with_cell_once =
      subst Once (sym cells_are) (Once-inserted made (map cell_of (slots_of (old key))) offset (once_at old made sound.segments sound.apart key)
      (has_not_from made (map cell_of (slots_of (old key))) (λ h. let l : made < made = given_at old made sound.segments sound.apart key made h in omega arith)))

  pub with_cell_cells : (x : ℕ) → has_cell x with_cell ≡ true → (has_cell x (slots_of (old key)) ≡ true) ⊎ (x ≡ made)
  with_cell_cells x h = has-inserted x made (map cell_of (slots_of (old key))) offset (subst (λ l. has x l ≡ true) cells_are h)

-- the trie is still correct once the segment at `key` has the new cell
module _ {T : Type 0} (old new : ℕ → Option (SegmentOf T)) (key : ℕ) (q : SegmentOf T) (change : Changes old new key q) (branches : List KeyedBranch) (made : ℕ)
    (sound : IsSoundTrie old branches made) (was : IsSome (old key)) (some : 0 < length q.slots) (few : length q.slots ≤ 128) (once : Once (map cell_of q.slots))
    (cells : (x : ℕ) → has_cell x q.slots ≡ true → (has_cell x (slots_of (old key)) ≡ true) ⊎ (x ≡ made)) where
  pub sound_with_cell : IsSoundTrie new branches (made + 1)
  sound_with_cell = record {
    held = λ i k h. there-changed old new key q change k (sound.held i k h);
    segments = segments_more old new key q change branches made sound some few once cells;
    apart = apart_more old new key q change branches made sound some few once cells;
    live = λ k h. sound.live k (was_there k h);
    shares = sound.shares;
  }
    where
      was_there : (k : ℕ) → IsSome (new k) → IsSome (old k)
      was_there k h = by (nat_eq k key) refl
        where
          by : (b : Bool) → nat_eq k key ≡ b → IsSome (old k)
          by true e = subst (λ j. IsSome (old j)) (sym (eqb-true k key e)) was
          by false e = subst IsSome (change.others k (eqb-false k key e)) h

module _ {T : Type 0} (old new : ℕ → Option (SegmentOf T)) (key : ℕ) (q : SegmentOf T) (change : Changes old new key q) (g : List Slot → List Slot)
    (empty : g [] ≡ []) (through : (xs ys : List Slot) → g (xs ++ ys) ≡ g xs ++ g ys) (here : q.slots ≡ g (slots_of (old key)))
    (elsewhere : (j : ℕ) → (j ≡ key → ⊥) → g (slots_of (old j)) ≡ slots_of (old j)) where
  -- if g gives this segment's new cells, and changes no other segment, it gives each branch's cells
  pub branches_changed : (branches : List KeyedBranch) → branches_on new branches ≡ everywhere g (branches_on old branches)
  branches_changed = everywhere_on old new g (line_through old new g empty through each)
    where
      each : (j : ℕ) → slots_of (new j) ≡ g (slots_of (old j))
      each j = by (nat_eq j key) refl
        where
          by : (b : Bool) → nat_eq j key ≡ b → slots_of (new j) ≡ g (slots_of (old j))
          by true e = subst (λ k. slots_of (new k) ≡ g (slots_of (old k))) (sym (eqb-true j key e)) (ap slots_of change.here ∙ here)
          by false e = ap slots_of (change.others j (eqb-false j key e)) ∙ sym (elsewhere j (eqb-false j key e))
