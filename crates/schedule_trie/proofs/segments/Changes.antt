-- The effect of a change of one segment on each line.
use Rattle.std.proofs.Common.{◌≡◌, ℕ, zero, suc, ◌<◌, Bool, true, false, ◌||◌, nat_eq, cond, List, [], ◌∷◌, ◌++◌, length, map, slice_get, slice_index_or, Option, Some, None, IsSome, refl, sym, ap, subst, ◌∙◌, true≢false, arith, eq-eqb}
use Rattle.std.specs.Option.{IfSome}
use Rattle.std.specs.List.{slice_set}
use Rattle.std.proofs.lemmas.Bool.{eqb-true, eqb-false}
use Rattle.std.proofs.lemmas.List.{length-map, map-append, get_or-set_same, get_or-set_other}
use Rattle.std.proofs.Math.ListN.{get_or-map}
use Rattle.schedule_steps.specs.declared.types.Step.{Step}
use Rattle.branch_terms.specs.declared.slot.Slot.{Slot}
use Rattle.schedule_trie.specs.declared.segment.Segment.{Segment}
use Rattle.branch_terms.specs.Forest.{slot, cell_of, with_step, replaced, everywhere}
use Rattle.schedule_trie.specs.Slots.{set_step}
use Rattle.schedule_trie.specs.Trie.{SegmentOf, KeyedBranch, segment, segment_at, slots_of, line, branches_on, has, has_cell, Once, IsSegment, IsSoundTrie}
use Rattle.schedule_trie.specs.TrieFields.{segment_of, segments_of}
use Rattle.branch_terms.proofs.Lists.{nat_eq_symmetric}
use Rattle.schedule_trie.proofs.lists.NoRepeats.{has_not_from, has-head, has-tail}

-- one key has another segment, and each other key still has the segment that it had
pub record Changes {T : Type 0} (old new : ℕ → Option (SegmentOf T)) (key : ℕ) (p : SegmentOf T) : Type 0 where
  pub here : new key ≡ Some p
  pub others : (j : ℕ) → (j ≡ key → ⊥) → new j ≡ old j

-- a segment that was there is there after a change
pub there-changed : {T : Type 0} (old new : ℕ → Option (SegmentOf T)) (key : ℕ) (p : SegmentOf T) → Changes old new key p → (k : ℕ) → IsSome (old k) → IsSome (new k)
there-changed old new key p change k h = by (nat_eq k key) refl
  where
    by : (b : Bool) → nat_eq k key ≡ b → IsSome (new k)
    by true e = subst (λ j. IsSome (new j)) (sym (eqb-true k key e)) (subst IsSome (sym change.here) refl)
    by false e = subst IsSome (sym (change.others k (eqb-false k key e))) h

module _ {T : Type 0} where
  -- a list function that distributes over `++`, applied to each segment, is applied to each line
  pub line_through : (old new : ℕ → Option (SegmentOf T)) (g : List Slot → List Slot) → g [] ≡ [] → ((xs ys : List Slot) → g (xs ++ ys) ≡ g xs ++ g ys)
      → ((j : ℕ) → slots_of (new j) ≡ g (slots_of (old j))) → (ks : List ℕ) → line new ks ≡ g (line old ks)
  line_through old new g empty through each [] = sym empty
  line_through old new g empty through each (k ∷ ks) =
      ap (λ l. l ++ line new ks) (each k) ∙ ap (λ l. g (slots_of (old k)) ++ l) (line_through old new g empty through each ks)
      ∙ sym (through (slots_of (old k)) (line old ks))

  pub everywhere_on : (old new : ℕ → Option (SegmentOf T)) (g : List Slot → List Slot) → ((ks : List ℕ) → line new ks ≡ g (line old ks))
      → (branches : List KeyedBranch) → branches_on new branches ≡ everywhere g (branches_on old branches)
  everywhere_on old new g each [] = refl
  everywhere_on old new g each (s ∷ ss) =
      λ i. record { name = s.name; slots = each s.keys i } ∷ everywhere_on old new g each ss i

  -- a segment in the slab is replaced
  pub segment_at_set : (slots : List (Option (Segment T))) (key : ℕ) (v : Segment T) → key < length slots
      → Changes (segment_at (segments_of slots)) (segment_at (segments_of (slice_set slots key (Some v)))) key (segment v.slots.items v.note)
  segment_at_set slots key v h = record {
    here = get_or-map segment_of (slice_set slots key (Some v)) key None ∙ ap segment_of (get_or-set_same slots key (Some v) None h);
    others = λ j ne. get_or-map segment_of (slice_set slots key (Some v)) j None ∙ ap segment_of (get_or-set_other slots key j (Some v) None ne)
        ∙ sym (get_or-map segment_of slots j None);
  }

-- induction on a list of cells, none of which has the number x
pub absent_by : (x : ℕ) (P : List Slot → Type 0) → P [] → ((s : Slot) (ss : List Slot) → nat_eq s.cell x ≡ false → P ss → P (s ∷ ss))
    → (slots : List Slot) → has_cell x slots ≡ false → P slots
absent_by x P none more [] h = none
absent_by x P none more (s ∷ ss) h = by (nat_eq x s.cell) refl (absent_by x P none more ss)
  where
    by : (b : Bool) → nat_eq x s.cell ≡ b → (has_cell x ss ≡ false → P ss) → P (s ∷ ss)
    by true e rest = absurd (true≢false (sym (ap (λ c. c || has_cell x ss) e) ∙ h))
    by false e rest = more s ss (nat_eq_symmetric s.cell x ∙ e) (rest (sym (ap (λ c. c || has_cell x ss) e) ∙ h))

-- replacing the step of a cell that isn't there changes nothing
pub replaced-absent : (x : ℕ) (step : Step) (slots : List Slot) → has_cell x slots ≡ false → replaced x step slots ≡ slots
replaced-absent x step =
    absent_by x (λ l. replaced x step l ≡ l) refl (λ s ss other rest. ap (λ b. cond b (slot s.cell step) s ∷ replaced x step ss) other ∙ ap (λ l. s ∷ l) rest)

pub has_cell_get : (slots : List Slot) (i : ℕ) (s : Slot) → slice_get slots i ≡ Some s → has_cell s.cell slots ≡ true
has_cell_get [] i s e = absurd (cc)
has_cell_get (z ∷ zs) zero s e = let same : z ≡ s = cc in subst (λ y. has_cell y.cell (z ∷ zs) ≡ true) same (has-head z.cell (map cell_of zs))
has_cell_get (z ∷ zs) (suc i) s e = has-tail s.cell z.cell (map cell_of zs) (has_cell_get zs i s e)

-- if the first cell's number isn't in the rest, a cell of the rest has another number
pub cell_apart : (z : Slot) (zs : List Slot) (i : ℕ) (s : Slot) → has_cell z.cell zs ≡ false → slice_get zs i ≡ Some s → nat_eq z.cell s.cell ≡ false
cell_apart z zs i s once e = apart (nat_eq z.cell s.cell) refl
  where
    apart : (b : Bool) → nat_eq z.cell s.cell ≡ b → nat_eq z.cell s.cell ≡ false
    apart true f = absurd (true≢false (sym (subst (λ x. has_cell x zs ≡ true) (sym (eqb-true z.cell s.cell f)) (has_cell_get zs i s e)) ∙ once))
    apart false f = f

-- setting the step at an index replaces the step of the cell there
pub replaced-at : (slots : List Slot) (i : ℕ) (s : Slot) (step : Step) → Once (map cell_of slots) → slice_get slots i ≡ Some s
    → set_step slots i step ≡ replaced s.cell step slots
replaced-at [] i s step once e = absurd (cc)
replaced-at (z ∷ zs) zero s step once e =
    let same : z ≡ s = cc in
    let cells : z.cell ≡ s.cell = ap cell_of same in
    sym (ap (λ b. cond b (slot z.cell step) z ∷ replaced s.cell step zs) (eq-eqb z.cell s.cell cells)
    ∙ ap (λ l. slot z.cell step ∷ l) (replaced-absent s.cell step zs (subst (λ x. has_cell x zs ≡ false) cells once.0)))
replaced-at (z ∷ zs) (suc i) s step once e =
    sym (ap (λ b. cond b (slot z.cell step) z ∷ replaced s.cell step zs) (cell_apart z zs i s once.0 e) ∙ ap (λ l. z ∷ l) (sym (replaced-at zs i s step once.1 e)))

-- setting a step keeps the cells' numbers
pub set_step-cells : (slots : List Slot) (i : ℕ) (step : Step) → map cell_of (set_step slots i step) ≡ map cell_of slots
set_step-cells [] i step = refl
set_step-cells (z ∷ zs) zero step = refl
set_step-cells (z ∷ zs) (suc i) step = ap (λ l. z.cell ∷ l) (set_step-cells zs i step)

-- setting a step is writing, at the index, a cell with the same number and the new step
pub set_step-write : (slots : List Slot) (i : ℕ) (d : Slot) (step : Step) → i < length slots → slice_set slots i (slot (slice_index_or slots i d).cell step) ≡ set_step slots i step
set_step-write [] i d step h = absurd (omega arith)
set_step-write (z ∷ zs) zero d step h = refl
set_step-write (z ∷ zs) (suc i) d step h = ap (λ l. z ∷ l) (set_step-write zs i d step (omega arith))

-- at each key, the segments before and after have the same cells, perhaps with other steps
pub record SameCells {T : Type 0} (old new : ℕ → Option (SegmentOf T)) : Type 0 where
  pub cells : (k : ℕ) → map cell_of (slots_of (new k)) ≡ map cell_of (slots_of (old k))
  pub there : (k : ℕ) → IsSome (old k) → IsSome (new k)
  pub was_there : (k : ℕ) → IsSome (new k) → IsSome (old k)

module _ {T : Type 0} (old new : ℕ → Option (SegmentOf T)) (same : SameCells old new) (branches : List KeyedBranch) (made : ℕ) where
  segment_same : (a b : Option (SegmentOf T)) → (IsSome b → IsSome a) → map cell_of (slots_of b) ≡ map cell_of (slots_of a) → IfSome a (IsSegment made) → IfSome b (IsSegment made)
  segment_same None None was e h = tt
  segment_same (Some p) None was e h = tt
  segment_same None (Some q) was e h = absurd (true≢false (sym (was refl)))
  segment_same (Some p) (Some q) was e h =
      let len : length q.slots ≡ length p.slots = sym (length-map q.slots cell_of) ∙ ap length e ∙ length-map p.slots cell_of in
      record {
        some = omega (arith, h.some);
        few = omega (arith, h.few);
        once = subst Once (sym e) h.once;
        given = λ x g. h.given x (subst (λ l. has x l ≡ true) e g);
      }

  pub sound_same : IsSoundTrie old branches made → IsSoundTrie new branches made
  sound_same s = record {
    held = λ i k h. same.there k (s.held i k h);
    segments = λ k. segment_same (old k) (new k) (same.was_there k) (same.cells k) (s.segments k);
    apart = λ j k x a b. s.apart j k x (subst (λ l. has x l ≡ true) (same.cells j) a) (subst (λ l. has x l ≡ true) (same.cells k) b);
    live = λ k h. s.live k (same.was_there k h);
    shares = s.shares;
  }

-- a step is replaced in every line
module _ {T : Type 0} (old new : ℕ → Option (SegmentOf T)) (branches : List KeyedBranch) (made key offset : ℕ) (step : Step) (s : Slot)
    (sound : IsSoundTrie old branches made) (here : new key ≡ Some (segment (set_step (slots_of (old key)) offset step) None))
    (others : (j : ℕ) → (j ≡ key → ⊥) → new j ≡ old j) (at_cell : slice_get (slots_of (old key)) offset ≡ Some s) where
  once_in : (o : Option (SegmentOf T)) → IfSome o (IsSegment made) → Once (map cell_of (slots_of o))
  once_in None h = tt
  once_in (Some p) h = h.once

  each_replaced : (j : ℕ) → slots_of (new j) ≡ replaced s.cell step (slots_of (old j))
  each_replaced j = by (nat_eq j key) refl
    where
      by : (b : Bool) → nat_eq j key ≡ b → slots_of (new j) ≡ replaced s.cell step (slots_of (old j))
      by true e =
          let same : j ≡ key = eqb-true j key e in
          subst (λ k. slots_of (new k) ≡ replaced s.cell step (slots_of (old k))) (sym same)
          (ap slots_of here ∙ replaced-at (slots_of (old key)) offset s step (once_in (old key) (sound.segments key)) at_cell)
      by false e =
          let ne : j ≡ key → ⊥ = λ f. true≢false (sym (eq-eqb j key f) ∙ e) in
          ap slots_of (others j ne) ∙ sym (replaced-absent s.cell step (slots_of (old j)) (has_not_from s.cell (map cell_of (slots_of (old j)))
          (λ h. ne (sound.apart j key s.cell h (has_cell_get (slots_of (old key)) offset s at_cell)))))

  pub replaced_everywhere : branches_on new branches ≡ everywhere (replaced s.cell step) (branches_on old branches)
  replaced_everywhere =
      everywhere_on old new (replaced s.cell step)
      (line_through old new (replaced s.cell step) refl (map-append (with_step s.cell step)) each_replaced) branches

  some_old : (o : Option (SegmentOf T)) → slice_get (slots_of o) offset ≡ Some s → IsSome o
  some_old None e = let f : None ≡ Some s = e in absurd (cc)
  some_old (Some p) e = refl

  pub replaced_same : SameCells old new
  replaced_same = record {
    cells = λ k. by_cells k (nat_eq k key) refl;
    there = λ k h. by_there k (nat_eq k key) refl h;
    was_there = λ k h. by_was k (nat_eq k key) refl h;
  }
    where
      by_cells : (k : ℕ) (b : Bool) → nat_eq k key ≡ b → map cell_of (slots_of (new k)) ≡ map cell_of (slots_of (old k))
      by_cells k true e = subst (λ j. map cell_of (slots_of (new j)) ≡ map cell_of (slots_of (old j))) (sym (eqb-true k key e))
          (ap (λ o. map cell_of (slots_of o)) here ∙ set_step-cells (slots_of (old key)) offset step)
      by_cells k false e = ap (λ o. map cell_of (slots_of o)) (others k (λ f. true≢false (sym (eq-eqb k key f) ∙ e)))

      by_there : (k : ℕ) (b : Bool) → nat_eq k key ≡ b → IsSome (old k) → IsSome (new k)
      by_there k true e h = subst (λ j. IsSome (new j)) (sym (eqb-true k key e)) (subst IsSome (sym here) refl)
      by_there k false e h = subst IsSome (sym (others k (λ f. true≢false (sym (eq-eqb k key f) ∙ e)))) h

      by_was : (k : ℕ) (b : Bool) → nat_eq k key ≡ b → IsSome (new k) → IsSome (old k)
      by_was k true e h = subst (λ j. IsSome (old j)) (sym (eqb-true k key e)) (some_old (old key) at_cell)
      by_was k false e h = subst IsSome (others k (λ f. true≢false (sym (eq-eqb k key f) ∙ e))) h
