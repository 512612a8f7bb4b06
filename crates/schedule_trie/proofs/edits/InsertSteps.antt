-- An insert, in terms of the fields.
use Rattle.std.proofs.Common.{◌≡◌, ℕ, zero, suc, ◌+◌, ◌-◌, ◌<◌, ◌≤◌, Bool, true, false, nat_eq, cond, List, [], ◌∷◌, ◌++◌, take, drop, length, map, set, slice_get, Option, Some, None, IsSome, ◌⊎◌, inl, inr, refl, sym, ap, subst, ◌∙◌, arith, eq-eqb}
use Rattle.std.specs.List.{insert}
use Rattle.std.proofs.lemmas.Bool.{eqb-true}
use Rattle.std.specs.Option.{IfSome, option_map}
use Rattle.std.proofs.lemmas.List.{length-append, length-map, take-append-drop}
use Rattle.std.proofs.lemmas.List.Edits.{length-insert}
use Rattle.std.specs.Global.{Vec}
use Rattle.lineage.specs.Family.{Family, item_at, with_item, divided_keys, IsAdded}
use Rattle.schedule_steps.specs.declared.types.Step.{Step}
use Rattle.branch_terms.specs.declared.slot.Slot.{Slot}
use Rattle.schedule_trie.specs.declared.segment.Segment.{Segment}
use Rattle.schedule_trie.specs.declared.trie.Trie.TheInside.{Inside}
use Rattle.branch_terms.specs.Forest.{slot, cell_of, slots_in, cell_in, only_in, put_last, put_before, everywhere, inserted}
use Rattle.schedule_trie.specs.Trie.{TrieOf, SegmentOf, segment, segment_at, slots_of, note_of, forest, branches_on, keys_in, has, has_cell, Once, SpotHasCellAt, IsSegment, IsSoundTrie, IsWithin, IsWhole, HoldsCellAt, MayTouchAt, IsPushed, IsPutBefore, IsInserted, divided_branch, HasChanged, IsExtended}
use Rattle.branch_terms.specs.declared.limits.Limits.{Limits}
use Rattle.schedule_trie.specs.TrieFields.{segment_of, keyed_branches, names_of, trie_of, IsWholeWithPaths}
use Rattle.schedule_trie.proofs.branches.KeyedBranches.{keyed_branches-divided}
use Rattle.schedule_trie.proofs.branches.Lines.{slots_in_on}
use Rattle.schedule_trie.proofs.segments.Changes.{Changes, segment_at_set}
use Rattle.schedule_trie.proofs.segments.StepSet.{segment_seen, key_within, cut_from_sound}
use Rattle.schedule_trie.proofs.segments.CellHolders.{holds_cell, one_holder}
use Rattle.schedule_trie.proofs.edits.Insertion.{put, with_cell_is_put, put_through, put_elsewhere, with_cell_once, with_cell_cells, sound_with_cell, branches_changed}
use Rattle.schedule_trie.proofs.segments.Division.{Divides, lacked-divided, sound-divided, branches-divided, notes-divided}
use Rattle.schedule_trie.proofs.segments.DivisionSteps.{divides_from}
use Rattle.schedule_trie.proofs.segments.Notes.{notes_at, notes_but, unchanged_kept}
use Rattle.schedule_trie.proofs.segments.TouchedSegments.{end_holds_before, none_at_end}
use Rattle.branch_terms.proofs.Lists.{cell_in_at, slice_get_some}
use Rattle.std.proofs.lemmas.Option.{slice_get_within}

pub within_more : (l : Limits) (made branches : ℕ) → IsWithin l made branches → made < l.cells → IsWithin l (made + 1) branches
within_more l made branches h room = record {
  cells = omega arith;
  branches_fit = h.branches_fit;
  some = h.some;
  most_cells = h.most_cells;
  most_branches = h.most_branches;
}

pub slots_seen : {T : Type 0} (t : Inside T) (key : ℕ) (v : Segment T) (c : TrieOf T) → trie_of t ≡ c → item_at t.segments key ≡ Some v → slots_of (segment_at c.segments key) ≡ v.slots.items
slots_seen t key v c seen there = ap (λ b. slots_of (segment_at b.segments key)) (sym seen) ∙ ap slots_of (segment_seen t key ∙ ap segment_of there)

-- an insert in a list is an insert in its first n items, or in the items after them
pub insert-front : (slots : List Slot) (n offset : ℕ) (s : Slot) → offset ≤ n → insert (take n slots) offset s ++ drop n slots ≡ insert slots offset s
insert-front slots n zero s less = ap (λ l. s ∷ l) (take-append-drop n slots)
insert-front slots zero (suc offset) s less = absurd (omega arith)
insert-front [] (suc n) (suc offset) s less = refl
insert-front (x ∷ slots) (suc n) (suc offset) s less = ap (λ l. x ∷ l) (insert-front slots n offset s (omega arith))

pub insert-back : (slots : List Slot) (n offset : ℕ) (s : Slot) → n ≤ length slots → n ≤ offset → take n slots ++ insert (drop n slots) (offset - n) s ≡ insert slots offset s
insert-back slots zero offset s short less = ap (λ o. insert slots o s) (omega arith)
insert-back [] (suc n) offset s short less = absurd (omega arith)
insert-back (x ∷ slots) (suc n) zero s short less = absurd (omega arith)
insert-back (x ∷ slots) (suc n) (suc offset) s short less = ap (λ l. x ∷ l) (ap (λ o. take n slots ++ insert (drop n slots) o s) (omega arith) ∙ insert-back slots n offset s (omega arith) (omega arith))

-- an insert in a segment that isn't full
module _ {T : Type 0} (t : Inside T) (key offset : ℕ) (step : Step) (v w : Segment T) (held : IsWholeWithPaths t) (there : item_at t.segments key ≡ Some v)
    (inside : offset < length v.slots.items) (few : length v.slots.items < 128) (room : t.made < t.limits.cells)
    (slots : w.slots.items ≡ insert v.slots.items offset (slot t.made step)) (note : w.note ≡ None) where
  abbrev after : Inside T
  after = record t { segments = with_item t.segments key w; made = t.made + 1 }

  abbrev old : ℕ → Option (SegmentOf T)
  old = segment_at (trie_of t).segments

  abbrev new : ℕ → Option (SegmentOf T)
  new = segment_at (trie_of after).segments

  abbrev now : SegmentOf T
  now = segment w.slots.items w.note

  change : Changes old new key now
  change = segment_at_set t.segments.items key w (key_within t.segments.items key v there)

  was : old key ≡ Some (segment v.slots.items v.note)
  was = segment_seen t key ∙ ap segment_of there

  first : (s : Slot) × (slice_get (slots_of (old key)) offset ≡ Some s)
  first = let p = slice_get_some v.slots.items offset inside in (p.0, ap (λ o. slice_get (slots_of o) offset) was ∙ p.1)

  grows : w.slots.items ≡ insert (slots_of (old key)) offset (slot t.made step)
  grows = slots ∙ sym (ap (λ o. insert (slots_of o) offset (slot t.made step)) was)

  len : length w.slots.items ≡ length v.slots.items + 1
  len = ap length slots ∙ length-insert v.slots.items offset (slot t.made step) (omega arith)

  sound : IsSoundTrie new (trie_of t).branches (t.made + 1)
  sound = sound_with_cell old new key now change (trie_of t).branches t.made held.whole.sound (subst IsSome (sym was) refl) (omega (arith, len)) (omega (arith, len))
      (subst (λ l. Once (map cell_of l)) (sym grows) (with_cell_once old (trie_of t).branches t.made key offset step first.0 held.whole.sound first.1))
      (λ x h. with_cell_cells old (trie_of t).branches t.made key offset step first.0 held.whole.sound first.1 x (subst (λ l. has_cell x l ≡ true) grows h))

  pub put_held : IsWholeWithPaths after
  put_held = record { whole = record { sound = sound; within = within_more t.limits t.made (length (trie_of t).branches) held.whole.within room }; paths = held.paths }

  pub is_put_before : IsPutBefore (trie_of t) (trie_of after) key offset step
  is_put_before = record {
    everywhere_put = λ s at_cell. branches_changed old new key now change (put old (trie_of t).branches t.made key offset step s held.whole.sound at_cell) refl
        (put_through old (trie_of t).branches t.made key offset step s held.whole.sound at_cell)
        (grows ∙ with_cell_is_put old (trie_of t).branches t.made key offset step s held.whole.sound at_cell)
        (put_elsewhere old (trie_of t).branches t.made key offset step s held.whole.sound at_cell) (trie_of t).branches;
    made = refl;
    limits = refl;
    notes = notes_at (trie_of t) (trie_of after) key change.others (ap note_of change.here ∙ note);
    changed = λ e.
        let as_long : length w.slots.items ≡ length v.slots.items = ap length (sym (ap slots_of change.here) ∙ e ∙ ap slots_of was) in
        omega (arith, len);
    cut = cut_from_sound (trie_of after) (t.made + 1) sound;
  }

-- the result of `insert_at`
module _ {T : Type 0} (old new : TrieOf T) (index place key offset : ℕ) (step : Step) (cell_there : SpotHasCellAt (segment_at old.segments) (keys_in old.branches index) place (key, offset))
    (sound : IsSoundTrie (segment_at old.segments) old.branches old.made) (put : IsPutBefore old new key offset step) where
  the_cell : (s : Slot) × (slice_get (slots_of (segment_at old.segments key)) offset ≡ Some s)
  the_cell = slice_get_some (slots_of (segment_at old.segments key)) offset cell_there.within

  at_place : slice_get (slots_in (forest old).branches index) place ≡ Some the_cell.0
  at_place = ap (λ l. slice_get l place) (slots_in_on (segment_at old.segments) old.branches index) ∙ sym cell_there.same ∙ the_cell.1

  inner : nat_eq place (length (slots_in (forest old).branches index)) ≡ false
  inner = by (nat_eq place (length (slots_in (forest old).branches index))) refl
    where
      by : (b : Bool) → nat_eq place (length (slots_in (forest old).branches index)) ≡ b → nat_eq place (length (slots_in (forest old).branches index)) ≡ false
      by true e =
          let same : place ≡ length (slots_in (forest old).branches index) = eqb-true place (length (slots_in (forest old).branches index)) e in
          let h : place < length (slots_in (forest old).branches index) = slice_get_within (slots_in (forest old).branches index) place the_cell.0 at_place in
          absurd (omega arith)
      by false e = e

  branches : (forest new).branches ≡ (inserted (forest old) index place step).branches
  branches = put.everywhere_put the_cell.0 the_cell.1
      ∙ ap (λ x. everywhere (put_before x (slot old.made step)) (forest old).branches) (sym (cell_in_at (slots_in (forest old).branches index) place the_cell.0 at_place))
      ∙ ap (λ b. cond b (only_in index (put_last (slot old.made step)) (forest old).branches)
      (everywhere (put_before (cell_in (slots_in (forest old).branches index) place) (slot old.made step)) (forest old).branches)) (sym inner)

  pub inserted_before : IsInserted old new index place step
  inserted_before = record {
    forest_is = λ i. record { branches = branches i; made = put.made i };
    limits = put.limits;
    notes = λ name found.
        let here = holds_cell old name place index key offset found cell_there in
        notes_but old new key (HoldsCellAt old name place) (MayTouchAt old new name place step) put.notes (λ k h. one_holder old name place k key sound h here) (inl here);
    unchanged = unchanged_kept old new put.notes.notes (λ k e. subst (HasChanged old new) (sym (put.notes.only k e)) put.changed);
    cut = put.cut;
  }

-- a segment that gets a cell has changed
extended_changed : {T : Type 0} (old new : TrieOf T) (step : Step) (key : ℕ) → IsExtended old new step key → HasChanged old new key
extended_changed old new step key extended same =
    let one_more = length-append (slots_of (segment_at old.segments key)) (slot old.made step ∷ []) in
    let as_long = ap length (sym same ∙ extended) in
    omega (arith, one_more, as_long)

-- an insert at the end of a branch
module _ {T : Type 0} (old new : TrieOf T) (index place : ℕ) (step : Step) (all : length (slots_in (forest old).branches index) ≡ place)
    (pushed : IsPushed old new index step) where
  pushed_branches : (forest new).branches ≡ (inserted (forest old) index place step).branches
  pushed_branches = pushed.branches
      ∙ sym (ap (λ b. cond b (only_in index (put_last (slot old.made step)) (forest old).branches)
      (everywhere (put_before (cell_in (slots_in (forest old).branches index) place) (slot old.made step)) (forest old).branches))
      (eq-eqb place (length (slots_in (forest old).branches index)) (sym all)))

  pub inserted_last : IsInserted old new index place step
  inserted_last = record {
    forest_is = λ i. record { branches = pushed_branches i; made = pushed.made i };
    limits = pushed.limits;
    notes = λ name found. record {
      notes = pushed.notes.notes;
      each = λ k h. absurd (none_at_end old name index place found all k h);
      only = λ k e. inr (
        ap (option_map (λ i. length (slots_in (forest old).branches i))) found ∙ ap Some all,
        (end_holds_before old name index found k place (pushed.notes.only k e).0 all, (pushed.notes.only k e).1),
      );
    };
    unchanged = unchanged_kept old new pushed.notes.notes (λ k e. extended_changed old new step k (pushed.notes.only k e).1);
    cut = pushed.cut;
  }

some_full : {T : Type 0} (o : Option (SegmentOf T)) → 128 ≤ length (slots_of o) → IsSome o
some_full None h = absurd (omega arith)
some_full (Some p) h = refl

-- an insert in a full segment, which is cut in two
module _ {T : Type 0} (c d : TrieOf T) (key fresh offset : ℕ) (step : Step) (above below : SegmentOf T) (whole : IsWhole c)
    (divides : Divides (segment_at c.segments) (segment_at d.segments) key fresh above below) (branches : d.branches ≡ map (divided_branch key fresh) c.branches)
    (made : d.made ≡ c.made + 1) (limits : d.limits ≡ c.limits) (room : c.made < c.limits.cells)
    (inside : offset < length (slots_of (segment_at c.segments key))) (full : 128 ≤ length (slots_of (segment_at c.segments key)))
    (parts : above.slots ++ below.slots ≡ insert (slots_of (segment_at c.segments key)) offset (slot c.made step))
    (least : 64 ≤ length above.slots) (most : length above.slots ≤ 65) (none_above : above.note ≡ None) (none_below : below.note ≡ None) where
  cut_cell : (s : Slot) × (slice_get (slots_of (segment_at c.segments key)) offset ≡ Some s)
  cut_cell = slice_get_some (slots_of (segment_at c.segments key)) offset inside

  sum : length above.slots + length below.slots ≡ length (slots_of (segment_at c.segments key)) + 1
  sum = sym (length-append above.slots below.slots) ∙ ap length parts ∙ length-insert (slots_of (segment_at c.segments key)) offset (slot c.made step) (omega arith)

  few_before : (o : Option (SegmentOf T)) → IfSome o (IsSegment c.made) → length (slots_of o) ≤ 128
  few_before None h = omega arith
  few_before (Some p) h = h.few

  few : length (slots_of (segment_at c.segments key)) ≤ 128
  few = few_before (segment_at c.segments key) (whole.sound.segments key)

  cells : (x : ℕ) → has_cell x (above.slots ++ below.slots) ≡ true → (has_cell x (slots_of (segment_at c.segments key)) ≡ true) ⊎ ((c.made ≤ x) × (x < c.made + 1))
  cells x h =
      elim (with_cell_cells (segment_at c.segments) c.branches c.made key offset step cut_cell.0 whole.sound cut_cell.1 x (subst (λ l. has_cell x l ≡ true) parts h)) [
        | inl g ↦ inl g
        | inr e ↦ inr (omega arith, omega arith)
      ]

  once : Once (map cell_of (above.slots ++ below.slots))
  once = subst (λ l. Once (map cell_of l)) (sym parts) (with_cell_once (segment_at c.segments) c.branches c.made key offset step cut_cell.0 whole.sound cut_cell.1)

  sound_cut : IsSoundTrie (segment_at d.segments) (map (divided_branch key fresh) c.branches) (c.made + 1)
  sound_cut = sound-divided (segment_at c.segments) (segment_at d.segments) key fresh above below divides c.branches c.made (c.made + 1) whole.sound (omega arith)
      (omega (arith, least)) (omega (arith, most)) (omega (arith, sum, full, most)) (omega (arith, sum, few, least)) once cells

  sound_after : IsSoundTrie (segment_at d.segments) d.branches d.made
  sound_after = subst (λ l. IsSoundTrie (segment_at d.segments) l d.made) (sym branches) (subst (IsSoundTrie (segment_at d.segments) (map (divided_branch key fresh) c.branches)) (sym made) sound_cut)

  count : length d.branches ≡ length c.branches
  count = ap length branches ∙ length-map c.branches (divided_branch key fresh)

  cut_whole : IsWhole d
  cut_whole = record {
    sound = sound_after;
    within = subst (λ l. IsWithin l d.made (length d.branches)) (sym limits) (subst (λ n. IsWithin c.limits n (length d.branches)) (sym made)
        (subst (IsWithin c.limits (c.made + 1)) (sym count) (within_more c.limits c.made (length c.branches) whole.within room)));
  }

  lacked : (i : ℕ) → has fresh (keys_in c.branches i) ≡ false
  lacked = lacked-divided (segment_at c.segments) (segment_at d.segments) key fresh above below divides c.branches c.made (c.made + 1) whole.sound (omega arith)
      (omega (arith, least)) (omega (arith, most)) (omega (arith, sum, full, most)) (omega (arith, sum, few, least)) once cells

  is_put_after_cut : IsPutBefore c d key offset step
  is_put_after_cut = record {
    everywhere_put = λ s at_cell. ap (branches_on (segment_at d.segments)) branches
        ∙ branches-divided (segment_at c.segments) (segment_at d.segments) key fresh above below divides
        (put (segment_at c.segments) c.branches c.made key offset step s whole.sound at_cell) refl
        (put_through (segment_at c.segments) c.branches c.made key offset step s whole.sound at_cell)
        (parts ∙ with_cell_is_put (segment_at c.segments) c.branches c.made key offset step s whole.sound at_cell)
        (put_elsewhere (segment_at c.segments) c.branches c.made key offset step s whole.sound at_cell) c.branches lacked;
    made = made;
    limits = limits;
    notes = notes-divided c d key fresh above below divides none_above none_below;
    changed = λ e.
        let as_long : length below.slots ≡ length (slots_of (segment_at c.segments key)) = ap length (sym (ap slots_of divides.lower) ∙ e) in
        omega (arith, sum, least);
    cut = cut_from_sound d d.made sound_after;
  }

-- a segment with these cells and no note
abbrev pub unnoted : {T : Type 0} → Vec Slot → Segment T
unnoted slots = record { slots = slots; note = None }

-- an insert in a full segment, in terms of the fields
module _ {T : Type 0} (t d : Inside T) (view : TrieOf T) (view_is : trie_of t ≡ view) (mid : Family (Segment T)) (key fresh offset : ℕ) (step : Step)
    (above below : Vec Slot) (v w : Segment T) (cells : List Slot) (held : IsWholeWithPaths t) (cells_are : cells ≡ slots_of (segment_at view.segments key))
    (added : IsAdded t.segments mid fresh (unnoted above)) (there : item_at mid key ≡ Some v) (after : d.segments.items ≡ set mid.items key (Some w))
    (items : w.slots ≡ below) (note : w.note ≡ None) (paths : d.segments.paths ≡ map (divided_keys key fresh) t.segments.paths)
    (names : names_of d ≡ names_of t) (made : d.made ≡ t.made + 1) (limits : d.limits ≡ t.limits)
    (room : view.made < view.limits.cells) (inside : offset < length (slots_of (segment_at view.segments key))) (full : 128 ≤ length (slots_of (segment_at view.segments key)))
    (parts : above.items ++ below.items ≡ insert cells offset (slot t.made step)) (least : 64 ≤ length above.items) (most : length above.items ≤ 65) where
  seen : slots_of (segment_at view.segments key) ≡ slots_of (segment_at (trie_of t).segments key)
  seen = ap (λ z. slots_of (segment_at z.segments key)) (sym view_is)

  full_before : 128 ≤ length (slots_of (segment_at (trie_of t).segments key))
  full_before = subst (λ l. 128 ≤ length l) seen full

  divides : Divides (segment_at (trie_of t).segments) (segment_at (trie_of d).segments) key fresh (segment above.items None) (segment below.items None)
  divides = divides_from t d mid key fresh (unnoted above) v w below.items (some_full (segment_at (trie_of t).segments key) full_before) added there after (ap (λ z. z.items) items) note

  same_branches : (trie_of d).branches ≡ map (divided_branch key fresh) (trie_of t).branches
  same_branches = (λ i. keyed_branches (names i) (paths i)) ∙ keyed_branches-divided key fresh (names_of t) t.segments.paths

  many : length d.segments.paths ≡ length (names_of d)
  many = ap length paths ∙ length-map t.segments.paths (divided_keys key fresh) ∙ held.paths ∙ sym (ap length names)

  room_before : (trie_of t).made < (trie_of t).limits.cells
  room_before = subst (λ z. z.made < z.limits.cells) (sym view_is) room

  inside_before : offset < length (slots_of (segment_at (trie_of t).segments key))
  inside_before = subst (λ l. offset < length l) seen inside

  parts_before : above.items ++ below.items ≡ insert (slots_of (segment_at (trie_of t).segments key)) offset (slot t.made step)
  parts_before = parts ∙ ap (λ l. insert l offset (slot t.made step)) (cells_are ∙ seen)

  held_divided : IsWholeWithPaths d
  held_divided = record {
    whole = cut_whole (trie_of t) (trie_of d) key fresh offset step (segment above.items None) (segment below.items None) held.whole divides same_branches made limits
        room_before inside_before full_before parts_before least most refl refl;
    paths = many;
  }

  pub divided : IsWholeWithPaths d × IsPutBefore (trie_of t) (trie_of d) key offset step
  divided = (
    held_divided,
    is_put_after_cut (trie_of t) (trie_of d) key fresh offset step (segment above.items None) (segment below.items None) held.whole divides same_branches made limits
        room_before inside_before full_before parts_before least most refl refl,
  )
