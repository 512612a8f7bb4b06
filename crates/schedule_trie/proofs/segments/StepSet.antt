-- Segments in terms of the fields: one gets another step or note, or an equal one takes its place;
-- or only reserved memory changes.
use Rattle.std.proofs.Common.{map, ◌++◌, ◌≡◌, ℕ, ◌<◌, Bool, true, false, nat_eq, zero, suc, ◌≤◌, List, [], ◌∷◌, length, slice_get, slice_index_or, Option, Some, None, IsSome, Ok, Err, refl, sym, ap, subst, ◌∙◌, true≢false, arith, cond, eq-eqb, Result}
use Rattle.std.proofs.lemmas.Bool.{eqb-true, lt-leb}
use Rattle.std.specs.Option.{IfSome, option_map}
use Rattle.std.proofs.Math.ListN.{get_or-map}
use Rattle.lineage.specs.Family.{item_at, with_item}
use Rattle.schedule_steps.specs.declared.types.Step.{Step}
use Rattle.branch_terms.specs.declared.slot.Slot.{Slot}
use Rattle.schedule_trie.specs.declared.segment.Segment.{Segment}
use Rattle.schedule_trie.specs.declared.trie.Trie.TheInside.{Inside}
use Rattle.branch_terms.specs.declared.refusal.Refusal.TheVariants.{NoPlace}
use Rattle.branch_terms.specs.Forest.{branch, replace_step, at_cell, on_found, replaced_by, index_of, slots_in, cell_in, cell_of, everywhere}
use Rattle.schedule_trie.specs.Slots.{set_step}
use Rattle.schedule_trie.specs.Trie.{line, KeyedBranch, IsNoted, with_note, branches_on, TrieOf, SegmentOf, segment, segment_at, slots_of, forest, keys_in, SpotHasCellAt, note_of, IsSoundTrie, IsCut, IsWithin, IsSegment, IsStepSet, IsWhole}
use Rattle.schedule_trie.specs.TrieFields.{segment_of, trie_of, IsWholeWithPaths, segments_of, keyed_branches, AreLengths, AreNames, IsTrie}
use Rattle.branch_terms.specs.declared.limits.Limits.{Limits}
use Rattle.branch_terms.specs.declared.limits.TheConstants.{MOST_CELLS_MADE}
use Rattle.schedule_trie.proofs.segments.Changes.{SameCells, segment_at_set, Changes, sound_same, replaced_everywhere, replaced_same}
use Rattle.schedule_trie.proofs.branches.Lines.{slots_in_on}
use Rattle.schedule_trie.proofs.segments.Notes.{notes_at}
use Rattle.branch_terms.proofs.Lists.{cell_in_at, slice_get_some}
use Rattle.std.proofs.lemmas.Option.{slice_get_within}
use Rattle.std.specs.Map.{keys_of}
use Rattle.std.specs.Result.{OnErr}
use Rattle.std.proofs.Math.Seq.{map-set_same}
use Rattle.schedule_trie.proofs.Results.{always_on_err}

pub key_within : {X : Type 0} (xs : List (Option X)) (key : ℕ) (x : X) → slice_index_or xs key None ≡ Some x → key < length xs
key_within [] key x e = absurd (cc)
key_within (o ∷ xs) zero x e = omega arith
key_within (o ∷ xs) (suc key) x e = let h : key < length xs = key_within xs key x e in omega arith

module _ {T : Type 0} where
  pub segment_seen : (t : Inside T) (key : ℕ) → segment_at (trie_of t).segments key ≡ segment_of (item_at t.segments key)
  segment_seen t key = get_or-map segment_of t.segments.items key None

  pub inside_from : (t : Inside T) (key offset : ℕ) (v : Segment T) (c : TrieOf T) → trie_of t ≡ c → item_at t.segments key ≡ Some v
      → offset < length (slots_of (segment_at c.segments key)) → offset < length v.slots.items
  inside_from t key offset v c seen there h =
      subst (λ o. offset < length (slots_of o)) (ap (λ b. segment_at b.segments key) (sym seen) ∙ segment_seen t key ∙ ap segment_of there) h

  -- a segment that has cells exists
  pub there_from_slots : (o : Option (Segment T)) (offset : ℕ) → offset < length (slots_of (segment_of o)) → IsSome o
  there_from_slots None offset h = absurd (omega arith)
  there_from_slots (Some v) offset h = refl

  pub held_there : (t : Inside T) (key offset : ℕ) (c : TrieOf T) → trie_of t ≡ c → offset < length (slots_of (segment_at c.segments key)) → IsSome (item_at t.segments key)
  held_there t key offset c seen h =
      there_from_slots (item_at t.segments key) offset (subst (λ o. offset < length (slots_of o)) (ap (λ b. segment_at b.segments key) (sym seen) ∙ segment_seen t key) h)

  pub item_there : (t : Inside T) (key : ℕ) → IsSome (segment_at (trie_of t).segments key) → IsSome (item_at t.segments key)
  item_there t key h = by (item_at t.segments key) (subst IsSome (segment_seen t key) h)
    where
      by : (o : Option (Segment T)) → IsSome (segment_of o) → IsSome o
      by None e = e
      by (Some v) e = refl

  pub none_there : (t : Inside T) (key : ℕ) → segment_at (trie_of t).segments key ≡ None → item_at t.segments key ≡ None
  none_there t key e = by (item_at t.segments key) (sym (segment_seen t key) ∙ e)
    where
      by : (o : Option (Segment T)) → segment_of o ≡ None → o ≡ None
      by None h = refl
      by (Some v) h = absurd (cc)

  sizes_from : (made : ℕ) (o : Option (SegmentOf T)) → IfSome o (IsSegment made) → IfSome o (λ p. (0 < length p.slots) × (length p.slots ≤ 128))
  sizes_from made None h = tt
  sizes_from made (Some p) h = (h.some, h.few)

  pub cut_from_sound : (c : TrieOf T) (made : ℕ) → IsSoundTrie (segment_at c.segments) c.branches made → IsCut c
  cut_from_sound c made s =
      record { held = s.held; sizes = λ k. sizes_from made (segment_at c.segments k) (s.segments k); live = s.live; shares = s.shares }

-- the fields, with the segment at a key replaced
abbrev pub with_segment : {T : Type 0} → Inside T → ℕ → Segment T → Inside T
with_segment t key w = record t { segments = with_item t.segments key w }

-- storing w in place of v changes the trie's segment at `key`, from v's to w's, and no other
pub record IsStoredAt {T : Type 0} (t : Inside T) (key : ℕ) (v w : Segment T) : Type 0 where
  pub change : Changes (segment_at (trie_of t).segments) (segment_at (trie_of (with_segment t key w)).segments) key (segment w.slots.items w.note)
  pub was : segment_at (trie_of t).segments key ≡ Some (segment v.slots.items v.note)

pub is_stored_at : {T : Type 0} (t : Inside T) (key : ℕ) (v w : Segment T) → item_at t.segments key ≡ Some v → IsStoredAt t key v w
is_stored_at t key v w there = record {
  change = segment_at_set t.segments.items key w (key_within t.segments.items key v there);
  was = segment_seen t key ∙ ap segment_of there;
}

-- a trie with the same limits, and with no more branches than before, is within its limits
pub within_still : (old new : Limits) (made branches few : ℕ) → new ≡ old → 0 < few → few ≤ branches → made ≤ old.cells → IsWithin old made branches → IsWithin new made few
within_still old new made branches few limits some fewer fits was = record {
  cells = subst (λ l. made ≤ l.cells) (sym limits) fits;
  branches_fit = subst (λ l. few ≤ l.branches) (sym limits) (omega (arith, fewer, was.branches_fit));
  some = some;
  most_cells = subst (λ l. l.cells ≤ MOST_CELLS_MADE) (sym limits) was.most_cells;
  most_branches = subst (λ l. l.branches ≤ 1024) (sym limits) was.most_branches;
}

module _ {T : Type 0} (t : Inside T) (key offset : ℕ) (step : Step) (v w : Segment T) (held : IsWholeWithPaths t) (there : item_at t.segments key ≡ Some v)
    (inside : offset < length v.slots.items) (slots : w.slots.items ≡ set_step v.slots.items offset step) (note : w.note ≡ None) where
  abbrev after : Inside T
  after = with_segment t key w

  seen : IsStoredAt t key v w
  seen = is_stored_at t key v w there

  here : segment_at (trie_of after).segments key ≡ Some (segment (set_step (slots_of (segment_at (trie_of t).segments key)) offset step) None)
  here = seen.change.here ∙ (λ i. Some (segment (slots i) (note i))) ∙ sym (ap (λ o. Some (segment (set_step (slots_of o) offset step) None)) seen.was)

  first : (s : Slot) × (slice_get (slots_of (segment_at (trie_of t).segments key)) offset ≡ Some s)
  first = let p = slice_get_some v.slots.items offset inside in (p.0, ap (λ o. slice_get (slots_of o) offset) seen.was ∙ p.1)

  set_sound : IsSoundTrie (segment_at (trie_of after).segments) (trie_of t).branches t.made
  set_sound = sound_same (segment_at (trie_of t).segments) (segment_at (trie_of after).segments)
      (replaced_same (segment_at (trie_of t).segments) (segment_at (trie_of after).segments) (trie_of t).branches t.made key offset step first.0 held.whole.sound here seen.change.others first.1)
      (trie_of t).branches t.made held.whole.sound

  pub set_held : IsWholeWithPaths after
  set_held = record { whole = record { sound = set_sound; within = held.whole.within }; paths = held.paths }

  pub is_step_set : IsStepSet (trie_of t) (trie_of after) key offset step
  is_step_set = record {
    everywhere_set = λ s at_cell. replaced_everywhere (segment_at (trie_of t).segments) (segment_at (trie_of after).segments) (trie_of t).branches t.made key offset step s held.whole.sound here seen.change.others at_cell;
    made = refl;
    limits = refl;
    notes = notes_at (trie_of t) (trie_of after) key seen.change.others (ap note_of here);
    cut = cut_from_sound (trie_of after) t.made set_sound;
  }

-- the result of a command at a cell
module _ {T : Type 0} (old new : TrieOf T) (name : List ℕ) (place index key offset : ℕ)
    (found : index_of (forest old).branches name ≡ Some index)
    (cell_there : SpotHasCellAt (segment_at old.segments) (keys_in old.branches index) place (key, offset)) where
  abbrev pub the_cell : (s : Slot) × (slice_get (slots_of (segment_at old.segments key)) offset ≡ Some s)
  the_cell = slice_get_some (slots_of (segment_at old.segments key)) offset cell_there.within

  at_place : slice_get (slots_in (forest old).branches index) place ≡ Some the_cell.0
  at_place = ap (λ l. slice_get l place) (slots_in_on (segment_at old.segments) old.branches index) ∙ sym cell_there.same ∙ the_cell.1

  pub command_at : (change : ℕ → List Slot → List Slot) → on_found (index_of (forest old).branches name) (at_cell (forest old) place change)
      ≡ Ok (record { branches = everywhere (change the_cell.0.cell) (forest old).branches; made = old.made })
  command_at change =
      ap (λ o. on_found o (at_cell (forest old) place change)) found
      ∙ ap (λ b. cond b (Err NoPlace) (Ok (record { branches = everywhere (change (cell_in (slots_in (forest old).branches index) place)) (forest old).branches; made = old.made })))
      (lt-leb (length (slots_in (forest old).branches index)) place (slice_get_within (slots_in (forest old).branches index) place the_cell.0 at_place))
      ∙ ap (λ x. Ok (record { branches = everywhere (change x) (forest old).branches; made = old.made })) (cell_in_at (slots_in (forest old).branches index) place the_cell.0 at_place)

  pub replace_ok : (step : Step) → IsStepSet old new key offset step → replace_step (forest old) name place step ≡ Ok (forest new)
  replace_ok step set = command_at (replaced_by step)
      ∙ sym (λ i. Ok (record { branches = set.everywhere_set the_cell.0 the_cell.1 i; made = set.made i }))

-- the note of a segment is set
module _ {T : Type 0} (t : Inside T) (key : ℕ) (v w : Segment T) (held : IsWholeWithPaths t) (there : item_at t.segments key ≡ Some v) (same : w.slots ≡ v.slots) where
  abbrev noted : Inside T
  noted = with_segment t key w

  note_seen : IsStoredAt t key v w
  note_seen = is_stored_at t key v w there

  slots_kept : (k : ℕ) → slots_of (segment_at (trie_of noted).segments k) ≡ slots_of (segment_at (trie_of t).segments k)
  slots_kept k = by (nat_eq k key) refl
    where
      by : (b : Bool) → nat_eq k key ≡ b → slots_of (segment_at (trie_of noted).segments k) ≡ slots_of (segment_at (trie_of t).segments k)
      by true e = subst (λ j. slots_of (segment_at (trie_of noted).segments j) ≡ slots_of (segment_at (trie_of t).segments j)) (sym (eqb-true k key e))
          (ap slots_of note_seen.change.here ∙ ap (λ z. z.items) same ∙ sym (ap slots_of note_seen.was))
      by false e = ap slots_of (note_seen.change.others k (λ f. true≢false (sym (eq-eqb k key f) ∙ e)))

  note_same : SameCells (segment_at (trie_of t).segments) (segment_at (trie_of noted).segments)
  note_same = record { cells = λ k. ap (map cell_of) (slots_kept k); there = λ k h. by_there k (nat_eq k key) refl h; was_there = λ k h. by_was k (nat_eq k key) refl h }
    where
      by_there : (k : ℕ) (b : Bool) → nat_eq k key ≡ b → IsSome (segment_at (trie_of t).segments k) → IsSome (segment_at (trie_of noted).segments k)
      by_there k true e h = subst (λ j. IsSome (segment_at (trie_of noted).segments j)) (sym (eqb-true k key e)) (subst IsSome (sym note_seen.change.here) refl)
      by_there k false e h = subst IsSome (sym (note_seen.change.others k (λ f. true≢false (sym (eq-eqb k key f) ∙ e)))) h

      by_was : (k : ℕ) (b : Bool) → nat_eq k key ≡ b → IsSome (segment_at (trie_of noted).segments k) → IsSome (segment_at (trie_of t).segments k)
      by_was k true e h = subst (λ j. IsSome (segment_at (trie_of t).segments j)) (sym (eqb-true k key e)) (subst IsSome (sym note_seen.was) refl)
      by_was k false e h = subst IsSome (note_seen.change.others k (λ f. true≢false (sym (eq-eqb k key f) ∙ e))) h

  pub note_held : IsWholeWithPaths noted
  note_held = record {
    whole = record {
      sound = sound_same (segment_at (trie_of t).segments) (segment_at (trie_of noted).segments) note_same (trie_of t).branches t.made held.whole.sound;
      within = held.whole.within;
    };
    paths = held.paths;
  }

  line_same : (ks : List ℕ) → line (segment_at (trie_of noted).segments) ks ≡ line (segment_at (trie_of t).segments) ks
  line_same [] = refl
  line_same (k ∷ ks) = λ i. slots_kept k i ++ line_same ks i

  branches_same : (branches : List KeyedBranch) → branches_on (segment_at (trie_of noted).segments) branches ≡ branches_on (segment_at (trie_of t).segments) branches
  branches_same [] = refl
  branches_same (s ∷ ss) = λ i. branch s.name (line_same s.keys i) ∷ branches_same ss i

  pub is_noted : IsNoted (trie_of t) (trie_of noted) key w.note
  is_noted = record {
    here = note_seen.change.here ∙ (λ i. Some (segment (same i).items w.note)) ∙ sym (ap (option_map (with_note w.note)) note_seen.was);
    others = note_seen.change.others;
    branches = refl;
    limits = refl;
    unchanged = λ i. record { branches = branches_same (trie_of t).branches i; made = t.made };
  }

  pub is_noted_with : (note : Option T) → w.note ≡ note → IsNoted (trie_of t) (trie_of noted) key note
  is_noted_with other e = subst (IsNoted (trie_of t) (trie_of noted) key) e is_noted

-- the trie is unchanged when a segment is replaced by an equal one
pub equal_item_seen : {T : Type 0} (t : Inside T) (key : ℕ) (v w : Segment T) → item_at t.segments key ≡ Some v → w.slots.items ≡ v.slots.items → w.note ≡ v.note
    → trie_of (record t { segments = with_item t.segments key w }) ≡ trie_of t
equal_item_seen t key v w there items note =
    let same : segment_of (Some w) ≡ segment_of (item_at t.segments key) = (λ i. Some (segment (items i) (note i))) ∙ ap segment_of (sym there) in
    ap (λ p. record (trie_of t) { segments = p }) (map-set_same segment_of t.segments.items key (Some w) None same)

pub equal_item_kept : {T : Type 0} (t : Inside T) (key : ℕ) (w : Segment T) → IsTrie t → trie_of (record t { segments = with_item t.segments key w }) ≡ trie_of t
    → IsTrie (record t { segments = with_item t.segments key w })
equal_item_kept t key w kept same = record {
  held = record { whole = subst IsWhole (sym same) kept.held.whole; paths = kept.held.paths };
  lengths = subst (λ c. AreLengths t.branches.entries (forest c).branches) (sym same) kept.lengths;
  names = kept.names;
}

-- the fields that contracts see are equal: at most reserved memory is new
module _ {T : Type 0} (t u : Inside T) (entries : u.branches.entries ≡ t.branches.entries)
    (segments : u.segments ≡ t.segments) (made : u.made ≡ t.made) (limits : u.limits ≡ t.limits) where
  reserved_seen : trie_of u ≡ trie_of t
  reserved_seen = λ i. record {
    branches = keyed_branches (keys_of (entries i)) (segments i).paths;
    segments = segments_of (segments i).items;
    made = made i;
    limits = limits i;
  }

  pub reserved_kept : IsTrie t → IsTrie u
  reserved_kept kept = record {
    held = record {
      whole = subst IsWhole (sym reserved_seen) kept.held.whole;
      paths = ap (λ s. length s.paths) segments ∙ kept.held.paths ∙ sym (ap (λ es. length (keys_of es)) entries);
    };
    lengths = subst (λ es. AreLengths es (forest (trie_of u)).branches) (sym entries)
        (subst (λ c. AreLengths t.branches.entries (forest c).branches) (sym reserved_seen) kept.lengths);
    names = subst (λ es. AreNames (keys_of es)) (sym entries) kept.names;
  }

  pub reserved_err : {A E : Type 0} (r : Result A E) {cut : TrieOf T} → trie_of t ≡ cut → OnErr r (trie_of u ≡ cut)
  reserved_err r was = always_on_err r _ (reserved_seen ∙ was)
