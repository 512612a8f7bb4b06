-- The segment that has the cell at a place, or the one right before it.
use Rattle.std.proofs.Common.{◌≡◌, ℕ, zero, suc, ◌+◌, ◌-◌, ◌<◌, true, List, [], ◌∷◌, ◌++◌, length, take, drop, get_or, slice_get, Option, Some, None, IsSome, refl, sym, ap, subst, ◌∙◌, true≢false, arith, append-nil}
use Rattle.std.specs.Option.{IfSome, option_map}
use Rattle.std.proofs.lemmas.List.{length-append, take-append-drop}
use Rattle.branch_terms.specs.declared.slot.Slot.{Slot}
use Rattle.branch_terms.specs.Forest.{cell_on_branch, cell_by, cell_of, index_of, slots_in}
use Rattle.schedule_trie.specs.Trie.{TrieOf, SegmentOf, segment_at, slots_of, line, forest, keys_in, has, has_cell, Once, SpotHasCellAt, IsSegment, IsWhole, IsEnd, HoldsCellAt, HoldsCellBefore, IsParted}
use Rattle.schedule_trie.proofs.segments.Changes.{has_cell_get}
use Rattle.schedule_trie.proofs.branches.Lines.{in_line, slots_in_on, line-drop}
use Rattle.schedule_trie.proofs.lists.NoRepeats.{Once-from_linked, has-get_or, Once-apart, has-in}
use Rattle.schedule_trie.proofs.edits.Pushes.{line-append}
use Rattle.schedule_trie.proofs.segments.CellHolders.{holds_cell}
use Rattle.branch_terms.proofs.Lists.{slice_get_left, slice_get_right}
use Rattle.std.proofs.lemmas.Option.{slice_get_within}

module _ {T : Type 0} (at : ℕ → Option (SegmentOf T)) where
  -- a cell's place is its offset plus the number of cells in the segments before its own
  spot_in_segment : (keys : List ℕ) (count offset place : ℕ) → count < length keys → offset < length (slots_of (at (get_or keys count 0)))
      → length (line at (take count keys)) + offset ≡ place → SpotHasCellAt at keys place (get_or keys count 0, offset)
  spot_in_segment keys count offset place inside within place_is = record {
    member = has-get_or keys count inside;
    within = within;
    same = sym (slice_get_left (slots_of (at (get_or keys count 0))) (line at (drop (suc count) keys)) offset within)
        ∙ sym (ap (λ l. slice_get l offset) (line-drop at keys count inside))
        ∙ sym (slice_get_right (line at (take count keys)) (line at (drop count keys)) place offset place_is)
        ∙ ap (λ l. slice_get l place) (sym (line-append at (take count keys) (drop count keys)) ∙ ap (line at) (take-append-drop count keys));
  }

  -- a cell's place in the last segment
  spot_in_last : (front : List ℕ) (key offset : ℕ) → offset < length (slots_of (at key)) → SpotHasCellAt at (front ++ key ∷ []) (length (line at front) + offset) (key, offset)
  spot_in_last front key offset within = record {
    member = has-in key front [];
    within = within;
    same = ap (λ l. slice_get l offset) (sym (append-nil (slots_of (at key))))
        ∙ sym (slice_get_right (line at front) (slots_of (at key) ++ []) (length (line at front) + offset) offset refl)
        ∙ ap (λ l. slice_get l (length (line at front) + offset)) (sym (line-append at front (key ∷ [])));
  }

  length-line_last : (front : List ℕ) (key : ℕ) → length (line at (front ++ key ∷ [])) ≡ length (line at front) + length (slots_of (at key))
  length-line_last front key =
      ap length (line-append at front (key ∷ [])) ∙ length-append (line at front) (slots_of (at key) ++ [])
      ∙ ap (λ l. length (line at front) + length l) (append-nil (slots_of (at key)))

-- an existing segment has a cell
pub some_slots : {T : Type 0} (made : ℕ) (o : Option (SegmentOf T)) → IsSome o → IfSome o (IsSegment made) → 0 < length (slots_of o)
some_slots made None h s = absurd (true≢false (sym h))
some_slots made (Some p) h s = s.some

module _ {T : Type 0} (c : TrieOf T) (name : List ℕ) (index : ℕ) (found : index_of (forest c).branches name ≡ Some index) where
  abbrev keys : List ℕ
  keys = keys_in c.branches index

  abbrev at : ℕ → Option (SegmentOf T)
  at = segment_at c.segments

  -- a place between two cells of a segment
  pub parted : (count rest place : ℕ) → count < length keys → 0 < rest → rest < length (slots_of (at (get_or keys count 0)))
      → length (line at (take count keys)) + rest ≡ place → IsParted c name place (get_or keys count 0)
  parted count zero place inside some within lies = absurd (omega arith)
  parted count (suc n) place inside some within lies = record {
    above = record {
      before = length (line at (take count keys)) + n;
      next = omega arith;
      holds = holds_cell c name (length (line at (take count keys)) + n) index (get_or keys count 0) n found
          (spot_in_segment at keys count n (length (line at (take count keys)) + n) inside (omega arith) refl);
    };
    below = holds_cell c name place index (get_or keys count 0) (suc n) found (spot_in_segment at keys count (suc n) place inside within lies);
  }

  -- the last segment of a branch has the cell before the branch's length
  pub end_holds_before : (key place : ℕ) → IsEnd c index key → length (slots_in (forest c).branches index) ≡ place → HoldsCellBefore c name place key
  end_holds_before key place end all =
      let some = end.some in
      let sum : length (slots_in (forest c).branches index) ≡ length (line at end.front) + length (slots_of (at key)) =
      ap length (slots_in_on at c.branches index ∙ ap (line at) end.last) ∙ length-line_last at end.front key in
      record {
        before = length (line at end.front) + (length (slots_of (at key)) - 1);
        next = omega arith;
        holds = holds_cell c name (length (line at end.front) + (length (slots_of (at key)) - 1)) index key (length (slots_of (at key)) - 1) found
            (subst (λ l. SpotHasCellAt at l (length (line at end.front) + (length (slots_of (at key)) - 1)) (key, length (slots_of (at key)) - 1)) (sym end.last)
            (spot_in_last at end.front key (length (slots_of (at key)) - 1) (omega arith)));
      }

-- if `option_map` gives the number x for `o`, then `o` is a cell with this number
some_cell : (o : Option Slot) (x : ℕ) → option_map cell_of o ≡ Some x → (s : Slot) × (o ≡ Some s) × (s.cell ≡ x)
some_cell None x e = absurd (cc)
some_cell (Some s) x e = (s, refl, cc)

module _ {T : Type 0} (c : TrieOf T) (name : List ℕ) (index place : ℕ) (found : index_of (forest c).branches name ≡ Some index) where
  -- the cell at a place is on the branch's line
  read_at : (x : ℕ) → cell_on_branch (forest c) name place ≡ Some x → (s : Slot) × (slice_get (line (segment_at c.segments) (keys_in c.branches index)) place ≡ Some s) × (s.cell ≡ x)
  read_at x e = some_cell (slice_get (line (segment_at c.segments) (keys_in c.branches index)) place) x
      (ap (λ l. option_map cell_of (slice_get l place)) (sym (slots_in_on (segment_at c.segments) c.branches index)) ∙ ap (λ o. cell_by o (forest c) place) (sym found) ∙ e)

  -- there is no cell at the branch's length
  pub none_at_end : length (slots_in (forest c).branches index) ≡ place → (k : ℕ) → HoldsCellAt c name place k → ⊥
  none_at_end all k h =
      let p = read_at h.cell h.there in
      let less : place < length (line (segment_at c.segments) (keys_in c.branches index)) = slice_get_within (line (segment_at c.segments) (keys_in c.branches index)) place p.0 p.1 in
      let long : length (line (segment_at c.segments) (keys_in c.branches index)) ≡ place = ap length (sym (slots_in_on (segment_at c.segments) c.branches index)) ∙ all in
      omega arith

-- no segment has cells on both sides of a place at which a segment ends
module _ {T : Type 0} (c : TrieOf T) (name : List ℕ) (index place count : ℕ) (whole : IsWhole c) (found : index_of (forest c).branches name ≡ Some index)
    (long : length (line (segment_at c.segments) (take count (keys_in c.branches index))) ≡ place) where
  abbrev front : List ℕ
  front = take count (keys_in c.branches index)

  abbrev back : List ℕ
  back = drop count (keys_in c.branches index)

  parts : line (segment_at c.segments) (keys_in c.branches index) ≡ line (segment_at c.segments) front ++ line (segment_at c.segments) back
  parts = ap (line (segment_at c.segments)) (sym (take-append-drop count (keys_in c.branches index))) ∙ line-append (segment_at c.segments) front back

  -- the key of a segment that has a cell of a line is one of the line's keys
  in_keys : (keys : List ℕ) (x k offset : ℕ) (s : Slot) → slice_get (line (segment_at c.segments) keys) offset ≡ Some s → s.cell ≡ x
      → has_cell x (slots_of (segment_at c.segments k)) ≡ true → has k keys ≡ true
  in_keys keys x k offset s e same h =
      let p = in_line (segment_at c.segments) x keys (subst (λ y. has_cell y (line (segment_at c.segments) keys) ≡ true) same (has_cell_get (line (segment_at c.segments) keys) offset s e)) in
      subst (λ j. has j keys ≡ true) (whole.sound.apart p.0 k x p.2 h) p.1

  pub none_parted : (k : ℕ) → IsParted c name place k → ⊥
  none_parted k h =
      let upper = read_at c name index h.above.before found h.above.holds.cell h.above.holds.there in
      let lower = read_at c name index place found h.below.cell h.below.there in
      let next = h.above.next in
      let in_front = in_keys front h.above.holds.cell k h.above.before upper.0
      (sym (slice_get_left (line (segment_at c.segments) front) (line (segment_at c.segments) back) h.above.before (omega (arith, long, next)))
      ∙ ap (λ l. slice_get l h.above.before) (sym parts) ∙ upper.1) upper.2 h.above.holds.held in
      let in_back = in_keys back h.below.cell k 0 lower.0
      (sym (slice_get_right (line (segment_at c.segments) front) (line (segment_at c.segments) back) place 0 (omega (arith, long)))
      ∙ ap (λ l. slice_get l place) (sym parts) ∙ lower.1) lower.2 h.below.held in
      Once-apart k front back
      (subst Once (sym (take-append-drop count (keys_in c.branches index))) (Once-from_linked whole.sound.shares.above (keys_in c.branches index) (whole.sound.shares.linked index)))
      in_front in_back
