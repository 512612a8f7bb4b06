-- Which segment has the cell at a place of a branch.
use Rattle.std.proofs.Common.{◌≡◌, ℕ, true, List, Some, sym, ap, subst, ◌∙◌, slice_get}
use Rattle.std.specs.Option.{option_map}
use Rattle.branch_terms.specs.declared.slot.Slot.{Slot}
use Rattle.branch_terms.specs.Forest.{cell_on_branch, cell_by, cell_of, index_of}
use Rattle.schedule_trie.specs.Trie.{TrieOf, segment_at, slots_of, forest, keys_in, has_cell, SpotHasCellAt, IsSoundTrie, KeepsNotesExcept, HoldsCellAt}
use Rattle.schedule_trie.proofs.segments.Changes.{has_cell_get}
use Rattle.schedule_trie.proofs.branches.Lines.{slots_in_on}
use Rattle.schedule_trie.proofs.segments.Notes.{notes_but}
use Rattle.branch_terms.proofs.Lists.{slice_get_some}

-- `cell_on_branch` gives the cell at the spot's offset in its segment
pub cell_found : {T : Type 0} (c : TrieOf T) (name : List ℕ) (place index key offset : ℕ) (s : Slot) → index_of (forest c).branches name ≡ Some index
    → SpotHasCellAt (segment_at c.segments) (keys_in c.branches index) place (key, offset) → slice_get (slots_of (segment_at c.segments key)) offset ≡ Some s
    → cell_on_branch (forest c) name place ≡ Some s.cell
cell_found c name place index key offset s found cell_there here =
    ap (λ o. cell_by o (forest c) place) found
    ∙ ap (λ l. option_map cell_of (slice_get l place)) (slots_in_on (segment_at c.segments) c.branches index)
    ∙ ap (option_map cell_of) (sym cell_there.same ∙ here)

-- the segment in which the cell at a place is found has that cell
pub holds_cell : {T : Type 0} (c : TrieOf T) (name : List ℕ) (place index key offset : ℕ) → index_of (forest c).branches name ≡ Some index
    → SpotHasCellAt (segment_at c.segments) (keys_in c.branches index) place (key, offset) → HoldsCellAt c name place key
holds_cell c name place index key offset found cell_there =
    let p = slice_get_some (slots_of (segment_at c.segments key)) offset cell_there.within in
    record {
      cell = p.0.cell;
      there = cell_found c name place index key offset p.0 found cell_there p.1;
      held = has_cell_get (slots_of (segment_at c.segments key)) offset p.0 p.1;
    }

-- only one segment has the cell at a place of a branch
pub one_holder : {T : Type 0} (c : TrieOf T) (name : List ℕ) (place j k : ℕ) → IsSoundTrie (segment_at c.segments) c.branches c.made
    → HoldsCellAt c name place j → HoldsCellAt c name place k → j ≡ k
one_holder c name place j k sound a b =
    let there : Some a.cell ≡ Some b.cell = sym a.there ∙ b.there in
    let same : a.cell ≡ b.cell = cc in
    sound.apart j k a.cell a.held (subst (λ x. has_cell x (slots_of (segment_at c.segments k)) ≡ true) (sym same) b.held)

-- an edit at a cell touches exactly the segment that has it
pub notes_here : {T : Type 0} (old new : TrieOf T) (name : List ℕ) (place index key offset : ℕ) → IsSoundTrie (segment_at old.segments) old.branches old.made
    → index_of (forest old).branches name ≡ Some index → SpotHasCellAt (segment_at old.segments) (keys_in old.branches index) place (key, offset)
    → KeepsNotesExcept old new (λ k. k ≡ key) → KeepsNotesExcept old new (HoldsCellAt old name place)
notes_here old new name place index key offset sound found cell_there notes =
    let here = holds_cell old name place index key offset found cell_there in
    notes_but old new key (HoldsCellAt old name place) (HoldsCellAt old name place) notes (λ k h. one_holder old name place k key sound h here) here
