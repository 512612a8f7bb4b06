-- A removal, in terms of the fields.
use Rattle.std.proofs.Common.{◌≡◌, ℕ, ◌<◌, ◌≤◌, List, [], ◌∷◌, length, map, slice_get, Some, None, Ok, refl, sym, ap, subst, ◌∙◌, arith}
use Rattle.std.specs.List.{remove}
use Rattle.std.proofs.lemmas.List.{length-map}
use Rattle.lineage.specs.Family.{item_at}
use Rattle.branch_terms.specs.declared.slot.Slot.{Slot}
use Rattle.schedule_trie.specs.declared.segment.Segment.{Segment}
use Rattle.schedule_trie.specs.declared.trie.Trie.TheInside.{Inside}
use Rattle.branch_terms.specs.Forest.{without, remove_cell, index_of}
use Rattle.schedule_trie.specs.Trie.{IsWithin, TrieOf, segment, segment_at, slots_of, note_of, forest, branches_on, keys_in, keys_without, branch_without, SpotHasCellAt, IsSoundTrie, IsRemoved}
use Rattle.schedule_trie.specs.TrieFields.{segment_of, keyed_branches, names_of, trie_of, IsWholeWithPaths}
use Rattle.schedule_trie.proofs.branches.KeyedBranches.{keyed_branches-without}
use Rattle.schedule_trie.proofs.segments.Notes.{notes_at}
use Rattle.schedule_trie.proofs.segments.StepSet.{IsStoredAt, is_stored_at, with_segment, within_still, segment_seen, cut_from_sound, command_at, the_cell}
use Rattle.schedule_trie.proofs.edits.Removals.{gone_everywhere, sound_within, gone_with_segment, sound_gone}
use Rattle.branch_terms.proofs.Lists.{slice_get_some}

-- removing a cell of a segment that has other cells
module _ {T : Type 0} (t : Inside T) (key offset : ℕ) (v w : Segment T) (held : IsWholeWithPaths t) (there : item_at t.segments key ≡ Some v)
    (inside : offset < length (slots_of (segment_at (trie_of t).segments key))) (more : 1 < length (slots_of (segment_at (trie_of t).segments key)))
    (slots : w.slots.items ≡ remove v.slots.items offset) (note : w.note ≡ None) where
  abbrev after : Inside T
  after = with_segment t key w

  seen : IsStoredAt t key v w
  seen = is_stored_at t key v w there

  here : slots_of (segment_at (trie_of after).segments key) ≡ remove (slots_of (segment_at (trie_of t).segments key)) offset
  here = ap slots_of seen.change.here ∙ slots ∙ sym (ap (λ o. remove (slots_of o) offset) seen.was)

  first : (s : Slot) × (slice_get (slots_of (segment_at (trie_of t).segments key)) offset ≡ Some s)
  first = slice_get_some (slots_of (segment_at (trie_of t).segments key)) offset inside

  sound : IsSoundTrie (segment_at (trie_of after).segments) (trie_of t).branches t.made
  sound = sound_within (segment_at (trie_of t).segments) (segment_at (trie_of after).segments) key offset first.0 (trie_of t).branches t.made held.whole.sound here seen.change.others first.1
      (segment v.slots.items v.note) (segment w.slots.items w.note) seen.was seen.change.here more

  pub within_held : IsWholeWithPaths after
  within_held = record { whole = record { sound = sound; within = held.whole.within }; paths = held.paths }

  pub is_removed_within : IsRemoved (trie_of t) (trie_of after) key offset
  is_removed_within = record {
    everywhere_gone = λ s at_cell. gone_everywhere (segment_at (trie_of t).segments) (segment_at (trie_of after).segments) key offset s (trie_of t).branches t.made held.whole.sound here seen.change.others at_cell;
    made = refl;
    limits = refl;
    notes = notes_at (trie_of t) (trie_of after) key seen.change.others (ap note_of seen.change.here ∙ note);
    cut = cut_from_sound (trie_of after) t.made sound;
  }

removed_all : (slots : List Slot) → length slots ≡ 1 → [] ≡ remove slots 0
removed_all [] h = absurd (omega arith)
removed_all (s ∷ []) h = refl
removed_all (s ∷ z ∷ zs) h = absurd (omega arith)

-- removing a segment with its only cell
module _ {T : Type 0} (t u : Inside T) (key : ℕ) (held : IsWholeWithPaths t) (one : length (slots_of (segment_at (trie_of t).segments key)) ≡ 1)
    (none : item_at u.segments key ≡ None) (kept : (j : ℕ) → (j ≡ key → ⊥) → item_at u.segments j ≡ item_at t.segments j)
    (paths : u.segments.paths ≡ map (keys_without key) t.segments.paths) (names : names_of u ≡ names_of t)
    (made : u.made ≡ t.made) (limits : u.limits ≡ t.limits) where
  branches : (trie_of u).branches ≡ map (branch_without key) (trie_of t).branches
  branches = (λ i. keyed_branches (names i) (paths i)) ∙ keyed_branches-without key (names_of t) t.segments.paths

  many : length u.segments.paths ≡ length (names_of u)
  many = ap length paths ∙ length-map t.segments.paths (keys_without key) ∙ held.paths ∙ sym (ap length names)

  gone : segment_at (trie_of u).segments key ≡ None
  gone = segment_seen u key ∙ ap segment_of none

  others : (j : ℕ) → (j ≡ key → ⊥) → segment_at (trie_of u).segments j ≡ segment_at (trie_of t).segments j
  others j ne = segment_seen u j ∙ ap segment_of (kept j ne) ∙ sym (segment_seen t j)

  all_gone : slots_of (segment_at (trie_of u).segments key) ≡ remove (slots_of (segment_at (trie_of t).segments key)) 0
  all_gone = ap slots_of gone ∙ removed_all (slots_of (segment_at (trie_of t).segments key)) one

  only : (s : Slot) × (slice_get (slots_of (segment_at (trie_of t).segments key)) 0 ≡ Some s)
  only = slice_get_some (slots_of (segment_at (trie_of t).segments key)) 0 (omega (arith, one))

  sound_rest : IsSoundTrie (segment_at (trie_of u).segments) (trie_of u).branches u.made
  sound_rest =
      subst (λ n. IsSoundTrie (segment_at (trie_of u).segments) (trie_of u).branches n) (sym made)
      (subst (λ ss. IsSoundTrie (segment_at (trie_of u).segments) ss t.made) (sym branches)
      (sound_gone (segment_at (trie_of t).segments) (segment_at (trie_of u).segments) key 0 only.0 (trie_of t).branches t.made held.whole.sound all_gone others only.1 gone))

  count : length (trie_of u).branches ≡ length (trie_of t).branches
  count = ap length branches ∙ length-map (trie_of t).branches (branch_without key)

  pub gone_held : IsWholeWithPaths u
  gone_held = record {
    whole = record {
      sound = sound_rest;
      within = within_still t.limits u.limits u.made (length (trie_of t).branches) (length (trie_of u).branches) limits (subst (λ n. 0 < n) (sym count) held.whole.within.some) (omega (arith, count))
          (subst (λ n. n ≤ t.limits.cells) (sym made) held.whole.within.cells) (subst (λ n. IsWithin t.limits n (length (trie_of t).branches)) (sym made) held.whole.within);
    };
    paths = many;
  }

  pub is_removed_whole : IsRemoved (trie_of t) (trie_of u) key 0
  is_removed_whole = record {
    everywhere_gone = λ s at_cell. ap (branches_on (segment_at (trie_of u).segments)) branches
        ∙ gone_with_segment (segment_at (trie_of t).segments) (segment_at (trie_of u).segments) key 0 s (trie_of t).branches t.made held.whole.sound all_gone others at_cell gone;
    made = made;
    limits = limits;
    notes = notes_at (trie_of t) (trie_of u) key others (ap note_of gone);
    cut = cut_from_sound (trie_of u) u.made sound_rest;
  }

-- the result of `remove`
pub remove_ok : {T : Type 0} (old new : TrieOf T) (name : List ℕ) (place index key offset : ℕ) → index_of (forest old).branches name ≡ Some index
    → SpotHasCellAt (segment_at old.segments) (keys_in old.branches index) place (key, offset) → IsRemoved old new key offset
    → remove_cell (forest old) name place ≡ Ok (forest new)
remove_ok old new name place index key offset found cell_there removed =
    let cell = the_cell old new name place index key offset found cell_there in
    command_at old new name place index key offset found cell_there without
    ∙ sym (λ i. Ok (record { branches = removed.everywhere_gone cell.0 cell.1 i; made = removed.made i }))
