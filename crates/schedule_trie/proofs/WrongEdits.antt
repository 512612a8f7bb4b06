-- The effects of wrong bodies of edits: each clause that refuses one is false of an example.
use Rattle.std.proofs.Common.{◌≡◌, ℕ, true, List, [], ◌∷◌, length, Option, Some, None, inl, inr, refl, sym, ap, subst, ◌∙◌, true≢false, arith}
use Rattle.schedule_steps.specs.declared.types.Step.{Step}
use Rattle.schedule_steps.specs.declared.types.Step.TheVariants.{Write}
use Rattle.branch_terms.proofs.Examples.{main, a, read, go}
use Rattle.branch_terms.specs.declared.slot.Slot.{Slot}
use Rattle.branch_terms.specs.Forest.{slot, slots_in}
use Rattle.schedule_trie.specs.Trie.{TrieOf, SegmentOf, KeyedBranch, keyed_branch, segment, note_of, slots_of, has_cell, HoldsCellAt, IsInserted, IsOwnEnd}
use Rattle.schedule_trie.specs.Edits.{Insert, Replace, IsEdited}

abbrev cut : List KeyedBranch → List (Option (SegmentOf ℕ)) → ℕ → TrieOf ℕ
cut branches segments made = record { branches = branches; segments = segments; made = made; limits = record { cells = 64; branches = 64; log = 64 } }

-- `main` has one cell, in a segment with the note 7
abbrev one : TrieOf ℕ
one = cut (keyed_branch main (0 ∷ []) ∷ []) (Some (segment (slot 0 read ∷ []) (Some 7)) ∷ []) 1

-- same-step-keeps-the-note: a replace by the same step has to clear the note too
pub same_step : IsEdited one one (Replace main 0 read) → ⊥
same_step e =
    let held : HoldsCellAt one main 0 0 = record { cell = 0; there = refl; held = refl } in
    let none : ◌≡◌ {A = Option ℕ} (Some 7) None = e.notes.notes.cleared 0 (e.notes.each 0 held) in
    cc

-- `main` has two segments of one cell each, with these notes; the first cell has this step
abbrev two : Step → Option ℕ → Option ℕ → TrieOf ℕ
two step first second =
    cut (keyed_branch main (0 ∷ 1 ∷ []) ∷ []) (Some (segment (slot 0 step ∷ []) first) ∷ Some (segment (slot 1 read ∷ []) second) ∷ []) 2

-- throw-all-away-every-run: the second segment isn't touched, and has no note
pub thrown_away : IsEdited (two read (Some 7) (Some 8)) (two go None None) (Replace main 0 go) → ⊥
thrown_away e = elim (e.notes.notes.kept 1 untouched refl) [
  | inl same ↦ let notes : ◌≡◌ {A = Option ℕ} None (Some 8) = ap note_of same in cc
  | inr gone ↦ let none = gone.0 in cc
]
  where
    untouched : e.notes.notes.touched ≡ Some 1 → ⊥
    untouched t =
        let held = e.notes.only 1 t in
        let there : Some 0 ≡ Some held.cell = held.there in
        let cell : 0 ≡ held.cell = cc in
        true≢false (sym (subst (λ x. has_cell x (slot 1 read ∷ []) ≡ true) (sym cell) held.held))

-- `main` has four cells in two segments
abbrev four : TrieOf ℕ
four = cut (keyed_branch main (0 ∷ 1 ∷ []) ∷ [])
    (Some (segment (slot 0 read ∷ slot 1 read ∷ []) None) ∷ Some (segment (slot 2 read ∷ slot 3 read ∷ []) None) ∷ []) 4

-- `main` has the same four cells and a fifth, each in a segment of its own
abbrev five : TrieOf ℕ
five = cut (keyed_branch main (2 ∷ 0 ∷ 3 ∷ 1 ∷ 4 ∷ []) ∷ [])
    (Some (segment (slot 1 read ∷ []) None) ∷ Some (segment (slot 3 read ∷ []) None) ∷ Some (segment (slot 0 read ∷ []) None)
    ∷ Some (segment (slot 2 read ∷ []) None) ∷ Some (segment (slot 4 go ∷ []) None) ∷ []) 5

-- throw-all-away-cuts-again: both segments have changed, and at most one may be touched
pub cut_again : IsEdited four five (Insert main 4 go) → ⊥
cut_again e = first (λ t. second (λ u. let same : ◌≡◌ {A = Option ℕ} (Some 0) (Some 1) = sym t ∙ u in let one : ◌≡◌ {A = ℕ} 0 1 = cc in omega (arith, one)))
  where
    first : (e.notes.0.notes.touched ≡ Some 0 → ⊥) → ⊥
    first ne = elim (e.notes.0.notes.kept 0 ne refl) [
      | inl same ↦ let long : ◌≡◌ {A = ℕ} 1 2 = ap (λ o. length (slots_of o)) same in omega (arith, long)
      | inr gone ↦ let none = gone.0 in cc
    ]

    second : (e.notes.0.notes.touched ≡ Some 1 → ⊥) → ⊥
    second ne = elim (e.notes.0.notes.kept 1 ne refl) [
      | inl same ↦ let long : ◌≡◌ {A = ℕ} 1 2 = ap (λ o. length (slots_of o)) same in omega (arith, long)
      | inr gone ↦ let none = gone.0 in cc
    ]

-- `main` and `a` share a segment of two cells, with the note 7
abbrev both : TrieOf ℕ
both = cut (keyed_branch main (0 ∷ []) ∷ keyed_branch a (0 ∷ []) ∷ []) (Some (segment (slot 0 read ∷ slot 1 go ∷ []) (Some 7)) ∷ []) 2

-- the shared segment is cut in two, and its note is gone; a new cell of `main` is in a segment of
-- its own
abbrev divided : TrieOf ℕ
divided = cut (keyed_branch main (1 ∷ 0 ∷ 2 ∷ []) ∷ keyed_branch a (1 ∷ 0 ∷ []) ∷ [])
    (Some (segment (slot 1 go ∷ []) None) ∷ Some (segment (slot 0 read ∷ []) None) ∷ Some (segment (slot 2 (Write 0 1) ∷ []) None) ∷ []) 3

-- append-cuts-a-shared-end: the shared segment is touched, and doesn't get the new cell
pub append_cuts : IsEdited both divided (Insert main 2 (Write 0 1)) → ⊥
append_cuts e = touched (λ t. elim (e.notes.0.only 0 t) [
  | inl held ↦ let none : ◌≡◌ {A = Option ℕ} None (Some held.cell) = held.there in cc
  | inr end ↦ let long : ◌≡◌ {A = ℕ} 1 3 = ap length end.1.1 in omega (arith, long)
])
  where
    touched : (e.notes.0.notes.touched ≡ Some 0 → ⊥) → ⊥
    touched ne = elim (e.notes.0.notes.kept 0 ne refl) [
      | inl same ↦ let long : ◌≡◌ {A = ℕ} 1 2 = ap (λ o. length (slots_of o)) same in omega (arith, long)
      | inr gone ↦ let none = gone.0 in cc
    ]

abbrev three : List Slot
three = slot 0 read ∷ slot 1 go ∷ slot 2 go ∷ []

-- `main` and `a` share their three cells
abbrev shared : TrieOf ℕ
shared = cut (keyed_branch main (0 ∷ []) ∷ keyed_branch a (0 ∷ []) ∷ []) (Some (segment three None) ∷ []) 3

-- leaking-insert: the end of `main` is also that of `a`
pub leaking : IsOwnEnd shared 0 0 → ⊥
leaking e = true≢false (e.own 1 (λ h. omega arith))

-- `main` has a new cell before its second one, and `a` keeps its three
abbrev private : TrieOf ℕ
private = cut (keyed_branch main (1 ∷ []) ∷ keyed_branch a (0 ∷ []) ∷ [])
    (Some (segment three None) ∷ Some (segment (slot 0 read ∷ slot 3 (Write 0 1) ∷ slot 1 go ∷ slot 2 go ∷ []) None) ∷ []) 4

-- private-insert: `a` has to have the new cell too
pub privately : IsInserted shared private 0 1 (Write 0 1) → ⊥
privately e = let long : ◌≡◌ {A = ℕ} 3 4 = ap (λ f. length (slots_in f.branches 1)) e.forest_is in omega (arith, long)
