-- Definitions that claim that something exists: an example of each, and a near miss.
use Rattle.std.proofs.Common.{ℕ, zero, suc, ◌≡◌, ◌+◌, ◌<◌, ◌≤◌, ◌⊎◌, Bool, true, false, ◌||◌, true≢false, nat_eq, List, [], ◌∷◌, ◌++◌, Option, Some, None, IsSome, IfSome, unwrap_or, length, codes, slice_index_or, ap, refl, sym, ◌∙◌, subst, inl, ⊎_elim, arith}
use Rattle.std.proofs.lemmas.Bool.{eqb-true}
use Rattle.schedule_steps.specs.declared.types.Step.{Step}
use Rattle.schedule_steps.specs.declared.types.Step.TheVariants.{Write, Read}
use Rattle.branch_terms.specs.Forest.{slot, step_of}
use Rattle.schedule_trie.specs.Trie.{TrieOf, SegmentOf, KeyedBranch, keyed_branch, segment, segment_at, slots_of, note_of, line, has, has_cell, keys_in, Linked, SharesAbove, IsSegment, IsSoundTrie, SpotIsAt, IsCut, AreGone, KeepsNotes, HoldsCellAt, HoldsCellBefore, KeepsAllNotes}

abbrev cut : List KeyedBranch → List (Option (SegmentOf ℕ)) → TrieOf ℕ
cut branches segments = record { branches = branches; segments = segments; made = 2; limits = record { cells = 9; branches = 9; log = 9 } }

-- a segment of one cell
abbrev cell : ℕ → Step → Option ℕ → Option (SegmentOf ℕ)
cell number step note = Some (segment (slot number step ∷ []) note)

abbrev main : List ℕ → KeyedBranch
main keys = keyed_branch (codes "main") keys

-- `main` alone, with one segment, whose note is 7
abbrev noted : TrieOf ℕ
noted = cut (main (0 ∷ []) ∷ []) (cell 0 (Read 1) (Some 7) ∷ [])

-- the same trie, but the segment has another step, and the given note or none
abbrev edited : Option ℕ → TrieOf ℕ
edited note = cut (main (0 ∷ []) ∷ []) (cell 0 (Write 0 1) note ∷ [])

-- two segments of one cell each. In `whole`, `main` has both; in `with_lost_segment`, it has only
-- the first, so that no branch has the second.
abbrev two_segments : List (Option (SegmentOf ℕ))
two_segments = cell 0 (Read 1) None ∷ cell 1 (Read 1) None ∷ []

abbrev whole : TrieOf ℕ
whole = cut (main (0 ∷ 1 ∷ []) ∷ []) two_segments

abbrev with_lost_segment : TrieOf ℕ
with_lost_segment = cut (main (0 ∷ []) ∷ []) two_segments

some_none : {A : Type 0} (x : A) → Some x ≡ None → ⊥
some_none x e = cc

other_step : Write 0 1 ≡ Read 1 → ⊥
other_step e = cc

not_zero : (k : ℕ) → has (suc k) (0 ∷ []) ≡ true → ⊥
not_zero k h = by (nat_eq (suc k) 0) refl
  where
    by : (b : Bool) → nat_eq (suc k) 0 ≡ b → ⊥
    by true e = let none : suc k ≡ 0 = eqb-true (suc k) 0 e in omega (arith, none)
    by false e = true≢false (sym h ∙ ap (λ b. b || false) e)

-- branches with the segments 0, 1 and 0, 2
SharesAbove-holds : SharesAbove (main (0 ∷ 1 ∷ []) ∷ keyed_branch (codes "a") (0 ∷ 2 ∷ []) ∷ [])
SharesAbove-holds = record { above = above; linked = linked }
  where
    above : ℕ → Option ℕ
    above zero = None
    above (suc k) = Some 0

    linked : (i : ℕ) → Linked above None (keys_in (main (0 ∷ 1 ∷ []) ∷ keyed_branch (codes "a") (0 ∷ 2 ∷ []) ∷ []) i)
    linked zero = (refl, (refl, tt))
    linked (suc zero) = (refl, (refl, tt))
    linked (suc (suc i)) = tt

-- branches with the segments 0, 1 and 1, 0, which share a segment, but not what is above it
SharesAbove-fails : SharesAbove (main (0 ∷ 1 ∷ []) ∷ keyed_branch (codes "a") (1 ∷ 0 ∷ []) ∷ []) → ⊥
SharesAbove-fails h = some_none 1 (sym (h.linked 1).1.0 ∙ (h.linked 0).0)

abbrev one_branch : List KeyedBranch
one_branch = main (0 ∷ []) ∷ []

one_held : (i k : ℕ) → has k (keys_in one_branch i) ≡ true → IsSome (segment_at noted.segments k)
one_held zero zero h = refl
one_held zero (suc k) h = absurd (not_zero k h)
one_held (suc i) k h = absurd (true≢false (sym h))

one_live : (k : ℕ) → IsSome (segment_at noted.segments k) → (i : ℕ) × (has k (keys_in one_branch i) ≡ true)
one_live zero h = (0, refl)
one_live (suc k) h = absurd (true≢false (sym h))

one_shares : SharesAbove one_branch
one_shares = record { above = λ k. None; linked = linked }
  where
    linked : (i : ℕ) → Linked (λ k. None) None (keys_in one_branch i)
    linked zero = (refl, tt)
    linked (suc i) = tt

-- a segment that no branch has
lost : (i : ℕ) → has 1 (keys_in one_branch i) ≡ true → ⊥
lost zero e = true≢false (sym e)
lost (suc i) e = true≢false (sym e)

-- one segment of one cell, on the one branch
IsSoundTrie-holds : IsSoundTrie (segment_at noted.segments) one_branch 2
IsSoundTrie-holds = record { held = one_held; segments = segments; apart = apart; live = one_live; shares = one_shares }
  where
    given : (x : ℕ) → has_cell x (slot 0 (Read 1) ∷ []) ≡ true → x < 2
    given zero h = omega arith
    given (suc x) h = absurd (not_zero x h)

    segments : (k : ℕ) → IfSome (segment_at noted.segments k) (IsSegment 2)
    segments zero = record { some = omega arith; few = omega arith; once = (refl, tt); given = given }
    segments (suc k) = tt

    apart : (j k x : ℕ) → has_cell x (slots_of (segment_at noted.segments j)) ≡ true → has_cell x (slots_of (segment_at noted.segments k)) ≡ true → j ≡ k
    apart zero zero x h g = refl
    apart zero (suc k) x h g = absurd (true≢false (sym g))
    apart (suc j) k x h g = absurd (true≢false (sym h))

-- no branch has the second segment
IsSoundTrie-fails : IsSoundTrie (segment_at two_segments) one_branch 2 → ⊥
IsSoundTrie-fails h = lost (h.live 1 refl).0 (h.live 1 refl).1

-- one segment of one cell, on the one branch
IsCut-holds : IsCut noted
IsCut-holds = record { held = one_held; sizes = sizes; live = one_live; shares = one_shares }
  where
    sizes : (k : ℕ) → IfSome (segment_at noted.segments k) (λ p. (0 < length p.slots) × (length p.slots ≤ 128))
    sizes zero = (omega arith, omega arith)
    sizes (suc k) = tt

-- no branch has the second segment
IsCut-fails : IsCut with_lost_segment → ⊥
IsCut-fails h = lost (h.live 1 refl).0 (h.live 1 refl).1

-- the first cell of the second segment is at place 1
SpotIsAt-holds : SpotIsAt (segment_at two_segments) (0 ∷ 1 ∷ []) 1 (1, 0)
SpotIsAt-holds = record { front = 0 ∷ []; back = []; is = refl; first = refl; before = refl; within = omega arith }

-- the first cell of the second segment isn't at place 0
SpotIsAt-fails : SpotIsAt (segment_at two_segments) (0 ∷ 1 ∷ []) 0 (1, 0) → ⊥
SpotIsAt-fails h = by h.front h.back h.is h.before
  where
    by : (front back : List ℕ) → 0 ∷ 1 ∷ [] ≡ front ++ 1 ∷ back → length (line (segment_at two_segments) front) + 0 ≡ 0 → ⊥
    by [] back e before = let same : 0 ≡ 1 = ap (λ keys. slice_index_or keys 0 5) e in omega (arith, same)
    by (k ∷ front) back e before =
        let first : k ≡ 0 = sym (ap (λ keys. slice_index_or keys 0 5) e) in
        let none : length (line (segment_at two_segments) (0 ∷ front)) + 0 ≡ 0 =
        subst (λ k. length (line (segment_at two_segments) (k ∷ front)) + 0 ≡ 0) first before in
        omega (arith, none)

-- the second segment has the cell at place 1 of `main`
HoldsCellAt-holds : HoldsCellAt whole (codes "main") 1 1
HoldsCellAt-holds = record { cell = 1; there = refl; held = refl }

-- the first segment doesn't have the cell at place 1 of `main`
HoldsCellAt-fails : HoldsCellAt whole (codes "main") 1 0 → ⊥
HoldsCellAt-fails h =
    let number : 1 ≡ h.cell = ap (λ o. unwrap_or o 0) h.there in
    true≢false (sym (ap (λ x. has_cell x (slot 0 (Read 1) ∷ [])) number ∙ h.held))

-- the second segment has the cell before place 2 of `main`
HoldsCellBefore-holds : HoldsCellBefore whole (codes "main") 2 1
HoldsCellBefore-holds = record { before = 1; next = refl; holds = HoldsCellAt-holds }

-- no cell is before place 0
HoldsCellBefore-fails : HoldsCellBefore whole (codes "main") 0 0 → ⊥
HoldsCellBefore-fails h = omega (arith, h.next)

-- the one segment has another step, and its note is cleared
KeepsNotes-holds : KeepsNotes noted (edited None)
KeepsNotes-holds = record { touched = Some 0; kept = kept; cleared = cleared; fresh = fresh }
  where
    kept : (k : ℕ) → (Some 0 ≡ Some k → ⊥) → IsSome (segment_at noted.segments k)
        → (segment_at (edited None).segments k ≡ segment_at noted.segments k) ⊎ ((segment_at (edited None).segments k ≡ None) × AreGone (edited None) (slots_of (segment_at noted.segments k)))
    kept zero other some = absurd (other refl)
    kept (suc k) other some = absurd (true≢false (sym some))

    cleared : (k : ℕ) → Some 0 ≡ Some k → note_of (segment_at (edited None).segments k) ≡ None
    cleared zero h = refl
    cleared (suc k) h = refl

    fresh : (k : ℕ) → segment_at noted.segments k ≡ None → note_of (segment_at (edited None).segments k) ≡ None
    fresh zero h = refl
    fresh (suc k) h = refl

-- a segment with another step neither stays nor is gone
neither : (seven : Option ℕ) → (segment_at (edited seven).segments 0 ≡ segment_at noted.segments 0)
    ⊎ ((segment_at (edited seven).segments 0 ≡ None) × AreGone (edited seven) (slots_of (segment_at noted.segments 0))) → ⊥
neither seven h = ⊎_elim (λ stays. other_step (ap step_at stays)) (λ gone. some_none _ gone.0) h
  where
    step_at : Option (SegmentOf ℕ) → Step
    step_at None = Read 7
    step_at (Some p) = step_of (slice_index_or p.slots 0 (slot 0 (Read 7)))

-- the one segment has another step, but still its note
KeepsNotes-fails : KeepsNotes noted (edited (Some 7)) → ⊥
KeepsNotes-fails h = neither (Some 7) (h.kept 0 (λ touched. some_none 7 (h.cleared 0 touched)) refl)

-- nothing is changed
KeepsAllNotes-holds : KeepsAllNotes noted noted
KeepsAllNotes-holds = (record { touched = None; kept = λ k other some. inl refl; cleared = λ k none. absurd (some_none k (sym none)); fresh = fresh }, refl)
  where
    fresh : (k : ℕ) → segment_at noted.segments k ≡ None → note_of (segment_at noted.segments k) ≡ None
    fresh zero h = absurd (some_none _ h)
    fresh (suc k) h = refl

-- the one segment has another step
KeepsAllNotes-fails : KeepsAllNotes noted (edited None) → ⊥
KeepsAllNotes-fails h = neither None (h.0.kept 0 (λ touched. some_none 0 (sym touched ∙ h.1)) refl)
