-- Cursors are within their bounds, since no branch has more cells than were ever made.
use Rattle.std.proofs.Common.{◌≡◌, ℕ, suc, ◌<◌, ◌≤◌, Bool, true, false, ◌||◌, nat_eq, List, [], ◌∷◌, length, map, slice_get, Option, Some, None, refl, arith}
use Rattle.std.specs.Option.{IfSome}
use Rattle.std.specs.List.{list_any}
use Rattle.std.specs.List.{IsDistinct, AllByRecursion}
use Rattle.std.proofs.lemmas.Bool.{eqb-true}
use Rattle.std.proofs.lemmas.List.{length-map}
use Rattle.std.proofs.lemmas.Map.Steps.{length-le_from_distinct_below}
use Rattle.schedule_trie.specs.declared.slot.Slot.{Slot}
use Rattle.branch_terms.specs.Forest.{Forest, IsForest, slots_in, cell_of}
use Rattle.branch_terms.specs.declared.limits.TheConstants.{MOST_CELLS_MADE}
use Rattle.sessions.specs.declared.cursor.Cursor.{Cursor}
use Rattle.sessions.specs.Bounds.{AreWithin}
use Rattle.sessions.specs.Cursors.{AreAtPlaces, IsAtPlace, cursor_at}
use Rattle.sessions.proofs.CursorPlaces.{same_cell_same_place, within_branch}

-- if cells with the same number are at the same place, the cells' numbers all differ
cells_apart : (slots : List Slot) → ((k l : ℕ) (s t : Slot) → slice_get slots k ≡ Some s → slice_get slots l ≡ Some t → s.cell ≡ t.cell → k ≡ l) → IsDistinct nat_eq (map cell_of slots)
unfolding IsDistinct
cells_apart [] h = tt
cells_apart (y ∷ ys) h =
    (others ys (λ k s e c. let same : 0 ≡ suc k = h 0 (suc k) y s refl e c in omega arith), cells_apart ys (λ k l s t d e c. let same : suc k ≡ suc l = h (suc k) (suc l) s t d e c in omega arith))
  where
    differ : (b : Bool) (z : Slot) → nat_eq y.cell z.cell ≡ b → (y.cell ≡ z.cell → ⊥) → b ≡ false
    differ true z e apart = absurd (apart (eqb-true y.cell z.cell e))
    differ false z e apart = refl

    others : (zs : List Slot) → ((k : ℕ) (s : Slot) → slice_get zs k ≡ Some s → y.cell ≡ s.cell → ⊥) → AllByRecursion (λ z. nat_eq y.cell z ≡ false) (map cell_of zs)
    others [] g = tt
    others (z ∷ zs) g = (differ (nat_eq y.cell z.cell) z refl (g 0 z refl), others zs (λ k. g (suc k)))

cells_below : (n : ℕ) (slots : List Slot) → ((k : ℕ) → IfSome (slice_get slots k) (λ s. s.cell < n)) → (q : ℕ) → list_any (nat_eq q) (map cell_of slots) ≡ true → q < n
cells_below n [] h q e = absurd (cc)
cells_below n (y ∷ ys) h q e = by (cells_below n ys (λ k. h (suc k)) q) (nat_eq q y.cell) refl e
  where
    by : (list_any (nat_eq q) (map cell_of ys) ≡ true → q < n) → (b : Bool) → nat_eq q y.cell ≡ b → (b || list_any (nat_eq q) (map cell_of ys)) ≡ true → q < n
    by rest true g i = let same = eqb-true q y.cell g in let first : y.cell < n = h 0 in omega arith
    by rest false g i = rest i

-- no branch has more cells than were ever made, since it has each of them at most once
pub slots_within_made : (f : Forest) → IsForest f → (j : ℕ) → length (slots_in f.branches j) ≤ f.made
slots_within_made f held j =
    let slots = slots_in f.branches j in
    let apart : IsDistinct nat_eq (map cell_of slots) = cells_apart slots (same_cell_same_place f held j) in
    let few : length (map cell_of slots) ≤ f.made = length-le_from_distinct_below (map cell_of slots) f.made apart (cells_below f.made slots (held.given j)) in
    let same : length (map cell_of slots) ≡ length slots = length-map slots cell_of in
    omega arith

-- if at most MOST_CELLS_MADE cells were ever made, cursors at places that exist are within bounds
pub are_within : (f : Forest) (cursors : List (Option Cursor)) → IsForest f → f.made ≤ MOST_CELLS_MADE → AreAtPlaces f cursors → AreWithin cursors
are_within f cursors held few all who = by (cursor_at cursors who) (all who)
  where
    by : (o : Option Cursor) → IfSome o (IsAtPlace f) → IfSome o (λ c. c.place ≤ MOST_CELLS_MADE)
    by None h = tt
    by (Some c) h = let s = within_branch f c h in omega (arith, s.within, slots_within_made f held s.index, few)
