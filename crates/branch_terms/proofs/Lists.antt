-- Numbers, keys, and lists of any items or of cells.
use Rattle.std.proofs.Common.{◌≡◌, ℕ, zero, suc, ◌+◌, ◌-◌, ◌<◌, ◌≤◌, Bool, true, false, nat_eq, List, [], ◌∷◌, ◌++◌, length, take, drop, get_or, slice_get, Option, Some, None, refl, sym, ap, subst, ◌∙◌, arith, eq-eqb, inl, inr}
use Rattle.std.specs.Option.{option_eq}
use Rattle.std.proofs.lemmas.Bool.{cases_order, eqb-true, eqb-false, ne_eqb}
use Rattle.std.proofs.lemmas.List.{take_all}
use Rattle.branch_terms.specs.declared.slot.Slot.{Slot}
use Rattle.branch_terms.specs.Forest.{cell_of, cell_in}

-- a number is below another, the same, or above it
pub by_order : (i n : ℕ) (P : Type 0) → (i < n → P) → (i ≡ n → P) → (n < i → P) → P
by_order i n P below same above = elim (cases_order i n) [ inl e ↦ same e | inr (inl h) ↦ below h | inr (inr h) ↦ above h ]

-- two tests of equality have the same result if each equality implies the other
pub nat_eq_alike : (a b c d : ℕ) → (a ≡ b → c ≡ d) → (c ≡ d → a ≡ b) → nat_eq a b ≡ nat_eq c d
nat_eq_alike a b c d there back = by (nat_eq a b) refl
  where
    by : (x : Bool) → nat_eq a b ≡ x → nat_eq a b ≡ nat_eq c d
    by true e = e ∙ sym (eq-eqb c d (there (eqb-true a b e)))
    by false e = e ∙ sym (ne_eqb c d (λ g. eqb-false a b e (back g)))

pub nat_eq_symmetric : (x y : ℕ) → nat_eq x y ≡ nat_eq y x
nat_eq_symmetric x y = nat_eq_alike x y y x (λ e. sym e) (λ e. sym e)

-- two optional keys that compare equal are the same
pub option_eq-true : (a b : Option ℕ) → option_eq nat_eq a b ≡ true → a ≡ b
option_eq-true None None e = refl
option_eq-true None (Some k) e = cc
option_eq-true (Some j) None e = cc
option_eq-true (Some j) (Some k) e = ap Some (eqb-true j k e)

pub slice_get_some : {X : Type 0} (xs : List X) (i : ℕ) → i < length xs → (x : X) × (slice_get xs i ≡ Some x)
slice_get_some [] i h = absurd (omega arith)
slice_get_some (x ∷ xs) zero h = (x, refl)
slice_get_some (x ∷ xs) (suc i) h = slice_get_some xs i (omega arith)

-- an index of the first of two joined lists has that list's item
pub slice_get_left : {X : Type 0} (xs ys : List X) (i : ℕ) → i < length xs → slice_get (xs ++ ys) i ≡ slice_get xs i
slice_get_left [] ys i h = absurd (omega arith)
slice_get_left (x ∷ xs) ys zero h = refl
slice_get_left (x ∷ xs) ys (suc i) h = slice_get_left xs ys i (omega arith)

-- an index after the first of two joined lists has an item of the second
pub slice_get_right : {X : Type 0} (xs ys : List X) (i j : ℕ) → length xs + j ≡ i → slice_get (xs ++ ys) i ≡ slice_get ys j
slice_get_right [] ys i j e = ap (slice_get ys) (omega arith)
slice_get_right (x ∷ xs) ys zero j e = absurd (omega arith)
slice_get_right (x ∷ xs) ys (suc i) j e = slice_get_right xs ys i j (omega arith)

pub slice_get-last : {X : Type 0} (xs : List X) (x : X) → slice_get (xs ++ x ∷ []) (length xs) ≡ Some x
slice_get-last [] x = refl
slice_get-last (y ∷ ys) x = slice_get-last ys x

rest_item : {X : Type 0} (x : X) (xs : List X) (m i : ℕ) (d : X) → length xs ≤ m → i < length (take m xs) → d ≡ get_or (take m xs) i d
    → (i + 1 < length (x ∷ xs)) × (get_or (x ∷ xs) (i + 1) d ≡ d)
rest_item x xs m i d most less at =
    let whole = take_all m xs most in
    let inside : i < length xs = subst (λ l. i < length l) whole less in
    let here : get_or xs i d ≡ d = sym (subst (λ l. d ≡ get_or l i d) whole at) in
    (omega (arith, inside), subst (λ n. get_or (x ∷ xs) n d ≡ d) (next i) here)
  where
    next : (i : ℕ) → suc i ≡ i + 1
    next i = omega arith

-- the item at index i of a list without its first item is the one at index i + 1 of the list
pub item_of_rest : {X : Type 0} (all : List X) (i : ℕ) (d : X) → 0 < length all → i < length (take (length all - 1) (drop 1 all)) → d ≡ get_or (take (length all - 1) (drop 1 all)) i d
    → (i + 1 < length all) × (get_or all (i + 1) d ≡ d)
item_of_rest [] i d some less at = absurd (omega arith)
item_of_rest (x ∷ all) i d some less at = rest_item x all (suc (length all) - 1) i d (omega arith) less at

-- an index at the end of a list without its first item is the last of the list
pub rest_ends : {X : Type 0} (all : List X) (i : ℕ) → 0 < length all → length (take (length all - 1) (drop 1 all)) ≤ i → length all ≤ i + 1
rest_ends [] i some end = omega arith
rest_ends (x ∷ all) i some end =
    let whole = take_all (suc (length all) - 1) all (omega arith) in
    let len = subst (λ l. length l ≤ i) whole end in omega arith

-- `cell_in` gives the number of the cell at an index
pub cell_in_at : (slots : List Slot) (k : ℕ) (s : Slot) → slice_get slots k ≡ Some s → cell_in slots k ≡ s.cell
cell_in_at [] k s e = absurd (cc)
cell_in_at (z ∷ zs) zero s e = let same : z ≡ s = cc in ap cell_of same
cell_in_at (z ∷ zs) (suc k) s e = cell_in_at zs k s e
