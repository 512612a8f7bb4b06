-- Lists of cells and branches, for limbs.
use Rattle.std.proofs.Common.{◌≡◌, ℕ, zero, suc, ◌+◌, ◌<◌, ◌≤◌, Bool, true, false, not, ◌&&◌, ◌||◌, cond, nat_eq, List, [], ◌∷◌, ◌++◌, length, map, take, refl, sym, ap, subst, ◌∙◌, true≢false, eq-eqb, arith}
use Rattle.std.specs.List.{list_any, list_all, prefix_len, position_or_len}
use Rattle.schedule_steps.specs.declared.types.Step.{Step}
use Rattle.branch_terms.specs.declared.slot.Slot.{Slot}
use Rattle.std.proofs.lemmas.Bool.{eqb-true, or_right}
use Rattle.std.proofs.lemmas.List.Folds.{list_any-append}
use Rattle.branch_terms.specs.Forest.{Branch, is_cell, slot, numbered, slots_in, step_of, cell_in}
use Rattle.branch_terms.specs.Limbs.{has_slot, holds, is_in_branches}

-- a cell in a list is the first one, or is in the rest
pub has_slot_cases : (x : ℕ) (s : Slot) (xs : List Slot) (P : Type 0) → has_slot x (s ∷ xs) ≡ true → (x ≡ s.cell → P) → (has_slot x xs ≡ true → P) → P
has_slot_cases x s xs P h same rest = by (nat_eq s.cell x) refl
  where
    by : (b : Bool) → nat_eq s.cell x ≡ b → P
    by true e = same (sym (eqb-true s.cell x e))
    by false e = rest (sym (ap (λ b. b || has_slot x xs) e) ∙ h)

pub has_slot-head : (s : Slot) (xs : List Slot) → has_slot s.cell (s ∷ xs) ≡ true
has_slot-head s xs = ap (λ b. b || has_slot s.cell xs) (eq-eqb s.cell s.cell refl)

pub has_slot-tail : (x : ℕ) (s : Slot) (xs : List Slot) → has_slot x xs ≡ true → has_slot x (s ∷ xs) ≡ true
has_slot-tail x s xs h = or_right (nat_eq s.cell x) (has_slot x xs) h

pub has_slot-append : (x : ℕ) (xs ys : List Slot) → has_slot x (xs ++ ys) ≡ (has_slot x xs || has_slot x ys)
has_slot-append x xs ys = list_any-append (is_cell x) xs ys

pub slots_in-front : (bs : List Branch) (b : Branch) (i : ℕ) → i < length bs → slots_in (bs ++ b ∷ []) i ≡ slots_in bs i
slots_in-front [] b i h = absurd (omega arith)
slots_in-front (c ∷ bs) b zero h = refl
slots_in-front (c ∷ bs) b (suc i) h = slots_in-front bs b i (omega arith)

pub slots_in-last : (bs : List Branch) (b : Branch) → slots_in (bs ++ b ∷ []) (length bs) ≡ b.slots
slots_in-last [] b = refl
slots_in-last (c ∷ bs) b = slots_in-last bs b

pub slots_in-past : (bs : List Branch) (i : ℕ) → length bs ≤ i → slots_in bs i ≡ []
slots_in-past [] i h = refl
slots_in-past (c ∷ bs) zero h = absurd (omega arith)
slots_in-past (c ∷ bs) (suc i) h = slots_in-past bs i (omega arith)

-- if branch j has the cell, `list_any` finds a branch that has it
pub any_from : (bs : List Branch) (j x : ℕ) → has_slot x (slots_in bs j) ≡ true → list_any (holds x) bs ≡ true
any_from [] j x h = absurd (true≢false (sym h))
any_from (b ∷ bs) zero x h = ap (λ c. c || list_any (holds x) bs) h
any_from (b ∷ bs) (suc j) x h = by (holds x b) (any_from bs j x h)
  where
    by : (c : Bool) → list_any (holds x) bs ≡ true → (c || list_any (holds x) bs) ≡ true
    by true r = refl
    by false r = r

-- if no branch has the cell, `list_any` finds none
pub any_none : (bs : List Branch) (x : ℕ) → ((j : ℕ) → has_slot x (slots_in bs j) ≡ false) → list_any (holds x) bs ≡ false
any_none [] x h = refl
any_none (b ∷ bs) x h = ap (λ c. c || list_any (holds x) bs) (h 0) ∙ any_none bs x (λ j. h (suc j))

-- if `list_any` finds a branch that has the cell, some branch j has it
pub any_which : (bs : List Branch) (x : ℕ) → list_any (holds x) bs ≡ true → (j : ℕ) × (has_slot x (slots_in bs j) ≡ true)
any_which [] x h = absurd (true≢false (sym h))
any_which (b ∷ bs) x h = by (any_which bs x) (holds x b) refl
  where
    by : (list_any (holds x) bs ≡ true → (j : ℕ) × (has_slot x (slots_in bs j) ≡ true)) → (c : Bool) → holds x b ≡ c → (j : ℕ) × (has_slot x (slots_in (b ∷ bs) j) ≡ true)
    by rest true e = (0, e)
    by rest false e = let r = rest (sym (ap (λ c. c || list_any (holds x) bs) e) ∙ h) in (suc r.0, r.1)

-- if branch p has the cell x, and no branch before it has, a search for x finds p
pub first_is : (bs : List Branch) (p x : ℕ) → has_slot x (slots_in bs p) ≡ true → ((j : ℕ) → j < p → has_slot x (slots_in bs j) ≡ false)
    → position_or_len (holds x) bs ≡ p
first_is [] p x h none = absurd (true≢false (sym h))
first_is (b ∷ bs) zero x h none = ap (λ c. cond (not c) (1 + position_or_len (holds x) bs) 0) h
first_is (b ∷ bs) (suc p) x h none =
    ap (λ c. cond (not c) (1 + position_or_len (holds x) bs) 0) (none 0 (omega arith))
    ∙ ap (λ n. 1 + n) (first_is bs p x h (λ j less. none (suc j) (omega arith))) ∙ omega arith

-- the branch p has the cell x, and no branch before it has
pub record IsFirst (bs : List Branch) (x p : ℕ) : Type 0 where
  pub has_it : has_slot x (slots_in bs p) ≡ true
  pub within : p < length bs
  pub none_before : (j : ℕ) → j < p → has_slot x (slots_in bs j) ≡ false

first_here : (b : Branch) (bs : List Branch) (x : ℕ) → holds x b ≡ true → IsFirst (b ∷ bs) x (position_or_len (holds x) (b ∷ bs))
first_here b bs x e =
    let here : 0 ≡ position_or_len (holds x) (b ∷ bs) = sym (ap (λ c. cond (not c) (1 + position_or_len (holds x) bs) 0) e) in
    subst (IsFirst (b ∷ bs) x) here (record { has_it = e; within = omega arith; none_before = λ j less. absurd (omega arith) })

first_later : (b : Branch) (bs : List Branch) (x p : ℕ) → holds x b ≡ false → IsFirst bs x p → IsFirst (b ∷ bs) x (suc p)
first_later b bs x p e r = record { has_it = r.has_it; within = omega (arith, r.within); none_before = before }
  where
    before : (j : ℕ) → j < suc p → has_slot x (slots_in (b ∷ bs) j) ≡ false
    before zero less = e
    before (suc j) less = r.none_before j (omega arith)

-- if some branch has the cell x, a search for x finds the first one that has it
pub first_has : (bs : List Branch) (x : ℕ) → list_any (holds x) bs ≡ true → IsFirst bs x (position_or_len (holds x) bs)
first_has [] x h = absurd (true≢false (sym h))
first_has (b ∷ bs) x h = by (first_has bs x) (holds x b) refl
  where
    by : (list_any (holds x) bs ≡ true → IsFirst bs x (position_or_len (holds x) bs)) → (c : Bool) → holds x b ≡ c
        → IsFirst (b ∷ bs) x (position_or_len (holds x) (b ∷ bs))
    by rest true e = first_here b bs x e
    by rest false e =
        let below : suc (position_or_len (holds x) bs) ≡ position_or_len (holds x) (b ∷ bs) =
        omega arith ∙ sym (ap (λ c. cond (not c) (1 + position_or_len (holds x) bs) 0) e) in
        subst (IsFirst (b ∷ bs) x) below (first_later b bs x (position_or_len (holds x) bs) e (rest (sym (ap (λ c. c || list_any (holds x) bs) e) ∙ h)))

-- the first item of a list, if there is one, fails the test
abbrev pub StopsAt : {X : Type 0} → (X → Bool) → List X → Type 0
StopsAt test [] = Unit {0}
StopsAt test (x ∷ xs) = test x ≡ false

pub prefix_is : {X : Type 0} (test : X → Bool) (xs ys : List X) → list_all test xs ≡ true → StopsAt test ys → prefix_len test (xs ++ ys) ≡ length xs
prefix_is test [] [] all stops = refl
prefix_is test [] (y ∷ ys) all stops = ap (λ c. cond c (1 + prefix_len test ys) 0) stops
prefix_is test (x ∷ xs) ys all stops = by (λ h. prefix_is test xs ys h stops) (test x) refl all
  where
    by : (list_all test xs ≡ true → prefix_len test (xs ++ ys) ≡ length xs) → (c : Bool) → test x ≡ c → (c && list_all test xs) ≡ true
        → prefix_len test ((x ∷ xs) ++ ys) ≡ suc (length xs)
    by rest true e h = ap (λ c. cond c (1 + prefix_len test (xs ++ ys)) 0) e ∙ ap (λ n. 1 + n) (rest h) ∙ omega arith
    by rest false e h = absurd (true≢false (sym h))

pub all_in : (bs : List Branch) (xs : List Slot) → ((x : ℕ) → has_slot x xs ≡ true → list_any (holds x) bs ≡ true) → list_all (is_in_branches bs) xs ≡ true
all_in bs [] h = refl
all_in bs (s ∷ xs) h =
    ap (λ c. c && list_all (is_in_branches bs) xs) (h s.cell (has_slot-head s xs))
    ∙ all_in bs xs (λ x e. h x (has_slot-tail x s xs e))

pub has_taken : (k x : ℕ) (xs : List Slot) → has_slot x (take k xs) ≡ true → has_slot x xs ≡ true
has_taken zero x xs h = absurd (true≢false (sym h))
has_taken (suc k) x [] h = absurd (true≢false (sym h))
has_taken (suc k) x (s ∷ xs) h =
    has_slot_cases x s (take k xs) (has_slot x (s ∷ xs) ≡ true) h
    (λ same. subst (λ y. has_slot y (s ∷ xs) ≡ true) (sym same) (has_slot-head s xs))
    (λ rest. has_slot-tail x s xs (has_taken k x xs rest))

pub cell_in-has : (xs : List Slot) (k : ℕ) → k < length xs → has_slot (cell_in xs k) xs ≡ true
cell_in-has [] k h = absurd (omega arith)
cell_in-has (s ∷ xs) zero h = has_slot-head s xs
cell_in-has (s ∷ xs) (suc k) h = has_slot-tail (cell_in xs k) s xs (cell_in-has xs k (omega arith))

pub cell_in-taken : (xs ys : List Slot) (n k : ℕ) → k < n → n ≤ length xs → cell_in (take n xs ++ ys) k ≡ cell_in xs k
cell_in-taken xs ys zero k less few = absurd (omega arith)
cell_in-taken [] ys (suc n) k less few = absurd (omega arith)
cell_in-taken (s ∷ xs) ys (suc n) zero less few = refl
cell_in-taken (s ∷ xs) ys (suc n) (suc k) less few = cell_in-taken xs ys n k (omega arith) (omega arith)

numbered_not_below : (n k : ℕ) (steps : List Step) → k < length steps → n ≤ cell_in (numbered n steps) k
numbered_not_below n k [] h = absurd (omega arith)
numbered_not_below n zero (s ∷ ss) h = omega arith
numbered_not_below n (suc k) (s ∷ ss) h = let r = numbered_not_below (suc n) k ss (omega arith) in omega arith

-- a cell after the first n, which are shared, has a new number: one that is at least `made`
pub cell_in-own : (xs : List Slot) (n made k : ℕ) (steps : List Step) → n ≤ length xs → n ≤ k → k < n + length steps → made ≤ cell_in (take n xs ++ numbered made steps) k
cell_in-own xs zero made k steps few more less = numbered_not_below made k steps (omega arith)
cell_in-own [] (suc n) made k steps few more less = absurd (omega arith)
cell_in-own (s ∷ xs) (suc n) made zero steps few more less = absurd (omega arith)
cell_in-own (s ∷ xs) (suc n) made (suc k) steps few more less = cell_in-own xs n made k steps (omega arith) (omega arith) (omega arith)

pub length-numbered : (n : ℕ) (steps : List Step) → length (numbered n steps) ≡ length steps
length-numbered n [] = refl
length-numbered n (s ∷ ss) = ap suc (length-numbered (suc n) ss)

pub steps-numbered : (n : ℕ) (steps : List Step) → map step_of (numbered n steps) ≡ steps
steps-numbered n [] = refl
steps-numbered n (s ∷ ss) = ap (λ l. s ∷ l) (steps-numbered (suc n) ss)

-- each number of a cell of `numbered n steps` is below n plus the number of steps
pub numbered_below : (n : ℕ) (steps : List Step) (x : ℕ) → has_slot x (numbered n steps) ≡ true → x < n + length steps
numbered_below n [] x h = absurd (true≢false (sym h))
numbered_below n (s ∷ ss) x h =
    has_slot_cases x (slot n s) (numbered (suc n) ss) (x < n + suc (length ss)) h
    (λ e. omega arith)
    (λ r. let p = numbered_below (suc n) ss x r in omega arith)
