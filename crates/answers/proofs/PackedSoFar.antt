-- Numbers are packed item by item: what is packed so far, and the rest, are the whole.
use Rattle.std.proofs.Common.{◌≡◌, ℕ, suc, ◌+◌, ◌-◌, ◌<◌, ◌≤◌, Bool, List, [], ◌∷◌, ◌++◌, length, drop, Option, refl, sym, ap, ◌∙◌, append_assoc, arith}
use Rattle.std.proofs.lemmas.List.{append-nil, drop_all}
use Rattle.frames.specs.declared.types.Outcome.{Outcome}
use Rattle.frames.specs.declared.running.Running.{Running}
use Rattle.frames.specs.Behaviour.{Behaviour}
use Rattle.answers.specs.Packing.{number_bytes, packed, process_numbers, processes_numbers}

-- the bytes of numbers, and then of more
pub packed-append : (xs ys : List ℕ) → packed (xs ++ ys) ≡ packed xs ++ packed ys
packed-append [] ys = refl
packed-append (x ∷ xs) ys = ap (λ l. number_bytes x ++ l) (packed-append xs ys) ∙ sym (append_assoc (number_bytes x) (packed xs) (packed ys))

-- if xs are packed and then ys, both are
pub packed_more : (xs ys old mid new : List ℕ) → mid ≡ old ++ packed xs → new ≡ mid ++ packed ys → new ≡ old ++ packed (xs ++ ys)
packed_more xs ys old mid new first second =
    second ∙ (ap (λ l. l ++ packed ys) first ∙ (append_assoc old (packed xs) (packed ys) ∙ ap (λ l. old ++ l) (sym (packed-append xs ys))))

-- if what is packed and what is left are the whole, this also holds after the first numbers that
-- are left are packed
pub front_packed : (xs ys old new whole : List ℕ) → old ++ packed (xs ++ ys) ≡ whole → new ≡ old ++ packed xs → new ++ packed ys ≡ whole
front_packed xs ys old new whole was added =
    ap (λ l. l ++ packed ys) added ∙ (append_assoc old (packed xs) (packed ys) ∙ (ap (λ l. old ++ l) (sym (packed-append xs ys)) ∙ was))

-- when no item is left, the whole is packed
pub packed_all : {X : Type 0} (all : List X → List ℕ) → all [] ≡ [] → (xs : List X) (i : ℕ) (old whole : List ℕ) → old ++ all (drop i xs) ≡ whole → length xs ≤ i → old ≡ whole
packed_all all none xs i old whole was le = sym (append-nil old) ∙ (ap (λ l. old ++ l) (sym (ap all (drop_all i xs le) ∙ none)) ∙ was)

-- if what is packed and what is left are the whole, this also holds after process p is packed
pub processes_more : {P : Type 0} (b : Behaviour P) (running : List (Option (Running P))) (stopped : List Bool) (answers : List (List Outcome)) (count p : ℕ) (old whole : List ℕ)
    → old ++ packed (processes_numbers b running stopped answers (count - p) p) ≡ whole → (new : List ℕ) → p < count → new ≡ old ++ packed (process_numbers b running stopped answers p)
    → new ++ packed (processes_numbers b running stopped answers (count - (p + 1)) (p + 1)) ≡ whole
processes_more b running stopped answers count p old whole was new lt added =
    let left : count - p ≡ suc (count - (p + 1)) = omega (arith, lt) in
    front_packed (process_numbers b running stopped answers p) (processes_numbers b running stopped answers (count - (p + 1)) (p + 1)) old new whole
    (ap (λ k. old ++ packed (processes_numbers b running stopped answers k p)) (sym left) ∙ was) added
