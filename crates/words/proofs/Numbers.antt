-- A word is read as a number n exactly if n is below 10 ^ 9 and the word is the decimal form of n.
use Rattle.std.proofs.Common.{◌≡◌, ℕ, ◌^◌, ◌<◌, ◌≤◌, true, cond, ◌||◌, ◌&&◌, ◌==◌, not, nat_le, List, [], ◌∷◌, length, get_or, Some, None, refl, sym, ap, ◌∙◌, subst, arith, rules, inl, inr, lit<}
use Rattle.std.specs.List.{list_all}
use Rattle.std.specs.Char.{is_ascii_digit}
use Rattle.std.specs.Str.Parse.{digits_value}
use Rattle.std.specs.Fmt.{decimal}
use Rattle.std.proofs.lemmas.Bool.{and_parts, and_from, or_cases, or_left, or_right, not-true, leb-true, le-leb, eqb-true, eq-eqb, eqb-false, ne_eqb, cases_eq}
use Rattle.std.proofs.lemmas.Option.{cond_some}
use Rattle.std.proofs.lemmas.Str.Parse.{IsDigitsTest, IsNumeralModel, numerals_by_value, digits_value_short}
use Rattle.std.proofs.lemmas.Fmt.{decimal_digit, digits_decimal, digits_value-decimal, first_decimal, decimal_nonempty, length-decimal-le, decimal-digits_value}
use Rattle.words.specs.Numbers.{is_number, number}

-- all these bytes are digits
abbrev AreDigits : List ℕ → Type 0
AreDigits ds = list_all is_ascii_digit ds ≡ true

are_digits_test : IsDigitsTest AreDigits
are_digits_test = search rules

decimal_model : IsNumeralModel AreDigits (digits_value 10)
decimal_model = numerals_by_value AreDigits are_digits_test

-- only the word `0` begins with `0`
abbrev IsPlainForm : List ℕ → Type 0
IsPlainForm word = get_or word 0 0 ≡ 48 → length word ≡ 1

-- a word of digits that passes this test is in plain form
plain_form : (d : ℕ) (ds : List ℕ) → (not (d == 48) || length ds == 0) ≡ true → IsPlainForm (d ∷ ds)
plain_form d ds h zero =
    elim (or_cases (not (d == 48)) (length ds == 0) h) [
      | inl other ↦ absurd (eqb-false d 48 (not-true (d == 48) other) zero)
      | inr alone ↦ omega (arith, eqb-true (length ds) 0 alone)
    ]

-- a number's word has at most 9 digits, alone, in plain form
is_number_parts : (d : ℕ) (ds : List ℕ) → is_number (d ∷ ds) ≡ true → (length ds ≤ 8) × IsPlainForm (d ∷ ds) × AreDigits (d ∷ ds)
is_number_parts d ds h =
    let whole = and_parts (nat_le (length ds) 8 && (not (d == 48) || length ds == 0)) (list_all is_ascii_digit (d ∷ ds)) h in
    let front = and_parts (nat_le (length ds) 8) (not (d == 48) || length ds == 0) whole.0 in
    (leb-true (length ds) 8 front.0, plain_form d ds front.1, whole.1)

-- a word that is read as a number is its decimal form
pub decimal-number : (word : List ℕ) (n : ℕ) → number word ≡ Some n → (n < 10 ^ 9) × (word ≡ decimal n)
decimal-number [] n h = absurd cc
decimal-number (d ∷ ds) n h =
    let c = cond_some (is_number (d ∷ ds)) (digits_value 10 (d ∷ ds)) n h in
    let p = is_number_parts d ds c.0 in
    let small = digits_value_short decimal_model (d ∷ ds) 9 p.2 (omega (arith, p.0)) in
    let same = decimal-digits_value decimal_model (d ∷ ds) p.2 (omega arith) p.1 (omega (arith, small)) in
    subst (λ m. (m < 10 ^ 9) × ((d ∷ ds) ≡ decimal m)) c.1 (small, sym same)

-- a word of 1 to 9 digits in plain form is a number's
is_number_from : (word : List ℕ) → 0 < length word → length word ≤ 9 → IsPlainForm word → AreDigits word → is_number word ≡ true
is_number_from [] some short plain digits = absurd (omega arith)
is_number_from (d ∷ ds) some short plain digits =
    and_from (nat_le (length ds) 8 && (not (d == 48) || length ds == 0)) (list_all is_ascii_digit (d ∷ ds))
    (and_from (nat_le (length ds) 8) (not (d == 48) || length ds == 0) (le-leb (length ds) 8 (omega arith))
    (elim (cases_eq d 48) [
      | inl zero ↦ or_right (not (d == 48)) (length ds == 0) (eq-eqb (length ds) 0 (omega (arith, plain zero)))
      | inr other ↦ or_left (not (d == 48)) (length ds == 0) (ap not (ne_eqb d 48 other))
    ]))
    digits

plain_decimal : (n : ℕ) → n < 2 ^ 64 → IsPlainForm (decimal n)
plain_decimal n lt =
    elim (cases_eq n 0) [
      | inl zero ↦ λ _. ap (λ m. length (decimal m)) zero ∙ ap length (decimal_digit 0 (lit< tt))
      | inr other ↦ λ first. absurd (omega (arith, first, first_decimal n (omega arith) lt))
    ]

-- the decimal form has digits alone
pub digits-decimal : (n : ℕ) → n < 10 ^ 9 → list_all is_ascii_digit (decimal n) ≡ true
digits-decimal n lt = digits_decimal decimal_model n (omega arith)

-- the decimal form of a number is read as it
pub number-decimal : (n : ℕ) → n < 10 ^ 9 → number (decimal n) ≡ Some n
number-decimal n lt =
    let few : n < 2 ^ 64 = omega arith in
    let test = is_number_from (decimal n) (decimal_nonempty n few) (length-decimal-le 9 n (lit< tt) lt few) (plain_decimal n few) (digits-decimal n lt) in
    ap (λ b. cond b (Some (digits_value 10 (decimal n))) None) test ∙ ap (λ m. Some m) (digits_value-decimal decimal_model n few)

-- a number with at most 8 digits is below 10 ^ 8
pub below_ten_to_8 : (n : ℕ) → n < 10 ^ 9 → length (decimal n) ≤ 8 → n < 10 ^ 8
below_ten_to_8 n lt short =
    let few : n < 2 ^ 64 = omega arith in
    omega (arith, digits_value_short decimal_model (decimal n) 8 (digits-decimal n lt) short, digits_value-decimal decimal_model n few)

-- a number below 10 ^ 9 has at most 9 digits
pub at_most_9_digits : (n : ℕ) → n < 10 ^ 9 → length (decimal n) ≤ 9
at_most_9_digits n lt = length-decimal-le 9 n (lit< tt) lt (omega arith)

-- the decimal form of a number begins with a digit
pub digit_first : (n : ℕ) → n < 10 ^ 9 → (d : ℕ) × (ds : List ℕ) × (is_ascii_digit d ≡ true) × (decimal n ≡ d ∷ ds)
digit_first n lt = by (decimal n) (decimal_nonempty n (omega arith)) (digits-decimal n lt)
  where
    by : (xs : List ℕ) → 0 < length xs → list_all is_ascii_digit xs ≡ true → (d : ℕ) × (ds : List ℕ) × (is_ascii_digit d ≡ true) × (xs ≡ d ∷ ds)
    by [] some digits = absurd (omega arith)
    by (x ∷ xs) some digits = (x, xs, (and_parts (is_ascii_digit x) (list_all is_ascii_digit xs) digits).0, refl)
