-- Digits: the value that successive ones have, one digit at a time; and the last digit of a number.
use Rattle.std.proofs.Common.{◌≡◌, ℕ, ◌+◌, ◌-◌, ◌*◌, ◌^◌, ◌<◌, ◌≤◌, true, List, length, take, get_or, arith, rules, tests, lit<, add-one, ◌∙◌, ◌/◌, ◌%◌, ◌++◌, ◌∷◌, [], sym, ap, append_assoc}
use Rattle.std.proofs.lemmas.Bool.Decides.{nat_tests}
use Rattle.std.specs.List.{list_all}
use Rattle.std.specs.Char.{is_ascii_digit, digit_value}
use Rattle.std.specs.Str.Parse.{digits_value}
use Rattle.std.proofs.lemmas.Bool.{and_from}
use Rattle.std.proofs.lemmas.List.Folds.{list_all_more}
use Rattle.std.proofs.lemmas.Int.Digits.{digits_value_more}
use Rattle.std.specs.Fmt.{decimal}
use Rattle.std.proofs.lemmas.Fmt.{decimal_step}
use Rattle.std.proofs.Math.Nat.{pow-le-pow_right, pow-suc}

-- the ASCII digits are the bytes 48 to 57
pub digit_bounds : (c : ℕ) → is_ascii_digit c ≡ true → (48 ≤ c) × (c ≤ 57)
digit_bounds c h = search (rules, tests)

pub digit_value-ascii : (c : ℕ) → 48 ≤ c → c ≤ 57 → digit_value c ≡ c - 48
digit_value-ascii c low high = grind (arith, nat_tests)

-- a number below 10 ^ i, for an i of at most 8, is below 10 ^ 8
pub below_greater_power : (v i : ℕ) → v < 10 ^ i → i ≤ 8 → v < 10 ^ 8
below_greater_power v i h le = omega (arith, pow-le-pow_right {n = 10} (lit< tt) le)

-- if v is the value of the first i digits, and d that of the next one, v * 10 + d is the value of
-- the first i + 1
pub value_with_next : (xs : List ℕ) (i v d : ℕ) → is_ascii_digit (get_or xs i 0) ≡ true → i < length xs → d ≡ get_or xs i 0 - 48 → v ≡ digits_value 10 (take i xs)
    → v * 10 + d ≡ digits_value 10 (take (i + 1) xs)
value_with_next xs i v d h lt e f =
    let b = digit_bounds (get_or xs i 0) h in
    let g = digit_value-ascii (get_or xs i 0) b.0 b.1 in
    let m = digits_value_more 10 xs i lt in
    omega (arith, e, f, g, m)

-- if the first i bytes are digits, and the next byte is one, then the first i + 1 bytes are digits
pub digits_with_next : (xs : List ℕ) (i : ℕ) → i < length xs → list_all is_ascii_digit (take i xs) ≡ true → is_ascii_digit (get_or xs i 0) ≡ true → list_all is_ascii_digit (take (i + 1) xs) ≡ true
digits_with_next xs i lt h k = list_all_more is_ascii_digit xs i 0 lt ∙ and_from (list_all is_ascii_digit (take i xs)) (is_ascii_digit (get_or xs i 0)) h k

-- if the value of i digits is below 10 ^ i, with one more digit it is below 10 ^ (i + 1)
pub small_with_next : (i v d : ℕ) → v < 10 ^ i → d ≤ 9 → v * 10 + d < 10 ^ (i + 1)
small_with_next i v d h le = rw (add-one, pow-suc 10 i) (omega arith)

-- the decimal form of n is that of n / 10, and then the last digit of n
pub last_digit : (out front : List ℕ) (n : ℕ) → 10 ≤ n → n < 2 ^ 64 → front ≡ out ++ decimal (n / 10) → front ++ (48 + n % 10) ∷ [] ≡ out ++ decimal n
last_digit out front n many small e =
    ap (λ (ds : List ℕ). ds ++ (48 + n % 10) ∷ []) e
    ∙ append_assoc out (decimal (n / 10)) ((48 + n % 10) ∷ [])
    ∙ ap (λ (ds : List ℕ). out ++ ds) (sym (decimal_step n many small))
