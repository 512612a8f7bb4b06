-- Numbers and steps at the front of a text: what follows them there; and that a text which breaks
-- off within a step's line begins with no step.
use Rattle.std.proofs.Common.{◌≡◌, ℕ, ◌+◌, ◌-◌, ◌*◌, ◌/◌, ◌%◌, ◌<◌, ◌^◌, true, false, List, [], ◌∷◌, ◌++◌, length, get_or, refl, sym, ap, ◌∙◌, append_assoc, ◌⊎◌, inl, inr, arith, lit<}
use Rattle.std.specs.Char.{is_ascii_digit}
use Rattle.std.specs.Fmt.{decimal}
use Rattle.std.proofs.lemmas.Fmt.{decimal_digit, decimal_step}
use Rattle.std.proofs.lemmas.Fmt.{first_decimal}
use Rattle.std.proofs.lemmas.Bool.{and_parts, cases_eq, false≢true}
use Rattle.std.proofs.lemmas.List.{append-nil}
use Rattle.std.specs.List.{list_all}
use Rattle.frames.specs.declared.types.Step.{Step}
use Rattle.frames.specs.declared.types.Step.TheVariants as step
use Rattle.frames.specs.Steps.{process_of}
use Rattle.words.specs.Steps.{step_text, HasShortNumbers}
use Rattle.words.specs.Fronts.{begins_with_digit, IsWholeNumber}
use Rattle.words.proofs.Numbers.{digits-decimal, digit_first, below_ten_to_8, at_most_9_digits}
use Rattle.words.proofs.Digits.{digit_bounds}

-- if the text after the number v begins with the digit d, then the same text is the number
-- v * 10 + d and what follows the digit
pub one_more_digit : (first v d b : ℕ) (text left following : List ℕ) → 0 < v → v < 100000000 → is_ascii_digit b ≡ true → d ≡ b - 48 → left ≡ b ∷ following
    → decimal first ++ text ≡ decimal v ++ left → decimal first ++ text ≡ decimal (v * 10 + d) ++ following
one_more_digit first v d b text left following some short h e is front =
    let bounds = digit_bounds b h in
    let tens : (v * 10 + d) / 10 ≡ v = omega arith in
    let ones : (v * 10 + d) % 10 ≡ d = omega arith in
    let more : decimal (v * 10 + d) ≡ decimal v ++ b ∷ [] =
    decimal_step (v * 10 + d) (omega arith) (omega arith) ∙ ap (λ (n : ℕ). decimal n ++ (48 + (v * 10 + d) % 10) ∷ []) tens
    ∙ ap (λ (c : ℕ). decimal v ++ c ∷ []) (omega arith) in
    front ∙ ap (λ (xs : List ℕ). decimal v ++ xs) is ∙ sym (append_assoc (decimal v) (b ∷ []) following) ∙ ap (λ (ds : List ℕ). ds ++ following) (sym more)

-- with one more digit, a number of at most 8 digits has at most 9
pub one_more_digit_short : (v d b : ℕ) → v < 100000000 → is_ascii_digit b ≡ true → d ≡ b - 48 → v * 10 + d < 10 ^ 9
one_more_digit_short v d b short h e = let bounds = digit_bounds b h in omega arith

-- a space, a digit and `left` are a space, the decimal form of the digit's value, and `left`
pub one_digit : (text digits left : List ℕ) (b d : ℕ) → text ≡ 32 ∷ digits → digits ≡ b ∷ left → is_ascii_digit b ≡ true → d ≡ b - 48 → text ≡ 32 ∷ (decimal d ++ left)
one_digit text digits left b d e f h is =
    let bounds = digit_bounds b h in
    let digit : decimal d ≡ b ∷ [] = decimal_digit d (omega arith) ∙ ap (λ (c : ℕ). c ∷ []) (omega arith) in
    e ∙ ap (λ (xs : List ℕ). 32 ∷ xs) (f ∙ ap (λ (ds : List ℕ). ds ++ left) (sym digit))

-- ---- what follows the number at the front of a text, and the first number of a step

-- if one text is the digits xs and then `left`, and also the digits ys and then a byte c that is no
-- digit, and `left` doesn't begin with a digit if xs are fewer, then `left` begins with c
left_of_digits : (xs ys left : List ℕ) (c : ℕ) (rest : List ℕ) → list_all is_ascii_digit xs ≡ true → list_all is_ascii_digit ys ≡ true → is_ascii_digit c ≡ false
    → (length xs < length ys → begins_with_digit left ≡ false) → xs ++ left ≡ ys ++ c ∷ rest → left ≡ c ∷ rest
left_of_digits [] [] left c rest dx dy other h e = e
left_of_digits [] (y ∷ ys) left c rest dx dy other h e =
    let digit : begins_with_digit left ≡ true = ap begins_with_digit e ∙ (and_parts (is_ascii_digit y) (list_all is_ascii_digit ys) dy).0 in
    absurd (false≢true (sym (h (omega arith)) ∙ digit))
left_of_digits (x ∷ xs) [] left c rest dx dy other h e =
    let same : x ≡ c = cc in
    absurd (false≢true (sym other ∙ ap is_ascii_digit (sym same) ∙ (and_parts (is_ascii_digit x) (list_all is_ascii_digit xs) dx).0))
left_of_digits (x ∷ xs) (y ∷ ys) left c rest dx dy other h e =
    let following : xs ++ left ≡ ys ++ c ∷ rest = cc in
    left_of_digits xs ys left c rest (and_parts (is_ascii_digit x) (list_all is_ascii_digit xs) dx).1 (and_parts (is_ascii_digit y) (list_all is_ascii_digit ys) dy).1 other (λ l. h (omega arith)) following

-- `left_of_number`, if the number that was read is 0
left_of_zero : (n : ℕ) (left : List ℕ) (c : ℕ) (rest : List ℕ) → n < 10 ^ 9 → decimal 0 ++ left ≡ decimal n ++ c ∷ rest → left ≡ c ∷ rest
left_of_zero n left c rest short e =
    let zero : decimal 0 ≡ 48 ∷ [] = decimal_digit 0 (lit< tt) in
    elim (cases_eq n 0) [
      | inl none ↦
          let same : 48 ∷ left ≡ 48 ∷ c ∷ rest = ap (λ (ds : List ℕ). ds ++ left) (sym zero) ∙ e ∙ ap (λ (m : ℕ). decimal m ++ c ∷ rest) none ∙ ap (λ (ds : List ℕ). ds ++ c ∷ rest) zero in
          cc
      | inr some ↦
          let a = digit_first n short in
          let same : 48 ∷ left ≡ a.0 ∷ (a.1 ++ c ∷ rest) = ap (λ (ds : List ℕ). ds ++ left) (sym zero) ∙ e ∙ ap (λ (ds : List ℕ). ds ++ c ∷ rest) a.3 in
          let first : 48 ≡ a.0 = cc in
          absurd (omega (arith, first, ap (λ (ds : List ℕ). get_or ds 0 0) a.3, first_decimal n (omega arith) (omega arith)))
    ]

-- if a text begins with the number n and then c, which is no digit, and v is read from it with all
-- its digits, then the text after v is the text after n
pub left_of_number : (v n : ℕ) (left : List ℕ) (c : ℕ) (rest : List ℕ) → v < 10 ^ 9 → n < 10 ^ 9 → is_ascii_digit c ≡ false → IsWholeNumber v left
    → decimal v ++ left ≡ decimal n ++ c ∷ rest → left ≡ c ∷ rest
left_of_number v n left c rest hv hn other whole e =
    elim (cases_eq v 0) [
      | inl zero ↦ left_of_zero n left c rest hn (ap (λ (m : ℕ). decimal m ++ left) (sym zero) ∙ e)
      | inr some ↦
          left_of_digits (decimal v) (decimal n) left c rest (digits-decimal v hv) (digits-decimal n hn) other
          (λ l. whole (omega arith) (below_ten_to_8 v hv (omega (arith, l, at_most_9_digits n hn)))) e
    ]

-- the text doesn't begin with a space and a digit
abbrev pub BeginsWithNoNumber : List ℕ → Type 0
BeginsWithNoNumber text = (d : ℕ) (rest : List ℕ) → is_ascii_digit d ≡ true → text ≡ 32 ∷ d ∷ rest → ⊥

-- the text doesn't begin with a line end
abbrev pub BeginsWithNoEnd : List ℕ → Type 0
BeginsWithNoEnd text = (left : List ℕ) → text ≡ 10 ∷ left → ⊥

-- a text that doesn't begin with a space and a digit doesn't begin with a space and a number
no_number_at_front : (text : List ℕ) (n : ℕ) (more : List ℕ) → n < 10 ^ 9 → BeginsWithNoNumber text → text ≡ 32 ∷ (decimal n ++ more) → ⊥
no_number_at_front text n more short none e =
    let a = digit_first n short in
    none a.0 (a.1 ++ more) a.2 (e ∙ ap (λ (ds : List ℕ). 32 ∷ (ds ++ more)) a.3)

-- the letter with which a step's text begins
abbrev letter : Step → ℕ
letter (step.Write p v) = 119
letter (step.Read p) = 114
letter (step.Go p c) = 103
letter (step.Stop p) = 120

-- what follows the number of the process, in a step's text and then `rest`
abbrev after_process : Step → List ℕ → List ℕ
after_process (step.Write p v) rest = 32 ∷ (decimal v ++ rest)
after_process (step.Read p) rest = rest
after_process (step.Go p c) rest = 32 ∷ (decimal c ++ rest)
after_process (step.Stop p) rest = rest

-- a step's text is its letter, a space, its process's number, and what `after_process` has
step_text_split : (s : Step) (rest : List ℕ) → step_text s ++ rest ≡ letter s ∷ 32 ∷ (decimal (process_of s) ++ after_process s rest)
step_text_split (step.Write p v) rest =
    ap (λ (xs : List ℕ). 119 ∷ 32 ∷ xs) (append_assoc (decimal p) (32 ∷ (decimal v ++ [])) rest ∙ ap (λ (xs : List ℕ). decimal p ++ 32 ∷ (xs ++ rest)) (append-nil (decimal v)))
step_text_split (step.Read p) rest = ap (λ (xs : List ℕ). 114 ∷ 32 ∷ (xs ++ rest)) (append-nil (decimal p))
step_text_split (step.Go p c) rest =
    ap (λ (xs : List ℕ). 103 ∷ 32 ∷ xs) (append_assoc (decimal p) (32 ∷ (decimal c ++ [])) rest ∙ ap (λ (xs : List ℕ). decimal p ++ 32 ∷ (xs ++ rest)) (append-nil (decimal c)))
step_text_split (step.Stop p) rest = ap (λ (xs : List ℕ). 120 ∷ 32 ∷ (xs ++ rest)) (append-nil (decimal p))

short_process : (s : Step) → HasShortNumbers s → process_of s < 10 ^ 9
short_process (step.Write p v) h = h.0
short_process (step.Read p) h = h
short_process (step.Go p c) h = h.0
short_process (step.Stop p) h = h

-- what follows the number of the process in a step's line doesn't begin with a digit
no_digit_after_process : (s : Step) (rest : List ℕ) → (c : ℕ) × (more : List ℕ) × (is_ascii_digit c ≡ false) × (after_process s (10 ∷ rest) ≡ c ∷ more)
no_digit_after_process (step.Write p v) rest = (32, decimal v ++ 10 ∷ rest, refl, refl)
no_digit_after_process (step.Read p) rest = (10, rest, refl, refl)
no_digit_after_process (step.Go p c) rest = (32, decimal c ++ 10 ∷ rest, refl, refl)
no_digit_after_process (step.Stop p) rest = (10, rest, refl, refl)

-- in a step whose letter is `w` or `g`, a second number follows that of the process
second_number_follows : (word : ℕ) (s : Step) (rest : List ℕ) → word ≡ letter s → (word ≡ 119) ⊎ (word ≡ 103) → HasShortNumbers s
    → (n : ℕ) × (n < 10 ^ 9) × (after_process s rest ≡ 32 ∷ (decimal n ++ rest))
second_number_follows word (step.Write p v) rest e two h = (v, h.1, refl)
second_number_follows word (step.Read p) rest e (inl w) h = absurd (omega (arith, e, w))
second_number_follows word (step.Read p) rest e (inr g) h = absurd (omega (arith, e, g))
second_number_follows word (step.Go p c) rest e two h = (c, h.1, refl)
second_number_follows word (step.Stop p) rest e (inl w) h = absurd (omega (arith, e, w))
second_number_follows word (step.Stop p) rest e (inr g) h = absurd (omega (arith, e, g))

-- in a step with another letter, no second number follows
no_second_number_follows : (word : ℕ) (s : Step) (rest : List ℕ) → word ≡ letter s → (word ≡ 119 → ⊥) → (word ≡ 103 → ⊥) → after_process s rest ≡ rest
no_second_number_follows word (step.Write p v) rest e nw ng = absurd (nw e)
no_second_number_follows word (step.Read p) rest e nw ng = refl
no_second_number_follows word (step.Go p c) rest e nw ng = absurd (ng e)
no_second_number_follows word (step.Stop p) rest e nw ng = refl

-- ---- what a text doesn't begin with

-- the text doesn't begin with a step's line
abbrev pub BeginsWithNoStep : List ℕ → Type 0
BeginsWithNoStep text = (s : Step) (rest : List ℕ) → HasShortNumbers s → text ≡ step_text s ++ 10 ∷ rest → ⊥

module _ (text numbers : List ℕ) (word : ℕ) (is : text ≡ word ∷ numbers) where
  -- if the text begins with a step's line, `word` is the step's letter, and its numbers follow
  letter_is : (s : Step) (rest : List ℕ) → text ≡ step_text s ++ 10 ∷ rest
      → (word ≡ letter s) × (numbers ≡ 32 ∷ (decimal (process_of s) ++ after_process s (10 ∷ rest)))
  letter_is s rest e = let both = sym is ∙ e ∙ step_text_split s (10 ∷ rest) in (cc, cc)

  pub no_step_without_number : BeginsWithNoNumber numbers → BeginsWithNoStep text
  no_step_without_number none s rest short e = no_number_at_front numbers (process_of s) (after_process s (10 ∷ rest)) (short_process s short) none (letter_is s rest e).1

  module _ (p : ℕ) (left : List ℕ) (short_p : p < 10 ^ 9) (front : numbers ≡ 32 ∷ (decimal p ++ left)) (whole : IsWholeNumber p left) where
    -- if the text begins with a step's line, `left` is what follows the step's process there
    left_is : (s : Step) (rest : List ℕ) → HasShortNumbers s → text ≡ step_text s ++ 10 ∷ rest → left ≡ after_process s (10 ∷ rest)
    left_is s rest short e =
        let a = no_digit_after_process s rest in
        let both : 32 ∷ (decimal p ++ left) ≡ 32 ∷ (decimal (process_of s) ++ after_process s (10 ∷ rest)) = sym front ∙ (letter_is s rest e).1 in
        let same : decimal p ++ left ≡ decimal (process_of s) ++ a.0 ∷ a.1 = (let t : decimal p ++ left ≡ decimal (process_of s) ++ after_process s (10 ∷ rest) = cc in t ∙ ap (λ (xs : List ℕ). decimal (process_of s) ++ xs) a.3) in
        left_of_number p (process_of s) left a.0 a.1 short_p (short_process s short) a.2 whole same ∙ sym a.3

    pub no_step_without_second_number : (word ≡ 119) ⊎ (word ≡ 103) → BeginsWithNoNumber left → BeginsWithNoStep text
    no_step_without_second_number two none s rest short e =
        let a = second_number_follows word s (10 ∷ rest) (letter_is s rest e).0 two short in
        no_number_at_front left a.0 (10 ∷ rest) a.1 none (left_is s rest short e ∙ a.2)

    pub no_step_without_end_after_first : (word ≡ 119 → ⊥) → (word ≡ 103 → ⊥) → BeginsWithNoEnd left → BeginsWithNoStep text
    no_step_without_end_after_first nw ng none s rest short e =
        none rest (left_is s rest short e ∙ no_second_number_follows word s (10 ∷ rest) (letter_is s rest e).0 nw ng)

    pub no_step_without_end_after_second : (word ≡ 119) ⊎ (word ≡ 103) → (v : ℕ) (last : List ℕ) → v < 10 ^ 9 → left ≡ 32 ∷ (decimal v ++ last) → IsWholeNumber v last → BeginsWithNoEnd last → BeginsWithNoStep text
    no_step_without_end_after_second two v last short_v front_v whole_v none s rest short e =
        let a = second_number_follows word s (10 ∷ rest) (letter_is s rest e).0 two short in
        let both : 32 ∷ (decimal v ++ last) ≡ 32 ∷ (decimal a.0 ++ 10 ∷ rest) = sym front_v ∙ left_is s rest short e ∙ a.2 in
        let same : decimal v ++ last ≡ decimal a.0 ++ 10 ∷ rest = cc in
        none rest (left_of_number v a.0 last 10 rest short_v a.1 refl whole_v same)
