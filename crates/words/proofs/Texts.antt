-- The bytes of texts, which of them are printable, and how a text is cut into parts.
use Rattle.std.proofs.Common.{◌≡◌, ℕ, ◌^◌, ◌<◌, Bool, true, ◌&&◌, ◌==◌, not, nat_le, List, [], ◌∷◌, ◌++◌, map, refl, sym, ap, ◌∙◌, arith}
use Rattle.std.specs.List.{list_all, onto_first, join_with_byte, AllByRecursion}
use Rattle.std.specs.Char.{is_ascii_digit}
use Rattle.std.specs.Fmt.{decimal}
use Rattle.std.proofs.lemmas.Bool.{and_parts, and_from, not-true, eq-eqb}
use Rattle.std.proofs.lemmas.Bool.Decides.{nat_tests}
use Rattle.std.proofs.lemmas.List.{append-nil}
use Rattle.std.proofs.lemmas.List.Folds.{list_all-append}
use Rattle.std.proofs.lemmas.List.Splits.{slice_split-cons_yes, slice_split-cons_no}
use Rattle.words.specs.Words.{parts, words, word_with_numbers}
use Rattle.words.proofs.Digits.{digit_bounds}
use Rattle.words.proofs.Numbers.{digits-decimal}

-- if each byte that passes test p passes test q, then bytes that all pass p all pass q
pub all_weaker : (p q : ℕ → Bool) → ((x : ℕ) → p x ≡ true → q x ≡ true) → (xs : List ℕ) → list_all p xs ≡ true → list_all q xs ≡ true
all_weaker p q weaker [] h = refl
all_weaker p q weaker (x ∷ xs) h =
    let a = and_parts (p x) (list_all p xs) h in
    and_from (q x) (list_all q xs) (weaker x a.0) (all_weaker p q weaker xs a.1)

-- bytes that pass test p, and then more that do
pub all_append : (p : ℕ → Bool) (xs ys : List ℕ) → list_all p xs ≡ true → list_all p ys ≡ true → list_all p (xs ++ ys) ≡ true
all_append p xs ys h k = list_all-append p xs ys ∙ and_from (list_all p xs) (list_all p ys) h k

-- whether a byte isn't the separator c
abbrev pub is_not : ℕ → ℕ → Bool
is_not c b = not (b == c)

-- whether a byte is a space or another printable ASCII character
abbrev pub is_printable : ℕ → Bool
is_printable b = nat_le 32 b && nat_le b 126

-- a digit isn't a separator below 48, the first digit
pub digit_not : (c : ℕ) → c < 48 → (b : ℕ) → is_ascii_digit b ≡ true → is_not c b ≡ true
digit_not c lt b h = let d = digit_bounds b h in grind (arith, nat_tests, d)

pub digit_printable : (b : ℕ) → is_ascii_digit b ≡ true → is_printable b ≡ true
digit_printable b h = let d = digit_bounds b h in grind (arith, nat_tests, d)

pub printable_is_no_line_end : (b : ℕ) → is_printable b ≡ true → is_not 10 b ≡ true
printable_is_no_line_end b h = grind (arith, nat_tests)

-- a number has at most 9 digits
abbrev pub IsShort : ℕ → Type 0
IsShort n = n < 10 ^ 9

-- numbers after a printable word give a printable text
pub word_with_numbers_printable : (word : List ℕ) (ns : List ℕ) → list_all is_printable word ≡ true → AllByRecursion IsShort ns → list_all is_printable (word_with_numbers word ns) ≡ true
word_with_numbers_printable word [] h small = ap (list_all is_printable) (append-nil word) ∙ h
word_with_numbers_printable word (n ∷ ns) h small =
    let digits = all_weaker is_ascii_digit is_printable digit_printable (decimal n) (digits-decimal n small.0) in
    all_append is_printable word (32 ∷ word_with_numbers (decimal n) ns) h (word_with_numbers_printable (decimal n) ns digits small.1)

-- the first part of a text ends at the first separator
pub cut_at : (c : ℕ) (xs ys : List ℕ) → list_all (is_not c) xs ≡ true → parts c (xs ++ c ∷ ys) ≡ xs ∷ parts c ys
cut_at c [] ys h = slice_split-cons_yes (λ b. b == c) c ys (eq-eqb c c refl)
cut_at c (x ∷ xs) ys h =
    let a = and_parts (is_not c x) (list_all (is_not c) xs) h in
    slice_split-cons_no (λ b. b == c) x (xs ++ c ∷ ys) (not-true (x == c) a.0) ∙ ap (onto_first x) (cut_at c xs ys a.1)

-- a text without separators is one part
pub no_cut : (c : ℕ) (xs : List ℕ) → list_all (is_not c) xs ≡ true → parts c xs ≡ xs ∷ []
no_cut c [] h = refl
no_cut c (x ∷ xs) h =
    let a = and_parts (is_not c x) (list_all (is_not c) xs) h in
    slice_split-cons_no (λ b. b == c) x xs (not-true (x == c) a.0) ∙ ap (onto_first x) (no_cut c xs a.1)

-- the words of a word with numbers: the word, and the decimal form of each number
pub words-word_with_numbers : (word : List ℕ) (ns : List ℕ) → list_all (is_not 32) word ≡ true → AllByRecursion IsShort ns → words (word_with_numbers word ns) ≡ word ∷ map decimal ns
words-word_with_numbers word [] h small = ap words (append-nil word) ∙ no_cut 32 word h
words-word_with_numbers word (n ∷ ns) h small =
    let digits = all_weaker is_ascii_digit (is_not 32) (digit_not 32 (omega arith)) (decimal n) (digits-decimal n small.0) in
    cut_at 32 word (word_with_numbers (decimal n) ns) h ∙ ap (λ ws. word ∷ ws) (words-word_with_numbers (decimal n) ns digits small.1)

-- a word and the decimal forms of numbers, joined by spaces, are the word with these numbers
pub join-words : (word : List ℕ) (ns : List ℕ) → join_with_byte 32 (word ∷ map decimal ns) ≡ word_with_numbers word ns
join-words word [] = sym (append-nil word)
join-words word (n ∷ ns) = ap (λ xs. word ++ 32 ∷ xs) (join-words (decimal n) ns)
