-- Words that are read as numbers.
use Rattle.std.proofs.Common.{◌≡◌, ℕ, ◌<◌, ◌^◌, true, cond, List, [], ◌∷◌, map, Some, None, refl, ap, ◌∙◌, subst}
use Rattle.std.specs.Option.{option_and_then}
use Rattle.std.specs.List.{join_with_byte}
use Rattle.std.specs.Str.{bytes_eq}
use Rattle.std.specs.Fmt.{decimal}
use Rattle.std.proofs.lemmas.Option.{cond_some, same_Some}
use Rattle.std.proofs.lemmas.Slice.Eq.{bytes_eq-Decides}
use Rattle.words.specs.Words.{is_end, word_with_numbers}
use Rattle.words.specs.Numbers.{number, one_number, two_numbers, three_numbers, four_numbers}
use Rattle.words.proofs.Numbers.{decimal-number}
use Rattle.words.proofs.Texts.{join-words}
use Rattle.words.proofs.Options.{some_then}

empty_at_end : (ws : List (List ℕ)) → is_end ws ≡ true → ws ≡ []
empty_at_end [] h = refl
empty_at_end (w ∷ ws) h = absurd cc

-- words that are read as one to four numbers are the decimal forms of these
pub one_number_is : (ws : List (List ℕ)) (n : ℕ) → one_number ws ≡ Some n → ws ≡ map decimal (n ∷ [])
one_number_is [] n h = absurd cc
one_number_is (w ∷ ws) n h =
    let a = some_then (number w) (λ x. cond (is_end ws) (Some x) None) n h in
    let b = cond_some (is_end ws) a.0 n a.2 in
    let nothing = empty_at_end ws b.0 in
    let first = (decimal-number w a.0 a.1).1 in
    cc

pub two_numbers_are : (ws : List (List ℕ)) (n : ℕ × ℕ) → two_numbers ws ≡ Some n → ws ≡ map decimal (n.0 ∷ n.1 ∷ [])
two_numbers_are [] n h = absurd cc
two_numbers_are (w ∷ ws) n h =
    let a = some_then (number w) (λ x. option_and_then (λ y. Some (x, y)) (one_number ws)) n h in
    let b = some_then (one_number ws) (λ y. Some (a.0, y)) n a.2 in
    let first = (decimal-number w a.0 a.1).1 in
    let others = one_number_is ws b.0 b.1 in
    let all : (w ∷ ws) ≡ map decimal (a.0 ∷ b.0 ∷ []) = cc in
    subst (λ (m : ℕ × ℕ). (w ∷ ws) ≡ map decimal (m.0 ∷ m.1 ∷ [])) (same_Some (a.0, b.0) n b.2) all

pub three_numbers_are : (ws : List (List ℕ)) (n : ℕ × ℕ × ℕ) → three_numbers ws ≡ Some n → ws ≡ map decimal (n.0 ∷ n.1 ∷ n.2 ∷ [])
three_numbers_are [] n h = absurd cc
three_numbers_are (w ∷ ws) n h =
    let a = some_then (number w) (λ x. option_and_then (λ y. Some (x, y.0, y.1)) (two_numbers ws)) n h in
    let b = some_then (two_numbers ws) (λ y. Some (a.0, y.0, y.1)) n a.2 in
    let first = (decimal-number w a.0 a.1).1 in
    let others = two_numbers_are ws b.0 b.1 in
    let all : (w ∷ ws) ≡ map decimal (a.0 ∷ b.0.0 ∷ b.0.1 ∷ []) = cc in
    subst (λ (m : ℕ × ℕ × ℕ). (w ∷ ws) ≡ map decimal (m.0 ∷ m.1 ∷ m.2 ∷ [])) (same_Some (a.0, b.0.0, b.0.1) n b.2) all

pub four_numbers_are : (ws : List (List ℕ)) (n : ℕ × ℕ × ℕ × ℕ) → four_numbers ws ≡ Some n → ws ≡ map decimal (n.0 ∷ n.1 ∷ n.2 ∷ n.3 ∷ [])
four_numbers_are [] n h = absurd cc
four_numbers_are (w ∷ ws) n h =
    let a = some_then (number w) (λ x. option_and_then (λ y. Some (x, y.0, y.1, y.2)) (three_numbers ws)) n h in
    let b = some_then (three_numbers ws) (λ y. Some (a.0, y.0, y.1, y.2)) n a.2 in
    let first = (decimal-number w a.0 a.1).1 in
    let others = three_numbers_are ws b.0 b.1 in
    let all : (w ∷ ws) ≡ map decimal (a.0 ∷ b.0.0 ∷ b.0.1 ∷ b.0.2 ∷ []) = cc in
    subst (λ (m : ℕ × ℕ × ℕ × ℕ). (w ∷ ws) ≡ map decimal (m.0 ∷ m.1 ∷ m.2 ∷ m.3 ∷ [])) (same_Some (a.0, b.0.0, b.0.1, b.0.2) n b.2) all

-- `join-words`, for a word w that is v, and words that are the decimal forms of numbers
pub word_and_numbers_joined : (w v : List ℕ) (ws : List (List ℕ)) (ns : List ℕ) → w ≡ v → ws ≡ map decimal ns → join_with_byte 32 (w ∷ ws) ≡ word_with_numbers v ns
word_and_numbers_joined w v ws ns e f = ap (λ x. join_with_byte 32 (x ∷ ws)) e ∙ ap (λ xs. join_with_byte 32 (v ∷ xs)) f ∙ join-words v ns

-- a word with the bytes of v is v
pub same_word : (w v : List ℕ) → bytes_eq w v ≡ true → w ≡ v
same_word w v h = (bytes_eq-Decides w v).0 h

-- numbers that are read have at most 9 digits
pub one_number_short : (ws : List (List ℕ)) (n : ℕ) → one_number ws ≡ Some n → n < 10 ^ 9
one_number_short [] n h = absurd cc
one_number_short (w ∷ ws) n h =
    let a = some_then (number w) (λ x. cond (is_end ws) (Some x) None) n h in
    let b = cond_some (is_end ws) a.0 n a.2 in
    subst (λ m. m < 10 ^ 9) b.1 (decimal-number w a.0 a.1).0

pub two_numbers_short : (ws : List (List ℕ)) (n : ℕ × ℕ) → two_numbers ws ≡ Some n → (n.0 < 10 ^ 9) × (n.1 < 10 ^ 9)
two_numbers_short [] n h = absurd cc
two_numbers_short (w ∷ ws) n h =
    let a = some_then (number w) (λ x. option_and_then (λ y. Some (x, y)) (one_number ws)) n h in
    let b = some_then (one_number ws) (λ y. Some (a.0, y)) n a.2 in
    subst (λ (m : ℕ × ℕ). (m.0 < 10 ^ 9) × (m.1 < 10 ^ 9)) (same_Some (a.0, b.0) n b.2) ((decimal-number w a.0 a.1).0, one_number_short ws b.0 b.1)
