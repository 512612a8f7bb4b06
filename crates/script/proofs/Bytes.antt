-- The bytes of words, and of the text that joins them.
use Rattle.std.proofs.Common.{◌≡◌, ◌==◌, ℕ, ◌+◌, ◌*◌, ◌≤◌, ◌^◌, Bool, true, false, cond, ◌&&◌, nat_le, nat_lt, List, [], ◌∷◌, ◌++◌, length, map, refl, sym, ap, ◌∙◌, subst, arith, length-append}
use Rattle.std.specs.List.{list_all, onto_first, join_with_byte}
use Rattle.std.specs.Char.{is_ascii_digit}
use Rattle.std.specs.Fmt.{decimal}
use Rattle.std.specs.Prelude.{Some}
use Rattle.std.proofs.lemmas.Bool.{and_parts, and_from, ltb-true, leb-true}
use Rattle.std.proofs.lemmas.Bool.Decides.{nat_tests}
use Rattle.words.specs.Words.{words}
use Rattle.words.specs.Numbers.{number}
use Rattle.words.proofs.Digits.{digit_bounds}
use Rattle.words.proofs.Numbers.{decimal-number, digits-decimal, at_most_9_digits, digit_first}
use Rattle.words.proofs.Texts.{all_weaker, all_append, is_not, cut_at, no_cut}
use Rattle.script.specs.Lines.{is_call_byte}
use Rattle.script.specs.Spelling.{Word, spelled, is_visible, is_sound}
use Rattle.script.specs.Spelling.{Text, Number, Guard}
use Rattle.script.proofs.Shapes.{is_small}

-- the bytes of these words are all visible
abbrev pub are_visible : List (List ℕ) → Bool
are_visible ws = list_all (list_all is_visible) ws

call_byte_is_visible : (b : ℕ) → is_call_byte b ≡ true → (b == 32) ≡ false → is_visible b ≡ true
call_byte_is_visible b h k = grind (arith, nat_tests)

visible_is_call_byte : (b : ℕ) → is_visible b ≡ true → is_call_byte b ≡ true
visible_is_call_byte b h = grind (arith, nat_tests)

visible_is_no_space : (b : ℕ) → is_visible b ≡ true → is_not 32 b ≡ true
visible_is_no_space b h = grind (arith, nat_tests)

digit_is_visible : (b : ℕ) → is_ascii_digit b ≡ true → is_visible b ≡ true
digit_is_visible b h = let d = digit_bounds b h in grind (arith, nat_tests, d)

-- ---- the words of a text of call bytes

onto_visible : (b : ℕ) (ws : List (List ℕ)) → is_visible b ≡ true → are_visible ws ≡ true → are_visible (onto_first b ws) ≡ true
onto_visible b [] h k = and_from (is_visible b && true) true (and_from (is_visible b) true h refl) refl
onto_visible b (w ∷ ws) h k =
    let a = and_parts (list_all is_visible w) (are_visible ws) k in
    and_from (is_visible b && list_all is_visible w) (are_visible ws) (and_from (is_visible b) (list_all is_visible w) h a.0) a.1

visible_after_byte : (b : ℕ) (ws : List (List ℕ)) (t : Bool) → (b == 32) ≡ t → is_call_byte b ≡ true → are_visible ws ≡ true → are_visible (cond t ([] ∷ ws) (onto_first b ws)) ≡ true
visible_after_byte b ws true e h k = k
visible_after_byte b ws false e h k = onto_visible b ws (call_byte_is_visible b h e) k

-- all words of a text of call bytes are visible
pub visible_words : (text : List ℕ) → list_all is_call_byte text ≡ true → are_visible (words text) ≡ true
visible_words [] h = refl
visible_words (b ∷ bs) h =
    let a = and_parts (is_call_byte b) (list_all is_call_byte bs) h in
    visible_after_byte b (words bs) (b == 32) refl a.0 (visible_words bs a.1)

-- words that are within their sizes and visible are sound
pub sound_words : (shape : List Word) → list_all is_small shape ≡ true → are_visible (map spelled shape) ≡ true → list_all is_sound shape ≡ true
sound_words [] h k = refl
sound_words (x ∷ xs) h k =
    let a = and_parts (is_small x) (list_all is_small xs) h in
    let v = and_parts (list_all is_visible (spelled x)) (are_visible (map spelled xs)) k in
    and_from (is_sound x) (list_all is_sound xs) (by x a.0 v.0) (sound_words xs a.1 v.1)
  where
    by : (y : Word) → is_small y ≡ true → list_all is_visible (spelled y) ≡ true → is_sound y ≡ true
    by (Text t) s v = and_from (nat_le 1 (length t) && nat_le (length t) 16) (list_all is_visible t) s v
    by (Number n) s v = s
    by (Guard n) s v = s

-- ---- sound words

decimal_digits : (n : ℕ) → nat_lt n (10 ^ 9) ≡ true → list_all is_ascii_digit (decimal n) ≡ true
decimal_digits n h = digits-decimal n (ltb-true n (10 ^ 9) h)

decimal_visible : (n : ℕ) → nat_lt n (10 ^ 9) ≡ true → list_all is_visible (decimal n) ≡ true
decimal_visible n h = all_weaker is_ascii_digit is_visible digit_is_visible (decimal n) (decimal_digits n h)

decimal_short : (n : ℕ) → nat_lt n (10 ^ 9) ≡ true → length (decimal n) ≤ 9
decimal_short n h = at_most_9_digits n (ltb-true n (10 ^ 9) h)

word_visible : (x : Word) → is_sound x ≡ true → list_all is_visible (spelled x) ≡ true
word_visible (Text t) h = (and_parts (nat_le 1 (length t) && nat_le (length t) 16) (list_all is_visible t) h).1
word_visible (Number n) h = decimal_visible n h
word_visible (Guard n) h = decimal_visible n h

word_short : (x : Word) → is_sound x ≡ true → length (spelled x) ≤ 16
word_short (Text t) h =
    let a = and_parts (nat_le 1 (length t) && nat_le (length t) 16) (list_all is_visible t) h in
    leb-true (length t) 16 (and_parts (nat_le 1 (length t)) (nat_le (length t) 16) a.0).1
word_short (Number n) h = omega (arith, decimal_short n h)
word_short (Guard n) h = omega (arith, decimal_short n h)

-- the bytes of sound words are visible
pub sound_visible : (shape : List Word) → list_all is_sound shape ≡ true → are_visible (map spelled shape) ≡ true
sound_visible [] h = refl
sound_visible (x ∷ xs) h =
    let a = and_parts (is_sound x) (list_all is_sound xs) h in
    and_from (list_all is_visible (spelled x)) (are_visible (map spelled xs)) (word_visible x a.0) (sound_visible xs a.1)

-- ---- the text that joins words

-- the text that joins visible words has just these words
pub words-join : (w : List ℕ) (ws : List (List ℕ)) → are_visible (w ∷ ws) ≡ true → words (join_with_byte 32 (w ∷ ws)) ≡ w ∷ ws
words-join w [] h =
    let a = and_parts (list_all is_visible w) true h in
    no_cut 32 w (all_weaker is_visible (is_not 32) visible_is_no_space w a.0)
words-join w (v ∷ vs) h =
    let a = and_parts (list_all is_visible w) (are_visible (v ∷ vs)) h in
    cut_at 32 w (join_with_byte 32 (v ∷ vs)) (all_weaker is_visible (is_not 32) visible_is_no_space w a.0) ∙ ap (λ rest. w ∷ rest) (words-join v vs a.1)

-- the text that joins visible words has call bytes alone
pub call_bytes-join : (w : List ℕ) (ws : List (List ℕ)) → are_visible (w ∷ ws) ≡ true → list_all is_call_byte (join_with_byte 32 (w ∷ ws)) ≡ true
call_bytes-join w [] h =
    let a = and_parts (list_all is_visible w) true h in
    all_weaker is_visible is_call_byte visible_is_call_byte w a.0
call_bytes-join w (v ∷ vs) h =
    let a = and_parts (list_all is_visible w) (are_visible (v ∷ vs)) h in
    all_append is_call_byte w (32 ∷ join_with_byte 32 (v ∷ vs)) (all_weaker is_visible is_call_byte visible_is_call_byte w a.0) (call_bytes-join v vs a.1)

-- n sound words, each with a space after it, have at most 17 bytes per word
pub short-join : (x : Word) (xs : List Word) → list_all is_sound (x ∷ xs) ≡ true → length (join_with_byte 32 (map spelled (x ∷ xs))) + 1 ≤ length (x ∷ xs) * 17
short-join x [] h =
    let a = and_parts (is_sound x) true h in
    omega (arith, word_short x a.0)
short-join x (y ∷ ys) h =
    let a = and_parts (is_sound x) (list_all is_sound (y ∷ ys)) h in
    let rest = join_with_byte 32 (map spelled (y ∷ ys)) in
    omega (arith, word_short x a.0, short-join y ys a.1, length-append (spelled x) (32 ∷ rest))

-- ---- a text that begins with a number

digit_is_no_hash : (b : ℕ) → is_ascii_digit b ≡ true → (b == 35) ≡ false
digit_is_no_hash b h = let d = digit_bounds b h in grind (arith, nat_tests, d)

-- a text that isn't blank: it has a first byte, which isn't `#`
pub record IsNotBlank (text : List ℕ) : Type 0 where
  pub first : ℕ
  pub others : List ℕ
  pub same : text ≡ first ∷ others
  pub no_hash : (first == 35) ≡ false

digit_is_not_blank : (d : ℕ) (ds : List ℕ) (ws : List (List ℕ)) → is_ascii_digit d ≡ true → IsNotBlank (join_with_byte 32 ((d ∷ ds) ∷ ws))
digit_is_not_blank d ds [] h = record { first = d; others = ds; same = refl; no_hash = digit_is_no_hash d h }
digit_is_not_blank d ds (v ∷ vs) h = record { first = d; others = ds ++ 32 ∷ join_with_byte 32 (v ∷ vs); same = refl; no_hash = digit_is_no_hash d h }

-- a text whose first word is a number isn't blank
pub number_is_not_blank : (w : List ℕ) (ws : List (List ℕ)) (n : ℕ) → number w ≡ Some n → IsNotBlank (join_with_byte 32 (w ∷ ws))
number_is_not_blank w ws n h =
    let a = decimal-number w n h in
    let d = digit_first n a.0 in
    subst (λ (x : List ℕ). IsNotBlank (join_with_byte 32 (x ∷ ws))) (sym (a.1 ∙ d.3)) (digit_is_not_blank d.0 d.1 ws d.2)
