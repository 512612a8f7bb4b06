-- A step is read from its own text alone.
use Rattle.std.proofs.Common.{◌≡◌, ℕ, Bool, true, false, cond, List, [], ◌∷◌, Option, Some, None, refl, sym, ap, ◌∙◌, subst}
use Rattle.std.specs.Prelude.{codes, ◌↔◌}
use Rattle.std.specs.Option.{option_map}
use Rattle.std.specs.List.{join_with_byte, list_all}
use Rattle.std.specs.Str.{bytes_eq}
use Rattle.std.proofs.lemmas.List.Splits.{join_with_byte-slice_split}
use Rattle.frames.specs.declared.types.Step.{Step}
use Rattle.frames.specs.declared.types.Step.TheVariants as step
use Rattle.words.specs.Words.{words, next, after_next, word_with_numbers}
use Rattle.words.specs.Numbers.{one_number, two_numbers}
use Rattle.words.specs.Steps.{step_of_words, step_text, HasShortNumbers}
use Rattle.words.proofs.Numbers.{number-decimal}
use Rattle.words.proofs.Texts.{is_printable, word_with_numbers_printable, words-word_with_numbers}
use Rattle.words.proofs.Options.{some_mapped}
use Rattle.words.proofs.NumberWords.{one_number_is, two_numbers_are, word_and_numbers_joined, same_word, one_number_short, two_numbers_short}

-- if a step is made of the numbers after a word, the word and the numbers, joined by spaces, are
-- the step's text
with_two : (w v : List ℕ) (ws : List (List ℕ)) (s : Step) (of : ℕ × ℕ → Step) → ((n : ℕ × ℕ) → word_with_numbers v (n.0 ∷ n.1 ∷ []) ≡ step_text (of n)) → w ≡ v → option_map of (two_numbers ws) ≡ Some s
    → join_with_byte 32 (w ∷ ws) ≡ step_text s
with_two w v ws s of spells e h =
    let a = some_mapped of (two_numbers ws) s h in
    word_and_numbers_joined w v ws (a.0.0 ∷ a.0.1 ∷ []) e (two_numbers_are ws a.0 a.1) ∙ spells a.0 ∙ ap step_text a.2

with_one : (w v : List ℕ) (ws : List (List ℕ)) (s : Step) (of : ℕ → Step) → ((p : ℕ) → word_with_numbers v (p ∷ []) ≡ step_text (of p)) → w ≡ v → option_map of (one_number ws) ≡ Some s
    → join_with_byte 32 (w ∷ ws) ≡ step_text s
with_one w v ws s of spells e h =
    let a = some_mapped of (one_number ws) s h in
    word_and_numbers_joined w v ws (a.0 ∷ []) e (one_number_is ws a.0 a.1) ∙ spells a.0 ∙ ap step_text a.2

-- the case for each first word, given whether it is `w`, `r`, `g` or `x`
step_by_letter : (isw isr isg isx : Bool) (w : List ℕ) (ws : List (List ℕ)) (s : Step) → (isw ≡ true → w ≡ codes "w") → (isr ≡ true → w ≡ codes "r") → (isg ≡ true → w ≡ codes "g") → (isx ≡ true → w ≡ codes "x")
    → cond isw (option_map (λ n. step.Write n.0 n.1) (two_numbers ws)) (cond isr (option_map (λ p. step.Read p) (one_number ws)) (cond isg (option_map (λ n. step.Go n.0 n.1) (two_numbers ws)) (cond isx (option_map (λ p. step.Stop p) (one_number ws)) None))) ≡ Some s
    → join_with_byte 32 (w ∷ ws) ≡ step_text s
step_by_letter true isr isg isx w ws s e f g k h = with_two w (codes "w") ws s (λ n. step.Write n.0 n.1) (λ n. refl) (e refl) h
step_by_letter false true isg isx w ws s e f g k h = with_one w (codes "r") ws s (λ p. step.Read p) (λ p. refl) (f refl) h
step_by_letter false false true isx w ws s e f g k h = with_two w (codes "g") ws s (λ n. step.Go n.0 n.1) (λ n. refl) (g refl) h
step_by_letter false false false true w ws s e f g k h = with_one w (codes "x") ws s (λ p. step.Stop p) (λ p. refl) (k refl) h
step_by_letter false false false false w ws s e f g k h = absurd cc

-- words that are read as a step, joined by spaces, are the step's text
pub step_is : (ws : List (List ℕ)) (s : Step) → step_of_words ws ≡ Some s → join_with_byte 32 ws ≡ step_text s
step_is [] s h = absurd cc
step_is (w ∷ ws) s h = step_by_letter (bytes_eq w (codes "w")) (bytes_eq w (codes "r")) (bytes_eq w (codes "g")) (bytes_eq w (codes "x")) w ws s (same_word w (codes "w")) (same_word w (codes "r")) (same_word w (codes "g")) (same_word w (codes "x")) h

-- the first word of a step is `w`, `r`, `g` or `x`, and so no other word
first_word_by_letter : (isw isr isg isx : Bool) (ws : List (List ℕ)) (w other : List ℕ) (s : Step) → (isw ≡ true → w ≡ codes "w") → (isr ≡ true → w ≡ codes "r") → (isg ≡ true → w ≡ codes "g") → (isx ≡ true → w ≡ codes "x")
    → bytes_eq (codes "w") other ≡ false → bytes_eq (codes "r") other ≡ false → bytes_eq (codes "g") other ≡ false → bytes_eq (codes "x") other ≡ false
    → cond isw (option_map (λ n. step.Write n.0 n.1) (two_numbers ws)) (cond isr (option_map (λ p. step.Read p) (one_number ws)) (cond isg (option_map (λ n. step.Go n.0 n.1) (two_numbers ws)) (cond isx (option_map (λ p. step.Stop p) (one_number ws)) None))) ≡ Some s
    → bytes_eq w other ≡ false
first_word_by_letter true isr isg isx ws w other s e f g k nw nr ng nx h = ap (λ (x : List ℕ). bytes_eq x other) (e refl) ∙ nw
first_word_by_letter false true isg isx ws w other s e f g k nw nr ng nx h = ap (λ (x : List ℕ). bytes_eq x other) (f refl) ∙ nr
first_word_by_letter false false true isx ws w other s e f g k nw nr ng nx h = ap (λ (x : List ℕ). bytes_eq x other) (g refl) ∙ ng
first_word_by_letter false false false true ws w other s e f g k nw nr ng nx h = ap (λ (x : List ℕ). bytes_eq x other) (k refl) ∙ nx
first_word_by_letter false false false false ws w other s e f g k nw nr ng nx h = absurd cc

pub first_word_is_no_other : (ws : List (List ℕ)) (s : Step) (other : List ℕ) → bytes_eq (codes "w") other ≡ false → bytes_eq (codes "r") other ≡ false → bytes_eq (codes "g") other ≡ false → bytes_eq (codes "x") other ≡ false
    → step_of_words ws ≡ Some s → bytes_eq (next ws) other ≡ false
first_word_is_no_other ws s other nw nr ng nx h =
    let w = next ws in
    first_word_by_letter (bytes_eq w (codes "w")) (bytes_eq w (codes "r")) (bytes_eq w (codes "g")) (bytes_eq w (codes "x")) (after_next ws) w other s
    (same_word w (codes "w")) (same_word w (codes "r")) (same_word w (codes "g")) (same_word w (codes "x")) nw nr ng nx h

-- if `of` makes a step with short numbers from the value of o, and this step is s, then s has short
-- numbers
with_short : {A : Type 0} (o : Option A) (of : A → Step) (s : Step) → ((n : A) → o ≡ Some n → HasShortNumbers (of n)) → option_map of o ≡ Some s → HasShortNumbers s
with_short o of s short h = let a = some_mapped of o s h in subst HasShortNumbers a.2 (short a.0 a.1)

short_by_letter : (isw isr isg isx : Bool) (ws : List (List ℕ)) (s : Step)
    → cond isw (option_map (λ n. step.Write n.0 n.1) (two_numbers ws)) (cond isr (option_map (λ p. step.Read p) (one_number ws)) (cond isg (option_map (λ n. step.Go n.0 n.1) (two_numbers ws)) (cond isx (option_map (λ p. step.Stop p) (one_number ws)) None))) ≡ Some s
    → HasShortNumbers s
short_by_letter true isr isg isx ws s h = with_short (two_numbers ws) (λ n. step.Write n.0 n.1) s (two_numbers_short ws) h
short_by_letter false true isg isx ws s h = with_short (one_number ws) (λ p. step.Read p) s (one_number_short ws) h
short_by_letter false false true isx ws s h = with_short (two_numbers ws) (λ n. step.Go n.0 n.1) s (two_numbers_short ws) h
short_by_letter false false false true ws s h = with_short (one_number ws) (λ p. step.Stop p) s (one_number_short ws) h
short_by_letter false false false false ws s h = absurd cc

-- a step that is read has short numbers
step_short : (ws : List (List ℕ)) (s : Step) → step_of_words ws ≡ Some s → HasShortNumbers s
step_short [] s h = absurd cc
step_short (w ∷ ws) s h = short_by_letter (bytes_eq w (codes "w")) (bytes_eq w (codes "r")) (bytes_eq w (codes "g")) (bytes_eq w (codes "x")) ws s h

-- a step's text is read as that step
pub step_again : (s : Step) → HasShortNumbers s → step_of_words (words (step_text s)) ≡ Some s
step_again (step.Write p v) h =
    ap step_of_words (words-word_with_numbers (codes "w") (p ∷ v ∷ []) refl (h.0, (h.1, tt))) ∙ rw (number-decimal p h.0, number-decimal v h.1) refl
step_again (step.Read p) h =
    ap step_of_words (words-word_with_numbers (codes "r") (p ∷ []) refl (h, tt)) ∙ rw (number-decimal p h) refl
step_again (step.Go p c) h =
    ap step_of_words (words-word_with_numbers (codes "g") (p ∷ c ∷ []) refl (h.0, (h.1, tt))) ∙ rw (number-decimal p h.0, number-decimal c h.1) refl
step_again (step.Stop p) h =
    ap step_of_words (words-word_with_numbers (codes "x") (p ∷ []) refl (h, tt)) ∙ rw (number-decimal p h) refl

-- a line spells a step exactly if it is the step's text
pub one_spelling_of_step : (line : List ℕ) (s : Step) → (step_of_words (words line) ≡ Some s) ↔ (HasShortNumbers s × (line ≡ step_text s))
one_spelling_of_step line s = (
  λ h. (step_short (words line) s h, sym (join_with_byte-slice_split 32 line) ∙ step_is (words line) s h),
  λ h. ap (λ l. step_of_words (words l)) h.1 ∙ step_again s h.0,
)

pub step_printable : (s : Step) → HasShortNumbers s → list_all is_printable (step_text s) ≡ true
step_printable (step.Write p v) h = word_with_numbers_printable (codes "w") (p ∷ v ∷ []) refl (h.0, (h.1, tt))
step_printable (step.Read p) h = word_with_numbers_printable (codes "r") (p ∷ []) refl (h, tt)
step_printable (step.Go p c) h = word_with_numbers_printable (codes "g") (p ∷ c ∷ []) refl (h.0, (h.1, tt))
step_printable (step.Stop p) h = word_with_numbers_printable (codes "x") (p ∷ []) refl (h, tt)
