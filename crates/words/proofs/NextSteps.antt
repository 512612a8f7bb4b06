-- The next line of a text: whether it is that of a step.
use Rattle.std.proofs.Common.{Bor, ◌==◌, ◌≡◌, ℕ, true, false, List, [], ◌∷◌, ◌++◌, Option, Some, None, refl, sym, ap, ◌∙◌}
use Rattle.std.specs.Option.{option_map}
use Rattle.std.specs.List.{join_with_byte}
use Rattle.std.proofs.lemmas.List.Splits.{join_with_byte-slice_split}
use Rattle.frames.specs.declared.types.Step.{Step}
use Rattle.words.specs.Words.{parts, parts_left, lines, words, next, after_next, is_end}
use Rattle.words.specs.Steps.{step_of_words, step_text, HasShortNumbers}
use Rattle.words.proofs.Splits.{split_nonempty}
use Rattle.words.proofs.Texts.{all_weaker, is_not, is_printable, printable_is_no_line_end, cut_at}
use Rattle.words.proofs.Steps.{step_again, one_spelling_of_step, step_printable}

-- if a text begins with a step's line, that is its first line, and its other lines are those of the
-- rest
pub step_first : (text rest : List ℕ) (s : Step) → HasShortNumbers s → text ≡ step_text s ++ 10 ∷ rest → parts 10 text ≡ step_text s ∷ parts 10 rest
step_first text rest s h e = ap (parts 10) e ∙ cut_at 10 (step_text s) rest (all_weaker is_printable (is_not 10) printable_is_no_line_end (step_text s) (step_printable s h))

-- the next of these lines spells the step s and ends with a line end; `rest` has the lines after it
pub record IsNextStep (all : List (List ℕ)) (s : Step) (rest : List ℕ) : Type 0 where
  pub step : step_of_words (words (next all)) ≡ Some s
  pub whole : is_end (after_next all) ≡ false
  pub left : lines rest ≡ after_next all

-- if the text that is left begins with a step's line, its next line is that step's
pub is_next_step : (text : Option (Bor (List ℕ))) (left : Bor (List ℕ)) (all : List (List ℕ)) (rest : List ℕ) (s : Step) → text ≡ Some left
    → parts_left 10 (option_map (λ t. t.now) text) ≡ all → HasShortNumbers s → left.now ≡ step_text s ++ 10 ∷ rest → IsNextStep all s rest
is_next_step text left all rest s e view h front =
    let is : all ≡ step_text s ∷ lines rest =
    sym view ∙ ap (λ (o : Option (Bor (List ℕ))). parts_left 10 (option_map (λ t. t.now) o)) e ∙ step_first left.now rest s h front in
    record {
      step = ap (λ (ls : List (List ℕ)). step_of_words (words (next ls))) is ∙ step_again s h;
      whole = ap (λ (ls : List (List ℕ)). is_end (after_next ls)) is ∙ split_nonempty (λ b. b == 10) rest;
      left = sym (ap after_next is);
    }

-- two or more lines, joined by line ends, are the first line, a line end, and the others joined
pub joined_next : (ls : List (List ℕ)) → is_end (after_next ls) ≡ false → join_with_byte 10 ls ≡ next ls ++ 10 ∷ join_with_byte 10 (after_next ls)
joined_next [] h = absurd cc
joined_next (l ∷ []) h = absurd cc
joined_next (l ∷ k ∷ ls) h = refl

-- if a text doesn't begin with a step's line, its first line spells no step, or has no end
pub no_next_step : (text : Option (Bor (List ℕ))) (left : Bor (List ℕ)) (all : List (List ℕ)) → text ≡ Some left → parts_left 10 (option_map (λ t. t.now) text) ≡ all
    → ((s : Step) (rest : List ℕ) → HasShortNumbers s → left.now ≡ step_text s ++ 10 ∷ rest → ⊥) → is_end (after_next all) ≡ false → step_of_words (words (next all)) ≡ None
no_next_step text left all e view none whole = by (step_of_words (words (next all))) refl
  where
    is : lines left.now ≡ all
    is = ap (λ (o : Option (Bor (List ℕ))). parts_left 10 (option_map (λ t. t.now) o)) (sym e) ∙ view

    by : (o : Option Step) → step_of_words (words (next all)) ≡ o → step_of_words (words (next all)) ≡ None
    by None h = h
    by (Some s) h =
        let a = (one_spelling_of_step (next all) s).0 h in
        absurd (none s (join_with_byte 10 (after_next all)) a.0
        (sym (join_with_byte-slice_split 10 left.now) ∙ ap (join_with_byte 10) is ∙ joined_next all whole ∙ ap (λ (l : List ℕ). l ++ 10 ∷ join_with_byte 10 (after_next all)) a.1))

-- if no text is left, no line with an end is next
pub no_next_line : (text : Option (Bor (List ℕ))) (all : List (List ℕ)) → text ≡ None → parts_left 10 (option_map (λ t. t.now) text) ≡ all
    → is_end (after_next all) ≡ false → step_of_words (words (next all)) ≡ None
no_next_line text all e view whole =
    let is : all ≡ [] = sym view ∙ ap (λ (o : Option (Bor (List ℕ))). parts_left 10 (option_map (λ t. t.now) o)) e in
    let end : is_end (after_next all) ≡ true = ap (λ (ls : List (List ℕ)). is_end (after_next ls)) is in
    absurd cc
