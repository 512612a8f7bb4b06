use Rattle.std.proofs.Common.{◌≡◌, ℕ, ◌+◌, ◌-◌, ◌<◌, ◌≤◌, ◌==◌, true, List, ◌∷◌, ◌++◌, length, get_or, take, drop, sym, ap, subst, ◌∙◌, arith}
use Rattle.std.proofs.lemmas.Bool.{eqb-true, false_from_ne_true}
use Rattle.std.proofs.lemmas.List.{get_or-take, get_or_default, length-take-le, take-append-drop, take_rest, drop_more}
use Rattle.conversation.specs.Scripts.{is_line_end}
use Rattle.conversation.specs.Pieces.{HasNoEnd}
use Rattle.conversation.proofs.converse.first_line.Goals as goal

-- if no byte before `end` is a line end, the bytes before `end` have none
none_in_front : (text : List ℕ) (end : ℕ) → end ≤ length text
    → ((k : ℕ) → 0 ≤ k → k < end → (get_or text k 0 == 10) ≡ true → ⊥) → HasNoEnd (take end text)
none_in_front text end within none k d less =
    let size = length-take-le end text within in
    let here : k < end = omega (arith, size, less) in
    let inside : k < length text = omega (arith, here, within) in
    ap is_line_end (get_or-take end text k d here ∙ get_or_default text k d 0 inside)
    ∙ false_from_ne_true (get_or text k 0 == 10) (none k (omega arith) here)

-- if no byte of a text is a line end, the text has none
none_at_all : (text : List ℕ) → ((k : ℕ) → 0 ≤ k → k < length text → (get_or text k 0 == 10) ≡ true → ⊥) → HasNoEnd text
none_at_all text none k d less =
    ap is_line_end (get_or_default text k d 0 less)
    ∙ false_from_ne_true (get_or text k 0 == 10) (none k (omega arith) less)

-- the slice `[1..]` of the bytes from a line end on has just the bytes after this end
rest_is_taken : (back rest : List ℕ) → back ≡ 10 ∷ rest → back ≡ 10 ∷ take (length back - 1) (drop 1 back)
rest_is_taken back rest e = e ∙ ap (λ l. 10 ∷ l) (sym (take_rest back 1 ∙ ap (drop 1) e))

-- a text is cut at its first line's end
cut : (text front back : List ℕ) (end : ℕ) → end < length text → (get_or text end 0 == 10) ≡ true
    → front ≡ take end text → back ≡ drop end text
    → text ≡ front ++ 10 ∷ take (length back - 1) (drop 1 back)
cut text front back end less here f b =
    let byte : get_or text end 0 ≡ 10 = eqb-true (get_or text end 0) 10 here in
    let more = drop (end + 1) text in
    let whole : back ≡ 10 ∷ more = b ∙ drop_more text end 0 less ∙ ap (λ x. x ∷ more) byte in
    sym (take-append-drop end text) ∙ (λ i. sym f i ++ sym b i) ∙ ap (λ l. front ++ l) (rest_is_taken back more whole)

pub returns-in_err-end : goal.returns-in_err-end
returns-in_err-end c = rw c.from_residual.ensures (none_at_all c.args.text.now c.in_err-end.ensures)

pub returns : goal.returns
returns c =
    let found = c.in_ok-end.ensures in (
      subst HasNoEnd (sym c.split_at.ensures.front)
          (none_in_front c.args.text.now c.in_ok-end.end (omega (arith, found.0.high)) found.0.before),
      cut c.args.text.now c.split_at.result.0.now c.split_at.result.1.now c.in_ok-end.end found.0.high found.1
          c.split_at.ensures.front c.split_at.ensures.back,
    )
