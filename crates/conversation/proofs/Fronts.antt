-- The front of a line: the part that is kept.
use Rattle.std.proofs.Common.{◌≡◌, ℕ, zero, suc, ◌+◌, ◌-◌, List, [], ◌++◌, length, take, sym, ap, ◌∙◌, arith, inl, inr, refl, append-nil}
use Rattle.std.proofs.lemmas.List.{take_all, take-append-le, length-take}
use Rattle.std.proofs.lemmas.Bool.{cases_lt}
use Rattle.std.proofs.Math.Seq.{take-append-add}
use Rattle.conversation.specs.declared.limits.TheConstants.{KEPT_BYTES}
use Rattle.conversation.specs.Pieces.{kept_with}

take_none : (n : ℕ) (bytes : List ℕ) → n ≡ 0 → take n bytes ≡ []
take_none zero bytes e = refl
take_none (suc n) bytes e = cc

-- what is kept after a line's next bytes is the first KEPT_BYTES bytes of the longer line
pub front_more : (front text bytes : List ℕ) → front ≡ take KEPT_BYTES text → kept_with front bytes ≡ take KEPT_BYTES (text ++ bytes)
front_more front text bytes e = elim (cases_lt (length text) KEPT_BYTES) [
  | inl short ↦
      let same : front ≡ text = e ∙ take_all KEPT_BYTES text (omega arith) in
      let room : length text + (KEPT_BYTES - length text) ≡ KEPT_BYTES = omega (arith, short) in
      ap (λ (xs : List ℕ). xs ++ take (KEPT_BYTES - length xs) bytes) same
      ∙ sym (take-append-add text bytes (KEPT_BYTES - length text))
      ∙ ap (λ n. take n (text ++ bytes)) room
  | inr long ↦
      let full : KEPT_BYTES - length front ≡ 0 = omega (arith, ap length e, length-take KEPT_BYTES text) in
      ap (λ xs. front ++ xs) (take_none (KEPT_BYTES - length front) bytes full) ∙ append-nil front ∙ e ∙ sym (take-append-le KEPT_BYTES text bytes long)
]
