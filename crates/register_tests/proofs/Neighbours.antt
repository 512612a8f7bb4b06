-- Two neighbours are still neighbours after an operation on one of them.
use Rattle.std.proofs.Common.{◌≡◌, ℕ, ◌*◌, ◌<◌, length, ap, ◌⊎◌, inl, inr, sym, subst, ◌∙◌, arith}
use Rattle.safe_bit.specs.declared.Place.{Place}
use Rattle.std.proofs.lemmas.List.{length-replicate}
use Rattle.safe_bit.specs.Memory.{Memory, blank, no_cell}
use Rattle.safe_bit.specs.Parts.{LiesIn, with_part, origin}
use Rattle.safe_bit.specs.laws.Parts.{LiesIn-with_part, part-with_part}
use Rattle.frames.specs.laws.OwnMemory.{put_in_leaves_others}
use Rattle.frames.specs.declared.types.Op.{Op}
use Rattle.frames.specs.Behaviour.{Behaviour, IsLawful}
use Rattle.register_tests.specs.Neighbours.{AreNeighbours}

module _ {P : Type 0} (b : Behaviour P) (Holds : Memory → Type 0) (Reaches : ℕ → Op → P → Type 0) (laws : IsLawful b Holds Reaches) where
  first_after : (m inner : Memory) → AreNeighbours b Holds m → Holds inner → AreNeighbours b Holds (with_part origin inner m)
  first_after m inner n h =
      let z = laws.size_holds inner h in
      record {
        first_lies = LiesIn-with_part origin b.size origin b.size inner m z n.first_lies n.first_lies;
        second_lies = LiesIn-with_part origin b.size b.size b.size inner m z n.first_lies n.second_lies;
        first = subst Holds (sym (part-with_part origin b.size inner m z n.first_lies)) h;
        second = subst Holds (sym (put_in_leaves_others b Holds Reaches laws origin m inner n.first_lies h b.size b.size n.second_lies (record { cells = inl (omega arith); words = inl (omega arith) }))) n.second;
      }

  second_after : (m inner : Memory) → AreNeighbours b Holds m → Holds inner → AreNeighbours b Holds (with_part b.size inner m)
  second_after m inner n h =
      let z = laws.size_holds inner h in
      record {
        first_lies = LiesIn-with_part b.size b.size origin b.size inner m z n.second_lies n.first_lies;
        second_lies = LiesIn-with_part b.size b.size b.size b.size inner m z n.second_lies n.second_lies;
        first = subst Holds (sym (put_in_leaves_others b Holds Reaches laws b.size m inner n.second_lies h origin b.size n.first_lies (record { cells = inr (omega arith); words = inr (omega arith) }))) n.first;
        second = subst Holds (sym (part-with_part b.size b.size inner m z n.second_lies)) h;
      }

  pub neighbours_after : (at : Place) (m inner after : Memory) → (at ≡ origin) ⊎ (at ≡ b.size) → AreNeighbours b Holds m → Holds inner → after ≡ with_part at inner m → AreNeighbours b Holds after
  neighbours_after at m inner after (inl e) n h f = subst (AreNeighbours b Holds) (sym (subst (λ p. after ≡ with_part p inner m) e f)) (first_after m inner n h)
  neighbours_after at m inner after (inr e) n h f = subst (AreNeighbours b Holds) (sym (subst (λ p. after ≡ with_part p inner m) e f)) (second_after m inner n h)

  -- in a memory with room for two registers, both are neighbours once each is set to a value
  pub neighbours_at_first : (v : ℕ) (m once twice : Memory) → v < b.values → LiesIn origin b.size m → LiesIn b.size b.size m
      → once ≡ with_part origin (b.initial v) m → twice ≡ with_part b.size (b.initial v) once → AreNeighbours b Holds twice
  neighbours_at_first v m once twice low first_lies second_lies e f =
      let h = laws.initial_holds v low in
      let z = laws.size_holds (b.initial v) h in
      let mid : Memory = with_part origin (b.initial v) m in
      let mid_first = LiesIn-with_part origin b.size origin b.size (b.initial v) m z first_lies first_lies in
      let mid_second = LiesIn-with_part origin b.size b.size b.size (b.initial v) m z first_lies second_lies in
      let there : AreNeighbours b Holds (with_part b.size (b.initial v) mid) = record {
        first_lies = LiesIn-with_part b.size b.size origin b.size (b.initial v) mid z mid_second mid_first;
        second_lies = LiesIn-with_part b.size b.size b.size b.size (b.initial v) mid z mid_second mid_second;
        first = subst Holds (sym (put_in_leaves_others b Holds Reaches laws b.size mid (b.initial v) mid_second h origin b.size mid_first (record { cells = inr (omega arith); words = inr (omega arith) })
            ∙ part-with_part origin b.size (b.initial v) m z first_lies)) h;
        second = subst Holds (sym (part-with_part b.size b.size (b.initial v) mid z mid_second)) h;
      } in
      subst (AreNeighbours b Holds) (sym (subst (λ o. twice ≡ with_part b.size (b.initial v) o) e f)) there

  -- in a blank memory of twice its size a register lies at the beginning, and another right after
  -- it
  pub room_for_two : (size : Place) (m : Memory) → size ≡ b.size → m ≡ blank (2 * size.cell) (2 * size.word) → LiesIn origin b.size m × LiesIn b.size b.size m
  room_for_two size m e f =
      let cells : length m.cells ≡ 2 * b.size.cell = ap (λ n. length n.cells) f ∙ length-replicate (2 * size.cell) no_cell ∙ ap (λ s. 2 * s.cell) e in
      let words : length m.words ≡ 2 * b.size.word = ap (λ n. length n.words) f ∙ length-replicate (2 * size.word) 0 ∙ ap (λ s. 2 * s.word) e in
      (record { cells = omega arith; words = omega arith }, record { cells = omega arith; words = omega arith })
