-- The rules of two bits meet the laws that every layer's rules must meet; and the equality test on
-- tasks is right.
use Rattle.std.proofs.Common.{◌≡◌, ℕ, zero, suc, ◌<◌, Bool, true, false, refl, sym, ap, arith, nat_eq, nat_le}
use mathlib.Core.Bool.{◌&&◌}
use Rattle.std.specs.Bool.{Decides}
use Rattle.std.specs.Prelude.{◌==◌, if◌then◌else◌}
use Rattle.std.proofs.lemmas.Bool.Decides.{Decides-and, Decides-eqb, Decides-like}
use Rattle.frames.specs.declared.types.Op.{Op}
use Rattle.frames.specs.declared.types.Op.TheVariants as op
use Rattle.frames.specs.declared.types.Outcome.{Outcome}
use Rattle.frames.specs.declared.types.Outcome.TheVariants.{Value, Written, Spent}
use Rattle.frames.specs.Behaviour.{Answers}
use Rattle.layers.specs.Sound.{IsSound, IsSoundTable, IsNotSpent, Falls, FitsPart}
use Rattle.layers.specs.OneWriter.{one_writer}
use Rattle.layers.specs.laws.OneWriter as writer
use Rattle.own_register.specs.contracts.task.TwoBitsTaskPartialEq.TheImpl as tasks
use Rattle.own_register.specs.declared.task.TwoBitsTask.{TwoBitsTask}
use Rattle.own_register.specs.declared.task.TwoBitsTask.TheVariants.{WriteHigh, WriteLow, ReadHigh, ReadLow}
use Rattle.own_register.specs.Program.{high_of, low_of, two_bits_program, two_bits_rest, two_bits_asks, two_bits_frame, two_bits_find, two_bits_table, TwoBitsMayBeAt, two_bits_left}

high_is_bit : (v : ℕ) → high_of v < 2
high_is_bit v = by_test (nat_le 2 v)
  where
    by_test : (t : Bool) → (if t then 1 else 0) < 2
    by_test true = omega arith
    by_test false = omega arith

low_is_bit : (v : ℕ) → v < 4 → low_of v < 2
low_is_bit zero h = omega arith
low_is_bit (suc zero) h = omega arith
low_is_bit (suc (suc zero)) h = omega arith
low_is_bit (suc (suc (suc zero))) h = omega arith
low_is_bit (suc (suc (suc (suc v)))) h = absurd (omega (arith, h))

module _ (processes : ℕ) (some : 0 < processes) where
  first_is_bit : (v part : ℕ) → v < 4 → (if part == 0 then high_of v else low_of v) < 2
  first_is_bit v part h = by_test (part == 0)
    where
      by_test : (t : Bool) → (if t then high_of v else low_of v) < 2
      by_test true = high_is_bit v
      by_test false = low_is_bit v h

  begins_sound : (who : ℕ) (o : Op) → one_writer 4 processes who o ≡ true
      → IsSound (two_bits_table processes) (TwoBitsMayBeAt processes who o) (Answers 4 o) (two_bits_program who o)
  begins_sound who (op.Write x) h = ((writer.writer_zero 4 processes who x h, refl, writer.no_other_value 4 processes who x h), λ o. refl)
  begins_sound who op.Read h = ((refl, writer.reader_is_not_zero 4 processes who h, writer.reader_below_processes 4 processes who h), λ o. refl)

  asks_fit : (who : ℕ) (o : Op) (task : TwoBitsTask) → TwoBitsMayBeAt processes who o task
      → ((two_bits_asks task).part < 2) × FitsPart 2 processes (two_bits_asks task).who (two_bits_asks task).op
  asks_fit who (op.Write w) (WriteHigh v) may = (omega arith, (refl, high_is_bit v))
  asks_fit who (op.Write w) (WriteLow v) may = (omega arith, (refl, low_is_bit v (omega (arith, may.1, may.2))))
  asks_fit who op.Read (ReadHigh reader) may = (omega arith, (omega (arith, may.0, may.1), omega (arith, may.0, may.2)))
  asks_fit who op.Read (ReadLow reader high) may = (omega arith, (omega (arith, may.0, may.1), omega (arith, may.0, may.2)))
  asks_fit who _ _ may = absurd may

  rest_sound : (who : ℕ) (o : Op) (task : TwoBitsTask) (outcome : Outcome) → TwoBitsMayBeAt processes who o task → Answers 2 (two_bits_asks task).op outcome → IsNotSpent outcome
      → IsSound (two_bits_table processes) (TwoBitsMayBeAt processes who o) (Answers 4 o) (two_bits_rest task outcome)
  rest_sound who (op.Write w) (WriteHigh v) outcome may answers on = (may, λ o. refl)
  rest_sound who (op.Write w) (WriteLow v) outcome may answers on = tt
  rest_sound who op.Read (ReadHigh reader) (Value high) may answers on = ((may.0, may.1, may.2, answers), λ o. refl)
  rest_sound who op.Read (ReadHigh reader) Written may answers on = absurd answers
  rest_sound who op.Read (ReadHigh reader) (Spent layer) may answers on = absurd on
  rest_sound who op.Read (ReadLow reader high) (Value low) may answers on = omega (arith, may.3, answers)
  rest_sound who op.Read (ReadLow reader high) Written may answers on = absurd answers
  rest_sound who op.Read (ReadLow reader high) (Spent layer) may answers on = absurd on
  rest_sound who _ _ outcome may answers on = absurd may

  rest_falls : (who : ℕ) (o : Op) (task : TwoBitsTask) (outcome : Outcome) → TwoBitsMayBeAt processes who o task → Answers 2 (two_bits_asks task).op outcome → IsNotSpent outcome
      → Falls two_bits_left (two_bits_left task) (two_bits_rest task outcome)
  rest_falls who o (WriteHigh v) outcome may answers on = omega arith
  rest_falls who o (WriteLow v) outcome may answers on = tt
  rest_falls who o (ReadHigh reader) (Value high) may answers on = omega arith
  rest_falls who o (ReadHigh reader) Written may answers on = tt
  rest_falls who o (ReadHigh reader) (Spent layer) may answers on = tt
  rest_falls who o (ReadLow reader high) (Value low) may answers on = tt
  rest_falls who o (ReadLow reader high) Written may answers on = tt
  rest_falls who o (ReadLow reader high) (Spent layer) may answers on = tt

  may_be_at_suits : (who : ℕ) (o : Op) (task : TwoBitsTask) → TwoBitsMayBeAt processes who o task → one_writer 4 processes who o ≡ true
  may_be_at_suits who (op.Write w) (WriteHigh v) may = writer.writer_suits 4 processes who w may.0 some may.2
  may_be_at_suits who (op.Write w) (WriteLow v) may = writer.writer_suits 4 processes who w may.0 some may.2
  may_be_at_suits who op.Read (ReadHigh reader) may = writer.others_read 4 processes who may.1 may.2
  may_be_at_suits who op.Read (ReadLow reader high) may = writer.others_read 4 processes who may.1 may.2
  may_be_at_suits who _ _ may = absurd may

  frame_gives_task : (who : ℕ) (o : Op) (task : TwoBitsTask) → TwoBitsMayBeAt processes who o task → (two_bits_find who (two_bits_frame task) ≡ task) × ((two_bits_frame task).op ≡ o)
  frame_gives_task who (op.Write w) (WriteHigh v) may = (refl, ap op.Write may.1)
  frame_gives_task who (op.Write w) (WriteLow v) may = (refl, ap op.Write may.1)
  frame_gives_task who op.Read (ReadHigh reader) may = (ap ReadHigh (sym may.0), refl)
  frame_gives_task who op.Read (ReadLow reader high) may = (ap (λ p. ReadLow p high) (sym may.0), refl)
  frame_gives_task who _ _ may = absurd may

  -- the rules meet the laws that every layer's rules must meet
  pub two_bits_sound : IsSoundTable (two_bits_table processes) (TwoBitsMayBeAt processes) two_bits_left
  two_bits_sound = writer.one_writer_sound (two_bits_table processes) (TwoBitsMayBeAt processes) two_bits_left (λ who o. refl) some
      (λ v j lt below. first_is_bit v j lt) (λ v k lt below. absurd (omega (arith, below)))
      asks_fit may_be_at_suits frame_gives_task begins_sound rest_sound rest_falls

-- the derived `==` of tasks is true exactly if the two tasks are equal
pub two_bits_task_decides : (a b : TwoBitsTask) → Decides (tasks.eq-value.it a b) (a ≡ b)
two_bits_task_decides (WriteHigh x) (WriteHigh y) = Decides-like (nat_eq x y) (λ p. ap WriteHigh p) (λ p. cc) (Decides-eqb x y)
two_bits_task_decides (WriteLow x) (WriteLow y) = Decides-like (nat_eq x y) (λ p. ap WriteLow p) (λ p. cc) (Decides-eqb x y)
two_bits_task_decides (ReadHigh x) (ReadHigh y) = Decides-like (nat_eq x y) (λ p. ap ReadHigh p) (λ p. cc) (Decides-eqb x y)
two_bits_task_decides (ReadLow x i) (ReadLow y j) =
    Decides-like (nat_eq x y && nat_eq i j) (λ e. λ k. ReadLow (e.0 k) (e.1 k)) (λ e. (cc, cc)) (Decides-and (nat_eq x y) (nat_eq i j) (Decides-eqb x y) (Decides-eqb i j))
two_bits_task_decides _ _ = (λ h. cc, λ h. cc)

-- two bits with the same number of processes have the same rules
pub two_bits_table_alike : (p q : ℕ) → nat_eq p q ≡ true → two_bits_table p ≡ two_bits_table q
two_bits_table_alike p q h = ap two_bits_table ((Decides-eqb p q).0 h)
