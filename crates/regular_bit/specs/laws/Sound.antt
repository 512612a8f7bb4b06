-- The regular bit's rules meet the laws that every layer's rules must meet; and its equality test
-- on tasks (points at which the register below is written or read) is right.
use Rattle.std.proofs.Common.{◌≡◌, ℕ, ◌<◌, Bool, true, false, refl, sym, ap, arith, nat_eq}
use Rattle.std.specs.Bool.{Decides}
use Rattle.std.specs.Prelude.{if◌then◌else◌}
use Rattle.std.proofs.lemmas.Bool.Decides.{Decides-eqb, Decides-like}
use Rattle.frames.specs.declared.types.Op.{Op}
use Rattle.frames.specs.declared.types.Op.TheVariants as op
use Rattle.frames.specs.declared.types.Outcome.{Outcome}
use Rattle.frames.specs.declared.types.Outcome.TheVariants.{Value, Written, Spent}
use Rattle.frames.specs.Behaviour.{Answers}
use Rattle.layers.specs.Nested.{Ends, Asks, Sets}
use Rattle.layers.specs.Sound.{IsSound, IsSoundTable, IsNotSpent, FitsPart}
use Rattle.layers.specs.OneWriter.{one_writer}
use Rattle.layers.specs.laws.OneWriter as writer
use Rattle.regular_bit.specs.contracts.task.RegularTaskPartialEq.TheImpl as tasks
use Rattle.regular_bit.specs.declared.task.RegularTask.{RegularTask}
use Rattle.regular_bit.specs.declared.task.RegularTask.TheVariants.{Writing, Reading}
use Rattle.regular_bit.specs.Program.{regular_program, regular_table, regular_asks, regular_frame, regular_find, RegularMayBeAt}

module _ (processes : ℕ) (some : 0 < processes) where
  write_sound : (who v : ℕ) (same : Bool) → who ≡ 0 → v < 2 → IsSound (regular_table processes) (RegularMayBeAt processes who (op.Write v)) (Answers 2 (op.Write v))
      (if same then Ends Written else Sets 0 v (Asks (Writing v) Ends))
  write_sound who v true writer lt = tt
  write_sound who v false writer lt = (omega arith, (lt, ((writer, refl, lt), λ o. refl)))

  begins_sound : (who : ℕ) (o : Op) → one_writer 2 processes who o ≡ true → IsSound (regular_table processes) (RegularMayBeAt processes who o) (Answers 2 o) (regular_program who o)
  begins_sound who (op.Write v) h = (omega arith, λ last low. write_sound who v _ (writer.writer_zero 2 processes who v h) (writer.no_other_value 2 processes who v h))
  begins_sound who op.Read h = ((refl, writer.reader_is_not_zero 2 processes who h, writer.reader_below_processes 2 processes who h), λ o. refl)

  rest_sound : (who : ℕ) (o : Op) (task : RegularTask) (outcome : Outcome) → RegularMayBeAt processes who o task → Answers 2 (regular_asks task).op outcome → IsNotSpent outcome → Answers 2 o outcome
  rest_sound who (op.Write w) (Writing v) Written at_task answers on = tt
  rest_sound who (op.Write w) (Writing v) (Value x) at_task answers on = absurd answers
  rest_sound who op.Read (Reading reader) (Value x) at_task answers on = answers
  rest_sound who op.Read (Reading reader) Written at_task answers on = absurd answers
  rest_sound who (op.Write w) (Reading reader) outcome at_task answers on = absurd at_task
  rest_sound who op.Read (Writing v) outcome at_task answers on = absurd at_task
  rest_sound who (op.Write w) (Writing v) (Spent layer) at_task answers on = absurd on
  rest_sound who op.Read (Reading reader) (Spent layer) at_task answers on = absurd on

  asks_fit : (who : ℕ) (o : Op) (task : RegularTask) → RegularMayBeAt processes who o task → ((regular_asks task).part < 1) × FitsPart 2 processes (regular_asks task).who (regular_asks task).op
  asks_fit who (op.Write w) (Writing v) at_task = (omega arith, (refl, at_task.2))
  asks_fit who op.Read (Reading reader) at_task = (omega arith, (at_task.1, at_task.2))
  asks_fit who (op.Write w) (Reading reader) at_task = absurd at_task
  asks_fit who op.Read (Writing v) at_task = absurd at_task

  may_be_at_suits : (who : ℕ) (o : Op) (task : RegularTask) → RegularMayBeAt processes who o task → one_writer 2 processes who o ≡ true
  may_be_at_suits who (op.Write w) (Writing v) at_task = writer.writer_suits 2 processes who w at_task.0 some (rw at_task.1 at at_task.2)
  may_be_at_suits who op.Read (Reading reader) at_task = writer.others_read 2 processes who (omega (arith, at_task.0, at_task.1)) (omega (arith, at_task.0, at_task.2))
  may_be_at_suits who (op.Write w) (Reading reader) at_task = absurd at_task
  may_be_at_suits who op.Read (Writing v) at_task = absurd at_task

  frame_gives_task : (who : ℕ) (o : Op) (task : RegularTask) → RegularMayBeAt processes who o task → (regular_find who (regular_frame task) ≡ task) × ((regular_frame task).op ≡ o)
  frame_gives_task who (op.Write w) (Writing v) at_task = (refl, ap op.Write at_task.1)
  frame_gives_task who op.Read (Reading reader) at_task = (ap Reading (sym at_task.0), refl)
  frame_gives_task who (op.Write w) (Reading reader) at_task = absurd at_task
  frame_gives_task who op.Read (Writing v) at_task = absurd at_task

  -- the regular bit's rules meet the laws that every layer's rules must meet
  pub regular_sound : IsSoundTable (regular_table processes) (RegularMayBeAt processes) (λ _. 0)
  regular_sound = writer.one_writer_sound (regular_table processes) (RegularMayBeAt processes) (λ _. 0) (λ who o. refl) (some)
      (λ v j lt below. lt) (λ v k lt below. omega (arith, lt))
      asks_fit may_be_at_suits frame_gives_task begins_sound rest_sound (λ who o task outcome at_task answers on. tt)

-- the derived `==` of tasks is true exactly if the two tasks are equal
pub regular_task_decides : (a b : RegularTask) → Decides (tasks.eq-value.it a b) (a ≡ b)
regular_task_decides (Writing v) (Writing w) = Decides-like (nat_eq v w) (λ p. ap Writing p) (λ p. cc) (Decides-eqb v w)
regular_task_decides (Reading p) (Reading q) = Decides-like (nat_eq p q) (λ e. ap Reading e) (λ e. cc) (Decides-eqb p q)
regular_task_decides _ _ = (λ h. cc, λ h. cc)

-- regular bits with the same number of processes have the same rules
pub regular_table_alike : (p q : ℕ) → nat_eq p q ≡ true → regular_table p ≡ regular_table q
regular_table_alike p q h = ap regular_table ((Decides-eqb p q).0 h)
