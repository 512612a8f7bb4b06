-- The rules of the register that has to be read first meet the laws that every layer's rules must
-- meet.
use Rattle.std.proofs.Common.{◌≡◌, ℕ, ◌<◌, Bool, true, false, refl, sym, ap, arith}
use Rattle.std.specs.Prelude.{◌==◌, if◌then◌else◌}
use Rattle.frames.specs.declared.types.Op.{Op}
use Rattle.frames.specs.declared.types.Op.TheVariants as op
use Rattle.frames.specs.declared.types.Layer.TheVariants.{Stamped}
use Rattle.frames.specs.declared.types.Outcome.{Outcome}
use Rattle.frames.specs.declared.types.Outcome.TheVariants.{Value, Written, Spent}
use Rattle.frames.specs.Behaviour.{Answers}
use Rattle.layers.specs.Nested.{Ends, Asks}
use Rattle.layers.specs.Sound.{IsSound, IsSoundTable, IsNotSpent, FitsPart}
use Rattle.layers.specs.OneWriter.{one_writer}
use Rattle.layers.specs.laws.OneWriter as writer
use Rattle.register_tests.specs.ReadFirst.{read_first_program, read_first_asks, read_first_table, ReadFirstMayBeAt}

write_sound : (who v read : ℕ) → who ≡ 0 → v < 8 → IsSound read_first_table (ReadFirstMayBeAt who (op.Write v)) (Answers 8 (op.Write v)) (if read == 0 then Ends (Spent Stamped) else Asks (op.Write v) Ends)
write_sound who v read zero lt = by_test (read == 0)
  where
    by_test : (unread : Bool) → IsSound read_first_table (ReadFirstMayBeAt who (op.Write v)) (Answers 8 (op.Write v)) (if unread then Ends (Spent Stamped) else Asks (op.Write v) Ends)
    by_test true = tt
    by_test false = ((zero, refl, lt), λ o. refl)

begins_sound : (who : ℕ) (o : Op) → one_writer 8 2 who o ≡ true → IsSound read_first_table (ReadFirstMayBeAt who o) (Answers 8 o) (read_first_program who o)
begins_sound who (op.Write v) h = (omega arith, λ read low. write_sound who v read (writer.writer_zero 8 2 who v h) (writer.no_other_value 8 2 who v h))
begins_sound who op.Read h = (omega arith, (omega arith, (let above = writer.reader_is_not_zero 8 2 who h in let below = writer.reader_below_processes 8 2 who h in omega arith, λ o. refl)))

rest_sound : (who : ℕ) (o task : Op) (outcome : Outcome) → ReadFirstMayBeAt who o task → Answers 8 (read_first_asks task).op outcome → IsNotSpent outcome → Answers 8 o outcome
rest_sound who (op.Write w) (op.Write v) Written at_task answers on = tt
rest_sound who (op.Write w) (op.Write v) (Value x) at_task answers on = absurd answers
rest_sound who (op.Write w) (op.Write v) (Spent layer) at_task answers on = absurd on
rest_sound who op.Read op.Read (Value x) at_task answers on = answers
rest_sound who op.Read op.Read Written at_task answers on = absurd answers
rest_sound who op.Read op.Read (Spent layer) at_task answers on = absurd on
rest_sound who (op.Write w) op.Read outcome at_task answers on = absurd at_task
rest_sound who op.Read (op.Write v) outcome at_task answers on = absurd at_task

asks_fit : (who : ℕ) (o task : Op) → ReadFirstMayBeAt who o task → ((read_first_asks task).part < 1) × FitsPart 8 2 (read_first_asks task).who (read_first_asks task).op
asks_fit who (op.Write w) (op.Write v) at_task = (omega arith, (refl, at_task.2))
asks_fit who op.Read op.Read at_task = (omega arith, (omega arith, omega arith))
asks_fit who (op.Write w) op.Read at_task = absurd at_task
asks_fit who op.Read (op.Write v) at_task = absurd at_task

may_be_at_suits : (who : ℕ) (o task : Op) → ReadFirstMayBeAt who o task → one_writer 8 2 who o ≡ true
may_be_at_suits who (op.Write w) (op.Write v) at_task = writer.writer_suits 8 2 who w at_task.0 (omega arith) (omega (arith, at_task.1, at_task.2))
may_be_at_suits who op.Read op.Read at_task = writer.others_read 8 2 who (omega arith) (omega arith)
may_be_at_suits who (op.Write w) op.Read at_task = absurd at_task
may_be_at_suits who op.Read (op.Write v) at_task = absurd at_task

-- a task's frame gives the task back, and the frame's operation is the pending operation
frame_gives_task : (who : ℕ) (o task : Op) → ReadFirstMayBeAt who o task → (task ≡ task) × (task ≡ o)
frame_gives_task who (op.Write w) (op.Write v) at_task = (refl, ap op.Write (sym at_task.1))
frame_gives_task who op.Read op.Read at_task = (refl, refl)
frame_gives_task who (op.Write w) op.Read at_task = absurd at_task
frame_gives_task who op.Read (op.Write v) at_task = absurd at_task

pub read_first_sound : IsSoundTable read_first_table ReadFirstMayBeAt (λ _. 0)
read_first_sound = record {
  zero_writes = λ v lt. writer.zero_writes 8 2 v (omega arith) lt;
  others_read = λ who above below. writer.others_read 8 2 who above below;
  nobody_else = λ who o h. writer.nobody_else 8 2 who o h;
  no_other_value = λ who v h. writer.no_other_value 8 2 who v h;
  first_fits = λ v j lt below. lt;
  first_words = λ v k lt below. omega arith;
  asks_fit = asks_fit;
  may_be_at_suits = may_be_at_suits;
  frame_gives = frame_gives_task;
  begins_sound = begins_sound;
  rest_sound = rest_sound;
  rest_falls = λ who o task outcome at_task answers on. tt;
}
