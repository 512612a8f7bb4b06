-- The rules of copies meet the laws that every layer's rules must meet; and the equality test on
-- tasks (points at which a copy is written or read) is right.
use Rattle.std.proofs.Common.{◌≡◌, ℕ, zero, suc, ◌+◌, ◌-◌, ◌<◌, ◌≤◌, Bool, true, refl, ap, arith, nat_eq}
use mathlib.Core.Bool.{◌&&◌}
use Rattle.std.specs.Bool.{Decides}
use Rattle.std.proofs.lemmas.Bool.Decides.{Decides-and, Decides-eqb, Decides-like}
use Rattle.safe_bit.specs.Memory.{Memory}
use Rattle.frames.specs.declared.types.Op.{Op}
use Rattle.frames.specs.declared.types.Op.TheVariants as op
use Rattle.frames.specs.declared.types.Outcome.{Outcome}
use Rattle.frames.specs.declared.types.Outcome.TheVariants.{Value, Written, Spent}
use Rattle.layers.specs.declared.nested.Continuation.TheVariants as continuation
use Rattle.frames.specs.Behaviour.{Answers}
use Rattle.layers.specs.Settled.{settled}
use Rattle.frames.specs.declared.limits.TheConstants.{MOST_READERS}
use Rattle.layers.specs.Sound.{IsSound, IsSoundTable, IsNotSpent, Falls, FitsPart}
use Rattle.layers.specs.OneWriter.{one_writer}
use Rattle.layers.specs.laws.OneWriter as writer
use Rattle.reader_copies.specs.contracts.task.CopiesTaskPartialEq.TheImpl as tasks
use Rattle.reader_copies.specs.declared.task.CopiesTask.{CopiesTask}
use Rattle.reader_copies.specs.declared.task.CopiesTask.TheVariants.{Writing, Reading}
use Rattle.reader_copies.specs.Program.{write_from, copies_program, copies_rest, copies_table, copies_asks, copies_frame, copies_find, CopiesMayBeAt, copies_left}

-- if a write has copies left to write, beginning with the copy of `reader`, the rest of the write
-- next reaches the task of writing this copy, and changes no memory before that
pub settled_with_copies_left : (base v reader copies : ℕ) (m : Memory) → 0 < copies
    → settled base (write_from v reader copies) m ≡ record { continuation = continuation.Asks (Writing v reader); memory = m }
settled_with_copies_left base v reader zero m some = absurd (omega arith)
settled_with_copies_left base v reader (suc left_after) m some = refl

-- if a write has no copies left to write, the rest of the write ends at once and changes no memory
pub settled_without_copies_left : (base v reader copies : ℕ) (m : Memory) → copies ≡ 0
    → settled base (write_from v reader copies) m ≡ record { continuation = continuation.Ends Written; memory = m }
settled_without_copies_left base v reader zero m none = refl
settled_without_copies_left base v reader (suc left_after) m none = absurd (omega arith)

module _ (readers values : ℕ) (some : 1 ≤ readers) (few : readers ≤ MOST_READERS) where
  -- the rest of a write, if it writes the copies of `reader` and of all later readers, is sound: it
  -- next reaches a task that the writer can be in, or it ends
  write_sound : (who w v reader copies : ℕ) → who ≡ 0 → v ≡ w → v < values → 1 ≤ reader → reader + copies ≡ readers + 1
      → IsSound (copies_table readers values) (CopiesMayBeAt readers values who (op.Write w)) (Answers values (op.Write w)) (write_from v reader copies)
  write_sound who w v reader zero writer same lt first all = tt
  write_sound who w v reader (suc left_after) writer same lt first all =
      ((writer, same, lt, first, omega arith), λ o. ap (write_from v (reader + 1)) (omega arith))

  write_falls : (v reader copies : ℕ) → reader + copies ≡ readers + 1 → Falls (copies_left readers) copies (write_from v reader copies)
  write_falls v reader zero all = tt
  write_falls v reader (suc left_after) all = omega arith

  begins_sound : (who : ℕ) (o : Op) → one_writer values (readers + 1) who o ≡ true
      → IsSound (copies_table readers values) (CopiesMayBeAt readers values who o) (Answers values o) (copies_program readers who o)
  begins_sound who (op.Write v) h = write_sound who v v 1 readers (writer.writer_zero values (readers + 1) who v h) refl (writer.no_other_value values (readers + 1) who v h) (omega arith) (omega arith)
  begins_sound who op.Read h =
      let low = writer.reader_is_not_zero values (readers + 1) who h in
      let high = writer.reader_below_processes values (readers + 1) who h in
      ((refl, low, omega arith), λ o. refl)

  rest_sound : (who : ℕ) (o : Op) (task : CopiesTask) (outcome : Outcome) → CopiesMayBeAt readers values who o task → Answers values (copies_asks task).op outcome → IsNotSpent outcome
      → IsSound (copies_table readers values) (CopiesMayBeAt readers values who o) (Answers values o) (copies_rest readers task outcome)
  rest_sound who (op.Write w) (Writing v reader) outcome at_task answers on =
      write_sound who w v (reader + 1) (readers - reader) at_task.0 at_task.1 at_task.2 (omega arith) (omega (arith, at_task.3, at_task.4))
  rest_sound who op.Read (Reading reader) (Value x) at_task answers on = answers
  rest_sound who op.Read (Reading reader) Written at_task answers on = absurd answers
  rest_sound who op.Read (Reading reader) (Spent layer) at_task answers on = absurd on
  rest_sound who (op.Write w) (Reading reader) outcome at_task answers on = absurd at_task
  rest_sound who op.Read (Writing v reader) outcome at_task answers on = absurd at_task

  rest_falls : (who : ℕ) (o : Op) (task : CopiesTask) (outcome : Outcome) → CopiesMayBeAt readers values who o task → Answers values (copies_asks task).op outcome → IsNotSpent outcome
      → Falls (copies_left readers) (copies_left readers task) (copies_rest readers task outcome)
  rest_falls who (op.Write w) (Writing v reader) outcome at_task answers on = write_falls v (reader + 1) (readers - reader) (omega (arith, at_task.3, at_task.4))
  rest_falls who op.Read (Reading reader) outcome at_task answers on = tt
  rest_falls who (op.Write w) (Reading reader) outcome at_task answers on = absurd at_task
  rest_falls who op.Read (Writing v reader) outcome at_task answers on = absurd at_task

  asks_fit : (who : ℕ) (o : Op) (task : CopiesTask) → CopiesMayBeAt readers values who o task
      → ((copies_asks task).part < readers) × FitsPart values 2 (copies_asks task).who (copies_asks task).op
  asks_fit who (op.Write w) (Writing v reader) at_task = (omega (arith, at_task.3, at_task.4), (refl, at_task.2))
  asks_fit who op.Read (Reading reader) at_task = (omega (arith, at_task.1, at_task.2), (omega arith, omega arith))
  asks_fit who (op.Write w) (Reading reader) at_task = absurd at_task
  asks_fit who op.Read (Writing v reader) at_task = absurd at_task

  may_be_at_suits : (who : ℕ) (o : Op) (task : CopiesTask) → CopiesMayBeAt readers values who o task → one_writer values (readers + 1) who o ≡ true
  may_be_at_suits who (op.Write w) (Writing v reader) at_task = writer.writer_suits values (readers + 1) who w at_task.0 (omega arith) (rw at_task.1 at at_task.2)
  may_be_at_suits who op.Read (Reading reader) at_task = writer.others_read values (readers + 1) who (omega (arith, at_task.0, at_task.1)) (omega (arith, at_task.0, at_task.2))
  may_be_at_suits who (op.Write w) (Reading reader) at_task = absurd at_task
  may_be_at_suits who op.Read (Writing v reader) at_task = absurd at_task

  frame_gives_task : (who : ℕ) (o : Op) (task : CopiesTask) → CopiesMayBeAt readers values who o task → (copies_find who (copies_frame task) ≡ task) × ((copies_frame task).op ≡ o)
  frame_gives_task who (op.Write w) (Writing v reader) at_task = (refl, ap op.Write at_task.1)
  frame_gives_task who op.Read (Reading reader) at_task = (refl, refl)
  frame_gives_task who (op.Write w) (Reading reader) at_task = absurd at_task
  frame_gives_task who op.Read (Writing v reader) at_task = absurd at_task

  -- the rules of copies meet the laws that every layer's rules must meet
  pub copies_sound : IsSoundTable (copies_table readers values) (CopiesMayBeAt readers values) (copies_left readers)
  copies_sound = writer.one_writer_sound (copies_table readers values) (CopiesMayBeAt readers values) (copies_left readers) (λ who o. refl) (omega arith)
      (λ v j lt below. lt) (λ v k lt below. absurd (omega arith))
      asks_fit may_be_at_suits frame_gives_task begins_sound rest_sound rest_falls

-- the derived `==` of tasks is true exactly if the two tasks are equal
pub copies_task_decides : (a b : CopiesTask) → Decides (tasks.eq-value.it a b) (a ≡ b)
copies_task_decides (Writing v p) (Writing w q) =
    Decides-like (nat_eq v w && nat_eq p q) (λ e. λ i. Writing (e.0 i) (e.1 i)) (λ e. (cc, cc)) (Decides-and (nat_eq v w) (nat_eq p q) (Decides-eqb v w) (Decides-eqb p q))
copies_task_decides (Reading p) (Reading q) = Decides-like (nat_eq p q) (λ e. ap Reading e) (λ e. cc) (Decides-eqb p q)
copies_task_decides _ _ = (λ h. cc, λ h. cc)

-- whether two registers made of copies have the same number of readers and the same number of
-- values
abbrev pub copies_layer_eq : ℕ → ℕ → ℕ → ℕ → Bool
copies_layer_eq readers readers' values values' = nat_eq readers readers' && nat_eq values values'

-- registers made of copies have the same rules if their numbers of readers and of values are the
-- same
pub copies_table_alike : (p q v w : ℕ) → copies_layer_eq p q v w ≡ true → copies_table p v ≡ copies_table q w
copies_table_alike p q v w h =
    let both = (Decides-and (nat_eq p q) (nat_eq v w) (Decides-eqb p q) (Decides-eqb v w)).0 h in
    λ i. copies_table (both.0 i) (both.1 i)
