-- The stamped register's rules meet the laws that every layer's rules must meet; and its equality
-- test on tasks (points at which the register below is written or read) is right.
use Rattle.std.proofs.Common.{◌%◌, ◌≡◌, ◌≢◌, ℕ, ◌+◌, ◌*◌, ◌<◌, ◌≤◌, max, Bool, true, false, refl, ap, arith, nat_eq}
use Rattle.std.specs.Bool.{Decides}
use Rattle.std.specs.Prelude.{◌==◌, if◌then◌else◌, ◌&&◌}
use Rattle.std.proofs.lemmas.Bool.{eqb-false, and_parts}
use Rattle.std.proofs.lemmas.Bool.Decides.{Decides-and, Decides-eqb, Decides-like}
use Rattle.std.proofs.Math.Nat.{add-mul}
use Rattle.std.proofs.lemmas.Nat.{mul-add-lt, mod_below, mod-mul-add}
use Rattle.frames.specs.declared.types.Op.{Op}
use Rattle.frames.specs.declared.types.Op.TheVariants as op
use Rattle.frames.specs.declared.types.Layer.TheVariants as spent
use Rattle.frames.specs.declared.types.Outcome.{Outcome}
use Rattle.frames.specs.declared.types.Outcome.TheVariants.{Value, Written, Spent}
use Rattle.frames.specs.Behaviour.{Answers}
use Rattle.layers.specs.Nested.{Ends, Asks, Sets}
use Rattle.frames.specs.declared.limits.TheConstants.{LEAST_VALUES}
use Rattle.layers.specs.Sound.{IsSound, IsSoundTable, IsNotSpent, Falls, FitsPart}
use Rattle.layers.specs.OneWriter.{one_writer}
use Rattle.layers.specs.laws.OneWriter as writer
use Rattle.stamped.specs.contracts.task.StampedTaskPartialEq.TheImpl as tasks
use Rattle.stamped.specs.declared.task.StampedTask.{StampedTask}
use Rattle.stamped.specs.declared.task.StampedTask.TheVariants.{Writing, Reading}
use Rattle.stamped.specs.Program.{stamped_program, stamped_table, stamped_asks, stamped_rest, stamped_frame, stamped_find, stamped_code_count, StampedMayBeAt}

-- for each stamp below the last stamp, the code of the next stamp, with any value, is below the
-- number of codes
pub code_fits : (values last stamp v : ℕ) → stamp < last → v < values → (stamp + 1) * values + v < stamped_code_count values last
code_fits values last stamp v before lt = let h = mul-add-lt (stamp + 1) values v (last + 1) (omega arith) lt in omega (arith, h)

-- a code with a stamp of 1 or more is at least `values`
pub stamped_code_at_least : (values stamp v : ℕ) → values ≤ (stamp + 1) * values + v
stamped_code_at_least values stamp v = omega (arith, add-mul stamp 1 values)

-- each value, taken as a code, is below the number of codes: it is the code of stamp 0 and this
-- value
pub value_fits : (values last v : ℕ) → v < values → v < stamped_code_count values last
value_fits values last v lt = let h = mul-add-lt 0 values v (last + 1) (omega arith) lt in omega (arith, h)

module _ (values last : ℕ) (some : LEAST_VALUES ≤ values) where
  write_sound : (who v stamp : ℕ) → who ≡ 0 → v < values → stamp < last + 1 → IsSound (stamped_table values last) (StampedMayBeAt values last who (op.Write v)) (Answers values (op.Write v))
      (if stamp == last then Ends (Spent spent.Stamped) else Sets 0 (stamp + 1) (Asks (Writing v ((stamp + 1) * values + v)) Ends))
  write_sound who v stamp zero lt low = by_test (stamp == last) refl
    where
      by_test : (end : Bool) → (stamp == last) ≡ end → IsSound (stamped_table values last) (StampedMayBeAt values last who (op.Write v)) (Answers values (op.Write v))
          (if end then Ends (Spent spent.Stamped) else Sets 0 (stamp + 1) (Asks (Writing v ((stamp + 1) * values + v)) Ends))
      by_test true e = tt
      by_test false e =
          let other : stamp ≢ last = eqb-false stamp last e in
          let before : stamp < last = omega arith in
          (omega arith, (omega arith, ((zero, refl, mod-mul-add (stamp + 1) values v lt, stamped_code_at_least values stamp v, code_fits values last stamp v before lt), λ o. refl)))

  begins_sound : (who : ℕ) (o : Op) → one_writer values 2 who o ≡ true → IsSound (stamped_table values last) (StampedMayBeAt values last who o) (Answers values o) (stamped_program values last who o)
  begins_sound who (op.Write v) h = (omega arith, λ stamp low. write_sound who v stamp (writer.writer_zero values 2 who v h) (writer.no_other_value values 2 who v h) low)
  begins_sound who op.Read h = (let above = writer.reader_is_not_zero values 2 who h in let below = writer.reader_below_processes values 2 who h in omega arith, λ o. refl)

  greater_fits : (best code : ℕ) → best < stamped_code_count values last → code < stamped_code_count values last → max best code < stamped_code_count values last
  greater_fits best code p q = let n = stamped_code_count values last in omega arith

  rest_sound : (who : ℕ) (o : Op) (task : StampedTask) (outcome : Outcome) → StampedMayBeAt values last who o task → Answers (stamped_code_count values last) (stamped_asks task).op outcome → IsNotSpent outcome
      → IsSound (stamped_table values last) (StampedMayBeAt values last who o) (Answers values o) (stamped_rest values task outcome)
  rest_sound who (op.Write w) (Writing v code) Written at_task answers on = tt
  rest_sound who (op.Write w) (Writing v code) (Value x) at_task answers on = absurd answers
  rest_sound who (op.Write w) (Writing v code) (Spent layer) at_task answers on = absurd on
  rest_sound who op.Read Reading (Value code) at_task answers on =
      (omega arith, λ best low. (omega arith, (greater_fits best code low answers, mod_below _ values (omega arith))))
  rest_sound who op.Read Reading Written at_task answers on = absurd answers
  rest_sound who op.Read Reading (Spent layer) at_task answers on = absurd on
  rest_sound who (op.Write w) Reading outcome at_task answers on = absurd at_task
  rest_sound who op.Read (Writing v code) outcome at_task answers on = absurd at_task

  asks_fit : (who : ℕ) (o : Op) (task : StampedTask) → StampedMayBeAt values last who o task → ((stamped_asks task).part < 1) × FitsPart (stamped_code_count values last) 2 (stamped_asks task).who (stamped_asks task).op
  asks_fit who (op.Write w) (Writing v code) at_task = (omega arith, (refl, at_task.4))
  asks_fit who op.Read Reading at_task = (omega arith, (omega arith, omega arith))
  asks_fit who (op.Write w) Reading at_task = absurd at_task
  asks_fit who op.Read (Writing v code) at_task = absurd at_task

  first_words : (v k : ℕ) → v < values → k < 2 → (stamped_table values last).first_word v k < (stamped_table values last).bound k
  first_words v k lt low = by_test (k == 0)
    where
      by_test : (first : Bool) → (if first then 0 else v) < (if first then last + 1 else stamped_code_count values last)
      by_test true = omega arith
      by_test false = value_fits values last v lt

  -- an operation has at most one task: the rest of its program, after a task, has no task
  rest_falls : (who : ℕ) (o : Op) (task : StampedTask) (outcome : Outcome) → StampedMayBeAt values last who o task → Answers (stamped_code_count values last) (stamped_asks task).op outcome → IsNotSpent outcome
      → Falls {Task = StampedTask} (λ _. 0) 0 (stamped_rest values task outcome)
  rest_falls who o Reading (Value code) at_task answers on = λ best. tt
  rest_falls who o _ _ at_task answers on = tt

  may_be_at_suits : (who : ℕ) (o : Op) (task : StampedTask) → StampedMayBeAt values last who o task → one_writer values 2 who o ≡ true
  may_be_at_suits who (op.Write w) (Writing v code) at_task =
      let low : code % values < values = mod_below code values (omega arith) in
      writer.writer_suits values 2 who w at_task.0 (omega arith) (omega (arith, low, at_task.1, at_task.2))
  may_be_at_suits who op.Read Reading at_task = writer.others_read values 2 who (omega (arith, at_task)) (omega (arith, at_task))
  may_be_at_suits who (op.Write w) Reading at_task = absurd at_task
  may_be_at_suits who op.Read (Writing v code) at_task = absurd at_task

  frame_gives_task : (who : ℕ) (o : Op) (task : StampedTask) → StampedMayBeAt values last who o task → (stamped_find who (stamped_frame task) ≡ task) × ((stamped_frame task).op ≡ o)
  frame_gives_task who (op.Write w) (Writing v code) at_task = (refl, ap op.Write at_task.1)
  frame_gives_task who op.Read Reading at_task = (refl, refl)
  frame_gives_task who (op.Write w) Reading at_task = absurd at_task
  frame_gives_task who op.Read (Writing v code) at_task = absurd at_task

  -- the stamped register's rules meet the laws that every layer's rules must meet
  pub stamped_sound : IsSoundTable (stamped_table values last) (StampedMayBeAt values last) (λ _. 0)
  stamped_sound = writer.one_writer_sound (stamped_table values last) (StampedMayBeAt values last) (λ _. 0) (λ who o. refl) (omega arith)
      (λ v j lt below. value_fits values last v lt) first_words
      asks_fit may_be_at_suits frame_gives_task begins_sound rest_sound rest_falls

-- the derived `==` of tasks is true exactly if the two tasks are equal
pub stamped_task_decides : (a b : StampedTask) → Decides (tasks.eq-value.it a b) (a ≡ b)
stamped_task_decides (Writing v x) (Writing w y) =
    Decides-like (nat_eq v w && nat_eq x y) (λ p. λ i. Writing (p.0 i) (p.1 i)) (λ p. (cc, cc)) (Decides-and (nat_eq v w) (nat_eq x y) (Decides-eqb v w) (Decides-eqb x y))
stamped_task_decides Reading Reading = (λ h. refl, λ h. refl)
stamped_task_decides _ _ = (λ h. cc, λ h. cc)

-- stamped registers with the same number of values and the same last stamp have the same rules
pub stamped_table_alike : (v w l m : ℕ) → (nat_eq v w && nat_eq l m) ≡ true → stamped_table v l ≡ stamped_table w m
stamped_table_alike v w l m h =
    let both = and_parts (nat_eq v w) (nat_eq l m) h in
    let e = (Decides-eqb v w).0 both.0 in
    let f = (Decides-eqb l m).0 both.1 in
    λ i. stamped_table (e i) (f i)
