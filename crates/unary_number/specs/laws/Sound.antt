-- The unary number's rules meet the laws that every layer's rules must meet; and its equality test
-- on tasks (points at which a bit is written or read) is right.
use Rattle.std.proofs.Common.{◌≡◌, ℕ, zero, suc, ◌+◌, ◌-◌, ◌<◌, ◌≤◌, Bool, true, false, refl, sym, ap, arith, nat_eq, eq-eqb}
use mathlib.Core.Bool.{◌&&◌}
use Rattle.std.specs.Bool.{Decides}
use Rattle.std.specs.Prelude.{◌==◌, if◌then◌else◌}
use Rattle.std.proofs.lemmas.Bool.{ne_eqb}
use Rattle.std.proofs.lemmas.Bool.Decides.{Decides-and, Decides-eqb, Decides-like}
use Rattle.frames.specs.declared.types.Op.{Op}
use Rattle.frames.specs.declared.types.Op.TheVariants as op
use Rattle.frames.specs.declared.types.Outcome.{Outcome}
use Rattle.frames.specs.declared.types.Outcome.TheVariants.{Value, Written, Spent}
use Rattle.frames.specs.Behaviour.{Answers}
use Rattle.layers.specs.Nested.{Ends}
use Rattle.frames.specs.declared.limits.TheConstants.{LEAST_VALUES}
use Rattle.layers.specs.Sound.{IsSound, IsSoundTable, IsNotSpent, Falls, FitsPart}
use Rattle.layers.specs.OneWriter.{one_writer}
use Rattle.layers.specs.laws.OneWriter as writer
use Rattle.unary_number.specs.contracts.task.UnaryTaskPartialEq.TheImpl as tasks
use Rattle.unary_number.specs.declared.task.UnaryTask.{UnaryTask}
use Rattle.unary_number.specs.declared.task.UnaryTask.TheVariants.{Setting, Clearing, Looking}
use Rattle.unary_number.specs.Program.{clears_below, after_look, looks_above, unary_program, unary_rest, unary_asks, unary_frame, unary_find, unary_table_with, unary_table, UnaryMayBeAt, unary_left}

module _ (not_found : Outcome) (values processes : ℕ) (two : LEAST_VALUES ≤ values) (some : 0 < processes)
    (answered : Answers values op.Read not_found) where
  first_is_bit : (value bit : ℕ) → (if bit == value then 1 else 0) < 2
  first_is_bit value bit = by_test (bit == value)
    where
      by_test : (same : Bool) → (if same then 1 else 0) < 2
      by_test true = omega arith
      by_test false = omega arith

  clears_sound : (who w x i : ℕ) → who ≡ 0 → x ≡ w → i ≤ w → w < values → IsSound (unary_table_with not_found values processes) (UnaryMayBeAt values processes who (op.Write w)) (Answers values (op.Write w)) (clears_below x i)
  clears_sound who w x zero writer same below low = tt
  clears_sound who w x (suc i) writer same below low = ((writer, same, omega arith, low), λ o. refl)

  looks_above_sound : (who reader i left : ℕ) → reader ≡ who → 1 ≤ who → who < processes → i + left + 1 ≡ values
      → IsSound (unary_table_with not_found values processes) (UnaryMayBeAt values processes who op.Read) (Answers values op.Read) (looks_above not_found reader i left)
  looks_above_sound who reader i zero same above below all = answered
  looks_above_sound who reader i (suc left) same above below all = ((same, above, below, omega arith), λ o. refl)

  -- after a scan has read a bit, the rest of its program is sound: it next reaches a task that the
  -- reader can be in, or ends with an outcome that suits a read. x, which the scan gives if the bit
  -- is 1, may be any value below `values`
  after_look_sound : (who reader i left bit x : ℕ) → reader ≡ who → 1 ≤ who → who < processes → i + left + 1 ≡ values → x < values
      → IsSound (unary_table_with not_found values processes) (UnaryMayBeAt values processes who op.Read) (Answers values op.Read) (after_look x (looks_above not_found reader i left) (Value bit))
  after_look_sound who reader i left bit x same above below all small = by_test (bit == 1)
    where
      by_test : (found : Bool) → IsSound (unary_table_with not_found values processes) (UnaryMayBeAt values processes who op.Read) (Answers values op.Read)
          (if found then Ends (Value x) else looks_above not_found reader i left)
      by_test true = small
      by_test false = looks_above_sound who reader i left same above below all

  clears_fall : (w i n : ℕ) → i ≤ n → Falls unary_left n (clears_below w i)
  clears_fall w zero n le = tt
  clears_fall w (suc i) n le = omega arith

  looks_above_fall : (who i left : ℕ) → Falls unary_left left (looks_above not_found who i left)
  looks_above_fall who i zero = tt
  looks_above_fall who i (suc left) = omega arith

  after_look_falls : (who i left bit x : ℕ) → Falls unary_left left (after_look x (looks_above not_found who i left) (Value bit))
  after_look_falls who i left bit x = by_test (bit == 1)
    where
      by_test : (found : Bool) → Falls unary_left left (if found then Ends (Value x) else looks_above not_found who i left)
      by_test true = tt
      by_test false = looks_above_fall who i left

  begins_sound : (who : ℕ) (o : Op) → one_writer values processes who o ≡ true
      → IsSound (unary_table_with not_found values processes) (UnaryMayBeAt values processes who o) (Answers values o) (unary_program not_found values who o)
  begins_sound who (op.Write x) h = ((writer.writer_zero values processes who x h, refl, writer.no_other_value values processes who x h), λ o. refl)
  begins_sound who op.Read h = ((refl, writer.reader_is_not_zero values processes who h, writer.reader_below_processes values processes who h, omega arith), λ o. refl)

  asks_fit : (who : ℕ) (o : Op) (task : UnaryTask) → UnaryMayBeAt values processes who o task
      → ((unary_asks task).part < values) × FitsPart 2 processes (unary_asks task).who (unary_asks task).op
  asks_fit who (op.Write w) (Setting x) at_task = (omega (arith, at_task.1, at_task.2), (refl, omega arith))
  asks_fit who (op.Write w) (Clearing x i) at_task = (omega (arith, at_task.1, at_task.2, at_task.3), (refl, omega arith))
  asks_fit who op.Read (Looking reader i left) at_task = (omega (arith, at_task.3), (omega (arith, at_task.0, at_task.1), omega (arith, at_task.0, at_task.2)))
  asks_fit who _ _ at_task = absurd at_task

  rest_sound : (who : ℕ) (o : Op) (task : UnaryTask) (outcome : Outcome) → UnaryMayBeAt values processes who o task → Answers 2 (unary_asks task).op outcome → IsNotSpent outcome
      → IsSound (unary_table_with not_found values processes) (UnaryMayBeAt values processes who o) (Answers values o) (unary_rest not_found task outcome)
  rest_sound who (op.Write w) (Setting x) outcome at_task answers on = clears_sound who w x x at_task.0 at_task.1 (omega (arith, at_task.1)) at_task.2
  rest_sound who (op.Write w) (Clearing x i) outcome at_task answers on = clears_sound who w x i at_task.0 at_task.1 (omega (arith, at_task.2)) at_task.3
  rest_sound who op.Read (Looking reader i left) (Value bit) at_task answers on =
      after_look_sound who reader i left bit _ at_task.0 at_task.1 at_task.2 at_task.3 (omega (arith, at_task.3))
  rest_sound who op.Read (Looking reader i left) Written at_task answers on = absurd answers
  rest_sound who op.Read (Looking reader i left) (Spent layer) at_task answers on = absurd on
  rest_sound who _ _ outcome at_task answers on = absurd at_task

  rest_falls : (who : ℕ) (o : Op) (task : UnaryTask) (outcome : Outcome) → UnaryMayBeAt values processes who o task → Answers 2 (unary_asks task).op outcome → IsNotSpent outcome
      → Falls unary_left (unary_left task) (unary_rest not_found task outcome)
  rest_falls who o (Setting x) outcome at_task answers on = clears_fall x x x (omega arith)
  rest_falls who o (Clearing x i) outcome at_task answers on = clears_fall x i i (omega arith)
  rest_falls who o (Looking reader i left) (Value bit) at_task answers on = after_look_falls reader i left bit _
  rest_falls who o (Looking reader i left) Written at_task answers on = tt
  rest_falls who o (Looking reader i left) (Spent layer) at_task answers on = tt

  may_be_at_suits : (who : ℕ) (o : Op) (task : UnaryTask) → UnaryMayBeAt values processes who o task → one_writer values processes who o ≡ true
  may_be_at_suits who (op.Write w) (Setting x) at_task = writer.writer_suits values processes who w at_task.0 some at_task.2
  may_be_at_suits who (op.Write w) (Clearing x i) at_task = writer.writer_suits values processes who w at_task.0 some at_task.3
  may_be_at_suits who op.Read (Looking reader i left) at_task = writer.others_read values processes who at_task.1 at_task.2
  may_be_at_suits who _ _ at_task = absurd at_task

  frame_gives_task : (who : ℕ) (o : Op) (task : UnaryTask) → UnaryMayBeAt values processes who o task → (unary_find values who (unary_frame task) ≡ task) × ((unary_frame task).op ≡ o)
  frame_gives_task who (op.Write w) (Setting x) at_task = (ap (λ same. if same then Setting x else Clearing x x) (eq-eqb x x refl), ap op.Write at_task.1)
  frame_gives_task who (op.Write w) (Clearing x i) at_task = (ap (λ same. if same then Setting x else Clearing x i) (ne_eqb i x (λ e. omega (arith, e, at_task.1, at_task.2))), ap op.Write at_task.1)
  frame_gives_task who op.Read (Looking reader i left) at_task =
      let left_is : values - 1 - i ≡ left = omega (arith, at_task.3) in
      (λ k. Looking (sym at_task.0 k) i (left_is k), refl)
  frame_gives_task who (op.Write w) (Looking reader i left) at_task = absurd at_task
  frame_gives_task who op.Read (Setting x) at_task = absurd at_task
  frame_gives_task who op.Read (Clearing x i) at_task = absurd at_task

  -- the rules meet the laws that every layer's rules must meet, if a read may end with `not_found`,
  -- the outcome of a scan that finds no 1
  pub table_sound : IsSoundTable (unary_table_with not_found values processes) (UnaryMayBeAt values processes) unary_left
  table_sound = writer.one_writer_sound (unary_table_with not_found values processes) (UnaryMayBeAt values processes) unary_left (λ who o. refl) (some)
      (λ v j lt below. first_is_bit v j) (λ v k lt below. omega arith)
      asks_fit may_be_at_suits frame_gives_task begins_sound rest_sound rest_falls

-- the unary number's rules meet the laws that every layer's rules must meet, since a scan that
-- finds no 1 gives one of the unary number's values
pub unary_sound : (values processes : ℕ) → LEAST_VALUES ≤ values → 0 < processes → IsSoundTable (unary_table values processes) (UnaryMayBeAt values processes) unary_left
unary_sound values processes two some =
    let greatest : Answers values op.Read (Value (values - 1)) = omega arith in
    table_sound (Value (values - 1)) values processes two some greatest

-- the derived `==` of tasks is true exactly if the two tasks are equal
pub unary_task_decides : (a b : UnaryTask) → Decides (tasks.eq-value.it a b) (a ≡ b)
unary_task_decides (Setting x) (Setting y) = Decides-like (nat_eq x y) (λ p. ap Setting p) (λ p. cc) (Decides-eqb x y)
unary_task_decides (Clearing x i) (Clearing y j) =
    Decides-like (nat_eq x y && nat_eq i j) (λ e. λ k. Clearing (e.0 k) (e.1 k)) (λ e. (cc, cc)) (Decides-and (nat_eq x y) (nat_eq i j) (Decides-eqb x y) (Decides-eqb i j))
unary_task_decides (Looking p i m) (Looking q j n) =
    Decides-like (nat_eq p q && (nat_eq i j && nat_eq m n)) (λ e. λ k. Looking (e.0 k) (e.1.0 k) (e.1.1 k)) (λ e. (cc, (cc, cc)))
    (Decides-and (nat_eq p q) (nat_eq i j && nat_eq m n) (Decides-eqb p q) (Decides-and (nat_eq i j) (nat_eq m n) (Decides-eqb i j) (Decides-eqb m n)))
unary_task_decides _ _ = (λ h. cc, λ h. cc)

-- unary numbers with the same numbers of values and processes have the same rules
pub unary_table_alike : (m n p q : ℕ) → nat_eq m n && nat_eq p q ≡ true → unary_table m p ≡ unary_table n q
unary_table_alike m n p q h =
    let both = (Decides-and (nat_eq m n) (nat_eq p q) (Decides-eqb m n) (Decides-eqb p q)).0 h in
    λ i. unary_table (both.0 i) (both.1 i)
