-- A matrix is atomic for many processes over a register whose reads are never stray, and which
-- refuses a write only in the step that invokes it, and exactly after certain numbers of writes.
use Rattle.std.proofs.Common.{◌≡◌, ℕ, zero, suc, ◌+◌, ◌-◌, ◌*◌, ◌%◌, ◌<◌, ◌≤◌, ◌==◌, max, Bool, true, false, ◌∷◌, [], List, Option, Some, None, IsTrue, inl, inr, refl, sym, ap, subst, ◌∙◌, arith, eq-eqb, ltb-true}
use Rattle.std.specs.Prelude.{◌/◌, ◌⊎◌, ⊤, if◌then◌else◌, length, nat_lt, unwrap_or}
use Rattle.std.specs.List.{AllByRecursion}
use Rattle.std.proofs.lemmas.Nat.{mul-add-lt, div-mul-add, mod-mul-add}
use Rattle.std.proofs.Math.Nat.{mod-eq_of_lt}
use Rattle.std.proofs.lemmas.Bool.Decides.{nat_tests}
use Rattle.safe_bit.specs.Memory.{Memory}
use Rattle.frames.specs.declared.types.Op.{Op}
use Rattle.frames.specs.declared.types.Op.TheVariants.{Read, Write}
use Rattle.frames.specs.declared.types.Layer.{Layer}
use Rattle.frames.specs.declared.types.Layer.TheVariants.{Matrix}
use Rattle.frames.specs.declared.types.Outcome.{Outcome}
use Rattle.frames.specs.declared.types.Outcome.TheVariants.{Value, Written, Spent}
use Rattle.frames.specs.declared.types.Event.{Event}
use Rattle.frames.specs.declared.types.Event.TheVariants.{Invoke, Got, Wrote, Refused, Chosen, Void, Stop}
use Rattle.frames.specs.declared.types.StepEvents.{StepEvents}
use Rattle.frames.specs.declared.types.Step.{Step}
use Rattle.frames.specs.Behaviour.{Behaviour, IsLawful, Answers}
use Rattle.frames.specs.Configuration.{in_order, chosen_of, history}
use Rattle.frames.specs.Recorded.{AllFit, first_configuration}
use Rattle.frames.proofs.Seen.{Seen, Returned, opening, sees, got, IsNotStray, end_event, Allowed}
use Rattle.layers.proofs.Admitted.{AlwaysAdmits, always_admits, by_count}
use Rattle.frames.specs.correctness.Regularity.{IsRegular, NotStray}
use Rattle.frames.proofs.KnownAndSeen.{stray_alike}
use Rattle.frames.proofs.OneWriterPromises.{always_seen}
use Rattle.frames.proofs.Pointwise.{put, put_same, put_other, put_twice, put_back}
use Rattle.layers.specs.Nested.{Program, Ends, Asks, Table, layered}
use Rattle.layers.specs.Sound.{IsNotSpent, IsSoundTable, FitsBelow}
use Rattle.layers.specs.laws.Over.{over}
use Rattle.layers.proofs.Law.{TaskInProgress, View, Watch, Admission, RunsUnder, IsKeptUnder, IsUser}
use Rattle.layers.proofs.LayerLaw.{layer_law_under, layer_next_under}
use Rattle.layers.proofs.TaskRuns.{task_in_progress}
use Rattle.layers.specs.declared.nested.Nested.{Nested}
use Rattle.frames.specs.declared.running.Running.{Running}
use Rattle.frames.specs.declared.types.Step.TheVariants as step
use Rattle.matrix.specs.Rows.{is_row, writes_row, RefusesNoRow}
use Rattle.matrix.specs.declared.task.MatrixTask.{MatrixTask}
use Rattle.matrix.specs.declared.task.MatrixTask.TheVariants.{Column, Row}
use Rattle.matrix.specs.Program.{matrix_code_count, code_of, tag_of, greatest_after, row_outcome, row_from, after_column, column_from, matrix_program, matrix_rest, matrix_asks, matrix_suits, matrix_table, ValueFits, TaskFits, MatrixMayBeAt}
use Rattle.matrix.proofs.Codes.{writer_of_own_code, value_of_own_code, code_above}
use Rattle.matrix.proofs.CodedHistory.{Coded, returned, invoked, after_refusal, took_code, EventChanges, TakesNewCode, MayTakeCode, StepChanges, uncoded}
use Rattle.matrix.proofs.Phases.{Phase, Rests, WillRead, IsReading, WillWrite, IsWriting, row_count, PartShows, HasNoCode, KnowsColumn, WritesRow, HoldsInPhase, Invariant}
use Rattle.matrix.proofs.PhaseSteps.{column_asked, column_given, row_asked, row_given, part_itself_unwritten}
use Rattle.matrix.proofs.OperationSteps.{row_done, invocation_keeps, floor_at_most, read_reaches_row, refusal_keeps, write_reaches_row, code_new}
use Rattle.frames.specs.correctness.Ranks.{IsAtomicForMany}
use Rattle.matrix.proofs.RanksFromCodes.{ranked_from_first}

-- the phase of a process in this task
abbrev pub phase_of_task : MatrixTask → Phase
phase_of_task (Column who o j g) = IsReading o j g
phase_of_task (Row who o j x) = IsWriting o j x

-- the phase of a process in this task, or in none
abbrev pub phase_of : Option (TaskInProgress MatrixTask) → Phase
phase_of None = Rests
phase_of (Some s) = phase_of_task s.task

-- the phase of each process in a view
abbrev pub phases : View MatrixTask → ℕ → Phase
phases j q = phase_of (j.tasks q)

-- the phases after p's task is replaced are those before, with p's replaced
phase_put : (p : ℕ) (s : Option (TaskInProgress MatrixTask)) (tasks : ℕ → Option (TaskInProgress MatrixTask)) (q : ℕ) → put p (phase_of s) (λ r. phase_of (tasks r)) q ≡ phase_of (put p s tasks q)
phase_put p s tasks q = elim (q == p) as (λ b. (if b then phase_of s else phase_of (tasks q)) ≡ phase_of (if b then s else tasks q)) [ true ↦ refl | false ↦ refl ]

-- whether a process in this phase writes its row
abbrev pub phase_writes_row : Phase → Bool
phase_writes_row (WillWrite o j x) = true
phase_writes_row (IsWriting o j x) = true
phase_writes_row Rests = false
phase_writes_row (WillRead o j g) = false
phase_writes_row (IsReading o j g) = false

-- what is known of a matrix's history, with whether each process writes its row
pub record KnownWithRows : Type 0 where
  pub known : Coded
  pub writes_row : ℕ → Bool

-- if the event refuses an operation, it is one of process p
abbrev pub RefusesOf : ℕ → Option Event → Type 0
RefusesOf p e = (q : ℕ) (layer : Layer) → e ≡ Some (Refused q layer) → q ≡ p

-- the event refuses no operation
abbrev pub RefusesNone : Option Event → Type 0
RefusesNone e = (q : ℕ) (layer : Layer) → e ≡ Some (Refused q layer) → ⊥

-- how a step changes what is known; an operation that it refuses isn't of a process that writes its
-- row
pub record StepChangesWithRows (V : ℕ) (u : KnownWithRows) (e : StepEvents) (z : KnownWithRows) : Type 0 where
  pub steps : StepChanges V u.known e z.known
  pub first : (p : ℕ) (layer : Layer) → e.first ≡ Some (Refused p layer) → u.writes_row p ≡ false
  pub second : (p : ℕ) (layer : Layer) → e.second ≡ Some (Refused p layer) → u.writes_row p ≡ false

-- without an event nothing is refused
refuses_of-no_event : (p : ℕ) → RefusesOf p None
refuses_of-no_event p q layer e = absurd (let n : ⊥ = cc in n)

-- the process whose operation the event refuses, or else 0
abbrev refuser : Option Event → ℕ
refuser (Some (Refused p layer)) = p
refuser _ = 0

refuses_of-own : (p : ℕ) (layer : Layer) → RefusesOf p (Some (Refused p layer))
refuses_of-own p layer q other e = sym (ap refuser e)

refuses_of-none : (p : ℕ) (e : Option Event) → RefusesNone e → RefusesOf p e
refuses_of-none p e none q layer x = absurd (none q layer x)

module _ (L : ℕ → Bool) (n V last : ℕ) (some : 2 ≤ n) (values : 0 < V) where
  abbrev table : Table MatrixTask
  table = matrix_table n V last

  -- the invariant, with the limit on writes of a part and whether each process writes its row
  abbrev MatrixInv : KnownWithRows → View MatrixTask → Type 0
  MatrixInv u j = (u.known.limit ≡ L) × (Invariant n V u.known (phases j) j.parts × ((p : ℕ) → u.writes_row p ≡ phase_writes_row (phases j p)))

  abbrev watch : Watch MatrixTask KnownWithRows
  watch = record { Good = IsNotStray; Inv = MatrixInv }

  abbrev rule : Admission
  rule = by_count L

  -- p is within its step: the invariant holds with p in phase x
  abbrev IsMidStep : ℕ → Phase → Coded → View MatrixTask → Type 0
  IsMidStep p x c j = Invariant n V c (put p x (phases j)) j.parts

  -- which processes write their rows once p's step has ended with task s, or with none
  abbrev writing_rows : ℕ → Option (TaskInProgress MatrixTask) → View MatrixTask → ℕ → Bool
  writing_rows p s j q = phase_writes_row (phase_of (put p s j.tasks q))

  -- what is known once p's step has ended with task s, or with none, if c is known of the codes
  abbrev known_with_rows : ℕ → Option (TaskInProgress MatrixTask) → Coded → View MatrixTask → KnownWithRows
  known_with_rows p s c j = record { known = c; writes_row = writing_rows p s j }

  -- `Out` holds of each event that refuses nothing, with what is known after it
  abbrev AfterRow : ℕ → Coded → (Option Event → KnownWithRows → Type 0) → Type 0
  AfterRow p c Out = (e : Option Event) (z : Coded) (f : ℕ → Bool) → RefusesNone e → EventChanges V e c z → Out e (record { known = z; writes_row = f })

  -- `Out` holds of each event that refuses nothing or p's operation, also after a write takes a
  -- code
  abbrev AfterColumn : ℕ → Coded → (Option Event → KnownWithRows → Type 0) → Type 0
  AfterColumn p c Out =
      (e : Option Event) (d z : Coded) (f : ℕ → Bool) → RefusesOf p e → MayTakeCode V c d → EventChanges V e d z → Out e (record { known = z; writes_row = f })

  -- p's step ends with task s, or with none, and the invariant holds
  inv_after_step : (p : ℕ) (s : Option (TaskInProgress MatrixTask)) (c : Coded) (j : View MatrixTask) → c.limit ≡ L → IsMidStep p (phase_of s) c j → MatrixInv (known_with_rows p s c j) (record j { tasks = put p s j.tasks })
  inv_after_step p s c j l h = (l, (subst (λ f. Invariant n V c f j.parts) (λ d q. phase_put p s j.tasks q d) h, λ q. refl))

  -- p goes from phase x to phase y within its step
  mid_step_from_put : (p : ℕ) (x y : Phase) (c : Coded) (j : View MatrixTask) (parts : ℕ → Seen) → Invariant n V c (put p y (put p x (phases j))) parts → IsMidStep p y c (record j { parts = parts })
  mid_step_from_put p x y c j parts h = subst (λ f. Invariant n V c f parts) (put_twice p x y (phases j)) h

  -- the rest of an operation that writes x to the last `left` parts of p's row keeps the invariant
  runs_row : (left i x p : ℕ) (o op : Op) (Out : Option Event → KnownWithRows → Type 0) (c : Coded) (j : View MatrixTask) → c.limit ≡ L → left + i ≡ n → p < n → IsMidStep p (WillWrite o i x) c j
      → AfterRow p c Out → RunsUnder rule table watch p op Out (row_from n V p o left i x) j
  runs_row zero i x p o op Out c j lim here lp h out =
      let at : ℕ → Phase = put p (WillWrite o i x) (phases j) in
      let whole : i ≡ n = omega (arith, here) in
      let is : at p ≡ WillWrite o n x = put_same p (WillWrite o i x) (phases j) ∙ ap (λ k. WillWrite o k x) whole in
      let wk : WritesRow c p o x = subst (HoldsInPhase n c p j.parts) (put_same p (WillWrite o i x) (phases j)) (h.works p lp) in
      (known_with_rows p None (returned p x c) j, (ends o wk out, inv_after_step p None (returned p x c) j lim (mid_step_from_put p (WillWrite o i x) Rests (returned p x c) j j.parts (row_done n V p c o x at j.parts lp is h))))
    where
      ends : (o : Op) → WritesRow c p o x → AfterRow p c Out → Out (Some (end_event p (row_outcome V o x))) (known_with_rows p None (returned p x c) j)
      ends (Write v) wk out = out (Some (Wrote p)) (returned p x c) (writing_rows p None j) (λ q layer e. cc) (x, (wk.took.0, (wk.took.1, refl)))
      ends Read wk out = out (Some (Got p (x % V))) (returned p x c) (writing_rows p None j) (λ q layer e. cc) (x, (wk.known, (refl, (wk.floor, (wk.took, refl)))))
  runs_row (suc left) i x p o op Out c j lim here lp h out =
      let k : ℕ = p * n + i in
      let s : Seen = sees (Some (Invoke 0 (Write x))) (j.parts k) in
      let li : i < n = omega (arith, here) in
      let at : ℕ → Phase = put p (WillWrite o i x) (phases j) in
      let is : at p ≡ WillWrite o i x = put_same p (WillWrite o i x) (phases j) in
      let asked : IsMidStep p (IsWriting o i x) c (record j { parts = put k s j.parts }) = mid_step_from_put p (WillWrite o i x) (IsWriting o i x) c j (put k s j.parts) (row_asked n V p c o i x at j.parts lp li is h) in
      let n1 : Option (TaskInProgress MatrixTask) = Some (record { op = op; task = Row p o i x }) in (
        λ takes. (known_with_rows p n1 c j, (out None c (writing_rows p n1 j) (λ q layer e. cc) refl, inv_after_step p n1 c (record j { parts = put k s j.parts }) lim asked)),
        (
          λ outcome takes ans pass good. elim outcome as (λ z. Answers (matrix_code_count n V last) (Write x) z → IsNotSpent z → RunsUnder rule table watch p op Out (row_from n V p o left (i + 1) x) (record j { parts = put k (sees (Some (end_event 0 z)) s) j.parts })) [
            | Value v ↦ λ ans pass. absurd ans
            | Spent l ↦ λ ans pass. absurd pass
            | Written ↦ λ ans pass. runs_row left (i + 1) x p o op Out c (record j { parts = put k (sees (Some (Wrote 0)) s) j.parts }) lim (omega (arith, here)) lp (after s asked li) out
          ] ans pass,
          λ layer refuses. absurd (full at is h li refuses),
        ),
      )
    where
      -- each part of the row takes the write, since the row's first part took it
      full : (at : ℕ → Phase) → at p ≡ WillWrite o i x → Invariant n V c at j.parts → i < n → L (length ((j.parts (p * n + i)).overlaps 0)) ≡ false → ⊥
      full at is h li e =
          let wk : WritesRow c p o x = subst (HoldsInPhase n c p j.parts) is (h.works p lp) in
          let r : c.limit (c.rows p) ≡ true = wk.room in
          let u : length ((j.parts (p * n + i)).overlaps 0) ≡ c.rows p = (h.row p i lp li).1.1 ∙ ap (λ z. row_count (c.rows p) z i) is ∙ part_itself_unwritten (c.rows p) i (c.rows p + 1) in
          let f : true ≡ false = sym r ∙ (λ d. lim d (c.rows p)) ∙ ap L (sym u) ∙ e in cc

      after : (s : Seen) → IsMidStep p (IsWriting o i x) c (record j { parts = put (p * n + i) s j.parts }) → i < n → IsMidStep p (WillWrite o (i + 1) x) c (record j { parts = put (p * n + i) (sees (Some (Wrote 0)) s) j.parts })
      after s asked li =
          let k : ℕ = p * n + i in
          let parts : ℕ → Seen = put k s j.parts in
          let g = mid_step_from_put p (IsWriting o i x) (WillWrite o (i + 1) x) c j (put k (sees (Some (Wrote 0)) (parts k)) parts)
          (row_given n V p c o i x (put p (IsWriting o i x) (phases j)) parts lp li (put_same p (IsWriting o i x) (phases j)) asked) in
          let same : put k (sees (Some (Wrote 0)) (parts k)) parts ≡ put k (sees (Some (Wrote 0)) s) j.parts = ap (λ y. put k (sees (Some (Wrote 0)) y) parts) (put_same k s j.parts) ∙ put_twice k s (sees (Some (Wrote 0)) s) j.parts in
          subst (λ y. Invariant n V c (put p (WillWrite o (i + 1) x) (phases j)) y) same g

  -- the first part of the row takes the write, or refuses it and with it the operation
  runs_first_part : (left g x p : ℕ) (o op : Op) (Out : Option Event → KnownWithRows → Type 0) (c d : Coded) (j : View MatrixTask) → left ≡ n → p < n → c.limit ≡ L → d.limit ≡ L → IsMidStep p (WillRead o n g) c j
      → (c.limit (c.rows p) ≡ true → IsMidStep p (WillWrite o 0 x) d j) → AfterRow p d Out → ((layer : Layer) (f : ℕ → Bool) → Out (Some (Refused p layer)) (record { known = after_refusal p c; writes_row = f }))
      → RunsUnder rule table watch p op Out (row_from n V p o left 0 x) j
  runs_first_part zero g x p o op Out c d j whole lp lc ld h chosen out refuse = absurd (omega (arith, whole, some))
  runs_first_part (suc left) g x p o op Out c d j whole lp lc ld h chosen out refuse =
      let n1 : Option (TaskInProgress MatrixTask) = Some (record { op = op; task = Row p o 0 x }) in (
        λ takes. (known_with_rows p n1 d j, (out None d (writing_rows p n1 j) (λ q layer e. cc) refl, inv_after_step p n1 d (record j { parts = put (p * n + 0) s j.parts }) ld (asked (chosen (room takes))))),
        (
          λ outcome takes ans pass good. elim outcome as (λ z. Answers (matrix_code_count n V last) (Write x) z → IsNotSpent z → RunsUnder rule table watch p op Out (row_from n V p o left (0 + 1) x) (record j { parts = put (p * n + 0) (sees (Some (end_event 0 z)) s) j.parts })) [
            | Value v ↦ λ ans pass. absurd ans
            | Spent l ↦ λ ans pass. absurd pass
            | Written ↦ λ ans pass. runs_row left (0 + 1) x p o op Out d (record j { parts = put (p * n + 0) (sees (Some (Wrote 0)) s) j.parts }) ld (omega (arith, whole)) lp (after (chosen (room takes))) out
          ] ans pass,
          λ layer refuses. (known_with_rows p None (after_refusal p c) j, (refuse layer (writing_rows p None j), inv_after_step p None (after_refusal p c) j lc (mid_step_from_put p (WillRead o n g) Rests (after_refusal p c) j j.parts (refusal_keeps n V p c o n g (put p (WillRead o n g) (phases j)) j.parts lp (put_same p (WillRead o n g) (phases j)) h)))),
        ),
      )
    where
      s : Seen
      s = sees (Some (Invoke 0 (Write x))) (j.parts (p * n + 0))

      none : 0 < n
      none = omega (arith, some)

      room : L (length ((j.parts (p * n + 0)).overlaps 0)) ≡ true → c.limit (c.rows p) ≡ true
      room lt =
          let u : length ((j.parts (p * n + 0)).overlaps 0) ≡ c.rows p = (h.row p 0 lp none).1.1 ∙ ap (λ z. row_count (c.rows p) z 0) (put_same p (WillRead o n g) (phases j)) in
          (λ d. lc d (c.rows p)) ∙ ap L (sym u) ∙ lt

      asked : IsMidStep p (WillWrite o 0 x) d j → IsMidStep p (IsWriting o 0 x) d (record j { parts = put (p * n + 0) s j.parts })
      asked m = mid_step_from_put p (WillWrite o 0 x) (IsWriting o 0 x) d j (put (p * n + 0) s j.parts) (row_asked n V p d o 0 x (put p (WillWrite o 0 x) (phases j)) j.parts lp none (put_same p (WillWrite o 0 x) (phases j)) m)

      after : IsMidStep p (WillWrite o 0 x) d j → IsMidStep p (WillWrite o (0 + 1) x) d (record j { parts = put (p * n + 0) (sees (Some (Wrote 0)) s) j.parts })
      after m =
          let k : ℕ = p * n + 0 in
          let parts : ℕ → Seen = put k s j.parts in
          let g1 = mid_step_from_put p (IsWriting o 0 x) (WillWrite o (0 + 1) x) d j (put k (sees (Some (Wrote 0)) (parts k)) parts)
          (row_given n V p d o 0 x (put p (IsWriting o 0 x) (phases j)) parts lp none (put_same p (IsWriting o 0 x) (phases j)) (asked m)) in
          let same : put k (sees (Some (Wrote 0)) (parts k)) parts ≡ put k (sees (Some (Wrote 0)) s) j.parts = ap (λ y. put k (sees (Some (Wrote 0)) y) parts) (put_same k s j.parts) ∙ put_twice k s (sees (Some (Wrote 0)) s) j.parts in
          subst (λ y. Invariant n V d (put p (WillWrite o (0 + 1) x) (phases j)) y) same g1

  -- the rest of an operation that has read its whole column keeps the invariant
  runs_after_column : (i g p : ℕ) (o op : Op) (Out : Option Event → KnownWithRows → Type 0) (c : Coded) (j : View MatrixTask) → c.limit ≡ L → i ≡ n → p < n → ValueFits V o → IsMidStep p (WillRead o i g) c j
      → AfterColumn p c Out → RunsUnder rule table watch p op Out (after_column n V last p o g) j
  runs_after_column i g p Read op Out c j lim whole lp fits h out =
      let full : IsMidStep p (WillRead Read n g) c j = subst (λ k. IsMidStep p (WillRead Read k g) c j) whole h in
      let at : ℕ → Phase = put p (WillRead Read n g) (phases j) in
      let is : at p ≡ WillRead Read n g = put_same p (WillRead Read n g) (phases j) in
      let wk : KnowsColumn n c p Read n g = subst (HoldsInPhase n c p j.parts) is (full.works p lp) in
      runs_first_part n g g p Read op Out c c j refl lp lim lim full
      (λ room. mid_step_from_put p (WillRead Read n g) (WillWrite Read 0 g) c j j.parts (read_reaches_row n V p c g at j.parts lp is room full))
      (λ e z f none k. out e c z f (refuses_of-none p e none) (inl refl) k)
      (λ layer f. out (Some (Refused p layer)) c (after_refusal p c) f (refuses_of-own p layer) (inl refl) (inl wk.free, refl))
  runs_after_column i g p (Write v) op Out c j lim whole lp fits h0 out = by_test (tag_of n V g == last)
    where
      h : IsMidStep p (WillRead (Write v) n g) c j
      h = subst (λ k. IsMidStep p (WillRead (Write v) k g) c j) whole h0

      at : ℕ → Phase
      at = put p (WillRead (Write v) n g) (phases j)

      is : at p ≡ WillRead (Write v) n g
      is = put_same p (WillRead (Write v) n g) (phases j)

      wk : KnowsColumn n c p (Write v) n g
      wk = subst (HoldsInPhase n c p j.parts) is (h.works p lp)

      x : ℕ
      x = code_of n V (tag_of n V g + 1) p v

      above : g < x
      above = code_above n V p v g (pos n V some values)
        where
          pos : (n V : ℕ) → 2 ≤ n → 0 < V → 0 < n * V
          pos n V a b = let m = mul-add-lt 0 V 0 n (omega (arith, a)) b in omega (arith, m)

      names : (x / V) % n ≡ p
      names = writer_of_own_code n V (tag_of n V g + 1) p v lp fits

      refusal : (layer : Layer) (f : ℕ → Bool) → Out (Some (Refused p layer)) (record { known = after_refusal p c; writes_row = f })
      refusal layer f = out (Some (Refused p layer)) c (after_refusal p c) f (refuses_of-own p layer) (inl refl) (inr (wk.free.0, wk.free.2), refl)

      by_test : (end : Bool) → RunsUnder rule table watch p op Out (if end then Ends (Spent Matrix) else row_from n V p (Write v) n 0 x) j
      by_test true = (
        known_with_rows p None (after_refusal p c) j,
        (
          refusal Matrix (writing_rows p None j),
          inv_after_step p None (after_refusal p c) j lim (mid_step_from_put p (WillRead (Write v) n g) Rests (after_refusal p c) j j.parts (refusal_keeps n V p c (Write v) n g at j.parts lp is h)),
        ),
      )
      by_test false =
          let d : Coded = took_code p x c in
          let low : c.floor p ≤ g = floor_at_most n p g c (Write v) wk in
          let new : TakesNewCode V c d = record {
            process = p;
            code_taken = x;
            after = refl;
            had_no_code = wk.free.0;
            writes = wk.free.2;
            above = omega (arith, low, above);
            new = code_new n V p c v g x at j.parts lp is above names h;
            value = value_of_own_code n V (tag_of n V g + 1) p v fits ∙ sym wk.free.1;
          } in
          runs_first_part n g x p (Write v) op Out c d j refl lp lim lim h
          (λ room. mid_step_from_put p (WillRead (Write v) n g) (WillWrite (Write v) 0 x) d j j.parts (write_reaches_row n V p c v g x at j.parts lp is above names room h))
          (λ e z f none k. out e d z f (refuses_of-none p e none) (inr new) k)
          refusal

  -- the rest of an operation that reads the last `left` parts of its column keeps the invariant
  runs_column : (left i g p : ℕ) (o op : Op) (Out : Option Event → KnownWithRows → Type 0) (c : Coded) (j : View MatrixTask) → c.limit ≡ L → left + i ≡ n → p < n → ValueFits V o → IsMidStep p (WillRead o i g) c j
      → AfterColumn p c Out → RunsUnder rule table watch p op Out (column_from n V last p o left i g) j
  runs_column zero i g p o op Out c j lim here lp fits h out = runs_after_column i g p o op Out c j lim (omega (arith, here)) lp fits h out
  runs_column (suc left) i g p o op Out c j lim here lp fits h out =
      let k : ℕ = i * n + p in
      let s : Seen = sees (Some (Invoke 1 Read)) (j.parts k) in
      let li : i < n = omega (arith, here) in
      let at : ℕ → Phase = put p (WillRead o i g) (phases j) in
      let is : at p ≡ WillRead o i g = put_same p (WillRead o i g) (phases j) in
      let asked : IsMidStep p (IsReading o i g) c (record j { parts = put k s j.parts }) = mid_step_from_put p (WillRead o i g) (IsReading o i g) c j (put k s j.parts) (column_asked n V p c o i g at j.parts lp li is h) in
      let n1 : Option (TaskInProgress MatrixTask) = Some (record { op = op; task = Column p o i g }) in (
        λ takes. (known_with_rows p n1 c j, (out None c c (writing_rows p n1 j) (refuses_of-no_event p) (inl refl) refl, inv_after_step p n1 c (record j { parts = put k s j.parts }) lim asked)),
        (
          λ outcome takes ans pass good. elim outcome as (λ z. Answers (matrix_code_count n V last) Read z → IsNotSpent z → AllByRecursion IsNotStray (got (Some (end_event 1 z)) s)
              → RunsUnder rule table watch p op Out (column_from n V last p o left (i + 1) (greatest_after g z)) (record j { parts = put k (sees (Some (end_event 1 z)) s) j.parts })) [
                | Written ↦ λ ans pass good. absurd ans
                | Spent l ↦ λ ans pass good. absurd pass
                | Value x ↦ λ ans pass good. runs_column left (i + 1) (max g x) p o op Out c (record j { parts = put k s j.parts }) lim (omega (arith, here)) lp fits (after s x asked good.0) out
              ] ans pass good,
          λ layer refuses. absurd refuses,
        ),
      )
    where
      after : (s : Seen) (x : ℕ) → IsMidStep p (IsReading o i g) c (record j { parts = put (i * n + p) s j.parts }) → IsNotStray (record { reader = 1; value = x; fresh = s.fresh 1; overlaps = s.overlaps 1 })
          → IsMidStep p (WillRead o (i + 1) (max g x)) c (record j { parts = put (i * n + p) s j.parts })
      after s x asked good =
          let k : ℕ = i * n + p in
          mid_step_from_put p (IsReading o i g) (WillRead o (i + 1) (max g x)) c j (put k s j.parts)
          (column_given n V p c o i g x (put p (IsReading o i g) (phases j)) (put k s j.parts) lp (put_same p (IsReading o i g) (phases j)) asked
          (subst (λ (y : Seen). IsNotStray (record { reader = 1; value = x; fresh = y.fresh 1; overlaps = y.overlaps 1 })) (sym (put_same k s j.parts)) good))

  -- the process and the value of an operation that suits are in range
  suits_in_range : (p : ℕ) (o : Op) → matrix_suits n V p o ≡ true → (p < n) × ValueFits V o
  suits_in_range p (Write v) h = grind (arith, nat_tests)
  suits_in_range p Read h = grind (arith, nat_tests)

  -- an operation from its invocation on keeps the invariant
  begins : (u : KnownWithRows) (j : View MatrixTask) (p : ℕ) (op : Op) → MatrixInv u j → j.tasks p ≡ None → matrix_suits n V p op ≡ true
      → RunsUnder rule table watch p op (λ e. StepChangesWithRows V u (in_order (Some (Invoke p op)) e)) (matrix_program n V last p op) j
  begins u j p op h free suits =
      let c : Coded = u.known in
      let lp = suits_in_range p op suits in
      runs_column n 0 0 p op op (λ e. StepChangesWithRows V u (in_order (Some (Invoke p op)) e)) (invoked p op c) j h.0 (omega arith) lp.0 lp.1
      (invocation_keeps n V p c op (phases j) j.parts lp.0 (ap phase_of free) h.1.0)
      (λ e d z f of takes counts. record {
        steps = record { taken = c; takes = inl refl; mid = invoked p op c; first = refl; later = d; retakes = takes; second = counts };
        first = λ q layer x. absurd (let no : ⊥ = cc in no);
        second = λ q layer x. ap u.writes_row (of q layer x) ∙ h.1.1 p ∙ ap (λ s. phase_writes_row (phase_of s)) free;
      })

  -- how a bit action with these events changes what is known
  changes_of_go : (p : ℕ) (chosen : Option (ℕ × Bool)) (e : Option Event) (u : KnownWithRows) (d z : Coded) (f : ℕ → Bool) → ((q : ℕ) (layer : Layer) → e ≡ Some (Refused q layer) → u.writes_row q ≡ false)
      → MayTakeCode V u.known d → EventChanges V e d z → StepChangesWithRows V u (in_order (chosen_of p chosen) e) (record { known = z; writes_row = f })
  changes_of_go p None e u d z f quiet takes counts = record {
    steps = record { taken = d; takes = takes; mid = z; first = counts; later = z; retakes = inl refl; second = refl };
    first = quiet;
    second = λ q layer x. absurd (let no : ⊥ = cc in no);
  }
  changes_of_go p (Some x) e u d z f quiet takes counts = record {
    steps = record { taken = u.known; takes = inl refl; mid = u.known; first = refl; later = d; retakes = takes; second = counts };
    first = λ q layer y. absurd (let no : ⊥ = cc in no);
    second = quiet;
  }

  -- the rest of an operation, once its task has ended, keeps the invariant
  goes : (u : KnownWithRows) (j : View MatrixTask) (p : ℕ) (op : Op) (task : MatrixTask) (chosen : Option (ℕ × Bool)) (o : Outcome) → MatrixInv u j → phases j p ≡ phase_of_task task
      → MatrixMayBeAt n V last p op task → Answers (matrix_code_count n V last) (matrix_asks n task).op o → IsNotSpent o
      → AllByRecursion IsNotStray (got (Some (end_event (matrix_asks n task).who o)) (j.parts (matrix_asks n task).part))
      → RunsUnder rule table watch p op (λ e. StepChangesWithRows V u (in_order (chosen_of p chosen) e)) (matrix_rest n V last task o)
      (record j { parts = put (matrix_asks n task).part (sees (Some (end_event (matrix_asks n task).who o)) (j.parts (matrix_asks n task).part)) j.parts })
  goes u j p op (Column who q i g) chosen Written h is place ans pass good = absurd ans
  goes u j p op (Column who q i g) chosen (Spent l) h is place ans pass good = absurd pass
  goes u j p op (Column who q i g) chosen (Value x) h is place ans pass good =
      let c : Coded = u.known in
      let own : who ≡ p = place.own in
      let lp : p < n = omega (arith, own, place.process) in
      let k : ℕ = i * n + who in
      let parts : ℕ → Seen = put k (j.parts k) j.parts in
      let back : j.parts ≡ parts = put_back k j.parts in
      let good_p : IsNotStray (record { reader = 1; value = x; fresh = (j.parts (i * n + p)).fresh 1; overlaps = (j.parts (i * n + p)).overlaps 1 }) =
      subst (λ r. IsNotStray (record { reader = 1; value = x; fresh = (j.parts (i * n + r)).fresh 1; overlaps = (j.parts (i * n + r)).overlaps 1 })) own good.0 in
      let mid : IsMidStep p (WillRead q (i + 1) (max g x)) c (record j { parts = parts }) = subst (λ y. Invariant n V c (put p (WillRead q (i + 1) (max g x)) (phases j)) y) back (column_given n V p c q i g x (phases j) j.parts lp is h.1.0 good_p) in
      subst (λ r. RunsUnder rule table watch p op (λ e. StepChangesWithRows V u (in_order (chosen_of p chosen) e)) (column_from n V last r q (n - (i + 1)) (i + 1) (max g x)) (record j { parts = parts })) (sym own)
      (runs_column (n - (i + 1)) (i + 1) (max g x) p q op (λ e. StepChangesWithRows V u (in_order (chosen_of p chosen) e)) c (record j { parts = parts }) h.0 (omega (arith, place.part)) lp place.value_fits mid
      (λ e d z f of takes counts. changes_of_go p chosen e u d z f (λ q layer x. ap u.writes_row (of q layer x) ∙ h.1.1 p ∙ ap phase_writes_row is) takes counts))
  goes u j p op (Row who q i x) chosen (Value y) h is place ans pass good = absurd ans
  goes u j p op (Row who q i x) chosen (Spent l) h is place ans pass good = absurd pass
  goes u j p op (Row who q i x) chosen Written h is place ans pass good =
      let c : Coded = u.known in
      let own : who ≡ p = place.0.own in
      let lp : p < n = omega (arith, own, place.0.process) in
      let at : ℕ → ℕ → Seen = λ r. put (r * n + i) (sees (Some (Wrote 0)) (j.parts (r * n + i))) j.parts in
      subst (λ r. RunsUnder rule table watch p op (λ e. StepChangesWithRows V u (in_order (chosen_of p chosen) e)) (row_from n V r q (n - (i + 1)) (i + 1) x) (record j { parts = at r })) (sym own)
      (runs_row (n - (i + 1)) (i + 1) x p q op (λ e. StepChangesWithRows V u (in_order (chosen_of p chosen) e)) c (record j { parts = at p }) h.0 (omega (arith, place.0.part)) lp
      (row_given n V p c q i x (phases j) j.parts lp place.0.part is h.1.0)
      (λ e z f none counts. changes_of_go p chosen e u c z f (λ q layer x. absurd (none q layer x)) (inl refl) counts))

  -- what is known at first, if the initial value is v
  abbrev known_at_first : ℕ → KnownWithRows
  known_at_first v = record { known = uncoded L v; writes_row = λ p. false }

  -- the invariant holds at first
  holds_at_first : (v : ℕ) (j : View MatrixTask) → ((p : ℕ) → j.tasks p ≡ None) → ((k : ℕ) → k < n * n → j.parts k ≡ opening v) → MatrixInv (known_at_first v) j
  holds_at_first v j idle parts = (
    refl,
    (
      record {
        row = λ a b la lb. subst (λ s. PartShows v 0 (phase_of s) b (j.parts (a * n + b))) (sym (idle a)) (subst (PartShows v 0 Rests b) (sym (parts (a * n + b) (mul-add-lt a n b n la lb))) (refl, (refl, refl)));
        top = (0, (omega (arith, some), omega arith));
        known = λ a la. inl refl;
        taken = λ q k x e. absurd (let f : None ≡ Some x = e in cc);
        below = λ q a la. omega arith;
        later = λ q k l. refl;
        works = λ p lp. subst (λ s. HoldsInPhase n (uncoded L v) p j.parts (phase_of s)) (sym (idle p)) tt;
      },
      λ p. sym (ap (λ s. phase_writes_row (phase_of s)) (idle p)),
    ),
  )

  -- a step whose only event refuses no operation, and changes nothing that is known
  unchanging_step : (u : KnownWithRows) (e : Event) → ((c : Coded) → EventChanges V (Some e) c c) → ((q : ℕ) (layer : Layer) → e ≡ Refused q layer → ⊥) → StepChangesWithRows V u (in_order (Some e) None) u
  unchanging_step u e same none = record {
    steps = record { taken = u.known; takes = inl refl; mid = u.known; first = same u.known; later = u.known; retakes = inl refl; second = refl };
    first = λ q layer x. absurd (none q layer (some_event e (Refused q layer) x));
    second = λ q layer x. absurd (let no : ⊥ = cc in no);
  }
    where
      some_event : (a b : Event) → Some a ≡ Some b → a ≡ b
      some_event a b x = ap (λ o. unwrap_or o a) x

  -- the invariant holds at first, and each step keeps it and changes what is known as
  -- `StepChangesWithRows` says
  pub matrix_kept : IsKeptUnder rule table (MatrixMayBeAt n V last) watch known_at_first (StepChangesWithRows V)
  matrix_kept = record {
    initial = λ v l j ew et ep. holds_at_first v j et ep;
    passes = record {
      void = λ u p reason. unchanging_step u (Void p reason) (λ c. refl) (λ q layer e. cc);
      stop = λ u p. unchanging_step u (Stop p) (λ c. refl) (λ q layer e. cc);
      still = λ u j p chosen h. (u, (changes_of_go p chosen None u u.known u.known u.writes_row (λ q layer x. absurd (let no : ⊥ = cc in no)) (inl refl) refl, h));
    };
    begins = begins;
    goes = λ u j p s chosen o h mine place ans pass good. goes u j p s.op s.task chosen o h (ap phase_of mine) place ans pass good;
  }

  -- the process for which process q of part k acts: the writer of row k / n, or the reader of
  -- column k % n
  abbrev pub matrix_user_of : ℕ → ℕ → ℕ
  matrix_user_of k q = if q == 0 then k / n else k % n

  -- the process of a part that asks for a task acts for the process in the task
  pub matrix_user : IsUser table (MatrixMayBeAt n V last) matrix_user_of
  matrix_user p op (Column who o j g) s = mod-mul-add j n who s.process ∙ s.own
  matrix_user p op (Row who o j x) s = div-mul-add who n j s.0.part ∙ s.0.own

-- steps that change what is known with rows as `StepChangesWithRows` says change what is known as
-- `StepChanges` says
changes_without_rows : (V : ℕ) (u : KnownWithRows) (es : List StepEvents) → Allowed (StepChangesWithRows V) u es → Allowed (StepChanges V) u.known es
changes_without_rows V u [] h = tt
changes_without_rows V u (e ∷ es) h = (h.0.known, (h.1.0.steps, changes_without_rows V h.0 es h.1.1))

-- a matrix is atomic for many processes over a register of which no read is stray or refused, and
-- which refuses a write only in the step that invokes it, and exactly if L is false of the number
-- of writes taken before
pub matrix_over_counted : {P : Type 0} (b : Behaviour P) (Keeps : Memory → Type 0) (Reaches : ℕ → Op → P → Type 0) (L : ℕ → Bool) (n V last : ℕ) (left : MatrixTask → ℕ) → IsLawful b Keeps Reaches
    → IsSoundTable (matrix_table n V last) (MatrixMayBeAt n V last) left → FitsBelow (matrix_table n V last) b → AlwaysAdmits IsNotStray (by_count L) b → IsAtomicForMany (layered (matrix_table n V last) b)
matrix_over_counted b Keeps Reaches L n V last left lawful sound fit admits v steps lt all =
    let some : 2 ≤ n = fit.some_processes in
    let values : 0 < V = omega (arith, lt) in
    let events : List StepEvents = history (layered (matrix_table n V last) b) (first_configuration (layered (matrix_table n V last) b) v) steps in (
      v,
      ranked_from_first L V v events lt (mod-eq_of_lt lt)
          (changes_without_rows V (known_at_first L n V last some values v) events
          (layer_law_under (over lawful sound fit) (matrix_user_of L n V last some values) (matrix_user L n V last some values) (watch L n V last some values) (by_count L) (known_at_first L n V last some values) (StepChangesWithRows V)
          admits (matrix_kept L n V last some values) v steps lt all)),
    )

-- whether a process writes its row, by what it has pending
phase_writes_row_by_pending : {P : Type 0} (x : Option (Running (Nested MatrixTask P))) → phase_writes_row (phase_of (task_in_progress x)) ≡ writes_row x
phase_writes_row_by_pending None = refl
phase_writes_row_by_pending (Some r) = by_task r.point.task
  where
    by_task : (task : MatrixTask) → phase_writes_row (phase_of_task task) ≡ is_row task
    by_task (Column who o j g) = refl
    by_task (Row who o j x) = refl

-- over a register as in `matrix_over_counted`, no operation is refused while it writes its row
pub rows_are_whole : {P : Type 0} (b : Behaviour P) (Keeps : Memory → Type 0) (Reaches : ℕ → Op → P → Type 0) (L : ℕ → Bool) (n V last : ℕ) (left : MatrixTask → ℕ) → IsLawful b Keeps Reaches
    → IsSoundTable (matrix_table n V last) (MatrixMayBeAt n V last) left → FitsBelow (matrix_table n V last) b → AlwaysAdmits IsNotStray (by_count L) b → RefusesNoRow (layered (matrix_table n V last) b)
rows_are_whole b Keeps Reaches L n V last left lawful sound fit admits v steps p choice layer lt all fits row refused =
    let some : 2 ≤ n = fit.some_processes in
    let values : 0 < V = omega (arith, lt) in
    let x = layer_next_under (over lawful sound fit) (matrix_user_of L n V last some values) (matrix_user L n V last some values) (watch L n V last some values) (by_count L) (known_at_first L n V last some values) (StepChangesWithRows V)
    admits (matrix_kept L n V last some values) v steps (step.Go p choice) lt all fits in
    let writes : x.u.writes_row p ≡ true = x.inv.1.1 p ∙ ap (λ s. phase_writes_row (phase_of s)) (x.tasks p) ∙ phase_writes_row_by_pending _ ∙ row in
    let not : x.u.writes_row p ≡ false = elim refused [ inl e ↦ x.up.first p layer e | inr e ↦ x.up.second p layer e ] in
    let no : true ≡ false = sym writes ∙ not in cc

-- a matrix over a regular register, which refuses nothing, is atomic for many processes
pub matrix_over_regular : {P : Type 0} (b : Behaviour P) (Keeps : Memory → Type 0) (Reaches : ℕ → Op → P → Type 0) (n V last : ℕ) (left : MatrixTask → ℕ) → IsLawful b Keeps Reaches
    → IsSoundTable (matrix_table n V last) (MatrixMayBeAt n V last) left → FitsBelow (matrix_table n V last) b → IsRegular b → IsAtomicForMany (layered (matrix_table n V last) b)
matrix_over_regular b Keeps Reaches n V last left lawful sound fit regular =
    matrix_over_counted b Keeps Reaches (λ k. true) n V last left lawful sound fit
    (always_admits IsNotStray (by_count (λ k. true)) b takes (always_seen NotStray IsNotStray stray_alike b regular.one_writer Keeps Reaches lawful regular))
  where
    takes : (o : Op) (s : Seen) → (by_count (λ k. true)).Takes o s
    takes (Write x) s = refl
    takes Read s = tt
