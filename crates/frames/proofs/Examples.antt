-- Definitions that claim that something exists: an example of each, and a near miss.
use Rattle.std.specs.Prelude.{⊤}
use Rattle.safe_bit.specs.Memory.{Memory, no_cell}
use Rattle.std.proofs.Common.{ℕ, zero, suc, ◌≡◌, ◌≤◌, ◌<◌, true, true≢false, List, [], ◌∷◌, Option, Some, None, is_some, unwrap_or, slice_index_or, get_or, ap, refl, sym, subst, ◌∙◌, inl, inr, max, arith}
use Rattle.frames.specs.declared.types.Event.{Event}
use Rattle.frames.specs.declared.types.Event.TheVariants.{Invoke, Got, Wrote, Refused}
use Rattle.frames.specs.declared.types.Layer.TheVariants.{Matrix}
use Rattle.schedule_steps.specs.declared.types.Op.{Op}
use Rattle.schedule_steps.specs.declared.types.Op.TheVariants.{Write, Read}
use Rattle.frames.specs.declared.types.Frame.{Frame}
use Rattle.frames.specs.declared.types.Outcome.{Outcome}
use Rattle.frames.specs.declared.types.Outcome.TheVariants.{Value, Written}
use Rattle.frames.specs.declared.types.Next.{Next}
use Rattle.frames.specs.declared.types.Next.TheVariants.{Pending, Done}
use Rattle.frames.specs.declared.running.Running.{Running}
use Rattle.schedule_steps.specs.declared.types.Step.TheVariants as step
use Rattle.frames.specs.declared.safe.SafePoint.{SafePoint}
use Rattle.frames.specs.declared.safe.SafePoint.TheVariants as at
use Rattle.frames.specs.declared.types.ActionKind.TheVariants.{ReadStart}
use Rattle.frames.specs.Behaviour.{Behaviour, Answers}
use Rattle.frames.specs.Flat.{HasFramesFrom, HasReached, IsPointByFrames, IsReached, stack_of, outermost}
use Rattle.frames.specs.SafeBit.{safe_behaviour, SafeReaches}
use Rattle.frames.specs.Configuration.{Configuration, initial_configuration, running_at}
use Rattle.frames.specs.correctness.Verdicts.{initially}
use Rattle.frames.specs.correctness.Regularity.{Numbered}
use Rattle.frames.specs.correctness.Ranks.{Ranking, at_first, HasRank, after_rank, Ranked, HasRanks}
use Rattle.frames.specs.correctness.ReportedActions.{MakesItsAction}
use Rattle.frames.proofs.Pointwise.{put, put_same, put_other}
use Rattle.std.proofs.lemmas.Bool.{cases_eq}
use Rattle.std.proofs.lemmas.Option.{none-some}
use Rattle.frames.specs.Voids.{IsVoid}

abbrev start : Configuration ⊤ SafePoint
start = initial_configuration safe_behaviour tt 0

-- a read within a write of 1 gives 1: its number is 1
Numbered-holds : Numbered 0 0 (initially 0) ((0, Invoke 0 (Write 1)) ∷ (1, Invoke 1 Read) ∷ (2, Got 1 1) ∷ [])
Numbered-holds =
    (0, (omega arith, (tt, (0, (omega arith, (tt, (1, (omega arith, (record { low = omega arith; high = omega arith; value_of = refl }, tt)))))))))

-- the values of the writes, the initial one first, while 1 is being written
abbrev values : List ℕ
values = 0 ∷ 1 ∷ []

one_is_not_first : (n : ℕ) → slice_index_or values n 0 ≡ 1 → 1 ≤ n
one_is_not_first zero e = absurd (omega (arith, e))
one_is_not_first (suc n) e = omega arith

zero_is_first : (n : ℕ) → n < 2 → slice_index_or values n 0 ≡ 0 → n ≡ 0
zero_is_first zero few e = refl
zero_is_first (suc zero) few e = absurd (omega (arith, e))
zero_is_first (suc (suc n)) few e = absurd (omega (arith, few))

-- two reads within a write of 1: the first gives 1, and the second the older 0
Numbered-fails : Numbered 0 0 (initially 0) ((0, Invoke 0 (Write 1)) ∷ (1, Invoke 1 Read) ∷ (2, Got 1 1) ∷ (3, Invoke 1 Read) ∷ (4, Got 1 0) ∷ []) → ⊥
Numbered-fails h =
    let new = h.1.1.1.1.1.1 in
    let next = new.1.1.1 in
    let old = next.1.1.1 in
    let one : 1 ≤ new.0 = one_is_not_first new.0 new.1.1.0.value_of in
    let none : old.0 ≡ 0 = zero_is_first old.0 old.1.1.0.high old.1.1.0.value_of in
    omega (arith, one, none, next.1.0, old.1.0)

-- Ranked: within a write of 1 with rank 1, a read gives 1, and has rank 1; its invocation needs no
-- rank
Ranked-holds : Ranked (at_first 0 0) ((0, Invoke 0 (Write 1)) ∷ (1, Invoke 1 Read) ∷ (2, Got 1 1) ∷ (3, Wrote 0) ∷ [])
Ranked-holds = (Some 1, ((omega arith, refl), (None, (tt, (Some 1, ((omega arith, refl), (Some 1, (refl, tt))))))))

-- HasRanks: these ranks, and rank 0 for the initial value
HasRanks-holds : HasRanks 0 ((0, Invoke 0 (Write 1)) ∷ (1, Invoke 1 Read) ∷ (2, Got 1 1) ∷ (3, Wrote 0) ∷ [])
HasRanks-holds = (0, Ranked-holds)

abbrev some_number : ℕ → Option ℕ
some_number v = Some v

zero_is_not_one : some_number 0 ≡ some_number 1 → ⊥
zero_is_not_one e = let f : 0 ≡ 1 = ap (λ o. unwrap_or o 0) e in omega (arith, f)

-- the values by rank, at first (`values_before`), and once a write of 1 with rank m has been
-- invoked (`values_within`)
abbrev values_before : ℕ → ℕ → Option ℕ
values_before first = put first (Some 0) (λ k. None)

abbrev values_within : ℕ → ℕ → ℕ → Option ℕ
values_within first m = put m (Some 1) (values_before first)

value_before_is_zero : (first n v : ℕ) → values_before first n ≡ Some v → (n ≡ first) × (some_number 0 ≡ some_number v)
value_before_is_zero first n v e = elim (cases_eq n first) [
  | inl same ↦ (same, sym (ap (values_before first) same ∙ put_same first (Some 0) (λ k. None)) ∙ e)
  | inr other ↦ absurd (none-some v (sym (put_other first n (Some 0) (λ k. None) other) ∙ e))
]

gives_one : (first m n : ℕ) → values_within first m n ≡ Some 1 → n ≡ m
gives_one first m n e = elim (cases_eq n m) [
  | inl same ↦ same
  | inr other ↦ absurd (zero_is_not_one (value_before_is_zero first n 1 (sym (put_other m n (Some 1) (values_before first) other) ∙ e)).1)
]

gives_zero : (first m n : ℕ) → values_within first m n ≡ Some 0 → n ≡ first
gives_zero first m n e = elim (cases_eq n m) [
  | inl same ↦ absurd (zero_is_not_one (sym e ∙ ap (values_within first m) same ∙ put_same m (Some 1) (values_before first)))
  | inr other ↦ (value_before_is_zero first n 0 (sym (put_other m n (Some 1) (values_before first) other) ∙ e)).0
]

-- Ranked fails: within a write of 1, process 1 reads 1, and then process 2 the older 0, whose rank
-- is below that of the first read, whatever rank the initial value has
Ranked-fails : (first : ℕ) → Ranked (at_first first 0) ((0, Invoke 0 (Write 1)) ∷ (1, Invoke 1 Read) ∷ (2, Got 1 1) ∷ (3, Invoke 2 Read) ∷ (4, Got 2 0) ∷ []) → ⊥
Ranked-fails first h = write h.0 h.1
  where
    events : List (ℕ × Event)
    events = (1, Invoke 1 Read) ∷ (2, Got 1 1) ∷ (3, Invoke 2 Read) ∷ (4, Got 2 0) ∷ []

    later : List (ℕ × Event)
    later = (3, Invoke 2 Read) ∷ (4, Got 2 0) ∷ []

    -- what is known when the reads are invoked
    written : ℕ → Ranking
    written m = after_rank (after_rank (at_first first 0) (Invoke 0 (Write 1)) (Some m)) (Invoke 1 Read) None

    read_again : ℕ → ℕ → Ranking
    read_again m a = after_rank (after_rank (written m) (Got 1 1) (Some a)) (Invoke 2 Read) None

    -- a write that takes no effect isn't read
    none : (a : Option ℕ) → HasRank (after_rank (at_first first 0) (Invoke 0 (Write 1)) None) (Got 1 1) a → ⊥
    none None k = k
    none (Some a) k = zero_is_not_one (value_before_is_zero first a 1 k.1).1

    second : (m a : ℕ) (b : Option ℕ) → first < m → a ≡ m → HasRank (read_again m a) (Got 2 0) b → ⊥
    second m a None above same k = k
    second m a (Some b) above same k =
        let low : max first a ≤ b = k.0 in
        let older : b ≡ first = gives_zero first m b k.1 in
        omega (arith, above, same, low, older)

    one : (m : ℕ) (a : Option ℕ) → first < m → HasRank (written m) (Got 1 1) a × Ranked (after_rank (written m) (Got 1 1) a) later → ⊥
    one m None above k = k.0
    one m (Some a) above k = second m a k.1.1.1.0 above (gives_one first m a k.0.1) k.1.1.1.1.0

    write : (n : Option ℕ) → HasRank (at_first first 0) (Invoke 0 (Write 1)) n × Ranked (after_rank (at_first first 0) (Invoke 0 (Write 1)) n) events → ⊥
    write None k = none k.1.1.1.0 k.1.1.1.1.0
    write (Some m) k = one m k.1.1.1.0 k.0.0 k.1.1.1.1

-- HasRanks fails for the same events
HasRanks-fails : HasRanks 0 ((0, Invoke 0 (Write 1)) ∷ (1, Invoke 1 Read) ∷ (2, Got 1 1) ∷ (3, Invoke 2 Read) ∷ (4, Got 2 0) ∷ []) → ⊥
HasRanks-fails h = Ranked-fails h.0 h.1

-- HasRanks fails: a write that was read is refused
refused_was_read-fails : HasRanks 0 ((0, Invoke 0 (Write 1)) ∷ (1, Invoke 1 Read) ∷ (2, Got 1 1) ∷ (3, Refused 0 Matrix) ∷ []) → ⊥
refused_was_read-fails h = write h.1.0 h.1.1
  where
    write : (n : Option ℕ) → HasRank (at_first h.0 0) (Invoke 0 (Write 1)) n
        × Ranked (after_rank (at_first h.0 0) (Invoke 0 (Write 1)) n) ((1, Invoke 1 Read) ∷ (2, Got 1 1) ∷ (3, Refused 0 Matrix) ∷ []) → ⊥
    write (Some m) k = read m k.1.1.1.0 k.1.1.1.1
      where
        read : (m : ℕ) (a : Option ℕ) → HasRank (after_rank (after_rank (at_first h.0 0) (Invoke 0 (Write 1)) (Some m)) (Invoke 1 Read) None) (Got 1 1) a
            × Ranked (after_rank (after_rank (after_rank (at_first h.0 0) (Invoke 0 (Write 1)) (Some m)) (Invoke 1 Read) None) (Got 1 1) a) ((3, Refused 0 Matrix) ∷ []) → ⊥
        read m None j = j.0
        read m (Some a) j = none-some m (sym j.1.1.0)
    write None k = read k.1.1.1.0 k.1.1.1.1.0
      where
        read : (a : Option ℕ) → HasRank (after_rank (at_first h.0 0) (Invoke 0 (Write 1)) None) (Got 1 1) a → ⊥
        read None j = j
        read (Some a) j = zero_is_not_one (value_before_is_zero h.0 a 1 j.1).1

-- HasRanks fails: a later read gives the value before a returned write's
lost_write-fails : HasRanks 0 ((0, Invoke 0 (Write 1)) ∷ (1, Wrote 0) ∷ (2, Invoke 1 Read) ∷ (3, Got 1 0) ∷ []) → ⊥
lost_write-fails h = write h.1.0 h.1.1
  where
    later : List (ℕ × Event)
    later = (2, Invoke 1 Read) ∷ (3, Got 1 0) ∷ []

    begun : Option ℕ → Ranking
    begun n = after_rank (at_first h.0 0) (Invoke 0 (Write 1)) n

    got : (m b : ℕ) (a : Option ℕ) → h.0 < m → b ≡ m → HasRank (after_rank (after_rank (begun (Some m)) (Wrote 0) (Some b)) (Invoke 1 Read) None) (Got 1 0) a → ⊥
    got m b None above same j = j
    got m b (Some a) above same j =
        let low : max h.0 b ≤ a = j.0 in
        let older : a ≡ h.0 = gives_zero h.0 m a j.1 in
        omega (arith, above, same, low, older)

    wrote : (m : ℕ) (b : Option ℕ) → h.0 < m → HasRank (begun (Some m)) (Wrote 0) b → Ranked (after_rank (begun (Some m)) (Wrote 0) b) later → ⊥
    wrote m None above j rest = j
    wrote m (Some b) above j rest =
        let same : m ≡ b = ap (λ (o : Option ℕ). unwrap_or o 0) j in
        got m b rest.1.1.0 above (sym same) rest.1.1.1.0

    lost : (b : Option ℕ) → HasRank (begun None) (Wrote 0) b → ⊥
    lost None j = j
    lost (Some b) j = none-some b j

    write : (n : Option ℕ) → HasRank (at_first h.0 0) (Invoke 0 (Write 1)) n × Ranked (begun n) ((1, Wrote 0) ∷ later) → ⊥
    write None k = lost k.1.0 k.1.1.0
    write (Some m) k = wrote m k.1.0 k.0.0 k.1.1.0 k.1.1.1

-- a bit action of a process that has nothing pending is void
IsVoid-holds : IsVoid safe_behaviour start (step.Go 0 0)
IsVoid-holds = record { leaves = refl; reported = refl }

-- an invocation of a read isn't void: the read is pending after it
IsVoid-fails : IsVoid safe_behaviour start (step.Read 1) → ⊥
IsVoid-fails h = true≢false (ap (λ c. is_some (running_at 1 c)) h.leaves)

-- a bit whose cell is 0 and idle
abbrev zero_bit : Memory
zero_bit = safe_behaviour.initial 0

-- the start of a write of 1: the cell that it reports is then being written
MakesItsAction-holds : MakesItsAction safe_behaviour (at.WriteStart true) true zero_bit
MakesItsAction-holds = record { value = true; cells = refl; chosen = refl }

-- a register that reports the start of each write as a read's start
abbrev misreports : Behaviour SafePoint
misreports = record safe_behaviour { acts = λ p. record { kind = ReadStart; cell = 0 } }

-- the start of a write, reported as the start of a read: no read is in progress after it
MakesItsAction-fails : MakesItsAction misreports (at.WriteStart true) true zero_bit → ⊥
MakesItsAction-fails h = true≢false (sym (ap (λ cells. (get_or cells 0 no_cell).reading) h.cells))

-- the frames of process 0 as it begins to write 1
abbrev write_frames : List Frame
write_frames = safe_behaviour.frames (at.WriteStart true)

write_is_not_read : Some (Write 1) ≡ Some Read → ⊥
write_is_not_read e = cc

cons_is_not_nil : {A : Type 0} (x : A) (xs : List A) → x ∷ xs ≡ [] → ⊥
cons_is_not_nil x xs e = cc

-- process 1, a reader, can't be at the point that these frames describe
not_writing : (o : Op) (p : SafePoint) → SafeReaches 1 o p → write_frames ≡ safe_behaviour.frames p → ⊥
not_writing (Write v) (at.WriteStart bit) r e = omega (arith, r.0)
not_writing (Write v) (at.WriteEnd bit) r e = omega (arith, r.0)
not_writing Read at.ReadStart r e = write_is_not_read (ap outermost e)
not_writing Read at.ReadEnd r e = write_is_not_read (ap outermost e)
not_writing _ _ r e = r

-- process 0 can be at the point that these frames describe
IsPointByFrames-holds : IsPointByFrames safe_behaviour.frames SafeReaches 0 write_frames (Some (at.WriteStart true))
IsPointByFrames-holds = (Write 1, ((refl, omega arith, refl), refl))

-- process 1, a reader, can't be at that point
IsPointByFrames-fails : IsPointByFrames safe_behaviour.frames SafeReaches 1 write_frames (Some (at.WriteStart true)) → ⊥
IsPointByFrames-fails h = not_writing h.0 (at.WriteStart true) h.1.0 h.1.1

-- process 0 is at the point that the frames describe
go_own-holds : (o : Op) × ((p : SafePoint) × HasFramesFrom safe_behaviour.frames SafeReaches 0 0 write_frames o p)
go_own-holds = (Write 1, (at.WriteStart true, record { reached = (refl, omega arith, refl); there = refl }))

-- process 1 isn't at a point that the frames describe
go_own-fails : (o : Op) × ((p : SafePoint) × HasFramesFrom safe_behaviour.frames SafeReaches 1 0 write_frames o p) → ⊥
go_own-fails h = not_writing h.0 h.1.0 h.1.1.reached h.1.1.there

-- process 1 has nothing pending, and no frames
proceed_own-holds : (slot : Option (Running SafePoint)) × (IsReached SafeReaches 1 slot × ([] ≡ stack_of safe_behaviour slot))
proceed_own-holds = (None, (tt, refl))

-- process 1 can't have the frames of process 0
proceed_own-fails : (slot : Option (Running SafePoint)) × (IsReached SafeReaches 1 slot × (write_frames ≡ stack_of safe_behaviour slot)) → ⊥
proceed_own-fails h = by h.0 h.1.0 h.1.1
  where
    by : (slot : Option (Running SafePoint)) → IsReached SafeReaches 1 slot → write_frames ≡ stack_of safe_behaviour slot → ⊥
    by None r e = cons_is_not_nil _ _ e
    by (Some running) r e = not_writing running.op running.point r e

-- process 0 can begin to write 1
push_frames-holds : (who : ℕ) × ((o : Op) × SafeReaches who o (at.WriteStart true))
push_frames-holds = (0, (Write 1, (refl, omega arith, refl)))

abbrev ReachesAsReader : ℕ → Op → SafePoint → Type 0
ReachesAsReader who o p = SafeReaches who o p × (who ≡ 1)

-- if only process 1 takes part, no process can begin to write 1
push_frames-fails : (who : ℕ) × ((o : Op) × ReachesAsReader who o (at.WriteStart true)) → ⊥
push_frames-fails h = by h.0 h.1.0 h.1.1
  where
    by : (who : ℕ) (o : Op) → ReachesAsReader who o (at.WriteStart true) → ⊥
    by who (Write v) r = omega (arith, r.0.0, r.1)
    by who Read r = r.0

-- the read of process 1 has ended with 1, and no frames are left
reached_next-holds : (o : Op) × ((next : Next SafePoint) × HasReached safe_behaviour SafeReaches 1 o (Some (Value 1)) [] next)
reached_next-holds = (Read, (Done (Value 1), record { may_be_at = omega arith; answer = refl; there = refl }))

-- no operation of a bit ends with 7
reached_next-fails : (o : Op) × ((next : Next SafePoint) × HasReached safe_behaviour SafeReaches 1 o (Some (Value 7)) [] next) → ⊥
reached_next-fails h = by h.0 h.1.0 h.1.1
  where
    none : (outcome : Outcome) → Some outcome ≡ None → ⊥
    none outcome e = cc

    answers : (o : Op) → Answers 2 o (Value 7) → ⊥
    answers (Write v) a = a
    answers Read a = omega (arith, a)

    by : (o : Op) (next : Next SafePoint) → HasReached safe_behaviour SafeReaches 1 o (Some (Value 7)) [] next → ⊥
    by o (Pending p) s = none _ s.answer
    by o (Done outcome) s = answers o (subst (λ outcome. Answers 2 o outcome) (sym (ap (λ o. unwrap_or o Written) s.answer)) s.may_be_at)

-- process 1 can be at the point before a read's end
reaching_process-holds : (o : Op) × SafeReaches 1 o at.ReadEnd
reaching_process-holds = (Read, refl)

-- process 0 can't be at that point
reaching_process-fails : (o : Op) × SafeReaches 0 o at.ReadEnd → ⊥
reaching_process-fails h = by h.0 h.1
  where
    by : (o : Op) → SafeReaches 0 o at.ReadEnd → ⊥
    by (Write v) r = r
    by Read r = omega (arith, r)
