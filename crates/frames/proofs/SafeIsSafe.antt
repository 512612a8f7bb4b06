-- A safe bit is safe (Lamport 1986).
use Rattle.std.proofs.Common.{◌≡◌, ℕ, zero, suc, ◌<◌, ◌==◌, List, [], ◌∷◌, length, refl, ap, sym, ◌∙◌, subst, arith, Bool, true, false, Option, Some, None, length-set}
use Rattle.std.specs.Prelude.{◌&&◌, if◌then◌else◌, is_some, is_none, not, nat_lt, unwrap_or}
use Rattle.std.proofs.lemmas.Bool.{and_parts, eqb-true, ltb-true}
use Rattle.std.proofs.lemmas.List.{get_or-set_other}
use Rattle.std.proofs.lemmas.List.Elements.{All-head, All-tail}
use Rattle.std.proofs.lemmas.Grind.{get_or-set_at}
use Rattle.safe_bit.specs.declared.Cell.{Cell}
use Rattle.safe_bit.specs.Actions.{start_write, end_write, start_read, end_read, read_gives}
use Rattle.safe_bit.specs.Memory.{Memory, cell_at, on_cell, no_cell}
use Rattle.safe_bit.specs.Parts.{HasSize}
use Rattle.schedule_steps.specs.declared.types.Op.{Op}
use Rattle.schedule_steps.specs.declared.types.Op.TheVariants as op
use Rattle.frames.specs.declared.types.Outcome.TheVariants.{Value, Written}
use Rattle.frames.specs.declared.types.Next.{Next}
use Rattle.frames.specs.declared.types.Next.TheVariants.{Pending, Done}
use Rattle.frames.specs.declared.running.Running.{Running}
use Rattle.frames.specs.declared.types.Event.{Event}
use Rattle.frames.specs.declared.types.Event.TheVariants.{Invoke, Got, Wrote}
use Rattle.schedule_steps.specs.declared.types.Step.{Step}
use Rattle.schedule_steps.specs.declared.types.Step.TheVariants as step
use Rattle.frames.specs.declared.safe.SafePoint.{SafePoint}
use Rattle.frames.specs.declared.safe.SafePoint.TheVariants.{WriteStart, WriteEnd, ReadStart, ReadEnd}
use Rattle.frames.specs.SafeBit.{safe_behaviour, SafeReaches, bit_of, value_of}
use Rattle.schedule_steps.specs.Steps.{process_of}
use Rattle.frames.specs.OneWriter.{HasOneWriter, one_writer}
use Rattle.frames.specs.Configuration.{running_at, is_stopped, stepped, events_of, fits_step, history, return_of, still_running, chosen_of, in_order}
use Rattle.frames.specs.Recorded.{LoneConfiguration, AllFit, first_configuration}
use Rattle.frames.specs.correctness.Regularity.{IsSafe, FreshAlone}
use Rattle.frames.specs.Voids.{IsVoid, why_void}
use Rattle.frames.specs.laws.Steps.{void_unless_enabled, stopped_is_void}
use Rattle.frames.specs.laws.Safe.{safe_lawful, value_of_its_bit}
use Rattle.frames.proofs.Seen.{Seen, opening, sees, now_last, IsFreshAlone, Always, Allowed}
use Rattle.frames.proofs.UnstoppedSteps.{put_next, StepsTo, step_begins, step_goes, step_stops}
use Rattle.frames.proofs.GoodHistories.{IsGoodStep, good_begun, good_gone, good_void, good_stop, good_refuses_none, good_reads}
use Rattle.frames.proofs.KnownAndSeen.{fresh_alike}
use Rattle.frames.proofs.OneWriterPromises.{always_known}
use Rattle.frames.proofs.VerdictFacts.{none_in_progress, is_fresh}

-- a configuration of one safe bit alone
abbrev SafeConfiguration : Type 0
SafeConfiguration = LoneConfiguration SafePoint

-- how the cell agrees with the history, if process 0 is at this point of a write
abbrev pub WriterAt : SafePoint → Seen → Cell → Type 0
WriterAt (WriteStart v) u cell = (x : ℕ) × ((u.writing ≡ Some x) × ((cell.writing ≡ None) × (value_of v ≡ x)))
WriterAt (WriteEnd w) u cell = (x : ℕ) × ((v : Bool) × ((u.writing ≡ Some x) × ((cell.writing ≡ Some v) × (value_of v ≡ x))))
WriterAt ReadStart u cell = ⊥
WriterAt ReadEnd u cell = ⊥

-- what process 0, which is idle or writes, says of the history and the cell
abbrev pub WriterSays : Option (Running SafePoint) → Seen → Cell → Type 0
WriterSays None u cell = (u.writing ≡ None) × (cell.writing ≡ None)
WriterSays (Some r) u cell = WriterAt r.point u cell

-- what holds at this point of process 1's read, if no write has overlapped it so far
abbrev pub ReaderAt : SafePoint → Seen → Cell → Type 0
ReaderAt (WriteStart v) u cell = ⊥
ReaderAt (WriteEnd w) u cell = ⊥
ReaderAt ReadStart u cell = u.overlaps 1 ≡ [] → (u.fresh 1 ≡ u.last) × (u.writing ≡ None)
ReaderAt ReadEnd u cell = u.overlaps 1 ≡ [] → (u.fresh 1 ≡ u.last) × ((u.writing ≡ None) × (cell.hit ≡ false))

-- what process 1, which is idle or reads, says of the history and the cell
abbrev pub ReaderSays : Option (Running SafePoint) → Seen → Cell → Type 0
ReaderSays None u cell = Unit {0}
ReaderSays (Some r) u cell = ReaderAt r.point u cell

-- the invariant: the cell has the last value written, and agrees with both processes' operations
pub record SafeInv (c : SafeConfiguration) (u : Seen) : Type 0 where
  pub processes : length c.running ≡ 2
  pub size : length c.memory.cells ≡ 1
  pub last : value_of (cell_at 0 c.memory).value ≡ u.last
  pub writer : WriterSays (running_at 0 c) u (cell_at 0 c.memory)
  pub reader : ReaderSays (running_at 1 c) u (cell_at 0 c.memory)

writer_moves : (c : SafeConfiguration) (u z : Seen) (o : Op) (next : Next SafePoint) (m : Memory) → SafeInv c u → length m.cells ≡ 1 → value_of (cell_at 0 m).value ≡ z.last
    → WriterSays (still_running o next) z (cell_at 0 m) → ReaderSays (running_at 1 c) z (cell_at 0 m) → SafeInv (put_next 0 o next m c) z
writer_moves c u z o next m h size last writer reader = record {
  processes = length-set c.running 0 (still_running o next) ∙ h.processes;
  size = size;
  last = last;
  writer = subst (λ r. WriterSays r z (cell_at 0 m)) (sym (get_or-set_at c.running 0 0 (still_running o next) None refl (omega (arith, h.processes)))) writer;
  reader = subst (λ r. ReaderSays r z (cell_at 0 m)) (sym (get_or-set_other c.running 0 1 (still_running o next) None (λ e. omega (arith, e)))) reader;
}

reader_moves : (c : SafeConfiguration) (u z : Seen) (o : Op) (next : Next SafePoint) (m : Memory) → SafeInv c u → length m.cells ≡ 1 → value_of (cell_at 0 m).value ≡ z.last
    → WriterSays (running_at 0 c) z (cell_at 0 m) → ReaderSays (still_running o next) z (cell_at 0 m) → SafeInv (put_next 1 o next m c) z
reader_moves c u z o next m h size last writer reader = record {
  processes = length-set c.running 1 (still_running o next) ∙ h.processes;
  size = size;
  last = last;
  writer = subst (λ r. WriterSays r z (cell_at 0 m)) (sym (get_or-set_other c.running 1 0 (still_running o next) None (λ e. omega (arith, e)))) writer;
  reader = subst (λ r. ReaderSays r z (cell_at 0 m)) (sym (get_or-set_at c.running 1 1 (still_running o next) None refl (omega (arith, h.processes)))) reader;
}

-- while a write is in progress, `ReaderSays` stays true whatever becomes of the cell, since a read
-- in progress overlaps the write
reader_stays_within_write : (x : ℕ) (u : Seen) (cell to : Cell) (r : Option (Running SafePoint)) → u.writing ≡ Some x → ReaderSays r u cell → (z : Seen) → z.overlaps 1 ≡ u.overlaps 1 → ReaderSays r z to
reader_stays_within_write x u cell to None e h z o = tt
reader_stays_within_write x u cell to (Some r) e h z o = at r.point h
  where
    at : (p : SafePoint) → ReaderAt p u cell → ReaderAt p z to
    at (WriteStart v) h = h
    at (WriteEnd w) h = h
    at ReadStart h = λ k. let n : u.writing ≡ None = (h (sym o ∙ k)).1 in (let f : ⊥ = cc in absurd f)
    at ReadEnd h = λ k. let n : u.writing ≡ None = (h (sym o ∙ k)).1.0 in (let f : ⊥ = cc in absurd f)

reader_stays_at_write_begin : (v : ℕ) (u : Seen) (cell : Cell) (r : Option (Running SafePoint)) → ReaderSays r u cell → ReaderSays r (sees (Some (Invoke 0 (op.Write v))) u) cell
reader_stays_at_write_begin v u cell None h = tt
reader_stays_at_write_begin v u cell (Some r) h = at r.point h
  where
    at : (p : SafePoint) → ReaderAt p u cell → ReaderAt p (sees (Some (Invoke 0 (op.Write v))) u) cell
    at (WriteStart v) h = h
    at (WriteEnd w) h = h
    at ReadStart h = λ k. let f : ⊥ = cc in absurd f
    at ReadEnd h = λ k. let f : ⊥ = cc in absurd f

-- if no write of the register is in progress, no write of its cell is
quiet_cell : (r : Option (Running SafePoint)) (u : Seen) (cell : Cell) → WriterSays r u cell → u.writing ≡ None → is_some cell.writing ≡ false
quiet_cell None u cell h e = ap is_some h.1
quiet_cell (Some r) u cell h e = at r.point h
  where
    at : (p : SafePoint) → WriterAt p u cell → is_some cell.writing ≡ false
    at (WriteStart v) h = let q : u.writing ≡ Some h.0 = h.1.0 in let f : ⊥ = cc in absurd f
    at (WriteEnd w) h = let q : u.writing ≡ Some h.0 = h.1.1.0 in let f : ⊥ = cc in absurd f
    at ReadStart h = absurd h
    at ReadEnd h = absurd h

writer_stays : (r : Option (Running SafePoint)) (u z : Seen) (cell to : Cell) → u.writing ≡ z.writing → cell.writing ≡ to.writing → WriterSays r u cell → WriterSays r z to
writer_stays None u z cell to e f h = (sym e ∙ h.0, sym f ∙ h.1)
writer_stays (Some r) u z cell to e f h = at r.point h
  where
    at : (p : SafePoint) → WriterAt p u cell → WriterAt p z to
    at (WriteStart v) h = (h.0, (sym e ∙ h.1.0, (sym f ∙ h.1.1.0, h.1.1.1)))
    at (WriteEnd w) h = (h.0, (h.1.0, (sym e ∙ h.1.1.0, (sym f ∙ h.1.1.1.0, h.1.1.1.1))))
    at ReadStart h = h
    at ReadEnd h = h

changed_cell : (f : Cell → Cell) (m : Memory) → length m.cells ≡ 1 → cell_at 0 (on_cell 0 f m) ≡ f (cell_at 0 m)
changed_cell f m l = get_or-set_at m.cells 0 0 (f (cell_at 0 m)) no_cell refl (omega (arith, l))

changed_size : (f : Cell → Cell) (m : Memory) → length m.cells ≡ 1 → length (on_cell 0 f m).cells ≡ 1
changed_size f m l = length-set m.cells 0 (f (cell_at 0 m)) ∙ l

ended_write : (v : Bool) (cell : Cell) → cell.writing ≡ Some v → (end_write cell).value ≡ v
ended_write v cell e = ap (λ o. unwrap_or o cell.value) e

-- step s refuses nothing and returns only good reads, and the invariant holds after it
abbrev IsSafeStep : SafeConfiguration → Seen → Step → Type 0
IsSafeStep c u s = (z : Seen) × (IsGoodStep IsFreshAlone u (events_of safe_behaviour c s) z × SafeInv (stepped safe_behaviour c s) z)

-- a step is good if its events are, and its effect keeps the invariant
safe_step_by_effect : (c : SafeConfiguration) (u z : Seen) (s : Step) (who : ℕ) (o : Op) (event : Option Event) (next : Next SafePoint) (m : Memory) → StepsTo safe_behaviour c s who o event next m
    → IsGoodStep IsFreshAlone u (in_order event (return_of who next)) z → SafeInv (put_next who o next m c) z → IsSafeStep c u s
safe_step_by_effect c u z s who o event next m to good_step inv = (z, (subst (λ e. IsGoodStep IsFreshAlone u e z) (sym to.events) good_step, subst (λ d. SafeInv d z) (sym to.after) inv))

void_is_safe_step : (c : SafeConfiguration) (u : Seen) (s : Step) → IsVoid safe_behaviour c s → SafeInv c u → IsSafeStep c u s
void_is_safe_step c u s v h = (u, (subst (λ e. IsGoodStep IsFreshAlone u e u) (sym v.reported) (good_void IsFreshAlone u (process_of s) (why_void c s)), subst (λ d. SafeInv d u) (sym v.leaves) h))

begin_write : (v : ℕ) (c : SafeConfiguration) (u : Seen) → running_at 0 c ≡ None → is_stopped 0 c ≡ false → v < 2 → SafeInv c u → IsSafeStep c u (step.Write 0 v)
begin_write v c u e awake l h =
    let w : WriterSays None u (cell_at 0 c.memory) = subst (λ r. WriterSays r u (cell_at 0 c.memory)) e h.writer in
    let z : Seen = sees (Some (Invoke 0 (op.Write v))) u in
    safe_step_by_effect c u z (step.Write 0 v) 0 (op.Write v) (Some (Invoke 0 (op.Write v))) (Pending (WriteStart (bit_of v))) c.memory (step_begins safe_behaviour 0 (op.Write v) c c.memory e awake refl)
    (good_begun IsFreshAlone 0 (op.Write v) None u refl tt)
    (writer_moves c u z (op.Write v) (Pending (WriteStart (bit_of v))) c.memory h h.size h.last (v, (refl, (w.1, value_of_its_bit v l))) (reader_stays_at_write_begin v u (cell_at 0 c.memory) (running_at 1 c) h.reader))

begin_read : (c : SafeConfiguration) (u : Seen) → running_at 1 c ≡ None → is_stopped 1 c ≡ false → SafeInv c u → IsSafeStep c u (step.Read 1)
begin_read c u e awake h =
    let z : Seen = sees (Some (Invoke 1 op.Read)) u in
    safe_step_by_effect c u z (step.Read 1) 1 op.Read (Some (Invoke 1 op.Read)) (Pending ReadStart) c.memory (step_begins safe_behaviour 1 op.Read c c.memory e awake refl)
    (good_begun IsFreshAlone 1 op.Read None u refl tt)
    (reader_moves c u z op.Read (Pending ReadStart) c.memory h h.size h.last
    (writer_stays (running_at 0 c) u z (cell_at 0 c.memory) (cell_at 0 c.memory) refl refl h.writer) (λ o. (refl, none_in_progress u.writing o)))

go_writer : (choice : ℕ) (c : SafeConfiguration) (u : Seen) (o : Op) (p : SafePoint) → running_at 0 c ≡ Some (record { op = o; point = p }) → is_stopped 0 c ≡ false → WriterAt p u (cell_at 0 c.memory) → SafeInv c u → IsSafeStep c u (step.Go 0 choice)
go_writer choice c u o (WriteStart v) e awake w h =
    let m : Memory = on_cell 0 (start_write v) c.memory in
    let on = changed_cell (start_write v) c.memory h.size in
    safe_step_by_effect c u u (step.Go 0 choice) 0 o None (Pending (WriteEnd v)) m (step_goes safe_behaviour 0 choice c (record { op = o; point = WriteStart v }) c.memory e awake refl)
    (good_gone IsFreshAlone 0 None None u refl tt)
    (writer_moves c u u o (Pending (WriteEnd v)) m h (changed_size (start_write v) c.memory h.size) (ap (λ k. value_of k.value) on ∙ h.last)
    (w.0, (v, (w.1.0, (ap (λ k. k.writing) on, w.1.1.1)))) (reader_stays_within_write w.0 u (cell_at 0 c.memory) _ (running_at 1 c) w.1.0 h.reader u refl))
go_writer choice c u o (WriteEnd x) e awake w h =
    let m : Memory = on_cell 0 end_write c.memory in
    let on = changed_cell end_write c.memory h.size in
    let d = ended_write w.1.0 (cell_at 0 c.memory) w.1.1.1.0 in
    let z : Seen = sees (Some (Wrote 0)) u in
    safe_step_by_effect c u z (step.Go 0 choice) 0 o None (Done Written) m (step_goes safe_behaviour 0 choice c (record { op = o; point = WriteEnd x }) c.memory e awake refl)
    (good_gone IsFreshAlone 0 None (Some (Wrote 0)) u refl tt)
    (writer_moves c u z o (Done Written) m h (changed_size end_write c.memory h.size)
    (ap (λ k. value_of k.value) on ∙ ap value_of d ∙ w.1.1.1.1 ∙ sym (ap (λ o. now_last o u.last) w.1.1.0))
    (refl, ap (λ k. k.writing) on) (reader_stays_within_write w.0 u (cell_at 0 c.memory) _ (running_at 1 c) w.1.1.0 h.reader z refl))
go_writer choice c u o ReadStart e awake w h = absurd w
go_writer choice c u o ReadEnd e awake w h = absurd w

go_reader : (choice : ℕ) (c : SafeConfiguration) (u : Seen) (o : Op) (p : SafePoint) → running_at 1 c ≡ Some (record { op = o; point = p }) → is_stopped 1 c ≡ false → ReaderAt p u (cell_at 0 c.memory) → SafeInv c u → IsSafeStep c u (step.Go 1 choice)
go_reader choice c u o (WriteStart v) e awake w h = absurd w
go_reader choice c u o (WriteEnd x) e awake w h = absurd w
go_reader choice c u o ReadStart e awake w h =
    let m : Memory = on_cell 0 start_read c.memory in
    let on = changed_cell start_read c.memory h.size in
    safe_step_by_effect c u u (step.Go 1 choice) 1 o None (Pending ReadEnd) m (step_goes safe_behaviour 1 choice c (record { op = o; point = ReadStart }) c.memory e awake refl)
    (good_gone IsFreshAlone 1 None None u refl tt)
    (reader_moves c u u o (Pending ReadEnd) m h (changed_size start_read c.memory h.size) (ap (λ k. value_of k.value) on ∙ h.last)
    (writer_stays (running_at 0 c) u u (cell_at 0 c.memory) _ refl (sym (ap (λ k. k.writing) on)) h.writer)
    (λ o. let f = w o in (f.0, (f.1, ap (λ k. k.hit) on ∙ quiet_cell (running_at 0 c) u (cell_at 0 c.memory) h.writer f.1))))
go_reader choice c u o ReadEnd e awake w h =
    let m : Memory = on_cell 0 end_read c.memory in
    let on = changed_cell end_read c.memory h.size in
    let cell : Cell = cell_at 0 c.memory in
    let given : Bool = read_gives (choice == 1) cell in
    let x : ℕ = value_of given in
    let chosen : Option (ℕ × Bool) = (if cell.hit then Some (0, given) else None) in
    safe_step_by_effect c u u (step.Go 1 choice) 1 o (chosen_of 1 chosen) (Done (Value x)) m (step_goes safe_behaviour 1 choice c (record { op = o; point = ReadEnd }) c.memory e awake refl)
    (good_gone IsFreshAlone 1 chosen (Some (Got 1 x)) u refl (
      (λ o. let f = w o in is_fresh (record { reader = 1; value = x; fresh = u.fresh 1; overlaps = u.overlaps 1 })
          (ap (λ k. value_of (if k then (choice == 1) else cell.value)) f.1.1 ∙ h.last ∙ sym f.0)),
      tt,
    ))
    (reader_moves c u u o (Done (Value x)) m h (changed_size end_read c.memory h.size) (ap (λ k. value_of k.value) on ∙ h.last)
    (writer_stays (running_at 0 c) u u cell _ refl (sym (ap (λ k. k.writing) on)) h.writer) tt)

go_safe : (p choice : ℕ) (c : SafeConfiguration) (u : Seen) (x : Option (Running SafePoint)) → running_at p c ≡ x → is_stopped p c ≡ false → p < 2 → SafeInv c u → IsSafeStep c u (step.Go p choice)
go_safe p choice c u None e awake l h = void_is_safe_step c u (step.Go p choice) (void_unless_enabled safe_behaviour c (step.Go p choice) (ap (λ x. not (is_stopped p c) && is_some x) e ∙ ap (λ b. not b && false) awake)) h
go_safe zero choice c u (Some r) e awake l h = go_writer choice c u r.op r.point e awake (subst (λ r. WriterSays r u (cell_at 0 c.memory)) e h.writer) h
go_safe (suc zero) choice c u (Some r) e awake l h = go_reader choice c u r.op r.point e awake (subst (λ r. ReaderSays r u (cell_at 0 c.memory)) e h.reader) h
go_safe (suc (suc p)) choice c u (Some r) e awake l h = let n : ⊥ = omega (arith, l) in absurd n

write_safe : (v : ℕ) (c : SafeConfiguration) (u : Seen) (x : Option (Running SafePoint)) → running_at 0 c ≡ x → is_stopped 0 c ≡ false → v < 2 → SafeInv c u → IsSafeStep c u (step.Write 0 v)
write_safe v c u None e awake l h = begin_write v c u e awake l h
write_safe v c u (Some r) e awake l h = void_is_safe_step c u (step.Write 0 v) (void_unless_enabled safe_behaviour c (step.Write 0 v) (ap (λ x. not (is_stopped 0 c) && is_none x) e ∙ ap (λ b. not b && false) awake)) h

read_safe : (c : SafeConfiguration) (u : Seen) (x : Option (Running SafePoint)) → running_at 1 c ≡ x → is_stopped 1 c ≡ false → SafeInv c u → IsSafeStep c u (step.Read 1)
read_safe c u None e awake h = begin_read c u e awake h
read_safe c u (Some r) e awake h = void_is_safe_step c u (step.Read 1) (void_unless_enabled safe_behaviour c (step.Read 1) (ap (λ x. not (is_stopped 1 c) && is_none x) e ∙ ap (λ b. not b && false) awake)) h

awake_safe : (s : Step) (c : SafeConfiguration) (u : Seen) → fits_step safe_behaviour s ≡ true → is_stopped (process_of s) c ≡ false → SafeInv c u → IsSafeStep c u s
awake_safe (step.Write p v) c u f awake h =
    let both = and_parts (p == 0) (nat_lt v 2) f in
    let e : p ≡ 0 = eqb-true p 0 both.0 in
    subst (λ q. IsSafeStep c u (step.Write q v)) (sym e) (write_safe v c u (running_at 0 c) refl (sym (ap (λ q. is_stopped q c) e) ∙ awake) (ltb-true v 2 both.1) h)
awake_safe (step.Read p) c u f awake h =
    let e : p ≡ 1 = eqb-true p 1 f in
    subst (λ q. IsSafeStep c u (step.Read q)) (sym e) (read_safe c u (running_at 1 c) refl (sym (ap (λ q. is_stopped q c) e) ∙ awake) h)
awake_safe (step.Go p choice) c u f awake h = go_safe p choice c u (running_at p c) refl awake (ltb-true p 2 (and_parts (nat_lt p 2) (nat_lt choice 2) f).0) h
awake_safe (step.Stop p) c u f awake h =
    let is = step_stops safe_behaviour p c awake in (
      u,
      (
        subst (λ e. IsGoodStep IsFreshAlone u e u) (sym is.events) (good_stop IsFreshAlone u p),
        subst (λ d. SafeInv d u) (sym is.after) (record { processes = h.processes; size = h.size; last = h.last; writer = h.writer; reader = h.reader }),
      ),
    )

step_safe : (s : Step) (c : SafeConfiguration) (u : Seen) → fits_step safe_behaviour s ≡ true → SafeInv c u → IsSafeStep c u s
step_safe s c u f h = go (is_stopped (process_of s) c) refl
  where
    go : (k : Bool) → is_stopped (process_of s) c ≡ k → IsSafeStep c u s
    go true e = void_is_safe_step c u s (stopped_is_void safe_behaviour c s e) h
    go false e = awake_safe s c u f e h

steps_safe : (list : List Step) (c : SafeConfiguration) (u : Seen) → AllFit safe_behaviour list → SafeInv c u → Allowed (IsGoodStep IsFreshAlone) u (history safe_behaviour c list)
steps_safe [] c u f h = tt
steps_safe (s ∷ rest) c u f h =
    let z = step_safe s c u (All-head (λ x. fits_step safe_behaviour x ≡ true) s rest f) h in
    (z.0, (z.1.0, steps_safe rest (stepped safe_behaviour c s) z.0 (All-tail (λ x. fits_step safe_behaviour x ≡ true) s rest f) z.1.1))

always_fresh_alone : Always IsFreshAlone safe_behaviour
always_fresh_alone v steps l f =
    let a = steps_safe steps (first_configuration safe_behaviour v) (opening v) f (record { processes = refl; size = refl; last = value_of_its_bit v l; writer = (refl, refl); reader = tt }) in
    (good_refuses_none IsFreshAlone (opening v) _ a, good_reads IsFreshAlone (opening v) _ a)

safe_has_one_writer : HasOneWriter safe_behaviour
safe_has_one_writer who (op.Write v) h = h' (who == 0) (nat_lt v 2) h
  where
    h' : (a b : Bool) → (a && b) ≡ true → (a && (b && true)) ≡ true
    h' true true h = refl
    h' true false h = h
    h' false b h = h
safe_has_one_writer who op.Read h = let e : who ≡ 1 = eqb-true who 1 h in subst (λ w. one_writer 2 2 w op.Read ≡ true) (sym e) refl

-- the safe bit is safe
pub safe_is_safe : IsSafe safe_behaviour
safe_is_safe = always_known FreshAlone IsFreshAlone fresh_alike safe_behaviour safe_has_one_writer (HasSize safe_behaviour.size) SafeReaches safe_lawful always_fresh_alone
