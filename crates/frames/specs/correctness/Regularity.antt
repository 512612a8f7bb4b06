-- Safe, regular and atomic registers of one writer (Lamport, "On Interprocess Communication",
-- 1986), defined by the events that a register alone records. Refused writes are left out.
use Rattle.std.specs.Prelude.{◌≡◌, ◌≢◌, ℕ, ◌<◌, ◌≤◌, ⊤, Bool, true, false, List, [], ◌∷◌, ◌++◌, Option, Some, None, length, drop, slice_index_or}
use Rattle.std.specs.List.{list_any}
use Rattle.frames.specs.declared.types.Event.{Event}
use Rattle.frames.specs.declared.types.Event.TheVariants.{Got, Refused}
use Rattle.schedule_steps.specs.declared.types.Step.{Step}
use Rattle.frames.specs.declared.verdict.Verdict.TheVariants.{Fresh, Stray}
use Rattle.frames.specs.Behaviour.{Behaviour}
use Rattle.frames.specs.OneWriter.{HasOneWriter}
use Rattle.frames.specs.Recorded.{AllFit, recorded}
use Rattle.frames.specs.correctness.Verdicts.{Known, accepted, initially, after, reading, judged}

-- whether an event is the refusal of an operation
abbrev pub is_refusal : Event → Bool
is_refusal (Refused p layer) = true
is_refusal _ = false

-- no event of the list is a refusal
abbrev pub NoneRefused : List (ℕ × Event) → Type 0
NoneRefused events = list_any (λ e. is_refusal e.1) events ≡ false

-- the value of the write in progress, as a list of one item; an empty list if there is no such
-- write
abbrev pub in_progress : Option ℕ → List ℕ
in_progress None = []
in_progress (Some v) = v ∷ []

-- the values of the writes that overlap process p's read if it returns now: those that have
-- returned since its invocation, and the one in progress
abbrev pub overlapped : ℕ → Known → List ℕ
overlapped p k = drop (reading p k).since k.returned ++ in_progress k.writing

-- If a read returns in this event, `Says` holds of the read. `Says` is given what is known when the
-- read returns, the read's process, and the read's value.
abbrev pub OnReturn : (Known → ℕ → ℕ → Type 0) → Known → Event → Type 0
OnReturn Says k (Got p v) = Says k p v
OnReturn Says k _ = ⊤

-- `Says` holds of each read that returns in these events; k is what is known before them
abbrev pub EachRead : (Known → ℕ → ℕ → Type 0) → Known → List (ℕ × Event) → Type 0
EachRead Says k [] = ⊤
EachRead Says k (e ∷ es) = OnReturn Says k e.1 × EachRead Says (after k e.1) es

-- if process p's read, which returns v now, overlaps no write, v is the value of the last write
-- that had returned when the read was invoked (or the initial value, if none had)
abbrev pub FreshAlone : Known → ℕ → ℕ → Type 0
FreshAlone k p v = overlapped p k ≡ [] → judged k p v ≡ Fresh

-- process p's read, which returns v now, isn't stray: v is the value of the last write that had
-- returned when the read was invoked (or the initial value, if none had), or of a write that
-- overlaps the read
abbrev pub NotStray : Known → ℕ → ℕ → Type 0
NotStray k p v = judged k p v ≢ Stray

-- Only process 0 writes, and only the others read. On every list of fitting steps, from every
-- initial value, no operation is refused, and each returned read satisfies `Says`, which is given
-- what is known when the read returns, the read's process, and the read's value.
pub record AlwaysReads {P : Type 0} (b : Behaviour P) (Says : Known → ℕ → ℕ → Type 0) : Type 0 where
  pub one_writer : HasOneWriter b
  pub refuses_none : (value : ℕ) (steps : List Step) → value < b.values → AllFit b steps → NoneRefused (recorded b value steps)
  pub each_read : (value : ℕ) (steps : List Step) → value < b.values → AllFit b steps → EachRead Says (initially value) (accepted (recorded b value steps))

-- Safe: only process 0 writes. On every list of fitting steps, from every initial value, no
-- operation is refused, and each returned read that overlaps no write gives the value of the last
-- write that returned before it (or the initial value, if none did).
abbrev pub IsSafe : {P : Type 0} → Behaviour P → Type 0
IsSafe b = AlwaysReads b FreshAlone

-- Regular: only process 0 writes. On every list of fitting steps, from every initial value, no
-- operation is refused, and each returned read gives the value of the last write that returned
-- before the read was invoked (or the initial value, if none did), or of a write that overlaps the
-- read.
abbrev pub IsRegular : {P : Type 0} → Behaviour P → Type 0
IsRegular b = AlwaysReads b NotStray

-- the values of the writes invoked so far, by number: item n is the value of the n-th write, and
-- item 0 is the initial value
abbrev pub by_number : ℕ → Known → List ℕ
by_number value k = value ∷ (k.returned ++ in_progress k.writing)

-- Process p's read, which returns v now, can be assigned write number n: write n has been invoked
-- and has value v (or n is 0, and v is the initial value); and when the read was invoked, no write
-- with a number above n had returned.
pub record IsNumber (value : ℕ) (k : Known) (p v n : ℕ) : Type 0 where
  pub low : (reading p k).since ≤ n
  pub high : n < length (by_number value k)
  pub value_of : slice_index_or (by_number value k) n value ≡ v

-- Each read that returns in these events can be assigned the number of a write, as `IsNumber` says.
-- Each number is at least `floor`, and at least the number of each read that returns earlier in
-- these events. k is what is known before the events.
abbrev pub Numbered : ℕ → ℕ → Known → List (ℕ × Event) → Type 0
Numbered value floor k [] = ⊤
Numbered value floor k (e ∷ es) = (n : ℕ) × ((floor ≤ n) × (OnReturn (λ k p v. IsNumber value k p v n) k e.1 × Numbered value n (after k e.1) es))

-- Atomic: only process 0 writes, and only process 1 reads. On every list of fitting steps, from
-- every initial value, the writes that aren't refused have the numbers 1, 2, .. in order, and the
-- initial value has number 0. Each returned read can be assigned one of these numbers: the read
-- gives the value with that number; the write with that number (if it isn't 0) was invoked before
-- the read returned, and no write with a greater number had returned when the read was invoked; and
-- no read that returned earlier has a greater number.
pub record IsAtomic {P : Type 0} (b : Behaviour P) : Type 0 where
  pub one_writer : HasOneWriter b
  pub one_reader : b.processes ≡ 2
  pub numbered : (value : ℕ) (steps : List Step) → value < b.values → AllFit b steps → Numbered value 0 (initially value) (accepted (recorded b value steps))

-- On every list of fitting steps, from every initial value, no returned read is stray: each gives
-- the value of the last write that returned before the read was invoked (or the initial value, if
-- none did), or of a write that overlaps the read.
abbrev pub NeverStray : {P : Type 0} → Behaviour P → Type 0
NeverStray b = (value : ℕ) (steps : List Step) → value < b.values → AllFit b steps → EachRead NotStray (initially value) (accepted (recorded b value steps))
