-- Lamport's safe, regular and atomic registers, defined by what each returned read gives.
use Rattle.std.specs.Prelude.{◌≡◌, ℕ, ◌+◌, ◌<◌, ◌≤◌, List, ◌∷◌, ◌++◌, ◌⊎◌, length}
use Rattle.std.specs.List.{filter}
use Rattle.frames.specs.declared.types.Op.TheVariants as op
use Rattle.frames.specs.declared.types.Layer.{Layer}
use Rattle.frames.specs.declared.types.Event.{Event}
use Rattle.frames.specs.declared.types.Event.TheVariants.{Invoke, Refused}
use Rattle.frames.specs.declared.types.Step.{Step}
use Rattle.frames.specs.Behaviour.{Behaviour}
use Rattle.frames.specs.OneWriter.{HasOneWriter}
use Rattle.frames.specs.Recorded.{AllFit, recorded}
use Rattle.frames.specs.correctness.Regularity.{NoneRefused}
use Rattle.pages.specs.VerdictWords.{ReturnedRead, during, afterwards, is_written, returned_reads, IsFresh, EndsBy, IsOverlapping}

-- a write of the value v overlaps the read r
abbrev pub Overlaps : {history : List (ℕ × Event)} → ℕ → ReturnedRead history → Type 0
Overlaps v r = IsOverlapping v r.earlier (during r) (afterwards r)

-- what safe says of a read: if no write overlaps the read, the read gives the value written last
-- before it (the initial value if no value was written before)
abbrev pub FreshIfAlone : {history : List (ℕ × Event)} → ℕ → ReturnedRead history → Type 0
FreshIfAlone initial r = ((v : ℕ) → ¬ Overlaps v r) → IsFresh initial r.value r.earlier

-- what regular says of a read: the read gives the value written last before it (the initial value
-- if no value was written before), or that of a write that overlaps the read
abbrev pub FreshOrOverlapping : {history : List (ℕ × Event)} → ℕ → ReturnedRead history → Type 0
FreshOrOverlapping initial r = IsFresh initial r.value r.earlier ⊎ Overlaps r.value r

-- a register has one writer, and on every list of fitting steps, from every initial value, it
-- refuses no operation, and `Says` holds of each read that returned
pub record AlwaysInWords {P : Type 0} (b : Behaviour P) (Says : (history : List (ℕ × Event)) → ℕ → ReturnedRead history → Type 0) : Type 0 where
  pub one_writer : HasOneWriter b
  pub refuses_none : (value : ℕ) (steps : List Step) → value < b.values → AllFit b steps → NoneRefused (recorded b value steps)
  pub each_read : (value : ℕ) (steps : List Step) → value < b.values → AllFit b steps → (r : ReturnedRead (recorded b value steps)) → Says (recorded b value steps) value r

-- Lamport's safe register: it has one writer, refuses no operation, and a read that no write
-- overlaps gives the value written last before it
abbrev pub IsSafeInWords : {P : Type 0} → Behaviour P → Type 0
IsSafeInWords b = AlwaysInWords b (λ history initial r. FreshIfAlone initial r)

-- Lamport's regular register: it has one writer, refuses no operation, and each read gives the
-- value written last before it, or that of a write that overlaps it
abbrev pub IsRegularInWords : {P : Type 0} → Behaviour P → Type 0
IsRegularInWords b = AlwaysInWords b (λ history initial r. FreshOrOverlapping initial r)

-- how many writes return in these events
abbrev pub returned_writes : List (ℕ × Event) → ℕ
returned_writes events = length (filter (λ e. is_written e.1) events)

-- Write number n writes v: it is invoked in `events`, after n - 1 writes have returned there, and
-- is never refused: neither in the rest of `events` nor in `later`, the events that follow.
pub record IsWrite (n v : ℕ) (events later : List (ℕ × Event)) : Type 0 where
  pub before : List (ℕ × Event)
  pub step : ℕ
  pub since : List (ℕ × Event)
  pub split : events ≡ before ++ (step, Invoke 0 (op.Write v)) ∷ since
  pub unrefused : (layer : Layer) → ¬ EndsBy 0 (Refused 0 layer) (since ++ later)
  pub number : n ≡ returned_writes before + 1

-- The read r can be assigned write number n; number 0 is the initial value. The read gives the
-- value of that write, which is invoked before the read returns; and no later write returned before
-- the read was invoked.
pub record NumbersRead {history : List (ℕ × Event)} (initial n : ℕ) (r : ReturnedRead history) : Type 0 where
  pub low : returned_writes r.earlier ≤ n
  pub write : ((n ≡ 0) × (r.value ≡ initial)) ⊎ IsWrite n r.value (r.earlier ++ during r) (afterwards r)

-- each returned read can be assigned a write whose value it gives, as `NumbersRead` states, so
-- that, of two reads, the first to return is never assigned the later write; `number k` is the
-- number of the write assigned to the read that returns after k others
pub record AreNumbered (initial : ℕ) (history : List (ℕ × Event)) : Type 0 where
  pub number : ℕ → ℕ
  pub rises : (i j : ℕ) → i ≤ j → number i ≤ number j
  pub each : (r : ReturnedRead history) → NumbersRead initial (number (returned_reads (r.earlier ++ during r))) r

-- Lamport's atomic register with one writer and one reader: on every list of fitting steps, from
-- every initial value, the returned reads can be assigned writes in order (`AreNumbered`)
pub record IsAtomicInWords {P : Type 0} (b : Behaviour P) : Type 0 where
  pub one_writer : HasOneWriter b
  pub one_reader : b.processes ≡ 2
  pub numbered : (value : ℕ) (steps : List Step) → value < b.values → AllFit b steps → AreNumbered value (recorded b value steps)
