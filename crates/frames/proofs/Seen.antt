-- What a history shows, step by step: the fold over which the laws of layers are proved.
-- `OneWriterPromises` shows that this fold and `Known` agree.
use Rattle.std.specs.Prelude.{◌≡◌, ◌≢◌, ℕ, ◌<◌, Bool, true, false, Option, Some, None, List, [], ◌∷◌, ◌++◌, ◌==◌, ◌&&◌, ◌||◌, if◌then◌else◌, IsTrue}
use Rattle.std.specs.List.{list_any, AllByRecursion}
use Rattle.std.proofs.Common.{refl, ap, eq-eqb, rules}
use Rattle.schedule_steps.specs.declared.types.Op.TheVariants.{Read, Write}
use Rattle.schedule_steps.specs.declared.types.Step.{Step}
use Rattle.frames.specs.declared.types.Event.{Event}
use Rattle.frames.specs.declared.types.Event.TheVariants.{Invoke, Got, Wrote, Refused}
use Rattle.frames.specs.declared.types.StepEvents.{StepEvents}
use Rattle.frames.specs.declared.verdict.Verdict.{Verdict}
use Rattle.frames.specs.declared.verdict.Verdict.TheVariants.{Fresh, Overlap, Stray}
use Rattle.frames.specs.Behaviour.{Behaviour}
use Rattle.frames.specs.Configuration.{history}
pub use Rattle.frames.specs.Configuration.{end_event}
use Rattle.frames.specs.Recorded.{AllFit, first_configuration}
use Rattle.frames.specs.correctness.Regularity.{in_progress}
use Rattle.frames.proofs.Pointwise.{put}

-- a returned read: its process, its value, the value that was fresh at its invocation, and the
-- values of the writes that it overlaps
pub record Returned : Type 0 where
  pub reader : ℕ
  pub value : ℕ
  pub fresh : ℕ
  pub overlaps : List ℕ

-- whether x is one of these values
abbrev pub among : ℕ → List ℕ → Bool
among x vs = list_any (λ v. v == x) vs

pub among_more : (x v : ℕ) (vs : List ℕ) → IsTrue (among x vs) → IsTrue (among x (v ∷ vs))
among_more x v vs h = elim (v == x) as (λ c. IsTrue (c || among x vs)) [ true ↦ refl | false ↦ h ]

pub among_here : (x : ℕ) (vs : List ℕ) → IsTrue (among x (x ∷ vs))
among_here x vs = ap (λ c. c || among x vs) (eq-eqb x x refl)

-- the verdict on a returned read
abbrev pub verdict : Returned → Verdict
verdict x = if x.value == x.fresh then Fresh else if among x.value x.overlaps then Overlap else Stray

-- What a history shows: `last` is the last value written, at first the initial one; `writing` is
-- the value being written, if any. For each process's last read, `fresh` is the value fresh at its
-- invocation, and `overlaps` has the values of the writes in progress then or invoked since.
pub record Seen : Type 0 where
  pub last : ℕ
  pub writing : Option ℕ
  pub fresh : ℕ → ℕ
  pub overlaps : ℕ → List ℕ

-- what is shown before the first event, if the initial value is v
abbrev pub opening : ℕ → Seen
opening v = record { last = v; writing = None; fresh = λ p. v; overlaps = λ p. [] }

-- the last value written, once the write in progress, if any, has returned
abbrev pub now_last : Option ℕ → ℕ → ℕ
now_last None x = x
now_last (Some v) x = v

-- what is shown after one more event, if there is one
abbrev pub sees : Option Event → Seen → Seen
sees (Some (Invoke p (Write v))) s = record s { writing = Some v; overlaps = λ r. v ∷ s.overlaps r }
sees (Some (Invoke p Read)) s = record s { fresh = put p s.last s.fresh; overlaps = put p (in_progress s.writing) s.overlaps }
sees (Some (Wrote p)) s = record s { last = now_last s.writing s.last; writing = None }
sees _ s = s

-- whether there is an event, and it is a refusal
abbrev pub refuses : Option Event → Bool
refuses (Some (Refused _ _)) = true
refuses _ = false

-- what is shown after one more step; an operation refused in the step that invokes it counts for
-- nothing
abbrev pub after_step : StepEvents → Seen → Seen
after_step e s = if refuses e.second then s else sees e.second (sees e.first s)

-- the read that returns in this event, as a list of one item; an empty list if none does
abbrev pub got : Option Event → Seen → List Returned
got (Some (Got p x)) s = record { reader = p; value = x; fresh = s.fresh p; overlaps = s.overlaps p } ∷ []
got _ s = []

-- the reads that return in this step
abbrev pub read_in : StepEvents → Seen → List Returned
read_in e s = got e.first s ++ got e.second (sees e.first s)

-- the returned reads of a history, in the order they returned
abbrev pub reads : Seen → List StepEvents → List Returned
reads s [] = []
reads s (e ∷ es) = read_in e s ++ reads (after_step e s) es

-- what is shown after all these steps
abbrev pub seen : Seen → List StepEvents → Seen
seen s [] = s
seen s (e ∷ es) = seen (after_step e s) es

-- whether no event of these steps is a refusal
abbrev pub refuses_none : List StepEvents → Bool
refuses_none [] = true
refuses_none (e ∷ es) = (if refuses e.first then false else if refuses e.second then false else true) && refuses_none es

-- what `refuses_none` says of a step's two events, a and b, and of all later steps, c
pub refuses_none_parts : (a b c : Bool) → IsTrue ((if a then false else if b then false else true) && c) → (a ≡ false) × ((b ≡ false) × IsTrue c)
refuses_none_parts a b c h = (search (rules, h), (search (rules, h), search (rules, h)))

-- on every list of fitting steps from every initial value, no operation is refused, and each
-- returned read is good
abbrev pub Always : {P : Type 0} → (Returned → Type 0) → Behaviour P → Type 0
Always Good b =
    (v : ℕ) (steps : List Step) → v < b.values → AllFit b steps
    → IsTrue (refuses_none (history b (first_configuration b v) steps)) × AllByRecursion Good (reads (opening v) (history b (first_configuration b v) steps))

-- a read that overlaps no write is fresh
abbrev pub IsFreshAlone : Returned → Type 0
IsFreshAlone x = x.overlaps ≡ [] → verdict x ≡ Fresh

abbrev pub IsNotStray : Returned → Type 0
IsNotStray x = verdict x ≢ Stray

-- `Up` allows each step's events, given what is known before it, and says what is known next
abbrev pub Allowed : {U : Type 0} → (U → StepEvents → U → Type 0) → U → List StepEvents → Type 0
Allowed Up u [] = Unit {0}
Allowed {U = U} Up u (e ∷ es) = (z : U) × (Up u e z × Allowed Up z es)
