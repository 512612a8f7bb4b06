-- A register that may refuse an operation in the step that invokes it, but not later.
use Rattle.std.proofs.Common.{◌≡◌, ℕ, ◌<◌, List, [], ◌∷◌, ◌++◌, refl, ap, sym, subst, ◌∙◌, Bool, true, false, Option, Some, None, IsTrue, append-nil, arith}
use Rattle.std.specs.Prelude.{⊤, length}
use Rattle.std.specs.List.{AllByRecursion}
use Rattle.frames.specs.declared.types.Op.{Op}
use Rattle.frames.specs.declared.types.Op.TheVariants.{Read, Write}
use Rattle.frames.specs.declared.types.Layer.{Layer}
use Rattle.frames.specs.declared.types.Next.{Next}
use Rattle.frames.specs.declared.types.Next.TheVariants.{Pending, Done}
use Rattle.frames.specs.declared.types.Outcome.TheVariants.{Value, Written, Spent}
use Rattle.frames.specs.declared.types.Event.{Event}
use Rattle.frames.specs.declared.types.Event.TheVariants.{Invoke, Got, Wrote, Refused, Void, Stop, Chosen}
use Rattle.frames.specs.declared.types.StepEvents.{StepEvents}
use Rattle.frames.specs.declared.types.Step.{Step}
use Rattle.frames.specs.Behaviour.{Behaviour}
use Rattle.frames.specs.Configuration.{events_of, fits_step, replayed, history, in_order, chosen_of, return_of}
use Rattle.frames.specs.Recorded.{AllFit, LoneConfiguration, first_configuration}
use Rattle.frames.proofs.Seen.{Seen, Returned, opening, got, after_step, read_in, reads, seen, refuses, refuses_none, refuses_none_parts, Always, Allowed}
use Rattle.frames.proofs.Replayed.{IsReplayed, history-push, fit-push}
use Rattle.frames.proofs.JoinedLists.{all_left, all_right}
use Rattle.layers.proofs.Law.{Admission, takes_all}

-- `Says` holds of the operation that this event invokes, if any
abbrev pub OnInvoke : (Op → Seen → Type 0) → Option Event → Seen → Type 0
OnInvoke Says (Some (Invoke p o)) s = Says o s
OnInvoke Says _ s = ⊤

-- this event invokes an operation, and `Says` holds of it
abbrev pub Invokes : (Op → Seen → Type 0) → Option Event → Seen → Type 0
Invokes Says (Some (Invoke p o)) s = Says o s
Invokes Says _ s = ⊥

-- A step's events, when the history before shows s: an operation is refused only in the step that
-- invokes it, as the admission says; and returned reads are good.
pub record IsAdmitted (Good : Returned → Type 0) (a : Admission) (s : Seen) (e : StepEvents) : Type 0 where
  pub first : refuses e.first ≡ false
  pub taken : refuses e.second ≡ false → OnInvoke a.Takes e.first s
  pub refused : refuses e.second ≡ true → Invokes a.Refuses e.first s
  pub reads : AllByRecursion Good (read_in e s)

-- `IsAdmitted` holds of a step's events, which take `Seen` from s to z
abbrev pub Admits : (Returned → Type 0) → Admission → Seen → StepEvents → Seen → Type 0
Admits Good a s e z = IsAdmitted Good a s e × (z ≡ after_step e s)

-- on every list of fitting steps from every initial value, `Admits` holds of each step's events
abbrev pub AlwaysAdmits : {P : Type 0} → (Returned → Type 0) → Admission → Behaviour P → Type 0
AlwaysAdmits Good a b = (v : ℕ) (steps : List Step) → v < b.values → AllFit b steps → Allowed (Admits Good a) (opening v) (history b (first_configuration b v) steps)

module _ (Good : Returned → Type 0) (a : Admission) where
  last_admitted : (s : Seen) (es : List StepEvents) (e : StepEvents) → Allowed (Admits Good a) s (es ++ e ∷ []) → IsAdmitted Good a (seen s es) e
  last_admitted s [] e h = h.1.0.0
  last_admitted s (d ∷ es) e h = last_admitted (after_step d s) es e (subst (λ z. Allowed (Admits Good a) z (es ++ e ∷ [])) h.1.0.1 h.1.1)

  -- the events of one more fitting step are as the register promises
  pub reached_admitted : {P : Type 0} (b : Behaviour P) (v : ℕ) (c : LoneConfiguration P) (s : Seen) (step : Step) → AlwaysAdmits Good a b → v < b.values → IsReplayed b v c s → fits_step b step ≡ true
      → IsAdmitted Good a s (events_of b c step)
  reached_admitted b v c s step all l h f =
      let first = first_configuration b v in
      let e : StepEvents = events_of b (replayed b first h.steps) step in
      let k = all v (h.steps ++ step ∷ []) l (fit-push b h.steps step h.fit f) in
      let w : IsAdmitted Good a (seen (opening v) (history b first h.steps)) e =
      last_admitted (opening v) (history b first h.steps) e (subst (Allowed (Admits Good a) (opening v)) (history-push b h.steps step first) k) in
      subst (λ x. IsAdmitted Good a s (events_of b x step)) h.leads (subst (λ z. IsAdmitted Good a z e) h.reports w)

  -- a pending operation isn't refused, and a read that it returns is good
  pub gone_admitted : (who : ℕ) (chosen : Option (ℕ × Bool)) (end : Option Event) (s : Seen) → IsAdmitted Good a s (in_order (chosen_of who chosen) end)
      → (refuses end ≡ false) × AllByRecursion Good (got end s)
  gone_admitted who None end s h = (h.first, subst (AllByRecursion Good) (append-nil (got end s)) h.reads)
  gone_admitted who (Some x) end s h = (never (refuses end) refl, h.reads)
    where
      never : (b : Bool) → refuses end ≡ b → refuses end ≡ false
      never false e = e
      never true e = absurd (h.refused e)

-- an operation's end that is a refusal has the outcome `Spent`
pub spent_end : {P : Type 0} (who : ℕ) (next : Next P) → refuses (return_of who next) ≡ true → (layer : Layer) × (next ≡ Done (Spent layer))
spent_end who (Pending p) e = absurd (cc e)
spent_end who (Done (Value v)) e = absurd (cc e)
spent_end who (Done Written) e = absurd (cc e)
spent_end who (Done (Spent layer)) e = (layer, refl)

invoke_taken : (a : Admission) → ((o : Op) (s : Seen) → a.Takes o s) → (e : Option Event) (s : Seen) → OnInvoke a.Takes e s
invoke_taken a all None s = tt
invoke_taken a all (Some (Invoke p o)) s = all o s
invoke_taken a all (Some (Got p x)) s = tt
invoke_taken a all (Some (Wrote p)) s = tt
invoke_taken a all (Some (Refused p l)) s = tt
invoke_taken a all (Some (Void p r)) s = tt
invoke_taken a all (Some (Stop p)) s = tt
invoke_taken a all (Some (Chosen p b v)) s = tt

-- a history that refuses nothing, and whose reads are good, is admitted if `Takes` always holds
history_admitted : (Good : Returned → Type 0) (a : Admission) → ((o : Op) (s : Seen) → a.Takes o s) → (s : Seen) (es : List StepEvents) → IsTrue (refuses_none es) → AllByRecursion Good (reads s es)
    → Allowed (Admits Good a) s es
history_admitted Good a all s [] f g = tt
history_admitted Good a all s (e ∷ es) f g =
    let n = refuses_none_parts (refuses e.first) (refuses e.second) (refuses_none es) f in (
      after_step e s,
      (
        (
          record {
            first = n.0;
            taken = λ k. invoke_taken a all e.first s;
            refused = λ k. absurd (let z : true ≡ false = sym k ∙ n.1.0 in cc);
            reads = all_left Good (read_in e s) (reads (after_step e s) es) g;
          },
          refl,
        ),
        history_admitted Good a all (after_step e s) es n.1.1 (all_right Good (read_in e s) (reads (after_step e s) es) g),
      ),
    )

-- a register that refuses nothing, and whose reads are good, is admitted if `Takes` always holds
pub always_admits : {P : Type 0} (Good : Returned → Type 0) (a : Admission) (b : Behaviour P) → ((o : Op) (s : Seen) → a.Takes o s) → Always Good b → AlwaysAdmits Good a b
always_admits Good a b takes always v steps lt fit =
    let promised = always v steps lt fit in
    history_admitted Good a takes (opening v) (history b (first_configuration b v) steps) promised.0 promised.1

-- a write may be taken if L is true of the number of writes taken before; `overlaps 0` has their
-- values, if process 0 never reads
abbrev pub takes_if : (ℕ → Bool) → Op → Seen → Type 0
takes_if L (Write x) s = L (length (s.overlaps 0)) ≡ true
takes_if L Read s = ⊤

-- a write may be refused if L is false of that number
abbrev pub refuses_if : (ℕ → Bool) → Op → Seen → Type 0
refuses_if L (Write x) s = L (length (s.overlaps 0)) ≡ false
refuses_if L Read s = ⊥

-- a register that takes a write if L is true of the number of writes taken before, and otherwise
-- refuses it; and takes every read
abbrev pub by_count : (ℕ → Bool) → Admission
by_count L = record { Takes = λ o s. takes_if L o s; Refuses = λ o s. refuses_if L o s }
