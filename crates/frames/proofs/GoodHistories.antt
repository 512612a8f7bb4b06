-- What a history shows of a register that refuses nothing, and whose returned reads are good.
use Rattle.std.proofs.Common.{◌≡◌, ℕ, List, [], ◌∷◌, refl, ap, sym, subst, Bool, false, Option, Some, None, IsTrue, append-nil}
use Rattle.std.specs.Prelude.{if◌then◌else◌}
use Rattle.std.specs.List.{AllByRecursion}
use Rattle.schedule_steps.specs.declared.types.Op.{Op}
use Rattle.frames.specs.declared.types.Event.{Event}
use Rattle.frames.specs.declared.types.Event.TheVariants.{Invoke, Void, Stop}
use Rattle.frames.specs.declared.types.Reason.{Reason}
use Rattle.frames.specs.declared.types.StepEvents.{StepEvents}
use Rattle.frames.specs.Configuration.{chosen_of, in_order}
use Rattle.frames.proofs.Seen.{Seen, Returned, after_step, read_in, reads, sees, got, refuses, refuses_none, Allowed}
use Rattle.frames.proofs.JoinedLists.{all_both}

-- a step refuses nothing and returns only good reads, if the history before it shows s
pub record HasGoodEvents (Good : Returned → Type 0) (s : Seen) (e : StepEvents) : Type 0 where
  pub first : refuses e.first ≡ false
  pub second : refuses e.second ≡ false
  pub reads : AllByRecursion Good (read_in e s)

-- what is seen after the invocation of an operation, unless it is refused at once
pub begun_seen : (who : ℕ) (o : Op) (end : Option Event) (s : Seen) → refuses end ≡ false
    → after_step (in_order (Some (Invoke who o)) end) s ≡ sees end (sees (Some (Invoke who o)) s)
begun_seen who o end s e = ap (λ c. if c then s else sees end (sees (Some (Invoke who o)) s)) e

-- what is seen after a bit action of a pending operation, unless it ends in a refusal
pub gone_seen : (who : ℕ) (chosen : Option (ℕ × Bool)) (end : Option Event) (s : Seen) → refuses end ≡ false
    → after_step (in_order (chosen_of who chosen) end) s ≡ sees end s
gone_seen who None end s e = refl
gone_seen who (Some c) end s e = ap (λ c. if c then s else sees end s) e

-- if a bit action's events are good, its operation isn't refused, and a read that it returns is
-- good
pub gone_reads : (Good : Returned → Type 0) (who : ℕ) (chosen : Option (ℕ × Bool)) (end : Option Event) (s : Seen) → HasGoodEvents Good s (in_order (chosen_of who chosen) end)
    → (refuses end ≡ false) × AllByRecursion Good (got end s)
gone_reads Good who None end s h = (h.first, subst (AllByRecursion Good) (append-nil (got end s)) h.reads)
gone_reads Good who (Some c) end s h = (h.second, h.reads)

-- a step's events take `Seen` from s to z, refuse nothing, and return only good reads
abbrev pub IsGoodStep : (Returned → Type 0) → Seen → StepEvents → Seen → Type 0
IsGoodStep Good s e z = HasGoodEvents Good s e × (z ≡ after_step e s)

-- a step that invokes an operation, which may end at once, is good if the operation isn't refused,
-- and a read that it returns is good
pub good_begun : (Good : Returned → Type 0) (p : ℕ) (o : Op) (end : Option Event) (s : Seen) → refuses end ≡ false → AllByRecursion Good (got end (sees (Some (Invoke p o)) s))
    → IsGoodStep Good s (in_order (Some (Invoke p o)) end) (sees end (sees (Some (Invoke p o)) s))
good_begun Good p o end s f g = (record { first = refl; second = f; reads = g }, sym (begun_seen p o end s f))

-- a bit action, which may end its operation, is good if the operation isn't refused, and a read
-- that it returns is good
pub good_gone : (Good : Returned → Type 0) (p : ℕ) (chosen : Option (ℕ × Bool)) (end : Option Event) (s : Seen) → refuses end ≡ false → AllByRecursion Good (got end s)
    → IsGoodStep Good s (in_order (chosen_of p chosen) end) (sees end s)
good_gone Good p None end s f g = (record { first = f; second = refl; reads = all_both Good (got end s) [] g tt }, refl)
good_gone Good p (Some c) end s f g = (record { first = refl; second = f; reads = g }, sym (gone_seen p (Some c) end s f))

pub good_void : (Good : Returned → Type 0) (s : Seen) (p : ℕ) (reason : Reason) → IsGoodStep Good s (in_order (Some (Void p reason)) None) s
good_void Good s p reason = (record { first = refl; second = refl; reads = tt }, refl)

pub good_stop : (Good : Returned → Type 0) (s : Seen) (p : ℕ) → IsGoodStep Good s (in_order (Some (Stop p)) None) s
good_stop Good s p = (record { first = refl; second = refl; reads = tt }, refl)

pub good_refuses_none : (Good : Returned → Type 0) (s : Seen) (es : List StepEvents) → Allowed (IsGoodStep Good) s es → IsTrue (refuses_none es)
good_refuses_none Good s [] h = refl
good_refuses_none Good s (e ∷ es) h =
    let k : IsTrue (refuses_none es) = good_refuses_none Good h.0 es h.1.1 in
    rw (h.1.0.0.first, h.1.0.0.second) k

pub good_reads : (Good : Returned → Type 0) (s : Seen) (es : List StepEvents) → Allowed (IsGoodStep Good) s es → AllByRecursion Good (reads s es)
good_reads Good s [] h = tt
good_reads Good s (e ∷ es) h =
    all_both Good (read_in e s) (reads (after_step e s) es) h.1.0.0.reads
    (good_reads Good (after_step e s) es (subst (λ z. Allowed (IsGoodStep Good) z es) h.1.0.1 h.1.1))
