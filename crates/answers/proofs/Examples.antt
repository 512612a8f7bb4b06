-- Definitions that claim that something exists: an example of each, and a near miss.
use Rattle.std.proofs.Common.{◌≡◌, ℕ, zero, suc, ◌+◌, ◌<◌, List, [], ◌∷◌, Option, None, Some, length, slice_get, refl, sym, ap, subst, ◌∙◌, true≢false, arith}
use Rattle.std.specs.Prelude.{if◌then◌else◌, ◌==◌}
use Rattle.std.specs.List.{list_all, list_any}
use Rattle.std.proofs.lemmas.Option.{none-some, same_Some}
use Rattle.frames.specs.declared.types.Op.{Op}
use Rattle.frames.specs.declared.types.Op.TheVariants.{Write, Read}
use Rattle.frames.specs.declared.types.Event.TheVariants.{Invoke, Got, Wrote, Stop}
use Rattle.frames.specs.declared.types.Step.{Step}
use Rattle.frames.specs.Behaviour.{Behaviour}
use Rattle.answers.specs.declared.found.Possible.{Possible}
use Rattle.answers.specs.declared.question.After.{After}
use Rattle.answers.specs.declared.question.Question.{Question}
use Rattle.answers.specs.Questions.{IsAcyclic, allows, outcomes_by, next_of, operations_of, HasAnswers, IsAllowed, AreAllowed}
use Rattle.answers.specs.Answers.{IsListed}

-- process 1's first operation follows process 0's first
abbrev follows : After
follows = record { later = record { process = 1; index = 0 }; earlier = record { process = 0; index = 0 } }

-- the value of a write; 0 for any other operation, and if there is none
abbrev value_in : Option Op → ℕ
value_in None = 0
value_in (Some (Write v)) = v
value_in (Some Read) = 0

zero_is_not_one : ◌≡◌ {A = ℕ} 1 0 → ⊥
zero_is_not_one e = omega (arith, e)

-- process 0 writes 1, and process 1 reads
module _ (q : Question) (writes : operations_of q 0 ≡ Write 1 ∷ []) (reads : operations_of q 1 ≡ Read ∷ []) where
  module _ (any : q.after.items ≡ []) where
    next_without_after : (ended : ℕ → ℕ) (p : ℕ) (os : List Op) → operations_of q p ≡ os → next_of q ended p ≡ slice_get os (ended p)
    next_without_after ended p os is i = if list_all (allows ended p) (any i) then slice_get (is i) (ended p) else None

    -- AreAllowed: the read is invoked within the write
    AreAllowed-holds : AreAllowed q [] (Invoke 0 (Write 1) ∷ Invoke 1 Read ∷ Wrote 0 ∷ Got 1 0 ∷ [])
    AreAllowed-holds = (
      next_without_after (λ r. length (outcomes_by r [])) 0 (Write 1 ∷ []) writes,
      (next_without_after (λ r. length (outcomes_by r (Invoke 0 (Write 1) ∷ []))) 1 (Read ∷ []) reads, (tt, (tt, tt))),
    )

    -- IsAllowed fails: the write has ended, and there is no second one
    no_second : IsAllowed q (Invoke 0 (Write 1) ∷ Wrote 0 ∷ []) (Invoke 0 (Write 1)) → ⊥
    no_second h = none-some (Write 1) (sym (next_without_after (λ r. length (outcomes_by r (Invoke 0 (Write 1) ∷ Wrote 0 ∷ []))) 0 (Write 1 ∷ []) writes) ∙ h)

    -- IsAllowed fails: process 0 writes 1, and not 0
    no_other : IsAllowed q [] (Invoke 0 (Write 0)) → ⊥
    no_other h = zero_is_not_one (ap value_in (sym (next_without_after (λ r. length (outcomes_by r [])) 0 (Write 1 ∷ []) writes) ∙ h))

  -- IsAllowed fails: no process may stop
  no_stop : q.may_stop.items ≡ [] → IsAllowed q [] (Stop 0) → ⊥
  no_stop none h = true≢false (sym h ∙ ap (list_any (λ r. 0 == r)) none)

  module _ (one : q.after.items ≡ follows ∷ []) where
    -- IsAllowed: the read, once the write has ended
    after_holds : IsAllowed q (Invoke 0 (Write 1) ∷ Wrote 0 ∷ []) (Invoke 1 Read)
    after_holds i =
        if list_all (allows (λ r. length (outcomes_by r (Invoke 0 (Write 1) ∷ Wrote 0 ∷ []))) 1) (one i) then slice_get (reads i) 0 else None

    -- IsAllowed fails: the read, within the write
    after_fails : IsAllowed q (Invoke 0 (Write 1) ∷ []) (Invoke 1 Read) → ⊥
    after_fails h = none-some Read ((λ i. if list_all (allows (λ r. length (outcomes_by r (Invoke 0 (Write 1) ∷ []))) 1) (sym one i) then slice_get (operations_of q 1) 0 else None) ∙ h)

-- IsListed: a list of answers with its schedule, found for that schedule
IsListed-holds : {P : Type 0} (b : Behaviour P) (q : Question) (a : Possible) → HasAnswers b q.value a.steps.items a.answers.items → IsListed b q (a ∷ []) a.steps.items
IsListed-holds b q a has = record { index = 0; possible = a; stored = refl; answers = has; shortest = omega arith }

-- IsListed fails: nothing is listed
IsListed-fails : {P : Type 0} (b : Behaviour P) (q : Question) (steps : List Step) → IsListed b q [] steps → ⊥
IsListed-fails b q steps h = none-some h.possible h.stored

-- process 0's first operation follows process 1's first
abbrev follows_back : After
follows_back = record { later = record { process = 0; index = 0 }; earlier = record { process = 1; index = 0 } }

-- process 0's first operation follows its second
abbrev follows_itself : After
follows_itself = record { later = record { process = 0; index = 0 }; earlier = record { process = 0; index = 1 } }

-- IsAcyclic: process 1's operations follow process 0's
IsAcyclic-holds : (q : Question) → q.after.items ≡ follows ∷ [] → IsAcyclic q
IsAcyclic-holds q one = record {
  rank = λ p i. i + i + p;
  in_order = λ p i lt. omega arith;
  follows = λ k a get. at k a (ap (λ l. slice_get l k) (sym one) ∙ get);
}
  where
    at : (k : ℕ) (a : After) → slice_get (follows ∷ []) k ≡ Some a
        → a.earlier.index + a.earlier.index + a.earlier.process < a.later.index + a.later.index + a.later.process
    at zero a h = subst (λ (x : After). x.earlier.index + x.earlier.index + x.earlier.process < x.later.index + x.later.index + x.later.process) (same_Some follows a h) (omega arith)
    at (suc k) a h = absurd (none-some a h)

-- IsAcyclic fails: two operations follow each other
IsAcyclic-fails : (q : Question) → q.after.items ≡ follows ∷ follows_back ∷ [] → IsAcyclic q → ⊥
IsAcyclic-fails q two h =
    let one = h.follows 0 follows (ap (λ l. slice_get l 0) two) in
    let other = h.follows 1 follows_back (ap (λ l. slice_get l 1) two) in
    omega (arith, one, other)

-- IsAcyclic fails: a process makes its second operation after its first, which has to follow it
follows_itself_fails : (q : Question) (o u : Op) → operations_of q 0 ≡ o ∷ u ∷ [] → q.after.items ≡ follows_itself ∷ [] → IsAcyclic q → ⊥
follows_itself_fails q o u two one h =
    let long : length (operations_of q 0) ≡ 2 = ap length two in
    let ordered = h.in_order 0 0 (omega (arith, long)) in
    let follow = h.follows 0 follows_itself (ap (λ l. slice_get l 0) one) in
    omega (arith, ordered, follow)
