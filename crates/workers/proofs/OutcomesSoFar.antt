-- The outcomes of the jobs that a loop has run, and of those that it has to go.
use Rattle.std.proofs.Common.{◌≡◌, ℕ, List, [], ◌∷◌, ◌++◌, length, sym, subst, arith, append_assoc, append-nil}
use Rattle.workers.specs.declared.job.Done.{Done}
use Rattle.workers.specs.Outcomes.{IsDoneOf, OneForEach}

module _ {J K R : Type 0} (named : J → K) (gives : J → R → Type 0) where
  -- `all`, with an outcome for each of the jobs `left`, are the outcomes of all jobs
  abbrev pub AreOutcomesSoFar : List J → List J → List (Done K R) → Type 0
  AreOutcomesSoFar jobs left all = (later : List (Done K R)) → OneForEach named gives left later → OneForEach named gives jobs (all ++ later)

  -- `AreOutcomesSoFar` still holds when the outcome of the next job is added
  pub one_more_outcome : (jobs items left : List J) (job : J) (all more : List (Done K R)) (done : Done K R) → items ≡ job ∷ left → IsDoneOf named gives job done → more ≡ all ++ done ∷ [] → AreOutcomesSoFar jobs items all → AreOutcomesSoFar jobs left more
  one_more_outcome jobs items left job all more done split of added goes later rest =
      let on : OneForEach named gives jobs (all ++ done ∷ later) = goes (done ∷ later) (subst (λ (js : List J). OneForEach named gives js (done ∷ later)) (sym split) (of, rest)) in
      subst (λ (l : List (Done K R)). OneForEach named gives jobs (l ++ later)) (sym added)
      (subst (λ (l : List (Done K R)). OneForEach named gives jobs l) (sym (append_assoc all (done ∷ []) later)) on)

  -- once no job is left, the outcomes are those of all jobs
  pub outcomes_of_all : (jobs items : List J) (n : ℕ) (all : List (Done K R)) → n ≡ length items → n ≡ 0 → AreOutcomesSoFar jobs items all → OneForEach named gives jobs all
  outcomes_of_all jobs [] n all len none goes = subst (λ (l : List (Done K R)). OneForEach named gives jobs l) (append-nil all) (goes [] tt)
  outcomes_of_all jobs (job ∷ items) n all len none goes = absurd (omega arith)
