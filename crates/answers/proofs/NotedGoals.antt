-- Which of the states that are found are done, as the search noted.
use Rattle.std.proofs.Common.{◌≡◌, ℕ, zero, suc, ◌+◌, ◌<◌, ◌≤◌, inl, inr, Bool, true, false, List, map, length, Some, slice_get, option_map, refl, sym, ap, ◌∙◌, true≢false, arith}
use Rattle.std.specs.Prelude.{◌&&◌, slice_index_or}
use Rattle.std.specs.Bool.{Decides}
use Rattle.std.proofs.lemmas.Bool.{and_parts, cases_lt}
use Rattle.std.proofs.lemmas.Option.{slice_get-map, get_or_from_slice_get, slice_get_cases}
use Rattle.frames.specs.Behaviour.{Behaviour}
use Rattle.breadth_first.specs.declared.mark.Mark.{Mark}
use Rattle.breadth_first.specs.Paths.{depth_at}
use Rattle.answers.specs.declared.found.Possible.{Possible}
use Rattle.answers.specs.declared.question.Question.{Question}
use Rattle.answers.specs.Gathered.{IsGathered}
use Rattle.answers.specs.Graphs.{all_over}
use Rattle.answers.specs.States.{StateOf, AreAllOver, is_over}
use Rattle.answers.proofs.Gathering.{gathered_skip}

module _ {R P : Type 0} (q : Question) (x : StateOf R P) where
  -- all is over exactly if each process's operations are
  pub over_below : (n : ℕ) → Decides (all_over q x n) ((p : ℕ) → p < n → is_over q x p ≡ true)
  over_below zero = (λ h p lt. absurd (omega (arith, lt)), λ h. refl)
  over_below (suc n) = (
    λ h p lt. elim (cases_lt p n) [
      | inl low ↦ (over_below n).0 (and_parts (is_over q x n) (all_over q x n) h).1 p low
      | inr high ↦ let e : p ≡ n = omega (arith, lt, high) in ap (is_over q x) e ∙ (and_parts (is_over q x n) (all_over q x n) h).0
    ],
    λ h. let e = h n (omega arith) in let f = (over_below n).1 (λ p lt. h p (omega (arith, lt))) in λ i. e i && f i,
  )

-- f of the state at an index is what is noted for that index
goal_read : {X : Type 0} (f : X → Bool) (nodes : List X) (goals : List Bool) (index : ℕ) (k : X) (d : Bool) → goals ≡ map f nodes → slice_get nodes index ≡ Some k
    → d ≡ slice_index_or goals index d → d ≡ f k
goal_read f nodes goals index k d e stored read =
    read ∙ get_or_from_slice_get goals index (f k) d (ap (λ l. slice_get l index) e ∙ (slice_get-map f nodes index ∙ ap (option_map f) stored))

module _ {R P : Type 0} (b : Behaviour P) (q : Question) (nodes : List (StateOf R P)) (goals : List Bool) (marks : List Mark) (marked : length marks ≡ length nodes)
    (by_goal : goals ≡ map (λ x. all_over q x b.processes) nodes) (index : ℕ) (d : Bool) (read : d ≡ slice_index_or goals index d) where
  -- a state that is noted as a goal is done
  pub goal_done : (k : StateOf R P) → slice_get nodes index ≡ Some k → d ≡ true → AreAllOver b q k
  goal_done k stored is_true = (over_below q k b.processes).0 (sym (goal_read (λ x. all_over q x b.processes) nodes goals index k d by_goal stored read) ∙ is_true)

  -- a state that isn't done is passed over
  pub gathered_not_done : ((i j : ℕ) → i ≤ j → j < length nodes → depth_at marks i ≤ depth_at marks j) → (found : List Possible) → IsGathered b q nodes marks index found
      → index < length marks → d ≡ false → IsGathered b q nodes marks (index + 1) found
  gathered_not_done sorted found g lt is_false = elim ((slice_get_cases nodes index).1) [
    | inl a ↦ gathered_skip b q nodes marks sorted index found g a.0 a.2 (λ done.
        absurd (true≢false (sym ((over_below q a.0 b.processes).1 done) ∙ (sym (goal_read (λ x. all_over q x b.processes) nodes goals index a.0 d by_goal a.2 read) ∙ is_false))))
    | inr n ↦ absurd (omega (arith, lt, marked, n.0))
  ]
