use Rattle.std.proofs.Common.{◌≡◌, ℕ, ◌+◌, ◌<◌, ◌≤◌, List, [], ◌∷◌, ◌++◌, length, map, drop, get_or, sym, ap, ◌∙◌, append_assoc, append-nil}
use Rattle.std.proofs.lemmas.List.{at_drop_more, at_drop_all}
use Rattle.std.proofs.lemmas.Result.{IfOk-from_err}
use Rattle.schedule_steps.specs.declared.types.Step.{Step}
use Rattle.branch_terms.specs.declared.slot.Slot.{Slot}
use Rattle.branch_terms.specs.Forest.{step_of}
use Rattle.schedule_trie.proofs.trie.push_steps.Goals as goal

-- `done` are the steps added so far
module _ (slots : List Slot) (i : ℕ) (done all : List Step) (was : done ++ map step_of (drop i slots) ≡ all) where
  one_more : (d : Slot) (more : List Step) → i < length slots → more ≡ done ++ (get_or slots i d).step ∷ []
      → more ++ map step_of (drop (i + 1) slots) ≡ all
  one_more d more less new =
      ap (λ l. l ++ map step_of (drop (i + 1) slots)) new
      ∙ append_assoc done ((get_or slots i d).step ∷ []) (map step_of (drop (i + 1) slots))
      ∙ ap (λ l. done ++ l) (sym (at_drop_more (map step_of) slots i d less))
      ∙ was

  at_end : length slots ≤ i → done ≡ all
  at_end past = sym (append-nil done) ∙ ap (λ l. done ++ l) (sym (at_drop_all (map step_of) slots i past)) ∙ was

pub loop-slot-preserved : goal.loop-slot-preserved
loop-slot-preserved c =
    one_more c.args.slots.now c.loop-slot.slot-index c.loop-slot.steps.items _ c.loop-slot.invariant _
    c.push.new.self.items c.loop-slot-test.true c.in_ok-push.ensures.items

pub returns-in_err-push : goal.returns-in_err-push
returns-in_err-push c = IfOk-from_err _ _ c.from_residual.ensures.0

pub returns : goal.returns
returns c =
    at_end c.args.slots.now c.loop-slot.slot-index c.loop-slot.steps.items _ c.loop-slot.invariant
    c.loop-slot-test.false
