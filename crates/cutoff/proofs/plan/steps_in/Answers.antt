use Rattle.std.proofs.Common.{◌≡◌, ℕ, ◌+◌, ◌<◌, ◌≤◌, List, [], ◌∷◌, ◌++◌, length, map, drop, get_or, sym, ap, ◌∙◌, append_assoc, append-nil}
use Rattle.std.proofs.lemmas.List.{at_drop_more, at_drop_all}
use Rattle.frames.specs.declared.types.Step.{Step}
use Rattle.schedule_trie.specs.declared.slot.Slot.{Slot}
use Rattle.schedule_trie.specs.Forest.{step_of}
use Rattle.cutoff.proofs.plan.steps_in.Goals as goal

-- one more step
steps_on : (slots : List Slot) (i : ℕ) (d : Slot) (taken new all : List Step) → i < length slots → taken ++ map step_of (drop i slots) ≡ all → new ≡ taken ++ step_of (get_or slots i d) ∷ []
    → new ++ map step_of (drop (i + 1) slots) ≡ all
steps_on slots i d taken new all h was added =
    ap (λ l. l ++ map step_of (drop (i + 1) slots)) added ∙ append_assoc taken (step_of (get_or slots i d) ∷ []) (map step_of (drop (i + 1) slots))
    ∙ ap (λ l. taken ++ l) (sym (at_drop_more (map step_of) slots i d h)) ∙ was

-- after the last cell, the steps taken are all steps
steps_done : (slots : List Slot) (i : ℕ) (taken all : List Step) → length slots ≤ i → taken ++ map step_of (drop i slots) ≡ all → taken ≡ all
steps_done slots i taken all past was = sym (append-nil taken) ∙ ap (λ l. taken ++ l) (sym (at_drop_all (map step_of) slots i past)) ∙ was

pub loop-slot-preserved : goal.loop-slot-preserved
loop-slot-preserved c =
    let was = c.loop-slot.invariant in
    let pushed = c.push_reserved.ensures in record {
      steps = steps_on c.args.slots.now c.loop-slot.slot-index _ c.loop-slot.steps.items c.push_reserved.new.self.items (map step_of c.args.slots.now) c.loop-slot-test.true was.steps pushed.items;
      taken = pushed.len ∙ ap (λ n. n + 1) was.taken;
      room = pushed.capacity ∙ was.room;
    }

pub returns : goal.returns
returns c =
    steps_done c.args.slots.now c.loop-slot.slot-index c.loop-slot.steps.items (map step_of c.args.slots.now) c.loop-slot-test.false c.loop-slot.invariant.steps
