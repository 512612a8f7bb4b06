use Rattle.std.proofs.Common.{◌≡◌, ◌<◌, ◌≤◌, ◌∷◌, [], ◌++◌, ℕ, List, true, is_some, length, get_or, sym, ap, subst, ◌∙◌, arith}
use Rattle.std.proofs.lemmas.List.{length-replicate, length-set}
use Rattle.frames.specs.declared.types.Outcome.{Outcome}
use Rattle.frames.specs.declared.types.Outcome.TheVariants.{Written}
use Rattle.answers.specs.Questions.{next_of, operations_of}
use Rattle.answers.specs.States.{ended_counts}
use Rattle.answers.proofs.Ranked.{IsRankedTo, decides_acyclic, fewer_missing, missing, few_with_one, ranked_with_one, nothing_ended, ranked_none}
use Rattle.answers.proofs.cycles.is_acyclic.Goals as goal

pub loop-p-init : goal.loop-p-init
loop-p-init c =
    let none : (p : ℕ) → ended_counts c.in_ok-answers.answers.items p ≡ 0 = λ p. ap (λ a. ended_counts a p) c.in_ok-answers.ensures ∙ nothing_ended c.args.processes p in
    record {
      each = ap length c.in_ok-answers.ensures ∙ length-replicate c.args.processes [];
      few = λ p. let n = none p in omega (arith, n);
      ranked = ranked_none c.args.question.now (ended_counts c.in_ok-answers.answers.items) none;
    }

pub end_next-requires : goal.end_next-requires
end_next-requires c =
    let there = c.in-Some.ensures.there in
    let each = c.loop-p.invariant.each in
    omega (arith, there, each)

pub loop-p-smaller : goal.loop-p-smaller
loop-p-smaller c =
    let was = c.loop-p.answers.items in
    let there : c.in-Some.p < length was = subst (λ n. c.in-Some.p < n) (sym c.loop-p.invariant.each) c.in-Some.ensures.there in
    let free : is_some (next_of c.args.question.now (ended_counts was) c.in-Some.p) ≡ true = ap (λ a. is_some (next_of c.args.question.now (ended_counts a) c.in-Some.p)) (sym c.deref.ensures.value) ∙ c.in-Some.ensures.free in
    subst (λ (a : List (List Outcome)). missing c.args.question.now.operations.items a < missing c.args.question.now.operations.items was) (sym c.in-Ok.ensures)
    (fewer_missing was c.in-Some.p there c.args.question.now free)

pub loop-p-preserved : goal.loop-p-preserved
loop-p-preserved c =
    let q = c.args.question.now in
    let was = c.loop-p.answers.items in
    let p = c.in-Some.p in
    let there : p < length was = subst (λ n. p < n) (sym c.loop-p.invariant.each) c.in-Some.ensures.there in
    let free : is_some (next_of q (ended_counts was) p) ≡ true = ap (λ a. is_some (next_of q (ended_counts a) p)) (sym c.deref.ensures.value) ∙ c.in-Some.ensures.free in
    record {
      each = ap length c.in-Ok.ensures ∙ (length-set was p (get_or was p [] ++ Written ∷ []) ∙ c.loop-p.invariant.each);
      few = subst (λ (a : List (List Outcome)). (r : ℕ) → ended_counts a r ≤ length (operations_of q r)) (sym c.in-Ok.ensures) (few_with_one was p there q free c.loop-p.invariant.few);
      ranked = subst (λ (a : List (List Outcome)). IsRankedTo q (ended_counts a)) (sym c.in-Ok.ensures) (ranked_with_one was p there q free c.loop-p.invariant.ranked);
    }

pub returns : goal.returns
returns c =
    let q = c.args.question.now in
    let was = c.loop-p.answers.items in
    decides_acyclic q c.requires.named (ended_counts was) c.args.processes c.have_all_ended.result c.requires.lists
    c.loop-p.invariant.ranked c.loop-p.invariant.few
    (λ p lt. ap (λ a. next_of q (ended_counts a) p) (sym c.deref.ensures.value) ∙ c.in_default.ensures.stuck p lt) (
      (λ h. λ p lt. ap (λ a. ended_counts a p) (sym c.deref-2.ensures.value) ∙ c.have_all_ended.ensures.0 h p lt),
      λ all. c.have_all_ended.ensures.1 (λ p lt. ap (λ a. ended_counts a p) c.deref-2.ensures.value ∙ all p lt),
    )
