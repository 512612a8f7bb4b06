use Rattle.std.proofs.Common.{◌≡◌, ◌≤◌, ℕ, map, ◌<◌, ◌++◌, ◌∷◌, [], length, sym, ap, subst, ◌∙◌, arith}
use Rattle.std.proofs.lemmas.List.{length-map, take_all}
use Rattle.schedule_trie.specs.Trie.{forest}
use Rattle.branch_terms.specs.Forest.{Forest, name_of}
use Rattle.branch_terms.specs.Limbs.{FitLimits, AreLawfulLimbs, forest_of, limbs}
use Rattle.branch_terms.specs.Renumbering.{IsRenumbered}
use Rattle.branch_terms.proofs.LimbsKept.{limbs_kept}
use Rattle.branch_terms.proofs.LimbsLawful.{limbs_lawful}
use Rattle.schedule_trie.proofs.limbs.LimbLimits.{limbs_within}
use Rattle.schedule_trie.proofs.limbs.LimbsSaved.{length-limbs}
use Rattle.schedule_trie.proofs.lists.ListParts.{taken_next}
use Rattle.branch_terms.proofs.Lists.{slice_get_some}
use Rattle.schedule_trie.proofs.trie.Trie.limbs.Goals as goal

past_all : (f : Forest) {count i : ℕ} → count ≡ length f.branches → count ≤ i → length (limbs f) ≤ i
past_all f is past = omega (arith, length-limbs f, is, past)

pub loop-index-init : goal.loop-index-init
loop-index-init g c = record { reported = c.new-limbs.ensures.items; marked = c.in_ok-marks.ensures }

pub unreachable-requires : goal.unreachable-requires
unreachable-requires g c =
    let branches = (forest c.args.self.now).branches in
    let names = length-map branches name_of in
    let there = slice_get_some (map name_of branches) c.loop-index.index
    (omega (arith, names, c.branches-index-end.ensures.count, c.loop-index-test.true)) in
    c.in_default.not-Some there.0 (c.name_at.ensures ∙ there.1)

pub limb_at-requires-clause-marks : goal.limb_at-requires-clause-marks
limb_at-requires-clause-marks g c = c.loop-index.invariant.marked

pub loop-index-preserved : goal.loop-index-preserved
loop-index-preserved g c = record {
  reported = c.in_ok-push.ensures.items ∙ ap (λ l. l ++ c.in_ok-limb_at.field-0 ∷ []) c.loop-index.invariant.reported
      ∙ sym (taken_next (limbs (forest c.args.self.now)) c.loop-index.index c.in_ok-limb_at.field-0 c.in_ok-limb_at.ensures.limb);
  marked = c.in_ok-limb_at.ensures.marks;
}

pub returns-clause-limbs : goal.returns-clause-limbs
returns-clause-limbs g c =
    c.loop-index.invariant.reported ∙ take_all c.loop-index.index (limbs (forest c.args.self.now)) (past_all (forest c.args.self.now) c.branches-index-end.ensures.count c.loop-index-test.false)

pub returns-clause-kept : goal.returns-clause-kept
returns-clause-kept g c =
    let change = c.loop-index.invariant.reported ∙ take_all c.loop-index.index (limbs (forest c.args.self.now)) (past_all (forest c.args.self.now) c.branches-index-end.ensures.count c.loop-index-test.false) in
    subst (λ l. IsRenumbered (forest c.args.self.now) (forest_of l)) (sym change) (limbs_kept (forest c.args.self.now) c.lemma_invariant.ensures.forest)

pub returns-clause-lawful : goal.returns-clause-lawful
returns-clause-lawful g c =
    let change = c.loop-index.invariant.reported ∙ take_all c.loop-index.index (limbs (forest c.args.self.now)) (past_all (forest c.args.self.now) c.branches-index-end.ensures.count c.loop-index-test.false) in
    subst AreLawfulLimbs (sym change) (limbs_lawful (forest c.args.self.now) c.lemma_invariant.ensures.forest c.lemma_invariant.ensures.names)

pub returns-clause-some : goal.returns-clause-some
returns-clause-some g c =
    let change = c.loop-index.invariant.reported ∙ take_all c.loop-index.index (limbs (forest c.args.self.now)) (past_all (forest c.args.self.now) c.branches-index-end.ensures.count c.loop-index-test.false) in
    subst (λ l. 0 < length l) (sym change) (omega (arith, length-limbs (forest c.args.self.now), c.branches-index-end.ensures.count, c.branches-index-end.ensures.some))

pub returns-clause-within : goal.returns-clause-within
returns-clause-within g c =
    let change = c.loop-index.invariant.reported ∙ take_all c.loop-index.index (limbs (forest c.args.self.now)) (past_all (forest c.args.self.now) c.branches-index-end.ensures.count c.loop-index-test.false) in
    subst (FitLimits c.args.self.now.limits) (sym change) (limbs_within c.args.self.now c.lemma_invariant.ensures.whole)
