use Rattle.std.proofs.Common.{◌+◌, ◌≤◌, ◌≡◌, length, take, sym, subst, arith, ◌∙◌, ap}
use Rattle.std.proofs.lemmas.List.{take_all}
use Rattle.branch_terms.specs.Forest.{lone_branch}
use Rattle.schedule_trie.specs.Trie.{forest}
use Rattle.branch_terms.specs.Limbs.{own_cell_count, forest_of}
use Rattle.branch_terms.proofs.Lists.{item_of_rest, rest_ends}
use Rattle.schedule_trie.proofs.limbs.LoadSteps.{forest_of_first, can_add_limb, forest_of_next}
use Rattle.schedule_trie.proofs.trie.Trie.with_limbs.Goals as goal

pub loop-limb-init : goal.loop-limb-init
loop-limb-init g c =
    let is : forest c.in_ok-trie.trie ≡ lone_branch c.first-item.result.name c.first-item.result.steps = c.in_ok-trie.ensures.forest ∙ ap (lone_branch c.first-item.result.name) c.as_slice.ensures in
    let one : 1 ≡ 0 + 1 = omega arith in
    record {
      so_far = subst (λ n. forest c.in_ok-trie.trie ≡ forest_of (take n c.args.limbs.now)) one
          (forest_of_first c.args.limbs.now (forest c.in_ok-trie.trie) c.first-item.result c.requires.some (sym c.first-item.is) is);
      limits = c.in_ok-trie.ensures.limits;
      cut = c.in_ok-trie.ensures.cut;
      blank = c.in_ok-trie.ensures.blank;
    }

pub add_limb-requires : goal.add_limb-requires
add_limb-requires g c =
    let i = c.loop-limb.invariant in
    let ls = c.args.limbs.now in
    let item = item_of_rest ls c.loop-limb.limb-index c.limb-item.result c.requires.some c.loop-limb-test.true c.limb-item.is in
    can_add_limb ls c.requires.lawful (c.loop-limb.limb-index + 1) c.limb-item.result item.0 item.1 c.loop-limb.trie i.so_far (omega arith)
    (subst (λ l. own_cell_count ls ≤ l.cells) (sym i.limits) c.requires.cells) (subst (λ l. length ls ≤ l.branches) (sym i.limits) c.requires.count)

pub loop-limb-preserved : goal.loop-limb-preserved
loop-limb-preserved g c =
    let i = c.loop-limb.invariant in
    let ls = c.args.limbs.now in
    let item = item_of_rest ls c.loop-limb.limb-index c.limb-item.result c.requires.some c.loop-limb-test.true c.limb-item.is in
    let change = c.in_ok-add_limb.ensures in
    record {
      so_far = forest_of_next ls c.requires.lawful (c.loop-limb.limb-index + 1) c.limb-item.result item.0 item.1 c.loop-limb.trie i.so_far c.add_limb.new.self change;
      limits = change.limits ∙ i.limits;
      cut = change.cut;
      blank = change.blank i.blank;
    }

pub returns-clause-forest : goal.returns-clause-forest
returns-clause-forest g c =
    let ls = c.args.limbs.now in
    c.loop-limb.invariant.so_far ∙ ap forest_of (take_all (c.loop-limb.limb-index + 1) ls (rest_ends ls c.loop-limb.limb-index c.requires.some c.loop-limb-test.false))
