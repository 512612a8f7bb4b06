use Rattle.std.proofs.Common.{◌≡◌, ◌++◌, ◌∷◌, [], Some, None, length, set, sym, ◌∙◌, ap, subst, arith}
use Rattle.std.proofs.lemmas.List.{length_push, length-set, nil_from_length}
use Rattle.std.specs.Vec.Iter.{into_iter_items}
use Rattle.lineage.specs.Lineages.{tip_at, node, node_at}
use Rattle.lineage.proofs.AddedPaths.{IsAddedSoFar, added_none, added_more, added_all}
use Rattle.lineage.proofs.Exchanges.{opened_sound}
use Rattle.lineage.proofs.lineage.exchange.add_path.Goals as goal

pub loop-item-init : goal.loop-item-init
loop-item-init g c =
    let s = c.args.nodes.now.slots in
    let tips = c.args.tips.now.items in
    let gives = c.into_iter-item-iterator.ensures.into_iter_gives in
    let whole : length (into_iter_items c.into_iter-item-iterator.result) ≡ length c.args.items.items = ap length gives.0 in
    let few = c.requires.few in
    let pushed = c.push_reserved.ensures.items ∙ ap (λ e. tips ++ e ∷ []) c.none.ensures in
    let none = added_none s tips c.args.items.items (into_iter_items c.into_iter-item-iterator.result) (opened_sound s tips c.requires.sound (omega (arith, few))) gives.0 in
    record {
      added = subst (λ xs. IsAddedSoFar s s tips xs c.args.items.items (into_iter_items c.into_iter-item-iterator.result)) (sym pushed) none;
      room = let room = c.requires.room in omega (arith, room, whole);
      few = let many = ap length pushed ∙ length_push tips None in omega (arith, few, many, whole);
      last = c.len-last.ensures ∙ c.args.tips.now.ok.0;
      len = let same = gives.1 in omega (arith, same);
    }

pub push_node-requires-clause-room : goal.push_node-requires-clause-room
push_node-requires-clause-room g c =
    let at = c.loop-item.invariant in
    let short = ap length c.in-Some.ensures.steps.0 in
    let room = at.room in
    omega (arith, room, short)

pub push_node-requires-clause-path : goal.push_node-requires-clause-path
push_node-requires-clause-path g c =
    let at = c.loop-item.invariant in
    let many = ap length at.added.added.tips_are ∙ length_push c.args.tips.now.items at.added.added.tip in
    let last = at.last in
    omega (arith, many, last)

pub loop-item-preserved : goal.loop-item-preserved
loop-item-preserved g c =
    let s = c.args.nodes.now.slots in
    let tips = c.args.tips.now.items in
    let at = c.loop-item in
    let was = at.invariant in
    let here = c.push_node.ensures in
    let steps = c.in-Some.ensures.steps in
    let rest = into_iter_items c.next.new.self in
    let short = ap length steps.0 in
    let len = here.len in
    let few = was.few in
    let last = was.last in
    record {
      added = added_more s tips at.nodes.slots c.push_node.new.nodes.slots at.tips.items c.push_node.new.tips.items c.args.items.items rest c.push_node.result c.in-Some.item
          (subst (IsAddedSoFar s at.nodes.slots tips at.tips.items c.args.items.items) steps.0 was.added) here.vacant
          (subst (λ i. node_at c.push_node.new.nodes.slots c.push_node.result ≡ Some (node c.in-Some.item (tip_at at.tips.items i) 1)) last here.here) here.others
          (subst (λ i. c.push_node.new.tips.items ≡ set at.tips.items i (Some c.push_node.result)) last here.tips)
          len (omega (arith, few, short));
      room = let room = was.room in let same = here.capacity in omega (arith, room, same, len, short);
      few = let many = ap length here.tips ∙ length-set at.tips.items c.len-last.result (Some c.push_node.result) in omega (arith, few, many, len, short);
      last = last;
      len = let l = was.len in let gone = steps.1 in omega (arith, l, gone, short);
    }

pub returns : goal.returns
returns g c =
    added_all c.args.nodes.now.slots c.args.tips.now.items c.loop-item.nodes.slots c.loop-item.tips.items c.args.items.items (into_iter_items c.loop-item.item-iterator)
    c.loop-item.invariant.added
    (nil_from_length (into_iter_items c.loop-item.item-iterator) (sym c.loop-item.invariant.len ∙ c.in-None.ensures.steps.0))
