use Rattle.std.proofs.Common.{◌≡◌, ◌-◌, ◌<◌, Some, None, sym, ◌∙◌, ap, subst, refl}
use Rattle.std.specs.Prelude.{IsSome, if◌then◌else◌}
use Rattle.std.proofs.lemmas.Bool.{lt-leb}
use Rattle.slab.proofs.SlabLemmas.{Updates-with_value}
use Rattle.lineage.specs.declared.node.Node.{Node}
use Rattle.lineage.specs.Lineages.{node, without_holder}
use Rattle.lineage.proofs.lineage.release.free_node.Goals as goal

-- a node with more than one holder stays
stays : {X : Type 0} (n : Node X) → 1 < n.holders → without_holder (Some n) ≡ Some (node n.item n.above (n.holders - 1))
stays n more = ap (λ b. if b then None else Some (node n.item n.above (n.holders - 1))) (lt-leb n.holders 1 more)

pub returns-then-node-gt1-clause-here : goal.returns-then-node-gt1-clause-here
returns-then-node-gt1-clause-here g c =
    let n = c.index_mut-node.result.now in
    (Updates-with_value c.args.nodes.now c.args.key (node n.item n.above (n.holders - 1)) c.requires).changed
    ∙ sym (ap without_holder c.index_mut-node.ensures.value ∙ stays n c.if-node-gt1.true)

pub returns-then-node-gt1-clause-others : goal.returns-then-node-gt1-clause-others
returns-then-node-gt1-clause-others g c = (Updates-with_value c.args.nodes.now c.args.key _ c.requires).others

pub remove-requires : goal.remove-requires
remove-requires g c =
    subst IsSome (sym (Updates-with_value c.args.nodes.now c.args.key c.index_mut-node.result.now c.requires).changed) refl
