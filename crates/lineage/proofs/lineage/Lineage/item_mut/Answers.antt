use Rattle.std.proofs.Common.{◌≡◌, Some, set, refl, sym, ◌∙◌, ap}
use Rattle.std.proofs.lemmas.List.{map-set}
use Rattle.lineage.specs.Family.{item_at, with_item}
use Rattle.lineage.specs.Lineages.{node, item_in, family_on}
use Rattle.lineage.proofs.ClimbedPaths.{item_is}
use Rattle.lineage.proofs.ReplacedItems.{replaced_sound, replaced_paths}
use Rattle.lineage.proofs.lineage.Lineage.item_mut.Goals as goal

pub invariant_of-self-lent : goal.invariant_of-self-lent
invariant_of-self-lent g c w =
    let a = c.self.inside in
    replaced_sound a.nodes.slots a.tips.items c.args.key c.index_mut-node.result.now w c.self.invariant c.index_mut-node.ensures.value

pub returns : goal.returns
returns g c =
    let a = c.self.inside in
    let n = c.index_mut-node.result.now in
    let key = c.args.key in
    let left : (w : g.row.X.Denot) → family_on (set a.nodes.slots key (Some (node w n.above n.holders))) a.tips.items ≡ with_item c.args.self.now key w =
    (λ w i. record {
      items = (map-set item_in a.nodes.slots key (Some (node w n.above n.holders)) ∙ ap (λ f. set f.items key (Some w)) c.self.view_is) i;
      paths = (replaced_paths a.nodes.slots a.tips.items key n w c.self.invariant c.index_mut-node.ensures.value ∙ ap (λ f. f.paths) c.self.view_is) i;
    }) in
    let value : item_at c.args.self.now key ≡ Some n.item =
    ap (λ f. item_at f key) (sym c.self.view_is) ∙ item_is a.nodes.slots a.tips.items key ∙ ap item_in c.index_mut-node.ensures.value in
    ((refl, left), record { writes_back = tt; value = value })
