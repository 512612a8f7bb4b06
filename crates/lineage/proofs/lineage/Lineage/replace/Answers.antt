use Rattle.std.proofs.Common.{Some, map, set, ◌∙◌, ap}
use Rattle.std.proofs.lemmas.List.{map-set}
use Rattle.lineage.specs.Lineages.{node, item_in}
use Rattle.lineage.proofs.ReplacedItems.{replaced_sound, replaced_paths}
use Rattle.lineage.proofs.lineage.Lineage.replace.Goals as goal

pub invariant_of-self : goal.invariant_of-self
invariant_of-self g c =
    let a = c.self.inside in
    replaced_sound a.nodes.slots a.tips.items c.args.key c.index_mut.result.now c.replace.new.dest c.self.invariant c.index_mut.ensures.value

pub returns-clause-items : goal.returns-clause-items
returns-clause-items g c =
    let a = c.self.inside in
    let n = c.index_mut.result.now in
    map-set item_in a.nodes.slots c.args.key (Some (node c.replace.new.dest n.above n.holders))
    ∙ ap (λ i. set (map item_in a.nodes.slots) c.args.key (Some i)) c.replace.ensures.after
    ∙ ap (λ f. set f.items c.args.key (Some c.args.item)) c.self.view_is

pub returns-clause-paths : goal.returns-clause-paths
returns-clause-paths g c =
    let a = c.self.inside in
    replaced_paths a.nodes.slots a.tips.items c.args.key c.index_mut.result.now c.replace.new.dest c.self.invariant c.index_mut.ensures.value
    ∙ ap (λ f. f.paths) c.self.view_is
