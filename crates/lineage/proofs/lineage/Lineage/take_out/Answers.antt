use Rattle.std.proofs.Common.{◌∙◌, ap}
use Rattle.lineage.specs.Family.{item_at}
use Rattle.lineage.specs.Lineages.{item_in}
use Rattle.lineage.proofs.ClimbedPaths.{item_is}
use Rattle.lineage.proofs.Skips.{above_there, few_passed, gone_from, others_from, skipped_sound, skipped_paths, skipped_items}
use Rattle.lineage.proofs.lineage.Lineage.take_out.Goals as goal

pub pass_on-requires-clause-there : goal.pass_on-requires-clause-there
pass_on-requires-clause-there g c =
    let a = c.self.inside in
    above_there a.nodes.slots a.tips.items c.args.key c.remove-node.result c.self.invariant c.remove-node.ensures.value c.remove-node.new.self.slots c.remove-node.ensures.updates.others

pub pass_on-requires-clause-few : goal.pass_on-requires-clause-few
pass_on-requires-clause-few g c =
    let a = c.self.inside in
    few_passed a.nodes.slots a.tips.items c.args.key c.remove-node.result c.self.invariant c.remove-node.ensures.value c.remove-node.new.self.slots c.remove-node.ensures.updates.others

pub invariant_of-self : goal.invariant_of-self
invariant_of-self g c =
    let a = c.self.inside in
    skipped_sound a.nodes.slots c.skip_in_nodes.new.nodes.slots a.tips.items c.skip_in_tips.new.tips.items c.args.key c.remove-node.result c.self.invariant c.remove-node.ensures.value
    (gone_from a.nodes.slots c.remove-node.new.self.slots c.pass_on.new.nodes.slots c.skip_in_nodes.new.nodes.slots c.args.key c.remove-node.result.above c.remove-node.result.holders
    c.pass_on.ensures c.skip_in_nodes.ensures c.remove-node.ensures.updates.changed)
    (others_from a.nodes.slots c.remove-node.new.self.slots c.pass_on.new.nodes.slots c.skip_in_nodes.new.nodes.slots c.args.key c.remove-node.result.above c.remove-node.result.holders
    c.pass_on.ensures c.skip_in_nodes.ensures c.remove-node.ensures.updates.others) c.skip_in_tips.ensures

pub returns-clause-gone : goal.returns-clause-gone
returns-clause-gone g c =
    let a = c.self.inside in
    item_is c.skip_in_nodes.new.nodes.slots c.skip_in_tips.new.tips.items c.args.key
    ∙ ap item_in
    (gone_from a.nodes.slots c.remove-node.new.self.slots c.pass_on.new.nodes.slots c.skip_in_nodes.new.nodes.slots c.args.key c.remove-node.result.above c.remove-node.result.holders
    c.pass_on.ensures c.skip_in_nodes.ensures c.remove-node.ensures.updates.changed)

pub returns-clause-others : goal.returns-clause-others
returns-clause-others g c k ne =
    let a = c.self.inside in
    skipped_items a.nodes.slots c.skip_in_nodes.new.nodes.slots a.tips.items c.skip_in_tips.new.tips.items c.args.key c.remove-node.result c.self.invariant c.remove-node.ensures.value
    (gone_from a.nodes.slots c.remove-node.new.self.slots c.pass_on.new.nodes.slots c.skip_in_nodes.new.nodes.slots c.args.key c.remove-node.result.above c.remove-node.result.holders
    c.pass_on.ensures c.skip_in_nodes.ensures c.remove-node.ensures.updates.changed)
    (others_from a.nodes.slots c.remove-node.new.self.slots c.pass_on.new.nodes.slots c.skip_in_nodes.new.nodes.slots c.args.key c.remove-node.result.above c.remove-node.result.holders
    c.pass_on.ensures c.skip_in_nodes.ensures c.remove-node.ensures.updates.others) c.skip_in_tips.ensures k ne
    ∙ ap (λ f. item_at f k) c.self.view_is

pub returns-clause-paths : goal.returns-clause-paths
returns-clause-paths g c =
    let a = c.self.inside in
    rw (← c.self.view_is) (skipped_paths a.nodes.slots c.skip_in_nodes.new.nodes.slots a.tips.items c.skip_in_tips.new.tips.items c.args.key c.remove-node.result c.self.invariant c.remove-node.ensures.value
    (gone_from a.nodes.slots c.remove-node.new.self.slots c.pass_on.new.nodes.slots c.skip_in_nodes.new.nodes.slots c.args.key c.remove-node.result.above c.remove-node.result.holders
    c.pass_on.ensures c.skip_in_nodes.ensures c.remove-node.ensures.updates.changed)
    (others_from a.nodes.slots c.remove-node.new.self.slots c.pass_on.new.nodes.slots c.skip_in_nodes.new.nodes.slots c.args.key c.remove-node.result.above c.remove-node.result.holders
    c.pass_on.ensures c.skip_in_nodes.ensures c.remove-node.ensures.updates.others) c.skip_in_tips.ensures)
