use Rattle.std.proofs.Common.{sym, ◌∙◌, subst, refl}
use Rattle.std.specs.Prelude.{IsSome}
use Rattle.lineage.proofs.Releases.{released_last, releasing_there, releasing_next}
use Rattle.lineage.proofs.lineage.release.free_up.Goals as goal

pub loop-key-init : goal.loop-key-init
loop-key-init g c tips r = r

pub free_node-at-requires : goal.free_node-at-requires
free_node-at-requires g c =
    let n = releasing_there c.args.nodes.now.slots c.loop-key.nodes.slots c.requires.0 c.loop-key.at c.in-Some.key (c.loop-key.invariant c.requires.0 c.requires.1) (sym c.get.ensures ∙ c.in-Some.is) in
    subst IsSome (sym n.1) refl

pub loop-key-smaller : goal.loop-key-smaller
loop-key-smaller g c =
    let here = c.free_node-at.ensures in
    (releasing_next c.args.nodes.now.slots c.loop-key.nodes.slots c.free_node-at.new.nodes.slots c.requires.0 c.loop-key.at c.in-Some.key c.free_node-at.result
    (c.loop-key.invariant c.requires.0 c.requires.1) (sym c.get.ensures ∙ c.in-Some.is) here.here here.others here.next).1

pub loop-key-preserved : goal.loop-key-preserved
loop-key-preserved g c tips r =
    let here = c.free_node-at.ensures in
    (releasing_next c.args.nodes.now.slots c.loop-key.nodes.slots c.free_node-at.new.nodes.slots tips c.loop-key.at c.in-Some.key c.free_node-at.result
    (c.loop-key.invariant tips r) (sym c.get.ensures ∙ c.in-Some.is) here.here here.others here.next).0

pub returns-clause-sound : goal.returns-clause-sound
returns-clause-sound g c tips r =
    released_last c.args.nodes.now.slots c.loop-key.nodes.slots tips c.loop-key.at (c.loop-key.invariant tips r) (sym c.get.ensures ∙ c.in_default.is)

pub returns-clause-stays : goal.returns-clause-stays
returns-clause-stays g c = (c.loop-key.invariant c.requires.0 c.requires.1).stays
