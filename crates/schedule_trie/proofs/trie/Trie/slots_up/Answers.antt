use Rattle.std.proofs.Common.{sym, ap, ◌∙◌}
use Rattle.schedule_trie.specs.Trie.{slots_of}
use Rattle.schedule_trie.specs.TrieFields.{segment_of}
use Rattle.schedule_trie.proofs.climbs.ClimbSteps.{each_up, climb_has_ended}
use Rattle.schedule_trie.proofs.segments.StepSet.{segment_seen}
use Rattle.schedule_trie.proofs.trie.Trie.slots_up.Goals as goal

pub returns-in-Some-clause-each : goal.returns-in-Some-clause-each
returns-in-Some-clause-each g c i front back e =
    let change = each_up c.self.inside c.args.self.now c.self.view_is c.self.invariant.held c.in-Some.key c.in-Some.above c.in-Some.ensures.each i front back e in
    cc

pub returns-in-None-clause-end : goal.returns-in-None-clause-end
returns-in-None-clause-end g c = climb_has_ended c.self.inside c.args.self.now c.self.view_is c.self.invariant.held c.args.at c.in-None.ensures.end

pub returns-in-Some-clause-slots : goal.returns-in-Some-clause-slots
returns-in-Some-clause-slots g c =
    rw (← c.self.view_is)
    (c.as_slice.ensures.value
    ∙ sym (ap slots_of (segment_seen c.self.inside c.in-Some.key ∙ ap segment_of c.in-Some.ensures.item)))
