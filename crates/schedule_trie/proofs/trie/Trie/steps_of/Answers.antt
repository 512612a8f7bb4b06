use Rattle.std.proofs.Common.{◌++◌, map, ap, ◌∙◌, arith}
use Rattle.branch_terms.specs.Forest.{step_of}
use Rattle.schedule_trie.specs.Trie.{segment_at}
use Rattle.schedule_trie.proofs.branches.Lines.{steps_more, steps_all}
use Rattle.schedule_trie.proofs.trie.Trie.steps_of.Goals as goal

pub loop-key-preserved : goal.loop-key-preserved
loop-key-preserved g c = record {
  rest = steps_more (segment_at c.args.self.now.segments) c.args.keys.now c.loop-key.key-index c.loop-key.steps.items c.push_steps.new.steps.items (omega arith)
      c.loop-key.invariant.rest (c.in_ok-push_steps.ensures ∙ ap (λ l. c.loop-key.steps.items ++ map step_of l) c.slots_at.ensures);
}

pub returns : goal.returns
returns g c = steps_all (segment_at c.args.self.now.segments) c.loop-key.key-index c.args.keys.now c.loop-key.steps.items (omega arith) c.loop-key.invariant.rest
