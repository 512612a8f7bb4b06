use Rattle.std.proofs.Common.{◌∙◌}
use Rattle.schedule_trie.proofs.lists.ListParts.{take_rest}
use Rattle.schedule_trie.proofs.trie.fork.parts_at.Goals as goal

pub returns-clause-rest : goal.returns-clause-rest
returns-clause-rest c = c.in_ok-below.ensures.items ∙ take_rest c.args.count c.args.slots.now
