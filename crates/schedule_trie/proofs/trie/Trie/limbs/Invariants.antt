use Rattle.std.proofs.Common.{◌≡◌, take}
use Rattle.schedule_trie.specs.Trie.{forest}
use Rattle.branch_terms.specs.Limbs.{limbs}
use Rattle.schedule_trie.specs.Marks.{MarksFirst}
use Rattle.schedule_trie.proofs.trie.Trie.limbs.Given as goal

abbrev pub invariant-loop-index : goal.invariant-loop-index
invariant-loop-index g l = record {
  reported : l.limbs.items ≡ take l.index (limbs (forest l.self));
  marked : MarksFirst l.self l.index l.marks.items;
}
