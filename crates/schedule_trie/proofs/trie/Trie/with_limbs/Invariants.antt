use Rattle.std.proofs.Common.{◌≡◌, ◌+◌, take}
use Rattle.schedule_trie.specs.Trie.{forest, IsBlank, IsCut}
use Rattle.branch_terms.specs.Limbs.{forest_of}
use Rattle.schedule_trie.proofs.trie.Trie.with_limbs.Given as goal

abbrev pub invariant-loop-limb : goal.invariant-loop-limb
invariant-loop-limb g l = record {
  so_far : forest l.trie ≡ forest_of (take (l.limb-index + 1) l.limbs);
  limits : l.trie.limits ≡ l.fn.limits;
  cut : IsCut l.trie;
  blank : IsBlank l.trie;
}
