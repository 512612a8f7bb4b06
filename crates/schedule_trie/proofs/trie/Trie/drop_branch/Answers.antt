use Rattle.std.proofs.Common.{arith}
use Rattle.std.proofs.lemmas.List.{length-map}
use Rattle.schedule_trie.specs.Trie.{segment_at, branch_on}
use Rattle.schedule_trie.proofs.trie.Trie.drop_branch.Goals as goal

pub drop_at-requires-clause-several : goal.drop_at-requires-clause-several
drop_at-requires-clause-several g c =
    let now = c.args.self.now in
    let count = length-map now.branches (branch_on (segment_at now.segments)) in
    omega (arith, count, c.branches.ensures.count, c.if-branches-lt2.false)
