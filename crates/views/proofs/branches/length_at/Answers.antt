use Rattle.schedule_trie.specs.Trie.{forest}
use Rattle.views.proofs.BranchLengths.{branch_length_is}
use Rattle.views.proofs.branches.length_at.Goals as goal

pub returns : goal.returns
returns g c =
    branch_length_is (forest c.args.chart.now.trie).branches c.args.index c.in-Some.name c.in-Some-len.len c.requires.apart c.in-Some.ensures c.in-Some-len.ensures
