use Rattle.std.proofs.Common.{◌≡◌, map, take}
use Rattle.schedule_trie.specs.Trie.{forest}
use Rattle.pages.specs.page.Branches.{name_and_length}
use Rattle.views.proofs.branches.lengths.Given as goal

abbrev pub invariant-loop-index : goal.invariant-loop-index
invariant-loop-index g l = l.all.items ≡ map name_and_length (take l.index (forest l.chart.trie).branches)
