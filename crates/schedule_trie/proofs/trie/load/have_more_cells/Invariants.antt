use Rattle.std.proofs.Common.{◌≡◌, ◌+◌, take}
use Rattle.branch_terms.specs.Limbs.{own_cell_count}
use Rattle.schedule_trie.proofs.trie.load.have_more_cells.Given as goal

abbrev pub invariant-loop-limb : goal.invariant-loop-limb
invariant-loop-limb l = record { counted : own_cell_count (take l.limb-index l.limbs) + l.room ≡ l.most }
