use Rattle.std.proofs.Common.{◌≡◌, length}
use Rattle.std.specs.List.{position}
use Rattle.branch_terms.specs.Forest.{is_cell}
use Rattle.schedule_trie.specs.Trie.{line, segment_at, keys_in}
use Rattle.schedule_trie.specs.Climbs.{keys_to, HasClimbedTo}
use Rattle.schedule_trie.proofs.trie.Trie.place_at.Given as goal

abbrev pub invariant-loop-up : goal.invariant-loop-up
invariant-loop-up g l = record {
  reached : HasClimbedTo (keys_in l.self.branches l.index) l.at;
  same : position (is_cell l.cell) (line (segment_at l.self.segments) (keys_to (keys_in l.self.branches l.index) l.at))
      ≡ position (is_cell l.cell) (line (segment_at l.self.segments) (keys_in l.self.branches l.index));
}

abbrev pub decreases-loop-up : goal.decreases-loop-up
decreases-loop-up g l = length (keys_to (keys_in l.self.branches l.index) l.at)
