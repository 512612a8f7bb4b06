use Rattle.std.proofs.Common.{◌≡◌, ◌+◌, length}
use Rattle.schedule_trie.specs.Trie.{line, segment_at, keys_in}
use Rattle.schedule_trie.specs.Climbs.{keys_to, HasClimbedTo}
use Rattle.schedule_trie.proofs.trie.Trie.find_cell_with_len.Given as goal

abbrev pub invariant-loop-up : goal.invariant-loop-up
invariant-loop-up g l = record {
  reached : HasClimbedTo (keys_in l.self.branches l.index) l.at;
  cells : length (line (segment_at l.self.segments) (keys_to (keys_in l.self.branches l.index) l.at)) ≡ l.place + 1 + l.following;
}

abbrev pub decreases-loop-up : goal.decreases-loop-up
decreases-loop-up g l = length (keys_to (keys_in l.self.branches l.index) l.at)
