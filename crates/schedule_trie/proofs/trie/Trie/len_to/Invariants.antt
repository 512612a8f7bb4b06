use Rattle.std.proofs.Common.{◌≡◌, ◌+◌, length}
use Rattle.schedule_trie.specs.Trie.{line, segment_at, keys_in}
use Rattle.schedule_trie.specs.Climbs.{keys_to, HasClimbedTo}
use Rattle.schedule_trie.proofs.trie.Trie.len_to.Given as goal

abbrev pub invariant-loop-up : goal.invariant-loop-up
invariant-loop-up g l = record {
  reached : HasClimbedTo (keys_in l.self.branches l.index) l.at;
  sum : l.len + length (line (segment_at l.self.segments) (keys_to (keys_in l.self.branches l.index) l.at))
      ≡ length (line (segment_at l.self.segments) (keys_to (keys_in l.self.branches l.index) l.fn.last));
}

abbrev pub decreases-loop-up : goal.decreases-loop-up
decreases-loop-up g l = length (keys_to (keys_in l.self.branches l.index) l.at)
