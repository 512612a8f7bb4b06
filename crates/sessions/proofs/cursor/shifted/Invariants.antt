use Rattle.std.proofs.Common.{◌≡◌, length, map, take}
use Rattle.std.specs.Option.{option_map}
use Rattle.schedule_trie.specs.Trie.{forest}
use Rattle.sessions.specs.Cursors as spec
use Rattle.sessions.proofs.cursor.shifted.Given as goal

abbrev pub invariant-loop-i : goal.invariant-loop-i
invariant-loop-i g l = record {
  long : length l.moved ≡ 16;
  front : take l.i l.moved ≡ map (option_map (spec.shifted l.shift (forest l.chart.trie) l.branch l.place)) (take l.i l.cursors);
}
