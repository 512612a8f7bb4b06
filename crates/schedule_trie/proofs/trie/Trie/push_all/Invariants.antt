use Rattle.std.proofs.Common.{◌≡◌, ◌<◌, ◌≤◌, ◌+◌, length, take}
use Rattle.schedule_trie.specs.Trie.{ArePushed}
use Rattle.schedule_trie.proofs.trie.Trie.push_all.Given as goal

abbrev pub invariant-loop-step : goal.invariant-loop-step
invariant-loop-step g l = record {
  pushed : ArePushed l.fn.self l.self l.fn.index (take l.step-index l.steps);
  made : l.self.made ≡ l.fn.self.made + l.step-index;
  inside : l.fn.index < length l.fn.self.branches;
  room : l.fn.self.made + length l.steps ≤ l.fn.self.limits.cells;
}
