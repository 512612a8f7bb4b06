use Rattle.std.proofs.Common.{◌≡◌, ◌+◌, ◌++◌, ◌≤◌, ℕ, true, Some, length, reverse}
use Rattle.schedule_trie.specs.Trie.{has, keys_in}
use Rattle.schedule_trie.specs.Climbs.{keys_to, HasClimbedTo}
use Rattle.cutoff.proofs.prefix.climb_keys.Given as goal

abbrev pub invariant-loop : goal.invariant-loop
invariant-loop g l =
    let keys = keys_in l.trie.branches in
    record {
      reached : (i : ℕ) → HasClimbedTo (keys i) l.fn.last → HasClimbedTo (keys i) l.at;
      path : (i : ℕ) → HasClimbedTo (keys i) l.fn.last → keys_to (keys i) l.fn.last ++ reverse l.fn.keys.items ≡ keys_to (keys i) l.at ++ reverse l.keys.items;
      ahead : (i f : ℕ) → HasClimbedTo (keys i) l.fn.last → l.fn.stop ≡ Some f → has f (keys_to (keys i) l.fn.last) ≡ true → has f (keys_to (keys i) l.at) ≡ true;
      more : length l.fn.keys.items ≤ length l.keys.items;
      short : (i : ℕ) → HasClimbedTo (keys i) l.fn.last → l.counter + length (keys_to (keys i) l.at) ≤ length (keys_to (keys i) l.fn.last);
    }
