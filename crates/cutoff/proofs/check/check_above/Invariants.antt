use Rattle.std.proofs.Common.{◌≡◌, ℕ, true}
use Rattle.schedule_trie.specs.Trie.{has, keys_in}
use Rattle.schedule_trie.specs.Climbs.{keys_to, keys_up_to, HasClimbedTo}
use Rattle.cutoff.specs.Fitting.{IsChecked}
use Rattle.cutoff.proofs.check.check_above.Given as goal

abbrev pub invariant-loop : goal.invariant-loop
invariant-loop g l =
    let keys = keys_in l.fn.trie.branches in
    record {
      checked : IsChecked l.fn.trie l.trie l.number l.fn.key;
      reached : (i : ℕ) → has l.fn.key (keys i) ≡ true → HasClimbedTo (keys i) l.at;
      way : (i k : ℕ) → has l.fn.key (keys i) ≡ true → has k (keys_to (keys i) l.at) ≡ true → has k (keys_up_to l.fn.key (keys i)) ≡ true;
    }
