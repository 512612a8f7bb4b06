use Rattle.std.proofs.Common.{◌≡◌, ◌++◌, ◌≤◌, ℕ, true, length, reverse}
use Rattle.std.specs.Option.{option_copied}
use Rattle.schedule_trie.specs.Trie.{has, keys_in}
use Rattle.schedule_trie.specs.Climbs.{keys_up_to}
use Rattle.cutoff.specs.Prefixes.{IsHung, IsTop}
use Rattle.cutoff.proofs.prefix.known_prefix.Given as goal

abbrev pub invariant-loop : goal.invariant-loop
invariant-loop g l =
    let keys = keys_in l.trie.branches in
    record {
      there : (i : ℕ) → has l.fn.first.key (keys i) ≡ true → has l.bottom (keys i) ≡ true;
      hung : (i : ℕ) → has l.fn.first.key (keys i) ≡ true → IsHung g.R.PartialEq.eq g.R.Behaves.behaviour l.trie l.top.key l.bottom i;
      path : (i : ℕ) → has l.fn.first.key (keys i) ≡ true → keys_up_to l.fn.first.key (keys i) ≡ keys_up_to l.bottom (keys i) ++ reverse l.keys.items;
      short : l.counter ≤ length l.keys.items;
      top : IsTop l.trie l.top.key (option_copied l.top.stored) l.top.above;
    }
