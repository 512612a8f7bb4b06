use Rattle.std.proofs.Common.{◌≡◌, ◌+◌, ◌≤◌, ℕ, true, Some, None, length, slice_get}
use Rattle.frames.specs.Recorded.{without_register}
use Rattle.schedule_trie.specs.Trie.{keys_in}
use Rattle.schedule_trie.specs.Climbs.{keys_to, HasClimbedTo}
use Rattle.cutoff.specs.Links.{IsLinked}
use Rattle.cutoff.specs.Plans.{FitsDownTo}
use Rattle.cutoff.specs.Prefixes.{RunsDown}
use Rattle.cutoff.proofs.climb.runs_lead_to.Given as goal

abbrev pub invariant-loop : goal.invariant-loop
invariant-loop g l =
    let E = g.R.PartialEq.eq in
    let b = g.R.Behaves.behaviour l.start.register in
    let keys = keys_in l.trie.branches in
    record {
      reached : (i : ℕ) → HasClimbedTo (keys i) l.fn.last → HasClimbedTo (keys i) l.at;
      short : (i : ℕ) → HasClimbedTo (keys i) l.fn.last → l.counter + length (keys_to (keys i) l.at) ≤ length (keys_to (keys i) l.fn.last);
      down : (i : ℕ) → HasClimbedTo (keys i) l.fn.last → FitsDownTo E b l.trie l.start (keys_to (keys i) l.fn.last) l.config
          → FitsDownTo E b l.trie l.start (keys_to (keys i) l.at) l.entry;
      runs : (i : ℕ) → HasClimbedTo (keys i) l.fn.last → RunsDown E g.R.Behaves.behaviour l.trie b l.start (keys_to (keys i) l.at) l.entry
          → RunsDown E g.R.Behaves.behaviour l.trie b l.start (keys_to (keys i) l.fn.last) l.config;
      reached_exit : (next : ℕ) (links : IsLinked E l.start.register next None (without_register l.start) l.trie) (a : ℕ) → l.link ≡ Some a
          → (slice_get links.exits a ≡ Some (without_register l.entry)) × (E l.entry.register l.start.register ≡ true);
    }
