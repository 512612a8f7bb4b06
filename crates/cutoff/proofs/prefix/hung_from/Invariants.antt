use Rattle.std.proofs.Common.{◌≡◌, ℕ, true, Some}
use Rattle.schedule_trie.specs.Trie.{has, keys_in}
use Rattle.schedule_trie.proofs.climbs.Climbs.{IsStepUp}
use Rattle.cutoff.specs.Prefixes.{IsHung, IsTop}
use Rattle.cutoff.proofs.HungRuns.{HasLinked}
use Rattle.cutoff.proofs.prefix.hung_from.Given as goal

abbrev pub invariant-loop : goal.invariant-loop
invariant-loop g l =
    let E = g.R.PartialEq.eq in
    let is = g.R.Behaves.behaviour in
    let keys = keys_in l.trie.branches in
    record {
      up : (i : ℕ) → has l.fn.key (keys i) ≡ true → IsStepUp (keys i) l.reached (Some l.next);
      hung : (i : ℕ) → has l.fn.key (keys i) ≡ true → IsHung E is l.trie l.reached l.fn.key i;
      top : IsTop l.trie l.reached (Some l.lower) (Some l.next);
      stored : HasLinked E is l.trie l.reached l.lower.link;
    }
