use Rattle.std.proofs.Common.{◌≡◌, ◌++◌, [], ℕ, List, Option, None, drop}
use Rattle.schedule_trie.specs.Trie.{keys_in}
use Rattle.frames.specs.Configuration.{Configuration}
use Rattle.cutoff.specs.Links.{IsLinkedAt}
use Rattle.cutoff.specs.Prefixes.{AreFresh, RunsHang, IsLeftToSettle, note_if_any, run_if_any}
use Rattle.cutoff.proofs.RestWalks.{IsRestWalk}
use Rattle.cutoff.proofs.settle_rest.settle_rest.Given as goal

abbrev pub invariant-loop-segment : goal.invariant-loop-segment
invariant-loop-segment g l =
    let E = g.R.PartialEq.eq in
    let is = g.R.Behaves.behaviour in
    (key : Option ℕ) × record {
      noted : note_if_any l.trie key ≡ l.above;
      walks : (i count place : ℕ) (left : IsLeftToSettle E is l.fn.trie l.start l.rest.fitted l.rest.keys.items l.rest.top l.key count place i)
          → (back : List ℕ) × IsRestWalk E is l.fn.trie l.trie l.start l.key count (keys_in l.fn.trie.branches i) (drop l.segment-index l.segment-items ++ left.hanging.below) back place l.replayed key;
      kept : l.last ≡ 0 → run_if_any l.trie key ≡ run_if_any l.fn.trie key;
      linked : IsLinkedAt E l.start l.next None l.trie;
      fresh : (first : Option ℕ) → AreFresh E is l.fn.trie l.start first → AreFresh E is l.trie l.start first;
    }

abbrev pub invariant-loop-below : goal.invariant-loop-below
invariant-loop-below g l =
    let E = g.R.PartialEq.eq in
    let is = g.R.Behaves.behaviour in
    (key : Option ℕ) × record {
      noted : note_if_any l.trie key ≡ l.above;
      walks : (i count place : ℕ) → IsLeftToSettle E is l.fn.trie l.start l.rest.fitted l.rest.keys.items l.rest.top l.key count place i
          → (back : List ℕ) × IsRestWalk E is l.fn.trie l.trie l.start l.key count (keys_in l.fn.trie.branches i) (drop l.below-index l.below-items ++ []) back place l.replayed key;
      hangs : (i count place : ℕ) → IsLeftToSettle E is l.fn.trie l.start l.rest.fitted l.rest.keys.items l.rest.top l.key count place i
          → (c : Configuration _ _) × RunsHang E is l.fn.trie c (drop l.below-index l.below-items);
      linked : IsLinkedAt E l.start l.next None l.trie;
      fresh : (first : Option ℕ) → AreFresh E is l.fn.trie l.start first → AreFresh E is l.trie l.start first;
    }
