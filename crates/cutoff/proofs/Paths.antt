-- Paths of branches: their steps fit, and the key right above a key is the same on each.
use Rattle.std.proofs.Common.{◌≡◌, ◌∷◌, ◌++◌, ℕ, List, [], Option, None, Some, map, sym, ap, subst, ◌∙◌}
use Rattle.frames.specs.Behaviour.{Behaviour}
use Rattle.frames.specs.Recorded.{AllFit}
use Rattle.schedule_trie.specs.Forest.{step_of}
use Rattle.schedule_trie.specs.Trie.{TrieOf, Linked, IsCut, segment_at, line, forest, keys_in}
use Rattle.schedule_trie.specs.Climbs.{last_from}
use Rattle.schedule_trie.proofs.branches.Lines.{slots_in_on}
use Rattle.cutoff.specs.Fitting.{StoredRun}
use Rattle.cutoff.specs.Charts.{StepsFit}
use Rattle.cutoff.specs.Prefixes.{IsAbove}

-- the steps of a branch fit
pub fits_on : {R P : Type 0} (b : Behaviour P) (trie : TrieOf (StoredRun R P)) → StepsFit b (forest trie) → (i : ℕ) (keys : List ℕ) → keys ≡ keys_in trie.branches i
    → AllFit b (map step_of (line (segment_at trie.segments) keys))
fits_on b trie fits i keys same =
    subst (λ l. AllFit b (map step_of l)) (slots_in_on (segment_at trie.segments) trie.branches i ∙ ap (line (segment_at trie.segments)) (sym same)) (fits i)

-- the key right before `key` in a list is the one that `above` gives
linked_last : (above : ℕ → Option ℕ) (up : Option ℕ) (front back : List ℕ) (key : ℕ) → Linked above up (front ++ key ∷ back) → above key ≡ last_from up front
linked_last above up [] back key linked = linked.0
linked_last above up (k ∷ front) back key linked = linked_last above (Some k) front back key linked.1

-- the key that `IsCut` gives as the one above `key` is right above it on each branch
pub above_shared : {T : Type 0} (trie : TrieOf T) (key : ℕ) (whole : IsCut trie) → IsAbove trie key (whole.shares.above key)
above_shared trie key whole i front back is = linked_last whole.shares.above None front back key (subst (Linked whole.shares.above None) is (whole.shares.linked i))
