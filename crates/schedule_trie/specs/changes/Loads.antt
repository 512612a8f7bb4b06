-- Adding a limb to a trie.
use Rattle.std.specs.Prelude.{◌≡◌, ◌<◌, ◌≤◌, ◌+◌, true, None, length}
use Rattle.branch_terms.specs.declared.limb.Limb.{Limb}
use Rattle.branch_terms.specs.Forest.{index_of, slots_in}
use Rattle.schedule_trie.specs.Trie.{TrieOf, forest, IsBlank, IsCut}
use Rattle.branch_terms.specs.Limbs.{is_name, with_limb}

-- a limb's branch can be added to a trie: there is a branch at index `limb.from`, with at least
-- `limb.shared` cells; the limb's name has the form of a branch's name, and no branch has this
-- name; and the limits allow one more branch and the limb's own cells
pub record CanAddLimb {T : Type 0} (trie : TrieOf T) (limb : Limb) : Type 0 where
  pub from : limb.from < length trie.branches
  pub place : limb.shared ≤ length (slots_in (forest trie).branches limb.from)
  pub free : index_of (forest trie).branches limb.name ≡ None
  pub form : is_name limb.name ≡ true
  pub room : length trie.branches < trie.limits.branches
  pub cells : trie.made + length limb.steps ≤ trie.limits.cells

-- from trie `old` to trie `new`, the limb's branch is added at the end of the list of branches; if
-- `old` has no note, `new` has none
pub record IsLimbAdded {T : Type 0} (old new : TrieOf T) (limb : Limb) : Type 0 where
  pub forest_is : forest new ≡ with_limb (forest old) limb
  pub limits : new.limits ≡ old.limits
  pub blank : IsBlank old → IsBlank new
  pub cut : IsCut new
