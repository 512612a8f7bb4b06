-- A change that keeps links keeps counts of holders, climbs and paths.
use Rattle.std.proofs.Common.{◌≡◌, ℕ, List, Option, Some, refl, sym, ◌∙◌, ap, arith}
use Rattle.lineage.specs.declared.node.Node.{Node}
use Rattle.lineage.specs.Climbs.{IsClimb, Ends}
use Rattle.lineage.specs.Lineages.{is_above, node_at, link_in, link_at, path_to, links_to_key, holders_of, Stays}
use Rattle.lineage.proofs.Climbs.{climb_kept}
use Rattle.lineage.proofs.ClimbedPaths.{path_to_is}
use Rattle.lineage.proofs.Counts.{count_same}
use Rattle.lineage.proofs.Links.{node_from}

-- holders are counted by the links alone
pub holders_alike : {X : Type 0} (s t : List (Option (Node X))) (tips : List (Option ℕ)) (k : ℕ) → ((j : ℕ) → link_at t j ≡ link_at s j) → holders_of s tips k ≡ holders_of t tips k
holders_alike s t tips k alike = let a = count_same (links_to_key k) refl s t (λ j. ap (is_above k) (alike j)) in omega (arith, a)

module _ {X : Type 0} where
  module _ (s t : List (Option (Node X))) (keeps : (k : ℕ) (next : Option ℕ) → link_at s k ≡ Some next → link_at t k ≡ Some next) where
    pub climb_stays : (at : Option ℕ) (up : List ℕ) → IsClimb (link_at s) at up → IsClimb (link_at t) at up
    climb_stays at up h = climb_kept (link_at s) (link_at t) at up (λ k next m e. keeps k next e) h

    pub path_stays : (at : Option ℕ) → Ends (link_at s) at → path_to t at ≡ path_to s at
    path_stays at e = path_to_is t at e.up (climb_stays at e.up e.is) ∙ sym (path_to_is s at e.up e.is)

-- the links of the nodes that are left are unchanged
pub links_stay : {X : Type 0} (s t : List (Option (Node X))) → Stays s t → (k : ℕ) (next : Option ℕ) → link_at t k ≡ Some next → link_at s k ≡ Some next
links_stay s t stays k next e =
    let n = node_from (node_at t k) next e in
    let m = stays k n.0 n.1.0 in
    ap link_in m.1.0 ∙ ap Some (sym m.1.1.1 ∙ n.1.1)
