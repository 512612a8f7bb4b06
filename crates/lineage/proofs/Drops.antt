-- The nodes left after a path is dropped.
use Rattle.std.proofs.Common.{◌≡◌, ℕ, true, false, List, map, Option, Some, None, refl, sym, ◌∙◌, ap, subst, true≢false, ◌<◌, length, get_or, arith}
use Rattle.std.specs.List.{remove}
use Rattle.lineage.specs.declared.node.Node.{Node}
use Rattle.lineage.specs.Family.{has, path_in, IsReleased}
use Rattle.lineage.specs.Lineages.{tip_at, node_at, item_in, path_to, family_on, Stays, IsSoundFamily, IsReleasing}
use Rattle.lineage.proofs.ClimbedPaths.{item_is}
use Rattle.lineage.proofs.KeptLinks.{path_stays, links_stay}
use Rattle.lineage.proofs.Maps.{map_on_tips, map-remove}
use Rattle.std.proofs.lemmas.List.{get_or_read, length-map}
use Rattle.lineage.proofs.Releases.{releasing_first}
use Rattle.lineage.proofs.Families.{path_has, path_there}

module _ {X : Type 0} (s t : List (Option (Node X))) (tips : List (Option ℕ)) (path : ℕ) (now : IsSoundFamily t (remove tips path)) (stays : Stays s t) where
  pub dropped_paths : map (path_to t) (remove tips path) ≡ remove (map (path_to s) tips) path
  dropped_paths =
      map_on_tips (path_to t) (path_to s) (remove tips path) (λ i. sym (path_stays t s (links_stay s t stays) (tip_at (remove tips path) i) (now.ends i)))
      ∙ map-remove (path_to s) tips path

  pub released : IsReleased (family_on s tips) (family_on t (remove tips path))
  released = record {
    kept = λ i k m.
        let n = path_there t (remove tips path) now i k m in
        let o = stays k n.0 n.1 in
        item_is t (remove tips path) k ∙ ap item_in n.1 ∙ ap Some o.1.1.0 ∙ sym (ap item_in o.1.0) ∙ sym (item_is s tips k);
    gone = λ k none. item_is t (remove tips path) k ∙ by k (node_at t k) refl none;
  }
    where
      by : (k : ℕ) (o : Option (Node X)) → node_at t k ≡ o → ((i : ℕ) → has k (path_in (family_on t (remove tips path)) i) ≡ false) → item_in (node_at t k) ≡ None
      by k None e none = ap item_in e
      by k (Some n) e none =
          let o = now.live k n e in
          absurd (true≢false (sym (path_has t (remove tips path) now k o) ∙ none o.path))

-- the first step of a release: the tip that was removed from the list is being released
pub dropped_first : {X : Type 0} (s : List (Option (Node X))) (tips : List (Option ℕ)) (path : ℕ) (tip : Option ℕ) → IsSoundFamily s tips → path < length (map (path_to s) tips)
    → tip ≡ get_or tips path tip → IsReleasing s s (remove tips path) tip
dropped_first s tips path tip sound paths value =
    let n = length-map tips (path_to s) in
    let within : path < length tips = omega (arith, n, paths) in
    subst (IsReleasing s s (remove tips path)) (sym (get_or_read tips path tip within value None)) (releasing_first s tips path sound within)
