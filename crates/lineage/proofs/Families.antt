-- Sound nodes and tips represent a family: each key of a path has an item, and each item is on a
-- path.
use Rattle.std.proofs.Common.{◌≡◌, ℕ, true, false, List, ◌∷◌, reverse, drop, Option, Some, None, refl, sym, ◌∙◌, ap, subst, true≢false}
use Rattle.std.specs.Prelude.{IsSome}
use Rattle.std.proofs.lemmas.List.{reverse-reverse}
use Rattle.lineage.specs.declared.node.Node.{Node}
use Rattle.lineage.specs.Family.{has, path_in, IsFamily}
use Rattle.lineage.specs.Lineages.{tip_at, node_at, item_in, link_at, family_on, IsOn, IsSoundFamily}
use Rattle.lineage.proofs.KeyLists.{has-reverse}
use Rattle.lineage.proofs.Climbs.{climb_there, climb_unique}
use Rattle.lineage.proofs.ClimbedPaths.{path_to_is, path_in_is, item_is, climb_at}
use Rattle.lineage.proofs.Links.{node_from}

module _ {X : Type 0} (s : List (Option (Node X))) (tips : List (Option ℕ)) (sound : IsSoundFamily s tips) where
  pub path_has : (k : ℕ) (o : IsOn s tips k) → has k (path_in (family_on s tips) o.path) ≡ true
  path_has k o =
      ap (has k) (path_in_is s tips o.path ∙ path_to_is s (tip_at tips o.path) o.up o.is) ∙ has-reverse k o.up ∙ o.on

  pub path_there : (i k : ℕ) → has k (path_in (family_on s tips) i) ≡ true → (n : Node X) × (node_at s k ≡ Some n)
  path_there i k m =
      let e = sound.ends i in
      let on : has k e.up ≡ true = sym (ap (has k) (path_in_is s tips i ∙ path_to_is s (tip_at tips i) e.up e.is) ∙ has-reverse k e.up) ∙ m in
      let l = climb_there (link_at s) (tip_at tips i) e.up k e.is on in
      let n = node_from (node_at s k) l.0 l.1 in
      (n.0, n.1.0)

  -- each key of a path has an item, and each item is on a path
  pub is_family : IsFamily (family_on s tips)
  is_family = record {
    held = λ i k m. let n = path_there i k m in subst IsSome (sym (item_is s tips k ∙ ap item_in n.1)) refl;
    live = λ k some. by k (node_at s k) refl (subst IsSome (item_is s tips k) some);
    shared = λ i j k front back front2 back2 e e2.
        let a = climb_at s tips i k front back sound e in
        let b = climb_at s tips j k front2 back2 sound e2 in
        let same = ap (drop 1) (climb_unique (link_at s) (Some k) (k ∷ reverse front) (k ∷ reverse front2) a b) in
        sym (reverse-reverse front) ∙ ap reverse same ∙ reverse-reverse front2;
  }
    where
      by : (k : ℕ) (o : Option (Node X)) → node_at s k ≡ o → IsSome (item_in (node_at s k)) → (i : ℕ) × (has k (path_in (family_on s tips) i) ≡ true)
      by k None e some = absurd (true≢false (sym (subst (λ z. IsSome (item_in z)) e some)))
      by k (Some n) e some = let o = sound.live k n e in (o.path, path_has k o)
