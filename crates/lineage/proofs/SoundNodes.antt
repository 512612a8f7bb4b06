-- What soundness says of each node.
use Rattle.std.proofs.Common.{◌≡◌, ℕ, ◌<◌, ◌≤◌, true, List, [], ◌∷◌, length, Option, Some, None, refl, sym, ◌∙◌, ap, subst, arith, inl, inr, ◌⊎◌}
use Rattle.std.proofs.lemmas.Bool.{cases_lt, false_from_ne_true}
use Rattle.std.proofs.lemmas.List.{get_or_past}
use Rattle.lineage.specs.declared.node.Node.{Node}
use Rattle.lineage.specs.Family.{has}
use Rattle.lineage.specs.Climbs.{IsClimb}
use Rattle.lineage.specs.Lineages.{tip_at, is_key, is_above, node_at, link_in, link_at, links_to_key, holders_of, IsOn, IsSoundFamily}
use Rattle.lineage.proofs.KeyLists.{IsOnPath-from_has}
use Rattle.lineage.proofs.Climbs.{climb_from}
use Rattle.lineage.proofs.ClimbedPaths.{no_climb_from_vacant}
use Rattle.lineage.proofs.Counts.{count_none}
use Rattle.lineage.proofs.Links.{is_key_true, node_from}

module _ {X : Type 0} where
  module _ (s : List (Option (Node X))) (tips : List (Option ℕ)) where
    -- a key on a path is on a path that exists
    pub on_within : (k : ℕ) (o : IsOn s tips k) → o.path < length tips
    on_within k o = by (cases_lt o.path (length tips))
      where
        none_up : (at : Option ℕ) (up : List ℕ) → IsClimb (link_at s) at up → has k up ≡ true → at ≡ None → ⊥
        none_up at [] h m e = cc
        none_up at (j ∷ up) h m e = let first : at ≡ Some j = h.0 in cc

        by : (o.path < length tips) ⊎ (length tips ≤ o.path) → o.path < length tips
        by (inl lt) = lt
        by (inr le) = absurd (none_up (tip_at tips o.path) o.up o.is o.on (get_or_past tips o.path None le))

    module _ (sound : IsSoundFamily s tips) where
      -- a climb from each node
      pub node_climb : (k : ℕ) (n : Node X) → node_at s k ≡ Some n → (up : List ℕ) × IsClimb (link_at s) (Some k) (k ∷ up)
      node_climb k n e =
          let o = sound.live k n e in
          let m = IsOnPath-from_has k o.up o.on in
          (m.back, climb_from (link_at s) (tip_at tips o.path) m.front k m.back (subst (IsClimb (link_at s) (tip_at tips o.path)) m.is o.is))

      -- a node's link is to an existing node
      pub linked_there : (j k : ℕ) → link_at s j ≡ Some (Some k) → (next : Option ℕ) × (link_at s k ≡ Some next)
      linked_there j k e =
          let n = node_from (node_at s j) (Some k) e in
          let c = node_climb j n.0 n.1.0 in
          let link : Some c.1.1.0 ≡ Some (Some k) = sym c.1.1.1.0 ∙ e in
          let next : c.1.1.0 ≡ Some k = cc in
          by c.0 (subst (λ o. IsClimb (link_at s) o c.0) next c.1.1.1.1)
        where
          by : (up : List ℕ) → IsClimb (link_at s) (Some k) up → (next : Option ℕ) × (link_at s k ≡ Some next)
          by [] h = absurd (cc)
          by (i ∷ up) h =
              let first : Some k ≡ Some i = h.0 in
              let same : k ≡ i = cc in
              (h.1.0, ap (link_at s) same ∙ h.1.1.0)

      -- nothing links to a missing node
      pub absent_holders : (k : ℕ) → node_at s k ≡ None → holders_of s tips k ≡ 0
      absent_holders k none =
          let a = count_none (is_key k) refl tips (λ i. false_from_ne_true (is_key k (tip_at tips i))
          (λ m. no_climb_from_vacant s (tip_at tips i) k (sound.ends i) (is_key_true k (tip_at tips i) m) none)) in
          let b = count_none (links_to_key k) refl s (λ j. false_from_ne_true (links_to_key k (node_at s j))
          (λ m. let l = linked_there j k (link_is j m) in let no : link_at s k ≡ None = ap link_in none in let yes = l.1 in cc)) in
          omega (arith, a, b)
        where
          from_link : (o : Option (Option ℕ)) → is_above k o ≡ true → o ≡ Some (Some k)
          from_link None m = absurd (cc)
          from_link (Some next) m = ap Some (is_key_true k next m)

          link_is : (j : ℕ) → links_to_key k (node_at s j) ≡ true → link_at s j ≡ Some (Some k)
          link_is j m = from_link (link_at s j) m
