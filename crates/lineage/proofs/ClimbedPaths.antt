-- Climbs along the nodes' links, and the paths that they give.
use Rattle.std.proofs.Common.{◌≡◌, ℕ, ◌<◌, ◌≤◌, List, [], ◌∷◌, ◌++◌, length, map, reverse, Option, Some, None, refl, sym, ◌∙◌, ap, subst, arith, inl, inr, ◌⊎◌}
use Rattle.std.proofs.lemmas.Bool.{cases_lt}
use Rattle.std.proofs.lemmas.List.{get_or_past, get_or-map, length-map, reverse-append, reverse-reverse, append_assoc}
use Rattle.lineage.specs.declared.node.Node.{Node}
use Rattle.lineage.specs.Family.{last_of, item_at, path_in}
use Rattle.lineage.specs.Climbs.{IsClimb, Ends}
use Rattle.lineage.specs.Lineages.{tip_at, node_at, item_in, link_in, link_at, keys_up, path_to, family_on, IsSoundFamily}
use Rattle.lineage.proofs.KeyLists.{reverse_cons}
use Rattle.lineage.proofs.Climbs.{climb_is, climb_short, climb_from, last_of-climb_reverse}

module _ {X : Type 0} (s : List (Option (Node X))) where
  -- a key with a link is within the list of nodes
  pub link_within : (k : ℕ) (next : Option ℕ) → link_at s k ≡ Some next → k < length s
  link_within k next h = by (cases_lt k (length s))
    where
      by : (k < length s) ⊎ (length s ≤ k) → k < length s
      by (inl lt) = lt
      by (inr le) = let n : link_at s k ≡ None = ap link_in (get_or_past s k None le) in absurd (cc)

  -- `keys_up` gives the keys of the climb, and `path_to` the same keys in reverse
  pub keys_up_is : (at : Option ℕ) (up : List ℕ) → IsClimb (link_at s) at up → keys_up s at ≡ up
  keys_up_is at up h = climb_is (link_at s) (length s) at up h (climb_short (link_at s) (length s) link_within at up h)

  pub path_to_is : (at : Option ℕ) (up : List ℕ) → IsClimb (link_at s) at up → path_to s at ≡ reverse up
  path_to_is at up h = ap reverse (keys_up_is at up h)

  -- the path at an index is the path to its tip
  pub path_in_is : (tips : List (Option ℕ)) (i : ℕ) → path_in (family_on s tips) i ≡ path_to s (tip_at tips i)
  path_in_is tips i = by (cases_lt i (length tips))
    where
      by : (i < length tips) ⊎ (length tips ≤ i) → path_in (family_on s tips) i ≡ path_to s (tip_at tips i)
      by (inl lt) = get_or-map (path_to s) tips i None [] lt
      by (inr le) =
          let few : length (map (path_to s) tips) ≤ i = subst (λ n. n ≤ i) (sym (length-map tips (path_to s))) le in
          get_or_past (map (path_to s) tips) i [] few ∙ sym (path_to_is None [] refl) ∙ ap (path_to s) (sym (get_or_past tips i None le))

  pub item_is : (tips : List (Option ℕ)) (k : ℕ) → item_at (family_on s tips) k ≡ item_in (node_at s k)
  item_is tips k = by (cases_lt k (length s))
    where
      by : (k < length s) ⊎ (length s ≤ k) → item_at (family_on s tips) k ≡ item_in (node_at s k)
      by (inl lt) = get_or-map item_in s k None None lt
      by (inr le) =
          let few : length (map item_in s) ≤ k = subst (λ n. n ≤ k) (sym (length-map s item_in)) le in
          get_or_past (map item_in s) k None few ∙ ap item_in (sym (get_or_past s k None le))

  -- the last key of a path is its tip
  pub last_is : (tips : List (Option ℕ)) (i : ℕ) → IsSoundFamily s tips → last_of (path_in (family_on s tips) i) ≡ tip_at tips i
  last_is tips i h =
      let e = h.ends i in
      ap last_of (path_in_is tips i ∙ path_to_is (tip_at tips i) e.up e.is) ∙ last_of-climb_reverse (link_at s) (tip_at tips i) e.up e.is

  -- one step up from `at` to the link of its node n: the rest of the climb ends, and is shorter
  pub record StepsUp (at : Option ℕ) (n : Node X) : Type 0 where
    pub ends : Ends (link_at s) n.above
    pub shorter : length (keys_up s n.above) < length (keys_up s at)
    pub keys : (k : ℕ) → at ≡ Some k → keys_up s at ≡ k ∷ keys_up s n.above

  steps_up_at : (k : ℕ) (n : Node X) (up : List ℕ) → IsClimb (link_at s) (Some k) up → node_at s k ≡ Some n → StepsUp (Some k) n
  steps_up_at k n [] h e = let no : Some k ≡ None = h in absurd (cc)
  steps_up_at k n (j ∷ up) h e =
      let same : k ≡ j = let w : Some k ≡ Some j = h.0 in cc in
      let found : link_at s k ≡ Some n.above = ap link_in e in
      let found2 : link_at s k ≡ Some h.1.0 = ap (link_at s) same ∙ h.1.1.0 in
      let next : h.1.0 ≡ n.above = cc in
      let rest : IsClimb (link_at s) n.above up = subst (λ (o : Option ℕ). IsClimb (link_at s) o up) next h.1.1.1 in
      let ks : keys_up s (Some k) ≡ k ∷ up = keys_up_is (Some k) (k ∷ up) (refl, (n.above, (found, rest))) in
      let us : keys_up s n.above ≡ up = keys_up_is n.above up rest in
      let keys : keys_up s (Some k) ≡ k ∷ keys_up s n.above = ks ∙ ap (λ (u : List ℕ). k ∷ u) (sym us) in
      record {
        ends = record { up = up; is = rest };
        shorter = rw keys (omega arith);
        keys = λ i e2. let i_is : i ≡ k = let w : Some k ≡ Some i = e2 in cc in rw (i_is, keys) refl;
      }

  pub steps_up : (at : Option ℕ) (k : ℕ) (n : Node X) → Ends (link_at s) at → at ≡ Some k → node_at s k ≡ Some n → StepsUp at n
  steps_up at k n h is e =
      subst (λ o. StepsUp o n) (sym is) (steps_up_at k n h.up (subst (λ o. IsClimb (link_at s) o h.up) is h.is) e)

  no_climb_from_vacant_key : (k : ℕ) (up : List ℕ) → IsClimb (link_at s) (Some k) up → node_at s k ≡ None → ⊥
  no_climb_from_vacant_key k [] h e = let no : Some k ≡ None = h in cc
  no_climb_from_vacant_key k (j ∷ up) h e =
      let same : k ≡ j = let w : Some k ≡ Some j = h.0 in cc in
      let found2 : link_at s k ≡ Some h.1.0 = ap (link_at s) same ∙ h.1.1.0 in
      let found : link_at s k ≡ None = ap link_in e in
      cc

  -- no climb that ends begins at a key without a node
  pub no_climb_from_vacant : (at : Option ℕ) (k : ℕ) → Ends (link_at s) at → at ≡ Some k → node_at s k ≡ None → ⊥
  no_climb_from_vacant at k h is e = no_climb_from_vacant_key k h.up (subst (λ o. IsClimb (link_at s) o h.up) is h.is) e

  -- the climb from a key of a path
  pub climb_at : (tips : List (Option ℕ)) (i k : ℕ) (front back : List ℕ) → IsSoundFamily s tips → path_in (family_on s tips) i ≡ front ++ k ∷ back
      → IsClimb (link_at s) (Some k) (k ∷ reverse front)
  climb_at tips i k front back h e =
      let ends = h.ends i in
      let up : ends.up ≡ reverse back ++ k ∷ reverse front =
      sym (reverse-reverse ends.up) ∙ ap reverse (sym (path_to_is (tip_at tips i) ends.up ends.is) ∙ sym (path_in_is tips i) ∙ e)
      ∙ reverse-append front (k ∷ back) ∙ ap (λ l. l ++ reverse front) (reverse_cons k back) ∙ append_assoc (reverse back) (k ∷ []) (reverse front) in
      climb_from (link_at s) (tip_at tips i) (reverse back) k (reverse front) (subst (IsClimb (link_at s) (tip_at tips i)) up ends.is)

  -- a key's link is to the key right before it in a path
  pub above_is : (tips : List (Option ℕ)) (i k : ℕ) (front back : List ℕ) → IsSoundFamily s tips → path_in (family_on s tips) i ≡ front ++ k ∷ back
      → link_at s k ≡ Some (last_of front)
  above_is tips i k front back h e =
      let c = climb_at tips i k front back h e in
      let last : last_of front ≡ c.1.0 = ap last_of (sym (reverse-reverse front)) ∙ last_of-climb_reverse (link_at s) c.1.0 (reverse front) c.1.1.1 in
      c.1.1.0 ∙ ap Some (sym last)
