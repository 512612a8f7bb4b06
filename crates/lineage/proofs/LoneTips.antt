-- A path ends alone exactly if its last item has one holder.
use Rattle.std.proofs.Common.{◌≡◌, ◌≢◌, ℕ, ◌+◌, ◌<◌, ◌≤◌, true, false, List, [], ◌∷◌, length, set, Option, Some, None, refl, sym, ◌∙◌, ap, subst, arith, inl, inr, ◌⊎◌, eq-eqb, true≢false}
use Rattle.std.specs.List.{count_by}
use Rattle.std.proofs.lemmas.Bool.{cases_lt, cases_eq, false_from_ne_true}
use Rattle.std.proofs.lemmas.List.{get_or_past, get_or-set_same, get_or-set_other}
use Rattle.std.proofs.lemmas.List.Sums.{sum_by-set}
use Rattle.lineage.specs.declared.node.Node.{Node}
use Rattle.lineage.specs.Family.{has, path_in, EndsAlone}
use Rattle.lineage.specs.Climbs.{IsClimb}
use Rattle.lineage.specs.Lineages.{tip_at, is_key, is_above, node_at, link_at, links_to_key, family_on, IsOn, IsSoundFamily}
use Rattle.lineage.proofs.KeyLists.{has-head, has-reverse, has_not_from}
use Rattle.lineage.proofs.Climbs.{climb_cases, climb_unique}
use Rattle.lineage.proofs.ClimbedPaths.{path_in_is, path_to_is, last_is, no_climb_from_vacant}
use Rattle.lineage.proofs.Counts.{one_if, count_none, none_pass}
use Rattle.lineage.proofs.SoundNodes.{node_climb}
use Rattle.lineage.proofs.Links.{is_above_true, is_key_true, node_from}
use Rattle.lineage.proofs.ClimbsThrough.{climb_on, not_above}

-- a key that is the tip of a path has a node
pub tip_node : {X : Type 0} (s : List (Option (Node X))) (tips : List (Option ℕ)) (path key : ℕ) → IsSoundFamily s tips → tip_at tips path ≡ Some key → (n : Node X) × (node_at s key ≡ Some n)
tip_node {X} s tips path key sound tip = by (node_at s key) refl
  where
    by : (o : Option (Node X)) → node_at s key ≡ o → (n : Node X) × (node_at s key ≡ Some n)
    by None e = absurd (no_climb_from_vacant s (tip_at tips path) key (sound.ends path) tip e)
    by (Some n) e = (n, e)

module _ {X : Type 0} (s : List (Option (Node X))) (tips : List (Option ℕ)) (path key : ℕ) (n : Node X) (sound : IsSoundFamily s tips)
    (tip : tip_at tips path ≡ Some key) (there : node_at s key ≡ Some n) where
  within : path < length tips
  within = by (cases_lt path (length tips))
    where
      by : (path < length tips) ⊎ (length tips ≤ path) → path < length tips
      by (inl lt) = lt
      by (inr le) = let none : tip_at tips path ≡ None = get_or_past tips path None le in absurd (cc)

  abbrev without : List (Option ℕ)
  without = set tips path None

  counts : n.holders ≡ count_by (is_key key) without + 1 + count_by (links_to_key key) s
  counts =
      let a = sum_by-set (λ x. one_if (is_key key x)) tips path None None within in
      let b : one_if (is_key key (tip_at tips path)) ≡ 1 = ap (λ o. one_if (is_key key o)) tip ∙ ap one_if (eq-eqb key key refl) in
      let is = sound.counted key n there in
      omega (arith, a, b, is)

  has_path : (j : ℕ) → has key (path_in (family_on s tips) j) ≡ has key (sound.ends j).up
  has_path j = let e = sound.ends j in ap (has key) (path_in_is s tips j ∙ path_to_is s (tip_at tips j) e.up e.is) ∙ has-reverse key e.up

  pub alone_if_one_holder : n.holders ≡ 1 → EndsAlone (family_on s tips) path
  alone_if_one_holder one_holds = record {
    key = key;
    last = last_is s tips path sound ∙ tip;
    own = λ j ne. has_not_from key (path_in (family_on s tips) j) (λ m.
        let e = sound.ends j in
        climb_cases (link_at s) (tip_at tips j) e.up key ⊥ e.is (sym (has_path j) ∙ m)
        (λ at. true≢false (sym (ap (is_key key) (get_or-set_other tips path j None None ne ∙ at) ∙ eq-eqb key key refl) ∙ none_pass (is_key key) without j refl no_tips))
        (λ i link _on. true≢false (sym (ap (is_above key) link ∙ eq-eqb key key refl) ∙ none_pass (links_to_key key) s i refl no_nodes)));
  }
    where
      no_tips : count_by (is_key key) without ≡ 0
      no_tips = omega (arith, counts, one_holds)

      no_nodes : count_by (links_to_key key) s ≡ 0
      no_nodes = omega (arith, counts, one_holds)

  pub one_holder_if_alone : EndsAlone (family_on s tips) path → n.holders ≡ 1
  one_holder_if_alone e = omega (arith, counts, no_tips, no_nodes)
    where
      same : e.key ≡ key
      same = let a : Some e.key ≡ Some key = sym e.last ∙ last_is s tips path sound ∙ tip in cc

      own : (j : ℕ) → j ≢ path → has key (sound.ends j).up ≡ false
      own j ne = sym (has_path j) ∙ subst (λ k. has k (path_in (family_on s tips) j) ≡ false) same (e.own j ne)

      begins : (at : Option ℕ) (up : List ℕ) → IsClimb (link_at s) at up → at ≡ Some key → has key up ≡ true
      begins at [] h some = absurd (cc)
      begins at (k ∷ up) h some =
          let first : at ≡ Some k = h.0 in
          let is : key ≡ k = cc in
          subst (λ z. has z (k ∷ up) ≡ true) (sym is) (has-head k up)

      tip_of : (j : ℕ) → (j ≡ path) ⊎ (j ≢ path) → is_key key (tip_at without j) ≡ true → ⊥
      tip_of j (inl is) m = true≢false (sym m ∙ ap (is_key key) (ap (tip_at without) is ∙ get_or-set_same tips path None None within))
      tip_of j (inr ne) m =
          let at : tip_at tips j ≡ Some key = sym (get_or-set_other tips path j None None ne) ∙ is_key_true key (tip_at without j) m in
          true≢false (sym (begins (tip_at tips j) (sound.ends j).up (sound.ends j).is at) ∙ own j ne)

      no_tips : count_by (is_key key) without ≡ 0
      no_tips = count_none (is_key key) refl without (λ j. false_from_ne_true (is_key key (tip_at without j)) (tip_of j (cases_eq j path)))

      up_here : (rest : List ℕ) × IsClimb (link_at s) (Some key) (key ∷ rest)
      up_here = node_climb s tips sound key n there

      on_path : (i : ℕ) → link_at s i ≡ Some (Some key) → (o : IsOn s tips i) → (o.path ≡ path) ⊎ (o.path ≢ path) → ⊥
      on_path i link o (inl is) =
          let at : tip_at tips o.path ≡ Some key = ap (tip_at tips) is ∙ tip in
          not_above (link_at s) key up_here.0 up_here.1 i link
          (subst (λ u. has i u ≡ true)
          (climb_unique (link_at s) (Some key) o.up (key ∷ up_here.0) (subst (λ z. IsClimb (link_at s) z o.up) at o.is) up_here.1) o.on)
      on_path i link o (inr ne) =
          let m = climb_on (link_at s) key up_here.0 up_here.1 i link (tip_at tips o.path) o.up o.is o.on key (has-head key up_here.0) in
          let same_up = climb_unique (link_at s) (tip_at tips o.path) o.up (sound.ends o.path).up o.is (sound.ends o.path).is in
          true≢false (sym (subst (λ u. has key u ≡ true) same_up m) ∙ own o.path ne)

      node_of : (i : ℕ) → is_above key (link_at s i) ≡ true → ⊥
      node_of i m =
          let link = is_above_true key (link_at s i) m in
          let w = node_from (node_at s i) (Some key) link in
          let o = sound.live i w.0 w.1.0 in
          on_path i link o (cases_eq o.path path)

      no_nodes : count_by (links_to_key key) s ≡ 0
      no_nodes = count_none (links_to_key key) refl s (λ i. false_from_ne_true (links_to_key key (node_at s i)) (node_of i))
