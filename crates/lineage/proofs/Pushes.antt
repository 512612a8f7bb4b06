-- Putting a node at the end of a path.
use Rattle.std.proofs.Common.{◌≡◌, ◌≢◌, ℕ, ◌+◌, ◌<◌, ◌^◌, nat_eq, List, [], ◌∷◌, ◌++◌, length, map, set, Option, Some, None, refl, sym, ◌∙◌, ap, subst, arith, inl, inr, ◌⊎◌, eq-eqb, ne_eqb}
use Rattle.std.specs.Prelude.{is_some}
use Rattle.std.specs.List.{count_by}
use Rattle.std.proofs.lemmas.Bool.{cases_eq}
use Rattle.std.proofs.lemmas.List.{get_or-set_same, get_or-set_other, length-set, map-set}
use Rattle.std.proofs.lemmas.List.Sums.{sum_by-set}
use Rattle.lineage.specs.declared.node.Node.{Node}
use Rattle.lineage.specs.Family.{path_in, IsAdded}
use Rattle.lineage.specs.Climbs.{IsClimb, Ends}
use Rattle.lineage.specs.Lineages.{tip_at, is_key, node, node_at, item_in, link_in, link_at, path_to, links_to_key, holders_of, family_on, IsOn, IsSoundFamily}
use Rattle.lineage.proofs.KeyLists.{has-head, has-tail, reverse_cons}
use Rattle.lineage.proofs.ClimbedPaths.{path_to_is, path_in_is, item_is}
use Rattle.lineage.proofs.Counts.{one_if, count_changed}
use Rattle.lineage.proofs.KeptLinks.{climb_stays, path_stays}
use Rattle.lineage.proofs.SoundNodes.{absent_holders}
use Rattle.lineage.proofs.Maps.{map_on_tips}

-- the nodes after a node is put at the end of a path
pub record IsPushed {X : Type 0} (s t : List (Option (Node X))) (tips new : List (Option ℕ)) (path key : ℕ) (item : X) : Type 0 where
  pub added : IsAdded (family_on s tips) (family_on t new) key item
  pub sound : IsSoundFamily t new
  pub paths : map (path_to t) new ≡ set (map (path_to s) tips) path (path_in (family_on s tips) path ++ key ∷ [])

-- a new node adds its item, and changes no other item
pub added : {X : Type 0} (s t : List (Option (Node X))) (tips new : List (Option ℕ)) (key : ℕ) (n : Node X) → node_at s key ≡ None → node_at t key ≡ Some n
    → ((k : ℕ) → k ≢ key → item_in (node_at t k) ≡ item_in (node_at s k)) → IsAdded (family_on s tips) (family_on t new) key n.item
added s t tips new key n vacant here others = record {
  was_vacant = item_is s tips key ∙ ap item_in vacant;
  here = item_is t new key ∙ ap item_in here;
  others = λ k ne. item_is t new k ∙ others k ne ∙ sym (item_is s tips k);
}

module _ {X : Type 0} (s t : List (Option (Node X))) (tips new : List (Option ℕ)) (path key : ℕ) (item : X) (sound : IsSoundFamily s tips) (within : path < length tips)
    (vacant : node_at s key ≡ None) (here : node_at t key ≡ Some (node item (tip_at tips path) 1)) (others : (k : ℕ) → k ≢ key → node_at t k ≡ node_at s k)
    (now : new ≡ set tips path (Some key)) where
  -- the new key had no link before, so each link that existed is unchanged
  not_new : (k : ℕ) (next : Option ℕ) → link_at s k ≡ Some next → k ≢ key
  not_new k next e same = let no : link_at s k ≡ None = ap (link_at s) same ∙ ap link_in vacant in cc

  keeps : (k : ℕ) (next : Option ℕ) → link_at s k ≡ Some next → link_at t k ≡ Some next
  keeps k next e = ap link_in (others k (not_new k next e)) ∙ e

  link : link_at t key ≡ Some (tip_at tips path)
  link = ap link_in here

  tip_here : tip_at new path ≡ Some key
  tip_here = ap (λ l. tip_at l path) now ∙ get_or-set_same tips path (Some key) None within

  tip_other : (i : ℕ) → i ≢ path → tip_at new i ≡ tip_at tips i
  tip_other i ne = ap (λ l. tip_at l i) now ∙ get_or-set_other tips path i (Some key) None ne

  -- the climb from the new tip
  climb_new : (up : List ℕ) → IsClimb (link_at s) (tip_at tips path) up → IsClimb (link_at t) (Some key) (key ∷ up)
  climb_new up h = (refl, (tip_at tips path, (link, climb_stays s t keeps (tip_at tips path) up h)))

  ends_now : (i : ℕ) → (i ≡ path) ⊎ (i ≢ path) → Ends (link_at t) (tip_at new i)
  ends_now i (inl e) =
      let old = sound.ends path in
      record { up = key ∷ old.up; is = subst (λ o. IsClimb (link_at t) o (key ∷ old.up)) (sym (ap (tip_at new) e ∙ tip_here)) (climb_new old.up old.is) }
  ends_now i (inr ne) =
      let old = sound.ends i in
      record { up = old.up; is = subst (λ o. IsClimb (link_at t) o old.up) (sym (tip_other i ne)) (climb_stays s t keeps (tip_at tips i) old.up old.is) }

  on_now : (k : ℕ) (o : IsOn s tips k) → (o.path ≡ path) ⊎ (o.path ≢ path) → IsOn t new k
  on_now k o (inl e) = record {
    path = path;
    up = key ∷ o.up;
    is = subst (λ z. IsClimb (link_at t) z (key ∷ o.up)) (sym tip_here) (climb_new o.up (subst (λ i. IsClimb (link_at s) (tip_at tips i) o.up) e o.is));
    on = has-tail k key o.up o.on;
  }
  on_now k o (inr ne) = record {
    path = o.path;
    up = o.up;
    is = subst (λ z. IsClimb (link_at t) z o.up) (sym (tip_other o.path ne)) (climb_stays s t keeps (tip_at tips o.path) o.up o.is);
    on = o.on;
  }

  on_new : IsOn t new key
  on_new =
      let old = sound.ends path in
      record { path = path; up = key ∷ old.up; is = subst (λ z. IsClimb (link_at t) z (key ∷ old.up)) (sym tip_here) (climb_new old.up old.is); on = has-head key old.up }

  -- only the new node's link adds a holder
  holders_now : (m : ℕ) → holders_of t new m ≡ holders_of s tips m + one_if (nat_eq m key)
  holders_now m =
      let a = sum_by-set (λ x. one_if (is_key m x)) tips path (Some key) None within in
      let b = count_changed (links_to_key m) refl key s t (λ j ne. ap (links_to_key m) (others j ne)) in
      let was : one_if (links_to_key m (node_at s key)) ≡ 0 = ap (λ o. one_if (links_to_key m o)) vacant in
      let is : one_if (links_to_key m (node_at t key)) ≡ one_if (is_key m (tip_at tips path)) = ap (λ o. one_if (links_to_key m o)) here in
      let c : count_by (is_key m) new ≡ count_by (is_key m) (set tips path (Some key)) = ap (count_by (is_key m)) now in
      omega (arith, a, b, was, is, c)

  counted_now : (k : ℕ) (n : Node X) → node_at t k ≡ Some n → (k ≡ key) ⊎ (k ≢ key) → n.holders ≡ holders_of t new k
  counted_now k n e (inl same) =
      let is : Some n ≡ Some (node item (tip_at tips path) 1) = sym e ∙ ap (node_at t) same ∙ here in
      let holders : n.holders ≡ 1 = cc in
      let none : holders_of s tips k ≡ 0 = absent_holders s tips sound k (ap (node_at s) same ∙ vacant) in
      let yes : one_if (nat_eq k key) ≡ 1 = ap one_if (eq-eqb k key same) in
      let all = holders_now k in
      omega (arith, holders, none, yes, all)
  counted_now k n e (inr ne) =
      let old = sound.counted k n (sym (others k ne) ∙ e) in
      let no : one_if (nat_eq k key) ≡ 0 = ap one_if (ne_eqb k key ne) in
      let all = holders_now k in
      omega (arith, old, no, all)

  live_now : (k : ℕ) (n : Node X) → node_at t k ≡ Some n → (k ≡ key) ⊎ (k ≢ key) → IsOn t new k
  live_now k n e (inl same) = subst (IsOn t new) (sym same) on_new
  live_now k n e (inr ne) = let o = sound.live k n (sym (others k ne) ∙ e) in on_now k o (cases_eq o.path path)

  pub pushed_sound : count_by is_some t ≡ count_by is_some s + 1 → length tips + count_by is_some s + 1 < 2 ^ 64 → IsSoundFamily t new
  pushed_sound len room = record {
    ends = λ i. ends_now i (cases_eq i path);
    live = λ k n e. live_now k n e (cases_eq k key);
    counted = λ k n e. counted_now k n e (cases_eq k key);
    few = let l : length new ≡ length tips = ap length now ∙ length-set tips path (Some key) in omega (arith, l, len, room);
  }

  -- the new key is the last of its path
  pub pushed_last : path_to t (Some key) ≡ path_to s (tip_at tips path) ++ key ∷ []
  pushed_last =
      let old = sound.ends path in
      path_to_is t (Some key) (key ∷ old.up) (climb_new old.up old.is) ∙ reverse_cons key old.up
      ∙ ap (λ l. l ++ key ∷ []) (sym (path_to_is s (tip_at tips path) old.up old.is))

  pub pushed_paths : map (path_to t) new ≡ set (map (path_to s) tips) path (path_in (family_on s tips) path ++ key ∷ [])
  pushed_paths =
      ap (map (path_to t)) now ∙ map-set (path_to t) tips path (Some key)
      ∙ ap (λ l. set l path (path_to t (Some key))) (map_on_tips (path_to t) (path_to s) tips (λ i. path_stays s t keeps (tip_at tips i) (sound.ends i)))
      ∙ ap (set (map (path_to s) tips) path) (pushed_last ∙ ap (λ l. l ++ key ∷ []) (sym (path_in_is s tips path)))

  pub pushed_added : IsAdded (family_on s tips) (family_on t new) key item
  pushed_added = added s t tips new key (node item (tip_at tips path) 1) vacant here (λ k ne. ap item_in (others k ne))

  pub pushed_all : count_by is_some t ≡ count_by is_some s + 1 → length tips + count_by is_some s + 1 < 2 ^ 64 → IsPushed s t tips new path key item
  pushed_all len room = record { added = pushed_added; sound = pushed_sound len room; paths = pushed_paths }
