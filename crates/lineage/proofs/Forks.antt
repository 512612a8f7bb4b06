-- A new path that ends with a key.
use Rattle.std.proofs.Common.{◌≡◌, ℕ, zero, suc, ◌+◌, ◌<◌, ◌^◌, Bool, true, false, List, [], ◌∷◌, ◌++◌, length, map, reverse, Option, Some, None, refl, sym, ◌∙◌, ap, subst, arith}
use Rattle.std.specs.Prelude.{is_some, IsSome, IfSome}
use Rattle.std.specs.List.{count_by}
use Rattle.std.proofs.lemmas.List.{get_or_append_left, map_push, reverse-reverse, length_push}
use Rattle.std.proofs.lemmas.List.Sums.{sum_by_push, count_by-le-length}
use Rattle.lineage.specs.declared.node.Node.{Node}
use Rattle.lineage.specs.Family.{last_of, item_at, path_in, IsForked, Family}
use Rattle.lineage.specs.Climbs.{IsClimb, Ends}
use Rattle.lineage.specs.Lineages.{tip_at, is_key, is_above, node, node_at, item_in, link_in, link_at, path_to, links_to_key, holders_of, with_holder, family_on, IsOn, IsSoundFamily}
use Rattle.lineage.proofs.KeyLists.{reverse_cons}
use Rattle.lineage.proofs.Climbs.{last_of-climb_reverse}
use Rattle.lineage.proofs.ClimbedPaths.{path_to_is, item_is, climb_at}
use Rattle.lineage.proofs.Counts.{one_if, count_same, count_weaker}
use Rattle.lineage.proofs.KeptLinks.{climb_stays, path_stays}
use Rattle.lineage.proofs.SoundNodes.{on_within, node_climb}
use Rattle.lineage.proofs.Tips.{each_tip_pushed}
use Rattle.lineage.proofs.Maps.{map_on_tips}

module _ {X : Type 0} where
  -- one holder more changes neither a node's link nor its item
  held_above : (b : Bool) (o : Option (Node X)) → link_in (with_holder b o) ≡ link_in o
  held_above true None = refl
  held_above true (Some n) = refl
  held_above false None = refl
  held_above false (Some n) = refl

  held_item : (b : Bool) (o : Option (Node X)) → item_in (with_holder b o) ≡ item_in o
  held_item true None = refl
  held_item true (Some n) = refl
  held_item false None = refl
  held_item false (Some n) = refl

  -- a node to which `with_holder` gives one holder or none was there before
  held_from : (b : Bool) (o : Option (Node X)) (n : Node X) → with_holder b o ≡ Some n → (m : Node X) × ((o ≡ Some m) × (n.holders ≡ m.holders + one_if b))
  held_from true None n e = absurd (cc)
  held_from false None n e = absurd (cc)
  held_from true (Some m) n e =
      let is : Some (node m.item m.above (m.holders + 1)) ≡ Some n = e in
      let same : node m.item m.above (m.holders + 1) ≡ n = cc in
      (m, (refl, sym (ap (λ (z : Node X). z.holders) same)))
  held_from false (Some m) n e =
      let is : Some m ≡ Some n = e in
      let same : m ≡ n = cc in
      let none : m.holders ≡ m.holders + 0 = omega arith in
      (m, (refl, sym (ap (λ (z : Node X). z.holders) same) ∙ none))

  -- two lists of equally many nodes have the same items if they have the same at each key
  same_items : (s t : List (Option (Node X))) → length t ≡ length s → ((k : ℕ) → item_in (node_at t k) ≡ item_in (node_at s k)) → map item_in t ≡ map item_in s
  same_items [] [] e h = refl
  same_items [] (n ∷ t) e h = absurd (omega arith)
  same_items (m ∷ s) [] e h = absurd (omega arith)
  same_items (m ∷ s) (n ∷ t) e h = λ i. h zero i ∷ same_items s t (omega arith) (λ k. h (suc k)) i

  some_node : (o : Option (Node X)) → IsSome (item_in o) → (n : Node X) × (o ≡ Some n)
  some_node None h = absurd (cc)
  some_node (Some n) h = (n, refl)

  -- a key with an item has a node
  pub node_there : (s : List (Option (Node X))) (tips : List (Option ℕ)) (f : Family X) (key : ℕ) → family_on s tips ≡ f → IsSome (item_at f key) → (n : Node X) × (node_at s key ≡ Some n)
  node_there s tips f key seen h = some_node (node_at s key) (subst IsSome (ap (λ z. item_at z key) (sym seen) ∙ item_is s tips key) h)

  -- the same of a key, if one is given
  pub some_there : (s : List (Option (Node X))) (tips : List (Option ℕ)) (key : Option ℕ) → IfSome key (λ k. IsSome (item_at (family_on s tips) k))
      → IfSome key (λ k. IsSome (node_at s k))
  some_there s tips None h = h
  some_there s tips (Some k) h = let n = node_there s tips (family_on s tips) k refl h in subst IsSome (sym n.1) refl

  module _ (s t : List (Option (Node X))) (tips new : List (Option ℕ)) (key : Option ℕ) (sound : IsSoundFamily s tips)
      (there : IfSome key (λ k. IsSome (item_at (family_on s tips) k))) (now : (k : ℕ) → node_at t k ≡ with_holder (is_key k key) (node_at s k))
      (tips_are : new ≡ tips ++ key ∷ []) where
    same_above : (k : ℕ) → link_at t k ≡ link_at s k
    same_above k = ap link_in (now k) ∙ held_above (is_key k key) (node_at s k)

    keeps : (k : ℕ) (next : Option ℕ) → link_at s k ≡ Some next → link_at t k ≡ Some next
    keeps k next e = same_above k ∙ e

    ends_key : Ends (link_at s) key
    ends_key = by key there
      where
        by : (o : Option ℕ) → IfSome o (λ k. IsSome (item_at (family_on s tips) k)) → Ends (link_at s) o
        by None h = record { up = []; is = refl }
        by (Some k) h =
            let n = node_there s tips (family_on s tips) k refl h in
            let c = node_climb s tips sound k n.0 n.1 in
            record { up = k ∷ c.0; is = c.1 }

    ends_stay : (at : Option ℕ) → Ends (link_at s) at → Ends (link_at t) at
    ends_stay at e = record { up = e.up; is = climb_stays s t keeps at e.up e.is }

    ends_now : (i : ℕ) → Ends (link_at t) (tip_at new i)
    ends_now i =
        subst (λ l. Ends (link_at t) (tip_at l i)) (sym tips_are)
        (each_tip_pushed (Ends (link_at t)) tips key (λ j. ends_stay (tip_at tips j) (sound.ends j)) (ends_stay key ends_key) i)

    on_now : (k : ℕ) → IsOn s tips k → IsOn t new k
    on_now k o =
        let tip : tip_at new o.path ≡ tip_at tips o.path = ap (λ l. tip_at l o.path) tips_are ∙ get_or_append_left tips (key ∷ []) None o.path (on_within s tips k o) in
        record { path = o.path; up = o.up; is = subst (λ z. IsClimb (link_at t) z o.up) (sym tip) (climb_stays s t keeps (tip_at tips o.path) o.up o.is); on = o.on }

    holders_now : (m : ℕ) → holders_of t new m ≡ holders_of s tips m + one_if (is_key m key)
    holders_now m =
        let a = sum_by_push (λ x. one_if (is_key m x)) tips key in
        let b = count_same (links_to_key m) refl s t (λ j. ap (is_above m) (same_above j)) in
        let c : count_by (is_key m) new ≡ count_by (is_key m) (tips ++ key ∷ []) = ap (count_by (is_key m)) tips_are in
        omega (arith, a, b, c)

    pub forked_sound : count_by is_some t ≡ count_by is_some s → length tips + count_by is_some s + 1 < 2 ^ 64 → IsSoundFamily t new
    forked_sound len room = record {
      ends = ends_now;
      live = λ k n e. let m = held_from (is_key k key) (node_at s k) n (sym (now k) ∙ e) in on_now k (sound.live k m.0 m.1.0);
      counted = λ k n e.
          let m = held_from (is_key k key) (node_at s k) n (sym (now k) ∙ e) in
          let was = sound.counted k m.0 m.1.0 in
          let all = holders_now k in
          let held = m.1.1 in
          omega (arith, was, all, held);
      few = let l : length new ≡ length tips + 1 = ap length tips_are ∙ length_push tips key in omega (arith, l, len, room);
    }

    shared_path : (k i : ℕ) (front back : List ℕ) → key ≡ Some k → path_in (family_on s tips) i ≡ front ++ k ∷ back → path_to s key ≡ front ++ k ∷ []
    shared_path k i front back is e =
        ap (path_to s) is ∙ path_to_is s (Some k) (k ∷ reverse front) (climb_at s tips i k front back sound e)
        ∙ reverse_cons k (reverse front) ∙ ap (λ l. l ++ k ∷ []) (reverse-reverse front)

    same_item : (k : ℕ) → item_in (node_at t k) ≡ item_in (node_at s k)
    same_item k = ap item_in (now k) ∙ held_item (is_key k key) (node_at s k)

    pub forked : length t ≡ length s → IsForked (family_on s tips) (family_on t new) key
    forked long = record {
      path = path_to s key;
      paths = ap (map (path_to t)) tips_are ∙ map_push (path_to t) tips key
          ∙ ap (λ l. l ++ path_to t key ∷ []) (map_on_tips (path_to t) (path_to s) tips (λ i. path_stays s t keeps (tip_at tips i) (sound.ends i)))
          ∙ ap (λ p. map (path_to s) tips ++ p ∷ []) (path_stays s t keeps key ends_key);
      last = ap last_of (path_to_is s key ends_key.up ends_key.is) ∙ last_of-climb_reverse (link_at s) key ends_key.up ends_key.is;
      shared = shared_path;
      items = same_items s t long same_item;
    }

  -- a word can count one more holder of each node
  pub few_holders : (s : List (Option (Node X))) (tips : List (Option ℕ)) (k : ℕ) (n : Node X) → IsSoundFamily s tips → node_at s k ≡ Some n
      → length tips + count_by is_some s + 1 < 2 ^ 64 → n.holders + 1 < 2 ^ 64
  few_holders s tips k n sound e room =
      let is = sound.counted k n e in
      let a = count_by-le-length (is_key k) tips in
      let b = count_weaker (links_to_key k) is_some s (λ o. linked_is_some o) in
      omega (arith, is, a, b, room)
    where
      linked_is_some : (o : Option (Node X)) → links_to_key k o ≡ true → is_some o ≡ true
      linked_is_some None h = absurd (cc)
      linked_is_some (Some m) h = refl
