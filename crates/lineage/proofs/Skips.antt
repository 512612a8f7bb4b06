-- Taking out a node. Each link to the node becomes a link to the node above it.
use Rattle.std.proofs.Common.{◌≡◌, ◌≢◌, ℕ, ◌+◌, ◌-◌, ◌<◌, ◌≤◌, ◌^◌, Bool, true, false, cond, nat_eq, List, [], ◌∷◌, length, map, get_or, set, Option, Some, None, refl, sym, ◌∙◌, ap, subst, arith, inl, inr, ◌⊎◌, eq-eqb, ne_eqb, true≢false}
use Rattle.std.specs.Prelude.{is_some, IsSome, IfSome}
use Rattle.std.specs.List.{count_by}
use Rattle.std.proofs.lemmas.Bool.{cases_eq, cases_lt}
use Rattle.std.proofs.lemmas.List.{get_or-set_same, get_or-set_other, length-map}
use Rattle.std.proofs.lemmas.List.Sums.{sum_by-set, get_or-le-sum_by, count_by-le-length}
use Rattle.lineage.specs.declared.node.Node.{Node}
use Rattle.lineage.specs.Family.{has, keys_without, item_at}
use Rattle.lineage.specs.Climbs.{IsClimb}
use Rattle.lineage.specs.Lineages.{tip_at, is_key, is_above, node, node_at, item_in, link_in, link_at, path_to, links_to_key, holders_of, past, past_node, passed_on, family_on, IsSoundFamily}
use Rattle.lineage.proofs.KeyLists.{has-head}
use Rattle.lineage.proofs.ClimbedPaths.{path_to_is, item_is, link_within}
use Rattle.lineage.proofs.Counts.{one_if, count_changed, count_same}
use Rattle.lineage.proofs.SoundNodes.{node_climb, linked_there}
use Rattle.lineage.proofs.Maps.{map_on_tips, map-map, map_at}
use Rattle.lineage.proofs.Links.{node_from}
use Rattle.lineage.proofs.Climbs.{not_again}
use Rattle.lineage.proofs.SkippedClimbs.{past_link, past_unless_key, without-reverse, has-without_other, climb_past, each_past, each_past_link, sum_past, count_map, cond_add, sum_apart}

module _ {X : Type 0} where
  skipped_link : (key : ℕ) (top : Option ℕ) (b : Bool) (h : ℕ) (o : Option (Node X)) → link_in (past_node key top (passed_on b h o)) ≡ past_link key top (link_in o)
  skipped_link key top true h None = refl
  skipped_link key top false h None = refl
  skipped_link key top true h (Some m) = refl
  skipped_link key top false h (Some m) = refl

  skipped_item : (key : ℕ) (top : Option ℕ) (b : Bool) (h : ℕ) (o : Option (Node X)) → item_in (past_node key top (passed_on b h o)) ≡ item_in o
  skipped_item key top true h None = refl
  skipped_item key top false h None = refl
  skipped_item key top true h (Some m) = refl
  skipped_item key top false h (Some m) = refl

  skipped_is_some : (key : ℕ) (top : Option ℕ) (b : Bool) (h : ℕ) (o : Option (Node X)) → is_some (past_node key top (passed_on b h o)) ≡ is_some o
  skipped_is_some key top true h None = refl
  skipped_is_some key top false h None = refl
  skipped_is_some key top true h (Some m) = refl
  skipped_is_some key top false h (Some m) = refl

  skipped_was : (key : ℕ) (top : Option ℕ) (b : Bool) (h : ℕ) (o : Option (Node X)) (m : Node X) → past_node key top (passed_on b h o) ≡ Some m
      → (w : Node X) × ((o ≡ Some w) × (m.holders ≡ cond b (w.holders - 1 + h) w.holders))
  skipped_was key top true h None m e = absurd (cc)
  skipped_was key top false h None m e = absurd (cc)
  skipped_was key top true h (Some w) m e =
      let is : Some (node w.item (past key top w.above) (w.holders - 1 + h)) ≡ Some m = e in
      let same : node w.item (past key top w.above) (w.holders - 1 + h) ≡ m = cc in
      (w, (refl, sym (ap (λ (z : Node X). z.holders) same)))
  skipped_was key top false h (Some w) m e =
      let is : Some (node w.item (past key top w.above) w.holders) ≡ Some m = e in
      let same : node w.item (past key top w.above) w.holders ≡ m = cc in
      (w, (refl, sym (ap (λ (z : Node X). z.holders) same)))

  -- a node doesn't link to itself
  module _ (s : List (Option (Node X))) (tips : List (Option ℕ)) (key : ℕ) (n : Node X) (sound : IsSoundFamily s tips) (there : node_at s key ≡ Some n) where
    pub not_itself : n.above ≡ Some key → ⊥
    not_itself e =
        let c = node_climb s tips sound key n there in
        let links : Some c.1.1.0 ≡ Some n.above = sym c.1.1.1.0 ∙ ap link_in there in
        let next : c.1.1.0 ≡ Some key = let a : c.1.1.0 ≡ n.above = cc in a ∙ e in
        let again : has key c.0 ≡ true = first c.0 (subst (λ o. IsClimb (link_at s) o c.0) next c.1.1.1.1) in
        true≢false (sym again ∙ not_again (link_at s) key c.0 c.1)
      where
        first : (up : List ℕ) → IsClimb (link_at s) (Some key) up → has key up ≡ true
        first [] h = absurd (cc)
        first (k ∷ up) h = let a : Some key ≡ Some k = h.0 in let same : key ≡ k = cc in subst (λ z. has z (k ∷ up) ≡ true) (sym same) (has-head k up)

    -- the node above the removed one still exists
    pub above_there : (r : List (Option (Node X))) → ((k : ℕ) → k ≢ key → node_at r k ≡ node_at s k) → IfSome n.above (λ k. IsSome (node_at r k))
    above_there r others = by n.above refl
      where
        by : (o : Option ℕ) → n.above ≡ o → IfSome o (λ k. IsSome (node_at r k))
        by None e = tt
        by (Some k) e =
            let l = linked_there s tips sound key k (ap link_in there ∙ ap Some e) in
            let w = node_from (node_at s k) l.0 l.1 in
            subst IsSome (sym (others k (λ same. not_itself (e ∙ ap Some same)) ∙ w.1.0)) refl

    -- the holders of the node above still fit in a word
    pub few_passed : (r : List (Option (Node X))) → ((k : ℕ) → k ≢ key → node_at r k ≡ node_at s k) → (k : ℕ) (m : Node X) → n.above ≡ Some k → node_at r k ≡ Some m
        → (1 ≤ m.holders) × (m.holders - 1 + n.holders < 2 ^ 64)
    few_passed r others k m e here =
        let ne : k ≢ key = λ same. not_itself (e ∙ ap Some same) in
        let a = sound.counted k m (sym (others k ne) ∙ here) in
        let b = sound.counted key n there in
        let some = get_or-le-sum_by (λ o. one_if (links_to_key k o)) s key None (link_within s key n.above (ap link_in there)) in
        let c : one_if (links_to_key k (node_at s key)) ≡ 1 = ap (λ o. one_if (links_to_key k o)) there ∙ ap (λ o. one_if (is_key k o)) e ∙ ap one_if (eq-eqb k k refl) in
        let d = sum_apart (is_key k) (is_key key) (λ _. true) tips (apart_tip k ne) in
        let f = sum_apart (links_to_key k) (links_to_key key) is_some s (apart_node k ne) in
        let h = count_by-le-length (λ (_ : Option ℕ). true) tips in
        let few = sound.few in
        (omega (arith, a, some, c), omega (arith, a, b, d, f, h, few, some, c))
      where
        both_not : (i : ℕ) → i ≢ key → (j : ℕ) → one_if (nat_eq i j) + one_if (nat_eq key j) ≤ 1
        both_not i ne j = on (cases_eq i j)
          where
            least : (b : Bool) → 0 + one_if b ≤ 1
            least true = omega arith
            least false = omega arith

            on : (i ≡ j) ⊎ (i ≢ j) → one_if (nat_eq i j) + one_if (nat_eq key j) ≤ 1
            on (inl same) =
                let x = ap one_if (eq-eqb i j same) in
                let y = ap one_if (ne_eqb key j (λ w. ne (same ∙ sym w))) in
                omega (arith, x, y)
            on (inr no_one) = let x = ap one_if (ne_eqb i j no_one) in let y = least (nat_eq key j) in omega (arith, x, y)

        apart_tip : (i : ℕ) → i ≢ key → (o : Option ℕ) → one_if (is_key i o) + one_if (is_key key o) ≤ 1
        apart_tip i ne None = omega arith
        apart_tip i ne (Some j) = both_not i ne j

        apart_node : (i : ℕ) → i ≢ key → (o : Option (Node X)) → one_if (links_to_key i o) + one_if (links_to_key key o) ≤ one_if (is_some o)
        apart_node i ne None = omega arith
        apart_node i ne (Some w) = apart_tip i ne w.above

  -- nodes after a removal: in p the holders are passed on, and in t the links also skip the key
  skipped_none : (key : ℕ) (top : Option ℕ) (b : Bool) (h : ℕ) (o : Option (Node X)) → o ≡ None → past_node key top (passed_on b h o) ≡ None
  skipped_none key top true h o e = ap (λ z. past_node key top (passed_on true h z)) e
  skipped_none key top false h o e = ap (λ z. past_node key top (passed_on false h z)) e

  module _ (s r p t : List (Option (Node X))) (key : ℕ) (top : Option ℕ) (h : ℕ) (passed : (k : ℕ) → node_at p k ≡ passed_on (is_key k top) h (node_at r k))
      (skipped : (k : ℕ) → node_at t k ≡ past_node key top (node_at p k)) where
    pub gone_from : node_at r key ≡ None → node_at t key ≡ None
    gone_from e = skipped key ∙ ap (past_node key top) (passed key) ∙ skipped_none key top (is_key key top) h (node_at r key) e

    pub others_from : ((k : ℕ) → k ≢ key → node_at r k ≡ node_at s k) → (k : ℕ) → k ≢ key → node_at t k ≡ past_node key top (passed_on (is_key k top) h (node_at s k))
    others_from others k ne = skipped k ∙ ap (past_node key top) (passed k ∙ ap (passed_on (is_key k top) h) (others k ne))

  module _ (s t : List (Option (Node X))) (tips new : List (Option ℕ)) (key : ℕ) (n : Node X) (sound : IsSoundFamily s tips) (there : node_at s key ≡ Some n) (gone : node_at t key ≡ None)
      (others : (k : ℕ) → k ≢ key → node_at t k ≡ past_node key n.above (passed_on (is_key k n.above) n.holders (node_at s k))) (now : new ≡ map (past key n.above) tips) where
    itself : n.above ≡ Some key → ⊥
    itself = not_itself s tips key n sound there

    links_now : (k : ℕ) → k ≢ key → link_at t k ≡ past_link key n.above (link_at s k)
    links_now k ne = ap link_in (others k ne) ∙ skipped_link key n.above (is_key k n.above) n.holders (node_at s k)

    tip_is : (i : ℕ) → tip_at new i ≡ past key n.above (tip_at tips i)
    tip_is i = ap (λ l. tip_at l i) now ∙ map_at (past key n.above) tips i refl

    climbs : (i : ℕ) (up : List ℕ) → IsClimb (link_at s) (tip_at tips i) up → IsClimb (link_at t) (tip_at new i) (keys_without key up)
    climbs i up h =
        subst (λ o. IsClimb (link_at t) o (keys_without key up)) (sym (tip_is i))
        (climb_past (link_at s) (link_at t) key n.above (ap link_in there) itself links_now (tip_at tips i) up h)

    not_key : (k : ℕ) (m : Node X) → node_at t k ≡ Some m → k ≢ key
    not_key k m e same = let none : node_at t k ≡ None = ap (node_at t) same ∙ gone in cc

    was : (k : ℕ) (m : Node X) → node_at t k ≡ Some m → (w : Node X) × ((node_at s k ≡ Some w) × (m.holders ≡ cond (is_key k n.above) (w.holders - 1 + n.holders) w.holders))
    was k m e = skipped_was key n.above (is_key k n.above) n.holders (node_at s k) m (sym (others k (not_key k m e)) ∙ e)

    within : key < length s
    within = link_within s key n.above (ap link_in there)

    abbrev rest : List (Option (Node X))
    rest = set s key None

    rest_key : node_at rest key ≡ None
    rest_key = get_or-set_same s key None None within

    rest_other : (k : ℕ) → k ≢ key → node_at rest k ≡ node_at s k
    rest_other k ne = get_or-set_other s key k None None ne

    nodes_now : (m : ℕ) → m ≢ key → count_by (links_to_key m) t + one_if (is_key m n.above) ≡ count_by (links_to_key m) s + cond (is_key m n.above) (count_by (links_to_key key) s) 0
    nodes_now m ne =
        let p = λ (o : Option (Node X)). is_above m (past_link key n.above (link_in o)) in
        let a = count_same (links_to_key m) refl (map (past_node key n.above) rest) t (λ j. each j (cases_eq j key)) in
        let b = count_map (links_to_key m) (past_node key n.above) rest in
        let c = sum_past (λ o. links_to_key m (past_node key n.above o)) p p false rest (λ o. ap one_if (same o) ∙ (let z : one_if (p o) ≡ one_if (p o) + 0 = omega arith in z)) in
        let d = sum_by-set (λ o. one_if (p o)) s key None None within in
        let e = sum_past p (links_to_key m) (links_to_key key) (is_key m n.above) s (λ o. each_past_link key m n.above ne (link_in o)) in
        let f : one_if (p (node_at s key)) ≡ one_if (is_key m n.above) = ap (λ o. one_if (p o)) there ∙ ap (λ o. one_if (is_key m o)) (past_unless_key key n.above n.above itself) in
        omega (arith, a, b, c, d, e, f)
      where
        same : (o : Option (Node X)) → links_to_key m (past_node key n.above o) ≡ is_above m (past_link key n.above (link_in o))
        same None = refl
        same (Some w) = refl

        each : (j : ℕ) → (j ≡ key) ⊎ (j ≢ key) → links_to_key m (node_at t j) ≡ links_to_key m (get_or (map (past_node key n.above) rest) j None)
        each j (inl e) =
            ap (λ i. links_to_key m (node_at t i)) e ∙ ap (links_to_key m) gone
            ∙ sym (ap (links_to_key m) (map_at (past_node key n.above) rest j refl ∙ ap (past_node key n.above) (ap (node_at rest) e ∙ rest_key)))
        each j (inr ne) =
            ap (is_above m) (links_now j ne)
            ∙ sym (same (node_at s j)) ∙ sym (ap (links_to_key m) (map_at (past_node key n.above) rest j refl ∙ ap (past_node key n.above) (rest_other j ne)))

    holders_now : (m : ℕ) → m ≢ key → holders_of t new m + one_if (is_key m n.above) ≡ holders_of s tips m + cond (is_key m n.above) n.holders 0
    holders_now m ne =
        let a = nodes_now m ne in
        let b : count_by (is_key m) new ≡ count_by (is_key m) (map (past key n.above) tips) = ap (count_by (is_key m)) now in
        let c = count_map (is_key m) (past key n.above) tips in
        let d = sum_past (λ o. is_key m (past key n.above o)) (is_key m) (is_key key) (is_key m n.above) tips (each_past key m n.above ne) in
        let e = cond_add (is_key m n.above) (count_by (is_key key) tips) (count_by (links_to_key key) s) in
        let f = ap (λ h. cond (is_key m n.above) h 0) (sound.counted key n there) in
        omega (arith, a, b, c, d, e, f)

    counted_by : (k : ℕ) (m : Node X) (e : node_at t k ≡ Some m) (b : Bool) → is_key k n.above ≡ b
        → (m.holders ≡ cond b ((was k m e).0.holders - 1 + n.holders) (was k m e).0.holders)
        × (holders_of t new k + one_if b ≡ (was k m e).0.holders + cond b n.holders 0)
    counted_by k m e b it =
        let w = was k m e in
        let old = sound.counted k w.0 w.1.0 in
        let all = holders_now k (not_key k m e) in
        let x = ap one_if it in
        let y = ap (λ b. cond b n.holders 0) it in
        (w.1.1 ∙ ap (λ b. cond b (w.0.holders - 1 + n.holders) w.0.holders) it, omega (arith, old, all, x, y))

    counted_now : (k : ℕ) (m : Node X) → node_at t k ≡ Some m → m.holders ≡ holders_of t new k
    counted_now k m e = by (is_key k n.above) refl
      where
        by : (b : Bool) → is_key k n.above ≡ b → m.holders ≡ holders_of t new k
        by true it =
            let old = sound.counted k (was k m e).0 (was k m e).1.0 in
            let sums = counted_by k m e true it in
            let some = get_or-le-sum_by (λ o. one_if (links_to_key k o)) s key None within in
            let z : one_if (links_to_key k (node_at s key)) ≡ 1 = ap (λ o. one_if (links_to_key k o)) there ∙ ap one_if it in
            omega (arith, old, sums.0, sums.1, some, z)
        by false it = let sums = counted_by k m e false it in omega (arith, sums.0, sums.1)

    pub skipped_sound : IsSoundFamily t new
    skipped_sound = record {
      ends = λ i. let e = sound.ends i in record { up = keys_without key e.up; is = climbs i e.up e.is };
      live = λ k m e.
          let w = was k m e in
          let o = sound.live k w.0 w.1.0 in
          record { path = o.path; up = keys_without key o.up; is = climbs o.path o.up o.is; on = has-without_other key n.above k o.up (not_key k m e) o.on };
      counted = counted_now;
      few =
          let a = ap length now in let b = length-map tips (past key n.above) in
          let c = count_changed is_some refl key s t (λ j ne. ap is_some (others j ne) ∙ skipped_is_some key n.above (is_key j n.above) n.holders (node_at s j)) in
          let d = ap (λ o. one_if (is_some o)) gone in
          let few = sound.few in
          omega (arith, a, b, c, d, few);
    }

    pub skipped_paths : map (path_to t) new ≡ map (keys_without key) (map (path_to s) tips)
    skipped_paths =
        ap (map (path_to t)) now ∙ map-map (past key n.above) (path_to t) tips
        ∙ map_on_tips (λ o. path_to t (past key n.above o)) (λ o. keys_without key (path_to s o)) tips (λ i.
        let e = sound.ends i in
        ap (path_to t) (sym (tip_is i)) ∙ path_to_is t (tip_at new i) (keys_without key e.up) (climbs i e.up e.is) ∙ without-reverse key n.above e.up
        ∙ ap (keys_without key) (sym (path_to_is s (tip_at tips i) e.up e.is)))
        ∙ sym (map-map (path_to s) (keys_without key) tips)

    pub skipped_items : (k : ℕ) → k ≢ key → item_at (family_on t new) k ≡ item_at (family_on s tips) k
    skipped_items k ne = item_is t new k ∙ ap item_in (others k ne) ∙ skipped_item key n.above (is_key k n.above) n.holders (node_at s k) ∙ sym (item_is s tips k)

-- in t the links of nodes below `place` skip the key; in u that of the node at `place` does too
module _ {X : Type 0} (s t u : List (Option (Node X))) (place : ℕ) where
  pub skipped_more : (key : ℕ) (top : Option ℕ) → ((k : ℕ) → k < place → node_at t k ≡ past_node key top (node_at s k)) → ((k : ℕ) → place ≤ k → node_at t k ≡ node_at s k)
      → node_at u place ≡ past_node key top (node_at t place) → ((k : ℕ) → k ≢ place → node_at u k ≡ node_at t k) → (k : ℕ) → k < place + 1 → node_at u k ≡ past_node key top (node_at s k)
  skipped_more key top done later here others k lt = by (cases_eq k place)
    where
      by : (k ≡ place) ⊎ (k ≢ place) → node_at u k ≡ past_node key top (node_at s k)
      by (inl e) = ap (node_at u) e ∙ here ∙ ap (past_node key top) (later place (omega arith) ∙ ap (node_at s) (sym e))
      by (inr ne) = others k ne ∙ done k (below (cases_lt k place))
        where
          below : (k < place) ⊎ (place ≤ k) → k < place
          below (inl l) = l
          below (inr le) = let same : k ≡ place = omega (arith, lt, le) in absurd (ne same)

  pub skipped_later : ((k : ℕ) → place ≤ k → node_at t k ≡ node_at s k) → ((k : ℕ) → k ≢ place → node_at u k ≡ node_at t k) → (k : ℕ) → place + 1 ≤ k → node_at u k ≡ node_at s k
  skipped_later later others k le =
      let le2 : place ≤ k = omega (arith, le) in
      others k (λ e. absurd (omega (arith, e, le))) ∙ later k le2
