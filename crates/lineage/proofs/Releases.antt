-- Releasing a path, from its tip up.
use Rattle.std.proofs.Common.{◌≡◌, ◌≢◌, ℕ, ◌+◌, ◌-◌, ◌<◌, ◌≤◌, true, false, nat_eq, nat_le, cond, List, [], ◌∷◌, length, Option, Some, None, refl, sym, ◌∙◌, ap, subst, arith, inl, inr, ◌⊎◌, eq-eqb, ne_eqb, true≢false}
use Rattle.std.specs.Prelude.{is_some}
use Rattle.std.specs.List.{count_by, remove}
use Rattle.std.proofs.lemmas.Bool.{cases_eq, cases_lt}
use Rattle.std.proofs.lemmas.Bool.Decides.{nat_tests}
use Rattle.std.proofs.lemmas.List.Edits.{length-remove}
use Rattle.std.proofs.lemmas.List.Sums.{sum_by-remove}
use Rattle.lineage.specs.declared.node.Node.{Node}
use Rattle.lineage.specs.Family.{has}
use Rattle.lineage.specs.Climbs.{IsClimb, Ends}
use Rattle.lineage.specs.Lineages.{tip_at, is_key, is_above, node, node_at, link_in, link_at, keys_up, links_to_key, holders_of, next_up, without_holder, IsOn, IsSoundFamily, IsReleasing}
use Rattle.lineage.proofs.KeyLists.{has_cases, has_not_from}
use Rattle.lineage.proofs.Climbs.{climb_unique, climb_kept, climb_cases, not_again}
use Rattle.lineage.proofs.ClimbedPaths.{keys_up_is}
use Rattle.lineage.proofs.Counts.{one_if, count_changed, count_some, none_pass}
use Rattle.lineage.proofs.KeptLinks.{climb_stays, holders_alike}
use Rattle.lineage.proofs.Links.{node_from, is_key_true, is_above_true}
use Rattle.lineage.proofs.ClimbsThrough.{climb_on, not_above}
use Rattle.lineage.proofs.Tips.{each_tip_left, other_tip_left}

-- the first step: the tip is removed from the list of tips
pub releasing_first : {X : Type 0} (s : List (Option (Node X))) (tips : List (Option ℕ)) (path : ℕ) → IsSoundFamily s tips → path < length tips
    → IsReleasing s s (remove tips path) (tip_at tips path)
releasing_first {X} s tips path sound within = record {
  ends = each_tip_left (Ends (link_at s)) tips path sound.ends;
  going = sound.ends path;
  live = λ k n e. on_rest k (sound.live k n e) (cases_eq (sound.live k n e).path path);
  counted = λ k n e.
      let all = sum_by-remove (λ x. one_if (is_key k x)) tips path None within in
      let is = sound.counted k n e in
      omega (arith, all, is);
  few = let l = length-remove tips path within in let few = sound.few in omega (arith, l, few);
  stays = λ k n e. (n, (e, (refl, refl)));
}
  where
    on_rest : (k : ℕ) (o : IsOn s tips k) → (o.path ≡ path) ⊎ (o.path ≢ path) → IsOn s (remove tips path) k ⊎ (has k (sound.ends path).up ≡ true)
    on_rest k o (inl same) =
        let up : o.up ≡ (sound.ends path).up = climb_unique (link_at s) (tip_at tips path) o.up (sound.ends path).up (subst (λ i. IsClimb (link_at s) (tip_at tips i) o.up) same o.is) (sound.ends path).is in
        inr (subst (λ u. has k u ≡ true) up o.on)
    on_rest k o (inr ne) =
        let j = other_tip_left tips path o.path ne in
        inl (record { path = j.0; up = o.up; is = subst (λ z. IsClimb (link_at s) z o.up) (sym j.1) o.is; on = o.on })

-- the last step: if there is nothing left to release, the nodes are sound
pub released_last : {X : Type 0} (first s : List (Option (Node X))) (tips : List (Option ℕ)) (at : Option ℕ) → IsReleasing first s tips at → at ≡ None → IsSoundFamily s tips
released_last {X} first s tips at r none = record {
  ends = r.ends;
  live = λ k n e. by k (r.live k n e);
  counted = λ k n e. let is = r.counted k n e in let no : one_if (is_key k at) ≡ 0 = ap (λ o. one_if (is_key k o)) none in omega (arith, is, no);
  few = r.few;
}
  where
    empty : (k : ℕ) (up : List ℕ) → IsClimb (link_at s) at up → has k up ≡ true → ⊥
    empty k [] h m = true≢false (sym m)
    empty k (j ∷ up) h m = let some : at ≡ Some j = h.0 in cc

    by : (k : ℕ) → IsOn s tips k ⊎ (has k r.going.up ≡ true) → IsOn s tips k
    by k (inl o) = o
    by k (inr m) = absurd (empty k r.going.up r.going.is m)

-- a climb from a key is this key, and then the climb from the link of the key
begins : (p : ℕ → Option (Option ℕ)) (key : ℕ) (up : List ℕ) → IsClimb p (Some key) up
    → (rest : List ℕ) × ((up ≡ key ∷ rest) × ((next : Option ℕ) × ((p key ≡ Some next) × IsClimb p next rest)))
begins p key [] h = absurd (cc)
begins p key (k ∷ rest) h =
    let some : Some key ≡ Some k = h.0 in
    let same : key ≡ k = cc in
    (rest, (ap (λ z. z ∷ rest) (sym same), (h.1.0, (ap p same ∙ h.1.1.0, h.1.1.1))))

module _ {X : Type 0} (first s t : List (Option (Node X))) (tips : List (Option ℕ)) (key : ℕ) (n : Node X) (r : IsReleasing first s tips (Some key))
    (there : node_at s key ≡ Some n) (here : node_at t key ≡ without_holder (node_at s key)) (others : (k : ℕ) → k ≢ key → node_at t k ≡ node_at s k) where
  link : link_at s key ≡ Some n.above
  link = ap link_in there

  counted_here : n.holders ≡ holders_of s tips key + 1
  counted_here = let is = r.counted key n there in let yes : one_if (nat_eq key key) ≡ 1 = ap one_if (eq-eqb key key refl) in omega (arith, is, yes)

  -- the rest of the climb
  rest_of : (rest : List ℕ) × ((r.going.up ≡ key ∷ rest) × IsClimb (link_at s) n.above rest)
  rest_of =
      let b = begins (link_at s) key r.going.up r.going.is in
      let links : Some b.1.1.0 ≡ Some n.above = sym b.1.1.1.0 ∙ link in
      let next : b.1.1.0 ≡ n.above = cc in
      (b.0, (b.1.0, subst (λ o. IsClimb (link_at s) o b.0) next b.1.1.1.1))

  abbrev rest : List ℕ
  rest = rest_of.0

  whole : IsClimb (link_at s) (Some key) (key ∷ rest)
  whole = (refl, (n.above, (link, rest_of.1.1)))

  -- the case in which the key has no other holder
  module _ (last : n.holders ≤ 1) where
    gone : node_at t key ≡ None
    gone =
        let le : nat_le n.holders 1 ≡ true = grind (arith, nat_tests) in
        here ∙ ap without_holder there ∙ ap (λ b. cond b None (Some (node n.item n.above (n.holders - 1)))) le

    none_tips : count_by (is_key key) tips ≡ 0
    none_tips = omega (arith, counted_here, last)

    none_nodes : count_by (links_to_key key) s ≡ 0
    none_nodes = omega (arith, counted_here, last)

    -- no path has the key
    not_on : (i : ℕ) (up : List ℕ) → IsClimb (link_at s) (tip_at tips i) up → has key up ≡ false
    not_on i up h = has_not_from key up (λ m. climb_cases (link_at s) (tip_at tips i) up key ⊥ h m
        (λ e. true≢false (sym (ap (is_key key) e ∙ eq-eqb key key refl) ∙ none_pass (is_key key) tips i refl none_tips))
        (λ j e _m. true≢false (sym (ap (is_above key) e ∙ eq-eqb key key refl) ∙ none_pass (links_to_key key) s j refl none_nodes)))

    climb_stays_without : (at : Option ℕ) (up : List ℕ) → has key up ≡ false → IsClimb (link_at s) at up → IsClimb (link_at t) at up
    climb_stays_without at up lacks h = climb_kept (link_at s) (link_at t) at up
        (λ k next m e. ap link_in (others k (λ same. true≢false (sym (subst (λ z. has z up ≡ true) same m) ∙ lacks))) ∙ e) h

    not_key : (k : ℕ) (m : Node X) → node_at t k ≡ Some m → k ≢ key
    not_key k m e same = let no : node_at t k ≡ None = ap (node_at t) same ∙ gone in cc

    was : (k : ℕ) (m : Node X) → node_at t k ≡ Some m → node_at s k ≡ Some m
    was k m e = sym (others k (not_key k m e)) ∙ e

    on_now : (k : ℕ) → k ≢ key → IsOn s tips k ⊎ (has k r.going.up ≡ true) → IsOn t tips k ⊎ (has k rest ≡ true)
    on_now k ne (inl o) = inl (record { path = o.path; up = o.up; is = climb_stays_without (tip_at tips o.path) o.up (not_on o.path o.up o.is) o.is; on = o.on })
    on_now k ne (inr m) = inr (has_cases k key rest (has k rest ≡ true) (subst (λ u. has k u ≡ true) rest_of.1.0 m) (λ e. absurd (ne e)) (λ h. h))

    counted_last : (k : ℕ) (m : Node X) → node_at t k ≡ Some m → m.holders ≡ holders_of t tips k + one_if (is_key k n.above)
    counted_last k m e =
        let is = r.counted k m (was k m e) in
        let no : one_if (nat_eq k key) ≡ 0 = ap one_if (ne_eqb k key (not_key k m e)) in
        let a = count_changed (links_to_key k) refl key s t (λ j ne. ap (links_to_key k) (others j ne)) in
        let b : one_if (links_to_key k (node_at s key)) ≡ one_if (is_key k n.above) = ap (λ o. one_if (links_to_key k o)) there in
        let c : one_if (links_to_key k (node_at t key)) ≡ 0 = ap (λ o. one_if (links_to_key k o)) gone in
        omega (arith, is, no, a, b, c)

    pub releasing_goes_on : IsReleasing first t tips n.above
    releasing_goes_on = record {
      ends = λ i. let e = r.ends i in record { up = e.up; is = climb_stays_without (tip_at tips i) e.up (not_on i e.up e.is) e.is };
      going = record { up = rest; is = climb_stays_without n.above rest (not_again (link_at s) key rest whole) rest_of.1.1 };
      live = λ k m e. on_now k (not_key k m e) (r.live k m (was k m e));
      counted = counted_last;
      few =
          let a = count_changed is_some refl key s t (λ j ne. ap is_some (others j ne)) in
          let b : one_if (is_some (node_at t key)) ≡ 0 = ap (λ o. one_if (is_some o)) gone in
          let few = r.few in
          omega (arith, a, b, few);
      stays = λ k m e. r.stays k m (was k m e);
    }

    pub released_shorter : length (keys_up t n.above) < length (keys_up s (Some key))
    released_shorter =
        let a = ap length (keys_up_is t n.above rest (climb_stays_without n.above rest (not_again (link_at s) key rest whole) rest_of.1.1)) in
        let b = ap length (keys_up_is s (Some key) (key ∷ rest) whole) in
        omega (arith, a, b)

  -- the case in which the key has more holders
  module _ (more : 1 < n.holders) where
    less : node_at t key ≡ Some (node n.item n.above (n.holders - 1))
    less =
        let no : nat_le n.holders 1 ≡ false = grind (arith, nat_tests) in
        here ∙ ap without_holder there ∙ ap (λ b. cond b None (Some (node n.item n.above (n.holders - 1)))) no

    same_above : (k : ℕ) → (k ≡ key) ⊎ (k ≢ key) → link_at t k ≡ link_at s k
    same_above k (inl same) = ap (link_at t) same ∙ ap link_in less ∙ sym link ∙ ap (link_at s) (sym same)
    same_above k (inr ne) = ap link_in (others k ne)

    keeps : (k : ℕ) (next : Option ℕ) → link_at s k ≡ Some next → link_at t k ≡ Some next
    keeps k next e = same_above k (cases_eq k key) ∙ e

    -- each node was there before, with the same item and link; the key's node had one holder more
    was_more : (k : ℕ) (m : Node X) → node_at t k ≡ Some m → (k ≡ key) ⊎ (k ≢ key)
        → (o : Node X) × ((node_at s k ≡ Some o) × ((m.holders + one_if (nat_eq k key) ≡ o.holders) × ((m.item ≡ o.item) × (m.above ≡ o.above))))
    was_more k m e (inl same) =
        let is : Some m ≡ Some (node n.item n.above (n.holders - 1)) = sym e ∙ ap (node_at t) same ∙ less in
        let node_is : m ≡ node n.item n.above (n.holders - 1) = cc in
        let holders : m.holders ≡ n.holders - 1 = ap (λ (z : Node X). z.holders) node_is in
        let yes : one_if (nat_eq k key) ≡ 1 = ap one_if (eq-eqb k key same) in
        (n, (ap (node_at s) same ∙ there, (omega (arith, holders, yes, more), (ap (λ (z : Node X). z.item) node_is, ap (λ (z : Node X). z.above) node_is))))
    was_more k m e (inr ne) =
        let no : one_if (nat_eq k key) ≡ 0 = ap one_if (ne_eqb k key ne) in
        (m, (sym (others k ne) ∙ e, (omega (arith, no), (refl, refl))))

    -- each key of the climb from `key` is on a path that is left
    on_left : (k : ℕ) → has k (key ∷ rest) ≡ true → IsOn s tips k
    on_left k m = by (cases_lt 0 (count_by (is_key key) tips))
      where
        from_node : (j : ℕ) → link_at s j ≡ Some (Some key) → IsOn s tips j ⊎ (has j r.going.up ≡ true) → IsOn s tips k
        from_node j e (inl o) = record { path = o.path; up = o.up; is = o.is; on = climb_on (link_at s) key rest whole j e (tip_at tips o.path) o.up o.is o.on k m }
        from_node j e (inr up) = absurd (not_above (link_at s) key rest whole j e (subst (λ u. has j u ≡ true) rest_of.1.0 up))

        by : (0 < count_by (is_key key) tips) ⊎ (count_by (is_key key) tips ≤ 0) → IsOn s tips k
        by (inl some) =
            let i = count_some (is_key key) tips some in
            record { path = i.0; up = key ∷ rest; is = subst (λ o. IsClimb (link_at s) o (key ∷ rest)) (sym (is_key_true key (tip_at tips i.0) i.1)) whole; on = m }
        by (inr none) =
            let some : 0 < count_by (links_to_key key) s = omega (arith, counted_here, more, none) in
            let j = count_some (links_to_key key) s some in
            let e : link_at s j.0 ≡ Some (Some key) = is_above_true key (link_at s j.0) j.1 in
            let w = node_from (node_at s j.0) (Some key) e in
            from_node j.0 e (r.live j.0 w.0 w.1.0)

    live_more : (k : ℕ) → IsOn s tips k ⊎ (has k r.going.up ≡ true) → IsOn t tips k
    live_more k (inl o) = record { path = o.path; up = o.up; is = climb_stays s t keeps (tip_at tips o.path) o.up o.is; on = o.on }
    live_more k (inr m) =
        let o = on_left k (subst (λ u. has k u ≡ true) rest_of.1.0 m) in
        record { path = o.path; up = o.up; is = climb_stays s t keeps (tip_at tips o.path) o.up o.is; on = o.on }

    pub releasing_ends : IsReleasing first t tips None
    releasing_ends = record {
      ends = λ i. let e = r.ends i in record { up = e.up; is = climb_stays s t keeps (tip_at tips i) e.up e.is };
      going = record { up = []; is = refl };
      live = λ k m e. let w = was_more k m e (cases_eq k key) in inl (live_more k (r.live k w.0 w.1.0));
      counted = λ k m e.
          let w = was_more k m e (cases_eq k key) in
          let is = w.1.1.0 ∙ r.counted k w.0 w.1.0 in
          let a = holders_alike s t tips k (λ j. same_above j (cases_eq j key)) in
          omega (arith, is, a);
      few =
          let a = count_changed is_some refl key s t (λ j ne. ap is_some (others j ne)) in
          let b : one_if (is_some (node_at t key)) ≡ one_if (is_some (node_at s key)) = ap (λ o. one_if (is_some o)) less ∙ sym (ap (λ o. one_if (is_some o)) there) in
          let few = r.few in
          omega (arith, a, b, few);
      stays = λ k m e.
          let w = was_more k m e (cases_eq k key) in
          let v = r.stays k w.0 w.1.0 in
          (v.0, (v.1.0, (w.1.1.1.0 ∙ v.1.1.0, w.1.1.1.1 ∙ v.1.1.1)));
    }

  -- one step of the release, from the node at the key to be released
  pub releasing_next_at_node : (next : Option ℕ) → next ≡ next_up (node_at s key) → IsReleasing first t tips next × (length (keys_up t next) < length (keys_up s (Some key)))
  releasing_next_at_node next e = by (cases_lt 1 n.holders)
    where
      shorter : length (keys_up t None) < length (keys_up s (Some key))
      shorter =
          let a = ap length (keys_up_is t None [] refl) in
          let b = ap length (keys_up_is s (Some key) (key ∷ rest) whole) in
          omega (arith, a, b)

      by : (1 < n.holders) ⊎ (n.holders ≤ 1) → IsReleasing first t tips next × (length (keys_up t next) < length (keys_up s (Some key)))
      by (inl more) =
          let no : nat_le n.holders 1 ≡ false = grind (arith, nat_tests) in
          let is : next ≡ None = e ∙ ap next_up there ∙ ap (λ b. cond b n.above None) no in
          subst (λ o. IsReleasing first t tips o × (length (keys_up t o) < length (keys_up s (Some key)))) (sym is) (releasing_ends more, shorter)
      by (inr last) =
          let yes : nat_le n.holders 1 ≡ true = grind (arith, nat_tests) in
          let is : next ≡ n.above = e ∙ ap next_up there ∙ ap (λ b. cond b n.above None) yes in
          subst (λ o. IsReleasing first t tips o × (length (keys_up t o) < length (keys_up s (Some key)))) (sym is) (releasing_goes_on last, released_shorter last)

-- the key to be released exists
pub releasing_there : {X : Type 0} (first s : List (Option (Node X))) (tips : List (Option ℕ)) (at : Option ℕ) (key : ℕ) → IsReleasing first s tips at → at ≡ Some key
    → (n : Node X) × (node_at s key ≡ Some n)
releasing_there first s tips at key r is =
    let b = begins (link_at s) key r.going.up (subst (λ o. IsClimb (link_at s) o r.going.up) is r.going.is) in
    let n = node_from (node_at s key) b.1.1.0 b.1.1.1.0 in
    (n.0, n.1.0)

-- one step of the release, from `at`, which is the key to be released
pub releasing_next : {X : Type 0} (first s t : List (Option (Node X))) (tips : List (Option ℕ)) (at : Option ℕ) (key : ℕ) (next : Option ℕ) → IsReleasing first s tips at → at ≡ Some key
    → node_at t key ≡ without_holder (node_at s key) → ((k : ℕ) → k ≢ key → node_at t k ≡ node_at s k) → next ≡ next_up (node_at s key)
    → IsReleasing first t tips next × (length (keys_up t next) < length (keys_up s at))
releasing_next first s t tips at key next r is here others e =
    let n = releasing_there first s tips at key r is in
    let step = releasing_next_at_node first s t tips key n.0 (subst (IsReleasing first s tips) is r) n.1 here others next e in
    (step.0, subst (λ o. length (keys_up t next) < length (keys_up s o)) (sym is) step.1)
