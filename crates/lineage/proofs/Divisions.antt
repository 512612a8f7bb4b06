-- Putting a node right above another.
use Rattle.std.proofs.Common.{◌≡◌, ◌≢◌, ℕ, ◌+◌, ◌<◌, ◌^◌, Bool, true, false, cond, nat_eq, List, [], ◌∷◌, ◌++◌, length, map, reverse, set, Option, Some, None, refl, sym, ◌∙◌, ap, subst, arith, inl, inr, ◌⊎◌, eq-eqb, ne_eqb, append-nil}
use Rattle.std.specs.Prelude.{is_some}
use Rattle.std.specs.List.{count_by, flat_map}
use Rattle.std.proofs.lemmas.Bool.{cases_eq, eqb-true}
use Rattle.std.proofs.lemmas.List.{get_or-set_same, get_or-set_other, reverse-append}
use Rattle.std.proofs.lemmas.List.Concat.{flat_map-append}
use Rattle.lineage.specs.declared.node.Node.{Node}
use Rattle.lineage.specs.Family.{has, above_key, divided_keys, IsAdded}
use Rattle.lineage.specs.Climbs.{IsClimb, Ends}
use Rattle.lineage.specs.Lineages.{tip_at, is_key, node, node_at, item_in, link_in, link_at, path_to, links_to_key, holders_of, node_over, node_under, family_on, IsOn, IsSoundFamily}
use Rattle.lineage.proofs.KeyLists.{has-head, has-tail, has_cases, reverse_cons}
use Rattle.lineage.proofs.ClimbedPaths.{path_to_is, link_within}
use Rattle.lineage.proofs.Counts.{one_if, count_changed}
use Rattle.lineage.proofs.SoundNodes.{absent_holders}
use Rattle.lineage.proofs.Maps.{map_on_tips, map-map}
use Rattle.lineage.proofs.Pushes.{added}

-- the nodes after a node is put right above another
pub record IsDivided {X : Type 0} (s t : List (Option (Node X))) (tips : List (Option ℕ)) (key fresh : ℕ) (item : X) : Type 0 where
  pub sound : IsSoundFamily t tips
  pub paths : map (path_to t) tips ≡ map (divided_keys key fresh) (map (path_to s) tips)
  pub added : IsAdded (family_on s tips) (family_on t tips) fresh item

-- in a climb, the new key comes right after the key that it is above
abbrev pub cut_key : ℕ → ℕ → ℕ → List ℕ
cut_key key fresh k = cond (nat_eq key k) (k ∷ fresh ∷ []) (k ∷ [])

module _ (key fresh : ℕ) where
  cut-reverse : (k : ℕ) → reverse (cut_key key fresh k) ≡ above_key key fresh k
  cut-reverse k = by (nat_eq key k)
    where
      by : (b : Bool) → reverse (cond b (k ∷ fresh ∷ []) (k ∷ [])) ≡ cond b (fresh ∷ k ∷ []) (k ∷ [])
      by true = refl
      by false = refl

  pub divided-reverse : (up : List ℕ) → reverse (flat_map (cut_key key fresh) up) ≡ divided_keys key fresh (reverse up)
  divided-reverse [] = refl
  divided-reverse (k ∷ up) =
      reverse-append (cut_key key fresh k) (flat_map (cut_key key fresh) up)
      ∙ ap (λ l. l ++ reverse (cut_key key fresh k)) (divided-reverse up)
      ∙ ap (λ l. divided_keys key fresh (reverse up) ++ l) (cut-reverse k ∙ sym (append-nil (above_key key fresh k)))
      ∙ sym (flat_map-append (above_key key fresh) (reverse up) (k ∷ []))
      ∙ ap (divided_keys key fresh) (sym (reverse_cons k up))

  -- with the new key a climb has the keys that it had
  has_cut : (x : ℕ) (up : List ℕ) → has x up ≡ true → has x (flat_map (cut_key key fresh) up) ≡ true
  has_cut x [] h = h
  has_cut x (k ∷ up) h = by (nat_eq key k) (has_cases x k up ((x ≡ k) ⊎ (has x (flat_map (cut_key key fresh) up) ≡ true)) h (λ e. inl e) (λ m. inr (has_cut x up m)))
    where
      rest : List ℕ
      rest = flat_map (cut_key key fresh) up

      by : (b : Bool) → (x ≡ k) ⊎ (has x rest ≡ true) → has x (cond b (k ∷ fresh ∷ []) (k ∷ []) ++ rest) ≡ true
      by true (inl e) = subst (λ z. has z (k ∷ fresh ∷ rest) ≡ true) (sym e) (has-head k (fresh ∷ rest))
      by true (inr m) = has-tail x k (fresh ∷ rest) (has-tail x fresh rest m)
      by false (inl e) = subst (λ z. has z (k ∷ rest) ≡ true) (sym e) (has-head k rest)
      by false (inr m) = has-tail x k rest m

  -- and the new key, if it has the key
  has_fresh : (up : List ℕ) → has key up ≡ true → has fresh (flat_map (cut_key key fresh) up) ≡ true
  has_fresh [] h = absurd (cc)
  has_fresh (k ∷ up) h = by (nat_eq key k) refl (has_cases key k up ((key ≡ k) ⊎ (has fresh (flat_map (cut_key key fresh) up) ≡ true)) h (λ e. inl e) (λ m. inr (has_fresh up m)))
    where
      rest : List ℕ
      rest = flat_map (cut_key key fresh) up

      by : (b : Bool) → nat_eq key k ≡ b → (key ≡ k) ⊎ (has fresh rest ≡ true) → has fresh (cut_key key fresh k ++ rest) ≡ true
      by true e m = ap (λ b. has fresh (cond b (k ∷ fresh ∷ []) (k ∷ []) ++ rest)) e ∙ has-tail fresh k (fresh ∷ rest) (has-head fresh rest)
      by false e (inl same) = let yes = eq-eqb key k same in absurd (cc)
      by false e (inr m) = ap (λ b. has fresh (cond b (k ∷ fresh ∷ []) (k ∷ []) ++ rest)) e ∙ has-tail fresh k rest m

-- each climb that has the key also has the new key, right above it
pub climb_divided : (p q : ℕ → Option (Option ℕ)) (key fresh : ℕ) (top : Option ℕ) → p key ≡ Some top → q fresh ≡ Some top → q key ≡ Some (Some fresh)
    → ((k : ℕ) (next : Option ℕ) → k ≢ key → p k ≡ Some next → q k ≡ Some next) → (at : Option ℕ) (up : List ℕ) → IsClimb p at up → IsClimb q at (flat_map (cut_key key fresh) up)
climb_divided p q key fresh top was new below others at [] h = h
climb_divided p q key fresh top was new below others at (k ∷ up) h = by (nat_eq key k) refl (climb_divided p q key fresh top was new below others h.1.0 up h.1.1.1)
  where
    rest : List ℕ
    rest = flat_map (cut_key key fresh) up

    by : (b : Bool) → nat_eq key k ≡ b → IsClimb q h.1.0 rest → IsClimb q at (cut_key key fresh k ++ rest)
    by true e r =
        let same : key ≡ k = eqb-true key k e in
        let link : p k ≡ Some h.1.0 = h.1.1.0 in
        let link2 : p k ≡ Some top = ap p (sym same) ∙ was in
        let next : h.1.0 ≡ top = cc in
        let down : q k ≡ Some (Some fresh) = ap q (sym same) ∙ below in
        let c : IsClimb q at (k ∷ fresh ∷ rest) = (h.0, (Some fresh, (down, (refl, (top, (new, subst (λ o. IsClimb q o rest) next r)))))) in
        subst (λ b. IsClimb q at (cond b (k ∷ fresh ∷ []) (k ∷ []) ++ rest)) (sym e) c
    by false e r =
        let ne : k ≢ key = λ same. let yes = eq-eqb key k (sym same) in cc in
        let c : IsClimb q at (k ∷ rest) = (h.0, (h.1.0, (others k h.1.0 ne h.1.1.0, r))) in
        subst (λ b. IsClimb q at (cond b (k ∷ fresh ∷ []) (k ∷ []) ++ rest)) (sym e) c

module _ {X : Type 0} (s t : List (Option (Node X))) (tips : List (Option ℕ)) (key fresh : ℕ) (item : X) (n : Node X) (sound : IsSoundFamily s tips)
    (there : node_at s key ≡ Some n) (vacant : node_at s fresh ≡ None) (new : node_at t fresh ≡ node_over item (node_at s key))
    (below : node_at t key ≡ node_under fresh (node_at s key)) (others : (k : ℕ) → k ≢ key → k ≢ fresh → node_at t k ≡ node_at s k) where
  new_is : node_at t fresh ≡ Some (node item n.above 1)
  new_is = new ∙ ap (node_over item) there

  below_is : node_at t key ≡ Some (node n.item (Some fresh) n.holders)
  below_is = below ∙ ap (node_under fresh) there

  not_new : (k : ℕ) (m : Node X) → node_at s k ≡ Some m → k ≢ fresh
  not_new k m e same = let no : node_at s k ≡ None = ap (node_at s) same ∙ vacant in cc

  kept : (k : ℕ) (next : Option ℕ) → k ≢ key → link_at s k ≡ Some next → link_at t k ≡ Some next
  kept k next ne e = ap link_in (others k ne (λ same. let no : link_at s k ≡ None = ap (link_at s) same ∙ ap link_in vacant in cc)) ∙ e

  climbs : (at : Option ℕ) (up : List ℕ) → IsClimb (link_at s) at up → IsClimb (link_at t) at (flat_map (cut_key key fresh) up)
  climbs at up h = climb_divided (link_at s) (link_at t) key fresh n.above (ap link_in there) (ap link_in new_is) (ap link_in below_is) kept at up h

  on_now : (k : ℕ) → IsOn s tips k → IsOn t tips k
  on_now k o = record { path = o.path; up = flat_map (cut_key key fresh) o.up; is = climbs (tip_at tips o.path) o.up o.is; on = has_cut key fresh k o.up o.on }

  on_new : IsOn s tips key → IsOn t tips fresh
  on_new o = record { path = o.path; up = flat_map (cut_key key fresh) o.up; is = climbs (tip_at tips o.path) o.up o.is; on = has_fresh key fresh o.up o.on }

  -- each node but the new one was there before, with as many holders
  was : (k : ℕ) (m : Node X) → k ≢ fresh → node_at t k ≡ Some m → (k ≡ key) ⊎ (k ≢ key) → (o : Node X) × ((node_at s k ≡ Some o) × (m.holders ≡ o.holders))
  was k m nf e (inl same) =
      let is : Some m ≡ Some (node n.item (Some fresh) n.holders) = sym e ∙ ap (node_at t) same ∙ below_is in
      let node_is : m ≡ node n.item (Some fresh) n.holders = cc in
      (n, (ap (node_at s) same ∙ there, ap (λ (z : Node X). z.holders) node_is))
  was k m nf e (inr ne) = (m, (sym (others k ne nf) ∙ e, refl))

  -- between the two steps: the new node is there, and the other isn't linked to it yet
  abbrev between : List (Option (Node X))
  between = set t key (node_at s key)

  between_key : node_at between key ≡ node_at s key
  between_key = get_or-set_same t key (node_at s key) None (link_within t key (Some fresh) (ap link_in below_is))

  between_other : (k : ℕ) → k ≢ key → node_at between k ≡ node_at t k
  between_other k ne = get_or-set_other t key k (node_at s key) None ne

  apart : fresh ≢ key
  apart same = let no : node_at s key ≡ None = ap (node_at s) (sym same) ∙ vacant in cc

  holders_now : (m : ℕ) → holders_of t tips m ≡ holders_of s tips m + one_if (nat_eq m fresh)
  holders_now m =
      let p = links_to_key m in
      let a = count_changed p refl fresh s between (λ j ne. ap p (by j ne (cases_eq j key))) in
      let b = count_changed p refl key between t (λ j ne. ap p (sym (between_other j ne))) in
      let w = ap (λ o. one_if (p o)) vacant in
      let x : one_if (p (node_at between fresh)) ≡ one_if (is_key m n.above) = ap (λ o. one_if (p o)) (between_other fresh apart ∙ new_is) in
      let y : one_if (p (node_at between key)) ≡ one_if (is_key m n.above) = ap (λ o. one_if (p o)) (between_key ∙ there) in
      let z : one_if (p (node_at t key)) ≡ one_if (nat_eq m fresh) = ap (λ o. one_if (p o)) below_is in
      omega (arith, a, b, w, x, y, z)
    where
      by : (j : ℕ) → j ≢ fresh → (j ≡ key) ⊎ (j ≢ key) → node_at between j ≡ node_at s j
      by j nf (inl same) = ap (node_at between) same ∙ between_key ∙ ap (node_at s) (sym same)
      by j nf (inr ne) = between_other j ne ∙ others j ne nf

  counted_now : (k : ℕ) (m : Node X) → node_at t k ≡ Some m → (k ≡ fresh) ⊎ (k ≢ fresh) → m.holders ≡ holders_of t tips k
  counted_now k m e (inl same) =
      let is : Some m ≡ Some (node item n.above 1) = sym e ∙ ap (node_at t) same ∙ new_is in
      let node_is : m ≡ node item n.above 1 = cc in
      let holders : m.holders ≡ 1 = ap (λ (z : Node X). z.holders) node_is in
      let none : holders_of s tips k ≡ 0 = absent_holders s tips sound k (ap (node_at s) same ∙ vacant) in
      let yes : one_if (nat_eq k fresh) ≡ 1 = ap one_if (eq-eqb k fresh same) in
      let all = holders_now k in
      omega (arith, holders, none, yes, all)
  counted_now k m e (inr nf) =
      let o = was k m nf e (cases_eq k key) in
      let old = sound.counted k o.0 o.1.0 in
      let same = o.1.1 in
      let no : one_if (nat_eq k fresh) ≡ 0 = ap one_if (ne_eqb k fresh nf) in
      let all = holders_now k in
      omega (arith, old, same, no, all)

  live_now : (k : ℕ) (m : Node X) → node_at t k ≡ Some m → (k ≡ fresh) ⊎ (k ≢ fresh) → IsOn t tips k
  live_now k m e (inl same) = subst (IsOn t tips) (sym same) (on_new (sound.live key n there))
  live_now k m e (inr nf) = let o = was k m nf e (cases_eq k key) in on_now k (sound.live k o.0 o.1.0)

  pub divided_sound : count_by is_some t ≡ count_by is_some s + 1 → length tips + count_by is_some s + 1 < 2 ^ 64 → IsSoundFamily t tips
  divided_sound len room = record {
    ends = λ i. let e = sound.ends i in record { up = flat_map (cut_key key fresh) e.up; is = climbs (tip_at tips i) e.up e.is };
    live = λ k m e. live_now k m e (cases_eq k fresh);
    counted = λ k m e. counted_now k m e (cases_eq k fresh);
    few = omega (arith, len, room);
  }

  divided_path : (at : Option ℕ) → Ends (link_at s) at → path_to t at ≡ divided_keys key fresh (path_to s at)
  divided_path at e =
      path_to_is t at (flat_map (cut_key key fresh) e.up) (climbs at e.up e.is) ∙ divided-reverse key fresh e.up
      ∙ ap (divided_keys key fresh) (sym (path_to_is s at e.up e.is))

  pub divided_paths : map (path_to t) tips ≡ map (divided_keys key fresh) (map (path_to s) tips)
  divided_paths =
      map_on_tips (path_to t) (λ at. divided_keys key fresh (path_to s at)) tips (λ i. divided_path (tip_at tips i) (sound.ends i))
      ∙ sym (map-map (path_to s) (divided_keys key fresh) tips)

  pub divided_added : IsAdded (family_on s tips) (family_on t tips) fresh item
  divided_added = added s t tips tips fresh (node item n.above 1) vacant new_is (λ k nf. by k nf (cases_eq k key))
    where
      by : (k : ℕ) → k ≢ fresh → (k ≡ key) ⊎ (k ≢ key) → item_in (node_at t k) ≡ item_in (node_at s k)
      by k nf (inl same) = ap (λ j. item_in (node_at t j)) same ∙ ap item_in below_is ∙ sym (ap item_in there) ∙ ap (λ j. item_in (node_at s j)) (sym same)
      by k nf (inr ne) = ap item_in (others k ne nf)

  -- the nodes are divided, from all facts above
  pub divided_all : count_by is_some t ≡ count_by is_some s + 1 → length tips + count_by is_some s + 1 < 2 ^ 64 → IsDivided s t tips key fresh item
  divided_all len room = record { sound = divided_sound len room; paths = divided_paths; added = divided_added }
