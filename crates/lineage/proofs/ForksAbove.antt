-- A new path that ends with a new key right above another.
use Rattle.std.proofs.Common.{◌≡◌, ◌≢◌, ℕ, zero, suc, ◌+◌, ◌<◌, ◌^◌, Bool, true, false, ◌||◌, nat_eq, cond, List, [], ◌∷◌, ◌++◌, length, map, reverse, get_or, Option, Some, None, refl, sym, ◌∙◌, ap, subst, arith, true≢false, eq-eqb}
use Rattle.std.specs.Prelude.{is_some, IsSome}
use Rattle.std.specs.List.{count_by}
use Rattle.std.proofs.lemmas.List.Concat.{flat_map-append}
use Rattle.lineage.specs.declared.node.Node.{Node}
use Rattle.lineage.specs.Family.{has, path_in, item_at, above_key, divided_keys, IsForkedAbove}
use Rattle.lineage.specs.Lineages.{is_key, node_at, item_in, node_over, node_under, with_holder, family_on, IsSoundFamily}
use Rattle.lineage.proofs.KeyLists.{has-reverse}
use Rattle.lineage.proofs.Climbs.{not_again}
use Rattle.lineage.proofs.ClimbedPaths.{climb_at, item_is}
use Rattle.lineage.proofs.Divisions.{divided_sound, divided_paths, divided_added}
use Rattle.lineage.proofs.Forks.{forked, forked_sound}

module _ (key fresh : ℕ) where
  -- a list that doesn't have the key is not divided
  pub divided-other : (ks : List ℕ) → has key ks ≡ false → divided_keys key fresh ks ≡ ks
  divided-other [] h = refl
  divided-other (k ∷ ks) h = by (nat_eq key k) refl (divided-other ks)
    where
      by : (b : Bool) → nat_eq key k ≡ b → (has key ks ≡ false → divided_keys key fresh ks ≡ ks) → divided_keys key fresh (k ∷ ks) ≡ k ∷ ks
      by true e rest = absurd (true≢false (sym (ap (λ c. c || has key ks) e) ∙ h))
      by false e rest =
          ap (λ c. cond c (fresh ∷ k ∷ []) (k ∷ []) ++ divided_keys key fresh ks) e
          ∙ ap (λ l. k ∷ l) (rest (sym (ap (λ c. c || has key ks) e) ∙ h))

  pub divided-here : (front back : List ℕ) → has key front ≡ false → divided_keys key fresh (front ++ key ∷ back) ≡ front ++ fresh ∷ key ∷ divided_keys key fresh back
  divided-here front back h =
      flat_map-append (above_key key fresh) front (key ∷ back)
      ∙ ap (λ l. l ++ divided_keys key fresh (key ∷ back)) (divided-other front h)
      ∙ ap (λ c. front ++ (cond c (fresh ∷ key ∷ []) (key ∷ []) ++ divided_keys key fresh back)) (eq-eqb key key refl)

  pub divided-get : (paths : List (List ℕ)) (i : ℕ) → get_or (map (divided_keys key fresh) paths) i [] ≡ divided_keys key fresh (get_or paths i [])
  divided-get [] i = refl
  divided-get (p ∷ ps) zero = refl
  divided-get (p ∷ ps) (suc i) = divided-get ps i

module _ {X : Type 0} (s t u : List (Option (Node X))) (tips new : List (Option ℕ)) (key fresh : ℕ) (item : X) (n : Node X) (sound : IsSoundFamily s tips)
    (there : node_at s key ≡ Some n) (vacant : node_at s fresh ≡ None) (at_fresh : node_at t fresh ≡ node_over item (node_at s key))
    (below : node_at t key ≡ node_under fresh (node_at s key)) (others : (k : ℕ) → k ≢ key → k ≢ fresh → node_at t k ≡ node_at s k)
    (more : count_by is_some t ≡ count_by is_some s + 1) (room : length tips + 1 + (count_by is_some s + 1) < 2 ^ 64) where
  -- t are the nodes between the two changes: the new item is there, and the new path isn't
  pub mid_sound : IsSoundFamily t tips
  mid_sound = divided_sound s t tips key fresh item n sound there vacant at_fresh below others more (omega arith)

  mid_item : IsSome (item_at (family_on t tips) fresh)
  mid_item = subst IsSome (sym (item_is t tips fresh ∙ ap item_in (at_fresh ∙ ap (node_over item) there))) refl

  module _ (now : (k : ℕ) → node_at u k ≡ with_holder (is_key k (Some fresh)) (node_at t k)) (tips_are : new ≡ tips ++ Some fresh ∷ []) where
    pub above_sound : count_by is_some u ≡ count_by is_some t → IsSoundFamily u new
    above_sound len = forked_sound t u tips new (Some fresh) mid_sound mid_item now tips_are len (omega (arith, more))

    pub forked_above : length u ≡ length t → IsForkedAbove (family_on s tips) (family_on u new) key fresh item
    forked_above long =
        let f = forked t u tips new (Some fresh) mid_sound mid_item now tips_are long in
        let a = divided_added s t tips key fresh item n sound there vacant at_fresh below others in
        let ps = divided_paths s t tips key fresh item n sound there vacant at_fresh below others in
        record {
          path = f.path;
          paths = f.paths ∙ ap (λ l. l ++ f.path ∷ []) ps;
          shared = λ i front back e.
              let once : has key front ≡ false = sym (has-reverse key front) ∙ not_again _ key (reverse front) (climb_at s tips i key front back sound e) in
              f.shared fresh i front (key ∷ divided_keys key fresh back) refl (in_mid i ps ∙ ap (divided_keys key fresh) e ∙ divided-here key fresh front back once);
          added = record { was_vacant = a.was_vacant; here = ap (λ l. get_or l fresh None) f.items ∙ a.here; others = λ k ne. ap (λ l. get_or l k None) f.items ∙ a.others k ne };
        }
      where
        in_mid : (i : ℕ) → (family_on t tips).paths ≡ map (divided_keys key fresh) (family_on s tips).paths → path_in (family_on t tips) i ≡ divided_keys key fresh (path_in (family_on s tips) i)
        in_mid i ps = ap (λ l. get_or l i []) ps ∙ divided-get key fresh (family_on s tips).paths i
