-- Replacing a path by a new one.
use Rattle.std.proofs.Common.{◌≡◌, ◌≢◌, ℕ, ◌+◌, ◌-◌, ◌<◌, ◌^◌, true, false, List, [], ◌∷◌, ◌++◌, length, map, get_or, set, Option, Some, None, refl, sym, ◌∙◌, ap, subst, arith, inl, inr, ◌⊎◌, true≢false}
use Rattle.std.specs.Prelude.{is_some}
use Rattle.std.specs.List.{count_by, swap_remove}
use Rattle.std.proofs.lemmas.Bool.{cases_eq}
use Rattle.std.proofs.lemmas.List.{get_or-set_same, get_or-set_other, get_or_push, length-set, length-map, length_push, ext_get_or, get_or_read, get_or_append_left}
use Rattle.std.proofs.lemmas.List.Sums.{sum_by-set, sum_by_push}
use Rattle.lineage.specs.declared.node.Node.{Node}
use Rattle.lineage.specs.Family.{has, item_at, path_in, IsExchanged}
use Rattle.lineage.specs.Climbs.{IsClimb, Ends}
use Rattle.lineage.specs.Lineages.{tip_at, is_key, node_at, item_in, link_in, link_at, path_to, with_holder, family_on, Stays, IsOn, IsSoundFamily, IsReleasing, IsPathAdded}
use Rattle.lineage.proofs.Climbs.{climb_unique}
use Rattle.lineage.proofs.ClimbedPaths.{path_in_is, item_is}
use Rattle.lineage.proofs.Counts.{one_if}
use Rattle.lineage.proofs.KeptLinks.{path_stays, links_stay}
use Rattle.lineage.proofs.Links.{node_from}
use Rattle.lineage.proofs.Forks.{forked_sound}
use Rattle.lineage.proofs.Families.{path_has, path_there}
use Rattle.lineage.proofs.Maps.{map_on}
use Rattle.lineage.proofs.Tips.{each_tip_before_push, pushed_tip_cases, swap_remove-push}

module _ {X : Type 0} (t : List (Option (Node X))) (tips : List (Option ℕ)) (tip : Option ℕ) (path : ℕ) (sound : IsSoundFamily t (tips ++ tip ∷ [])) (within : path < length tips) where
  tip_here : tip_at (set tips path tip) path ≡ tip
  tip_here = get_or-set_same tips path tip None within

  tip_other : (i : ℕ) → i ≢ path → tip_at (set tips path tip) i ≡ tip_at tips i
  tip_other i ne = get_or-set_other tips path i tip None ne

  ends_tip : Ends (link_at t) tip
  ends_tip = subst (Ends (link_at t)) (get_or_push tips tip None (length tips) refl) (sound.ends (length tips))

  ends_old : (i : ℕ) → Ends (link_at t) (tip_at tips i)
  ends_old = each_tip_before_push (Ends (link_at t)) tips tip sound.ends

  ends_now : (i : ℕ) → (i ≡ path) ⊎ (i ≢ path) → Ends (link_at t) (tip_at (set tips path tip) i)
  ends_now i (inl e) = subst (Ends (link_at t)) (sym (ap (tip_at (set tips path tip)) e ∙ tip_here)) ends_tip
  ends_now i (inr ne) = subst (Ends (link_at t)) (sym (tip_other i ne)) (ends_old i)

  live_now : (k : ℕ) (o : IsOn t (tips ++ tip ∷ []) k) → (tip_at (tips ++ tip ∷ []) o.path ≡ tip) ⊎ (tip_at (tips ++ tip ∷ []) o.path ≡ tip_at tips o.path)
      → (o.path ≡ path) ⊎ (o.path ≢ path) → IsOn t (set tips path tip) k ⊎ (has k (ends_old path).up ≡ true)
  live_now k o (inl new) at = inl (record { path = path; up = o.up; is = subst (λ z. IsClimb (link_at t) z o.up) (new ∙ sym tip_here) o.is; on = o.on })
  live_now k o (inr old) (inl e) =
      let is : IsClimb (link_at t) (tip_at tips path) o.up = subst (λ z. IsClimb (link_at t) z o.up) (old ∙ ap (tip_at tips) e) o.is in
      let same = climb_unique (link_at t) (tip_at tips path) o.up (ends_old path).up is (ends_old path).is in
      inr (subst (λ u. has k u ≡ true) same o.on)
  live_now k o (inr old) (inr ne) = inl (record { path = o.path; up = o.up; is = subst (λ z. IsClimb (link_at t) z o.up) (old ∙ sym (tip_other o.path ne)) o.is; on = o.on })

  -- after the new tip has replaced the old one, the old one is being released
  pub exchanged_first : IsReleasing t t (set tips path tip) (tip_at tips path)
  exchanged_first = record {
    ends = λ i. ends_now i (cases_eq i path);
    going = ends_old path;
    live = λ k n e. let o = sound.live k n e in live_now k o (pushed_tip_cases tips tip o.path) (cases_eq o.path path);
    counted = λ k n e.
        let is = sound.counted k n e in
        let a = sum_by-set (λ x. one_if (is_key k x)) tips path tip None within in
        let b = sum_by_push (λ x. one_if (is_key k x)) tips tip in
        omega (arith, is, a, b);
    few =
        let few = sound.few in
        let a = length-set tips path tip in let b = length_push tips tip in
        omega (arith, few, a, b);
    stays = λ k n e. (n, (e, (refl, refl)));
  }

module _ {X : Type 0} (s t u : List (Option (Node X))) (tips now : List (Option ℕ)) (path : ℕ) (items : List X) (before : IsSoundFamily s tips) (within : path < length tips)
    (added : IsPathAdded s t tips now items) (sound : IsSoundFamily u (set tips path added.tip)) (stays : Stays t u) where
  abbrev new : List (Option ℕ)
  new = set tips path added.tip

  abbrev keys : List ℕ
  keys = path_to t added.tip

  new_here : tip_at new path ≡ added.tip
  new_here = get_or-set_same tips path added.tip None within

  keeps : (k : ℕ) (next : Option ℕ) → link_at s k ≡ Some next → link_at t k ≡ Some next
  keeps k next e =
      let n = node_from (node_at s k) next e in
      ap link_in (added.kept k n.0 n.1.0) ∙ ap Some n.1.1

  path_here : path_to u (tip_at new path) ≡ keys
  path_here = sym (path_stays u t (links_stay t u stays) (tip_at new path) (sound.ends path)) ∙ ap (path_to t) new_here

  path_other : (i : ℕ) → i ≢ path → path_to u (tip_at new i) ≡ path_to s (tip_at tips i)
  path_other i ne =
      sym (path_stays u t (links_stay t u stays) (tip_at new i) (sound.ends i)) ∙ ap (path_to t) (get_or-set_other tips path i added.tip None ne)
      ∙ path_stays s t keeps (tip_at tips i) (before.ends i)

  many : length (map (path_to s) tips) ≡ length tips
  many = length-map tips (path_to s)

  each : (i : ℕ) → (i ≡ path) ⊎ (i ≢ path) → path_in (family_on u new) i ≡ get_or (set (map (path_to s) tips) path keys) i []
  each i (inl e) =
      path_in_is u new i ∙ ap (λ j. path_to u (tip_at new j)) e ∙ path_here
      ∙ sym (ap (λ j. get_or (set (map (path_to s) tips) path keys) j []) e ∙ get_or-set_same (map (path_to s) tips) path keys [] (subst (λ n. path < n) (sym many) within))
  each i (inr ne) =
      path_in_is u new i ∙ path_other i ne ∙ sym (path_in_is s tips i) ∙ sym (get_or-set_other (map (path_to s) tips) path i keys [] ne)

  exchanged_paths : map (path_to u) new ≡ set (map (path_to s) tips) path keys
  exchanged_paths =
      let a = length-map new (path_to u) in let b = length-set tips path added.tip in let c = length-set (map (path_to s) tips) path keys in let d = many in
      let lengths : length (map (path_to u) new) ≡ length (set (map (path_to s) tips) path keys) = omega (arith, a, b, c, d) in
      ext_get_or [] (map (path_to u) new) (set (map (path_to s) tips) path keys) lengths (λ i lt. each i (cases_eq i path))

  -- the items that are left are unchanged
  item_left : (i k : ℕ) → has k (path_in (family_on u new) i) ≡ true → item_in (node_at u k) ≡ item_in (node_at t k)
  item_left i k m =
      let n = path_there u new sound i k m in
      let o = stays k n.0 n.1 in
      ap item_in n.1 ∙ ap Some o.1.1.0 ∙ sym (ap item_in o.1.0)

  on_new : (k : ℕ) → has k keys ≡ true → has k (path_in (family_on u new) path) ≡ true
  on_new k m = ap (has k) (path_in_is u new path ∙ path_here) ∙ m

  pub exchanged : IsExchanged (family_on s tips) (family_on u new) path items
  exchanged = record {
    keys = keys;
    paths = exchanged_paths;
    items_are = map_on (item_at (family_on u new)) (λ k. item_in (node_at t k)) keys (λ k m. item_is u new k ∙ item_left path k (on_new k m)) ∙ added.items_are;
    fresh = λ k m. item_is s tips k ∙ ap item_in (added.fresh k m);
    kept = λ i k m off. item_is u new k ∙ item_left i k m ∙ ap item_in (added.others k off) ∙ sym (item_is s tips k);
    gone = λ k none. item_is u new k ∙ by k (node_at u k) refl none;
  }
    where
      by : (k : ℕ) (o : Option (Node X)) → node_at u k ≡ o → ((i : ℕ) → has k (path_in (family_on u new) i) ≡ false) → item_in (node_at u k) ≡ None
      by k None e none = ap item_in e
      by k (Some n) e none =
          let o = sound.live k n e in
          absurd (true≢false (sym (path_has u new sound k o) ∙ none o.path))

-- the nodes are sound also with an empty path added
pub opened_sound : {X : Type 0} (s : List (Option (Node X))) (tips : List (Option ℕ)) → IsSoundFamily s tips → length tips + 1 + count_by is_some s < 2 ^ 64 → IsSoundFamily s (tips ++ None ∷ [])
opened_sound {X} s tips sound room =
    forked_sound s s tips (tips ++ None ∷ []) None sound tt (λ k. same (node_at s k)) refl refl (omega (arith, room))
  where
    same : (o : Option (Node X)) → o ≡ with_holder false o
    same None = refl
    same (Some n) = refl

-- a path is exchanged, from the effect of each step
module _ {X : Type 0} (s reserved t : List (Option (Node X))) (tips room now after : List (Option ℕ)) (items : List X) (path : ℕ) (tip : Option ℕ) (sound : IsSoundFamily s tips)
    (paths : path < length (map (path_to s) tips)) (slots : reserved ≡ s) (tips_same : room ≡ tips) (added_there : IsPathAdded reserved t room now items)
  where
    within_tips : path < length tips
    within_tips = let n = length-map tips (path_to s) in omega (arith, n, paths)

    path_added : IsPathAdded s t tips now items
    path_added = subst (λ z. IsPathAdded z t tips now items) slots (subst (λ xs. IsPathAdded reserved t xs now items) tips_same added_there)

    many_now : length now ≡ length tips + 1
    many_now = ap length path_added.tips_are ∙ length_push tips path_added.tip

    pub within_now : path < length now
    within_now = omega (arith, many_now, within_tips)

    module _ (value : tip ≡ get_or now path tip) (after_is : after ≡ swap_remove now path tip) where
      set_tip : after ≡ set tips path path_added.tip
      set_tip = after_is ∙ ap (λ xs. swap_remove xs path tip) path_added.tips_are ∙ swap_remove-push tips path_added.tip tip path within_tips

      tip_was : tip_at tips path ≡ tip
      tip_was =
          sym (get_or_read now path tip within_now value None ∙ ap (λ xs. tip_at xs path) path_added.tips_are ∙ get_or_append_left tips (path_added.tip ∷ []) None path within_tips)

      pub replaced_first : IsReleasing t t after tip
      replaced_first =
          subst (λ xs. IsReleasing t t xs tip) (sym set_tip)
          (subst (IsReleasing t t (set tips path path_added.tip)) tip_was (exchanged_first t tips path_added.tip path (subst (IsSoundFamily t) path_added.tips_are path_added.sound) within_tips))

      pub all_exchanged : (u : List (Option (Node X))) → IsSoundFamily u after → Stays t u → IsExchanged (family_on s tips) (family_on u after) path items
      all_exchanged u done stays =
          subst (λ xs. IsExchanged (family_on s tips) (family_on u xs) path items) (sym set_tip)
          (exchanged s t u tips now path items sound within_tips path_added (subst (IsSoundFamily u) set_tip done) stays)
