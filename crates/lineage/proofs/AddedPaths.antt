-- A path of new items, added last.
use Rattle.std.proofs.Common.{◌≡◌, ◌≢◌, ℕ, ◌+◌, ◌<◌, ◌^◌, true, false, List, [], ◌∷◌, ◌++◌, length, map, set, Option, Some, None, refl, sym, ◌∙◌, ap, subst, arith, inl, inr, ◌⊎◌, true≢false, append_assoc}
use Rattle.std.specs.Prelude.{is_some}
use Rattle.std.specs.List.{count_by}
use Rattle.std.proofs.lemmas.Bool.{or_parts}
use Rattle.std.proofs.lemmas.List.{map_push, set_at, get_or_push, length_push, append-nil}
use Rattle.lineage.specs.declared.node.Node.{Node}
use Rattle.lineage.specs.Family.{has}
use Rattle.lineage.specs.Lineages.{tip_at, node, node_at, item_in, path_to, IsSoundFamily, IsPathAdded}
use Rattle.lineage.proofs.KeyLists.{has-append, has-head, has-right, has_push}
use Rattle.lineage.proofs.ClimbedPaths.{path_to_is}
use Rattle.lineage.proofs.Pushes.{pushed_sound, pushed_last}
use Rattle.lineage.proofs.Maps.{map_on}

-- a path is being added last, and `rest` are the items still to be added
pub record IsAddedSoFar {X : Type 0} (s t : List (Option (Node X))) (tips new : List (Option ℕ)) (items rest : List X) : Type 0 where
  pub done : List X
  pub parts : done ++ rest ≡ items
  pub added : IsPathAdded s t tips new done

module _ {X : Type 0} (s : List (Option (Node X))) (tips : List (Option ℕ)) where
  empty : path_to s None ≡ []
  empty = path_to_is s None [] refl

  pub added_none : (items rest : List X) → IsSoundFamily s (tips ++ None ∷ []) → rest ≡ items → IsAddedSoFar s s tips (tips ++ None ∷ []) items rest
  added_none items rest sound e = record {
    done = [];
    parts = e;
    added = record {
      sound = sound;
      tip = None;
      tips_are = refl;
      there = λ k m. absurd (true≢false (sym m ∙ ap (has k) empty));
      fresh = λ k m. absurd (true≢false (sym m ∙ ap (has k) empty));
      items_are = ap (map (λ k. item_in (node_at s k))) empty;
      kept = λ k n e. e;
      others = λ k m. refl;
    };
  }

  -- one more item is added
  module _ (t u : List (Option (Node X))) (now new : List (Option ℕ)) (items rest : List X) (key : ℕ) (item : X) (so_far : IsAddedSoFar s t tips now items (item ∷ rest))
      (vacant : node_at t key ≡ None) (here : node_at u key ≡ Some (node item (tip_at now (length tips)) 1)) (others : (k : ℕ) → k ≢ key → node_at u k ≡ node_at t k)
      (new_is : new ≡ set now (length tips) (Some key)) (len : count_by is_some u ≡ count_by is_some t + 1) (room : length now + count_by is_some t + 1 < 2 ^ 64) where
    added : IsPathAdded s t tips now so_far.done
    added = so_far.added

    tip_here : tip_at now (length tips) ≡ added.tip
    tip_here = ap (λ l. tip_at l (length tips)) added.tips_are ∙ get_or_push tips added.tip None (length tips) refl

    within : length tips < length now
    within = let l : length now ≡ length tips + 1 = ap length added.tips_are ∙ length_push tips added.tip in omega (arith, l)

    sound_now : IsSoundFamily u new
    sound_now = pushed_sound t u now new (length tips) key item added.sound within vacant here others new_is len room

    path_now : path_to u (Some key) ≡ path_to t added.tip ++ key ∷ []
    path_now = pushed_last t u now new (length tips) key item added.sound within vacant here others new_is ∙ ap (λ o. path_to t o ++ key ∷ []) tip_here

    -- the keys of the items added before differ from the new key
    other : (k : ℕ) → has k (path_to t added.tip) ≡ true → k ≢ key
    other k m same = let n = added.there k m in let none : node_at t k ≡ None = ap (node_at t) same ∙ vacant in let some = n.1 in cc

    cases : (k : ℕ) → has k (path_to u (Some key)) ≡ true → (has k (path_to t added.tip) ≡ true) ⊎ (k ≡ key)
    cases k m = has_push k key (path_to t added.tip) (sym (ap (has k) path_now) ∙ m)

    there_now : (k : ℕ) → (has k (path_to t added.tip) ≡ true) ⊎ (k ≡ key) → (n : Node X) × (node_at u k ≡ Some n)
    there_now k (inl m) = let n = added.there k m in (n.0, others k (other k m) ∙ n.1)
    there_now k (inr e) = (node item (tip_at now (length tips)) 1, ap (node_at u) e ∙ here)

    vacant_first : (o : Option (Node X)) → node_at s key ≡ o → node_at s key ≡ None
    vacant_first None e = e
    vacant_first (Some n) e = let some = added.kept key n e in absurd (cc)

    fresh_now : (k : ℕ) → (has k (path_to t added.tip) ≡ true) ⊎ (k ≡ key) → node_at s k ≡ None
    fresh_now k (inl m) = added.fresh k m
    fresh_now k (inr e) = ap (node_at s) e ∙ vacant_first (node_at s key) refl

    not_here : (k : ℕ) → has k (path_to u (Some key)) ≡ false → k ≢ key
    not_here k m same =
        let here : has k (path_to u (Some key)) ≡ true =
        ap (has k) path_now ∙ has-right k (path_to t added.tip) (key ∷ []) (ap (λ z. has z (key ∷ [])) same ∙ has-head key []) in
        true≢false (sym here ∙ m)

    not_before : (k : ℕ) → has k (path_to u (Some key)) ≡ false → has k (path_to t added.tip) ≡ false
    not_before k m = (or_parts (has k (path_to t added.tip)) (has k (key ∷ [])) (sym (has-append k (path_to t added.tip) (key ∷ [])) ∙ sym (ap (has k) path_now) ∙ m)).0

    items_now : map (λ k. item_in (node_at u k)) (path_to u (Some key)) ≡ map Some (so_far.done ++ item ∷ [])
    items_now =
        ap (map (λ k. item_in (node_at u k))) path_now ∙ map_push (λ k. item_in (node_at u k)) (path_to t added.tip) key
        ∙ ap (λ l. l ++ item_in (node_at u key) ∷ []) (map_on (λ k. item_in (node_at u k)) (λ k. item_in (node_at t k)) (path_to t added.tip) (λ k m. ap item_in (others k (other k m))) ∙ added.items_are)
        ∙ ap (λ o. map Some so_far.done ++ o ∷ []) (ap item_in here)
        ∙ sym (map_push Some so_far.done item)

    pub added_more : IsAddedSoFar s u tips new items rest
    added_more = record {
      done = so_far.done ++ item ∷ [];
      parts = append_assoc so_far.done (item ∷ []) rest ∙ so_far.parts;
      added = record {
        sound = sound_now;
        tip = Some key;
        tips_are = new_is ∙ ap (λ l. set l (length tips) (Some key)) added.tips_are ∙ set_at tips added.tip [] (Some key) (length tips) refl;
        there = λ k m. there_now k (cases k m);
        fresh = λ k m. fresh_now k (cases k m);
        items_are = items_now;
        kept = λ k n e.
            let was = added.kept k n e in
            others k (λ same. let none : node_at t k ≡ None = ap (node_at t) same ∙ vacant in cc) ∙ was;
        others = λ k m. others k (not_here k m) ∙ added.others k (not_before k m);
      };
    }

  pub added_all : (t : List (Option (Node X))) (now : List (Option ℕ)) (items rest : List X) → IsAddedSoFar s t tips now items rest → rest ≡ [] → IsPathAdded s t tips now items
  added_all t now items rest r none =
      let done : r.done ≡ items = sym (append-nil r.done) ∙ ap (λ l. r.done ++ l) (sym none) ∙ r.parts in
      subst (IsPathAdded s t tips now) done r.added
