-- What a search keeps of its nodes, as it discovers them and expands them.
use Rattle.std.proofs.Common.{◌≡◌, ℕ, zero, suc, ◌+◌, ◌-◌, ◌<◌, ◌≤◌, ◌⊎◌, inl, inr, List, [], ◌∷◌, ◌++◌, Some, length, map, drop, slice_get, Bool, true, false, ◌||◌, refl, sym, ap, subst, ◌∙◌, true≢false, add-one, arith}
use Rattle.std.specs.List.{list_any}
use Rattle.std.specs.Cmp.{IsEquivalence}
use Rattle.std.proofs.lemmas.List.{map-append, length-map, length_push, length-drop, drop-append-le}
use Rattle.std.proofs.lemmas.Option.{none-some, slice_get_within}
use Rattle.breadth_first.specs.declared.mark.Mark.{Mark}
use Rattle.breadth_first.specs.Graph.{GraphOf}
use Rattle.breadth_first.specs.Paths.{mark_of_start, depth_at, AreTooMany}
use Rattle.breadth_first.specs.Searches.{IsOldNode, IsNewNode, AreKeysOf, IsSearching, IsSearch, IsSearchAt, IsSearchAfter, IsWholeSearch}
use Rattle.breadth_first.proofs.Items.{old_or_new}
use Rattle.breadth_first.proofs.Discovered.{followed_old, followed_new}
use Rattle.breadth_first.proofs.Reachable.{all_reached, too_many, not_too_many}
use Rattle.breadth_first.proofs.Started.{HasBegun, has_begun}

-- the first of the items from index n on
head_of_drop : {X : Type 0} (xs : List X) (n : ℕ) (x : X) (rest : List X) → drop n xs ≡ x ∷ rest → (slice_get xs n ≡ Some x) × (rest ≡ drop (suc n) xs)
head_of_drop [] zero x rest h = cc
head_of_drop [] (suc n) x rest h = cc
head_of_drop (y ∷ ys) zero x rest h = (cc, cc)
head_of_drop (y ∷ ys) (suc n) x rest h = head_of_drop ys n x rest h

-- a list that stays the same without its first item is empty
empty_if_rest_same : {X : Type 0} (xs : List X) → xs ≡ drop 1 xs → length xs ≡ 0
empty_if_rest_same [] h = refl
empty_if_rest_same (x ∷ xs) h = let e : length (x ∷ xs) ≡ length xs = ap length h in absurd (omega (arith, e))

module _ {N K : Type 0} (g : GraphOf N K) (eq : N → N → Bool) (eq_key : K → K → Bool) (Holds : N → Type 0) where
  -- a node equal to y is among the nodes exactly if a key equal to y's is among their keys
  pub any_key : (same : (x y : N) → Holds x → Holds y → eq_key (g.key x) (g.key y) ≡ eq x y) (y : N) (nodes : List N) → Holds y
      → ((i : ℕ) (x : N) → slice_get nodes i ≡ Some x → Holds x) → list_any (eq_key (g.key y)) (map g.key nodes) ≡ list_any (eq y) nodes
  any_key same y [] h all = refl
  any_key same y (x ∷ nodes) h all = λ i. same y x h (all 0 x refl) i || any_key same y nodes h (λ j z e. all (suc j) z e) i

  -- with one more node, its key and whether it is a goal
  pub keys_of_more : (nodes : List N) (y : N) (keys new_keys : List K) (goals new_goals : List Bool) → AreKeysOf g eq Holds nodes keys goals → Holds y
      → new_keys ≡ keys ++ g.key y ∷ [] → new_goals ≡ goals ++ g.is_goal y ∷ [] → AreKeysOf g eq Holds (nodes ++ y ∷ []) new_keys new_goals
  keys_of_more nodes y keys new_keys goals new_goals k h by_key by_goal = record {
    by_key = by_key ∙ (ap (λ ks. ks ++ g.key y ∷ []) k.by_key ∙ sym (map-append g.key nodes (y ∷ [])));
    by_goal = by_goal ∙ (ap (λ gs. gs ++ g.is_goal y ∷ []) k.by_goal ∙ sym (map-append g.is_goal nodes (y ∷ [])));
    hold = λ i x s. elim (old_or_new nodes y i x s) [ inl p ↦ k.hold i x p | inr q ↦ subst Holds (sym q.1) h ];
  }

  -- no nodes have no keys
  pub keys_of_none : AreKeysOf g eq Holds [] [] []
  keys_of_none = record { by_key = refl; by_goal = refl; hold = λ i x s. absurd (none-some x s) }

  -- there are as many keys as nodes
  pub as_many_keys : (nodes : List N) (keys : List K) (goals : List Bool) → AreKeysOf g eq Holds nodes keys goals → length keys ≡ length nodes
  as_many_keys nodes keys goals k = ap length k.by_key ∙ length-map nodes g.key

  -- a search that has discovered the start alone
  pub search_begun : (same : (x y : N) → Holds x → Holds y → eq_key (g.key x) (g.key y) ≡ eq x y) (laws : IsEquivalence eq)
      (alike : (x y : N) → eq x y ≡ true → (l : ℕ) (z : N) → g.move x l ≡ Some z → (w : N) × ((g.move y l ≡ Some w) × (eq z w ≡ true)))
      (start : N) (most : ℕ) → start ≡ g.origin → Holds start
      → (no_keys keys : List K) (no_goals goals : List Bool) (no_marks marks : List Mark) (no_queue queue : List N) → no_keys ≡ [] → no_goals ≡ [] → no_marks ≡ [] → no_queue ≡ []
      → (IsOldNode g eq_key start no_keys keys no_goals goals no_marks marks no_queue queue ⊎ IsNewNode g eq_key start mark_of_start most no_keys keys no_goals goals no_marks marks no_queue queue)
      → IsSearching g eq Holds (start ∷ []) keys goals marks queue 0 0 × (length keys ≤ most)
  search_begun same laws alike start most e h no_keys keys no_goals goals no_marks marks no_queue queue nk ng nm nq (inl t) =
      absurd (true≢false (sym t.old ∙ ap (list_any (eq_key (g.key start))) nk))
  search_begun same laws alike start most e h no_keys keys no_goals goals no_marks marks no_queue queue nk ng nm nq (inr t) =
      let room = t.room in
      let b : HasBegun g.labels g.move eq laws alike start (start ∷ []) marks most = has_begun g.labels g.move eq laws alike start [] (start ∷ []) [] marks most refl refl
      (inr (refl, (refl, (t.marks_grow ∙ ap (λ (m : List Mark). m ++ mark_of_start ∷ []) nm, omega (arith, room))))) in
      let none : length no_keys ≡ 0 = ap length nk in
      let one : length keys ≡ length no_keys + 1 = ap length t.keys_grow ∙ length_push no_keys (g.key start) in (
        record {
          expanding = b.expanding;
          first = ap Some e;
          kept = keys_of_more [] start [] keys [] goals keys_of_none h (t.keys_grow ∙ ap (λ (k : List K). k ++ g.key start ∷ []) nk) (t.goals_grow ∙ ap (λ (k : List Bool). k ++ g.is_goal start ∷ []) ng);
          waiting = t.queue_grows ∙ ap (λ (q : List N). q ++ start ∷ []) nq;
        },
        omega (arith, none, one, room),
      )

  module _ (nodes : List N) (keys : List K) (goals : List Bool) (marks : List Mark) (queue : List N) (at : ℕ) (s : IsSearching g eq Holds nodes keys goals marks queue (at + 1) at) where
    -- the move by label l, to y, is followed: y was noted already, or is noted now
    pub search_after : (same : (x y : N) → Holds x → Holds y → eq_key (g.key x) (g.key y) ≡ eq x y) (laws : IsEquivalence eq)
        (alike : (x y : N) → eq x y ≡ true → (l : ℕ) (z : N) → g.move x l ≡ Some z → (w : N) × ((g.move y l ≡ Some w) × (eq z w ≡ true)))
        (x y : N) (l d most : ℕ) → Holds y → slice_get nodes at ≡ Some x → l < g.labels → g.move x l ≡ Some y → d ≡ depth_at marks at + 1
        → (new_keys : List K) (new_goals : List Bool) (new_marks : List Mark) (new_queue : List N)
        → (IsOldNode g eq_key y keys new_keys goals new_goals marks new_marks queue new_queue
        ⊎ IsNewNode g eq_key y (record { parent = at; label = l; depth = d }) most keys new_keys goals new_goals marks new_marks queue new_queue)
        → IsSearchAfter g eq Holds nodes marks new_keys new_goals new_marks new_queue at l
    search_after same laws alike x y l d most h here lab moves deep new_keys new_goals new_marks new_queue (inl t) =
        let there : list_any (eq y) nodes ≡ true = sym (any_key same y nodes h s.kept.hold) ∙ (ap (list_any (eq_key (g.key y))) (sym s.kept.by_key) ∙ t.old) in
        let f = followed_old g.labels g.move eq laws alike nodes marks at l d x y s.expanding here moves there in
        let stay : IsSearchAfter g eq Holds nodes marks keys goals marks queue at l = record { new_nodes = nodes; searching = s; followed = f } in
        subst (λ (k : List K). IsSearchAfter g eq Holds nodes marks k new_goals new_marks new_queue at l) (sym t.keys_stay)
        (subst (λ (k : List Bool). IsSearchAfter g eq Holds nodes marks keys k new_marks new_queue at l) (sym t.goals_stay)
        (subst (λ (k : List Mark). IsSearchAfter g eq Holds nodes marks keys goals k new_queue at l) (sym t.marks_stay)
        (subst (λ (k : List N). IsSearchAfter g eq Holds nodes marks keys goals marks k at l) (sym t.queue_stays) stay)))
    search_after same laws alike x y l d most h here lab moves deep new_keys new_goals new_marks new_queue (inr t) =
        let new : list_any (eq y) nodes ≡ false = sym (any_key same y nodes h s.kept.hold) ∙ (ap (list_any (eq_key (g.key y))) (sym s.kept.by_key) ∙ t.new) in
        let m : Mark = record { parent = at; label = l; depth = d } in
        let f = followed_new g.labels g.move eq laws alike nodes marks at l d x y s.expanding here lab moves deep new in
        let low = slice_get_within nodes at x here in
        subst (λ (k : List Mark). IsSearchAfter g eq Holds nodes marks new_keys new_goals k new_queue at l) (sym t.marks_grow) (record {
          new_nodes = nodes ++ y ∷ [];
          searching = record {
            expanding = f.expanding;
            first = f.grown 0 g.origin s.first;
            kept = keys_of_more nodes y keys new_keys goals new_goals s.kept h t.keys_grow t.goals_grow;
            waiting = t.queue_grows ∙ (ap (λ (q : List N). q ++ y ∷ []) s.waiting ∙ sym (drop-append-le (at + 1) nodes (y ∷ []) (omega (arith, low))));
          };
          followed = f;
        })

    -- one more node is too many
    pub too_many_discovered : (same : (x y : N) → Holds x → Holds y → eq_key (g.key x) (g.key y) ≡ eq x y) (laws : IsEquivalence eq)
        (alike : (x y : N) → eq x y ≡ true → (l : ℕ) (z : N) → g.move x l ≡ Some z → (w : N) × ((g.move y l ≡ Some w) × (eq z w ≡ true)))
        (x y : N) (l most : ℕ) → Holds y → slice_get nodes at ≡ Some x → l < g.labels → g.move x l ≡ Some y
        → list_any (eq_key (g.key y)) keys ≡ false → most ≤ length keys → AreTooMany g.labels g.move eq g.origin most
    too_many_discovered same laws alike x y l most h here lab moves new full =
        let fresh : list_any (eq y) nodes ≡ false = sym (any_key same y nodes h s.kept.hold) ∙ (ap (list_any (eq_key (g.key y))) (sym s.kept.by_key) ∙ new) in
        let many = as_many_keys nodes keys goals s.kept in
        too_many g.labels g.move eq laws alike g.origin nodes marks at l x y most s.expanding s.first here lab moves fresh (omega (arith, full, many))

  module _ (keys : List K) (goals : List Bool) (marks : List Mark) (queue : List N) (at : ℕ) (s : IsSearch g eq Holds keys goals marks queue at at) where
    -- the first node of the queue is expanded next
    pub popped : (x : N) (rest : List N) → queue ≡ x ∷ rest → IsSearchAt g eq Holds x keys goals marks rest at
    popped x rest e =
        let f = head_of_drop s.nodes at x rest (sym s.searching.waiting ∙ e) in
        record {
          nodes = s.nodes;
          here = f.0;
          searching = record {
            expanding = s.searching.expanding;
            first = s.searching.first;
            kept = s.searching.kept;
            waiting = f.1 ∙ ap (λ n. drop n s.nodes) (sym (add-one at));
          };
        }

    -- once all nodes are expanded, all is found
    searched_all : (laws : IsEquivalence eq)
        (alike : (x y : N) → eq x y ≡ true → (l : ℕ) (z : N) → g.move x l ≡ Some z → (w : N) × ((g.move y l ≡ Some w) × (eq z w ≡ true)))
        → length s.nodes ≤ at → IsWholeSearch g eq Holds keys goals marks
    searched_all laws alike all = record {
      nodes = s.nodes;
      kept = s.searching.kept;
      all = all_reached g.labels g.move eq laws alike g.origin s.nodes marks at s.searching.expanding all s.searching.first;
    }

    -- once the queue is empty, all is found
    pub found_all_if_queue_is_empty : (laws : IsEquivalence eq)
        (alike : (x y : N) → eq x y ≡ true → (l : ℕ) (z : N) → g.move x l ≡ Some z → (w : N) × ((g.move y l ≡ Some w) × (eq z w ≡ true)))
        → queue ≡ drop 1 queue → IsWholeSearch g eq Holds keys goals marks
    found_all_if_queue_is_empty laws alike e =
        let none : length queue ≡ 0 = empty_if_rest_same queue e in
        let left : length queue ≡ length s.nodes - at = ap length s.searching.waiting ∙ length-drop at s.nodes in
        searched_all laws alike (omega (arith, none, left))

    -- once as many nodes are expanded as there are keys, all is found
    pub found_all_if_all_are_expanded : (laws : IsEquivalence eq)
        (alike : (x y : N) → eq x y ≡ true → (l : ℕ) (z : N) → g.move x l ≡ Some z → (w : N) × ((g.move y l ≡ Some w) × (eq z w ≡ true)))
        → length keys ≤ at → IsWholeSearch g eq Holds keys goals marks
    found_all_if_all_are_expanded laws alike few = let many = as_many_keys s.nodes keys goals s.searching.kept in searched_all laws alike (omega (arith, few, many))

  -- if all is found, in at most `most` keys, no more than `most` nodes are reachable
  pub not_too_many_keys : (laws : IsEquivalence eq)
      (alike : (x y : N) → eq x y ≡ true → (l : ℕ) (z : N) → g.move x l ≡ Some z → (w : N) × ((g.move y l ≡ Some w) × (eq z w ≡ true)))
      (keys : List K) (goals : List Bool) (marks : List Mark) (most : ℕ) → IsWholeSearch g eq Holds keys goals marks → length keys ≤ most → AreTooMany g.labels g.move eq g.origin most → ⊥
  not_too_many_keys laws alike keys goals marks most r few =
      let many = as_many_keys r.nodes keys goals r.kept in
      not_too_many g.labels g.move eq laws alike g.origin r.nodes marks most r.all (omega (arith, few, many))
