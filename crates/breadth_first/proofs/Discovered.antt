-- A move is followed: the node that it leads to is an old one, or is discovered and added.
use Rattle.std.proofs.Common.{◌≡◌, ℕ, ◌+◌, ◌<◌, ◌≤◌, ◌⊎◌, inl, inr, List, [], ◌∷◌, ◌++◌, Option, Some, length, slice_get, Bool, true, false, refl, sym, ap, subst, ◌∙◌, arith}
use Rattle.std.proofs.lemmas.Bool.{cases_lt}
use Rattle.std.proofs.lemmas.Option.{slice_get_within, same_Some}
use Rattle.std.proofs.lemmas.List.{get_or_append_left, get_or_push, length_push}
use Rattle.std.proofs.lemmas.Map.Keys.{IsDistinct-push}
use Rattle.std.specs.List.{list_any}
use Rattle.std.specs.Cmp.{IsEquivalence}
use Rattle.breadth_first.specs.declared.mark.Mark.{Mark}
use Rattle.breadth_first.specs.Paths.{mark_of_start, noted_mark, depth_at, Moves, IsMade, IsTrail, IsFound, IsExpanding, IsFollowed}
use Rattle.breadth_first.proofs.Items.{kept_by_push, pushed_last, old_or_new, passing_place}

-- the marks before one that is added, and the one that is
pub mark_stays : (marks : List Mark) (m : Mark) (i : ℕ) → i < length marks → noted_mark (marks ++ m ∷ []) i ≡ noted_mark marks i
mark_stays marks m i h = get_or_append_left marks (m ∷ []) mark_of_start i h

pub mark_added : (marks : List Mark) (m : Mark) (i : ℕ) → length marks ≡ i → noted_mark (marks ++ m ∷ []) i ≡ m
mark_added marks m i h = get_or_push marks m mark_of_start i h

pub depth_stays : (marks : List Mark) (m : Mark) (i : ℕ) → i < length marks → depth_at (marks ++ m ∷ []) i ≡ depth_at marks i
depth_stays marks m i h = ap (λ n. n.depth) (mark_stays marks m i h)

pub depth_added : (marks : List Mark) (m : Mark) (i : ℕ) → length marks ≡ i → depth_at (marks ++ m ∷ []) i ≡ m.depth
depth_added marks m i h = ap (λ n. n.depth) (mark_added marks m i h)

module _ {N : Type 0} (labels : ℕ) (move : N → ℕ → Option N) where
  module _ (nodes : List N) (marks : List Mark) (m : Mark) (y : N) (t : IsTrail labels move nodes marks) where
    -- a node's making stays as a later one is added
    made_stays : (i : ℕ) (k : N) → i < length nodes → IsMade labels move nodes marks i k → IsMade labels move (nodes ++ y ∷ []) (marks ++ m ∷ []) i k
    made_stays i k lt h =
        let here : i < length marks = omega (arith, t.marked) in
        let e : noted_mark (marks ++ m ∷ []) i ≡ noted_mark marks i = mark_stays marks m i here in
        let before : (noted_mark marks i).parent < length marks = omega (arith, h.earlier) in
        let up : (noted_mark (marks ++ m ∷ []) i).parent ≡ (noted_mark marks i).parent = ap (λ n. n.parent) e in
        record {
          parent = h.parent;
          earlier = subst (λ (n : Mark). n.parent < i) (sym e) h.earlier;
          stored = subst (λ (n : Mark). slice_get (nodes ++ y ∷ []) n.parent ≡ Some h.parent) (sym e) (kept_by_push nodes y (noted_mark marks i).parent h.parent h.stored);
          labelled = subst (λ (n : Mark). n.label < labels) (sym e) h.labelled;
          made = subst (λ (n : Mark). move h.parent n.label ≡ Some k) (sym e) h.made;
          deeper = ap (λ n. n.depth) e ∙ (h.deeper ∙ ap (λ d. d + 1) (sym (ap (depth_at (marks ++ m ∷ [])) up ∙ depth_stays marks m (noted_mark marks i).parent before)));
        }

    -- a trail stays one if a node is added with a mark that says how it was made
    pub trail_added : (x : N) → slice_get nodes m.parent ≡ Some x → m.label < labels → move x m.label ≡ Some y
        → m.depth ≡ depth_at marks m.parent + 1 → 0 < length nodes → IsTrail labels move (nodes ++ y ∷ []) (marks ++ m ∷ [])
    trail_added x at lab moves deep some = record {
      marked = omega (arith, t.marked, length_push nodes y, length_push marks m);
      first = depth_stays marks m 0 (omega (arith, t.marked)) ∙ t.first;
      made = λ i k pos h. elim (old_or_new nodes y i k h) [
        | inl p ↦ made_stays i k (slice_get_within nodes i k p) (t.made i k pos p)
        | inr q ↦ new i k q.0 q.1
      ];
    }
      where
        new : (i : ℕ) (k : N) → i ≡ length nodes → k ≡ y → IsMade labels move (nodes ++ y ∷ []) (marks ++ m ∷ []) i k
        new i k e f =
            let last : length marks ≡ i = omega (arith, t.marked) in
            let g : noted_mark (marks ++ m ∷ []) i ≡ m = mark_added marks m i last in
            let low : m.parent < length nodes = slice_get_within nodes m.parent x at in
            let before : m.parent < length marks = omega (arith, t.marked) in
            record {
              parent = x;
              earlier = subst (λ (n : Mark). n.parent < i) (sym g) (omega arith);
              stored = subst (λ (n : Mark). slice_get (nodes ++ y ∷ []) n.parent ≡ Some x) (sym g) (kept_by_push nodes y m.parent x at);
              labelled = subst (λ (n : Mark). n.label < labels) (sym g) lab;
              made = subst (λ (n : Mark). move x n.label ≡ Some k) (sym g) (moves ∙ ap Some (sym f));
              deeper = ap (λ n. n.depth) g ∙ (deep ∙ ap (λ d. d + 1) (sym (ap (λ n. depth_at (marks ++ m ∷ []) n.parent) g ∙ depth_stays marks m m.parent before)));
            }

  module _ (eq : N → N → Bool) where
    -- what is found stays found
    pub found_stays : (nodes : List N) (marks : List Mark) (m : Mark) (y z : N) (d : ℕ) → length marks ≡ length nodes
        → IsFound labels move eq nodes marks z d → IsFound labels move eq (nodes ++ y ∷ []) (marks ++ m ∷ []) z d
    found_stays nodes marks m y z d len f =
        let inside : f.index < length nodes = slice_get_within nodes f.index f.node f.stored in
        let e : depth_at (marks ++ m ∷ []) f.index ≡ depth_at marks f.index = depth_stays marks m f.index (omega arith) in
        record { index = f.index; node = f.node; stored = kept_by_push nodes y f.index f.node f.stored; same = f.same; within = omega (arith, f.within) }

    -- the node that is added is found
    pub found_added : IsEquivalence eq → (nodes : List N) (marks : List Mark) (m : Mark) (y : N) → length marks ≡ length nodes
        → IsFound labels move eq (nodes ++ y ∷ []) (marks ++ m ∷ []) y m.depth
    found_added laws nodes marks m y len =
        let e : depth_at (marks ++ m ∷ []) (length nodes) ≡ m.depth = depth_added marks m (length nodes) len in
        record { index = length nodes; node = y; stored = pushed_last nodes y; same = laws.refl y; within = omega arith }

    -- a node that is there is found, at most one deeper than the node at `at`
    pub found_old : (nodes : List N) (marks : List Mark) (at : ℕ) (y : N) → IsExpanding labels move eq nodes marks at → at < length nodes
        → list_any (eq y) nodes ≡ true → IsFound labels move eq nodes marks y (depth_at marks at + 1)
    found_old nodes marks at y s lt h =
        let p = passing_place (eq y) nodes h in
        record { index = p.0; node = p.1.0; stored = p.1.1.0; same = p.1.1.1; within = s.near p.0 lt (slice_get_within nodes p.0 p.1.0 p.1.1.0) }

    -- the node y is added with the mark m: it is made from the node x, at the index m.parent
    module _ (nodes : List N) (marks : List Mark) (m : Mark) (y x : N) (s : IsExpanding labels move eq nodes marks m.parent)
        (at : slice_get nodes m.parent ≡ Some x) (deep : m.depth ≡ depth_at marks m.parent + 1) where
      -- an index is an old one, whose depth stays, or the new one, one deeper than m.parent
      abbrev IsOldOrNew : ℕ → Type 0
      IsOldOrNew j = ((j < length nodes) × (depth_at (marks ++ m ∷ []) j ≡ depth_at marks j))
          ⊎ ((j ≡ length nodes) × (depth_at (marks ++ m ∷ []) j ≡ depth_at marks m.parent + 1))

      old_or_new_index : (j : ℕ) → j < length (nodes ++ y ∷ []) → IsOldOrNew j
      old_or_new_index j lt = elim (cases_lt j (length nodes)) [
        | inl low ↦ inl (low, depth_stays marks m j (omega (arith, s.trail.marked, low)))
        | inr high ↦ last (omega (arith, high, length_push nodes y))
      ]
        where
          last : j ≡ length nodes → IsOldOrNew j
          last e = inr (e, depth_added marks m j (omega (arith, s.trail.marked)) ∙ deep)

      -- depths still don't fall along the index
      sorted_at : (i j : ℕ) → i ≤ j → IsOldOrNew i → IsOldOrNew j → depth_at (marks ++ m ∷ []) i ≤ depth_at (marks ++ m ∷ []) j
      sorted_at i j le (inl a) (inl b) = let h = s.sorted i j le b.0 in omega (arith, a.1, b.1)
      sorted_at i j le (inl a) (inr b) = let h = s.near i (slice_get_within nodes m.parent x at) a.0 in omega (arith, a.1, b.1)
      sorted_at i j le (inr a) (inl b) = absurd (omega (arith, a.0, b.0))
      sorted_at i j le (inr a) (inr b) = omega (arith, a.1, b.1)

      -- no node is more than one deeper than the one that is being expanded
      near_at : (j : ℕ) → IsOldOrNew j → depth_at (marks ++ m ∷ []) m.parent ≡ depth_at marks m.parent → depth_at (marks ++ m ∷ []) j ≤ depth_at (marks ++ m ∷ []) m.parent + 1
      near_at j (inl a) here = let h = s.near j (slice_get_within nodes m.parent x at) a.0 in omega (arith, a.1)
      near_at j (inr a) here = omega (arith, a.1)

      -- what the expanded nodes lead to is still found
      expanded_at : (i : ℕ) (k z : N) → i < m.parent → slice_get (nodes ++ y ∷ []) i ≡ Some k → Moves labels move k z
          → IsFound labels move eq (nodes ++ y ∷ []) (marks ++ m ∷ []) z (depth_at (marks ++ m ∷ []) i + 1)
      expanded_at i k z lt h mv = elim (old_or_new nodes y i k h) [
        | inl p ↦ subst (IsFound labels move eq (nodes ++ y ∷ []) (marks ++ m ∷ []) z)
            (ap (λ d. d + 1) (sym (depth_stays marks m i (omega (arith, s.trail.marked, slice_get_within nodes i k p)))))
            (found_stays nodes marks m y z (depth_at marks i + 1) s.trail.marked (s.expanded i k lt p z mv))
        | inr q ↦ absurd (omega (arith, lt, q.0, slice_get_within nodes m.parent x at))
      ]

      pub expanding_added : IsEquivalence eq → m.label < labels → move x m.label ≡ Some y → list_any (eq y) nodes ≡ false
          → IsExpanding labels move eq (nodes ++ y ∷ []) (marks ++ m ∷ []) m.parent
      expanding_added laws lab moves new =
          let low : m.parent < length nodes = slice_get_within nodes m.parent x at in
          let here : depth_at (marks ++ m ∷ []) m.parent ≡ depth_at marks m.parent = depth_stays marks m m.parent (omega (arith, s.trail.marked)) in
          record {
            trail = trail_added nodes marks m y s.trail x at lab moves deep (omega arith);
            distinct = IsDistinct-push laws nodes y s.distinct new;
            sorted = λ i j le lt. sorted_at i j le (old_or_new_index i (omega arith)) (old_or_new_index j lt);
            near = λ j _ lt. near_at j (old_or_new_index j lt) here;
            expanded = λ i k lt h z mv. expanded_at i k z lt h mv;
          }

  module _ (eq : N → N → Bool) (laws : IsEquivalence eq)
      (alike : (x y : N) → eq x y ≡ true → (l : ℕ) (z : N) → move x l ≡ Some z → (w : N) × ((move y l ≡ Some w) × (eq z w ≡ true))) where
    -- a move to y is followed: y is noted, unless an equal node was there
    module _ (nodes : List N) (marks : List Mark) (at l d : ℕ) (x y : N) (s : IsExpanding labels move eq nodes marks at) where
      -- an equal node was there
      pub followed_old : slice_get nodes at ≡ Some x → move x l ≡ Some y → list_any (eq y) nodes ≡ true
          → IsFollowed labels move eq nodes marks nodes marks at l
      followed_old here moves there = record {
        expanding = s;
        grown = λ i z h. h;
        kept = λ z n f. f;
        depth = refl;
        discovered = λ z w h mv. arrival_is_old z w h mv (found_old eq nodes marks at y s (slice_get_within nodes at x here) there);
      }
        where
          -- the label leads from the node at `at` only to y, which is found
          arrival_is_old : (z w : N) → slice_get nodes at ≡ Some z → move z l ≡ Some w → IsFound labels move eq nodes marks y (depth_at marks at + 1)
              → IsFound labels move eq nodes marks w (depth_at marks at + 1)
          arrival_is_old z w h mv f =
              let e : z ≡ x = same_Some z x (sym h ∙ here) in
              let k : w ≡ y = same_Some w y (sym mv ∙ (ap (λ n. move n l) e ∙ moves)) in
              subst (λ n. IsFound labels move eq nodes marks n (depth_at marks at + 1)) (sym k) f

      -- y is new
      pub followed_new : slice_get nodes at ≡ Some x → l < labels → move x l ≡ Some y → d ≡ depth_at marks at + 1 → list_any (eq y) nodes ≡ false
          → IsFollowed labels move eq nodes marks (nodes ++ y ∷ []) (marks ++ (record { parent = at; label = l; depth = d }) ∷ []) at l
      followed_new here lab moves deep new =
          let m : Mark = record { parent = at; label = l; depth = d } in
          record {
            expanding = expanding_added eq nodes marks m y x s here deep laws lab moves new;
            grown = λ i z h. kept_by_push nodes y i z h;
            kept = λ z n f. found_stays eq nodes marks m y z n s.trail.marked f;
            depth = depth_stays marks m at (omega (arith, s.trail.marked, slice_get_within nodes at x here));
            discovered = λ z w h mv. arrival_is_new z w h mv (found_added eq laws nodes marks m y s.trail.marked);
          }
        where
          -- the label leads from the node at `at` only to y, which is found as the new node
          arrival_is_new : (z w : N) → slice_get nodes at ≡ Some z → move z l ≡ Some w
              → IsFound labels move eq (nodes ++ y ∷ []) (marks ++ (record { parent = at; label = l; depth = d }) ∷ []) y d
              → IsFound labels move eq (nodes ++ y ∷ []) (marks ++ (record { parent = at; label = l; depth = d }) ∷ []) w (depth_at marks at + 1)
          arrival_is_new z w h mv f =
              let e : z ≡ x = same_Some z x (sym h ∙ here) in
              let k : w ≡ y = same_Some w y (sym mv ∙ (ap (λ n. move n l) e ∙ moves)) in
              record { index = f.index; node = f.node; stored = f.stored; same = subst (λ n. eq n f.node ≡ true) (sym k) f.same; within = omega (arith, f.within, deep) }
