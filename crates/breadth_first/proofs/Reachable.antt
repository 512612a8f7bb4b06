-- Which nodes are reachable: those on a trail; of all, no others than are found, once all moves are
-- followed; and more than are allowed.
use Rattle.std.proofs.Common.{◌≡◌, ℕ, zero, suc, ◌<◌, ◌≤◌, inl, inr, List, [], ◌∷◌, ◌++◌, Option, Some, length, slice_get, Bool, true, false, refl, sym, ap, subst, ◌∙◌, add-one, arith}
use Rattle.std.proofs.lemmas.Option.{slice_get_within, same_Some}
use Rattle.std.proofs.lemmas.List.{length_push}
use Rattle.std.proofs.lemmas.Map.Keys.{IsDistinct-push, any_passes_from_place}
use Rattle.std.specs.List.{list_any}
use Rattle.std.specs.Cmp.{IsEquivalence}
use Rattle.breadth_first.specs.declared.mark.Mark.{Mark}
use Rattle.breadth_first.specs.Paths.{noted_mark, depth_at, Moves, Reaches, IsTrail, IsFound, IsExpanding, IsAllReached, AreTooMany}
use Rattle.std.proofs.lemmas.Map.Made.{length-le_from_is_member}
use Rattle.breadth_first.proofs.Items.{old_or_new, passing_place}

module _ {N : Type 0} (labels : ℕ) (move : N → ℕ → Option N) where
  -- a node is no deeper than its index
  pub depth_low : (nodes : List N) (marks : List Mark) → IsTrail labels move nodes marks → (f i : ℕ) (k : N) → i < f → slice_get nodes i ≡ Some k → depth_at marks i ≤ i
  depth_low nodes marks t zero i k lt h = absurd (omega (arith, lt))
  depth_low nodes marks t (suc f) zero k lt h = omega (arith, t.first)
  depth_low nodes marks t (suc f) (suc i) k lt h =
      let m = t.made (suc i) k (omega arith) h in
      let r = depth_low nodes marks t f (noted_mark marks (suc i)).parent m.parent (omega (arith, lt, m.earlier)) m.stored in
      omega (arith, m.deeper, m.earlier, r)

  -- each node on a trail is reached by as many moves as are noted
  pub reached_along : (start : N) (nodes : List N) (marks : List Mark) → IsTrail labels move nodes marks → slice_get nodes 0 ≡ Some start
      → (f i : ℕ) (k : N) → i < f → slice_get nodes i ≡ Some k → Reaches labels move start (depth_at marks i) k
  reached_along start nodes marks t s zero i k lt h = absurd (omega (arith, lt))
  reached_along start nodes marks t s (suc f) zero k lt h =
      subst (λ d. Reaches labels move start d k) (sym t.first) (same_Some k start (sym h ∙ s))
  reached_along start nodes marks t s (suc f) (suc i) k lt h =
      let m = t.made (suc i) k (omega arith) h in
      let r = reached_along start nodes marks t s f (noted_mark marks (suc i)).parent m.parent (omega (arith, lt, m.earlier)) m.stored in
      let mv : Moves labels move m.parent k = ((noted_mark marks (suc i)).label, (m.labelled, m.made)) in
      let both : Reaches labels move start (suc (depth_at marks (noted_mark marks (suc i)).parent)) k = (m.parent, (r, mv)) in
      subst (λ d. Reaches labels move start d k) (sym (m.deeper ∙ add-one (depth_at marks (noted_mark marks (suc i)).parent))) both

  module _ (eq : N → N → Bool) (laws : IsEquivalence eq)
      (alike : (x y : N) → eq x y ≡ true → (l : ℕ) (z : N) → move x l ≡ Some z → (w : N) × ((move y l ≡ Some w) × (eq z w ≡ true))) where
    -- whatever is reached is found, once all moves are followed
    pub found_all : (start : N) (nodes : List N) (marks : List Mark) (at : ℕ) → IsExpanding labels move eq nodes marks at → length nodes ≤ at
        → slice_get nodes 0 ≡ Some start → (n : ℕ) (y : N) → Reaches labels move start n y → IsFound labels move eq nodes marks y n
    found_all start nodes marks at s all first zero y e =
        record { index = 0; node = start; stored = first; same = subst (λ z. eq z start ≡ true) (sym e) (laws.refl start); within = omega (arith, s.trail.first) }
    found_all start nodes marks at s all first (suc n) y r =
        let f = found_all start nodes marks at s all first n r.0 r.1.0 in
        let a = alike r.0 f.node f.same r.1.1.0 y r.1.1.1.1 in
        let mv : Moves labels move f.node a.0 = (r.1.1.0, (r.1.1.1.0, a.1.0)) in
        let g = s.expanded f.index f.node (omega (arith, all, slice_get_within nodes f.index f.node f.stored)) f.stored a.0 mv in
        record { index = g.index; node = g.node; stored = g.stored; same = laws.congr y a.0 g.node a.1.1 ∙ g.same; within = omega (arith, g.within, f.within) }

    -- once all moves are followed, all is found
    pub all_reached : (start : N) (nodes : List N) (marks : List Mark) (at : ℕ) → IsExpanding labels move eq nodes marks at → length nodes ≤ at
        → slice_get nodes 0 ≡ Some start → IsAllReached labels move eq start nodes marks
    all_reached start nodes marks at s all first = record {
      starts = first;
      trail = s.trail;
      distinct = s.distinct;
      sorted = s.sorted;
      sound = λ i k h. reached_along start nodes marks s.trail first (suc i) i k (omega arith) h;
      complete = found_all start nodes marks at s all first;
    }

    -- one more node is too many
    pub too_many : (start : N) (noted : List N) (marks : List Mark) (at l : ℕ) (x y : N) (most : ℕ) → IsExpanding labels move eq noted marks at
        → slice_get noted 0 ≡ Some start → slice_get noted at ≡ Some x → l < labels → move x l ≡ Some y → list_any (eq y) noted ≡ false → most ≤ length noted
        → AreTooMany labels move eq start most
    too_many start noted marks at l x y most s first here lt moves new full = record {
      nodes = noted ++ y ∷ [];
      distinct = IsDistinct-push laws noted y s.distinct new;
      reached = λ i k h. elim (old_or_new noted y i k h) [
        | inl p ↦ (depth_at marks i, reached_along start noted marks s.trail first (suc i) i k (omega arith) p)
        | inr q ↦ last k q.1 (reached_along start noted marks s.trail first (suc at) at x (omega arith) here)
      ];
      many = omega (arith, length_push noted y, full);
    }
      where
        last : (k : N) → k ≡ y → Reaches labels move start (depth_at marks at) x → (n : ℕ) × Reaches labels move start n k
        last k e r = (suc (depth_at marks at), (x, (r, (l, (lt, moves ∙ ap Some (sym e))))))

    -- if all that is reachable is found, in at most `most` nodes, no more than `most` are reachable
    pub not_too_many : (start : N) (nodes : List N) (marks : List Mark) (most : ℕ) → IsAllReached labels move eq start nodes marks → length nodes ≤ most
        → AreTooMany labels move eq start most → ⊥
    not_too_many start nodes marks most all fits t =
        let le = length-le_from_is_member {eq = eq} laws t.nodes nodes t.distinct member in
        omega (arith, le, t.many, fits)
      where
        member : (q : N) → list_any (eq q) t.nodes ≡ true → list_any (eq q) nodes ≡ true
        member q h =
            let p = passing_place (eq q) t.nodes h in
            let r = t.reached p.0 p.1.0 p.1.1.0 in
            let f = all.complete r.0 p.1.0 r.1 in
            any_passes_from_place (eq q) nodes f.index f.node f.stored (laws.congr q p.1.0 f.node p.1.1.1 ∙ f.same)
