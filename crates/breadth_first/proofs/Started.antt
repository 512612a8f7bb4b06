-- How a search begins.
use Rattle.std.proofs.Common.{◌≡◌, ℕ, ◌+◌, ◌<◌, ◌≤◌, ◌⊎◌, inl, inr, List, [], ◌∷◌, ◌++◌, Option, Some, length, slice_get, Bool, true, false, refl, sym, ap, subst, ◌∙◌, arith, true≢false}
use Rattle.std.proofs.lemmas.Option.{slice_get_within}
use Rattle.std.proofs.lemmas.Map.Keys.{IsDistinct-push}
use Rattle.std.specs.List.{IsDistinct, list_any}
use Rattle.std.specs.Cmp.{IsEquivalence}
use Rattle.breadth_first.specs.declared.mark.Mark.{Mark}
use Rattle.breadth_first.specs.Paths.{mark_of_start, depth_at, IsExpanding, AreTooMany}
use Rattle.breadth_first.proofs.Items.{old_or_new}

-- the empty list has no equal nodes
distinct_none : {N : Type 0} (eq : N → N → Bool) → IsDistinct eq []
unfolding IsDistinct
distinct_none eq = tt

module _ {N : Type 0} (labels : ℕ) (move : N → ℕ → Option N) (eq : N → N → Bool) (laws : IsEquivalence eq)
    (alike : (x y : N) → eq x y ≡ true → (l : ℕ) (z : N) → move x l ≡ Some z → (w : N) × ((move y l ≡ Some w) × (eq z w ≡ true))) where
  -- if no node is allowed, the start alone is too many
  pub start_is_too_many : (start : N) (most : ℕ) → most ≤ 0 → AreTooMany labels move eq start most
  start_is_too_many start most none = record {
    nodes = start ∷ [];
    distinct = IsDistinct-push laws [] start (distinct_none eq) refl;
    reached = λ i k h. elim (old_or_new [] start i k h) [ inl p ↦ absurd (omega (arith, slice_get_within {A = N} [] i k p)) | inr q ↦ (0, q.1) ];
    many = omega (arith, none);
  }

  -- a search begins with the start alone
  pub expanding_first : (start : N) → IsExpanding labels move eq (start ∷ []) (mark_of_start ∷ []) 0
  expanding_first start = record {
    trail = record { marked = refl; first = refl; made = λ i k pos h. absurd (omega (arith, slice_get_within (start ∷ []) i k h, pos)) };
    distinct = IsDistinct-push laws [] start (distinct_none eq) refl;
    sorted = λ i j le lt. ap_le i j (omega (arith, le, lt)) (omega (arith, lt));
    near = λ j _ lt. low j (omega (arith, lt));
    expanded = λ i k lt. absurd (omega (arith, lt));
  }
    where
      ap_le : (i j : ℕ) → i ≡ 0 → j ≡ 0 → depth_at (mark_of_start ∷ []) i ≤ depth_at (mark_of_start ∷ []) j
      ap_le i j e f = let a : depth_at (mark_of_start ∷ []) i ≡ depth_at (mark_of_start ∷ []) 0 = ap (depth_at (mark_of_start ∷ [])) e in let b : depth_at (mark_of_start ∷ []) j ≡ depth_at (mark_of_start ∷ []) 0 = ap (depth_at (mark_of_start ∷ [])) f in omega (arith, a, b)

      low : (j : ℕ) → j ≡ 0 → depth_at (mark_of_start ∷ []) j ≤ depth_at (mark_of_start ∷ []) 0 + 1
      low j e = let a : depth_at (mark_of_start ∷ []) j ≡ depth_at (mark_of_start ∷ []) 0 = ap (depth_at (mark_of_start ∷ [])) e in omega (arith, a)

  -- a search that has expanded no node: `start` is the first of its nodes, which are at most `most`
  pub record HasBegun (start : N) (nodes : List N) (marks : List Mark) (most : ℕ) : Type 0 where
    pub expanding : IsExpanding labels move eq nodes marks 0
    pub first : slice_get nodes 0 ≡ Some start
    pub fits : length nodes ≤ most

  -- a search begins as a search that had nothing discovers the start
  pub has_begun : (start : N) (none nodes : List N) (no_marks marks : List Mark) (most : ℕ) → none ≡ [] → no_marks ≡ []
      → ((list_any (eq start) none ≡ true) × ((nodes ≡ none) × (marks ≡ no_marks)))
      ⊎ ((list_any (eq start) none ≡ false) × ((nodes ≡ none ++ start ∷ []) × ((marks ≡ no_marks ++ mark_of_start ∷ []) × (length none < most))))
      → HasBegun start nodes marks most
  has_begun start none nodes no_marks marks most e f (inl a) = absurd (true≢false (sym a.0 ∙ ap (list_any (eq start)) e))
  has_begun start none nodes no_marks marks most e f (inr a) =
      let k : nodes ≡ start ∷ [] = a.1.0 ∙ ap (λ (n : List N). n ++ start ∷ []) e in
      let m : marks ≡ mark_of_start ∷ [] = a.1.1.0 ∙ ap (λ (n : List Mark). n ++ mark_of_start ∷ []) f in
      record {
        expanding = subst (λ (ks : List N). IsExpanding labels move eq ks marks 0) (sym k) (subst (λ (ms : List Mark). IsExpanding labels move eq (start ∷ []) ms 0) (sym m) (expanding_first start));
        first = ap (λ (ks : List N). slice_get ks 0) k;
        fits = omega (arith, ap length k, ap length e, a.1.1.1);
      }
