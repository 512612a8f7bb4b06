-- A path is traced back along the parents.
use Rattle.std.proofs.Common.{◌≡◌, ℕ, zero, suc, ◌+◌, ◌<◌, ◌≤◌, inl, inr, List, [], ◌∷◌, ◌++◌, Option, Some, length, slice_get, refl, sym, ap, subst, ◌∙◌, arith}
use Rattle.std.specs.Prelude.{reverse}
use Rattle.std.proofs.lemmas.Option.{same_Some, slice_get_cases}
use Rattle.std.proofs.lemmas.List.{reverse-append, length_push}
use Rattle.breadth_first.specs.declared.mark.Mark.{Mark}
use Rattle.breadth_first.specs.Paths.{noted_mark, depth_at, IsTrail, LeadsBy}

module _ {N : Type 0} (labels : ℕ) (move : N → ℕ → Option N) (nodes : List N) (marks : List Mark) where
  -- `path` has the marks on the way back from the node at `index` to the one at `at`, the last mark
  -- first; `made` is how many there are
  pub record IsTraced (index at made : ℕ) (path : List Mark) : Type 0 where
    pub there : at < length nodes
    pub depth : depth_at marks at + made ≡ depth_at marks index
    pub long : length path ≡ made
    pub leads : (x node : N) → slice_get nodes at ≡ Some x → slice_get nodes index ≡ Some node → LeadsBy labels move nodes x (reverse path) node

  module _ (t : IsTrail labels move nodes marks) where
    -- a node deeper than the start isn't the start
    not_first : (at : ℕ) → 0 < depth_at marks at → 0 < at
    not_first zero deep = let first = t.first in omega (arith, first, deep)
    not_first (suc at) deep = omega arith

    pub traced_more : (index at made : ℕ) (path : List Mark) (m : Mark) → IsTraced index at made path → made < depth_at marks index → m ≡ noted_mark marks at
        → IsTraced index m.parent (made + 1) (path ++ m ∷ [])
    traced_more index at made path m d more is = elim ((slice_get_cases nodes at).1) [
      | inl a ↦ step a.0 a.2
      | inr b ↦ absurd (omega (arith, d.there, b.0))
    ]
      where
        step : (x : N) → slice_get nodes at ≡ Some x → IsTraced index m.parent (made + 1) (path ++ m ∷ [])
        step x here =
            let h = t.made at x (not_first at (omega (arith, d.depth, more))) here in
            let parent : m.parent ≡ (noted_mark marks at).parent = ap (λ n. n.parent) is in
            let label : m.label ≡ (noted_mark marks at).label = ap (λ n. n.label) is in
            let deep : depth_at marks m.parent ≡ depth_at marks (noted_mark marks at).parent = ap (depth_at marks) parent in
            let low = h.earlier in
            let deeper = h.deeper in
            let labelled = h.labelled in
            record {
              there = omega (arith, d.there, low, parent);
              depth = omega (arith, d.depth, deeper, deep);
              long = length_push path m ∙ ap (λ n. n + 1) d.long;
              leads = λ y node g k.
                  let same : y ≡ h.parent = same_Some y h.parent (sym g ∙ (ap (slice_get nodes) parent ∙ h.stored)) in
                  let made_x : move y m.label ≡ Some x = (λ i. move (same i) (label i)) ∙ h.made in
                  subst (λ l. LeadsBy labels move nodes y l node) (sym (reverse-append path (m ∷ [])))
                  (x, ((g, (omega (arith, labelled, label), made_x)), d.leads x node here k));
            }

    start_if_depth_zero : (at : ℕ) → at < length nodes → depth_at marks at ≡ 0 → at ≡ 0
    start_if_depth_zero zero lt none = refl
    start_if_depth_zero (suc at) lt none = elim ((slice_get_cases nodes (suc at)).1) [
      | inl a ↦ let deeper = (t.made (suc at) a.0 (omega arith) a.2).deeper in absurd (omega (arith, deeper, none))
      | inr b ↦ absurd (omega (arith, lt, b.0))
    ]

    -- a way back with as many marks as the node is deep ends at the start
    pub traced_all : (index at made : ℕ) (path : List Mark) → IsTraced index at made path → depth_at marks index ≤ made
        → (start node : N) → slice_get nodes 0 ≡ Some start → slice_get nodes index ≡ Some node → LeadsBy labels move nodes start (reverse path) node
    traced_all index at made path d all start node s k =
        let first : at ≡ 0 = start_if_depth_zero at d.there (omega (arith, d.depth, all)) in
        d.leads start node (ap (slice_get nodes) first ∙ s) k
