-- The moves from one node are followed, one label after another.
use Rattle.std.proofs.Common.{◌≡◌, ℕ, ◌+◌, ◌<◌, ◌≤◌, inl, inr, List, Some, slice_get, Bool, ap, sym, subst, ◌∙◌, arith, Option, length}
use Rattle.std.proofs.lemmas.Bool.{cases_lt}
use Rattle.std.proofs.lemmas.Option.{same_Some, slice_get_within, slice_get_cases}
use Rattle.breadth_first.specs.declared.mark.Mark.{Mark}
use Rattle.breadth_first.specs.Graph.{GraphOf}
use Rattle.breadth_first.specs.Paths.{depth_at, Moves, IsFound, IsExpanding, IsFollowed}
use Rattle.breadth_first.specs.Searches.{IsSearching, IsSearch, IsSearchAt, IsSearchAfter}

-- if each item of xs is still in ys, at its index, then what ys has at an index of xs, xs has there
pub grown_same : {X : Type 0} (xs ys : List X) (at : ℕ) (x : X) → ((i : ℕ) (x : X) → slice_get xs i ≡ Some x → slice_get ys i ≡ Some x)
    → at < length xs → slice_get ys at ≡ Some x → slice_get xs at ≡ Some x
grown_same xs ys at x grown lt h = elim ((slice_get_cases xs at).1) [
  | inl a ↦ a.2 ∙ (sym (grown at a.0 a.2) ∙ h)
  | inr b ↦ absurd (omega (arith, lt, b.0))
]

module _ {N : Type 0} (labels : ℕ) (move : N → ℕ → Option N) (eq : N → N → Bool) (nodes new_nodes : List N) (marks new_marks : List Mark) (at l : ℕ)
    (f : IsFollowed labels move eq nodes marks new_nodes new_marks at l) where
  -- if what the labels below l lead to was found, what those up to l lead to is found
  pub discovered_more : at < length nodes
      → ((x y : N) (i : ℕ) → i < l → slice_get nodes at ≡ Some x → move x i ≡ Some y → IsFound labels move eq nodes marks y (depth_at marks at + 1))
      → (x y : N) (i : ℕ) → i < l + 1 → slice_get new_nodes at ≡ Some x → move x i ≡ Some y → IsFound labels move eq new_nodes new_marks y (depth_at new_marks at + 1)
  discovered_more here discovered x y i lt h mv =
      let old : slice_get nodes at ≡ Some x = grown_same nodes new_nodes at x f.grown here h in
      subst (IsFound labels move eq new_nodes new_marks y) (ap (λ d. d + 1) (sym f.depth)) (elim (cases_lt i l) [
        | inl low ↦ f.kept y (depth_at marks at + 1) (discovered x y i low old mv)
        | inr high ↦ last i (omega (arith, lt, high)) x y old mv
      ])
    where
      last : (i : ℕ) → i ≡ l → (x y : N) → slice_get nodes at ≡ Some x → move x i ≡ Some y → IsFound labels move eq new_nodes new_marks y (depth_at marks at + 1)
      last i e x y old mv = f.discovered x y old (sym (ap (move x) e) ∙ mv)

module _ {N K : Type 0} (g : GraphOf N K) (eq : N → N → Bool) (Holds : N → Type 0) (x : N) (at : ℕ) where
  -- the moves from x, which is at index `at`, are followed by the labels below l
  pub record IsExpandingLabels (keys : List K) (goals : List Bool) (marks : List Mark) (queue : List N) (l : ℕ) : Type 0 where
    pub nodes : List N
    pub here : slice_get nodes at ≡ Some x
    pub searching : IsSearching g eq Holds nodes keys goals marks queue (at + 1) at
    pub discovered : (y : N) (i : ℕ) → i < l → g.move x i ≡ Some y → IsFound g.labels g.move eq nodes marks y (depth_at marks at + 1)

  module _ (keys : List K) (goals : List Bool) (marks : List Mark) (queue : List N) where
    -- at first no label is followed
    pub no_label_followed : IsSearchAt g eq Holds x keys goals marks queue at → IsExpandingLabels keys goals marks queue 0
    no_label_followed s = record { nodes = s.nodes; here = s.here; searching = s.searching; discovered = λ y i lt. absurd (omega (arith, lt)) }

    module _ (l : ℕ) (s : IsExpandingLabels keys goals marks queue l) where
      -- a search whose node x is being expanded
      pub search_at : IsSearchAt g eq Holds x keys goals marks queue at
      search_at = record { nodes = s.nodes; here = s.here; searching = s.searching }

      -- the move by label l is followed
      pub label_followed : (new_keys : List K) (new_goals : List Bool) (new_marks : List Mark) (new_queue : List N)
          → ((nodes : List N) → slice_get nodes at ≡ Some x → IsSearching g eq Holds nodes keys goals marks queue (at + 1) at
          → IsSearchAfter g eq Holds nodes marks new_keys new_goals new_marks new_queue at l)
          → IsExpandingLabels new_keys new_goals new_marks new_queue (l + 1)
      label_followed new_keys new_goals new_marks new_queue step =
          let t = step s.nodes s.here s.searching in
          let f = t.followed in
          let old : (z y : N) (i : ℕ) → i < l → slice_get s.nodes at ≡ Some z → g.move z i ≡ Some y → IsFound g.labels g.move eq s.nodes marks y (depth_at marks at + 1)
          = λ z y i lt h mv. s.discovered y i lt (ap (λ n. g.move n i) (same_Some x z (sym s.here ∙ h)) ∙ mv) in
          let there : slice_get t.new_nodes at ≡ Some x = f.grown at x s.here in
          record {
            nodes = t.new_nodes;
            here = there;
            searching = t.searching;
            discovered = λ y i lt mv. discovered_more g.labels g.move eq s.nodes t.new_nodes marks new_marks at l f (slice_get_within s.nodes at x s.here) old x y i lt there mv;
          }

      -- a label whose move from x is that of an earlier label needn't be followed
      pub label_skipped : (j : ℕ) → j < l → g.move x l ≡ g.move x j → IsExpandingLabels keys goals marks queue (l + 1)
      label_skipped j lt same = record {
        nodes = s.nodes;
        here = s.here;
        searching = s.searching;
        discovered = λ y i low mv. elim (cases_lt i l) [
          | inl below ↦ s.discovered y i below mv
          | inr high ↦ let e : i ≡ l = omega (arith, low, high) in s.discovered y j lt (sym same ∙ (ap (g.move x) (sym e) ∙ mv))
        ];
      }

      -- all labels are followed: node x is expanded
      pub all_labels_followed : g.labels ≤ l → IsSearch g eq Holds keys goals marks queue (at + 1) (at + 1)
      all_labels_followed all = record {
        nodes = s.nodes;
        searching = record {
          expanding = record {
            trail = v.trail;
            distinct = v.distinct;
            sorted = v.sorted;
            near = λ j next lt. let deep = v.near j (omega (arith, next)) lt in let up = v.sorted at (at + 1) (omega arith) next in omega (arith, deep, up);
            expanded = λ i k lt h y mv. elim (cases_lt i at) [
              | inl low ↦ v.expanded i k low h y mv
              | inr high ↦ last i k (omega (arith, lt, high)) h y mv
            ];
          };
          first = s.searching.first;
          kept = s.searching.kept;
          waiting = s.searching.waiting;
        };
      }
        where
          v : IsExpanding g.labels g.move eq s.nodes marks at
          v = s.searching.expanding

          last : (i : ℕ) (k : N) → i ≡ at → slice_get s.nodes i ≡ Some k → (y : N) → Moves g.labels g.move k y → IsFound g.labels g.move eq s.nodes marks y (depth_at marks i + 1)
          last i k e h y mv =
              let same : k ≡ x = same_Some k x (sym h ∙ (ap (slice_get s.nodes) e ∙ s.here)) in
              subst (λ n. IsFound g.labels g.move eq s.nodes marks y (depth_at marks n + 1)) (sym e)
              (s.discovered y mv.0 (omega (arith, mv.1.0, all)) (ap (λ n. g.move n mv.0) (sym same) ∙ mv.1.1))
