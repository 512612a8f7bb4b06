-- What chairs know after a split, after a join, and when the turn is closed.
use Rattle.std.proofs.Common.{◌≡◌, ◌<◌, ℕ, ◌≤◌, Bool, true, false, not, List, [], ◌∷◌, ◌++◌, length, sym, ap, ◌∙◌, subst, ⊎_elim, arith, append-nil, Option, Some}
use Rattle.std.specs.Prelude.{All}
use mathlib.Core.Logic.{dite}
use mathlib.Core.Option.{some, some-injective}
use native.Mathlib.Decide.{ℕ_discrete}
use lib.ListN.{get_elem?}
use Rattle.atomic_table.specs.Table.{State, Me, opening, Final, Seen}
use Rattle.turn.specs.declared.view.View.{View}
use Rattle.turn.specs.Shares.{has_share, HasAll, shares_without, together, count, chair_number, next_least}
use Rattle.turn.specs.laws.ShareLaws.{below_every, has_without, given_inside, given_some, kept_some, count_some, number_held, together_some}
use Rattle.turn.specs.Histories.{StartsWith, first_view, with_news, longer, joined, IsJoined, HoldsSome, under, OwnsItsCalls, kept, handed}
use Rattle.turn.specs.Rule.{TurnInvariant, NewsReports}
use Rattle.turn.proofs.Prefixes.{nothing_new, under_kept}
use Rattle.turn.proofs.RuleSteps.{starts, none_under, longer_cases}

module _ {T E : Type 0} (by : E → ℕ) (entries : T → List E) where
  -- a chair's view, and what a chair has at the table
  abbrev V : Type 0
  V = View E

  abbrev M : Type 0
  M = Me (Option T) V

  -- a turn's table is as `TurnInvariant` says when it is made
  pub invariant_at_start : (value about : T) (xs : List (Option T)) (n : ℕ) → All (λ e. 16 ≤ by e) (entries value) → n ≡ length (entries value) → xs ≡ Some value ∷ [] → about ≡ value
      → TurnInvariant by entries (opening (0 ∷ n ∷ []) xs (first_view (entries about)))
  invariant_at_start value about xs n outside long items same = subst (λ (z : List (Option T) × T). TurnInvariant by entries (opening (0 ∷ n ∷ []) z.0 (first_view (entries z.1))))
      (λ i. (sym items i, sym same i)) (starts by entries value outside n long)

  -- the first chair owns its calls: it made none, and no chair made an entry
  pub owns_first : (value about : T) → All (λ e. 16 ≤ by e) (entries value) → about ≡ value → OwnsItsCalls by (first_view (entries about))
  owns_first value about outside same share held = ap (λ (x : T). under by share (entries x)) same ∙ none_under by entries share (entries value) (below_every share held) outside

  -- a chair that gives shares away owns the calls that it keeps
  pub owns_kept : (given : List Bool) (v : V) → OwnsItsCalls by v → OwnsItsCalls by (kept by given v)
  owns_kept given v owns share held = let h = has_without v.shares given share held in
      owns share h.0 ∙ sym (under_kept by (λ i. not (has_share given i)) share v.calls (ap not h.1))

  -- a new chair owns the calls that it is given
  pub owns_handed : (given : List Bool) (v : V) → ((share : ℕ) → has_share given share ≡ true → has_share v.shares share ≡ true) → OwnsItsCalls by v → OwnsItsCalls by (handed by given v)
  owns_handed given v inside owns share held = owns share (inside share held) ∙ sym (under_kept by (has_share given) share v.calls held)

  -- a chair whose shares are `marks`, while it doesn't hold the turn
  abbrev pub IsIdleChair : M → List Bool → Type 0
  IsIdleChair m marks = (m.0.shares ≡ marks) × ((m.1 ≡ []) × (m.0.holds ≡ false)) × (0 < count marks) × OwnsItsCalls by m.0

  -- the shares that a chair gives away are its own
  pub inside_marks : (m : M) (marks given : List Bool) (n : ℕ) → m.0.shares ≡ marks → given ≡ next_least n marks → (share : ℕ) → has_share given share ≡ true → has_share m.0.shares share ≡ true
  inside_marks m marks given n marked is share held = ap (λ (l : List Bool). has_share l share) marked ∙ given_inside n marks share (ap (λ (l : List Bool). has_share l share) (sym is) ∙ held)

  -- after a split, the chair that gave shares away is idle, and has those that are left
  pub kept_chair : (m m' : M) (marks given left : List Bool) (n : ℕ) → m.0.shares ≡ marks → (m.1 ≡ []) × (m.0.holds ≡ false) → OwnsItsCalls by m.0 → length marks ≡ 16 → n < count m.0.shares
      → given ≡ next_least n marks → left ≡ shares_without marks given → m' ≡ (kept by given m.0, m.1) → IsIdleChair m' left
  kept_chair m m' marks given left n marked idle owns long fewer is left_is after =
      let fewer' : n < count marks = subst (λ (l : List Bool). n < count l) marked fewer in
      let one = kept_some n marks long fewer' in
      let whole : left ≡ shares_without marks (next_least n marks) = left_is ∙ ap (shares_without marks) is in (
        ap (λ (x : M). x.0.shares) after ∙ (ap (λ (l : List Bool). shares_without l given) marked ∙ sym left_is),
        (ap (λ (x : M). x.1) after ∙ idle.0, ap (λ (x : M). x.0.holds) after ∙ idle.1),
        subst (λ (l : List Bool). 0 < count l) (sym whole) (count_some (shares_without marks (next_least n marks)) one.0 one.1),
        subst (λ (x : M). OwnsItsCalls by x.0) (sym after) (owns_kept given m.0 owns),
      )

  -- after a split, the new chair is idle, and has the given shares
  pub handed_chair : (m m' : M) (marks given : List Bool) (n : ℕ) → m.0.shares ≡ marks → m.0.holds ≡ false → OwnsItsCalls by m.0 → length marks ≡ 16 → 0 < n → n < count m.0.shares
      → given ≡ next_least n marks → m' ≡ (handed by given m.0, []) → IsIdleChair m' given
  handed_chair m m' marks given n marked idle owns long some_asked fewer is after =
      let fewer' : n < count marks = subst (λ (l : List Bool). n < count l) marked fewer in
      let one = given_some n marks long some_asked fewer' in (
        ap (λ (x : M). x.0.shares) after,
        (ap (λ (x : M). x.1) after, ap (λ (x : M). x.0.holds) after ∙ idle),
        subst (λ (l : List Bool). 0 < count l) (sym is) (count_some (next_least n marks) one.0 one.1),
        subst (λ (x : M). OwnsItsCalls by x.0) (sym after) (owns_handed given m.0 (inside_marks m marks given n marked is) owns),
      )

  -- after a join, the chair that took the other over is idle, and has the shares of both
  pub joined_chair : (m o m1 m2 : M) (marks others both : List Bool) (n : ℕ) → m.0.shares ≡ marks → (m.1 ≡ []) × (m.0.holds ≡ false) → o.0.shares ≡ others → length marks ≡ 16 → 0 < count marks
      → both ≡ together marks others → m1 ≡ (joined m.0 o.0, m.1) → NewsReports by entries m1 n m2 → IsIdleChair m2 both
  joined_chair m o m1 m2 marks others both n marked idle marked' long some_share is after reported_length =
      let mine = number_held marks long some_share in let one = together_some marks others (chair_number marks) mine.0 mine.1 in (
        ap (λ (x : M). x.0.shares) reported_length.0 ∙ (ap (λ (x : M). x.0.shares) after ∙ ((λ i. together (marked i) (marked' i)) ∙ sym is)),
        (ap (λ (x : M). x.1) reported_length.0 ∙ (ap (λ (x : M). x.1) after ∙ idle.0), ap (λ (x : M). x.0.holds) reported_length.0 ∙ (ap (λ (x : M). x.0.holds) after ∙ idle.1)),
        subst (λ (l : List Bool). 0 < count l) (sym is) (count_some (together marks others) one.0 one.1),
        subst (λ (x : M). OwnsItsCalls by x.0) (sym reported_length.0) reported_length.3,
      )

  -- a chair with the view v that takes over one with the view w, and then reads the list's length,
  -- has joined them, as `IsJoined` says
  pub joined_with_news : (v w : V) (m1 m2 : M) (n : ℕ) → m1.0 ≡ joined v w → NewsReports by entries m1 n m2
      → IsJoined v w m2.0
  joined_with_news v w m1 m2 n is t =
      let after : m2.0 ≡ with_news (joined v w) n = ap (λ (m : M). m.0) t.0 ∙ ap (λ (x : V). with_news x n) is in
      let seen : m2.0.seen ≡ longer v.seen w.seen = ap (λ (x : V). x.seen) after in
      let J : V → Type 0 = λ (x : V). (length x.met.0 ≤ length x.seen → StartsWith x.seen x.met.0) × (length x.met.1 ≤ length x.seen → StartsWith x.seen x.met.1) in
      let both : J (joined v w) = subst J is (t.4, t.5) in
      let lengths : (length v.seen ≤ length (longer v.seen w.seen)) × (length w.seen ≤ length (longer v.seen w.seen)) = ⊎_elim
      (λ (c : (longer v.seen w.seen ≡ w.seen) × (length v.seen ≤ length w.seen)). let e = ap length c.0 in let l = c.1 in (omega arith, omega arith))
      (λ (c : (longer v.seen w.seen ≡ v.seen) × (length w.seen ≤ length v.seen)). let e = ap length c.0 in let l = c.1 in (omega arith, omega arith)) (longer_cases by entries v.seen w.seen) in (
        n,
        after,
        subst (λ (x : V). x.reported ≤ n) is t.1,
        (let e = ap length (ap (λ (m : M). m.0.seen) t.0) in let l = t.2 in omega arith),
        subst (λ (l : List E). StartsWith l v.seen) (sym seen) (both.0 lengths.0),
        subst (λ (l : List E). StartsWith l w.seen) (sym seen) (both.1 lengths.1),
      )

  -- when a chair with every share closes the turn, the value is in its slot, and the chair has seen
  -- the value's whole list
  pub closes : (id : ℕ) (v : V) (words : List ℕ) (xs : List (Option T)) → Final (Seen (TurnInvariant by entries) id v) words xs → v.holds ≡ false → HasAll v.shares
      → (y : T) × (get_elem? xs 0 ≡ some (Some y)) × (entries y ≡ v.seen)
  closes id v words xs final idle all =
      let s : State (Option T) V = final.0 in let r : TurnInvariant by entries s = final.1.0 in let at : get_elem? s.views id ≡ some v = final.1.1 in let k = r.each id v at in
      let some_share : HoldsSome v = (0, all 0 (omega arith)) in
      let nil = nothing_new by r.list v.seen k.seen.0 k.seen.1 (k.seen.2 some_share) (λ share inside. k.seen_under share (all share inside)) in
      let whole : r.list ≡ v.seen = sym k.seen.1 ∙ (ap (λ l. v.seen ++ l) nil ∙ append-nil v.seen) in
      dite (ℕ_discrete r.flag 0)
      (λ free. let h = r.home free in (h.0, final.4 0 (Some h.0) (ap (λ hs. get_elem? hs 0) h.1), h.2 ∙ whole))
      (λ busy. let a = r.away busy in let kh = r.each r.holder a.0 a.2 in let hold = kh.holding a.3 in let share = hold.3.0 in
      let same : r.holder ≡ id = sym (kh.owns share hold.3.1) ∙ k.owns share (all share (kh.below share hold.3.1)) in
      let is : a.0 ≡ v = some-injective a.0 v (sym a.2 ∙ (ap (get_elem? s.views) same ∙ at)) in
      let t = ap (λ (x : V). x.holds) is in let u = a.3 in absurd (cc))
