-- What a chair does from when it takes the turn until it gives the turn back. m0 to m5 are what the
-- chair has at the table before it takes the turn, and after each of its five steps.
use Rattle.std.proofs.Common.{◌≡◌, ℕ, ◌≤◌, true, List, [], ◌∷◌, ◌++◌, length, drop, sym, ap, ◌∙◌, subst, Option, Some, None}
use Rattle.std.proofs.Math.Seq.{drop-append_seam}
use Rattle.atomic_table.specs.Table.{Me}
use Rattle.turn.specs.declared.view.View.{View}
use Rattle.turn.specs.Shares.{has_share, chair_number}
use Rattle.turn.specs.Entries.{AtMostOne}
use Rattle.turn.specs.Histories.{StartsWith, grabbed, published, released, under, OwnsItsCalls, Holding}
use Rattle.turn.specs.Rule.{Grabs}
use Rattle.turn.proofs.Prefixes.{under_append}

module _ {T : Type 0} where
  -- the value in a slot, or d if the slot is empty
  abbrev value_or : T → Option T → T
  value_or d None = d
  value_or d (Some y) = y

  -- the value in the slot that a chair holds, or d if there is none
  abbrev slot_value_or : T → List (ℕ × Option T) → T
  slot_value_or d [] = d
  slot_value_or d (x ∷ xs) = value_or d x.1

module _ {T E : Type 0} (by : E → ℕ) (entries : T → List E) where
  -- a chair's view, and what a chair has at the table
  abbrev V : Type 0
  V = View E

  abbrev M : Type 0
  M = Me (Option T) V

  -- the entries of the value's list after those that were seen
  abbrev pub unseen : V → T → List E
  unseen v x = drop (length v.seen) (entries x)

  module _ (m0 m1 m2 : M) (x0 : T) (grabs : Grabs by entries m0 m1) (bare : m0.1 ≡ []) (value : m1.1 ≡ (0, Some x0) ∷ []) (empty : m2 ≡ (m1.0, (0, None) ∷ [])) where
    same_value : grabs.0 ≡ x0
    same_value = ap (λ l. slot_value_or x0 l) (sym (ap (λ (m : M). m.1) grabs.1) ∙ value)

    -- once the value is taken, the chair has seen the value's whole list
    pub taken_view : m2.0 ≡ grabbed m0.0 (entries x0)
    taken_view = ap (λ (m : M). m.0) empty ∙ (ap (λ (m : M). m.0) grabs.1 ∙ ap (λ (x : T). grabbed m0.0 (entries x)) same_value)

    pub still_has : (n : ℕ) → has_share m0.0.shares n ≡ true → has_share m2.0.shares n ≡ true
    still_has n held = ap (λ (v : V). has_share v.shares n) taken_view ∙ held

    seen_is : m2.0.seen ≡ entries x0
    seen_is = ap (λ (v : V). v.seen) taken_view

    module _ (x1 : T) (n : ℕ) (adds : (added : List E) × (entries x1 ≡ entries x0 ++ added) × AtMostOne by n added) where
      unseen_is_added : unseen m2.0 x1 ≡ adds.0
      unseen_is_added = ap (λ (l : List E). drop (length l) (entries x1)) seen_is ∙ (ap (drop (length (entries x0))) adds.1 ∙ drop-append_seam (entries x0) adds.0)

      pub list_is_seen_then_unseen : entries x1 ≡ m2.0.seen ++ unseen m2.0 x1
      list_is_seen_then_unseen = adds.1 ∙ λ i. sym seen_is i ++ sym unseen_is_added i

      -- the work added at most one entry
      pub unseen_at_most_one : AtMostOne by n (unseen m2.0 x1)
      unseen_at_most_one = subst (AtMostOne by n) (sym unseen_is_added) adds.2

      module _ (m3 : M) (published_is : m3 ≡ (published m2.0 (unseen m2.0 x1), m2.1)) where
        -- once the length is published, the chair has seen the value's list, so the value may be
        -- put back
        pub put_ready : entries x1 ≡ m3.0.seen
        put_ready = list_is_seen_then_unseen ∙ sym (ap (λ (m : M). m.0.seen) published_is)

        module _ (m4 : M) (full : m4 ≡ (m3.0, (0, Some x1) ∷ [])) where
          -- once the value is back, the turn may be freed
          pub release_ready : (x : T) × (m4.1 ≡ (0, Some x) ∷ []) × (entries x ≡ m4.0.seen)
          release_ready = (x1, ap (λ (m : M). m.1) full, put_ready ∙ sym (ap (λ (m : M). m.0.seen) full))

          module _ (m5 : M) (released_is : m5 ≡ (released m4.0, [])) where
            final_view : m5.0 ≡ released (published m2.0 (unseen m2.0 x1))
            final_view = ap (λ (m : M). m.0) released_is ∙ (ap (λ (m : M). released m.0) full ∙ ap (λ (m : M). released m.0) published_is)

            -- a chair that has given the turn back owns its calls
            pub still_owns : OwnsItsCalls by m5.0
            still_owns = subst (OwnsItsCalls by) (sym (final_view ∙ ap (λ (v : V). released (published v (unseen m2.0 x1))) (ap (λ (m : M). m.0) empty ∙ ap (λ (m : M). m.0) grabs.1)))
                (λ share held. under_append by share (entries grabs.0) (unseen m2.0 x1)
                ∙ (ap (λ (l : List E). l ++ under by share (unseen m2.0 x1)) (grabs.4 share held) ∙ sym (under_append by share m0.0.calls (unseen m2.0 x1))))

            -- from the view before to the view after, all is as `Holding` says
            pub holding : (relation : List E → List E → Type 0) → n ≡ chair_number m0.0.shares → relation (entries x0) (entries x1) → Holding by relation m0.0 m5.0
            holding relation same kept = (
              entries x0,
              unseen m2.0 x1,
              subst (λ (x : T). StartsWith (entries x) m0.0.seen) same_value grabs.2,
              subst (λ (x : T). m0.0.reported ≤ length (entries x)) same_value grabs.3,
              subst (λ (k : ℕ). AtMostOne by k (unseen m2.0 x1)) same unseen_at_most_one,
              final_view ∙ ap (λ (v : V). released (published v (unseen m2.0 x1))) taken_view,
              subst (relation (entries x0)) (list_is_seen_then_unseen ∙ ap (λ (l : List E). l ++ unseen m2.0 x1) seen_is) kept,
              λ all. ap entries (sym same_value) ∙ grabs.5 all,
            )
