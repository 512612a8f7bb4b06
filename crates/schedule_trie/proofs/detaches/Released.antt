-- The effect of a release on a trie.
use Rattle.std.proofs.Common.{◌≡◌, ℕ, zero, suc, Bool, true, false, List, [], ◌∷◌, ◌++◌, map, Option, None, IsSome, ◌⊎◌, refl, sym, ap, subst, ◌∙◌, true≢false, inl, inr}
use Rattle.std.specs.Option.{IfSome}
use Rattle.branch_terms.specs.Forest.{branch, slots_in}
use Rattle.schedule_trie.specs.Trie.{TrieOf, SegmentOf, KeyedBranch, segment_at, slots_of, note_of, line, forest, branches_on, keys_in, has, has_cell, SharesAbove, IsSegment, IsSoundTrie, AreGone, KeepsAllNotes}
use Rattle.schedule_trie.proofs.lists.NoRepeats.{has-head, has-tail, has_not_from}
use Rattle.schedule_trie.proofs.branches.Lines.{in_line, slots_in_on}

-- no branch has the segment at this key
abbrev LackedByAll : List KeyedBranch → ℕ → Type 0
LackedByAll branches key = (i : ℕ) → has key (keys_in branches i) ≡ false

-- the segments of branches are unchanged, and those that no branch has are gone
pub record KeepsOnlyUsed {X : Type 0} (old new : ℕ → Option X) (branches : List KeyedBranch) : Type 0 where
  pub kept : (i k : ℕ) → has k (keys_in branches i) ≡ true → new k ≡ old k
  pub gone : (k : ℕ) → LackedByAll branches k → new k ≡ None

-- a correct trie, except that segments may be on no branch
pub record IsSoundWithUnused {T : Type 0} (at : ℕ → Option (SegmentOf T)) (branches : List KeyedBranch) (made : ℕ) : Type 0 where
  pub held : (i k : ℕ) → has k (keys_in branches i) ≡ true → IsSome (at k)
  pub segments : (k : ℕ) → IfSome (at k) (IsSegment made)
  pub apart : (j k x : ℕ) → has_cell x (slots_of (at j)) ≡ true → has_cell x (slots_of (at k)) ≡ true → j ≡ k
  pub shares : SharesAbove branches

held_or_lacked : (branches : List KeyedBranch) (k : ℕ) → ((i : ℕ) × (has k (keys_in branches i) ≡ true)) ⊎ LackedByAll branches k
held_or_lacked [] k = inr (λ i. refl)
held_or_lacked (s ∷ ss) k = by (has k s.keys) refl (held_or_lacked ss k)
  where
    all : has k s.keys ≡ false → LackedByAll ss k → LackedByAll (s ∷ ss) k
    all e lacked zero = e
    all e lacked (suc i) = lacked i

    by : (b : Bool) → has k s.keys ≡ b → ((i : ℕ) × (has k (keys_in ss i) ≡ true)) ⊎ LackedByAll ss k
        → ((i : ℕ) × (has k (keys_in (s ∷ ss) i) ≡ true)) ⊎ LackedByAll (s ∷ ss) k
    by true e rest = inl (0, e)
    by false e (inl p) = inl (suc p.0, p.1)
    by false e (inr lacked) = inr (all e lacked)

pub line_alike : {T : Type 0} (old new : ℕ → Option (SegmentOf T)) (ks : List ℕ) → ((k : ℕ) → has k ks ≡ true → new k ≡ old k) → line new ks ≡ line old ks
line_alike old new [] h = refl
line_alike old new (k ∷ ks) h = λ i. slots_of (h k (has-head k ks) i) ++ line_alike old new ks (λ j g. h j (has-tail j k ks g)) i

pub branches_alike : {T : Type 0} (old new : ℕ → Option (SegmentOf T)) (branches : List KeyedBranch) → ((i k : ℕ) → has k (keys_in branches i) ≡ true → new k ≡ old k)
    → branches_on new branches ≡ branches_on old branches
branches_alike old new [] h = refl
branches_alike old new (s ∷ ss) h =
    λ i. branch s.name (line_alike old new s.keys (h 0) i) ∷ branches_alike old new ss (λ j. h (suc j)) i

module _ {T : Type 0} (old new : ℕ → Option (SegmentOf T)) (branches : List KeyedBranch) (released : KeepsOnlyUsed old new branches) where
  stays_or_goes : (k : ℕ) → (new k ≡ old k) ⊎ (new k ≡ None)
  stays_or_goes k = elim (held_or_lacked branches k) [ inl p ↦ inl (released.kept p.0 k p.1) | inr lacked ↦ inr (released.gone k lacked) ]

  was_in : (k x : ℕ) → has_cell x (slots_of (new k)) ≡ true → has_cell x (slots_of (old k)) ≡ true
  was_in k x h = elim (stays_or_goes k) [
    | inl e ↦ subst (λ o. has_cell x (slots_of o) ≡ true) e h
    | inr e ↦ absurd (true≢false (sym (subst (λ o. has_cell x (slots_of o) ≡ true) e h)))
  ]

  module _ (made : ℕ) (sound : IsSoundWithUnused old branches made) where
    live : (k : ℕ) → IsSome (new k) → (i : ℕ) × (has k (keys_in branches i) ≡ true)
    live k h = elim (held_or_lacked branches k) [ inl p ↦ p | inr lacked ↦ absurd (true≢false (sym (subst IsSome (released.gone k lacked) h))) ]

    segments : (k : ℕ) → IfSome (new k) (IsSegment made)
    segments k = elim (stays_or_goes k) [
      | inl e ↦ subst (λ o. IfSome o (IsSegment made)) (sym e) (sound.segments k)
      | inr e ↦ subst (λ o. IfSome o (IsSegment made)) (sym e) tt
    ]

    pub released_sound : IsSoundTrie new branches made
    released_sound = record {
      held = λ i k h. subst IsSome (sym (released.kept i k h)) (sound.held i k h);
      segments = segments;
      apart = λ j k x a b. sound.apart j k x (was_in j x a) (was_in k x b);
      live = live;
      shares = sound.shares;
    }

  pub released_branches : branches_on new branches ≡ branches_on old branches
  released_branches = branches_alike old new branches released.kept

-- a release keeps all notes, also if segments without notes (in `mid`) were added before it
module _ {T : Type 0} (c d : TrieOf T) (mid : ℕ → Option (SegmentOf T))
    (apart : (j k x : ℕ) → has_cell x (slots_of (mid j)) ≡ true → has_cell x (slots_of (mid k)) ≡ true → j ≡ k)
    (released : KeepsOnlyUsed mid (segment_at d.segments) d.branches) (kept : (k : ℕ) → IsSome (segment_at c.segments k) → mid k ≡ segment_at c.segments k)
    (fresh : (k : ℕ) → segment_at c.segments k ≡ None → note_of (mid k) ≡ None) where
  gone : (k : ℕ) → mid k ≡ segment_at c.segments k → segment_at d.segments k ≡ None → AreGone d (slots_of (segment_at c.segments k))
  gone k same none i x h = has_not_from x (map (λ s. s.cell) (slots_in (forest d).branches i)) (λ g.
      let p = in_line (segment_at d.segments) x (keys_in d.branches i) (subst (λ l. has_cell x l ≡ true) (slots_in_on (segment_at d.segments) d.branches i) g) in
      let one : p.0 ≡ k = apart p.0 k x (was_in mid (segment_at d.segments) d.branches released p.0 x p.2) (subst (λ o. has_cell x (slots_of o) ≡ true) (sym same) h) in
      true≢false (sym (subst (λ o. has_cell x (slots_of o) ≡ true) (ap (segment_at d.segments) one ∙ none) p.2)))

  pub released_notes : KeepsAllNotes c d
  released_notes = (
    record {
      touched = None;
      kept = λ k ne h. elim (stays_or_goes mid (segment_at d.segments) d.branches released k) [
        | inl e ↦ inl (e ∙ kept k h)
        | inr e ↦ inr (e, gone k (kept k h) e)
      ];
      cleared = λ k e. absurd (cc);
      fresh = λ k h. elim (stays_or_goes mid (segment_at d.segments) d.branches released k) [
        | inl e ↦ ap note_of e ∙ fresh k h
        | inr e ↦ ap note_of e
      ];
    },
    refl,
  )
