-- A new cell at the end of a branch.
use Rattle.std.proofs.Common.{◌≡◌, ℕ, zero, suc, ◌+◌, ◌<◌, ◌≤◌, Bool, true, false, ◌||◌, nat_eq, List, [], ◌∷◌, ◌++◌, length, map, Option, ◌⊎◌, refl, sym, ap, subst, ◌∙◌, true≢false, arith, append_assoc, append-nil, inl, inr}
use Rattle.std.specs.Option.{IfSome}
use Rattle.std.proofs.lemmas.Bool.{eqb-true, eqb-false}
use Rattle.branch_terms.specs.declared.slot.Slot.{Slot}
use Rattle.branch_terms.specs.Forest.{branch, cell_of, only_in, put_last}
use Rattle.schedule_trie.specs.Trie.{SegmentOf, KeyedBranch, slots_of, line, branches_on, keys_in, set_keys, has, has_cell, Once, IsSegment, IsSoundTrie, LackedByOthers}
use Rattle.schedule_trie.proofs.branches.Lines.{given_at, IsSegment-weaker}
use Rattle.schedule_trie.proofs.segments.Changes.{Changes}

module _ {T : Type 0} where
  pub line-append : (at : ℕ → Option (SegmentOf T)) (a b : List ℕ) → line at (a ++ b) ≡ line at a ++ line at b
  line-append at [] b = refl
  line-append at (k ∷ a) b = ap (λ l. slots_of (at k) ++ l) (line-append at a b) ∙ sym (append_assoc (slots_of (at k)) (line at a) (line at b))

module _ {T : Type 0} (old new : ℕ → Option (SegmentOf T)) (key : ℕ) (q : SegmentOf T) (change : Changes old new key q) where
  -- a line without the segment is unchanged
  pub line_kept : (ks : List ℕ) → has key ks ≡ false → line new ks ≡ line old ks
  line_kept [] h = refl
  line_kept (k ∷ ks) h = by (nat_eq key k) refl (line_kept ks)
    where
      by : (b : Bool) → nat_eq key k ≡ b → (has key ks ≡ false → line new ks ≡ line old ks) → line new (k ∷ ks) ≡ line old (k ∷ ks)
      by true e rest = absurd (true≢false (sym (ap (λ c. c || has key ks) e) ∙ h))
      by false e rest =
          ap (λ o. slots_of o ++ line new ks) (change.others k (λ f. eqb-false key k e (sym f)))
          ∙ ap (λ l. slots_of (old k) ++ l) (rest (sym (ap (λ c. c || has key ks) e) ∙ h))

  pub line_pushed : (front : List ℕ) (s : Slot) → has key front ≡ false → q.slots ≡ slots_of (old key) ++ s ∷ []
      → line new (front ++ key ∷ []) ≡ put_last s (line old front ++ slots_of (old key))
  line_pushed front s h slots =
      line-append new front (key ∷ [])
      ∙ ap (λ l. l ++ (slots_of (new key) ++ [])) (line_kept front h)
      ∙ ap (λ l. line old front ++ l) (append-nil (slots_of (new key)) ∙ ap slots_of change.here ∙ slots)
      ∙ sym (append_assoc (line old front) (slots_of (old key)) (s ∷ []))

  all_kept : (branches : List KeyedBranch) → ((j : ℕ) → has key (keys_in branches j) ≡ false) → branches_on new branches ≡ branches_on old branches
  all_kept [] h = refl
  all_kept (s ∷ ss) h = λ i. branch s.name (line_kept s.keys (h 0) i) ∷ all_kept ss (λ j. h (suc j)) i

  -- the cell is added in the branch at `index` alone
  pub only_pushed : (branches : List KeyedBranch) (index : ℕ) (keys : List ℕ) (s : Slot) → index < length branches → LackedByOthers branches index key
      → line new keys ≡ put_last s (line old (keys_in branches index))
      → branches_on new (set_keys branches index keys) ≡ only_in index (put_last s) (branches_on old branches)
  only_pushed [] index keys s h lacked e = absurd (omega arith)
  only_pushed (t ∷ ts) zero keys s h lacked e =
      λ i. branch t.name (e i) ∷ all_kept ts (λ j. lacked (suc j) (λ f. absurd (omega arith))) i
  only_pushed (t ∷ ts) (suc n) keys s h lacked e =
      λ i. branch t.name (line_kept t.keys (lacked 0 (λ f. absurd (omega arith))) i)
      ∷ only_pushed ts n keys s (omega arith) (λ j ne. lacked (suc j) (λ f. ne (omega arith))) e i

  -- the segment has the cells that it had, and the new cell
  module _ (branches : List KeyedBranch) (made : ℕ) (sound : IsSoundTrie old branches made) (some : 0 < length q.slots) (few : length q.slots ≤ 128)
      (once : Once (map cell_of q.slots))
      (cells : (x : ℕ) → has_cell x q.slots ≡ true → (has_cell x (slots_of (old key)) ≡ true) ⊎ (x ≡ made)) where
    given_old : (k x : ℕ) → has_cell x (slots_of (old k)) ≡ true → x < made
    given_old = given_at old made sound.segments sound.apart

    pub segments_more : (k : ℕ) → IfSome (new k) (IsSegment (made + 1))
    segments_more k = by (nat_eq k key) refl
      where
        at_key : IsSegment (made + 1) q
        at_key = record { some = some; few = few; once = once; given = λ x g. elim (cells x g) [ inl h ↦ let l : x < made = given_old key x h in omega arith | inr e ↦ omega arith ] }

        by : (b : Bool) → nat_eq k key ≡ b → IfSome (new k) (IsSegment (made + 1))
        by true e = subst (λ j. IfSome (new j) (IsSegment (made + 1))) (sym (eqb-true k key e)) (subst (λ o. IfSome o (IsSegment (made + 1))) (sym change.here) at_key)
        by false e = subst (λ o. IfSome o (IsSegment (made + 1))) (sym (change.others k (eqb-false k key e))) (IsSegment-weaker made (made + 1) (omega arith) (old k) (sound.segments k))

    in_other : (k x : ℕ) → (k ≡ key → ⊥) → has_cell x (slots_of (new k)) ≡ true → has_cell x (slots_of (old k)) ≡ true
    in_other k x ne h = subst (λ o. has_cell x (slots_of o) ≡ true) (change.others k ne) h

    in_key : (x : ℕ) → has_cell x (slots_of (new key)) ≡ true → has_cell x q.slots ≡ true
    in_key x h = subst (λ o. has_cell x (slots_of o) ≡ true) change.here h

    key_apart : (k x : ℕ) → (k ≡ key → ⊥) → has_cell x (slots_of (new key)) ≡ true → has_cell x (slots_of (new k)) ≡ true → ⊥
    key_apart k x ne a b =
        elim (cells x (in_key x a)) [
          | inl h ↦ ne (sound.apart k key x (in_other k x ne b) h)
          | inr e ↦ let l : x < made = given_old k x (in_other k x ne b) in omega arith
        ]

    pub apart_more : (j k x : ℕ) → has_cell x (slots_of (new j)) ≡ true → has_cell x (slots_of (new k)) ≡ true → j ≡ k
    apart_more j k x a b = by (nat_eq j key) (nat_eq k key) refl refl
      where
        by : (c d : Bool) → nat_eq j key ≡ c → nat_eq k key ≡ d → j ≡ k
        by true true e f = eqb-true j key e ∙ sym (eqb-true k key f)
        by true false e f = absurd (key_apart k x (eqb-false k key f) (subst (λ z. has_cell x (slots_of (new z)) ≡ true) (eqb-true j key e) a) b)
        by false true e f = absurd (key_apart j x (eqb-false j key e) (subst (λ z. has_cell x (slots_of (new z)) ≡ true) (eqb-true k key f) b) a)
        by false false e f = sound.apart j k x (in_other j x (eqb-false j key e) a) (in_other k x (eqb-false k key f) b)
