-- The notes that an edit keeps.
use Rattle.std.proofs.Common.{◌≡◌, ℕ, Bool, true, false, nat_eq, Option, Some, None, IsSome, ◌⊎◌, inl, inr, refl, sym, ap, subst, ◌∙◌, true≢false, eq-eqb}
use Rattle.std.proofs.lemmas.Bool.{eqb-true}
use Rattle.schedule_trie.specs.Trie.{TrieOf, SegmentOf, segment_at, slots_of, slots_if_some, note_of, KeepsNotes, KeepsNotesBut, KeepsNotesExcept, Nowhere, KeepsUnchanged, HasChanged, IsBlank}

-- whether a number is the touched one
is_touched : (t : Option ℕ) (k : ℕ) → (t ≡ Some k) ⊎ (t ≡ Some k → ⊥)
is_touched None k = inr (λ e. cc)
is_touched (Some j) k = by (nat_eq j k) refl
  where
    by : (b : Bool) → nat_eq j k ≡ b → (◌≡◌ {A = Option ℕ} (Some j) (Some k)) ⊎ (◌≡◌ {A = Option ℕ} (Some j) (Some k) → ⊥)
    by true e = inl (ap Some (eqb-true j k e))
    by false e = inr (λ s. let same : j ≡ k = cc in true≢false (sym (eq-eqb j k same) ∙ e))

-- if `slots_if_some` gives the same for two segments, `slots_of` does; if it gives None, there is
-- no segment
slots_from : {T : Type 0} (o q : Option (SegmentOf T)) → slots_if_some o ≡ slots_if_some q → slots_of o ≡ slots_of q
slots_from None None e = refl
slots_from None (Some q) e = cc
slots_from (Some p) None e = cc
slots_from (Some p) (Some q) e = cc

none_from_slots_by : {T : Type 0} (o : Option (SegmentOf T)) → slots_if_some o ≡ None → o ≡ None
none_from_slots_by None e = refl
none_from_slots_by (Some p) e = cc

-- if the touched segment has other cells than before, each with unchanged cells keeps its note
pub unchanged_kept : {T : Type 0} (old new : TrieOf T) (notes : KeepsNotes old new) → ((k : ℕ) → notes.touched ≡ Some k → HasChanged old new k)
    → KeepsUnchanged old new
unchanged_kept {T} old new notes changed k same = by (segment_at old.segments k) refl
  where
    by : (o : Option (SegmentOf T)) → segment_at old.segments k ≡ o → segment_at new.segments k ≡ segment_at old.segments k
    by None e = none_from_slots_by (segment_at new.segments k) (same ∙ ap slots_if_some e) ∙ sym e
    by (Some p) e = elim (is_touched notes.touched k) [
      | inl touched ↦ absurd (changed k touched (slots_from (segment_at new.segments k) (segment_at old.segments k) same))
      | inr other ↦ elim (notes.kept k other (subst IsSome (sym e) refl)) [
        | inl kept ↦ kept
        | inr gone ↦
            let none : slots_if_some (Some p) ≡ None = ap slots_if_some (sym e) ∙ sym same ∙ ap slots_if_some gone.0 in
            absurd (cc)
      ]
    ]

-- if each segment without a note has a property, and before an edit all segments have it, then
-- after the edit all have it too
module _ {T : Type 0} (Q : Option (SegmentOf T) → Type 0) (unnoted : (o : Option (SegmentOf T)) → note_of o ≡ None → Q o) where
  pub notes_kept : (old new : TrieOf T) → KeepsNotes old new → ((k : ℕ) → Q (segment_at old.segments k)) → (k : ℕ) → Q (segment_at new.segments k)
  notes_kept old new notes each k = by (segment_at old.segments k) refl
    where
      by : (o : Option (SegmentOf T)) → segment_at old.segments k ≡ o → Q (segment_at new.segments k)
      by None e = unnoted (segment_at new.segments k) (notes.fresh k e)
      by (Some p) e = elim (is_touched notes.touched k) [
        | inl touched ↦ unnoted (segment_at new.segments k) (notes.cleared k touched)
        | inr other ↦ elim (notes.kept k other (subst IsSome (sym e) refl)) [
          | inl same ↦ subst Q (sym same) (each k)
          | inr gone ↦ unnoted (segment_at new.segments k) (ap note_of gone.0)
        ]
      ]

pub blank_kept : {T : Type 0} (old new : TrieOf T) → KeepsNotes old new → IsBlank old → IsBlank new
blank_kept old new notes blank = notes_kept (λ o. note_of o ≡ None) (λ o e. e) old new notes blank

-- each segment but the one at `key` is unchanged
module _ {T : Type 0} (c d : TrieOf T) (key : ℕ) (others : (j : ℕ) → (j ≡ key → ⊥) → segment_at d.segments j ≡ segment_at c.segments j) (clear : note_of (segment_at d.segments key) ≡ None) where
  unnoted_still : (k : ℕ) → segment_at c.segments k ≡ None → note_of (segment_at d.segments k) ≡ None
  unnoted_still k h = by (nat_eq k key) refl
    where
      by : (b : Bool) → nat_eq k key ≡ b → note_of (segment_at d.segments k) ≡ None
      by true e = subst (λ j. note_of (segment_at d.segments j) ≡ None) (sym (eqb-true k key e)) clear
      by false e = ap note_of (others k (λ f. true≢false (sym (eq-eqb k key f) ∙ e)) ∙ h)

  -- the segment at `key` is touched
  pub notes_at : KeepsNotesExcept c d (λ k. k ≡ key)
  notes_at = record {
    notes = record {
      touched = Some key;
      kept = λ k ne h. inl (others k (λ e. ne (ap Some (sym e))));
      cleared = λ k e. let same : k ≡ key = cc in subst (λ j. note_of (segment_at d.segments j) ≡ None) (sym same) clear;
      fresh = unnoted_still;
    };
    each = λ k e. ap Some (sym e);
    only = λ k e. cc;
  }

  -- the segment at `key` is new
  pub notes_with_new : (May : ℕ → Type 0) → segment_at c.segments key ≡ None → KeepsNotesBut c d Nowhere May
  notes_with_new May vacant = record {
    notes = record {
      touched = None;
      kept = λ k ne h. inl (others k (λ e. true≢false (sym (subst IsSome (ap (segment_at c.segments) e ∙ vacant) h))));
      cleared = λ k e. absurd (cc);
      fresh = unnoted_still;
    };
    each = λ k h. absurd h;
    only = λ k e. absurd (cc);
  }

-- `KeepsNotesBut` holds if just `key` is touched, `Must` holds of no other key, and `May` of `key`
pub notes_but : {T : Type 0} (c d : TrieOf T) (key : ℕ) (Must May : ℕ → Type 0) → KeepsNotesExcept c d (λ k. k ≡ key) → ((k : ℕ) → Must k → k ≡ key) → May key
    → KeepsNotesBut c d Must May
notes_but c d key Must May n must may =
    record { notes = n.notes; each = λ k h. n.each k (must k h); only = λ k e. subst May (sym (n.only k e)) may }
