-- Numbers and links of stored runs: after a run is stored, after an edit, and for equal registers.
use Rattle.std.proofs.Common.{◌≡◌, ℕ, ◌+◌, Bool, true, false, nat_eq, List, [], ◌∷◌, ◌++◌, map, Option, Some, None, MatchOption, ◌⊎◌, inl, inr, slice_get, refl, sym, ap, subst, ◌∙◌, eq-eqb, true≢false, ◌<◌, length, arith}
use Rattle.std.specs.Prelude.{⊤}
use Rattle.std.specs.Option.{option_map}
use Rattle.std.specs.Cmp.{IsPartialEquivalence}
use Rattle.std.proofs.lemmas.Bool.{eqb-true}
use Rattle.std.proofs.lemmas.List.{length-append}
use Rattle.frames.specs.declared.types.Step.{Step}
use Rattle.frames.specs.Configuration.{Configuration}
use Rattle.frames.specs.Recorded.{without_register}
use Rattle.schedule_trie.specs.Forest.{step_of}
use Rattle.schedule_trie.specs.Trie.{TrieOf, SegmentOf, segment_at, slots_of, with_note, IsNoted, note_of, KeepsNotes}
use Rattle.schedule_trie.proofs.segments.Notes.{notes_kept}
use Rattle.cutoff.specs.Fitting.{StoredRun, steps_at}
use Rattle.cutoff.specs.Links.{IsExitOf, IsGiven, IsStored, IsStoredIn, IsLinked}
use Rattle.cutoff.proofs.Lists.{slice_get-more}
use Rattle.branch_terms.proofs.Lists.{slice_get-last}

-- a number's exit stays the same if runs get the numbers after those that are given
pub exit_of-more : {P : Type 0} (exits more : List (Configuration ⊤ P)) (number : Option ℕ) (c : Configuration ⊤ P) → IsExitOf exits number c → IsExitOf (exits ++ more) number c
exit_of-more exits more None c h = tt
exit_of-more exits more (Some a) c h = slice_get-more exits more a c h

given-more : {P : Type 0} (exits more : List (Configuration ⊤ P)) (number : Option ℕ) → IsGiven (length exits) number → IsGiven (length (exits ++ more)) number
given-more exits more None g = tt
given-more exits more (Some a) g = let longer = length-append exits more in omega (arith, g, longer)

given-last : {X : Type 0} (xs : List X) (x : X) {next : ℕ} → length xs ≡ next → next < length (xs ++ x ∷ [])
given-last xs x {next} many = let longer = length-append xs (x ∷ []) in omega (arith, many, longer)

module _ {R P : Type 0} (E : R → R → Bool) (h : R) where
  pub stored-more : (exits more : List (Configuration ⊤ P)) (segment : List Step) (s : StoredRun R P) → IsStored E h exits segment s → IsStored E h (exits ++ more) segment s
  stored-more exits more segment s t =
      record {
        own = t.own;
        covers = t.covers;
        id = exit_of-more exits more s.id (without_register s.run.exit) t.id;
        link = exit_of-more exits more s.link (without_register s.run.entry) t.link;
        checked = given-more exits more s.checked t.checked;
      }

  pub stored_in-more : (exits more : List (Configuration ⊤ P)) (o : Option (SegmentOf (StoredRun R P))) → IsStoredIn E h exits o → IsStoredIn E h (exits ++ more) o
  stored_in-more exits more None t = tt
  stored_in-more exits more (Some p) t = by p.note t
    where
      by : (n : Option (StoredRun R P)) → MatchOption n ⊤ (IsStored E h exits (map step_of p.slots)) → MatchOption n ⊤ (IsStored E h (exits ++ more) (map step_of p.slots))
      by None t = tt
      by (Some s) t = stored-more exits more (map step_of p.slots) s t

  stored_in-with_note : (exits : List (Configuration ⊤ P)) (s : StoredRun R P) (o : Option (SegmentOf (StoredRun R P))) → IsStored E h exits (map step_of (slots_of o)) s
      → IsStoredIn E h exits (option_map (with_note (Some s)) o)
  stored_in-with_note exits s None t = tt
  stored_in-with_note exits s (Some p) t = t

  -- if `IsStored` holds of a run that is stored, `IsStoredIn` still holds of each segment
  pub stored_in-noted : (exits : List (Configuration ⊤ P)) (old new : TrieOf (StoredRun R P)) (k : ℕ) (s : StoredRun R P) → ((j : ℕ) → IsStoredIn E h exits (segment_at old.segments j))
      → IsNoted old new k (Some s) → IsStored E h exits (steps_at old k) s → (j : ℕ) → IsStoredIn E h exits (segment_at new.segments j)
  stored_in-noted exits old new k s each noted t j = by (nat_eq j k) refl
    where
      by : (b : Bool) → nat_eq j k ≡ b → IsStoredIn E h exits (segment_at new.segments j)
      by true e =
          let same : j ≡ k = eqb-true j k e in
          subst (λ i. IsStoredIn E h exits (segment_at new.segments i)) (sym same) (subst (IsStoredIn E h exits) (sym noted.here) (stored_in-with_note exits s (segment_at old.segments k) t))
      by false e =
          let other : j ≡ k → ⊥ = λ same. true≢false (sym (eq-eqb j k same) ∙ e) in
          subst (IsStoredIn E h exits) (sym (noted.others j other)) (each j)

  module _ (old new : TrieOf (StoredRun R P)) (k next : ℕ) (above : Option ℕ) (c : Configuration R P) (l : IsLinked E h next above (without_register c) old) (s : StoredRun R P)
      (noted : IsNoted old new k (Some s)) where
    -- a run of which `IsStored` holds is stored; its exit is then the one that is reached
    pub taken_linked : IsStored E h l.exits (steps_at old k) s → IsLinked E h next s.id (without_register s.run.exit) new
    taken_linked t = record { exits = l.exits; as_many = l.as_many; each = stored_in-noted l.exits old new k s l.each noted t; reached_exit = t.id }

    -- a new run is stored, with the next number or none; its exit is then the one that is reached
    pub new_linked : (after : ℕ) → s.checked ≡ s.id → E s.run.entry.register h ≡ true → s.run.steps ≡ steps_at old k → s.link ≡ above → s.run.entry ≡ c
        → ((s.id ≡ None) × (after ≡ next)) ⊎ ((s.id ≡ Some next) × (after ≡ next + 1)) → IsLinked E h after s.id (without_register s.run.exit) new
    new_linked after checked own covers linked entry (inl none) =
        let came : IsExitOf l.exits s.id (without_register s.run.exit) = subst (λ o. IsExitOf l.exits o (without_register s.run.exit)) (sym none.0) tt in
        record {
          exits = l.exits;
          as_many = l.as_many ∙ sym none.1;
          each = stored_in-noted l.exits old new k s l.each noted (record { own = own; covers = covers; id = came; link = link_came linked entry; checked = subst (IsGiven (length l.exits)) (sym (checked ∙ none.0)) tt });
          reached_exit = came;
        }
      where
        link_came : s.link ≡ above → s.run.entry ≡ c → IsExitOf l.exits s.link (without_register s.run.entry)
        link_came e f = subst (λ o. IsExitOf l.exits o (without_register s.run.entry)) (sym e) (subst (λ d. IsExitOf l.exits above (without_register d)) (sym f) l.reached_exit)
    new_linked after checked own covers linked entry (inr given) =
        let last : slice_get (l.exits ++ without_register s.run.exit ∷ []) next ≡ Some (without_register s.run.exit) =
        subst (λ n. slice_get (l.exits ++ without_register s.run.exit ∷ []) n ≡ Some (without_register s.run.exit)) l.as_many (slice_get-last l.exits (without_register s.run.exit)) in
        let came : IsExitOf (l.exits ++ without_register s.run.exit ∷ []) s.id (without_register s.run.exit) = subst (λ o. IsExitOf (l.exits ++ without_register s.run.exit ∷ []) o (without_register s.run.exit)) (sym given.0) last in
        let was : IsExitOf l.exits s.link (without_register s.run.entry) = subst (λ o. IsExitOf l.exits o (without_register s.run.entry)) (sym linked) (subst (λ d. IsExitOf l.exits above (without_register d)) (sym entry) l.reached_exit) in
        record {
          exits = l.exits ++ without_register s.run.exit ∷ [];
          as_many = length-append l.exits (without_register s.run.exit ∷ []) ∙ ap (λ n. n + 1) l.as_many ∙ sym given.1;
          each =
              stored_in-noted (l.exits ++ without_register s.run.exit ∷ []) old new k s (λ j. stored_in-more l.exits (without_register s.run.exit ∷ []) (segment_at old.segments j) (l.each j)) noted
              (record {
                own = own;
                covers = covers;
                id = came;
                link = exit_of-more l.exits (without_register s.run.exit ∷ []) s.link (without_register s.run.entry) was;
                checked = subst (IsGiven (length (l.exits ++ without_register s.run.exit ∷ []))) (sym (checked ∙ given.0)) (given-last l.exits (without_register s.run.exit) l.as_many);
              });
          reached_exit = came;
        }

-- the numbers and links of stored runs agree with the exits, whatever configuration is reached
pub linked_none : {R P : Type 0} (E : R → R → Bool) (h : R) (next : ℕ) (above : Option ℕ) (c d : Configuration ⊤ P) (trie : TrieOf (StoredRun R P))
    → IsLinked E h next above c trie → IsLinked E h next None d trie
linked_none E h next above c d trie l = record { exits = l.exits; as_many = l.as_many; each = l.each; reached_exit = tt }

-- stored runs are linked also for a register equal to h
pub linked_equal : {R P : Type 0} (E : R → R → Bool) → IsPartialEquivalence E → (h g : R) (next : ℕ) (above : Option ℕ) (c : Configuration ⊤ P) (trie : TrieOf (StoredRun R P))
    → E h g ≡ true → IsLinked E h next above c trie → IsLinked E g next above c trie
linked_equal {R} {P} E per h g next above c trie e l = record { exits = l.exits; as_many = l.as_many; each = λ k. still (segment_at trie.segments k) (l.each k); reached_exit = l.reached_exit }
  where
    stored : (segment : List Step) (n : Option (StoredRun R P)) → MatchOption n ⊤ (IsStored E h l.exits segment) → MatchOption n ⊤ (IsStored E g l.exits segment)
    stored segment None t = tt
    stored segment (Some s) t = record { own = per.trans s.run.entry.register h g t.own e; covers = t.covers; id = t.id; link = t.link; checked = t.checked }

    still : (o : Option (SegmentOf (StoredRun R P))) → IsStoredIn E h l.exits o → IsStoredIn E g l.exits o
    still None t = tt
    still (Some p) t = stored (map step_of p.slots) p.note t

-- a segment without a run is as `IsStoredIn` says
module _ {R P : Type 0} (E : R → R → Bool) (h : R) (exits : List (Configuration ⊤ P)) where
  pub stored_in-unnoted : (o : Option (SegmentOf (StoredRun R P))) → note_of o ≡ None → IsStoredIn E h exits o
  stored_in-unnoted None e = tt
  stored_in-unnoted (Some p) e = subst (λ n. MatchOption n ⊤ (IsStored E h exits (map step_of p.slots))) (sym e) tt

-- runs stay linked if segments keep their notes or lose them
pub linked_kept : {R P : Type 0} (E : R → R → Bool) (h : R) (next : ℕ) (above : Option ℕ) (c : Configuration ⊤ P) (old new : TrieOf (StoredRun R P)) → KeepsNotes old new
    → IsLinked E h next above c old → IsLinked E h next above c new
linked_kept E h next above c old new notes l =
    record { exits = l.exits; as_many = l.as_many; each = notes_kept (IsStoredIn E h l.exits) (stored_in-unnoted E h l.exits) old new notes l.each; reached_exit = l.reached_exit }
