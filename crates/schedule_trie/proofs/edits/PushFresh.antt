-- A push as a new segment, in terms of the fields.
use Rattle.std.proofs.Common.{◌≡◌, ℕ, ◌+◌, ◌<◌, Bool, true, false, ◌||◌, nat_eq, cond, List, [], ◌∷◌, ◌++◌, length, set, Option, Some, None, IsSome, refl, sym, ap, subst, ◌∙◌, true≢false, arith, eq-eqb, append-nil}
use Rattle.std.proofs.lemmas.Bool.{eqb-true, eqb-false}
use Rattle.std.proofs.lemmas.List.{length-set}
use Rattle.lineage.specs.Family.{path_in, last_from, IsAdded}
use Rattle.schedule_steps.specs.declared.types.Step.{Step}
use Rattle.schedule_trie.specs.declared.segment.Segment.{Segment}
use Rattle.schedule_trie.specs.declared.trie.Trie.TheInside.{Inside}
use Rattle.branch_terms.specs.Forest.{slot}
use Rattle.schedule_trie.specs.Trie.{segment, segment_at, slots_of, note_of, line, keys_in, set_keys, has, Linked, SharesAbove, IsExtendedEnd, IsPushed}
use Rattle.schedule_trie.specs.TrieFields.{segment_of, keyed_branches, names_of, trie_of, IsWholeWithPaths}
use Rattle.schedule_trie.proofs.lists.NoRepeats.{has_not_from}
use Rattle.schedule_trie.proofs.segments.Changes.{Changes}
use Rattle.schedule_trie.proofs.segments.Notes.{notes_with_new}
use Rattle.schedule_trie.proofs.edits.PushedWhole.{whole_pushed, is_pushed}
use Rattle.schedule_trie.proofs.edits.PushSteps.{has_before_last}
use Rattle.schedule_trie.proofs.segments.StepSet.{segment_seen}
use Rattle.schedule_trie.proofs.branches.KeyedBranches.{keyed_branches-set, keys_in-keyed_branches, keys_in-set_other, keys_in-set_same}

-- the key right above each key, as `above` gives it, but for `key` it is `up`
abbrev above_with : (ℕ → Option ℕ) → ℕ → Option ℕ → ℕ → Option ℕ
above_with above key up j = cond (nat_eq key j) up (above j)

linked_other : (above : ℕ → Option ℕ) (key : ℕ) (v up : Option ℕ) (ks : List ℕ) → has key ks ≡ false → Linked above up ks → Linked (above_with above key v) up ks
linked_other above key v up [] h l = tt
linked_other above key v up (k ∷ ks) h l = by (nat_eq key k) refl (linked_other above key v (Some k) ks)
  where
    by : (b : Bool) → nat_eq key k ≡ b → (has key ks ≡ false → Linked above (Some k) ks → Linked (above_with above key v) (Some k) ks)
        → Linked (above_with above key v) up (k ∷ ks)
    by true e rest = absurd (true≢false (sym (ap (λ c. c || has key ks) e) ∙ h))
    by false e rest = (ap (λ b. cond b v (above k)) e ∙ l.0, rest (sym (ap (λ c. c || has key ks) e) ∙ h) l.1)

linked_last : (above : ℕ → Option ℕ) (key : ℕ) (v up : Option ℕ) (ks : List ℕ) → v ≡ last_from up ks → has key ks ≡ false → Linked above up ks
    → Linked (above_with above key v) up (ks ++ key ∷ [])
linked_last above key v up [] e h l = (ap (λ b. cond b v (above key)) (eq-eqb key key refl) ∙ e, tt)
linked_last above key v up (k ∷ ks) e h l = by (nat_eq key k) refl (linked_last above key v (Some k) ks e)
  where
    by : (b : Bool) → nat_eq key k ≡ b → (has key ks ≡ false → Linked above (Some k) ks → Linked (above_with above key v) (Some k) (ks ++ key ∷ []))
        → Linked (above_with above key v) up (k ∷ (ks ++ key ∷ []))
    by true f rest = absurd (true≢false (sym (ap (λ c. c || has key ks) f) ∙ h))
    by false f rest = (ap (λ b. cond b v (above k)) f ∙ l.0, rest (sym (ap (λ c. c || has key ks) f) ∙ h) l.1)

-- a push as a new segment
module _ {T : Type 0} (t after : Inside T) (index key : ℕ) (s : Segment T) (step : Step) (held : IsWholeWithPaths t) (index_in : index < length (trie_of t).branches)
    (room : t.made < t.limits.cells) (added : IsAdded t.segments after.segments key s)
    (paths : after.segments.paths ≡ set t.segments.paths index (path_in t.segments index ++ key ∷ [])) (names : names_of after ≡ names_of t)
    (made : after.made ≡ t.made + 1) (limits : after.limits ≡ t.limits) (one : s.slots.items ≡ slot t.made step ∷ []) (note : s.note ≡ None) where
  none : segment_at (trie_of t).segments key ≡ None
  none = segment_seen t key ∙ ap segment_of added.was_vacant

  change : Changes (segment_at (trie_of t).segments) (segment_at (trie_of after).segments) key (segment s.slots.items s.note)
  change = record {
    here = segment_seen after key ∙ ap segment_of added.here;
    others = λ j ne. segment_seen after j ∙ ap segment_of (added.others j ne) ∙ sym (segment_seen t j);
  }

  lacked : (j : ℕ) → has key (keys_in (trie_of t).branches j) ≡ false
  lacked j = has_not_from key (keys_in (trie_of t).branches j) (λ h. true≢false (sym (subst IsSome none (held.whole.sound.held j key h))))

  slots : s.slots.items ≡ slots_of (segment_at (trie_of t).segments key) ++ slot t.made step ∷ []
  slots = one ∙ sym (ap (λ o. slots_of o ++ slot t.made step ∷ []) none)

  branches : (trie_of after).branches ≡ set_keys (trie_of t).branches index (keys_in (trie_of t).branches index ++ key ∷ [])
  branches =
      (λ i. keyed_branches (names i) (paths i))
      ∙ keyed_branches-set (names_of t) t.segments.paths index (path_in t.segments index ++ key ∷ []) held.paths
      ∙ ap (λ l. set_keys (trie_of t).branches index (l ++ key ∷ [])) (sym (keys_in-keyed_branches (names_of t) t.segments.paths index held.paths))

  was : line (segment_at (trie_of t).segments) (keys_in (trie_of t).branches index)
      ≡ line (segment_at (trie_of t).segments) (keys_in (trie_of t).branches index) ++ slots_of (segment_at (trie_of t).segments key)
  was = sym (ap (λ o. line (segment_at (trie_of t).segments) (keys_in (trie_of t).branches index) ++ slots_of o) none ∙ append-nil (line (segment_at (trie_of t).segments) (keys_in (trie_of t).branches index)))

  shares : SharesAbove (trie_of after).branches
  shares = record { above = above_with held.whole.sound.shares.above key (last_from None (keys_in (trie_of t).branches index)); linked = λ i. linked_at i (nat_eq i index) refl }
    where
      linked_at : (i : ℕ) (b : Bool) → nat_eq i index ≡ b
          → Linked (above_with held.whole.sound.shares.above key (last_from None (keys_in (trie_of t).branches index))) None (keys_in (trie_of after).branches i)
      linked_at i true e =
          subst (Linked (above_with held.whole.sound.shares.above key (last_from None (keys_in (trie_of t).branches index))) None)
          (sym (ap (keys_in (trie_of after).branches) (eqb-true i index e) ∙ ap (λ l. keys_in l index) branches
          ∙ keys_in-set_same (trie_of t).branches index (keys_in (trie_of t).branches index ++ key ∷ []) index_in))
          (linked_last held.whole.sound.shares.above key (last_from None (keys_in (trie_of t).branches index)) None (keys_in (trie_of t).branches index) refl (lacked index) (held.whole.sound.shares.linked index))
      linked_at i false e =
          subst (Linked (above_with held.whole.sound.shares.above key (last_from None (keys_in (trie_of t).branches index))) None)
          (sym (ap (λ l. keys_in l i) branches
          ∙ keys_in-set_other (trie_of t).branches index i (keys_in (trie_of t).branches index ++ key ∷ []) (eqb-false i index e)))
          (linked_other held.whole.sound.shares.above key (last_from None (keys_in (trie_of t).branches index)) None (keys_in (trie_of t).branches i) (lacked i) (held.whole.sound.shares.linked i))

  few : length (slots_of (segment_at (trie_of t).segments key)) < 128
  few = subst (λ o. length (slots_of o) < 128) (sym none) (omega arith)

  many : length after.segments.paths ≡ length (names_of after)
  many = ap length paths ∙ length-set t.segments.paths index (path_in t.segments index ++ key ∷ []) ∙ held.paths ∙ sym (ap length names)

  pub push_segment_held : IsWholeWithPaths after
  push_segment_held = record {
    whole = whole_pushed (trie_of t) (trie_of after) index key step (keys_in (trie_of t).branches index) (segment s.slots.items s.note) held.whole room change note slots few made limits branches index_in was
        (λ k h. has_before_last k key (keys_in (trie_of t).branches index) h) (λ k h. h) (lacked index) (λ j ne. lacked j) shares;
    paths = many;
  }

  pub push_segment_pushed : IsPushed (trie_of t) (trie_of after) index step
  push_segment_pushed = is_pushed (trie_of t) (trie_of after) index key step (keys_in (trie_of t).branches index) (segment s.slots.items s.note) held.whole room change note slots few made limits branches index_in was
      (λ k h. has_before_last k key (keys_in (trie_of t).branches index) h) (λ k h. h) (lacked index) (λ j ne. lacked j) shares
      (notes_with_new (trie_of t) (trie_of after) key change.others (ap note_of change.here ∙ note) (IsExtendedEnd (trie_of t) (trie_of after) index step) none)
