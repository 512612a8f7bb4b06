-- A push, in terms of the fields.
use Rattle.std.proofs.Common.{◌≡◌, ℕ, ◌+◌, ◌<◌, true, false, ◌||◌, List, [], ◌∷◌, ◌++◌, length, Some, None, IsSome, refl, sym, ap, subst, ◌∙◌, append-nil}
use Rattle.lineage.specs.Family.{item_at, with_item, path_in, last_of, EndsAlone}
use Rattle.schedule_steps.specs.declared.types.Step.{Step}
use Rattle.schedule_trie.specs.declared.segment.Segment.{Segment}
use Rattle.schedule_trie.specs.declared.trie.Trie.TheInside.{Inside}
use Rattle.branch_terms.specs.Forest.{slot}
use Rattle.schedule_trie.specs.Trie.{segment, segment_at, slots_of, note_of, line, keys_in, set_keys, has, Once, IsOwnEnd, IsExtendedEnd, Nowhere, IsPushed}
use Rattle.schedule_trie.specs.TrieFields.{segment_of, trie_of, IsWholeWithPaths}
use Rattle.schedule_trie.proofs.lists.NoRepeats.{has-append, Once-from_linked, has-in, once_before}
use Rattle.schedule_trie.proofs.segments.Changes.{Changes, segment_at_set}
use Rattle.schedule_trie.proofs.lists.LastKeys.{last_of-parts}
use Rattle.schedule_trie.proofs.branches.Lines.{keys_are}
use Rattle.schedule_trie.proofs.segments.StepSet.{segment_seen, key_within, item_there, equal_item_seen}
use Rattle.schedule_trie.proofs.segments.Notes.{notes_at, notes_but}
use Rattle.schedule_trie.proofs.edits.Pushes.{line-append}
use Rattle.schedule_trie.proofs.segments.TouchedSegments.{some_slots}
use Rattle.schedule_trie.proofs.edits.PushedWhole.{whole_pushed, is_pushed}
use Rattle.schedule_trie.proofs.branches.KeyedBranches.{set_keys-same}

pub has_before_last : (k key : ℕ) (front : List ℕ) → has k front ≡ true → has k (front ++ key ∷ []) ≡ true
has_before_last k key front h = has-append k front (key ∷ []) ∙ ap (λ b. b || has k (key ∷ [])) h

-- a push in the last segment of a branch
module _ {T : Type 0} (t : Inside T) (index key : ℕ) (held : IsWholeWithPaths t) (end : IsOwnEnd (trie_of t) index key) where
  pub own_there : IsSome (item_at t.segments key)
  own_there =
      item_there t key (held.whole.sound.held index key (subst (λ l. has key l ≡ true) (sym end.last) (has-in key end.front [])))

  module _ (v w : Segment T) (there : item_at t.segments key ≡ Some v) where
    seen : segment_at (trie_of t).segments key ≡ Some (segment v.slots.items v.note)
    seen = segment_seen t key ∙ ap segment_of there

    -- a push that fails leaves an equal segment, so the trie is unchanged
    pub failed_push_seen : w.slots.items ≡ v.slots.items → w.note ≡ v.note → trie_of (record t { segments = with_item t.segments key w }) ≡ trie_of t
    failed_push_seen items note = equal_item_seen t key v w there items note

    module _ (step : Step) (index_in : index < length (trie_of t).branches) (room : t.made < t.limits.cells)
        (items : w.slots.items ≡ v.slots.items ++ slot t.made step ∷ []) (note : w.note ≡ None) where
      abbrev after : Inside T
      after = record t { segments = with_item t.segments key w; made = t.made + 1 }

      change : Changes (segment_at (trie_of t).segments) (segment_at (trie_of after).segments) key (segment w.slots.items w.note)
      change = segment_at_set t.segments.items key w (key_within t.segments.items key v there)

      slots : w.slots.items ≡ slots_of (segment_at (trie_of t).segments key) ++ slot t.made step ∷ []
      slots = items ∙ sym (ap (λ o. slots_of o ++ slot t.made step ∷ []) seen)

      branches : (trie_of after).branches ≡ set_keys (trie_of t).branches index (end.front ++ key ∷ [])
      branches = sym (set_keys-same (trie_of t).branches index) ∙ ap (set_keys (trie_of t).branches index) end.last

      was : line (segment_at (trie_of t).segments) (keys_in (trie_of t).branches index) ≡ line (segment_at (trie_of t).segments) end.front ++ slots_of (segment_at (trie_of t).segments key)
      was = ap (line (segment_at (trie_of t).segments)) end.last ∙ line-append (segment_at (trie_of t).segments) end.front (key ∷ [])
          ∙ ap (λ l. line (segment_at (trie_of t).segments) end.front ++ l) (append-nil (slots_of (segment_at (trie_of t).segments key)))

      fresh : has key end.front ≡ false
      fresh = once_before end.front key [] (subst Once end.last (Once-from_linked held.whole.sound.shares.above (keys_in (trie_of t).branches index) (held.whole.sound.shares.linked index)))

      kept : (k : ℕ) → has k (keys_in (trie_of t).branches index) ≡ true → has k (end.front ++ key ∷ []) ≡ true
      kept k h = subst (λ l. has k l ≡ true) end.last h

      in_front : (k : ℕ) → has k end.front ≡ true → has k (keys_in (trie_of t).branches index) ≡ true
      in_front k h = subst (λ l. has k l ≡ true) (sym end.last) (has_before_last k key end.front h)

      pub push_within_held : IsWholeWithPaths after
      push_within_held = record {
        whole = whole_pushed (trie_of t) (trie_of after) index key step end.front (segment w.slots.items w.note) held.whole room change note slots end.room refl refl branches index_in was kept in_front fresh end.own held.whole.sound.shares;
        paths = held.paths;
      }

      pub push_within_pushed : IsPushed (trie_of t) (trie_of after) index step
      push_within_pushed = is_pushed (trie_of t) (trie_of after) index key step end.front (segment w.slots.items w.note) held.whole room change note slots end.room refl refl branches index_in was kept in_front fresh end.own held.whole.sound.shares
          (notes_but (trie_of t) (trie_of after) key Nowhere (IsExtendedEnd (trie_of t) (trie_of after) index step) (notes_at (trie_of t) (trie_of after) key change.others (ap note_of change.here ∙ note))
          (λ k h. absurd h) (record { front = end.front; last = end.last; some = some_slots t.made (segment_at (trie_of t).segments key) (subst IsSome (sym seen) refl) (held.whole.sound.segments key) }, ap slots_of change.here ∙ slots))

-- a branch's last segment satisfies `IsOwnEnd` if no other branch has it and it isn't full
pub is_own_end : {T : Type 0} (t : Inside T) (index key : ℕ) → IsWholeWithPaths t → last_of (path_in t.segments index) ≡ Some key → EndsAlone t.segments index
    → length (slots_of (segment_at (trie_of t).segments key)) < 128 → IsOwnEnd (trie_of t) index key
is_own_end t index key held last alone few =
    let p = last_of-parts (path_in t.segments index) key last in
    let one : Some alone.key ≡ Some key = sym alone.last ∙ last in
    let same : alone.key ≡ key = cc in
    record {
      front = p.0;
      last = keys_are t held index ∙ p.1;
      own = λ j ne. ap (has key) (keys_are t held j) ∙ subst (λ k. has k (path_in t.segments j) ≡ false) same (alone.own j ne);
      room = few;
    }
