-- Dropping a branch.
use Rattle.std.proofs.Common.{◌≡◌, ℕ, zero, suc, ◌<◌, ◌≤◌, true, List, [], ◌∷◌, length, Option, None, refl, sym, ap, subst, ◌∙◌, arith, ◌+◌}
use Rattle.std.proofs.lemmas.List.Edits.{length-remove}
use Rattle.std.specs.List.{remove}
use Rattle.indexmap.proofs.SetLemmas.{map-remove}
use Rattle.lineage.specs.Family.{path_in, IsReleased}
use Rattle.std.specs.Map.{keys_of}
use Rattle.schedule_trie.specs.declared.trie.Trie.TheInside.{Inside}
use Rattle.schedule_trie.specs.Trie.{IsWithin, SegmentOf, KeyedBranch, segment_at, note_of, branch_on, branches_on, keys_in, has, Linked, IsSoundTrie}
use Rattle.schedule_trie.specs.TrieFields.{segment_of, keyed_branches, names_of, trie_of, IsWholeWithPaths}
use Rattle.schedule_trie.specs.changes.Drops.{IsDropped}
use Rattle.schedule_trie.proofs.branches.KeyedBranches.{keys_in-keyed_branches, length-keyed_branches, keyed_branches-remove}
use Rattle.schedule_trie.proofs.segments.StepSet.{segment_seen, cut_from_sound, within_still}
use Rattle.schedule_trie.proofs.detaches.Released.{KeepsOnlyUsed, IsSoundWithUnused, released_sound, released_branches, released_notes}

-- each branch that is left was there before
keys_left : (branches : List KeyedBranch) (index j : ℕ) → (i : ℕ) × (keys_in (remove branches index) j ≡ keys_in branches i)
keys_left [] zero j = (0, refl)
keys_left [] (suc index) j = (0, refl)
keys_left (s ∷ ss) zero j = (suc j, refl)
keys_left (s ∷ ss) (suc index) zero = (0, refl)
keys_left (s ∷ ss) (suc index) (suc j) = let p = keys_left ss index j in (suc p.0, p.1)

module _ {T : Type 0} (at : ℕ → Option (SegmentOf T)) (branches : List KeyedBranch) (made index : ℕ) (sound : IsSoundTrie at branches made) where
  pub left_sound : IsSoundWithUnused at (remove branches index) made
  left_sound = record {
    held = λ j k h. let p = keys_left branches index j in sound.held p.0 k (subst (λ l. has k l ≡ true) p.1 h);
    segments = sound.segments;
    apart = sound.apart;
    shares = record { above = sound.shares.above; linked = λ j. let p = keys_left branches index j in subst (Linked sound.shares.above None) (sym p.1) (sound.shares.linked p.0) };
  }

-- dropping a branch, in terms of the fields
module _ {T : Type 0} (t u : Inside T) (index : ℕ) (held : IsWholeWithPaths t) (inside : index < length (trie_of t).branches) (several : 1 < length (trie_of t).branches)
    (entries : u.branches.entries ≡ remove t.branches.entries index) (paths : u.segments.paths ≡ remove t.segments.paths index)
    (items : IsReleased t.segments u.segments) (made : u.made ≡ t.made) (limits : u.limits ≡ t.limits) where
  names : names_of u ≡ remove (names_of t) index
  names = ap keys_of entries ∙ map-remove (λ e. e.0) t.branches.entries index

  left : (trie_of u).branches ≡ remove (trie_of t).branches index
  left = (λ i. keyed_branches (names i) (paths i)) ∙ keyed_branches-remove (names_of t) t.segments.paths index held.paths

  inside_names : index < length (names_of t)
  inside_names = subst (λ n. index < n) (length-keyed_branches (names_of t) t.segments.paths) inside

  many : length u.segments.paths ≡ length (names_of u)
  many =
      let a : length u.segments.paths + 1 ≡ length t.segments.paths =
      ap (λ l. length l + 1) paths ∙ length-remove t.segments.paths index (subst (λ n. index < n) (sym held.paths) inside_names) in
      let b : length (names_of u) + 1 ≡ length (names_of t) = ap (λ l. length l + 1) names ∙ length-remove (names_of t) index inside_names in
      omega (arith, a, b, held.paths)

  keys : (i : ℕ) → keys_in (trie_of u).branches i ≡ path_in u.segments i
  keys i = keys_in-keyed_branches (names_of u) u.segments.paths i many

  segments : KeepsOnlyUsed (segment_at (trie_of t).segments) (segment_at (trie_of u).segments) (trie_of u).branches
  segments = record {
    kept = λ i k h. segment_seen u k ∙ ap segment_of (items.kept i k (sym (ap (has k) (keys i)) ∙ h)) ∙ sym (segment_seen t k);
    gone = λ k lacked. segment_seen u k ∙ ap segment_of (items.gone k (λ i. sym (ap (has k) (keys i)) ∙ lacked i));
  }

  before : IsSoundWithUnused (segment_at (trie_of t).segments) (trie_of u).branches u.made
  before =
      subst (λ n. IsSoundWithUnused (segment_at (trie_of t).segments) (trie_of u).branches n) (sym made)
      (subst (λ l. IsSoundWithUnused (segment_at (trie_of t).segments) l t.made) (sym left)
      (left_sound (segment_at (trie_of t).segments) (trie_of t).branches t.made index held.whole.sound))

  sound : IsSoundTrie (segment_at (trie_of u).segments) (trie_of u).branches u.made
  sound = released_sound (segment_at (trie_of t).segments) (segment_at (trie_of u).segments) (trie_of u).branches segments u.made before

  count : length (trie_of u).branches + 1 ≡ length (trie_of t).branches
  count = ap (λ l. length l + 1) left ∙ length-remove (trie_of t).branches index inside

  pub drop_held : IsWholeWithPaths u
  drop_held = record {
    whole = record {
      sound = sound;
      within = within_still t.limits u.limits u.made (length (trie_of t).branches) (length (trie_of u).branches) limits (omega (arith, count)) (omega (arith, count))
          (subst (λ n. n ≤ t.limits.cells) (sym made) held.whole.within.cells) (subst (λ n. IsWithin t.limits n (length (trie_of t).branches)) (sym made) held.whole.within);
    };
    paths = many;
  }

  pub is_dropped : IsDropped (trie_of t) (trie_of u) index
  is_dropped = record {
    branches = released_branches (segment_at (trie_of t).segments) (segment_at (trie_of u).segments) (trie_of u).branches segments
        ∙ ap (branches_on (segment_at (trie_of t).segments)) left ∙ map-remove (branch_on (segment_at (trie_of t).segments)) (trie_of t).branches index;
    made = made;
    limits = limits;
    notes = released_notes (trie_of t) (trie_of u) (segment_at (trie_of t).segments) held.whole.sound.apart segments (λ k h. refl) (λ k h. ap note_of h);
    cut = cut_from_sound (trie_of u) u.made sound;
  }
