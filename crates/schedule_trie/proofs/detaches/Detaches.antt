-- Detaching a branch, in terms of the fields.
use Rattle.std.proofs.Common.{◌≡◌, ℕ, ◌+◌, ◌<◌, ◌≤◌, Bool, true, false, cond, List, [], ◌∷◌, ◌++◌, length, map, get_or, Option, Some, None, refl, sym, ap, subst, ◌∙◌}
use Rattle.std.proofs.lemmas.List.{length-set, get_or-set_same}
use Rattle.lineage.specs.Family.{item_at, path_in, IsOnPath, IsExchanged, IsFamily}
use Rattle.lineage.proofs.Maps.{map_on}
use Rattle.lineage.proofs.KeyLists.{IsOnPath-from_has}
use Rattle.schedule_trie.specs.declared.segment.Segment.{Segment}
use Rattle.schedule_trie.specs.declared.trie.Trie.TheInside.{Inside}
use Rattle.branch_terms.specs.Forest.{slots_in}
use Rattle.schedule_trie.specs.Trie.{SegmentOf, segment_at, forest, line, keys_in, set_keys, has, Once, IsSoundTrie, branches_on}
use Rattle.schedule_trie.specs.TrieFields.{segment_of, keyed_branches, names_of, trie_of, IsWholeWithPaths}
use Rattle.schedule_trie.specs.changes.Detaches.{AreCopies, IsDetached}
use Rattle.schedule_trie.proofs.lists.NoRepeats.{has_not_from}
use Rattle.schedule_trie.proofs.branches.Lines.{slots_in_on}
use Rattle.schedule_trie.proofs.segments.StepSet.{segment_seen, cut_from_sound}
use Rattle.schedule_trie.proofs.branches.KeyedBranches.{keys_in-keyed_branches, length-keyed_branches, keyed_branches-set, length-set_keys}
use Rattle.schedule_trie.proofs.detaches.Released.{KeepsOnlyUsed, IsSoundWithUnused, released_sound, released_branches, released_notes}
use Rattle.schedule_trie.proofs.detaches.Renumbered.{AreCopied, HaveValues, copied_from}
use Rattle.schedule_trie.proofs.detaches.NewSegments.{old_kept, new_notes, new_apart, sound_with_new, only_renumbered}
use Rattle.branch_terms.specs.declared.limits.TheConstants.{MOST_CELLS_MADE}

-- a list has no key twice if for each key only one list of keys can be before it
once_from : (keys : List ℕ) → ((k : ℕ) (front back front2 back2 : List ℕ) → keys ≡ front ++ k ∷ back → keys ≡ front2 ++ k ∷ back2 → front ≡ front2) → Once keys
once_from [] h = tt
once_from (x ∷ xs) h = (
  has_not_from x xs (λ g.
      let s : IsOnPath xs x = IsOnPath-from_has x xs g in
      let no : [] ≡ x ∷ s.front = h x [] xs (x ∷ s.front) s.back refl (ap (λ l. x ∷ l) s.is) in
      cc),
  once_from xs (λ k front back front2 back2 e f.
      let same : x ∷ front ≡ x ∷ front2 = h k (x ∷ front) back (x ∷ front2) back2 (ap (λ l. x ∷ l) e) (ap (λ l. x ∷ l) f) in
      cc),
)

-- if `at` maps a list of keys to these values, each key has the value at the same index
have_values : {X : Type 0} (at : ℕ → Option X) (keys : List ℕ) (xs : List X) → map at keys ≡ map Some xs → HaveValues at keys xs
have_values at [] [] e = tt
have_values at [] (x ∷ xs) e = absurd (cc)
have_values at (k ∷ ks) [] e = absurd (cc)
have_values at (k ∷ ks) (x ∷ xs) e =
    let first : at k ≡ Some x = cc in
    let rest : map at ks ≡ map Some xs = cc in
    (first, have_values at ks xs rest)

module _ {T : Type 0} (t u : Inside T) (index len : ℕ) (copies : List (Segment T)) (held : IsWholeWithPaths t) (inside : index < length (trie_of t).branches)
    (are : AreCopies (segment_at (trie_of t).segments) t.made (keys_in (trie_of t).branches index) copies)
    (exchanged : IsExchanged t.segments u.segments index copies) (family : IsFamily u.segments)
    (names : names_of u ≡ names_of t) (made : u.made ≡ t.made + len) (limits : u.limits ≡ t.limits)
    (size : len ≡ length (slots_in (forest (trie_of t)).branches index)) where
  abbrev fresh_keys : List ℕ
  fresh_keys = exchanged.keys

  abbrev at : ℕ → Option (SegmentOf T)
  at = segment_at (trie_of t).segments

  -- each key's segment, until the old path is released
  abbrev put : ℕ → Option (Segment T)
  put k = cond (has k fresh_keys) (item_at u.segments k) (item_at t.segments k)

  abbrev new : ℕ → Option (SegmentOf T)
  new k = segment_of (put k)

  inside_paths : index < length t.segments.paths
  inside_paths = subst (λ n. index < n) (sym held.paths) (subst (λ n. index < n) (length-keyed_branches (names_of t) t.segments.paths) inside)

  path_here : path_in u.segments index ≡ fresh_keys
  path_here = ap (λ l. get_or l index []) exchanged.paths ∙ get_or-set_same t.segments.paths index fresh_keys [] inside_paths

  once : Once fresh_keys
  once = once_from fresh_keys (λ k front back front2 back2 e f. family.shared index index k front back front2 back2 (path_here ∙ e) (path_here ∙ f))

  put_fresh : (k : ℕ) → has k fresh_keys ≡ true → put k ≡ item_at u.segments k
  put_fresh k h = ap (λ b. cond b (item_at u.segments k) (item_at t.segments k)) h

  put_other : (k : ℕ) → has k fresh_keys ≡ false → put k ≡ item_at t.segments k
  put_other k h = ap (λ b. cond b (item_at u.segments k) (item_at t.segments k)) h

  copied : AreCopied at new t.made (keys_in (trie_of t).branches index) fresh_keys
  copied =
      copied_from at new put t.made (keys_in (trie_of t).branches index) fresh_keys copies (λ j. refl) are
      (have_values put fresh_keys copies (map_on put (item_at u.segments) fresh_keys put_fresh ∙ exchanged.items_are))

  vacant : (k : ℕ) → has k fresh_keys ≡ true → at k ≡ None
  vacant k h = segment_seen t k ∙ ap segment_of (exchanged.fresh k h)

  others : (k : ℕ) → has k fresh_keys ≡ false → new k ≡ at k
  others k h = ap segment_of (put_other k h) ∙ sym (segment_seen t k)

  most : t.made + length (line at (keys_in (trie_of t).branches index)) ≡ t.made + len
  most = ap (λ n. t.made + n) (sym (size ∙ ap length (slots_in_on at (trie_of t).branches index)))

  branches : (trie_of u).branches ≡ set_keys (trie_of t).branches index fresh_keys
  branches = (λ i. keyed_branches (names i) (exchanged.paths i)) ∙ keyed_branches-set (names_of t) t.segments.paths index fresh_keys held.paths

  many : length u.segments.paths ≡ length (names_of u)
  many = ap length exchanged.paths ∙ length-set t.segments.paths index fresh_keys ∙ held.paths ∙ sym (ap length names)

  keys : (i : ℕ) → keys_in (trie_of u).branches i ≡ path_in u.segments i
  keys i = keys_in-keyed_branches (names_of u) u.segments.paths i many

  segments : KeepsOnlyUsed new (segment_at (trie_of u).segments) (trie_of u).branches
  segments = record {
    kept = λ i k h. segment_seen u k ∙ ap segment_of (kept i k (sym (ap (has k) (keys i)) ∙ h) (has k fresh_keys) refl);
    gone = λ k lacked. segment_seen u k ∙ ap segment_of (exchanged.gone k (λ i. sym (ap (has k) (keys i)) ∙ lacked i));
  }
    where
      kept : (i k : ℕ) → has k (path_in u.segments i) ≡ true → (b : Bool) → has k fresh_keys ≡ b → item_at u.segments k ≡ put k
      kept i k h true e = sym (put_fresh k e)
      kept i k h false e = exchanged.kept i k h e ∙ sym (put_other k e)

  before : IsSoundWithUnused new (trie_of u).branches u.made
  before =
      subst (λ n. IsSoundWithUnused new (trie_of u).branches n) (sym made)
      (subst (λ l. IsSoundWithUnused new l (t.made + len)) (sym branches)
      (sound_with_new at new (trie_of t).branches t.made (t.made + len) index fresh_keys held.whole.sound inside copied most vacant once others))

  sound : IsSoundTrie (segment_at (trie_of u).segments) (trie_of u).branches u.made
  sound = released_sound new (segment_at (trie_of u).segments) (trie_of u).branches segments u.made before

  count : length (trie_of u).branches ≡ length (trie_of t).branches
  count = ap length branches ∙ length-set_keys (trie_of t).branches index fresh_keys

  pub detach_held : t.made + len ≤ t.limits.cells → IsWholeWithPaths u
  detach_held room = record {
    whole = record {
      sound = sound;
      within = record {
        cells = subst (λ l. u.made ≤ l.cells) (sym limits) (subst (λ n. n ≤ t.limits.cells) (sym made) room);
        branches_fit = subst (λ l. length (trie_of u).branches ≤ l.branches) (sym limits) (subst (λ n. n ≤ t.limits.branches) (sym count) held.whole.within.branches_fit);
        some = subst (λ n. 0 < n) (sym count) held.whole.within.some;
        most_cells = subst (λ l. l.cells ≤ MOST_CELLS_MADE) (sym limits) held.whole.within.most_cells;
        most_branches = subst (λ l. l.branches ≤ 1024) (sym limits) held.whole.within.most_branches;
      };
    };
    paths = many;
  }

  pub is_detached : IsDetached (trie_of t) (trie_of u) index
  is_detached = record {
    branches = released_branches new (segment_at (trie_of u).segments) (trie_of u).branches segments
        ∙ ap (branches_on new) branches
        ∙ only_renumbered at new (trie_of t).branches t.made (t.made + len) index fresh_keys held.whole.sound inside copied most vacant once others;
    made = made ∙ ap (λ n. t.made + n) size;
    limits = limits;
    notes = released_notes (trie_of t) (trie_of u) new
        (new_apart at new (trie_of t).branches t.made (t.made + len) index fresh_keys held.whole.sound inside copied most vacant once others) segments
        (old_kept at new (trie_of t).branches t.made (t.made + len) index fresh_keys held.whole.sound inside copied most vacant once others)
        (new_notes at new (trie_of t).branches t.made (t.made + len) index fresh_keys held.whole.sound inside copied most vacant once others);
    cut = cut_from_sound (trie_of u) u.made sound;
  }
