-- A fork inside a segment, which is cut there.
use Rattle.std.proofs.Common.{◌≡◌, ℕ, suc, ◌+◌, ◌<◌, ◌≤◌, true, false, cond, List, [], ◌∷◌, ◌++◌, length, map, take, drop, get_or, Option, Some, None, refl, sym, ap, subst, ◌∙◌, true≢false, arith, eq-eqb, append_assoc, append-nil, inl}
use Rattle.std.specs.Option.{IfSome}
use Rattle.std.proofs.lemmas.Grind.{flat_map-append}
use Rattle.std.proofs.lemmas.List.{length-append, length-map, length-take-le, take-append-drop, take_more}
use Rattle.std.proofs.Math.Seq.{drop-cons, take-append_seam}
use Rattle.branch_terms.specs.Forest.{Branch, cell_of, everywhere}
use Rattle.schedule_trie.specs.Trie.{TrieOf, SegmentOf, segment_at, slots_of, line, forest, keys_in, has, has_cell, Once, IsSegment, IsWhole, divided_keys, divided_branch, above_key}
use Rattle.schedule_trie.proofs.lists.NoRepeats.{Once-from_linked, once_before}
use Rattle.schedule_trie.proofs.branches.Lines.{once_at}
use Rattle.schedule_trie.proofs.detaches.Released.{line_alike}
use Rattle.schedule_trie.proofs.edits.Pushes.{line-append}
use Rattle.schedule_trie.proofs.segments.Division.{Divides, keys_in-divided, branches-divided, lacked-divided, sound-divided}
use Rattle.lineage.proofs.ForksAbove.{divided-other}
use Rattle.schedule_trie.proofs.forks.Forks.{linked_front, has_from_take}

-- a path, divided at a key
module _ (key new : ℕ) where
  divided-from : (front back : List ℕ) → has key front ≡ false → divided_keys key new (front ++ key ∷ back) ≡ (front ++ new ∷ []) ++ key ∷ divided_keys key new back
  divided-from front back h =
      let here : divided_keys key new (key ∷ back) ≡ new ∷ key ∷ divided_keys key new back =
      ap (λ b. cond b (new ∷ key ∷ []) (key ∷ []) ++ divided_keys key new back) (eq-eqb key key refl) in
      let there : front ++ new ∷ key ∷ divided_keys key new back ≡ (front ++ new ∷ []) ++ key ∷ divided_keys key new back =
      sym (append_assoc front (new ∷ []) (key ∷ divided_keys key new back)) in
      flat_map-append (above_key key new) front (key ∷ back) ∙ (λ i. divided-other key new front h i ++ here i) ∙ there

  -- the keys of a divided path down to the new key: the n keys before `key`, and the new key
  divided-front : (ks : List ℕ) (n : ℕ) → n < length ks → key ≡ get_or ks n 0 → has key (take n ks) ≡ false
      → take (n + 1) (divided_keys key new ks) ≡ take n ks ++ new ∷ []
  divided-front ks n inside at_key lacks =
      let parts : ks ≡ take n ks ++ key ∷ drop (suc n) ks =
      sym (take-append-drop n ks) ∙ ap (λ l. take n ks ++ l) (drop-cons ks n 0 inside ∙ ap (λ k. k ∷ drop (suc n) ks) (sym at_key)) in
      let len : n + 1 ≡ length (take n ks ++ new ∷ []) = sym (length-append (take n ks) (new ∷ []) ∙ ap (λ k. k + 1) (length-take-le n ks (omega arith))) in
      ap (λ l. take (n + 1) (divided_keys key new l)) parts
      ∙ ap (take (n + 1)) (divided-from (take n ks) (drop (suc n) ks) lacks)
      ∙ ap (λ k. take k ((take n ks ++ new ∷ []) ++ key ∷ divided_keys key new (drop (suc n) ks))) len
      ∙ take-append_seam (take n ks ++ new ∷ []) (key ∷ divided_keys key new (drop (suc n) ks))

everywhere-same : (branches : List Branch) → everywhere (λ l. l) branches ≡ branches
everywhere-same [] = refl
everywhere-same (b ∷ bs) = ap (λ l. b ∷ l) (everywhere-same bs)

module _ {T : Type 0} where
  few_slots : (made : ℕ) (o : Option (SegmentOf T)) → IfSome o (IsSegment made) → length (slots_of o) ≤ 128
  few_slots made None h = omega arith
  few_slots made (Some p) h = h.few

-- a segment of a branch is cut in two, and no cell changes
module _ {T : Type 0} (c : TrieOf T) (segments : List (Option (SegmentOf T))) (index count key new rest : ℕ) (above below : SegmentOf T) (whole : IsWhole c)
    (inside : count < length (keys_in c.branches index)) (at_key : key ≡ get_or (keys_in c.branches index) count 0)
    (divides : Divides (segment_at c.segments) (segment_at segments) key new above below)
    (parts : above.slots ++ below.slots ≡ slots_of (segment_at c.segments key)) (upper : length above.slots ≡ rest)
    (some : 0 < rest) (within : rest < length (slots_of (segment_at c.segments key))) where
  abbrev pub cut : TrieOf T
  cut = record { branches = map (divided_branch key new) c.branches; segments = segments; made = c.made; limits = c.limits }

  sizes : length above.slots + length below.slots ≡ length (slots_of (segment_at c.segments key))
  sizes = sym (length-append above.slots below.slots) ∙ ap length parts

  few : length (slots_of (segment_at c.segments key)) ≤ 128
  few = few_slots c.made (segment_at c.segments key) (whole.sound.segments key)

  once : Once (map cell_of (above.slots ++ below.slots))
  once = subst (λ l. Once (map cell_of l)) (sym parts) (once_at (segment_at c.segments) c.made whole.sound.segments whole.sound.apart key)

  pub cut_whole : IsWhole cut
  cut_whole = record {
    sound = sound-divided (segment_at c.segments) (segment_at segments) key new above below divides c.branches c.made c.made whole.sound (omega arith)
        (omega (arith, upper)) (omega (arith, sizes, few)) (omega (arith, sizes, upper)) (omega (arith, sizes, few)) once
        (λ x h. inl (subst (λ l. has_cell x l ≡ true) parts h));
    within = record {
      cells = whole.within.cells;
      branches_fit = subst (λ n. n ≤ c.limits.branches) (sym (length-map c.branches (divided_branch key new))) whole.within.branches_fit;
      some = subst (λ n. 0 < n) (sym (length-map c.branches (divided_branch key new))) whole.within.some;
      most_cells = whole.within.most_cells;
      most_branches = whole.within.most_branches;
    };
  }

  lacked : (i : ℕ) → has new (keys_in c.branches i) ≡ false
  lacked = lacked-divided (segment_at c.segments) (segment_at segments) key new above below divides c.branches c.made c.made whole.sound (omega arith)
      (omega (arith, upper)) (omega (arith, sizes, few)) (omega (arith, sizes, upper)) (omega (arith, sizes, few)) once
      (λ x h. inl (subst (λ l. has_cell x l ≡ true) parts h))

  pub same_branches : (forest cut).branches ≡ (forest c).branches
  same_branches =
      branches-divided (segment_at c.segments) (segment_at segments) key new above below divides (λ l. l) refl (λ xs ys. refl) parts (λ j ne. refl) c.branches lacked
      ∙ everywhere-same (forest c).branches

  abbrev front : List ℕ
  front = take count (keys_in c.branches index)

  front_lacks : has key front ≡ false
  front_lacks =
      once_before front key []
      (subst Once (take_more (keys_in c.branches index) count 0 inside ∙ ap (λ k. front ++ k ∷ []) (sym at_key))
      (Once-from_linked whole.sound.shares.above (take (count + 1) (keys_in c.branches index))
      (linked_front whole.sound.shares.above None (count + 1) (keys_in c.branches index) (whole.sound.shares.linked index))))

  -- the path of the fork
  pub cut_front : take (count + 1) (keys_in cut.branches index) ≡ front ++ new ∷ []
  cut_front =
      ap (take (count + 1)) (keys_in-divided key new c.branches index)
      ∙ divided-front key new (keys_in c.branches index) count inside at_key front_lacks

  pub cut_line : length (line (segment_at segments) (take (count + 1) (keys_in cut.branches index))) ≡ length (line (segment_at c.segments) front) + rest
  cut_line =
      ap (λ l. length (line (segment_at segments) l)) cut_front
      ∙ ap length (line-append (segment_at segments) front (new ∷ []))
      ∙ length-append (line (segment_at segments) front) (slots_of (segment_at segments new) ++ [])
      ∙ ap (λ l. length (line (segment_at segments) front) + length l) (append-nil (slots_of (segment_at segments new)) ∙ ap slots_of divides.upper)
      ∙ ap (λ n. length (line (segment_at segments) front) + n) upper
      ∙ ap (λ l. length l + rest) (line_alike (segment_at c.segments) (segment_at segments) front alike)
    where
      alike : (k : ℕ) → has k front ≡ true → segment_at segments k ≡ segment_at c.segments k
      alike k h =
          divides.others k
          (λ e. true≢false (sym (subst (λ j. has j front ≡ true) e h) ∙ front_lacks))
          (λ e. true≢false (sym (has_from_take count new (keys_in c.branches index) (subst (λ j. has j front ≡ true) e h)) ∙ lacked index))
