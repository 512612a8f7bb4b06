-- Removing a cell from its segment, and so from each line.
use Rattle.std.proofs.Common.{◌≡◌, ℕ, zero, suc, ◌<◌, Bool, true, false, not, ◌||◌, nat_eq, cond, List, [], ◌∷◌, ◌++◌, length, map, slice_get, Option, Some, None, IsSome, refl, sym, ap, subst, ◌∙◌, true≢false, arith, eq-eqb, ◌+◌}
use Rattle.std.specs.Option.{IfSome}
use Rattle.std.specs.List.{remove}
use Rattle.std.proofs.lemmas.Bool.{eqb-true, eqb-false}
use Rattle.std.proofs.lemmas.List.Edits.{length-remove}
use Rattle.std.proofs.lemmas.List.Elements.{filter-append}
use Rattle.std.proofs.lemmas.Option.{slice_get_within}
use Rattle.branch_terms.specs.declared.slot.Slot.{Slot}
use Rattle.branch_terms.specs.Forest.{branch, cell_of, is_other, without, everywhere}
use Rattle.schedule_trie.specs.Trie.{SegmentOf, KeyedBranch, slots_of, line, branches_on, keys_in, has, has_cell, Once, Linked, IsSegment, IsSoundTrie, keys_without, branch_without}
use Rattle.branch_terms.proofs.Lists.{nat_eq_symmetric}
use Rattle.schedule_trie.proofs.lists.NoRepeats.{has_not_from, has-head, has-tail, has_cases}
use Rattle.schedule_trie.proofs.segments.Changes.{line_through, everywhere_on, cell_apart, has_cell_get}
use Rattle.schedule_trie.proofs.branches.Lines.{once_at, given_at}
use Rattle.schedule_trie.proofs.lists.PathsWithout.{keys_in-without, has_from_without, has-without_own, above_past, linked_without}
use Rattle.lineage.proofs.SkippedClimbs.{has-without_other}

-- removing a cell that isn't there changes nothing
pub without-absent : (x : ℕ) (slots : List Slot) → has_cell x slots ≡ false → without x slots ≡ slots
without-absent x [] h = refl
without-absent x (s ∷ ss) h = by (nat_eq x s.cell) refl (without-absent x ss)
  where
    by : (b : Bool) → nat_eq x s.cell ≡ b → (has_cell x ss ≡ false → without x ss ≡ ss) → without x (s ∷ ss) ≡ s ∷ ss
    by true e rest = absurd (true≢false (sym (ap (λ c. c || has_cell x ss) e) ∙ h))
    by false e rest =
        ap (λ b. cond (not b) (s ∷ without x ss) (without x ss)) (nat_eq_symmetric s.cell x ∙ e) ∙ ap (λ l. s ∷ l) (rest (sym (ap (λ c. c || has_cell x ss) e) ∙ h))

-- removing the item at an index removes just the cell there, if no cell is twice
pub without-at : (slots : List Slot) (i : ℕ) (s : Slot) → Once (map cell_of slots) → slice_get slots i ≡ Some s → remove slots i ≡ without s.cell slots
without-at [] i s once e = absurd (cc)
without-at (z ∷ zs) zero s once e =
    let same : z ≡ s = cc in
    let cells : z.cell ≡ s.cell = ap cell_of same in
    sym (ap (λ b. cond (not b) (z ∷ without s.cell zs) (without s.cell zs)) (eq-eqb z.cell s.cell cells)
    ∙ without-absent s.cell zs (subst (λ x. has_cell x zs ≡ false) cells once.0))
without-at (z ∷ zs) (suc i) s once e =
    sym (ap (λ b. cond (not b) (z ∷ without s.cell zs) (without s.cell zs)) (cell_apart z zs i s once.0 e) ∙ ap (λ l. z ∷ l) (sym (without-at zs i s once.1 e)))

-- the cells that are left were there before
pub has_cell_without : (x y : ℕ) (slots : List Slot) → has_cell y (without x slots) ≡ true → has_cell y slots ≡ true
has_cell_without x y [] h = h
has_cell_without x y (s ∷ ss) h = by (nat_eq s.cell x) refl (has_cell_without x y ss)
  where
    by : (b : Bool) → nat_eq s.cell x ≡ b → (has_cell y (without x ss) ≡ true → has_cell y ss ≡ true) → has_cell y (s ∷ ss) ≡ true
    by true e rest = has-tail y s.cell (map cell_of ss) (rest (sym (ap (λ b. has_cell y (cond (not b) (s ∷ without x ss) (without x ss))) e) ∙ h))
    by false e rest = has_cases y s.cell (map cell_of (without x ss)) (has_cell y (s ∷ ss) ≡ true)
        (sym (ap (λ b. has_cell y (cond (not b) (s ∷ without x ss) (without x ss))) e) ∙ h)
        (λ f. subst (λ z. has z (s.cell ∷ map cell_of ss) ≡ true) (sym f) (has-head s.cell (map cell_of ss)))
        (λ r. has-tail y s.cell (map cell_of ss) (rest r))

once_without : (x : ℕ) (slots : List Slot) → Once (map cell_of slots) → Once (map cell_of (without x slots))
once_without x [] h = h
once_without x (s ∷ ss) h = by (nat_eq s.cell x) refl (once_without x ss h.1)
  where
    by : (b : Bool) → nat_eq s.cell x ≡ b → Once (map cell_of (without x ss)) → Once (map cell_of (without x (s ∷ ss)))
    by true e rest = subst (λ b. Once (map cell_of (cond (not b) (s ∷ without x ss) (without x ss)))) (sym e) rest
    by false e rest = subst (λ b. Once (map cell_of (cond (not b) (s ∷ without x ss) (without x ss)))) (sym e)
        (has_not_from s.cell (map cell_of (without x ss)) (λ g. true≢false (sym (has_cell_without x s.cell ss g) ∙ h.0)), rest)

module _ {T : Type 0} (old new : ℕ → Option (SegmentOf T)) (key offset : ℕ) (s : Slot) (branches : List KeyedBranch) (made : ℕ) (sound : IsSoundTrie old branches made)
    (here : slots_of (new key) ≡ remove (slots_of (old key)) offset) (others : (j : ℕ) → (j ≡ key → ⊥) → new j ≡ old j)
    (at_cell : slice_get (slots_of (old key)) offset ≡ Some s) where
  each_without : (j : ℕ) → slots_of (new j) ≡ without s.cell (slots_of (old j))
  each_without j = by (nat_eq j key) refl
    where
      by : (b : Bool) → nat_eq j key ≡ b → slots_of (new j) ≡ without s.cell (slots_of (old j))
      by true e =
          subst (λ k. slots_of (new k) ≡ without s.cell (slots_of (old k))) (sym (eqb-true j key e))
          (here ∙ without-at (slots_of (old key)) offset s (once_at old made sound.segments sound.apart key) at_cell)
      by false e =
          let ne : j ≡ key → ⊥ = eqb-false j key e in
          ap slots_of (others j ne) ∙ sym (without-absent s.cell (slots_of (old j)) (has_not_from s.cell (map cell_of (slots_of (old j)))
          (λ h. ne (sound.apart j key s.cell h (has_cell_get (slots_of (old key)) offset s at_cell)))))

  pub gone_everywhere : branches_on new branches ≡ everywhere (without s.cell) (branches_on old branches)
  gone_everywhere =
      everywhere_on old new (without s.cell) (line_through old new (without s.cell) refl (filter-append (is_other s.cell)) each_without) branches

  was_in : (j y : ℕ) → has_cell y (slots_of (new j)) ≡ true → has_cell y (slots_of (old j)) ≡ true
  was_in j y h = has_cell_without s.cell y (slots_of (old j)) (subst (λ l. has_cell y l ≡ true) (each_without j) h)

  apart_still : (j k x : ℕ) → has_cell x (slots_of (new j)) ≡ true → has_cell x (slots_of (new k)) ≡ true → j ≡ k
  apart_still j k x a b = sound.apart j k x (was_in j x a) (was_in k x b)

  short_at : (o : Option (SegmentOf T)) → IfSome o (IsSegment made) → 0 < length (slots_of o) → length (slots_of o) < 129
  short_at None h l = absurd (omega arith)
  short_at (Some p) h l = omega (arith, h.few)

  -- the segment has other cells
  module _ (p q : SegmentOf T) (was : old key ≡ Some p) (is : new key ≡ Some q) (more : 1 < length (slots_of (old key))) where
    segment : IsSegment made q
    segment = record {
      some = omega (arith, more, size);
      few = let short : length (slots_of (old key)) < 129 = short_at (old key) (sound.segments key) (omega arith) in omega (arith, short, size);
      once = subst (λ l. Once (map cell_of l)) (sym without_it) (once_without s.cell (slots_of (old key)) (once_at old made sound.segments sound.apart key));
      given = λ x h. given_at old made sound.segments sound.apart key x (was_in key x (subst (λ o. has_cell x (slots_of o) ≡ true) (sym is) h));
    }
      where
        slots : q.slots ≡ remove (slots_of (old key)) offset
        slots = sym (ap slots_of is) ∙ here

        size : length q.slots + 1 ≡ length (slots_of (old key))
        size = ap (λ l. length l + 1) slots ∙ length-remove (slots_of (old key)) offset (slice_get_within (slots_of (old key)) offset s at_cell)

        without_it : q.slots ≡ without s.cell (slots_of (old key))
        without_it = sym (ap slots_of is) ∙ each_without key

    there : (k : ℕ) → IsSome (old k) → IsSome (new k)
    there k h = by (nat_eq k key) refl
      where
        by : (b : Bool) → nat_eq k key ≡ b → IsSome (new k)
        by true e = subst (λ j. IsSome (new j)) (sym (eqb-true k key e)) (subst IsSome (sym is) refl)
        by false e = subst IsSome (sym (others k (eqb-false k key e))) h

    was_there : (k : ℕ) → IsSome (new k) → IsSome (old k)
    was_there k h = by (nat_eq k key) refl
      where
        by : (b : Bool) → nat_eq k key ≡ b → IsSome (old k)
        by true e = subst (λ j. IsSome (old j)) (sym (eqb-true k key e)) (subst IsSome (sym was) refl)
        by false e = subst IsSome (others k (eqb-false k key e)) h

    pub sound_within : IsSoundTrie new branches made
    sound_within = record {
      held = λ i k h. there k (sound.held i k h);
      segments = λ k. segment_at k (nat_eq k key) refl;
      apart = apart_still;
      live = λ k h. sound.live k (was_there k h);
      shares = sound.shares;
    }
      where
        segment_at : (k : ℕ) (b : Bool) → nat_eq k key ≡ b → IfSome (new k) (IsSegment made)
        segment_at k true e = subst (λ j. IfSome (new j) (IsSegment made)) (sym (eqb-true k key e)) (subst (λ o. IfSome o (IsSegment made)) (sym is) segment)
        segment_at k false e = subst (λ o. IfSome o (IsSegment made)) (sym (others k (eqb-false k key e))) (sound.segments k)

  -- the segment is removed with its only cell
  module _ (gone : new key ≡ None) where
    not_key : (k : ℕ) → IsSome (new k) → k ≡ key → ⊥
    not_key k h e = true≢false (sym (subst IsSome (ap new e ∙ gone) h))

    line_without : (ks : List ℕ) → line new (keys_without key ks) ≡ line new ks
    line_without [] = refl
    line_without (k ∷ ks) = by (nat_eq key k) refl (line_without ks)
      where
        by : (b : Bool) → nat_eq key k ≡ b → line new (keys_without key ks) ≡ line new ks → line new (keys_without key (k ∷ ks)) ≡ line new (k ∷ ks)
        by true e rest =
            ap (λ b. line new (cond (not b) (k ∷ keys_without key ks) (keys_without key ks))) e ∙ rest
            ∙ sym (ap (λ o. slots_of o ++ line new ks) (ap new (sym (eqb-true key k e)) ∙ gone))
        by false e rest =
            ap (λ b. line new (cond (not b) (k ∷ keys_without key ks) (keys_without key ks))) e ∙ ap (λ l. slots_of (new k) ++ l) rest

    branches_without : (ss : List KeyedBranch) → branches_on new (map (branch_without key) ss) ≡ branches_on new ss
    branches_without [] = refl
    branches_without (t ∷ ts) = λ i. branch t.name (line_without t.keys i) ∷ branches_without ts i

    pub gone_with_segment : branches_on new (map (branch_without key) branches) ≡ everywhere (without s.cell) (branches_on old branches)
    gone_with_segment = branches_without branches ∙ gone_everywhere

    pub sound_gone : IsSoundTrie new (map (branch_without key) branches) made
    sound_gone = record {
      held = held;
      segments = λ k. segment_at k (nat_eq k key) refl;
      apart = apart_still;
      live = λ k h. let ne = not_key k h in
          let p = sound.live k (subst IsSome (others k ne) h) in
          (p.0, subst (λ l. has k l ≡ true) (sym (keys_in-without key branches p.0)) (has-without_other key None k (keys_in branches p.0) ne p.1));
      shares = record {
        above = λ k. above_past sound.shares.above key (sound.shares.above k);
        linked = λ i. subst (λ l. Linked_at l) (sym (keys_in-without key branches i)) (linked_without sound.shares.above key None (keys_in branches i) (sound.shares.linked i));
      };
    }
      where
        Linked_at : List ℕ → Type 0
        Linked_at = Linked (λ k. above_past sound.shares.above key (sound.shares.above k)) None

        held : (i k : ℕ) → has k (keys_in (map (branch_without key) branches) i) ≡ true → IsSome (new k)
        held i k h =
            let left : has k (keys_without key (keys_in branches i)) ≡ true = subst (λ l. has k l ≡ true) (keys_in-without key branches i) h in
            let ne : k ≡ key → ⊥ = λ e. true≢false (sym (subst (λ z. has z (keys_without key (keys_in branches i)) ≡ true) e left) ∙ has-without_own key (keys_in branches i)) in
            subst IsSome (sym (others k ne)) (sound.held i k (has_from_without key k (keys_in branches i) left))

        segment_at : (k : ℕ) (b : Bool) → nat_eq k key ≡ b → IfSome (new k) (IsSegment made)
        segment_at k true e = subst (λ j. IfSome (new j) (IsSegment made)) (sym (eqb-true k key e)) (subst (λ o. IfSome o (IsSegment made)) (sym gone) tt)
        segment_at k false e = subst (λ o. IfSome o (IsSegment made)) (sym (others k (eqb-false k key e))) (sound.segments k)
