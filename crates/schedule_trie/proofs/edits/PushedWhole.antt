-- A push keeps a trie whole.
use Rattle.std.proofs.Common.{◌≡◌, ℕ, ◌+◌, ◌<◌, ◌≤◌, Bool, true, false, ◌||◌, nat_eq, List, [], ◌∷◌, ◌++◌, length, map, Option, Some, None, IsSome, ◌⊎◌, refl, sym, ap, subst, ◌∙◌, true≢false, arith, inl, inr}
use Rattle.std.specs.Option.{IfSome}
use Rattle.std.proofs.lemmas.Bool.{eqb-true, eqb-false}
use Rattle.std.proofs.lemmas.List.{map-append, length-append}
use Rattle.schedule_steps.specs.declared.types.Step.{Step}
use Rattle.branch_terms.specs.Forest.{slot, cell_of, only_in, put_last}
use Rattle.schedule_trie.specs.Trie.{TrieOf, SegmentOf, segment_at, slots_of, line, forest, branches_on, keys_in, set_keys, has, has_cell, Once, SharesAbove, IsSegment, IsSoundTrie, IsWhole, KeepsNotesBut, Nowhere, IsExtendedEnd, IsPushed, LackedByOthers}
use Rattle.schedule_trie.proofs.lists.NoRepeats.{has-append, has_not_from, has_cases, Once-append, has-in}
use Rattle.schedule_trie.proofs.segments.Changes.{Changes, there-changed}
use Rattle.schedule_trie.proofs.segments.StepSet.{cut_from_sound}
use Rattle.schedule_trie.proofs.edits.Pushes.{line_pushed, only_pushed, segments_more, apart_more}
use Rattle.branch_terms.specs.declared.limits.TheConstants.{MOST_CELLS_MADE}
use Rattle.schedule_trie.proofs.branches.KeyedBranches.{keys_in-set_other, keys_in-set_same, length-set_keys}

-- a push, after which the branch's keys are `front` and then the segment's key
module _ {T : Type 0} (c d : TrieOf T) (index key : ℕ) (step : Step) (front : List ℕ) (q : SegmentOf T) (whole : IsWhole c) (room : c.made < c.limits.cells)
    (change : Changes (segment_at c.segments) (segment_at d.segments) key q) (note : q.note ≡ None)
    (slots : q.slots ≡ slots_of (segment_at c.segments key) ++ slot c.made step ∷ []) (few : length (slots_of (segment_at c.segments key)) < 128)
    (made : d.made ≡ c.made + 1) (limits : d.limits ≡ c.limits) (keys_set : d.branches ≡ set_keys c.branches index (front ++ key ∷ []))
    (inside : index < length c.branches)
    (was : line (segment_at c.segments) (keys_in c.branches index) ≡ line (segment_at c.segments) front ++ slots_of (segment_at c.segments key))
    (kept : (k : ℕ) → has k (keys_in c.branches index) ≡ true → has k (front ++ key ∷ []) ≡ true)
    (in_front : (k : ℕ) → has k front ≡ true → has k (keys_in c.branches index) ≡ true)
    (fresh : has key front ≡ false) (lacked : LackedByOthers c.branches index key) (shares : SharesAbove d.branches) where
  len : length q.slots ≡ length (slots_of (segment_at c.segments key)) + 1
  len = ap length slots ∙ length-append (slots_of (segment_at c.segments key)) (slot c.made step ∷ [])

  cells_are : map cell_of q.slots ≡ map cell_of (slots_of (segment_at c.segments key)) ++ c.made ∷ []
  cells_are = ap (map cell_of) slots ∙ map-append cell_of (slots_of (segment_at c.segments key)) (slot c.made step ∷ [])

  old_once : (o : Option (SegmentOf T)) → IfSome o (IsSegment c.made) → Once (map cell_of (slots_of o))
  old_once None h = tt
  old_once (Some p) h = h.once

  old_given : (o : Option (SegmentOf T)) → IfSome o (IsSegment c.made) → (x : ℕ) → has_cell x (slots_of o) ≡ true → x < c.made
  old_given None h x e = absurd (true≢false (sym e))
  old_given (Some p) h x e = h.given x e

  once : Once (map cell_of q.slots)
  once = subst Once (sym cells_are)
      (Once-append (map cell_of (slots_of (segment_at c.segments key))) (c.made ∷ []) (old_once (segment_at c.segments key) (whole.sound.segments key)) (refl, tt)
      (λ x e. has_not_from x (c.made ∷ []) (λ g. has_cases x c.made [] ⊥ g
      (λ f. let l : x < c.made = old_given (segment_at c.segments key) (whole.sound.segments key) x e in omega arith)
      (λ r. true≢false (sym r)))))

  cells : (x : ℕ) → has_cell x q.slots ≡ true → (has_cell x (slots_of (segment_at c.segments key)) ≡ true) ⊎ (x ≡ c.made)
  cells x h = by (has_cell x (slots_of (segment_at c.segments key))) refl
    where
      split : (has_cell x (slots_of (segment_at c.segments key)) || has x (c.made ∷ [])) ≡ true
      split = sym (has-append x (map cell_of (slots_of (segment_at c.segments key))) (c.made ∷ [])) ∙ sym (ap (has x) cells_are) ∙ h

      by : (b : Bool) → has_cell x (slots_of (segment_at c.segments key)) ≡ b → (has_cell x (slots_of (segment_at c.segments key)) ≡ true) ⊎ (x ≡ c.made)
      by true e = inl e
      by false e = inr (has_cases x c.made [] (x ≡ c.made) (sym (ap (λ b. b || has x (c.made ∷ [])) e) ∙ split) (λ f. f) (λ r. absurd (true≢false (sym r))))

  there : (k : ℕ) → IsSome (segment_at c.segments k) → IsSome (segment_at d.segments k)
  there = there-changed (segment_at c.segments) (segment_at d.segments) key q change

  keys_here : keys_in d.branches index ≡ front ++ key ∷ []
  keys_here = ap (λ l. keys_in l index) keys_set ∙ keys_in-set_same c.branches index (front ++ key ∷ []) inside

  keys_there : (j : ℕ) → (j ≡ index → ⊥) → keys_in d.branches j ≡ keys_in c.branches j
  keys_there j ne = ap (λ l. keys_in l j) keys_set ∙ keys_in-set_other c.branches index j (front ++ key ∷ []) ne

  held : (i k : ℕ) → has k (keys_in d.branches i) ≡ true → IsSome (segment_at d.segments k)
  held i k h = by (nat_eq i index) refl
    where
      at_index : has k (front ++ key ∷ []) ≡ true → IsSome (segment_at d.segments k)
      at_index g = by_front (has k front) refl
        where
          split : (has k front || has k (key ∷ [])) ≡ true
          split = sym (has-append k front (key ∷ [])) ∙ g

          by_front : (b : Bool) → has k front ≡ b → IsSome (segment_at d.segments k)
          by_front true e = there k (whole.sound.held index k (in_front k e))
          by_front false e = has_cases k key [] (IsSome (segment_at d.segments k)) (sym (ap (λ b. b || has k (key ∷ [])) e) ∙ split)
              (λ f. subst (λ j. IsSome (segment_at d.segments j)) (sym f) (subst IsSome (sym change.here) refl))
              (λ r. absurd (true≢false (sym r)))

      by : (b : Bool) → nat_eq i index ≡ b → IsSome (segment_at d.segments k)
      by true e = at_index (subst (λ l. has k l ≡ true) (ap (keys_in d.branches) (eqb-true i index e) ∙ keys_here) h)
      by false e = there k (whole.sound.held i k (subst (λ l. has k l ≡ true) (keys_there i (eqb-false i index e)) h))

  live : (k : ℕ) → IsSome (segment_at d.segments k) → (i : ℕ) × (has k (keys_in d.branches i) ≡ true)
  live k h = by (nat_eq k key) refl
    where
      from_old : (p : (i : ℕ) × (has k (keys_in c.branches i) ≡ true)) → (b : Bool) → nat_eq p.0 index ≡ b → (j : ℕ) × (has k (keys_in d.branches j) ≡ true)
      from_old p true e = (index, subst (λ l. has k l ≡ true) (sym keys_here) (kept k (subst (λ n. has k (keys_in c.branches n) ≡ true) (eqb-true p.0 index e) p.1)))
      from_old p false e = (p.0, subst (λ l. has k l ≡ true) (sym (keys_there p.0 (eqb-false p.0 index e))) p.1)

      by : (b : Bool) → nat_eq k key ≡ b → (i : ℕ) × (has k (keys_in d.branches i) ≡ true)
      by true e = (index, subst (λ l. has k l ≡ true) (sym keys_here) (subst (λ z. has z (front ++ key ∷ []) ≡ true) (sym (eqb-true k key e)) (has-in key front [])))
      by false e = let o = whole.sound.live k (subst IsSome (change.others k (eqb-false k key e)) h) in from_old o (nat_eq o.0 index) refl

  sound : IsSoundTrie (segment_at d.segments) d.branches d.made
  sound = record {
    held = held;
    segments = subst (λ n. (k : ℕ) → IfSome (segment_at d.segments k) (IsSegment n)) (sym made)
        (segments_more (segment_at c.segments) (segment_at d.segments) key q change c.branches c.made whole.sound (omega (arith, len)) (omega (arith, len)) once cells);
    apart = apart_more (segment_at c.segments) (segment_at d.segments) key q change c.branches c.made whole.sound (omega (arith, len)) (omega (arith, len)) once cells;
    live = live;
    shares = shares;
  }

  count : length d.branches ≡ length c.branches
  count = ap length keys_set ∙ length-set_keys c.branches index (front ++ key ∷ [])

  pub whole_pushed : IsWhole d
  whole_pushed = record {
    sound = sound;
    within = record {
      cells = subst (λ l. d.made ≤ l.cells) (sym limits) (omega arith);
      branches_fit = subst (λ l. length d.branches ≤ l.branches) (sym limits) (subst (λ n. n ≤ c.limits.branches) (sym count) whole.within.branches_fit);
      some = subst (λ n. 0 < n) (sym count) whole.within.some;
      most_cells = subst (λ l. l.cells ≤ MOST_CELLS_MADE) (sym limits) whole.within.most_cells;
      most_branches = subst (λ l. l.branches ≤ 1024) (sym limits) whole.within.most_branches;
    };
  }

  branches : (forest d).branches ≡ only_in index (put_last (slot c.made step)) (forest c).branches
  branches = ap (branches_on (segment_at d.segments)) keys_set
      ∙ only_pushed (segment_at c.segments) (segment_at d.segments) key q change c.branches index (front ++ key ∷ []) (slot c.made step) inside lacked
      (line_pushed (segment_at c.segments) (segment_at d.segments) key q change front (slot c.made step) fresh slots ∙ ap (put_last (slot c.made step)) (sym was))

  pub is_pushed : KeepsNotesBut c d Nowhere (IsExtendedEnd c d index step) → IsPushed c d index step
  is_pushed notes = record { branches = branches; made = made; count = count; limits = limits; notes = notes; cut = cut_from_sound d d.made sound }
