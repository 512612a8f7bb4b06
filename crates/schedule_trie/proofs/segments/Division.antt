-- Cutting a segment in two. The upper part has a new key.
use Rattle.std.proofs.Common.{◌≡◌, ℕ, zero, suc, ◌<◌, ◌≤◌, Bool, true, false, ◌||◌, nat_eq, cond, List, [], ◌∷◌, ◌++◌, length, map, Option, Some, None, IsSome, ◌⊎◌, refl, sym, ap, subst, ◌∙◌, true≢false, arith, eq-eqb, append_assoc, inl, inr}
use Rattle.std.specs.Option.{IfSome}
use Rattle.std.proofs.lemmas.Bool.{eqb-true, eqb-false}
use Rattle.std.proofs.lemmas.List.{map-append}
use Rattle.branch_terms.specs.declared.slot.Slot.{Slot}
use Rattle.branch_terms.specs.Forest.{branch, cell_of, everywhere}
use Rattle.schedule_trie.specs.Trie.{TrieOf, SegmentOf, KeyedBranch, segment_at, slots_of, note_of, line, branches_on, keys_in, has, has_cell, Once, Linked, IsSegment, IsSoundTrie, KeepsNotesExcept, divided_keys, divided_branch}
use Rattle.schedule_trie.proofs.lists.NoRepeats.{has-head, has-tail, has_cases, has_not_from, has-left, has-right, Once-left, Once-right, Once-apart}
use Rattle.schedule_trie.proofs.branches.Lines.{given_at, IsSegment-weaker}

-- the key has the cells below the cut, and a new key has those above
pub record Divides {T : Type 0} (old new : ℕ → Option (SegmentOf T)) (key fresh : ℕ) (above below : SegmentOf T) : Type 0 where
  pub was : IsSome (old key)
  pub vacant : old fresh ≡ None
  pub upper : new fresh ≡ Some above
  pub lower : new key ≡ Some below
  pub others : (j : ℕ) → (j ≡ key → ⊥) → (j ≡ fresh → ⊥) → new j ≡ old j

-- the keys of divided paths
module _ (key fresh : ℕ) where
  pub keys_in-divided : (branches : List KeyedBranch) (i : ℕ) → keys_in (map (divided_branch key fresh) branches) i ≡ divided_keys key fresh (keys_in branches i)
  keys_in-divided [] i = refl
  keys_in-divided (s ∷ ss) zero = refl
  keys_in-divided (s ∷ ss) (suc i) = keys_in-divided ss i

  -- `rest` after the key k; if b is true, with the new key before k
  abbrev with_fresh_above : Bool → ℕ → List ℕ → List ℕ
  with_fresh_above b k rest = cond b (fresh ∷ k ∷ []) (k ∷ []) ++ rest

  -- a divided path has the keys that it had
  pub has-divided : (k : ℕ) (ks : List ℕ) → has k ks ≡ true → has k (divided_keys key fresh ks) ≡ true
  has-divided k [] h = absurd (true≢false (sym h))
  has-divided k (j ∷ ks) h =
      by (nat_eq key j)
      (has_cases k j ks (has k (j ∷ divided_keys key fresh ks) ≡ true) h
      (λ e. subst (λ z. has z (j ∷ divided_keys key fresh ks) ≡ true) (sym e) (has-head j (divided_keys key fresh ks)))
      (λ r. has-tail k j (divided_keys key fresh ks) (has-divided k ks r)))
    where
      by : (b : Bool) → has k (j ∷ divided_keys key fresh ks) ≡ true → has k (with_fresh_above b j (divided_keys key fresh ks)) ≡ true
      by true g = has-tail k fresh (j ∷ divided_keys key fresh ks) g
      by false g = g

  -- and the new key, if it has the key
  pub has-new_key : (ks : List ℕ) → has key ks ≡ true → has fresh (divided_keys key fresh ks) ≡ true
  has-new_key [] h = absurd (true≢false (sym h))
  has-new_key (j ∷ ks) h =
      has_cases key j ks (has fresh (divided_keys key fresh (j ∷ ks)) ≡ true) h
      (λ e. ap (λ b. has fresh (with_fresh_above b j (divided_keys key fresh ks))) (eq-eqb key j e) ∙ has-head fresh (j ∷ divided_keys key fresh ks))
      (λ r. by (nat_eq key j) (has-new_key ks r))
    where
      by : (b : Bool) → has fresh (divided_keys key fresh ks) ≡ true → has fresh (with_fresh_above b j (divided_keys key fresh ks)) ≡ true
      by true g = has-head fresh (j ∷ divided_keys key fresh ks)
      by false g = has-tail fresh j (divided_keys key fresh ks) g

  -- a key of a divided path is the new one, or was there before
  pub from_divided : (k : ℕ) (ks : List ℕ) → has k (divided_keys key fresh ks) ≡ true → (k ≡ fresh) ⊎ (has k ks ≡ true)
  from_divided k [] h = inr h
  from_divided k (j ∷ ks) h = by (nat_eq key j) h (from_divided k ks)
    where
      later : (has k (divided_keys key fresh ks) ≡ true → (k ≡ fresh) ⊎ (has k ks ≡ true)) → has k (j ∷ divided_keys key fresh ks) ≡ true
          → (k ≡ fresh) ⊎ (has k (j ∷ ks) ≡ true)
      later rest g =
          has_cases k j (divided_keys key fresh ks) ((k ≡ fresh) ⊎ (has k (j ∷ ks) ≡ true)) g
          (λ e. inr (subst (λ z. has z (j ∷ ks) ≡ true) (sym e) (has-head j ks)))
          (λ r. elim (rest r) [ inl e ↦ inl e | inr f ↦ inr (has-tail k j ks f) ])

      by : (b : Bool) → has k (with_fresh_above b j (divided_keys key fresh ks)) ≡ true → (has k (divided_keys key fresh ks) ≡ true → (k ≡ fresh) ⊎ (has k ks ≡ true))
          → (k ≡ fresh) ⊎ (has k (j ∷ ks) ≡ true)
      by true g rest =
          has_cases k fresh (j ∷ divided_keys key fresh ks) ((k ≡ fresh) ⊎ (has k (j ∷ ks) ≡ true)) g (λ e. inl e) (later rest)
      by false g rest = later rest g

  -- the new key is between the key and the one above it
  abbrev pub above_divided : (ℕ → Option ℕ) → ℕ → Option ℕ
  above_divided above j = cond (nat_eq key j) (Some fresh) (cond (nat_eq fresh j) (above key) (above j))

  lacks_head : (k : ℕ) (ks : List ℕ) → has fresh (k ∷ ks) ≡ false → nat_eq fresh k ≡ false
  lacks_head k ks h = by (nat_eq fresh k) refl
    where
      by : (b : Bool) → nat_eq fresh k ≡ b → nat_eq fresh k ≡ false
      by true e = absurd (true≢false (sym (ap (λ c. c || has fresh ks) e) ∙ h))
      by false e = e

  lacks_tail : (k : ℕ) (ks : List ℕ) → has fresh (k ∷ ks) ≡ false → has fresh ks ≡ false
  lacks_tail k ks h = has_not_from fresh ks (λ g. true≢false (sym (has-tail fresh k ks g) ∙ h))

  linked-divided : (above : ℕ → Option ℕ) (up : Option ℕ) (ks : List ℕ) → has fresh ks ≡ false → Linked above up ks
      → Linked (above_divided above) up (divided_keys key fresh ks)
  linked-divided above up [] h l = tt
  linked-divided above up (k ∷ ks) h l = by (nat_eq key k) refl (linked-divided above (Some k) ks (lacks_tail k ks h) l.1)
    where
      lacks : nat_eq fresh k ≡ false
      lacks = lacks_head k ks h

      by : (b : Bool) → nat_eq key k ≡ b → Linked (above_divided above) (Some k) (divided_keys key fresh ks)
          → Linked (above_divided above) up (divided_keys key fresh (k ∷ ks))
      by true e rest =
          let same : key ≡ k = eqb-true key k e in
          let apart : nat_eq key fresh ≡ false = other (nat_eq key fresh) refl in
          let at_fresh : above_divided above fresh ≡ up =
          ap (λ b. cond b (Some fresh) (cond (nat_eq fresh fresh) (above key) (above fresh))) apart
          ∙ ap (λ b. cond b (above key) (above fresh)) (eq-eqb fresh fresh refl) ∙ ap above same ∙ l.0 in
          let at_key : above_divided above k ≡ Some fresh = ap (λ b. cond b (Some fresh) (cond (nat_eq fresh k) (above key) (above k))) e in
          subst (λ b. Linked (above_divided above) up (with_fresh_above b k (divided_keys key fresh ks))) (sym e) (at_fresh, (at_key, rest))
        where
          other : (b : Bool) → nat_eq key fresh ≡ b → nat_eq key fresh ≡ false
          other true f = absurd (true≢false (sym (eq-eqb fresh k (sym (eqb-true key fresh f) ∙ eqb-true key k e)) ∙ lacks))
          other false f = f
      by false e rest =
          let at_k : above_divided above k ≡ up =
          ap (λ b. cond b (Some fresh) (cond (nat_eq fresh k) (above key) (above k))) e ∙ ap (λ b. cond b (above key) (above k)) lacks ∙ l.0 in
          subst (λ b. Linked (above_divided above) up (with_fresh_above b k (divided_keys key fresh ks))) (sym e) (at_k, rest)

module _ {T : Type 0} (old new : ℕ → Option (SegmentOf T)) (key fresh : ℕ) (above below : SegmentOf T) (divides : Divides old new key fresh above below) where
  -- a list function that distributes over `++` and changes only the cut segment
  module _ (g : List Slot → List Slot) (empty : g [] ≡ []) (through : (xs ys : List Slot) → g (xs ++ ys) ≡ g xs ++ g ys)
      (parts : above.slots ++ below.slots ≡ g (slots_of (old key)))
      (elsewhere : (j : ℕ) → (j ≡ key → ⊥) → g (slots_of (old j)) ≡ slots_of (old j)) where
    line-divided : (ks : List ℕ) → has fresh ks ≡ false → line new (divided_keys key fresh ks) ≡ g (line old ks)
    line-divided [] h = sym empty
    line-divided (k ∷ ks) h = by (nat_eq key k) refl (line-divided ks (lacks_tail key fresh k ks h))
      where
        by : (b : Bool) → nat_eq key k ≡ b → line new (divided_keys key fresh ks) ≡ g (line old ks) → line new (divided_keys key fresh (k ∷ ks)) ≡ g (line old (k ∷ ks))
        by true e rest =
            let same : key ≡ k = eqb-true key k e in
            ap (λ b. line new (with_fresh_above key fresh b k (divided_keys key fresh ks))) e
            ∙ ap (λ o. slots_of o ++ (slots_of (new k) ++ line new (divided_keys key fresh ks))) divides.upper
            ∙ ap (λ o. above.slots ++ (slots_of o ++ line new (divided_keys key fresh ks))) (ap new (sym same) ∙ divides.lower)
            ∙ sym (append_assoc above.slots below.slots (line new (divided_keys key fresh ks)))
            ∙ ap (λ l. l ++ line new (divided_keys key fresh ks)) (parts ∙ ap (λ j. g (slots_of (old j))) same)
            ∙ ap (λ l. g (slots_of (old k)) ++ l) rest
            ∙ sym (through (slots_of (old k)) (line old ks))
        by false e rest =
            let other : k ≡ key → ⊥ = λ f. eqb-false key k e (sym f) in
            let lacks : k ≡ fresh → ⊥ = λ f. eqb-false fresh k (lacks_head key fresh k ks h) (sym f) in
            ap (λ b. line new (with_fresh_above key fresh b k (divided_keys key fresh ks))) e
            ∙ ap (λ l. l ++ line new (divided_keys key fresh ks)) (ap slots_of (divides.others k other lacks) ∙ sym (elsewhere k other))
            ∙ ap (λ l. g (slots_of (old k)) ++ l) rest
            ∙ sym (through (slots_of (old k)) (line old ks))

    pub branches-divided : (branches : List KeyedBranch) → ((i : ℕ) → has fresh (keys_in branches i) ≡ false)
        → branches_on new (map (divided_branch key fresh) branches) ≡ everywhere g (branches_on old branches)
    branches-divided [] h = refl
    branches-divided (s ∷ ss) h = λ i. branch s.name (line-divided s.keys (h 0) i) ∷ branches-divided ss (λ j. h (suc j)) i

  -- the two parts have cells that the segment had, or new ones
  module _ (branches : List KeyedBranch) (made more : ℕ) (sound : IsSoundTrie old branches made) (grows : made ≤ more)
      (some_above : 0 < length above.slots) (few_above : length above.slots ≤ 128) (some_below : 0 < length below.slots) (few_below : length below.slots ≤ 128)
      (once : Once (map cell_of (above.slots ++ below.slots)))
      (cells : (x : ℕ) → has_cell x (above.slots ++ below.slots) ≡ true → (has_cell x (slots_of (old key)) ≡ true) ⊎ ((made ≤ x) × (x < more))) where
    once_parts : Once (map cell_of above.slots ++ map cell_of below.slots)
    once_parts = subst Once (map-append cell_of above.slots below.slots) once

    in_above : (x : ℕ) → has_cell x above.slots ≡ true → has_cell x (above.slots ++ below.slots) ≡ true
    in_above x h =
        subst (λ l. has x l ≡ true) (sym (map-append cell_of above.slots below.slots)) (has-left x (map cell_of above.slots) (map cell_of below.slots) h)

    in_below : (x : ℕ) → has_cell x below.slots ≡ true → has_cell x (above.slots ++ below.slots) ≡ true
    in_below x h =
        subst (λ l. has x l ≡ true) (sym (map-append cell_of above.slots below.slots)) (has-right x (map cell_of above.slots) (map cell_of below.slots) h)

    -- a key is the cut one, the new one, or another, whose segment is unchanged
    cases : (k : ℕ) (P : ℕ → Type 0) → P key → P fresh → ((k ≡ key → ⊥) → (k ≡ fresh → ⊥) → P k) → P k
    cases k P at_key at_fresh at_other = by (nat_eq k key) refl (nat_eq k fresh) refl
      where
        by : (b : Bool) → nat_eq k key ≡ b → (c : Bool) → nat_eq k fresh ≡ c → P k
        by true e c f = subst P (sym (eqb-true k key e)) at_key
        by false e true f = subst P (sym (eqb-true k fresh f)) at_fresh
        by false e false f = at_other (eqb-false k key e) (eqb-false k fresh f)

    pub lacked-divided : (i : ℕ) → has fresh (keys_in branches i) ≡ false
    lacked-divided i = has_not_from fresh (keys_in branches i) (λ h. true≢false (sym (subst IsSome divides.vacant (sound.held i fresh h))))

    there : (k : ℕ) → IsSome (old k) → IsSome (new k)
    there k = cases k (λ j. IsSome (old j) → IsSome (new j))
        (λ h. subst IsSome (sym divides.lower) refl)
        (λ h. subst IsSome (sym divides.upper) refl)
        (λ a b h. subst IsSome (sym (divides.others k a b)) h)

    held : (i k : ℕ) → has k (keys_in (map (divided_branch key fresh) branches) i) ≡ true → IsSome (new k)
    held i k h = elim (from_divided key fresh k (keys_in branches i) (subst (λ l. has k l ≡ true) (keys_in-divided key fresh branches i) h)) [
      | inl e ↦ subst (λ j. IsSome (new j)) (sym e) (subst IsSome (sym divides.upper) refl)
      | inr g ↦ there k (sound.held i k g)
    ]

    given : (x : ℕ) → has_cell x (above.slots ++ below.slots) ≡ true → x < more
    given x h = elim (cells x h) [
      | inl g ↦ let l : x < made = given_at old made sound.segments sound.apart key x g in omega arith
      | inr g ↦ g.1
    ]

    segments : (k : ℕ) → IfSome (new k) (IsSegment more)
    segments k = cases k (λ j. IfSome (new j) (IsSegment more))
        (subst (λ o. IfSome o (IsSegment more)) (sym divides.lower) (record {
          some = some_below;
          few = few_below;
          once = Once-right (map cell_of above.slots) (map cell_of below.slots) once_parts;
          given = λ x h. given x (in_below x h);
        }))
        (subst (λ o. IfSome o (IsSegment more)) (sym divides.upper) (record {
          some = some_above;
          few = few_above;
          once = Once-left (map cell_of above.slots) (map cell_of below.slots) once_parts;
          given = λ x h. given x (in_above x h);
        }))
        (λ a b. subst (λ o. IfSome o (IsSegment more)) (sym (divides.others k a b)) (IsSegment-weaker made more grows (old k) (sound.segments k)))

    -- no other segment has a cell of the two parts
    outside : (k x : ℕ) → (k ≡ key → ⊥) → has_cell x (above.slots ++ below.slots) ≡ true → has_cell x (slots_of (old k)) ≡ true → ⊥
    outside k x ne h g = elim (cells x h) [
      | inl f ↦ ne (sound.apart k key x g f)
      | inr f ↦ let l : x < made = given_at old made sound.segments sound.apart k x g in omega (arith, f.0)
    ]

    seen : (k x : ℕ) (o : Option (SegmentOf T)) → new k ≡ o → has_cell x (slots_of (new k)) ≡ true → has_cell x (slots_of o) ≡ true
    seen k x o e h = subst (λ p. has_cell x (slots_of p) ≡ true) e h

    apart : (j k x : ℕ) → has_cell x (slots_of (new j)) ≡ true → has_cell x (slots_of (new k)) ≡ true → j ≡ k
    apart j k x = cases j (λ i. has_cell x (slots_of (new i)) ≡ true → has_cell x (slots_of (new k)) ≡ true → i ≡ k)
        (λ a. cases k (λ i. has_cell x (slots_of (new i)) ≡ true → key ≡ i)
        (λ b. refl)
        (λ b. absurd (Once-apart x (map cell_of above.slots) (map cell_of below.slots) once_parts (seen fresh x (Some above) divides.upper b) (seen key x (Some below) divides.lower a)))
        (λ n m b. absurd (outside k x n (in_below x (seen key x (Some below) divides.lower a)) (seen k x (old k) (divides.others k n m) b))))
        (λ a. cases k (λ i. has_cell x (slots_of (new i)) ≡ true → fresh ≡ i)
        (λ b. absurd (Once-apart x (map cell_of above.slots) (map cell_of below.slots) once_parts (seen fresh x (Some above) divides.upper a) (seen key x (Some below) divides.lower b)))
        (λ b. refl)
        (λ n m b. absurd (outside k x n (in_above x (seen fresh x (Some above) divides.upper a)) (seen k x (old k) (divides.others k n m) b))))
        (λ n m a. cases k (λ i. has_cell x (slots_of (new i)) ≡ true → j ≡ i)
        (λ b. absurd (outside j x n (in_below x (seen key x (Some below) divides.lower b)) (seen j x (old j) (divides.others j n m) a)))
        (λ b. absurd (outside j x n (in_above x (seen fresh x (Some above) divides.upper b)) (seen j x (old j) (divides.others j n m) a)))
        (λ o p b. sound.apart j k x (seen j x (old j) (divides.others j n m) a) (seen k x (old k) (divides.others k o p) b)))

    live : (k : ℕ) → IsSome (new k) → (i : ℕ) × (has k (keys_in (map (divided_branch key fresh) branches) i) ≡ true)
    live k = cases k (λ j. IsSome (new j) → (i : ℕ) × (has j (keys_in (map (divided_branch key fresh) branches) i) ≡ true))
        (λ h. kept key (sound.live key divides.was))
        (λ h. let p = sound.live key divides.was in
        (p.0, subst (λ l. has fresh l ≡ true) (sym (keys_in-divided key fresh branches p.0)) (has-new_key key fresh (keys_in branches p.0) p.1)))
        (λ n m h. kept k (sound.live k (subst IsSome (divides.others k n m) h)))
      where
        kept : (j : ℕ) → (i : ℕ) × (has j (keys_in branches i) ≡ true) → (i : ℕ) × (has j (keys_in (map (divided_branch key fresh) branches) i) ≡ true)
        kept j p = (p.0, subst (λ l. has j l ≡ true) (sym (keys_in-divided key fresh branches p.0)) (has-divided key fresh j (keys_in branches p.0) p.1))

    pub sound-divided : IsSoundTrie new (map (divided_branch key fresh) branches) more
    sound-divided = record {
      held = held;
      segments = segments;
      apart = apart;
      live = live;
      shares = record {
        above = above_divided key fresh sound.shares.above;
        linked = λ i. subst (Linked (above_divided key fresh sound.shares.above) None) (sym (keys_in-divided key fresh branches i))
            (linked-divided key fresh sound.shares.above None (keys_in branches i) (lacked-divided i) (sound.shares.linked i));
      };
    }

-- the cut segment is touched, and neither part has a note
pub notes-divided : {T : Type 0} (c d : TrieOf T) (key fresh : ℕ) (above below : SegmentOf T) → Divides (segment_at c.segments) (segment_at d.segments) key fresh above below
    → above.note ≡ None → below.note ≡ None → KeepsNotesExcept c d (λ k. k ≡ key)
notes-divided c d key fresh above below divides none_above none_below = record {
  notes = record {
    touched = Some key;
    kept = λ k ne h. inl (divides.others k (λ e. ne (ap Some (sym e))) (λ e. true≢false (sym (subst IsSome (ap (segment_at c.segments) e ∙ divides.vacant) h))));
    cleared = λ k e. let same : k ≡ key = cc in subst (λ j. note_of (segment_at d.segments j) ≡ None) (sym same) cleared;
    fresh = λ k h. fresh_at k h (nat_eq k key) refl (nat_eq k fresh) refl;
  };
  each = λ k e. ap Some (sym e);
  only = λ k e. cc;
}
  where
    cleared : note_of (segment_at d.segments key) ≡ None
    cleared = ap note_of divides.lower ∙ none_below

    fresh_at : (k : ℕ) → segment_at c.segments k ≡ None → (b : Bool) → nat_eq k key ≡ b → (e : Bool) → nat_eq k fresh ≡ e → note_of (segment_at d.segments k) ≡ None
    fresh_at k h true e f g = subst (λ j. note_of (segment_at d.segments j) ≡ None) (sym (eqb-true k key e)) cleared
    fresh_at k h false e true g = subst (λ j. note_of (segment_at d.segments j) ≡ None) (sym (eqb-true k fresh g)) (ap note_of divides.upper ∙ none_above)
    fresh_at k h false e false g = ap note_of (divides.others k (eqb-false k key e) (eqb-false k fresh g) ∙ h)
