-- Marking keys of a path one by one.
use Rattle.std.proofs.Common.{◌≡◌, ℕ, ◌+◌, ◌<◌, ◌≤◌, ◌^◌, Bool, true, false, ◌||◌, nat_eq, List, [], ◌∷◌, ◌++◌, length, take, get_or, set, Option, Some, None, refl, sym, ap, subst, ◌∙◌, true≢false, arith}
use Rattle.std.proofs.lemmas.Bool.{eqb-true, eqb-false, or_parts}
use Rattle.std.proofs.lemmas.List.{length-append, length-set, take_more, get_or-set_same, get_or-set_other, take_all}
use Rattle.schedule_trie.specs.declared.mark.Mark.{Mark}
use Rattle.schedule_trie.specs.Trie.{SegmentOf, slots_of, line, has, Once}
use Rattle.schedule_trie.specs.Climbs.{keys_up_to}
use Rattle.schedule_trie.specs.Marks.{mark, mark_at, AreMarked}
use Rattle.schedule_trie.proofs.climbs.Climbs.{up_to-here, line-last}
use Rattle.schedule_trie.proofs.lists.NoRepeats.{has-append, has_cases, has-in, once_before}
use Rattle.schedule_trie.proofs.edits.Pushes.{line-append}
use Rattle.schedule_trie.proofs.lists.ListParts.{split_at}

-- the first i of these keys are marked
pub record AreMarkedSoFar {T : Type 0} (at : ℕ → Option (SegmentOf T)) (old new : List (Option Mark)) (keys : List ℕ) (branch above i cells : ℕ) : Type 0 where
  pub count : length new ≡ length old
  pub cells_are : cells ≡ above + length (line at (take i keys))
  pub marked : (k : ℕ) → has k (take i keys) ≡ true → mark_at new k ≡ Some (mark branch (above + length (line at (keys_up_to k keys))))
  pub others : (k : ℕ) → has k (take i keys) ≡ false → mark_at new k ≡ mark_at old k

module _ {T : Type 0} (at : ℕ → Option (SegmentOf T)) (old : List (Option Mark)) (keys : List ℕ) (branch above : ℕ) where
  pub marked_none : AreMarkedSoFar at old old keys branch above 0 above
  marked_none = record { count = refl; cells_are = omega arith; marked = λ k h. absurd (true≢false (sym h)); others = λ k h. refl }

  module _ (new : List (Option Mark)) (i cells key : ℕ) (less : i < length keys) (here : get_or keys i key ≡ key) where
    more : take (i + 1) keys ≡ take i keys ++ key ∷ []
    more = take_more keys i key less ∙ ap (λ z. take i keys ++ z ∷ []) here

    sum : length (line at (take (i + 1) keys)) ≡ length (line at (take i keys)) + length (slots_of (at key))
    sum = ap (λ l. length (line at l)) more ∙ ap length (line-last at (take i keys) key) ∙ length-append (line at (take i keys)) (slots_of (at key))

    parts : (back : List ℕ) × (keys ≡ take i keys ++ key ∷ back)
    parts = split_at keys i key less here

    whole : length (line at keys) ≡ length (line at (take i keys)) + (length (slots_of (at key)) + length (line at parts.0))
    whole =
        ap (λ l. length (line at l)) parts.1 ∙ ap length (line-append at (take i keys) (key ∷ parts.0))
        ∙ length-append (line at (take i keys)) (slots_of (at key) ++ line at parts.0)
        ∙ ap (λ n. length (line at (take i keys)) + n) (length-append (slots_of (at key)) (line at parts.0))

    pub key_among : has key keys ≡ true
    key_among = ap (has key) parts.1 ∙ has-in key (take i keys) parts.0

    pub cells_fit : cells ≡ above + length (line at (take i keys)) → above + length (line at keys) < 2 ^ 32 → cells + length (slots_of (at key)) < 2 ^ 32
    cells_fit e few = let w = whole in omega arith

    up_to : Once keys → keys_up_to key keys ≡ take (i + 1) keys
    up_to once =
        ap (keys_up_to key) parts.1
        ∙ up_to-here key (take i keys) parts.0 (once_before (take i keys) key parts.0 (subst Once parts.1 once)) ∙ sym more

    pub marked_more : Once keys → key < length old → AreMarkedSoFar at old new keys branch above i cells → (len : ℕ) → len ≡ length (slots_of (at key))
        → AreMarkedSoFar at old (set new key (Some (mark branch (cells + len)))) keys branch above (i + 1) (cells + len)
    marked_more once inside so len long =
        let total : cells + len ≡ above + length (line at (take (i + 1) keys)) = let a = so.cells_are in let b = sum in omega arith in
        let place : key < length new = let c = so.count in omega arith in
        record {
          count = length-set new key (Some (mark branch (cells + len))) ∙ so.count;
          cells_are = total;
          marked = λ k h. by_key k (nat_eq k key) refl (λ e.
              ap (mark_at (set new key (Some (mark branch (cells + len))))) e ∙ get_or-set_same new key (Some (mark branch (cells + len))) None place
              ∙ ap (λ n. Some (mark branch n)) (total ∙ ap (λ l. above + length (line at l)) (sym (ap (λ z. keys_up_to z keys) e ∙ up_to once))))
              (λ ne e. get_or-set_other new key k (Some (mark branch (cells + len))) None ne ∙ so.marked k (sym (in_more k) ∙ in_front k ne e h));
          others = λ k h. by_other k h;
        }
      where
        in_more : (k : ℕ) → has k (take i keys) ≡ has k (take i keys)
        in_more k = refl

        in_front : (k : ℕ) → (k ≡ key → ⊥) → nat_eq k key ≡ false → has k (take (i + 1) keys) ≡ true → has k (take i keys) ≡ true
        in_front k ne e h = by (has k (take i keys)) refl
          where
            split : (has k (take i keys) || has k (key ∷ [])) ≡ true
            split = sym (has-append k (take i keys) (key ∷ [])) ∙ sym (ap (has k) more) ∙ h

            by : (b : Bool) → has k (take i keys) ≡ b → has k (take i keys) ≡ true
            by true f = f
            by false f = absurd (has_cases k key [] ⊥ (sym (ap (λ b. b || has k (key ∷ [])) f) ∙ split) ne (λ r. true≢false (sym r)))

        by_key : {P : Type 0} (k : ℕ) (b : Bool) → nat_eq k key ≡ b → (k ≡ key → P) → ((k ≡ key → ⊥) → nat_eq k key ≡ false → P) → P
        by_key k true e same other = same (eqb-true k key e)
        by_key k false e same other = other (eqb-false k key e) e

        by_other : (k : ℕ) → has k (take (i + 1) keys) ≡ false → mark_at (set new key (Some (mark branch (cells + len)))) k ≡ mark_at old k
        by_other k h =
            let split : (has k (take i keys) || has k (key ∷ [])) ≡ false = sym (has-append k (take i keys) (key ∷ [])) ∙ sym (ap (has k) more) ∙ h in
            let ne : k ≡ key → ⊥ = λ e. true≢false (sym (ap (λ z. has z (take (i + 1) keys)) e ∙ ap (has key) more ∙ has-in key (take i keys) []) ∙ h) in
            get_or-set_other new key k (Some (mark branch (cells + len))) None ne ∙ so.others k (or_parts (has k (take i keys)) (has k (key ∷ [])) split).0

  pub marked_all : (new : List (Option Mark)) (i cells : ℕ) → length keys ≤ i → AreMarkedSoFar at old new keys branch above i cells → AreMarked at old new keys branch above
  marked_all new i cells end so =
      let all = take_all i keys end in
      record {
        count = so.count;
        marked = λ k h. so.marked k (ap (has k) all ∙ h);
        others = λ k h. so.others k (ap (has k) all ∙ h);
      }
