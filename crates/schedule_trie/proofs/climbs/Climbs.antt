-- A path, climbed up from one of its keys.
use Rattle.std.proofs.Common.{◌≡◌, ℕ, suc, ◌+◌, ◌<◌, ◌≤◌, Bool, true, false, ◌||◌, nat_eq, cond, List, [], ◌∷◌, ◌++◌, length, map, position, not, nat_lt, slice_get, Option, Some, None, refl, sym, ap, subst, ◌∙◌, true≢false, arith, eq-eqb, append_assoc, append-nil}
use Rattle.std.proofs.lemmas.Bool.{eqb-true}
use Rattle.std.proofs.lemmas.List.{length-append}
use Rattle.std.specs.List.{position_or_len}
use Rattle.lineage.specs.Family.{last_of}
use Rattle.branch_terms.specs.declared.slot.Slot.{Slot}
use Rattle.branch_terms.specs.Forest.{cell_of, is_cell}
use Rattle.schedule_trie.specs.Trie.{SegmentOf, slots_of, line, has, has_cell, Once, SpotHasCellAt, SpotIsAt}
use Rattle.schedule_trie.specs.Climbs.{keys_up_to, keys_to, HasClimbedTo}
use Rattle.schedule_trie.proofs.lists.NoRepeats.{has-tail, has_not_from, has-in, once_before}
use Rattle.schedule_trie.proofs.branches.Lines.{in_line}
use Rattle.schedule_trie.proofs.edits.Pushes.{line-append}
use Rattle.schedule_trie.proofs.lists.KeyPositions.{parting}
use Rattle.std.proofs.lemmas.Bool.Decides.{nat_tests}
use Rattle.schedule_trie.proofs.lists.Searches.{position_or_len-short, position_or_len-left, position_or_len-right, position_or_len-none, position_or_len-some, position-some, position-none}
use Rattle.branch_terms.proofs.Lists.{slice_get_left, slice_get_right, nat_eq_symmetric}
use Rattle.schedule_trie.proofs.lists.LastKeys.{last_from-parts}

-- if `front` lacks the key, the keys of the path down to the key are `front` and the key
pub up_to-here : (key : ℕ) (front back : List ℕ) → has key front ≡ false → keys_up_to key (front ++ key ∷ back) ≡ front ++ key ∷ []
up_to-here key [] back h = ap (λ b. cond b (key ∷ []) (key ∷ keys_up_to key back)) (eq-eqb key key refl)
up_to-here key (k ∷ front) back h = by (nat_eq key k) refl (up_to-here key front back)
  where
    by : (b : Bool) → nat_eq key k ≡ b → (has key front ≡ false → keys_up_to key (front ++ key ∷ back) ≡ front ++ key ∷ []) → keys_up_to key (k ∷ (front ++ key ∷ back)) ≡ k ∷ (front ++ key ∷ [])
    by true e rest = absurd (true≢false (sym (ap (λ c. c || has key front) e) ∙ h))
    by false e rest = ap (λ b. cond b (k ∷ []) (k ∷ keys_up_to key (front ++ key ∷ back))) e ∙ ap (λ l. k ∷ l) (rest (sym (ap (λ c. c || has key front) e) ∙ h))

-- `last` is the last of these keys, if there are any
pub record IsLast (keys : List ℕ) (last : Option ℕ) : Type 0 where
  pub reached : HasClimbedTo keys last
  pub all : keys_to keys last ≡ keys

-- the keys down to the last of a front are that front
pub front_is : (front back : List ℕ) → Once (front ++ back) → (keys_to (front ++ back) (last_of front) ≡ front) × HasClimbedTo (front ++ back) (last_of front)
front_is [] back once = (refl, tt)
front_is (f ∷ fs) back once =
    let p = last_from-parts fs f f in
    let before = p.1.0 in
    let parts : (f ∷ fs) ++ back ≡ before ++ p.0 ∷ back = ap (λ l. l ++ back) p.1.1.1 ∙ append_assoc before (p.0 ∷ []) back in
    let lacks : has p.0 before ≡ false = once_before before p.0 back (subst Once parts once) in (
      ap (keys_to ((f ∷ fs) ++ back)) p.1.1.0 ∙ ap (keys_up_to p.0) parts ∙ up_to-here p.0 before back lacks ∙ sym p.1.1.1,
      subst (HasClimbedTo ((f ∷ fs) ++ back)) (sym p.1.1.0) (ap (has p.0) parts ∙ has-in p.0 before back),
    )

pub last_is : (keys : List ℕ) → Once keys → IsLast keys (last_of keys)
last_is keys once =
    let all : keys ++ [] ≡ keys = append-nil keys in
    let p = front_is keys [] (subst Once (sym all) once) in
    record { reached = subst (λ l. HasClimbedTo l (last_of keys)) all p.1; all = ap (λ l. keys_to l (last_of keys)) (sym all) ∙ p.0 }

-- one step of a climb: `above` is the key right above `key`; None if `key` is the first
pub record IsStepUp (keys : List ℕ) (key : ℕ) (above : Option ℕ) : Type 0 where
  pub reached : HasClimbedTo keys above
  pub is : keys_up_to key keys ≡ keys_to keys above ++ key ∷ []
  pub back : List ℕ
  pub parts : keys ≡ keys_to keys above ++ key ∷ back

pub step_up : (keys : List ℕ) (key : ℕ) (above : Option ℕ) → Once keys → has key keys ≡ true → ((front back : List ℕ) → keys ≡ front ++ key ∷ back → above ≡ last_of front)
    → IsStepUp keys key above
step_up keys key above once h each =
    let p = parting keys key h in
    let f = front_is p.front (key ∷ p.back) (subst Once p.is once) in
    let up : above ≡ last_of p.front = each p.front p.back p.is in
    let to : keys_to keys above ≡ p.front = (λ i. keys_to (p.is i) (up i)) ∙ f.0 in
    record {
      reached = subst (HasClimbedTo keys) (sym up) (subst (λ l. HasClimbedTo l (last_of p.front)) (sym p.is) f.1);
      is = p.to ∙ ap (λ l. l ++ key ∷ []) (sym to);
      back = p.back;
      parts = p.is ∙ ap (λ l. l ++ key ∷ p.back) (sym to);
    }

-- `position_or_len` is the list's length if the list lacks the cell; if it is less, the list has it
lacks_past : (cell : ℕ) (slots : List Slot) → has_cell cell slots ≡ false → position_or_len (is_cell cell) slots ≡ length slots
lacks_past cell [] h = refl
lacks_past cell (s ∷ ss) h = by (nat_eq cell s.cell) refl (lacks_past cell ss)
  where
    by : (b : Bool) → nat_eq cell s.cell ≡ b → (has_cell cell ss ≡ false → position_or_len (is_cell cell) ss ≡ length ss) → position_or_len (is_cell cell) (s ∷ ss) ≡ length (s ∷ ss)
    by true e rest = absurd (true≢false (sym (ap (λ c. c || has_cell cell ss) e) ∙ h))
    by false e rest =
        let more : 1 + position_or_len (is_cell cell) ss ≡ suc (length ss) = let r = rest (sym (ap (λ c. c || has_cell cell ss) e) ∙ h) in omega (arith, r) in
        ap (λ b. cond (not b) (1 + position_or_len (is_cell cell) ss) 0) (nat_eq_symmetric s.cell cell ∙ e) ∙ more

has_found : (cell : ℕ) (slots : List Slot) (o : ℕ) → position_or_len (is_cell cell) slots ≡ o → o < length slots → has_cell cell slots ≡ true
has_found cell [] o e h = absurd (omega arith)
has_found cell (s ∷ ss) o e h = by (nat_eq s.cell cell) refl (has_found cell ss)
  where
    by : (b : Bool) → nat_eq s.cell cell ≡ b → ((m : ℕ) → position_or_len (is_cell cell) ss ≡ m → m < length ss → has_cell cell ss ≡ true) → has_cell cell (s ∷ ss) ≡ true
    by true f rest = ap (λ b. b || has_cell cell ss) (eq-eqb cell s.cell (sym (eqb-true s.cell cell f)))
    by false f rest =
        let next : 1 + position_or_len (is_cell cell) ss ≡ o = sym (ap (λ b. cond (not b) (1 + position_or_len (is_cell cell) ss) 0) f) ∙ e in
        has-tail cell s.cell (map cell_of ss) (rest (position_or_len (is_cell cell) ss) refl (omega arith))

position-left : {X : Type 0} (p : X → Bool) (xs ys : List X) → position_or_len p ys ≡ length ys → position p (xs ++ ys) ≡ position p xs
position-left p xs ys none = by (nat_lt (position_or_len p xs) (length xs)) refl
  where
    by : (b : Bool) → nat_lt (position_or_len p xs) (length xs) ≡ b → position p (xs ++ ys) ≡ position p xs
    by true h =
        let inside : position_or_len p xs < length xs = grind (arith, nat_tests) in
        let longer : position_or_len p xs < length (xs ++ ys) = subst (λ n. position_or_len p xs < n) (sym (length-append xs ys)) (omega arith) in
        position-some p (xs ++ ys) (position_or_len p xs) (position_or_len-left p xs ys (position_or_len p xs) refl inside) longer ∙ sym (position-some p xs (position_or_len p xs) refl inside)
    by false h =
        let past : length xs ≤ position_or_len p xs = grind (arith, nat_tests) in
        let all : position_or_len p xs ≡ length xs = let m = position_or_len-short p xs in omega (arith, m) in
        let whole : position_or_len p (xs ++ ys) ≡ length (xs ++ ys) = position_or_len-right p xs ys all ∙ ap (λ n. length xs + n) none ∙ sym (length-append xs ys) in
        position-none p (xs ++ ys) whole ∙ sym (position-none p xs all)

module _ {T : Type 0} (at : ℕ → Option (SegmentOf T)) where
  pub line-last : (front : List ℕ) (key : ℕ) → line at (front ++ key ∷ []) ≡ line at front ++ slots_of (at key)
  line-last front key = line-append at front (key ∷ []) ∙ ap (λ l. line at front ++ l) (append-nil (slots_of (at key)))

  -- the number of cells down to a key is the number down to the key above, plus the key's own
  pub cells_up : (keys : List ℕ) (key : ℕ) (above : Option ℕ) → IsStepUp keys key above
      → length (line at (keys_up_to key keys)) ≡ length (line at (keys_to keys above)) + length (slots_of (at key))
  cells_up keys key above s =
      ap (λ l. length (line at l)) s.is ∙ ap length (line-last (keys_to keys above) key) ∙ length-append (line at (keys_to keys above)) (slots_of (at key))

  pub shorter_up : (keys : List ℕ) (key : ℕ) (above : Option ℕ) → IsStepUp keys key above → length (keys_to keys above) < length (keys_up_to key keys)
  shorter_up keys key above s =
      let more : length (keys_up_to key keys) ≡ length (keys_to keys above) + 1 = ap length s.is ∙ length-append (keys_to keys above) (key ∷ []) in
      omega arith

  -- the cells down to a key are at most all cells, and the key's own at most those down to it
  pub cells_within : (keys : List ℕ) (last : Option ℕ) → HasClimbedTo keys last → length (line at (keys_to keys last)) ≤ length (line at keys)
  cells_within keys None h = omega arith
  cells_within keys (Some key) h =
      let p = parting keys key h in
      let whole : length (line at keys) ≡ length (line at p.front) + (length (slots_of (at key)) + length (line at p.back)) =
      ap (λ l. length (line at l)) p.is ∙ ap length (line-append at p.front (key ∷ p.back))
      ∙ length-append (line at p.front) (slots_of (at key) ++ line at p.back)
      ∙ ap (λ n. length (line at p.front) + n) (length-append (slots_of (at key)) (line at p.back)) in
      let own : length (line at (keys_up_to key keys)) ≡ length (line at p.front) + length (slots_of (at key)) =
      ap (λ l. length (line at l)) p.to ∙ ap length (line-last p.front key) ∙ length-append (line at p.front) (slots_of (at key)) in
      omega (arith, whole, own)

  pub cells_own : (keys : List ℕ) (last : Option ℕ) (key : ℕ) → HasClimbedTo keys last → last ≡ Some key → length (slots_of (at key)) ≤ length (line at (keys_to keys last))
  cells_own keys None key h e = absurd (cc)
  cells_own keys (Some k) key h e =
      let same : k ≡ key = cc in
      let p = parting keys k h in
      let own : length (line at (keys_up_to k keys)) ≡ length (line at p.front) + length (slots_of (at k)) =
      ap (λ l. length (line at l)) p.to ∙ ap length (line-last p.front k) ∙ length-append (line at p.front) (slots_of (at k)) in
      let named : length (slots_of (at k)) ≡ length (slots_of (at key)) = ap (λ j. length (slots_of (at j))) same in
      omega (arith, own, named)

  -- a place lies in the key's segment if it is the number of cells above the segment plus an offset
  pub lies_here : (keys : List ℕ) (last : Option ℕ) (key place offset : ℕ) → HasClimbedTo keys last → last ≡ Some key
      → length (line at (keys_to keys last)) + offset ≡ place + length (slots_of (at key)) → offset < length (slots_of (at key)) → SpotIsAt at keys place (key, offset)
  lies_here keys None key place offset h e place_is within = absurd (cc)
  lies_here keys (Some k) key place offset h e place_is within =
      let one : k ≡ key = cc in
      let p = parting keys k h in
      let own : length (line at (keys_up_to k keys)) ≡ length (line at p.front) + length (slots_of (at k)) =
      ap (λ l. length (line at l)) p.to ∙ ap length (line-last p.front k) ∙ length-append (line at p.front) (slots_of (at k)) in
      let named : length (slots_of (at k)) ≡ length (slots_of (at key)) = ap (λ j. length (slots_of (at j))) one in
      record {
        front = p.front;
        back = p.back;
        is = p.is ∙ ap (λ j. p.front ++ j ∷ p.back) one;
        first = subst (λ j. has j p.front ≡ false) one p.lacks;
        before = omega (arith, own, named, place_is);
        within = within;
      }

  -- the cells down to the segment of a place are those before the segment, and the segment's own
  pub cells_to : (keys : List ℕ) (key place offset : ℕ) → (l : SpotIsAt at keys place (key, offset))
      → length (line at (keys_to keys (Some key))) + offset ≡ place + length (slots_of (at key))
  cells_to keys key place offset l =
      let own : length (line at (keys_up_to key keys)) ≡ length (line at l.front) + length (slots_of (at key)) =
      ap (λ ks. length (line at (keys_up_to key ks))) l.is ∙ ap (λ ks. length (line at ks)) (up_to-here key l.front l.back l.first)
      ∙ ap length (line-last l.front key) ∙ length-append (line at l.front) (slots_of (at key)) in
      let before = l.before in
      omega (arith, own, before)

  pub spot_has_cell : (keys : List ℕ) (place : ℕ) (spot : ℕ × ℕ) → SpotIsAt at keys place spot → SpotHasCellAt at keys place spot
  spot_has_cell keys place spot l =
      let whole : line at keys ≡ line at l.front ++ (slots_of (at spot.0) ++ line at l.back) = ap (line at) l.is ∙ line-append at l.front (spot.0 ∷ l.back) in
      record {
        member = ap (has spot.0) l.is ∙ has-in spot.0 l.front l.back;
        within = l.within;
        same = sym (slice_get_left (slots_of (at spot.0)) (line at l.back) spot.1 l.within)
            ∙ sym (slice_get_right (line at l.front) (slots_of (at spot.0) ++ line at l.back) place spot.1 l.before)
            ∙ ap (λ z. slice_get z place) (sym whole);
      }

  -- the first place of a cell, if it is among those down to a key
  module _ (cell : ℕ) (keys : List ℕ) (key : ℕ) (above : Option ℕ) (step : IsStepUp keys key above)
      (apart : (j k x : ℕ) → has_cell x (slots_of (at j)) ≡ true → has_cell x (slots_of (at k)) ≡ true → j ≡ k) (once : Once keys) where
    abbrev front : List ℕ
    front = keys_to keys above

    lacks_front : has_cell cell (slots_of (at key)) ≡ true → has_cell cell (line at front) ≡ false
    lacks_front here = has_not_from cell (map cell_of (line at front)) (λ h.
        let p = in_line at cell front h in
        let same : p.0 ≡ key = apart p.0 key cell p.2 here in
        true≢false (sym (subst (λ k. has k front ≡ true) same p.1) ∙ once_before front key step.back (subst Once step.parts once)))

    whole : line at (keys_up_to key keys) ≡ line at front ++ slots_of (at key)
    whole = ap (line at) step.is ∙ line-last front key

    pub place_up : (o : ℕ) → Some o ≡ position (is_cell cell) (slots_of (at key)) → position (is_cell cell) (line at (keys_up_to key keys)) ≡ Some (length (line at front) + o)
    place_up o e =
        let found = position_or_len-some (is_cell cell) (slots_of (at key)) o (sym e) in
        let past : position_or_len (is_cell cell) (line at front) ≡ length (line at front) = lacks_past cell (line at front) (lacks_front (has_found cell (slots_of (at key)) o found.0 found.1)) in
        let sum : position_or_len (is_cell cell) (line at front ++ slots_of (at key)) ≡ length (line at front) + o =
        position_or_len-right (is_cell cell) (line at front) (slots_of (at key)) past ∙ ap (λ n. length (line at front) + n) found.0 in
        let inside : length (line at front) + o < length (line at front ++ slots_of (at key)) =
        subst (λ n. length (line at front) + o < n) (sym (length-append (line at front) (slots_of (at key)))) (omega (arith, found.1)) in
        ap (position (is_cell cell)) whole ∙ position-some (is_cell cell) (line at front ++ slots_of (at key)) (length (line at front) + o) sum inside

    pub place_above : None ≡ position (is_cell cell) (slots_of (at key)) → position (is_cell cell) (line at (keys_up_to key keys)) ≡ position (is_cell cell) (line at front)
    place_above e = ap (position (is_cell cell)) whole ∙ position-left (is_cell cell) (line at front) (slots_of (at key)) (position_or_len-none (is_cell cell) (slots_of (at key)) (sym e))
