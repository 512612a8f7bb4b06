-- The limbs of a forest are lawful.
use Rattle.std.proofs.Common.{◌≡◌, ℕ, zero, suc, ◌+◌, ◌<◌, ◌≤◌, Bool, true, false, not, ◌&&◌, ◌||◌, cond, nat_eq, nat_lt, nat_le, List, [], ◌∷◌, ◌++◌, length, map, take, drop, slice_get, position, Some, None, refl, sym, ap, subst, ◌∙◌, true≢false, arith, append_assoc, append-nil, length-drop}
use Rattle.std.specs.List.{list_any, list_all, prefix_len, position_or_len}
use Rattle.std.specs.Option.{IfSome}
use Rattle.std.specs.Cmp.Lexicographic.{pointwise}
use Rattle.std.proofs.lemmas.Bool.Decides.{nat_tests}
use Rattle.std.proofs.lemmas.Bool.{or_right, and_parts, and_from}
use Rattle.std.proofs.lemmas.Option.{slice_get_within}
use Rattle.std.proofs.lemmas.List.{length-map, map-append, length-take-le}
use Rattle.std.proofs.lemmas.List.Sums.{prefix_len-le-length}
use Rattle.branch_terms.specs.declared.slot.Slot.{Slot}
use Rattle.branch_terms.specs.Forest.{Forest, Branch, slots_in, step_of, cell_in, name_of, name_in, AreNamedApart, IsForest}
use Rattle.branch_terms.specs.Limbs.{has_slot, holds, is_in_branches, shared_with, first_with, limb_of, limbs_after, limbs, limb_length, is_own_of, is_new_name, has_name, may_share, are_lawful_after, is_name, HaveNames, AreLawfulLimbs}
use Rattle.branch_terms.proofs.LimbLists.{has_slot_cases, any_which, IsFirst, first_has}
use Rattle.branch_terms.proofs.LimbsAgain.{limbs_after-put}
use Rattle.branch_terms.proofs.Lists.{by_order, cell_in_at, slice_get_some}

-- two lists of cells are equal up to each cell that both have
abbrev pub AreSameUpTo : List Slot → List Slot → Type 0
AreSameUpTo xs ys = (a b : ℕ) (s t : Slot) → slice_get xs a ≡ Some s → slice_get ys b ≡ Some t → s.cell ≡ t.cell → take (suc a) xs ≡ take (suc b) ys

pub slots_at : (bs : List Branch) (i : ℕ) (b : Branch) → slice_get bs i ≡ Some b → slots_in bs i ≡ b.slots
slots_at [] i b e = cc
slots_at (c ∷ bs) zero b e = let same : c ≡ b = cc in ap (λ z. z.slots) same
slots_at (c ∷ bs) (suc i) b e = slots_at bs i b e

pub slots_in-left : (bs cs : List Branch) (i : ℕ) → i < length bs → slots_in (bs ++ cs) i ≡ slots_in bs i
slots_in-left [] cs i h = absurd (omega arith)
slots_in-left (b ∷ bs) cs zero h = refl
slots_in-left (b ∷ bs) cs (suc i) h = slots_in-left bs cs i (omega arith)

pub slots_in-next : (bs cs : List Branch) (b : Branch) → slots_in (bs ++ b ∷ cs) (length bs) ≡ b.slots
slots_in-next [] cs b = refl
slots_in-next (c ∷ bs) cs b = slots_in-next bs cs b

pub slots_in-first : (n : ℕ) (bs : List Branch) (j x : ℕ) → has_slot x (slots_in (take n bs) j) ≡ true → (j < n) × (has_slot x (slots_in bs j) ≡ true)
slots_in-first zero bs j x h = absurd (true≢false (sym h))
slots_in-first (suc n) [] j x h = absurd (true≢false (sym h))
slots_in-first (suc n) (b ∷ bs) zero x h = (omega arith, h)
slots_in-first (suc n) (b ∷ bs) (suc j) x h = let r = slots_in-first n bs j x h in (omega (arith, r.0), r.1)

pub place_of_cell : (x : ℕ) (xs : List Slot) → has_slot x xs ≡ true → (b : ℕ) × (t : Slot) × (slice_get xs b ≡ Some t) × (t.cell ≡ x)
place_of_cell x [] h = absurd (true≢false (sym h))
place_of_cell x (s ∷ xs) h =
    has_slot_cases x s xs ((b : ℕ) × (t : Slot) × (slice_get (s ∷ xs) b ≡ Some t) × (t.cell ≡ x)) h
    (λ e. (0, s, refl, sym e)) (λ r. let p = place_of_cell x xs r in (suc p.0, p.1, p.2, p.3))

module _ {X : Type 0} (test : X → Bool) where
  pub passes_at : (xs : List X) (k : ℕ) (s : X) → slice_get xs k ≡ Some s → k < prefix_len test xs → test s ≡ true
  passes_at [] k s e h = cc
  passes_at (x ∷ xs) k s e h = by (passes_at xs) (test x) refl k e h
    where
      by : ((j : ℕ) (y : X) → slice_get xs j ≡ Some y → j < prefix_len test xs → test y ≡ true) → (b : Bool) → test x ≡ b
          → (j : ℕ) → slice_get (x ∷ xs) j ≡ Some s → j < cond b (1 + prefix_len test xs) 0 → test s ≡ true
      by rest true f zero g less = let same : x ≡ s = cc in ap test (sym same) ∙ f
      by rest true f (suc j) g less = rest j s g (omega arith)
      by rest false f j g less = absurd (omega arith)

pub limbs_at : (pre bs : List Branch) (i : ℕ) (b : Branch) → slice_get bs i ≡ Some b → slice_get (limbs_after pre bs) i ≡ Some (limb_of (pre ++ take i bs) b)
limbs_at pre [] i b e = cc
limbs_at pre (c ∷ bs) zero b e = let same : c ≡ b = cc in ap (λ z. Some (limb_of pre z)) same ∙ ap (λ l. Some (limb_of l b)) (sym (append-nil pre))
limbs_at pre (c ∷ bs) (suc i) b e = limbs_at (pre ++ c ∷ []) bs i b e ∙ ap (λ l. Some (limb_of l b)) (append_assoc pre (c ∷ []) (take i bs))

all_three : (a b c : Bool) → a ≡ true → b ≡ true → c ≡ true → (a && (b && c)) ≡ true
all_three a b c h g e = and_from a (b && c) h (and_from b c g e)

length_of_limb : (earlier : List Branch) (b : Branch) → limb_length (limb_of earlier b) ≡ length b.slots
length_of_limb earlier b =
    let n = shared_with earlier b.slots in
    let most = prefix_len-le-length (is_in_branches earlier) b.slots in
    let rest : length (map step_of (drop n b.slots)) ≡ length (drop n b.slots) = length-map (drop n b.slots) step_of in
    let len = length-drop n b.slots in
    omega arith

module _ (earlier : List Branch) (b : Branch) (agree : (j : ℕ) → j < length earlier → AreSameUpTo b.slots (slots_in earlier j)) where
  module _ (k : ℕ) (last : suc k ≡ shared_with earlier b.slots) (s : Slot) (here : slice_get b.slots k ≡ Some s) where
    abbrev stem : ℕ
    stem = position_or_len (holds s.cell) earlier

    first : IsFirst earlier s.cell stem
    first = first_has earlier s.cell (passes_at (is_in_branches earlier) b.slots k s here (omega arith))

    module _ (c : Branch) (there : slice_get earlier stem ≡ Some c) (t : Slot) (at : slice_get c.slots k ≡ Some t) (same : t.cell ≡ s.cell) where
      more : shared_with (take stem earlier) c.slots < suc k
      more = by_order k (shared_with (take stem earlier) c.slots) (shared_with (take stem earlier) c.slots < suc k)
          (λ less. let w = any_which (take stem earlier) t.cell (passes_at (is_in_branches (take stem earlier)) c.slots k t at less) in
          let r = slots_in-first stem earlier w.0 t.cell w.1 in
          absurd (true≢false (sym (subst (λ x. has_slot x (slots_in earlier w.0) ≡ true) same r.1) ∙ first.none_before w.0 r.0)))
          (λ e. omega arith)
          (λ e. omega arith)

      within : suc k ≤ length c.slots
      within = slice_get_within c.slots k t at

      is_own : is_own_of (slice_get (limbs_after [] earlier) stem) (suc k) ≡ true
      is_own =
          let m = more in
          let l = length_of_limb (take stem earlier) c in
          let w = within in
          let a : nat_lt (shared_with (take stem earlier) c.slots) (suc k) ≡ true = grind (arith, nat_tests) in
          let e : nat_le (suc k) (limb_length (limb_of (take stem earlier) c)) ≡ true = grind (arith, nat_tests) in
          ap (λ o. is_own_of o (suc k)) (limbs_at [] earlier stem c there) ∙ ap (λ z. z && nat_le (suc k) (limb_length (limb_of (take stem earlier) c))) a ∙ e

    own_there : is_own_of (slice_get (limbs_after [] earlier) stem) (suc k) ≡ true
    own_there =
        let c = slice_get_some earlier stem first.within in
        let slots = slots_at earlier stem c.0 c.1 in
        let p = place_of_cell s.cell c.0.slots (subst (λ xs. has_slot s.cell xs ≡ true) slots first.has_it) in
        let up : take (suc k) b.slots ≡ take (suc p.0) c.0.slots = subst (λ xs. AreSameUpTo b.slots xs) slots (agree stem first.within) k p.0 s p.1 here p.2 (sym p.3) in
        let most = prefix_len-le-length (is_in_branches earlier) b.slots in
        let left : length (take (suc k) b.slots) ≡ suc k = length-take-le (suc k) b.slots (omega arith) in
        let right : length (take (suc p.0) c.0.slots) ≡ suc p.0 = length-take-le (suc p.0) c.0.slots (slice_get_within c.0.slots p.0 p.1 p.2) in
        let places : p.0 ≡ k = let e : length (take (suc k) b.slots) ≡ length (take (suc p.0) c.0.slots) = ap length up in omega arith in
        is_own c.0 c.1 p.1 (subst (λ n. slice_get c.0.slots n ≡ Some p.1) places p.2) p.3

  shares_at : (k : ℕ) → k ≡ shared_with earlier b.slots
      → ((nat_eq (first_with earlier b.slots k) 0 && nat_eq k 0) || is_own_of (slice_get (limbs_after [] earlier) (first_with earlier b.slots k)) k) ≡ true
  shares_at zero e = refl
  shares_at (suc k) e =
      let most = prefix_len-le-length (is_in_branches earlier) b.slots in
      let s = slice_get_some b.slots k (omega arith) in
      let cell : cell_in b.slots k ≡ s.0.cell = cell_in_at b.slots k s.0 s.1 in
      or_right (nat_eq (first_with earlier b.slots (suc k)) 0 && nat_eq (suc k) 0) (is_own_of (slice_get (limbs_after [] earlier) (first_with earlier b.slots (suc k))) (suc k))
      (subst (λ x. is_own_of (slice_get (limbs_after [] earlier) (position_or_len (holds x) earlier)) (suc k) ≡ true) (sym cell) (own_there k e s.0 s.1))

  pub limb_may_share : may_share (limbs_after [] earlier) (limb_of earlier b) ≡ true
  limb_may_share = shares_at (shared_with earlier b.slots) refl

-- an index that `position` finds is the one that `position_or_len` gives
position_is : {X : Type 0} (p : X → Bool) (xs : List X) (o : ℕ) → position p xs ≡ Some o → position_or_len p xs ≡ o
position_is p xs o e = by (nat_lt (position_or_len p xs) (length xs)) refl
  where
    by : (b : Bool) → nat_lt (position_or_len p xs) (length xs) ≡ b → position_or_len p xs ≡ o
    by true f = let found : Some (position_or_len p xs) ≡ Some o = sym (ap (λ c. cond c (Some (position_or_len p xs)) None) f) ∙ e in cc
    by false f = let none : None ≡ Some o = sym (ap (λ c. cond c (Some (position_or_len p xs)) None) f) ∙ e in cc

-- one of these limbs has the name exactly if one of their branches has it
limb_names : (name : List ℕ) (pre bs : List Branch) → list_any (has_name name) (limbs_after pre bs) ≡ list_any (pointwise nat_eq name) (map name_of bs)
limb_names name pre [] = refl
limb_names name pre (b ∷ bs) = ap (λ z. pointwise nat_eq name b.name || z) (limb_names name (pre ++ b ∷ []) bs)

none_before_position : {X : Type 0} (p : X → Bool) (xs ys : List X) → length xs ≤ position_or_len p (xs ++ ys) → list_any p xs ≡ false
none_before_position p [] ys h = refl
none_before_position p (x ∷ xs) ys h = by (none_before_position p xs ys) (p x) refl h
  where
    by : (length xs ≤ position_or_len p (xs ++ ys) → list_any p xs ≡ false) → (b : Bool) → p x ≡ b
        → suc (length xs) ≤ cond (not (p x)) (1 + position_or_len p (xs ++ ys)) 0 → list_any p (x ∷ xs) ≡ false
    by rest true e less = let none : cond (not (p x)) (1 + position_or_len p (xs ++ ys)) 0 ≡ 0 = ap (λ c. cond (not c) (1 + position_or_len p (xs ++ ys)) 0) e in absurd (omega arith)
    by rest false e less =
        let more : cond (not (p x)) (1 + position_or_len p (xs ++ ys)) 0 ≡ 1 + position_or_len p (xs ++ ys) = ap (λ c. cond (not c) (1 + position_or_len p (xs ++ ys)) 0) e in
        ap (λ c. c || list_any p xs) e ∙ rest (omega arith)

name_next : (bs cs : List Branch) (b : Branch) → name_in (bs ++ b ∷ cs) (length bs) ≡ Some b.name
name_next [] cs b = refl
name_next (c ∷ bs) cs b = name_next bs cs b

name_form_next : (bs cs : List Branch) (b : Branch) → list_all is_name (map name_of (bs ++ b ∷ cs)) ≡ true → is_name b.name ≡ true
name_form_next [] cs b h = (and_parts (is_name b.name) (list_all is_name (map name_of cs)) h).0
name_form_next (c ∷ bs) cs b h = name_form_next bs cs b (and_parts (is_name c.name) (list_all is_name (map name_of (bs ++ b ∷ cs))) h).1

name_is_new : (bs cs : List Branch) (b : Branch) → AreNamedApart (bs ++ b ∷ cs) → is_name b.name ≡ true → is_new_name (limbs_after [] bs) b.name ≡ true
name_is_new bs cs b apart formed =
    let names : map name_of (bs ++ b ∷ cs) ≡ map name_of bs ++ map name_of (b ∷ cs) = map-append name_of bs (b ∷ cs) in
    let own : position (pointwise nat_eq b.name) (map name_of (bs ++ b ∷ cs)) ≡ Some (length bs) =
    subst (λ o. IfSome o (λ name. position (pointwise nat_eq name) (map name_of (bs ++ b ∷ cs)) ≡ Some (length bs))) (name_next bs cs b) (apart (length bs)) in
    let place = position_is (pointwise nat_eq b.name) (map name_of (bs ++ b ∷ cs)) (length bs) own in
    let len = length-map bs name_of in
    let same : position_or_len (pointwise nat_eq b.name) (map name_of bs ++ map name_of (b ∷ cs)) ≡ length bs = ap (position_or_len (pointwise nat_eq b.name)) (sym names) ∙ place in
    let none : list_any (pointwise nat_eq b.name) (map name_of bs) ≡ false = none_before_position (pointwise nat_eq b.name) (map name_of bs) (map name_of (b ∷ cs)) (omega arith) in
    ap (λ c. c && not (list_any (has_name b.name) (limbs_after [] bs))) formed ∙ ap not (limb_names b.name [] bs ∙ none)

lawful_from : (f : Forest) → IsForest f → HaveNames f.branches → (earlier rest : List Branch) → f.branches ≡ earlier ++ rest
    → are_lawful_after (limbs_after [] earlier) (limbs_after earlier rest) ≡ true
lawful_from f h n earlier [] e = refl
lawful_from f h n earlier (b ∷ bs) e =
    let new : is_new_name (limbs_after [] earlier) b.name ≡ true =
    name_is_new earlier bs b (subst AreNamedApart e h.apart) (name_form_next earlier bs b (subst (λ l. list_all is_name (map name_of l) ≡ true) e n)) in
    let here : slots_in f.branches (length earlier) ≡ b.slots = ap (λ l. slots_in l (length earlier)) e ∙ slots_in-next earlier bs b in
    let agree : (j : ℕ) → j < length earlier → AreSameUpTo b.slots (slots_in earlier j) = λ j less.
    subst (λ xs. AreSameUpTo xs (slots_in earlier j)) here
    (subst (λ ys. AreSameUpTo (slots_in f.branches (length earlier)) ys) (ap (λ l. slots_in l j) e ∙ slots_in-left earlier (b ∷ bs) j less) (h.shared (length earlier) j)) in
    let rest = lawful_from f h n (earlier ++ b ∷ []) bs (e ∙ sym (append_assoc earlier (b ∷ []) bs)) in
    all_three (is_new_name (limbs_after [] earlier) b.name) (may_share (limbs_after [] earlier) (limb_of earlier b))
    (are_lawful_after (limbs_after [] earlier ++ limb_of earlier b ∷ []) (limbs_after (earlier ++ b ∷ []) bs))
    new (limb_may_share earlier b agree)
    (subst (λ l. are_lawful_after l (limbs_after (earlier ++ b ∷ []) bs) ≡ true) (limbs_after-put [] earlier b) rest)

-- the limbs of a forest are lawful
pub limbs_lawful : (f : Forest) → IsForest f → HaveNames f.branches → AreLawfulLimbs (limbs f)
limbs_lawful f h n = lawful_from f h n [] f.branches refl
