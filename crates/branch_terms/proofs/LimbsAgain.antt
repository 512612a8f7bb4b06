-- The limbs of the forest that limbs describe are these limbs.
use Rattle.std.proofs.Common.{◌≡◌, ℕ, zero, suc, ◌+◌, ◌<◌, ◌≤◌, Bool, true, false, ◌&&◌, ◌||◌, nat_eq, nat_lt, nat_le, List, [], ◌∷◌, ◌++◌, length, map, take, drop, slice_get, Option, Some, None, refl, sym, ap, subst, ◌∙◌, true≢false, arith, append_assoc, append-nil}
use Rattle.std.proofs.lemmas.Bool.{eqb-true, and_parts, false_from_ne_true}
use Rattle.std.proofs.lemmas.Bool.Decides.{nat_tests}
use Rattle.std.proofs.lemmas.List.{length-append, length-take-le}
use Rattle.std.proofs.Math.Seq.{drop-append_seam}
use Rattle.schedule_steps.specs.declared.types.Step.{Step}
use Rattle.branch_terms.specs.declared.slot.Slot.{Slot}
use Rattle.branch_terms.specs.declared.limb.Limb.{Limb}
use Rattle.branch_terms.specs.Forest.{Forest, Branch, branch, numbered, slots_in, step_of, cell_in}
use Rattle.branch_terms.specs.Limbs.{has_slot, is_in_branches, shared_with, first_with, limb_of, limbs_after, limbs, slots_on, with_limb, with_limbs, no_branches, forest_of, limb_length, own_cell_count, is_own_of, is_new_name, may_share, are_lawful_after, AreLawfulLimbs}
use Rattle.branch_terms.proofs.LimbLists.{has_slot-append, numbered_below, slots_in-front, slots_in-last, slots_in-past, any_from, any_none, first_is, StopsAt, prefix_is, all_in, has_taken, cell_in-has, cell_in-taken, cell_in-own, steps-numbered}
use Rattle.branch_terms.proofs.Lists.{by_order, slice_get-last, slice_get_left}
use Rattle.branch_terms.proofs.LimbLists.{length-numbered}
use Rattle.std.proofs.lemmas.Option.{slice_get_within}

-- `from` of limb l is the index of an earlier limb, `stem`; the last cell that l shares is one of
-- the own cells of the branch of `stem`
pub record SharesOf (earlier : List Limb) (l : Limb) : Type 0 where
  pub stem : Limb
  pub there : slice_get earlier l.from ≡ Some stem
  pub more : stem.shared < l.shared
  pub within : l.shared ≤ limb_length stem

-- limb l shares no cells, and its `from` is 0
pub record SharesNone (l : Limb) : Type 0 where
  pub from : l.from ≡ 0
  pub shared : l.shared ≡ 0

own_parts : (o : Option Limb) (k : ℕ) → is_own_of o k ≡ true → (p : Limb) × (o ≡ Some p) × (p.shared < k) × (k ≤ limb_length p)
own_parts None k h = absurd (true≢false (sym h))
own_parts (Some p) k h =
    let r = and_parts (nat_lt p.shared k) (nat_le k (limb_length p)) h in
    let a = r.0 in
    let b = r.1 in (p, refl, grind (arith, nat_tests), grind (arith, nat_tests))

pub may_share_parts : (earlier : List Limb) (l : Limb) (P : Type 0) → may_share earlier l ≡ true → (SharesNone l → P) → (SharesOf earlier l → P) → P
may_share_parts earlier l P h none some = by (nat_eq l.from 0 && nat_eq l.shared 0) refl
  where
    by : (b : Bool) → (nat_eq l.from 0 && nat_eq l.shared 0) ≡ b → P
    by true e = let r = and_parts (nat_eq l.from 0) (nat_eq l.shared 0) e in none (record { from = eqb-true l.from 0 r.0; shared = eqb-true l.shared 0 r.1 })
    by false e =
        let r = own_parts (slice_get earlier l.from) l.shared (sym (ap (λ c. c || is_own_of (slice_get earlier l.from) l.shared) e) ∙ h) in
        some (record { stem = r.0; there = r.1; more = r.2; within = r.3 })

-- What holds of a forest f that is built from these limbs: it has a branch for each limb, of the
-- limb's length, whose own cells no earlier branch has; and each cell's number is below `made`.
pub record IsBuiltFrom (earlier : List Limb) (f : Forest) : Type 0 where
  pub count : length f.branches ≡ length earlier
  pub sizes : (i : ℕ) (p : Limb) → slice_get earlier i ≡ Some p → length (slots_in f.branches i) ≡ limb_length p
  pub given : (i x : ℕ) → has_slot x (slots_in f.branches i) ≡ true → x < f.made
  pub own : (i j k : ℕ) (p : Limb) → slice_get earlier i ≡ Some p → j < i → p.shared ≤ k → k < limb_length p
      → has_slot (cell_in (slots_in f.branches i) k) (slots_in f.branches j) ≡ false

pub built_from_none : IsBuiltFrom [] no_branches
built_from_none = record {
  count = refl;
  sizes = λ i p e. cc;
  given = λ i x h. absurd (true≢false (sym h));
  own = λ i j k p e a b c. cc;
}

module _ (earlier : List Limb) (f : Forest) (l : Limb) (h : IsBuiltFrom earlier f) (may : may_share earlier l ≡ true) where
  abbrev bs : List Branch
  bs = f.branches

  abbrev stem : List Slot
  stem = slots_in bs l.from

  pub shared_within_stem : l.shared ≤ length stem
  shared_within_stem = may_share_parts earlier l (l.shared ≤ length stem) may (λ n. omega (arith, n.shared))
      (λ s. let e = h.sizes l.from s.stem s.there in let w = s.within in omega arith)

  abbrev front : List Slot
  front = take l.shared stem

  length-front : length front ≡ l.shared
  length-front = length-take-le l.shared stem shared_within_stem

  fresh : (x : ℕ) → f.made ≤ x → (j : ℕ) → has_slot x (slots_in bs j) ≡ false
  fresh x old j = false_from_ne_true (has_slot x (slots_in bs j)) (λ e. let less = h.given j x e in omega arith)

  stops : (n : ℕ) → f.made ≤ n → (steps : List Step) → StopsAt (is_in_branches bs) (numbered n steps)
  stops n old [] = tt
  stops n old (s ∷ ss) = any_none bs n (fresh n old)

  shared_is : shared_with bs (slots_on f l) ≡ l.shared
  shared_is =
      prefix_is (is_in_branches bs) front (numbered f.made l.steps)
      (all_in bs front (λ x e. any_from bs l.from x (has_taken l.shared x stem e)))
      (stops f.made (omega arith) l.steps)
      ∙ length-front

  from_is : (k : ℕ) → k ≡ l.shared → first_with bs (slots_on f l) k ≡ l.from
  from_is zero e = may_share_parts earlier l (0 ≡ l.from) may (λ n. sym n.from) (λ s. let m = s.more in absurd (omega arith))
  from_is (suc k) e =
      may_share_parts earlier l (first_with bs (slots_on f l) (suc k) ≡ l.from) may
      (λ n. let m = n.shared in absurd (omega arith))
      (λ s. let size = h.sizes l.from s.stem s.there in
      let more = s.more in
      let within = s.within in
      let here : cell_in (slots_on f l) k ≡ cell_in stem k = cell_in-taken stem (numbered f.made l.steps) l.shared k (omega arith) (omega arith) in
      first_is bs l.from (cell_in (slots_on f l) k)
      (subst (λ x. has_slot x stem ≡ true) (sym here) (cell_in-has stem k (omega arith)))
      (λ j less. subst (λ x. has_slot x (slots_in bs j) ≡ false) (sym here) (h.own l.from j k s.stem s.there less (omega arith) (omega arith))))

  steps_are : map step_of (drop (shared_with bs (slots_on f l)) (slots_on f l)) ≡ l.steps
  steps_are =
      ap (λ n. map step_of (drop n (slots_on f l))) (shared_is ∙ sym length-front)
      ∙ ap (map step_of) (drop-append_seam front (numbered f.made l.steps)) ∙ steps-numbered f.made l.steps

  abbrev new : Branch
  new = branch l.name (slots_on f l)

  pub limb_is : limb_of bs new ≡ l
  limb_is =
      let from : first_with bs (slots_on f l) (shared_with bs (slots_on f l)) ≡ l.from = ap (first_with bs (slots_on f l)) shared_is ∙ from_is l.shared refl in
      λ i. record { name = l.name; from = from i; shared = shared_is i; steps = steps_are i }

  length-new : length (slots_on f l) ≡ limb_length l
  length-new = length-append front (numbered f.made l.steps) ∙ ap (λ n. n + length (numbered f.made l.steps)) length-front ∙ ap (λ n. l.shared + n) (length-numbered f.made l.steps)

  new_below_made : (x : ℕ) → has_slot x (slots_on f l) ≡ true → x < f.made + length l.steps
  new_below_made x e = by (has_slot x front) refl
    where
      split : (has_slot x front || has_slot x (numbered f.made l.steps)) ≡ true
      split = sym (has_slot-append x front (numbered f.made l.steps)) ∙ e

      by : (b : Bool) → has_slot x front ≡ b → x < f.made + length l.steps
      by true g = let less = h.given l.from x (has_taken l.shared x stem g) in omega arith
      by false g = numbered_below f.made l.steps x (sym (ap (λ c. c || has_slot x (numbered f.made l.steps)) g) ∙ split)

  pub built_from_more : IsBuiltFrom (earlier ++ l ∷ []) (with_limb f l)
  built_from_more = record { count = count; sizes = sizes; given = given; own = own }
    where
      last_slots : (i : ℕ) → i ≡ length earlier → slots_in (bs ++ new ∷ []) i ≡ slots_on f l
      last_slots i e = ap (slots_in (bs ++ new ∷ [])) (e ∙ sym h.count) ∙ slots_in-last bs new

      front_slots : (i : ℕ) → i < length earlier → slots_in (bs ++ new ∷ []) i ≡ slots_in bs i
      front_slots i less = let c = h.count in slots_in-front bs new i (omega arith)

      past_slots : (i : ℕ) → length earlier < i → slots_in (bs ++ new ∷ []) i ≡ []
      past_slots i more = let c = h.count in let n = length-append bs (new ∷ []) in slots_in-past (bs ++ new ∷ []) i (omega arith)

      last_limb : (i : ℕ) (p : Limb) → i ≡ length earlier → slice_get (earlier ++ l ∷ []) i ≡ Some p → l ≡ p
      last_limb i p e g =
          let there : slice_get (earlier ++ l ∷ []) i ≡ Some l = ap (slice_get (earlier ++ l ∷ [])) e ∙ slice_get-last earlier l in
          let same : Some l ≡ Some p = sym there ∙ g in cc

      front_limb : (i : ℕ) (p : Limb) → i < length earlier → slice_get (earlier ++ l ∷ []) i ≡ Some p → slice_get earlier i ≡ Some p
      front_limb i p less g = sym (slice_get_left earlier (l ∷ []) i less) ∙ g

      none_past : (i : ℕ) (p : Limb) → length earlier < i → slice_get (earlier ++ l ∷ []) i ≡ Some p → ⊥
      none_past i p more g = let w = slice_get_within (earlier ++ l ∷ []) i p g in let n = length-append earlier (l ∷ []) in omega arith

      count : length (bs ++ new ∷ []) ≡ length (earlier ++ l ∷ [])
      count = length-append bs (new ∷ []) ∙ ap (λ n. n + 1) h.count ∙ sym (length-append earlier (l ∷ []))

      sizes : (i : ℕ) (p : Limb) → slice_get (earlier ++ l ∷ []) i ≡ Some p → length (slots_in (bs ++ new ∷ []) i) ≡ limb_length p
      sizes i p g =
          by_order i (length earlier) (length (slots_in (bs ++ new ∷ []) i) ≡ limb_length p)
          (λ less. ap length (front_slots i less) ∙ h.sizes i p (front_limb i p less g))
          (λ e. ap length (last_slots i e) ∙ length-new ∙ ap limb_length (last_limb i p e g))
          (λ more. absurd (none_past i p more g))

      given : (i x : ℕ) → has_slot x (slots_in (bs ++ new ∷ []) i) ≡ true → x < f.made + length l.steps
      given i x g =
          by_order i (length earlier) (x < f.made + length l.steps)
          (λ less. let old = h.given i x (subst (λ s. has_slot x s ≡ true) (front_slots i less) g) in omega arith)
          (λ e. new_below_made x (subst (λ s. has_slot x s ≡ true) (last_slots i e) g))
          (λ more. absurd (true≢false (sym (subst (λ s. has_slot x s ≡ true) (past_slots i more) g))))

      own_last : (i j k : ℕ) → i ≡ length earlier → j < i → l.shared ≤ k → k < limb_length l
          → has_slot (cell_in (slots_in (bs ++ new ∷ []) i) k) (slots_in (bs ++ new ∷ []) j) ≡ false
      own_last i j k e less more few =
          subst (λ s. has_slot (cell_in s k) (slots_in (bs ++ new ∷ []) j) ≡ false) (sym (last_slots i e))
          (subst (λ s. has_slot (cell_in (slots_on f l) k) s ≡ false) (sym (front_slots j (omega arith)))
          (fresh (cell_in (slots_on f l) k) (cell_in-own stem l.shared f.made k l.steps shared_within_stem more few) j))

      own : (i j k : ℕ) (p : Limb) → slice_get (earlier ++ l ∷ []) i ≡ Some p → j < i → p.shared ≤ k → k < limb_length p
          → has_slot (cell_in (slots_in (bs ++ new ∷ []) i) k) (slots_in (bs ++ new ∷ []) j) ≡ false
      own i j k p g less more few =
          by_order i (length earlier) (has_slot (cell_in (slots_in (bs ++ new ∷ []) i) k) (slots_in (bs ++ new ∷ []) j) ≡ false)
          (λ inside. subst (λ s. has_slot (cell_in s k) (slots_in (bs ++ new ∷ []) j) ≡ false) (sym (front_slots i inside))
          (subst (λ s. has_slot (cell_in (slots_in bs i) k) s ≡ false) (sym (front_slots j (omega arith)))
          (h.own i j k p (front_limb i p inside g) less more few)))
          (λ e. let same = last_limb i p e g in
          own_last i j k e less (subst (λ q. q.shared ≤ k) (sym same) more) (subst (λ q. k < limb_length q) (sym same) few))
          (λ past. absurd (none_past i p past g))

pub limbs_after-put : (earlier bs : List Branch) (b : Branch) → limbs_after earlier (bs ++ b ∷ []) ≡ limbs_after earlier bs ++ limb_of (earlier ++ bs) b ∷ []
limbs_after-put earlier [] b = ap (λ l. limb_of l b ∷ []) (sym (append-nil earlier))
limbs_after-put earlier (c ∷ bs) b =
    ap (λ l. limb_of earlier c ∷ l) (limbs_after-put (earlier ++ c ∷ []) bs b
    ∙ ap (λ l. limbs_after (earlier ++ c ∷ []) bs ++ limb_of l b ∷ []) (append_assoc earlier (c ∷ []) bs))

limbs_more : (earlier : List Limb) (f : Forest) (ls : List Limb) → IsBuiltFrom earlier f → limbs f ≡ earlier → are_lawful_after earlier ls ≡ true
    → limbs (with_limbs f ls) ≡ earlier ++ ls
limbs_more earlier f [] h same lawful = same ∙ sym (append-nil earlier)
limbs_more earlier f (l ∷ ls) h same lawful =
    let r = and_parts (is_new_name earlier l.name) (may_share earlier l && are_lawful_after (earlier ++ l ∷ []) ls) lawful in
    let q = and_parts (may_share earlier l) (are_lawful_after (earlier ++ l ∷ []) ls) r.1 in
    let next : limbs (with_limb f l) ≡ earlier ++ l ∷ [] = limbs_after-put [] f.branches (branch l.name (slots_on f l)) ∙ ap (λ m. m ++ limb_of f.branches (branch l.name (slots_on f l)) ∷ []) same
    ∙ ap (λ m. earlier ++ m ∷ []) (limb_is earlier f l h q.0) in
    limbs_more (earlier ++ l ∷ []) (with_limb f l) ls (built_from_more earlier f l h q.0) next q.1 ∙ append_assoc earlier (l ∷ []) ls

-- the limbs of the forest that lawful limbs describe are these limbs
pub limbs_again : (ls : List Limb) → AreLawfulLimbs ls → limbs (forest_of ls) ≡ ls
limbs_again ls lawful = limbs_more [] no_branches ls built_from_none refl lawful

-- after limbs are added, the number of cells made is greater by the number of their own cells
made-with_limbs : (f : Forest) (ls : List Limb) → (with_limbs f ls).made ≡ f.made + own_cell_count ls
made-with_limbs f [] = omega arith
made-with_limbs f (l ∷ ls) = made-with_limbs (with_limb f l) ls ∙ omega arith

-- after limbs are added, the number of branches is greater by the number of limbs
count-with_limbs : (f : Forest) (ls : List Limb) → length (with_limbs f ls).branches ≡ length f.branches + length ls
count-with_limbs f [] = omega arith
count-with_limbs f (l ∷ ls) = count-with_limbs (with_limb f l) ls ∙ omega (arith, length-append f.branches (branch l.name (slots_on f l) ∷ []))

pub forest_made : (ls : List Limb) → (forest_of ls).made ≡ own_cell_count ls
forest_made ls = made-with_limbs no_branches ls ∙ omega arith

pub forest_count : (ls : List Limb) → length (forest_of ls).branches ≡ length ls
forest_count ls = count-with_limbs no_branches ls ∙ omega arith
