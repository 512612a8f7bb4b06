-- Adding limbs one by one.
use Rattle.std.proofs.Common.{◌≡◌, ℕ, zero, suc, ◌+◌, ◌<◌, ◌≤◌, Bool, true, false, not, ◌&&◌, ◌||◌, cond, nat_eq, List, [], ◌∷◌, ◌++◌, length, map, take, get_or, position, Some, None, refl, sym, ap, subst, ◌∙◌, arith, append_assoc, append-nil}
use Rattle.std.specs.List.{list_any, position_or_len}
use Rattle.std.specs.Option.{IfSome}
use Rattle.std.specs.Cmp.Lexicographic.{pointwise}
use Rattle.std.proofs.lemmas.Bool.{and_parts, and_from, not-true}
use Rattle.std.proofs.lemmas.List.{length-map, length-append, map-append, take_more, length-take-le}
use Rattle.schedule_steps.specs.declared.types.Step.{Step}
use Rattle.branch_terms.specs.declared.slot.Slot.{Slot}
use Rattle.branch_terms.specs.declared.limb.Limb.{Limb}
use Rattle.branch_terms.specs.Forest.{Forest, Branch, branch, changed, numbered, slots_in, only_in, put_all, name_of, index_of, lone_branch, IsForest}
use Rattle.schedule_trie.specs.Trie.{TrieOf, forest, IsBlank, IsWhole, ArePushed}
use Rattle.schedule_trie.specs.changes.Forks.{IsBranchForked}
use Rattle.branch_terms.specs.Limbs.{slots_on, with_limb, with_limbs, no_branches, forest_of, own_cell_count, is_name, has_name, is_new_name, may_share, are_lawful_after, AreLawfulLimbs}
use Rattle.schedule_trie.specs.changes.Loads.{CanAddLimb, IsLimbAdded}
use Rattle.schedule_trie.proofs.forks.ForkAnswers.{any_or_none}
use Rattle.schedule_trie.proofs.lengths.LengthsAfter.{branch_count, cells_few}
use Rattle.schedule_trie.proofs.limbs.LimbCounts.{own_cell_count-take-le, own_cell_count-take_more}
use Rattle.branch_terms.proofs.LimbsAgain.{may_share_parts, IsBuiltFrom, built_from_none, built_from_more, shared_within_stem, forest_made, forest_count}
use Rattle.branch_terms.proofs.LimbLists.{slots_in-last}
use Rattle.schedule_trie.proofs.segments.Notes.{blank_kept}
use Rattle.branch_terms.specs.declared.limits.TheConstants.{MOST_CELLS_MADE}
use Rattle.branch_terms.proofs.Lists.{slice_get_some}
use Rattle.branch_terms.proofs.LimbLists.{length-numbered}
use Rattle.std.proofs.lemmas.Option.{slice_get_within}

only_last : (g : List Slot → List Slot) (bs : List Branch) (b : Branch) → only_in (length bs) g (bs ++ b ∷ []) ≡ bs ++ changed g b ∷ []
only_last g [] b = refl
only_last g (c ∷ bs) b = ap (λ l. c ∷ l) (only_last g bs b)

-- a limb's branch is added: first by a fork, then with the limb's own steps
module _ {T : Type 0} (a was b d : TrieOf T) (l : Limb) (steps : List Step) (index : ℕ) (can : CanAddLimb a l) (same : was ≡ a) (own : steps ≡ l.steps) (count : index ≡ length (forest was).branches)
    (fork : IsBranchForked was b l.from l.shared l.name) (push : ArePushed b d index steps) where
  last : index ≡ length (forest a).branches
  last = count ∙ ap (λ z. length (forest z).branches) same

  forked : IsBranchForked a b l.from l.shared l.name
  forked = subst (λ z. IsBranchForked z b l.from l.shared l.name) same fork

  pushed : ArePushed b d index l.steps
  pushed = subst (ArePushed b d index) own push

  pub forest_with_limb : forest d ≡ with_limb (forest a) l
  forest_with_limb =
      let here : (forest d).branches ≡ (forest a).branches ++ branch l.name (slots_on (forest a) l) ∷ [] =
      pushed.branches
      ∙ ap (λ n. only_in index (put_all (numbered n l.steps)) (forest b).branches) forked.made
      ∙ ap (only_in index (put_all (numbered a.made l.steps))) forked.branches
      ∙ ap (λ n. only_in n (put_all (numbered a.made l.steps)) ((forest a).branches ++ branch l.name (take l.shared (slots_in (forest a).branches l.from)) ∷ [])) last
      ∙ only_last (put_all (numbered a.made l.steps)) (forest a).branches (branch l.name (take l.shared (slots_in (forest a).branches l.from))) in
      let made : d.made ≡ a.made + length l.steps = pushed.made ∙ ap (λ n. n + length l.steps) forked.made in
      λ i. record { branches = here i; made = made i }

  pub length_with_limb : l.shared + length steps ≡ length (slots_in (forest d).branches index)
  length_with_limb =
      ap (λ s. l.shared + length s) own
      ∙ sym (ap (λ f. length (slots_in f.branches index)) forest_with_limb
      ∙ ap (λ n. length (slots_in ((forest a).branches ++ branch l.name (slots_on (forest a) l) ∷ []) n)) last
      ∙ ap length (slots_in-last (forest a).branches (branch l.name (slots_on (forest a) l)))
      ∙ length-append (take l.shared (slots_in (forest a).branches l.from)) (numbered a.made l.steps)
      ∙ ap (λ n. n + length (numbered a.made l.steps)) (length-take-le l.shared (slots_in (forest a).branches l.from) can.place)
      ∙ ap (λ n. l.shared + n) (length-numbered a.made l.steps))

  pub blank_with_limb : IsForest (forest a) → IsBlank a → IsBlank d
  blank_with_limb held blank =
      let count = branch_count a in
      let names = length-map (forest a).branches name_of in
      let from = can.from in
      let p = slice_get_some (map name_of (forest a).branches) l.from (omega arith) in
      let found : index_of (forest a).branches p.0 ≡ Some l.from =
      subst (λ o. IfSome o (λ name. index_of (forest a).branches name ≡ Some l.from)) p.1 (held.apart l.from) in
      pushed.blank (blank_kept a b (forked.notes p.0 found).notes blank)

  pub is_limb_added : IsForest (forest a) → IsLimbAdded a d l
  is_limb_added held = record {
    forest_is = forest_with_limb;
    limits = pushed.limits ∙ forked.limits;
    blank = blank_with_limb held;
    cut = pushed.cut forked.cut;
  }

-- the length of a limb's branch is at most the limit of cells
pub limb_length_small : {T : Type 0} (a : TrieOf T) (l : Limb) → IsWhole a → CanAddLimb a l → l.shared + length l.steps ≤ MOST_CELLS_MADE
limb_length_small a l whole can =
    let few = cells_few a whole l.from in
    let place = can.place in
    let cells = can.cells in
    let most = whole.within.most_cells in omega arith

-- the first n of lawful limbs are lawful; the last has a new name, and `may_share` accepts it
lawful_first : (earlier ls : List Limb) (n : ℕ) → are_lawful_after earlier ls ≡ true → are_lawful_after earlier (take n ls) ≡ true
lawful_first earlier ls zero h = refl
lawful_first earlier [] (suc n) h = refl
lawful_first earlier (l ∷ ls) (suc n) h =
    let p = and_parts (is_new_name earlier l.name) (may_share earlier l && are_lawful_after (earlier ++ l ∷ []) ls) h in
    let q = and_parts (may_share earlier l) (are_lawful_after (earlier ++ l ∷ []) ls) p.1 in
    and_from (is_new_name earlier l.name) (may_share earlier l && are_lawful_after (earlier ++ l ∷ []) (take n ls)) p.0
    (and_from (may_share earlier l) (are_lawful_after (earlier ++ l ∷ []) (take n ls)) q.0 (lawful_first (earlier ++ l ∷ []) ls n q.1))

lawful_last : (earlier xs : List Limb) (l : Limb) → are_lawful_after earlier (xs ++ l ∷ []) ≡ true
    → (is_new_name (earlier ++ xs) l.name ≡ true) × (may_share (earlier ++ xs) l ≡ true)
lawful_last earlier [] l h =
    let p = and_parts (is_new_name earlier l.name) (may_share earlier l && true) h in
    let q = and_parts (may_share earlier l) true p.1 in
    subst (λ e. (is_new_name e l.name ≡ true) × (may_share e l ≡ true)) (sym (append-nil earlier)) (p.0, q.0)
lawful_last earlier (x ∷ xs) l h =
    let p = and_parts (is_new_name earlier x.name) (may_share earlier x && are_lawful_after (earlier ++ x ∷ []) (xs ++ l ∷ [])) h in
    let q = and_parts (may_share earlier x) (are_lawful_after (earlier ++ x ∷ []) (xs ++ l ∷ [])) p.1 in
    subst (λ e. (is_new_name e l.name ≡ true) × (may_share e l ≡ true)) (append_assoc earlier (x ∷ []) xs) (lawful_last (earlier ++ x ∷ []) xs l q.1)

-- a forest keeps its invariant, `IsBuiltFrom`, when lawful limbs are added
built_from_all : (earlier : List Limb) (f : Forest) (ls : List Limb) → IsBuiltFrom earlier f → are_lawful_after earlier ls ≡ true → IsBuiltFrom (earlier ++ ls) (with_limbs f ls)
built_from_all earlier f [] h lawful = subst (λ e. IsBuiltFrom e f) (sym (append-nil earlier)) h
built_from_all earlier f (l ∷ ls) h lawful =
    let p = and_parts (is_new_name earlier l.name) (may_share earlier l && are_lawful_after (earlier ++ l ∷ []) ls) lawful in
    let q = and_parts (may_share earlier l) (are_lawful_after (earlier ++ l ∷ []) ls) p.1 in
    subst (λ e. IsBuiltFrom e (with_limbs (with_limb f l) ls)) (append_assoc earlier (l ∷ []) ls)
    (built_from_all (earlier ++ l ∷ []) (with_limb f l) ls (built_from_more earlier f l h q.0) q.1)

with_limbs-last : (f : Forest) (xs : List Limb) (l : Limb) → with_limbs f (xs ++ l ∷ []) ≡ with_limb (with_limbs f xs) l
with_limbs-last f [] l = refl
with_limbs-last f (x ∷ xs) l = with_limbs-last (with_limb f x) xs l

abbrev limb_name : Limb → List ℕ
limb_name l = l.name

names-with_limbs : (f : Forest) (ls : List Limb) → map name_of (with_limbs f ls).branches ≡ map name_of f.branches ++ map limb_name ls
names-with_limbs f [] = sym (append-nil (map name_of f.branches))
names-with_limbs f (l ∷ ls) =
    names-with_limbs (with_limb f l) ls
    ∙ ap (λ ns. ns ++ map limb_name ls) (map-append name_of f.branches (branch l.name (slots_on f l) ∷ []))
    ∙ append_assoc (map name_of f.branches) (l.name ∷ []) (map limb_name ls)

any_names : (name : List ℕ) (ls : List Limb) → list_any (pointwise nat_eq name) (map limb_name ls) ≡ list_any (has_name name) ls
any_names name [] = refl
any_names name (l ∷ ls) = ap (λ b. pointwise nat_eq name l.name || b) (any_names name ls)

position-none_from_any : {X : Type 0} (p : X → Bool) (xs : List X) → list_any p xs ≡ false → position p xs ≡ None
position-none_from_any p xs h = ap (λ b. cond b (Some (position_or_len p xs)) None) (any_or_none p xs ∙ h)

free_name : (ls : List Limb) (name : List ℕ) → is_new_name ls name ≡ true → (is_name name ≡ true) × (index_of (forest_of ls).branches name ≡ None)
free_name ls name new =
    let p = and_parts (is_name name) (not (list_any (has_name name) ls)) new in
    let names : map name_of (forest_of ls).branches ≡ map limb_name ls = names-with_limbs no_branches ls in
    let none : list_any (pointwise nat_eq name) (map name_of (forest_of ls).branches) ≡ false =
    ap (list_any (pointwise nat_eq name)) names ∙ any_names name ls ∙ not-true (list_any (has_name name) ls) p.1 in
    (p.0, position-none_from_any (pointwise nat_eq name) (map name_of (forest_of ls).branches) none)

-- limb n of lawful limbs, once the n limbs before it have been added
module _ (ls : List Limb) (lawful : AreLawfulLimbs ls) (n : ℕ) (l : Limb) (less : n < length ls) (at : get_or ls n l ≡ l) where
  abbrev xs : List Limb
  xs = take n ls

  more : take (n + 1) ls ≡ xs ++ l ∷ []
  more = take_more ls n l less ∙ ap (λ z. xs ++ z ∷ []) at

  next : (is_new_name xs l.name ≡ true) × (may_share xs l ≡ true)
  next = lawful_last [] xs l (subst (λ e. are_lawful_after [] e ≡ true) more (lawful_first [] ls (n + 1) lawful))

  built : IsBuiltFrom xs (forest_of xs)
  built = built_from_all [] no_branches xs built_from_none (lawful_first [] ls n lawful)

  count : length xs ≡ n
  count = length-take-le n ls (omega arith)

  module _ {T : Type 0} (c : TrieOf T) (is : forest c ≡ forest_of xs) where
    pub can_add_limb : 0 < n → own_cell_count ls ≤ c.limits.cells → length ls ≤ c.limits.branches → CanAddLimb c l
    can_add_limb some cells branches =
        let free = free_name xs l.name next.0 in
        let made : c.made ≡ own_cell_count xs = ap (λ f. f.made) is ∙ forest_made xs in
        let sum = own_cell_count-take_more ls n l less at in
        let first = own_cell_count-take-le (n + 1) ls in
        let as_many : length c.branches ≡ n = sym (branch_count c) ∙ ap (λ f. length f.branches) is ∙ forest_count xs ∙ count in
        record {
          from = may_share_parts xs l (l.from < length c.branches) next.1
              (λ s. let z = s.from in omega arith)
              (λ s. let w = slice_get_within xs l.from s.stem s.there in let k = count in omega arith);
          place = subst (λ f. l.shared ≤ length (slots_in f.branches l.from)) (sym is) (shared_within_stem xs (forest_of xs) l built next.1);
          free = subst (λ f. index_of f.branches l.name ≡ None) (sym is) free.1;
          form = free.0;
          room = omega arith;
          cells = omega arith;
        }

    pub forest_of_next : (d : TrieOf T) → IsLimbAdded c d l → forest d ≡ forest_of (take (n + 1) ls)
    forest_of_next d change =
        change.forest_is ∙ ap (λ f. with_limb f l) is ∙ sym (with_limbs-last no_branches xs l) ∙ ap forest_of (sym more)

-- the first limb: a forest of one branch, with this limb's name and steps, is the forest that the
-- list of this limb alone describes
abbrev no_slots : List Slot
no_slots = []

take_none : (n : ℕ) → take n no_slots ≡ no_slots
take_none zero = refl
take_none (suc n) = refl

first_alone : (l : Limb) → lone_branch l.name l.steps ≡ forest_of (l ∷ [])
first_alone l =
    let slots : numbered 0 l.steps ≡ take l.shared [] ++ numbered 0 l.steps = ap (λ z. z ++ numbered 0 l.steps) (sym (take_none l.shared)) in
    let made : length l.steps ≡ 0 + length l.steps = omega arith in
    λ i. record { branches = branch l.name (slots i) ∷ []; made = made i }

pub forest_of_first : (ls : List Limb) (f : Forest) (l : Limb) → 0 < length ls → get_or ls 0 l ≡ l → f ≡ lone_branch l.name l.steps → f ≡ forest_of (take 1 ls)
forest_of_first [] f l some at is = absurd (omega arith)
forest_of_first (x ∷ ys) f l some at is = is ∙ first_alone l ∙ ap (λ z. forest_of (z ∷ [])) (sym at)
