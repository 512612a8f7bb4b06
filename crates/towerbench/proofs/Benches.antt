-- Limbs that fit a tower fit its register, and the other way round; and what makes a bench lawful.
use Rattle.std.proofs.Common.{◌≡◌, ◌∙◌, ◌<◌, ◌≤◌, ◌&&◌, ◌^◌, true, nat_lt, List, [], ◌∷◌, length, arith, refl, sym, ap₂}
use Rattle.std.specs.List.{All, list_all, slice_index_or}
use Rattle.std.proofs.lemmas.Bool.{and_parts, lt-ltb}
use Rattle.std.proofs.lemmas.List.Sums.{AllPass-from_list_all, list_all-from_AllPass}
use Rattle.frames.specs.declared.types.Step.{Step}
use Rattle.frames.specs.Behaviour.{Behaviour}
use Rattle.frames.specs.Configuration.{fits_step}
use Rattle.frames.specs.Recorded.{AllFit}
use Rattle.schedule_trie.specs.declared.limb.Limb.{Limb}
use Rattle.schedule_trie.specs.declared.limits.Limits.{Limits}
use Rattle.branch_terms.specs.declared.limits.TheConstants.{MOST_CELLS_MADE}
use Rattle.schedule_trie.specs.Limbs.{FitLimits, AreLawfulLimbs, are_lawful_after}
use Rattle.tower_file.specs.declared.tower.TowerSpec.{TowerSpec}
use Rattle.tower_file.specs.Towers.{fits, is_lawful_tower}
use Rattle.tower_file.specs.Benches.{IsLawfulBench, are_lawful, bench_of, is_fitting, has_limbs}

module _ {P : Type 0} (t : TowerSpec) (b : Behaviour P) (alike : (s : Step) → fits t s ≡ fits_step b s) where
  -- the steps of a bench file's limbs fit the register
  pub limbs_fit : (ls : List Limb) → list_all (is_fitting t) ls ≡ true → All (λ (l : Limb). AllFit b l.steps) ls
  limbs_fit ls all i d within k e in_limb =
      let l = slice_index_or ls i d in
      let fit : list_all (fits t) l.steps ≡ true = (and_parts _ _ (AllPass-from_list_all (is_fitting t) ls all i d within)).1 in
      sym (alike (slice_index_or l.steps k e)) ∙ AllPass-from_list_all (fits t) l.steps fit k e in_limb

  -- a bench file on tower t can have limbs if their steps fit the register, and their numbers are
  -- within the limits
  module _ (limits : Limits) (few_branches : limits.branches ≤ 1024) (few_cells : limits.cells ≤ MOST_CELLS_MADE) where
    limb_fits : (l : Limb) → l.from < limits.branches → l.shared ≤ limits.cells → AllFit b l.steps → is_fitting t l ≡ true
    limb_fits l from shared fit =
        let low : nat_lt l.from (10 ^ 9) ≡ true = lt-ltb l.from (10 ^ 9) (omega arith) in
        let few : nat_lt l.shared (10 ^ 9) ≡ true = lt-ltb l.shared (10 ^ 9) (omega arith) in
        let steps : list_all (fits t) l.steps ≡ true = list_all-from_AllPass (fits t) l.steps (λ k d within. alike _ ∙ fit k d within) in
        ap₂ (λ x y. x && y) (ap₂ (λ x y. x && y) low few) steps

    pub have_fit : (ls : List Limb) → All (λ (l : Limb). AllFit b l.steps) ls → FitLimits limits ls → list_all (is_fitting t) ls ≡ true
    have_fit ls fit limited =
        list_all-from_AllPass (is_fitting t) ls (λ k d within. limb_fits (slice_index_or ls k d) (limited k d within).0 (limited k d within).1 (fit k d within))

has_limbs_from_length : (ls : List Limb) → 0 < length ls → has_limbs ls ≡ true
has_limbs_from_length [] some = absurd (omega (arith, some))
has_limbs_from_length (l ∷ ls) some = refl

length_from_has_limbs : (ls : List Limb) → has_limbs ls ≡ true → 0 < length ls
length_from_has_limbs [] e = absurd (cc)
length_from_has_limbs (l ∷ ls) e = omega arith

-- a lawful tower and lawful limbs that fit it, at least one, make a lawful bench
pub lawful_bench : (t : TowerSpec) (ls : List Limb) → is_lawful_tower t ≡ true → 0 < length ls → AreLawfulLimbs ls → list_all (is_fitting t) ls ≡ true → IsLawfulBench (bench_of t ls)
lawful_bench t ls tower some lawful fit = rw (tower, has_limbs_from_length ls some, lawful, fit) refl

-- what makes a bench lawful, part by part
module _ (t : TowerSpec) (ls : List Limb) (h : IsLawfulBench (bench_of t ls)) where
  tower_and_limbs : (is_lawful_tower t && has_limbs ls) ≡ true
  tower_and_limbs = (and_parts (is_lawful_tower t && has_limbs ls) (are_lawful t ls) h).0

  limbs_are_lawful : are_lawful t ls ≡ true
  limbs_are_lawful = (and_parts (is_lawful_tower t && has_limbs ls) (are_lawful t ls) h).1

  pub tower_lawful : is_lawful_tower t ≡ true
  tower_lawful = (and_parts (is_lawful_tower t) (has_limbs ls) tower_and_limbs).0

  pub some_limb : 0 < length ls
  some_limb = length_from_has_limbs ls (and_parts (is_lawful_tower t) (has_limbs ls) tower_and_limbs).1

  pub limbs_lawful : AreLawfulLimbs ls
  limbs_lawful = (and_parts (are_lawful_after [] ls) (list_all (is_fitting t) ls) limbs_are_lawful).0

  pub limbs_fit_tower : list_all (is_fitting t) ls ≡ true
  limbs_fit_tower = (and_parts (are_lawful_after [] ls) (list_all (is_fitting t) ls) limbs_are_lawful).1
