-- The steps of limbs fit just if those of their forest do.
use Rattle.std.proofs.Common.{◌≡◌, ℕ, zero, suc, List, [], ◌∷◌, ◌++◌, length, take, drop, nat_lt, Result, Ok, Err, IfOk, sym, subst}
use Rattle.std.proofs.lemmas.List.Elements.{All-nil, All-cons, All-head, All-tail}
use Rattle.frames.specs.Behaviour.{Behaviour}
use Rattle.frames.specs.Recorded.{AllFit}
use Rattle.schedule_trie.specs.declared.limb.Limb.{Limb}
use Rattle.schedule_trie.specs.declared.limits.Limits.{Limits}
use Rattle.schedule_trie.specs.declared.refusal.Refusal.TheVariants.{Full, TooManyBranches}
use Rattle.schedule_trie.specs.declared.slot.Slot.{Slot}
use Rattle.schedule_trie.specs.Forest.{Forest, Branch, branch, numbered, slots_in}
use Rattle.schedule_trie.specs.Limbs.{own_cell_count, forest_of, with_limbs, with_limb, limb_of, limbs, limbs_after, loaded, no_branches, shared_with, slots_on}
use Rattle.cutoff.specs.Charts.{LimbsFit, StepsFit}
use Rattle.cutoff.proofs.FittingSteps.{fits_both, fits_one_more, fits_tail, fits_take, none_fit, result_if_ok, FitAll}
use Rattle.branch_terms.proofs.LimbLists.{steps-numbered}

module _ {P : Type 0} (b : Behaviour P) where
  with_limb_fits : (f : Forest) (l : Limb) → StepsFit b f → AllFit b l.steps → StepsFit b (with_limb f l)
  with_limb_fits f l each own =
      let stem = slots_in f.branches l.from in
      fits_one_more b f.branches (branch l.name (slots_on f l)) each
      (fits_both b (take l.shared stem) (numbered f.made l.steps) (fits_take b l.shared stem (each l.from))
      (subst (AllFit b) (sym (steps-numbered f.made l.steps)) own))

  with_limbs_fits : (f : Forest) (ls : List Limb) → StepsFit b f → LimbsFit b ls → StepsFit b (with_limbs f ls)
  with_limbs_fits f [] each own = each
  with_limbs_fits f (l ∷ ls) each own =
      with_limbs_fits (with_limb f l) ls (with_limb_fits f l each (All-head (λ l. AllFit b l.steps) l ls own)) (All-tail (λ l. AllFit b l.steps) l ls own)

  pub loaded_fits : (limits : Limits) (ls : List Limb) (f : Forest) → LimbsFit b ls → loaded limits ls ≡ Ok f → StepsFit b f
  loaded_fits limits ls f own e =
      let last : Ok (forest_of ls) ≡ Ok f =
      result_if_ok (nat_lt limits.branches (length ls)) TooManyBranches _ f (result_if_ok (nat_lt limits.cells (own_cell_count ls)) Full _ f e) in
      let same : forest_of ls ≡ f = cc in
      subst (StepsFit b) same (with_limbs_fits no_branches ls (λ i. none_fit b) own)

  fits_drop : (n : ℕ) (slots : List Slot) → FitAll b slots → FitAll b (drop n slots)
  fits_drop zero slots fits = fits
  fits_drop (suc n) [] fits = none_fit b
  fits_drop (suc n) (s ∷ slots) fits = fits_drop n slots (fits_tail b s slots fits)

  limbs_after_fit : (earlier bs : List Branch) → ((i : ℕ) → FitAll b (slots_in bs i)) → LimbsFit b (limbs_after earlier bs)
  limbs_after_fit earlier [] each = All-nil (λ l. AllFit b l.steps)
  limbs_after_fit earlier (c ∷ bs) each =
      All-cons (λ l. AllFit b l.steps) (limb_of earlier c) (limbs_after (earlier ++ c ∷ []) bs)
      (fits_drop (shared_with earlier c.slots) c.slots (each 0)) (limbs_after_fit (earlier ++ c ∷ []) bs (λ i. each (suc i)))

  pub limbs_fit : {A E : Type 0} (f : Forest) (items : A → List Limb) (answer : Result A E) → StepsFit b f → IfOk answer (λ r. items r ≡ limbs f) → IfOk answer (λ r. LimbsFit b (items r))
  limbs_fit f items (Ok r) each same = subst (LimbsFit b) (sym same) (limbs_after_fit [] f.branches each)
  limbs_fit f items (Err e) each same = tt
