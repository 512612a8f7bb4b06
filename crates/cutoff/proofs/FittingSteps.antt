-- The steps that a forest is opened with fit, and after each edit all steps still fit.
use Rattle.std.proofs.Common.{◌≡◌, ℕ, zero, suc, Bool, true, false, nat_eq, nat_le, nat_lt, cond, List, [], ◌∷◌, ◌++◌, length, map, Option, Some, None, Ok, Err, refl, sym, ap, subst, ◌+◌, not, take, Result}
use Rattle.std.specs.List.{All, remove, list_any}
use Rattle.std.proofs.lemmas.List.Elements.{All-nil, All-cons, All-head, All-tail, All-append}
use Rattle.std.specs.Cmp.Lexicographic.{pointwise}
use Rattle.std.proofs.lemmas.List.{map-append}
use Rattle.frames.specs.declared.types.Step.{Step}
use Rattle.frames.specs.Behaviour.{Behaviour}
use Rattle.frames.specs.Configuration.{fits_step}
use Rattle.frames.specs.Recorded.{AllFit}
use Rattle.schedule_trie.specs.declared.slot.Slot.{Slot}
use Rattle.schedule_trie.specs.declared.limits.Limits.{Limits}
use Rattle.schedule_trie.specs.declared.refusal.Refusal.{Refusal}
use Rattle.schedule_trie.specs.declared.refusal.Refusal.TheVariants.{NoPlace, Full, NameTaken, BadName, LastBranch, TooManyBranches}
use Rattle.schedule_trie.specs.Forest.{Forest, Branch, step_of, slots_in, opened, opening_forest, everywhere, with_step, replaced, replaced_by, index_of, cell_in, at_cell, on_found, replace_step, branch, slot, name_of, renumbered, only_in, put_last, put_before, before_cell, is_other, without, insert, insert_at, inserted, remove_cell, fork, fork_at, detach, detach_at, drop_branch, drop_at}
use Rattle.schedule_trie.specs.Names.{is_well_formed}
use Rattle.branch_terms.proofs.LimbLists.{steps-numbered}
use Rattle.cutoff.specs.Charts.{StepsFit}

-- an edit that may be refused gave the forest g, so it wasn't refused, and g is its result
forest_if_ok : (refused : Bool) (e : Refusal) (f g : Forest) → cond refused (Err e) (Ok f) ≡ Ok g → f ≡ g
forest_if_ok true e f g h = cc
forest_if_ok false e f g h = cc

-- the result of an edit that wasn't refused
pub result_if_ok : (refused : Bool) (e : Refusal) (r : Result Forest Refusal) (g : Forest) → cond refused (Err e) r ≡ Ok g → r ≡ Ok g
result_if_ok true e r g h = absurd (cc)
result_if_ok false e r g h = h

-- steps still fit after a replacement, and the steps that a forest is opened with fit
module _ {P : Type 0} (b : Behaviour P) where
  abbrev pub FitAll : List Slot → Type 0
  FitAll slots = AllFit b (map step_of slots)

  pub fits_everywhere : (g : List Slot → List Slot) → ((slots : List Slot) → FitAll slots → FitAll (g slots)) → (bs : List Branch)
      → ((i : ℕ) → FitAll (slots_in bs i)) → (i : ℕ) → FitAll (slots_in (everywhere g bs) i)
  fits_everywhere g keeps [] each i = All-nil (λ s. fits_step b s ≡ true)
  fits_everywhere g keeps (c ∷ bs) each zero = keeps c.slots (each 0)
  fits_everywhere g keeps (c ∷ bs) each (suc i) = fits_everywhere g keeps bs (λ j. each (suc j)) i

  fits_with : (x : ℕ) (step : Step) (s : Slot) (same : Bool) → nat_eq s.cell x ≡ same → fits_step b step ≡ true → fits_step b s.step ≡ true
      → fits_step b (with_step x step s).step ≡ true
  fits_with x step s true e new old = rw e new
  fits_with x step s false e new old = rw e old

  fits_replaced : (step : Step) → fits_step b step ≡ true → (x : ℕ) (slots : List Slot) → FitAll slots → FitAll (replaced x step slots)
  fits_replaced step new x [] h = All-nil (λ s. fits_step b s ≡ true)
  fits_replaced step new x (s ∷ slots) h =
      All-cons (λ s. fits_step b s ≡ true) (with_step x step s).step (map step_of (replaced x step slots))
      (fits_with x step s (nat_eq s.cell x) refl new (All-head (λ s. fits_step b s ≡ true) s.step (map step_of slots) h))
      (fits_replaced step new x slots (All-tail (λ s. fits_step b s ≡ true) s.step (map step_of slots) h))

  pub at_cell_fits : (f g : Forest) (place : ℕ) (change : ℕ → List Slot → List Slot) → ((x : ℕ) (slots : List Slot) → FitAll slots → FitAll (change x slots))
      → StepsFit b f → (found : Option ℕ) → on_found found (at_cell f place change) ≡ Ok g → StepsFit b g
  at_cell_fits f g place change keeps fits None e = cc
  at_cell_fits f g place change keeps fits (Some i) e =
      let same : record { branches = everywhere (change (cell_in (slots_in f.branches i) place)) f.branches; made = f.made } ≡ g =
      forest_if_ok (nat_le (length (slots_in f.branches i)) place) NoPlace _ g e in
      subst (StepsFit b) same (fits_everywhere (change (cell_in (slots_in f.branches i) place)) (keeps (cell_in (slots_in f.branches i) place)) f.branches fits)

  pub replace_fits : (f g : Forest) (name : List ℕ) (place : ℕ) (step : Step) → fits_step b step ≡ true → StepsFit b f → replace_step f name place step ≡ Ok g → StepsFit b g
  replace_fits f g name place step new fits e = at_cell_fits f g place (replaced_by step) (fits_replaced step new) fits (index_of f.branches name) e

  opening_fits : (steps : List Step) → AllFit b steps → StepsFit b (opening_forest steps)
  opening_fits steps h zero = rw (steps-numbered 0 steps) h
  opening_fits steps h (suc i) = All-nil (λ s. fits_step b s ≡ true)

  pub opened_fits : (limits : Limits) (steps : List Step) (f : Forest) → AllFit b steps → opened limits steps ≡ Ok f → StepsFit b f
  opened_fits limits steps f h e = subst (StepsFit b) (forest_if_ok (nat_lt limits.cells (length steps)) Full (opening_forest steps) f e) (opening_fits steps h)

found_index : (o : Option ℕ) (command : ℕ → Result Forest Refusal) (g : Forest) → on_found o command ≡ Ok g → (i : ℕ) × (command i ≡ Ok g)
found_index None command g h = absurd (cc)
found_index (Some i) command g h = (i, h)

-- steps still fit after each other edit
module _ {P : Type 0} (b : Behaviour P) where
  pub none_fit : FitAll b []
  none_fit = All-nil (λ s. fits_step b s ≡ true)

  fits_cons : (s : Slot) (slots : List Slot) → fits_step b s.step ≡ true → FitAll b slots → FitAll b (s ∷ slots)
  fits_cons s slots h more = All-cons (λ s. fits_step b s ≡ true) s.step (map step_of slots) h more

  fits_head : (s : Slot) (slots : List Slot) → FitAll b (s ∷ slots) → fits_step b s.step ≡ true
  fits_head s slots h = All-head (λ s. fits_step b s ≡ true) s.step (map step_of slots) h

  pub fits_tail : (s : Slot) (slots : List Slot) → FitAll b (s ∷ slots) → FitAll b slots
  fits_tail s slots h = All-tail (λ s. fits_step b s ≡ true) s.step (map step_of slots) h

  pub fits_both : (xs ys : List Slot) → FitAll b xs → FitAll b ys → FitAll b (xs ++ ys)
  fits_both xs ys h k = subst (AllFit b) (sym (map-append step_of xs ys)) (All-append (λ s. fits_step b s ≡ true) (map step_of xs) (map step_of ys) h k)

  fits_only_in : (g : List Slot → List Slot) → ((slots : List Slot) → FitAll b slots → FitAll b (g slots)) → (bs : List Branch) (i : ℕ)
      → ((j : ℕ) → FitAll b (slots_in bs j)) → (j : ℕ) → FitAll b (slots_in (only_in i g bs) j)
  fits_only_in g keeps [] i each j = none_fit
  fits_only_in g keeps (c ∷ bs) zero each zero = keeps c.slots (each 0)
  fits_only_in g keeps (c ∷ bs) zero each (suc j) = each (suc j)
  fits_only_in g keeps (c ∷ bs) (suc i) each zero = each 0
  fits_only_in g keeps (c ∷ bs) (suc i) each (suc j) = fits_only_in g keeps bs i (λ k. each (suc k)) j

  fits_last : (new : Slot) → fits_step b new.step ≡ true → (slots : List Slot) → FitAll b slots → FitAll b (put_last new slots)
  fits_last new h slots fits = fits_both slots (new ∷ []) fits (fits_cons new [] h none_fit)

  fits_before : (x : ℕ) (new : Slot) → fits_step b new.step ≡ true → (slots : List Slot) → FitAll b slots → FitAll b (put_before x new slots)
  fits_before x new h [] fits = none_fit
  fits_before x new h (s ∷ slots) fits =
      fits_both (before_cell x new s) (put_before x new slots) (here (nat_eq s.cell x)) (fits_before x new h slots (fits_tail s slots fits))
    where
      here : (t : Bool) → FitAll b (cond t (new ∷ s ∷ []) (s ∷ []))
      here true = fits_cons new (s ∷ []) h (fits_cons s [] (fits_head s slots fits) none_fit)
      here false = fits_cons s [] (fits_head s slots fits) none_fit

  fits_without : (x : ℕ) (slots : List Slot) → FitAll b slots → FitAll b (without x slots)
  fits_without x [] fits = none_fit
  fits_without x (s ∷ slots) fits = here (fits_without x slots (fits_tail s slots fits)) (is_other x s)
    where
      here : FitAll b (without x slots) → (t : Bool) → FitAll b (cond t (s ∷ without x slots) (without x slots))
      here more true = fits_cons s (without x slots) (fits_head s slots fits) more
      here more false = more

  fits_renumbered : (n : ℕ) (slots : List Slot) → FitAll b slots → FitAll b (renumbered n slots)
  fits_renumbered n slots fits = subst (AllFit b) (sym (steps-numbered n (map step_of slots))) fits

  pub fits_take : (n : ℕ) (slots : List Slot) → FitAll b slots → FitAll b (take n slots)
  fits_take zero slots fits = none_fit
  fits_take (suc n) [] fits = none_fit
  fits_take (suc n) (s ∷ slots) fits = fits_cons s (take n slots) (fits_head s slots fits) (fits_take n slots (fits_tail s slots fits))

  pub fits_one_more : (bs : List Branch) (c : Branch) → ((j : ℕ) → FitAll b (slots_in bs j)) → FitAll b c.slots → (j : ℕ) → FitAll b (slots_in (bs ++ c ∷ []) j)
  fits_one_more [] c each h zero = h
  fits_one_more [] c each h (suc j) = none_fit
  fits_one_more (d ∷ bs) c each h zero = each 0
  fits_one_more (d ∷ bs) c each h (suc j) = fits_one_more bs c (λ k. each (suc k)) h j

  fits_one_less : (bs : List Branch) (i : ℕ) → ((j : ℕ) → FitAll b (slots_in bs j)) → (j : ℕ) → FitAll b (slots_in (remove bs i) j)
  fits_one_less [] zero each j = none_fit
  fits_one_less [] (suc i) each j = none_fit
  fits_one_less (c ∷ bs) zero each j = each (suc j)
  fits_one_less (c ∷ bs) (suc i) each zero = each 0
  fits_one_less (c ∷ bs) (suc i) each (suc j) = fits_one_less bs i (λ k. each (suc k)) j

  pub insert_fits : (limits : Limits) (f g : Forest) (name : List ℕ) (place : ℕ) (step : Step) → fits_step b step ≡ true → StepsFit b f → insert limits f name place step ≡ Ok g
      → StepsFit b g
  insert_fits limits f g name place step new fits e =
      let at = found_index (index_of f.branches name) (insert_at limits f place step) g e in
      let same : Ok (inserted f at.0 place step) ≡ Ok g =
      result_if_ok (nat_le limits.cells f.made) Full (Ok (inserted f at.0 place step)) g
      (result_if_ok (nat_lt (length (slots_in f.branches at.0)) place) NoPlace (cond (nat_le limits.cells f.made) (Err Full) (Ok (inserted f at.0 place step))) g at.1) in
      let forests : inserted f at.0 place step ≡ g = cc in
      subst (StepsFit b) forests (by at.0 (nat_eq place (length (slots_in f.branches at.0))))
    where
      by : (i : ℕ) (last : Bool)
          → StepsFit b (record {
            branches = cond last (only_in i (put_last (slot f.made step)) f.branches) (everywhere (put_before (cell_in (slots_in f.branches i) place) (slot f.made step)) f.branches);
            made = f.made + 1;
          })
      by i true = fits_only_in (put_last (slot f.made step)) (fits_last (slot f.made step) new) f.branches i fits
      by i false = fits_everywhere b (put_before (cell_in (slots_in f.branches i) place) (slot f.made step)) (fits_before (cell_in (slots_in f.branches i) place) (slot f.made step) new) f.branches fits

  pub remove_fits : (f g : Forest) (name : List ℕ) (place : ℕ) → StepsFit b f → remove_cell f name place ≡ Ok g → StepsFit b g
  remove_fits f g name place fits e = at_cell_fits b f g place without fits_without fits (index_of f.branches name) e

  pub fork_fits : (limits : Limits) (f g : Forest) (name : List ℕ) (place : ℕ) (new : List ℕ) → StepsFit b f → fork limits f name place new ≡ Ok g → StepsFit b g
  fork_fits limits f g name place new fits e =
      let at = found_index (index_of f.branches name) (fork_at limits f place new) g e in
      let forked : Forest = record { branches = f.branches ++ branch new (take place (slots_in f.branches at.0)) ∷ []; made = f.made } in
      let same : Ok forked ≡ Ok g =
      result_if_ok (nat_le limits.branches (length f.branches)) TooManyBranches _ g
      (result_if_ok (nat_lt (length (slots_in f.branches at.0)) place) NoPlace _ g
      (result_if_ok (not (is_well_formed new)) BadName _ g
      (result_if_ok (list_any (pointwise nat_eq new) (map name_of f.branches)) NameTaken _ g at.1))) in
      let forests : forked ≡ g = cc in
      subst (StepsFit b) forests
      (fits_one_more f.branches (branch new (take place (slots_in f.branches at.0))) fits (fits_take place (slots_in f.branches at.0) (fits at.0)))

  pub detach_fits : (limits : Limits) (f g : Forest) (name : List ℕ) → StepsFit b f → detach limits f name ≡ Ok g → StepsFit b g
  detach_fits limits f g name fits e =
      let at = found_index (index_of f.branches name) (detach_at limits f) g e in
      let detached : Forest = record { branches = only_in at.0 (renumbered f.made) f.branches; made = f.made + length (slots_in f.branches at.0) } in
      let same : Ok detached ≡ Ok g = result_if_ok (nat_lt limits.cells (f.made + length (slots_in f.branches at.0))) Full _ g at.1 in
      let forests : detached ≡ g = cc in
      subst (StepsFit b) forests (fits_only_in (renumbered f.made) (fits_renumbered f.made) f.branches at.0 fits)

  pub drop_fits : (f g : Forest) (name : List ℕ) → StepsFit b f → drop_branch f name ≡ Ok g → StepsFit b g
  drop_fits f g name fits e =
      let at = found_index (index_of f.branches name) (drop_at f) g e in
      let dropped : Forest = record { branches = remove f.branches at.0; made = f.made } in
      let same : Ok dropped ≡ Ok g = result_if_ok (nat_le (length f.branches) 1) LastBranch _ g at.1 in
      let forests : dropped ≡ g = cc in
      subst (StepsFit b) forests (fits_one_less f.branches at.0 fits)
