-- Reading steps one after the other, as a loop does.
use Rattle.std.proofs.Common.{◌≡◌, ℕ, ◌+◌, ◌<◌, true, false, List, [], ◌∷◌, ◌++◌, length, Some, None, cond, Result, Ok, Err, refl, sym, ap, ◌∙◌, append_assoc, arith, ◌==◌, Option}
use Rattle.tower_file.specs.declared.tower.TowerSpec.{TowerSpec}
use Rattle.tower_file.specs.declared.fault.FaultKind.TheVariants.{BadStep}
use Rattle.tower_file.specs.declared.fault.FileFault.{FileFault}
use Rattle.tower_file.specs.Faults.{fault}
use Rattle.tower_file.specs.Reading.{◌>>=◌, next_step, steps_of, HasSomeStep}
use Rattle.words.specs.Words.{after_next}
use Rattle.frames.specs.declared.types.Step.{Step}
use Rattle.std.specs.Option.{ok_or}
use Rattle.std.proofs.lemmas.List.{append-nil}
use Rattle.tower_file.specs.declared.version.Version.{Version}
use Rattle.tower_file.specs.Lines.{fitting_step}

-- the steps `front`, which were read before, and then those that `read` gives; or its fault
abbrev pub with_front : List Step → Result (List Step) FileFault → Result (List Step) FileFault
with_front front read = read >>= λ ss. Ok (front ++ ss)

-- a step at the front of those that are read, or at the end of those that were
regroup : (front : List Step) (s : Step) (read : Result (List Step) FileFault) → with_front front (read >>= λ ss. Ok (s ∷ ss)) ≡ with_front (front ++ s ∷ []) read
regroup front s (Ok ss) = ap (λ (xs : List Step). Ok xs) (sym (append_assoc front (s ∷ []) ss))
regroup front s (Err f) = refl

-- the steps of line n and of `others`, the lines after it, given what `next_step` gives for line n
abbrev with_next : Version → TowerSpec → ℕ → List (List ℕ) → Result (Option Step) FileFault → Result (List Step) FileFault
with_next v t n others (Err e) = Err e
with_next v t n others (Ok None) = Ok []
with_next v t n others (Ok (Some s)) = steps_of v t (n + 1) others >>= λ ss. Ok (s ∷ ss)

-- the steps of the lines, by what `next_step` gives for the first
steps_by_next : (v : Version) (t : TowerSpec) (n : ℕ) (ls : List (List ℕ)) → steps_of v t n ls ≡ with_next v t n (after_next ls) (next_step v t n ls)
unfolding steps_of
steps_by_next v t n [] = refl
steps_by_next v t n (l ∷ []) = elim (length l == 0) as (λ b. cond b (Ok []) (Err (fault BadStep n)) ≡ with_next v t n [] (cond b (Ok None) (Err (fault BadStep n)))) [
  | true ↦ refl
  | false ↦ refl
]
steps_by_next v t n (l ∷ k ∷ ls) = by_step (fitting_step v t l)
  where
    by_step : (o : Option Step) → (ok_or o (fault BadStep n) >>= λ s. steps_of v t (n + 1) (k ∷ ls) >>= λ ss. Ok (s ∷ ss)) ≡ with_next v t n (k ∷ ls) (ok_or o (fault BadStep n) >>= λ s. Ok (Some s))
    by_step None = refl
    by_step (Some s) = refl

module _ (v : Version) (t : TowerSpec) (n : ℕ) (front : List Step) (ls : List (List ℕ)) (total : Result (List Step) FileFault) (so_far : with_front front (steps_of v t n ls) ≡ total) where
  -- no steps are left: `front` has all
  pub total_if_ended : next_step v t n ls ≡ Ok None → total ≡ Ok front
  total_if_ended e = sym so_far ∙ ap (with_front front) (steps_by_next v t n ls) ∙ ap (λ (r : Result (Option Step) FileFault). with_front front (with_next v t n (after_next ls) r)) e ∙ ap (λ (xs : List Step). Ok xs) (append-nil front)

  -- the next line is faulty: its fault is that of all
  pub total_if_faulty : (e : FileFault) → next_step v t n ls ≡ Err e → total ≡ Err e
  total_if_faulty e h = sym so_far ∙ ap (with_front front) (steps_by_next v t n ls) ∙ ap (λ (r : Result (Option Step) FileFault). with_front front (with_next v t n (after_next ls) r)) h

  -- the next line has the step s
  pub so_far_after_step : (s : Step) → next_step v t n ls ≡ Ok (Some s) → with_front (front ++ s ∷ []) (steps_of v t (n + 1) (after_next ls)) ≡ total
  so_far_after_step s e =
      sym (regroup front s (steps_of v t (n + 1) (after_next ls)))
      ∙ ap (λ (r : Result (Option Step) FileFault). with_front front (with_next v t n (after_next ls) r)) (sym e)
      ∙ ap (with_front front) (sym (steps_by_next v t n ls)) ∙ so_far

-- if `front`, the steps so far, are all steps, and there is at least one, `HasSomeStep` holds
pub has_some_step : (total : Result (List Step) FileFault) (front : List Step) → total ≡ Ok front → 0 < length front → HasSomeStep total
has_some_step total [] e l = absurd (omega arith)
has_some_step total (s ∷ ss) e l = (s, ss, e)
