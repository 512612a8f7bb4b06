-- A register alone after a list of fitting steps, with what its history shows; and one more step.
use Rattle.std.proofs.Common.{◌≡◌, ℕ, ◌<◌, List, [], ◌∷◌, ◌++◌, refl, ap, ◌∙◌, arith, true}
use Rattle.std.proofs.lemmas.List.Elements.{All-append, All-cons}
use Rattle.schedule_steps.specs.declared.types.Step.{Step}
use Rattle.frames.specs.declared.types.StepEvents.{StepEvents}
use Rattle.frames.specs.Behaviour.{Behaviour}
use Rattle.frames.specs.Configuration.{Configuration, stepped, events_of, fits_step, replayed, history}
use Rattle.frames.specs.Recorded.{AllFit, LoneConfiguration, first_configuration}
use Rattle.frames.proofs.Seen.{Seen, opening, after_step, seen}

-- a list of fitting steps leads the register alone to c, and its history shows s
pub record IsReplayed {P : Type 0} (b : Behaviour P) (v : ℕ) (c : LoneConfiguration P) (s : Seen) : Type 0 where
  pub steps : List Step
  pub fit : AllFit b steps
  pub leads : replayed b (first_configuration b v) steps ≡ c
  pub reports : seen (opening v) (history b (first_configuration b v) steps) ≡ s

pub history-push : {R P : Type 0} (b : Behaviour P) (xs : List Step) (s : Step) (c : Configuration R P)
    → history b c (xs ++ s ∷ []) ≡ history b c xs ++ events_of b (replayed b c xs) s ∷ []
history-push b [] s c = refl
history-push b (x ∷ xs) s c = ap (λ es. events_of b c x ∷ es) (history-push b xs s (stepped b c x))

pub replayed-push : {R P : Type 0} (b : Behaviour P) (xs : List Step) (s : Step) (c : Configuration R P)
    → replayed b c (xs ++ s ∷ []) ≡ stepped b (replayed b c xs) s
replayed-push b [] s c = refl
replayed-push b (x ∷ xs) s c = replayed-push b xs s (stepped b c x)

seen-push : (s : Seen) (es : List StepEvents) (e : StepEvents) → seen s (es ++ e ∷ []) ≡ after_step e (seen s es)
seen-push s [] e = refl
seen-push s (d ∷ es) e = seen-push (after_step d s) es e

one_fits : {P : Type 0} (b : Behaviour P) (s : Step) → fits_step b s ≡ true → AllFit b (s ∷ [])
one_fits b s f = All-cons (λ s. fits_step b s ≡ true) s [] f (λ k d lt. absurd (omega (arith, lt)))

pub fit-push : {P : Type 0} (b : Behaviour P) (xs : List Step) (s : Step) → AllFit b xs → fits_step b s ≡ true → AllFit b (xs ++ s ∷ [])
fit-push b xs s h f = All-append (λ s. fits_step b s ≡ true) xs (s ∷ []) h (one_fits b s f)

-- the empty list of steps leads to the first configuration
pub replayed_at_first : {P : Type 0} (b : Behaviour P) (v : ℕ) → IsReplayed b v (first_configuration b v) (opening v)
replayed_at_first b v = record { steps = []; fit = λ k d lt. absurd (omega (arith, lt)); leads = refl; reports = refl }

-- one more fitting step leads to the configuration after the step
pub replayed_more : {P : Type 0} (b : Behaviour P) (v : ℕ) (c : LoneConfiguration P) (s : Seen) (step : Step) → IsReplayed b v c s → fits_step b step ≡ true
    → IsReplayed b v (stepped b c step) (after_step (events_of b c step) s)
replayed_more b v c s step h f =
    let first = first_configuration b v in
    record {
      steps = h.steps ++ step ∷ [];
      fit = fit-push b h.steps step h.fit f;
      leads = replayed-push b h.steps step first ∙ ap (λ x. stepped b x step) h.leads;
      reports = ap (seen (opening v)) (history-push b h.steps step first)
          ∙ seen-push (opening v) (history b first h.steps) (events_of b (replayed b first h.steps) step)
          ∙ ap (λ x. after_step (events_of b x step) (seen (opening v) (history b first h.steps))) h.leads
          ∙ ap (after_step (events_of b c step)) h.reports;
    }
