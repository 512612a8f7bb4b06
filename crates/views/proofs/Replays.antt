-- Replay of a list of steps after another one, and of the first steps of a list.
use Rattle.std.proofs.Common.{◌≡◌, ℕ, zero, suc, List, [], ◌∷◌, ◌++◌, take, refl, ap}
use Rattle.frames.specs.declared.types.Step.{Step}
use Rattle.frames.specs.Behaviour.{Behaviour}
use Rattle.frames.specs.Configuration.{Configuration, events_of, stepped, replayed, history}

module _ {R P : Type 0} (b : Behaviour P) where
  -- to replay a list of steps after another is to replay both as one list
  pub replayed-append : (c : Configuration R P) (first later : List Step) → replayed b c (first ++ later) ≡ replayed b (replayed b c first) later
  replayed-append c [] later = refl
  replayed-append c (s ∷ first) later = replayed-append (stepped b c s) first later

  pub history-append : (c : Configuration R P) (first later : List Step) → history b c (first ++ later) ≡ history b c first ++ history b (replayed b c first) later
  history-append c [] later = refl
  history-append c (s ∷ first) later = ap (λ events. events_of b c s ∷ events) (history-append (stepped b c s) first later)

  -- the first n steps record the first n of the events that all steps record
  pub history-take : (c : Configuration R P) (n : ℕ) (steps : List Step) → take n (history b c steps) ≡ history b c (take n steps)
  history-take c zero steps = refl
  history-take c (suc n) [] = refl
  history-take c (suc n) (s ∷ steps) = ap (λ events. events_of b c s ∷ events) (history-take (stepped b c s) n steps)
