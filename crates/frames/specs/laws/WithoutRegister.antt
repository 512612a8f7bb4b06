-- What steps do doesn't depend on the value of a register, if its behaviour is the same. So equal
-- configurations stay equal under the same steps.
use Rattle.std.proofs.Common.{◌≡◌, Bool, true, List, [], ◌∷◌, refl, sym, ap, subst, ◌∙◌}
use Rattle.std.specs.Cmp.{IsPartialEquivalence}
use Rattle.schedule_steps.specs.declared.types.Step.{Step}
use Rattle.frames.specs.Behaviour.{Behaviour}
use Rattle.frames.specs.Configuration.{Configuration, events_of, stepped, replayed, history}
use Rattle.frames.specs.Equality.{SameConfiguration}
use Rattle.frames.specs.Recorded.{without_register}

module _ {R P : Type 0} (b : Behaviour P) where
  -- a replay keeps the register
  pub register_kept : (c : Configuration R P) (steps : List Step) → (replayed b c steps).register ≡ c.register
  register_kept c [] = refl
  register_kept c (s ∷ steps) = register_kept (stepped b c s) steps

  pub replayed_alone : (c : Configuration R P) (steps : List Step) → without_register (replayed b c steps) ≡ replayed b (without_register c) steps
  replayed_alone c [] = refl
  replayed_alone c (s ∷ steps) = replayed_alone (stepped b c s) steps

  pub history_alone : (c : Configuration R P) (steps : List Step) → history b c steps ≡ history b (without_register c) steps
  history_alone c [] = refl
  history_alone c (s ∷ steps) = ap (λ later. events_of b c s ∷ later) (history_alone (stepped b c s) steps)

-- E compares registers
module _ {R P : Type 0} (E : R → R → Bool) where
  pub without_register_same : (a c : Configuration R P) → SameConfiguration E a c → without_register a ≡ without_register c
  without_register_same a c e = λ i. record { register = tt; memory = e.memory i; running = e.running i; stopped = e.stopped i }

  pub same_with_register : (a c : Configuration R P) → E a.register c.register ≡ true → without_register a ≡ without_register c → SameConfiguration E a c
  same_with_register a c r e = record { register = r; memory = ap (λ d. d.memory) e; running = ap (λ d. d.running) e; stopped = ap (λ d. d.stopped) e }

  module _ (b : Behaviour P) where
    pub replayed_same : (a c : Configuration R P) (steps : List Step) → SameConfiguration E a c → SameConfiguration E (replayed b a steps) (replayed b c steps)
    replayed_same a c steps e =
        same_with_register (replayed b a steps) (replayed b c steps)
        (subst (λ r. E r (replayed b c steps).register ≡ true) (sym (register_kept b a steps)) (subst (λ r. E a.register r ≡ true) (sym (register_kept b c steps)) e.register))
        (replayed_alone b a steps ∙ ap (λ d. replayed b d steps) (without_register_same a c e) ∙ sym (replayed_alone b c steps))

    pub history_same : (a c : Configuration R P) (steps : List Step) → SameConfiguration E a c → history b a steps ≡ history b c steps
    history_same a c steps same = history_alone b a steps ∙ ap (λ d. history b d steps) (without_register_same a c same) ∙ sym (history_alone b c steps)

  module _ (per : IsPartialEquivalence E) where
    pub same_symm : (a c : Configuration R P) → SameConfiguration E a c → SameConfiguration E c a
    same_symm a c e = record { register = per.symm c.register a.register ∙ e.register; memory = sym e.memory; running = sym e.running; stopped = sym e.stopped }

    pub same_trans : (a c d : Configuration R P) → SameConfiguration E a c → SameConfiguration E c d → SameConfiguration E a d
    same_trans a c d e f = record {
      register = per.trans a.register c.register d.register e.register f.register;
      memory = e.memory ∙ f.memory;
      running = e.running ∙ f.running;
      stopped = e.stopped ∙ f.stopped;
    }
