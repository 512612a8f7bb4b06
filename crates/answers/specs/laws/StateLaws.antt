-- Equality of states is an equivalence, and equal states move alike.
use Rattle.std.proofs.Common.{◌≡◌, ℕ, ◌/◌, ◌%◌, Bool, true, false, List, [], ◌∷◌, Option, None, Some, refl, ap, subst, if◌then◌else◌, nat_eq}
use mathlib.Core.Bool.{◌&&◌}
use Rattle.std.specs.Bool.{Decides}
use Rattle.std.specs.Cmp.{IsPartialEquivalence, IsEquivalence, equiv, partial_equiv_from_equiv, on_per, and_per}
use Rattle.std.specs.Cmp.Lexicographic.{pointwise}
use Rattle.std.specs.Ordering.{on, eq_of_both}
use Rattle.std.proofs.lemmas.Bool.Decides.{Decides-and, Decides-like}
use Rattle.std.proofs.lemmas.Option.{none-some, same_Some}
use Rattle.std.proofs.lemmas.Slice.Eq.{slice_eq-Decides}
use Rattle.safe_bit.specs.laws.Equality.{per_from_decides}
use Rattle.frames.specs.contracts.types.OutcomePartialEq.TheImpl as outcomes
use Rattle.frames.specs.contracts.types.LayerPartialEq.TheImpl as layers
use Rattle.frames.specs.declared.types.Layer.{Layer}
use Rattle.frames.specs.declared.types.Layer.TheVariants.{Stamped, Matrix}
use Rattle.frames.specs.declared.types.Outcome.{Outcome}
use Rattle.frames.specs.declared.types.Outcome.TheVariants.{Value, Written, Spent}
use Rattle.frames.specs.declared.types.Step.{Step}
use Rattle.frames.specs.Behaviour.{Behaviour}
use Rattle.frames.specs.Configuration.{Configuration, fits_step, is_enabled, stepped}
use Rattle.frames.specs.Equality.{configuration_eq, configuration_per, configuration_decides, SameConfiguration}
use Rattle.frames.specs.laws.WithoutRegister.{without_register_same, replayed_same}
use Rattle.std.proofs.lemmas.Bool.Decides.{Decides-eqb}
use Rattle.answers.specs.declared.question.Question.{Question}
use Rattle.answers.specs.States.{StateOf, moved, moved_if, advanced, step_by}

-- whether two outcomes are equal
abbrev pub outcome_eq : Outcome → Outcome → Bool
outcome_eq = outcomes.eq-value.it

-- the derived `==` of layers and of outcomes decides equality
layer_decides : (a b : Layer) → Decides (layers.eq-value.it a b) (a ≡ b)
layer_decides Stamped Stamped = (λ h. refl, λ h. refl)
layer_decides Matrix Matrix = (λ h. refl, λ h. refl)
layer_decides _ _ = (λ h. cc, λ h. cc)

outcome_decides : (a b : Outcome) → Decides (outcome_eq a b) (a ≡ b)
outcome_decides (Value v) (Value w) = Decides-like (nat_eq v w) (λ p. ap Value p) (λ p. cc) (Decides-eqb v w)
outcome_decides Written Written = (λ h. refl, λ h. refl)
outcome_decides (Spent a) (Spent b) = Decides-like (layers.eq-value.it a b) (λ p. ap Spent p) (λ p. cc) (layer_decides a b)
outcome_decides _ _ = (λ h. cc, λ h. cc)

-- whether two lists of outcomes are equal
abbrev pub outcomes_eq : List Outcome → List Outcome → Bool
outcomes_eq = pointwise outcome_eq

pub outcomes_decide : (a b : List Outcome) → Decides (outcomes_eq a b) (a ≡ b)
outcomes_decide a b = slice_eq-Decides outcome_decides a b _ refl

pub outcomes_per : IsPartialEquivalence outcomes_eq
outcomes_per = per_from_decides outcomes_eq outcomes_decide

-- whether two lists of answers are equal
abbrev pub answers_eq : List (List Outcome) → List (List Outcome) → Bool
answers_eq = pointwise outcomes_eq

pub answers_decide : (a b : List (List Outcome)) → Decides (answers_eq a b) (a ≡ b)
answers_decide a b = slice_eq-Decides outcomes_decide a b _ refl

-- two states are equal: they have the same answers and equal configurations
pub record SameState {R P : Type 0} (E : R → R → Bool) (a b : StateOf R P) : Type 0 where
  pub answers : a.answers ≡ b.answers
  pub configuration : SameConfiguration E a.configuration b.configuration

module _ {R P : Type 0} (E : R → R → Bool) (F : P → P → Bool) where
  -- whether two states are equal; E compares registers, and F points of pending operations
  abbrev pub state_eq : StateOf R P → StateOf R P → Bool
  state_eq = eq_of_both (on (λ a. a.answers) answers_eq) (on (λ a. a.configuration) (configuration_eq E F))

  module _ (d : (x y : P) → Decides (F x y) (x ≡ y)) where
    pub state_decides : (a b : StateOf R P) → Decides (state_eq a b) (SameState E a b)
    state_decides a b =
        Decides-like (state_eq a b) (λ p. record { answers = p.0; configuration = p.1 }) (λ p. (p.answers, p.configuration))
        (Decides-and (answers_eq a.answers b.answers) _ (answers_decide a.answers b.answers) (configuration_decides E F d a.configuration b.configuration))

    pub state_per : IsPartialEquivalence E → IsPartialEquivalence state_eq
    state_per per =
        and_per (on_per (λ a. a.answers) (per_from_decides answers_eq answers_decide)) (on_per (λ a. a.configuration) (configuration_per E F per d))

    same_itself : IsEquivalence E → (a : StateOf R P) → SameState E a a
    same_itself e a = record {
      answers = refl;
      configuration = record { register = e.refl a.configuration.register; memory = refl; running = refl; stopped = refl };
    }

    pub state_equivalence : IsEquivalence E → IsEquivalence state_eq
    state_equivalence e = equiv (state_per (partial_equiv_from_equiv e)) (λ a. (state_decides a a).1 (same_itself e a))

    -- equal configurations, and then states, are equal after the same step
    stepped_same : (b : Behaviour P) (a c : Configuration R P) (s : Step) → SameConfiguration E a c → SameConfiguration E (stepped b a s) (stepped b c s)
    stepped_same b a c s e = replayed_same E b a c (s ∷ []) e

    advanced_same : (b : Behaviour P) (x y : StateOf R P) (s : Step) → SameState E x y → SameState E (advanced b x s) (advanced b y s)
    advanced_same b x y s e = record {
      answers = λ i. (advanced b (record { configuration = without_register_same E x.configuration y.configuration e.configuration i; answers = e.answers i }) s).answers;
      configuration = stepped_same b x.configuration y.configuration s e.configuration;
    }

    -- the same steps fit equal states and are enabled
    enabled_same : (b : Behaviour P) (x y : StateOf R P) (s : Step) → SameState E x y
        → (fits_step b s && is_enabled x.configuration s) ≡ (fits_step b s && is_enabled y.configuration s)
    enabled_same b x y s e i = fits_step b s && is_enabled (without_register_same E x.configuration y.configuration e.configuration i) s

    module _ (is : R → Behaviour P) (alike : (r s : R) → E r s ≡ true → is r ≡ is s) where
      -- `moved_alike`, by whether the step fits and is enabled; and by the step
      by_test : (b : Behaviour P) (x y : StateOf R P) (s : Step) (t : Bool) (z : StateOf R P) → SameState E x y
          → (if t then Some (advanced b x s) else None) ≡ Some z
          → (w : StateOf R P) × (((if t then Some (advanced b y s) else None) ≡ Some w) × (state_eq z w ≡ true))
      by_test b x y s true z same h = (
        advanced b y s,
        (
          refl,
          (state_decides z (advanced b y s)).1
              (subst (λ (n : StateOf R P). SameState E n (advanced b y s)) (same_Some (advanced b x s) z h) (advanced_same b x y s same)),
        ),
      )
      by_test b x y s false z same h = absurd (none-some z h)

      by_step : (b : Behaviour P) (x y : StateOf R P) (o : Option Step) (z : StateOf R P) → SameState E x y → moved_if b x o ≡ Some z
          → (w : StateOf R P) × ((moved_if b y o ≡ Some w) × (state_eq z w ≡ true))
      by_step b x y None z same h = absurd (none-some z h)
      by_step b x y (Some s) z same h =
          let test = enabled_same b x y s same in
          subst (λ (t : Bool). (w : StateOf R P) × (((if t then Some (advanced b y s) else None) ≡ Some w) × (state_eq z w ≡ true))) test
          (by_test b x y s (fits_step b s && is_enabled x.configuration s) z same h)

      -- if a label leads from one of two equal states to z, it leads from the other to a state
      -- equal to z
      pub moved_alike : (q : Question) (x y : StateOf R P) → state_eq x y ≡ true → (l : ℕ) (z : StateOf R P)
          → moved (is x.configuration.register) q x l ≡ Some z → (w : StateOf R P) × ((moved (is y.configuration.register) q y l ≡ Some w) × (state_eq z w ≡ true))
      moved_alike q x y h l z m =
          let same = (state_decides x y).0 h in
          let step_x = step_by q x.answers (l / 4) (l % 4) in
          subst (λ (b : Behaviour P). (w : StateOf R P) × ((moved b q y l ≡ Some w) × (state_eq z w ≡ true))) (alike x.configuration.register y.configuration.register same.configuration.register)
          (subst (λ (a : List (List Outcome)). (w : StateOf R P) × ((moved_if (is x.configuration.register) y (step_by q a (l / 4) (l % 4)) ≡ Some w) × (state_eq z w ≡ true))) same.answers
          (by_step (is x.configuration.register) x y (step_by q x.answers (l / 4) (l % 4)) z same m))
