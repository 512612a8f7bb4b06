-- When two places of runs are the same: their counts, and their runs' steps and entries, are equal.
use Rattle.std.proofs.Common.{◌≡◌, ℕ, Bool, true, false, nat_eq, List, refl, ap, ◌++◌}
use mathlib.Core.Bool.{◌&&◌}
use Rattle.std.specs.Bool.{Decides}
use Rattle.std.specs.Cmp.{IsPartialEquivalence, IsEquivalence, equiv, partial_equiv_from_equiv, on_per, and_per}
use Rattle.std.specs.Cmp.Lexicographic.{pointwise}
use Rattle.std.specs.Hash as fed
use Rattle.std.specs.Ordering.{on, eq_of_both}
use Rattle.std.proofs.lemmas.Bool.Decides.{Decides-and, Decides-eqb, Decides-like}
use Rattle.std.proofs.lemmas.Slice.Eq.{slice_eq-Decides}
use Rattle.safe_bit.specs.laws.Equality.{per_from_decides}
use Rattle.frames.specs.declared.types.Step.{Step}
use Rattle.frames.specs.declared.types.Step.TheVariants as step
use Rattle.frames.specs.Equality.{configuration_eq, configuration_per, configuration_decides, SameConfiguration}
use Rattle.cutoff.specs.Fitting.{RunPart}
use Rattle.views.specs.Digests.{digest}
use Rattle.views.specs.HashedSteps.{hashed_steps, last_steps}

-- whether two steps are equal
abbrev pub step_eq : Step → Step → Bool
step_eq (step.Write p v) (step.Write q w) = nat_eq p q && nat_eq v w
step_eq (step.Read p) (step.Read q) = nat_eq p q
step_eq (step.Go p c) (step.Go q d) = nat_eq p q && nat_eq c d
step_eq (step.Stop p) (step.Stop q) = nat_eq p q
step_eq _ _ = false

both_decide : (p q v w : ℕ) → Decides (nat_eq p q && nat_eq v w) ((p ≡ q) × (v ≡ w))
both_decide p q v w = Decides-and (nat_eq p q) (nat_eq v w) (Decides-eqb p q) (Decides-eqb v w)

-- `step_eq` decides whether two steps are equal
pub step_decides : (a b : Step) → Decides (step_eq a b) (a ≡ b)
step_decides (step.Write p v) (step.Write q w) = Decides-like (nat_eq p q && nat_eq v w) (λ e i. step.Write (e.0 i) (e.1 i)) (λ e. let first : p ≡ q = cc in let second : v ≡ w = cc in (first, second)) (both_decide p q v w)
step_decides (step.Read p) (step.Read q) = Decides-like (nat_eq p q) (λ e. ap step.Read e) (λ e. cc) (Decides-eqb p q)
step_decides (step.Go p c) (step.Go q d) = Decides-like (nat_eq p q && nat_eq c d) (λ e i. step.Go (e.0 i) (e.1 i)) (λ e. let first : p ≡ q = cc in let second : c ≡ d = cc in (first, second)) (both_decide p q c d)
step_decides (step.Stop p) (step.Stop q) = Decides-like (nat_eq p q) (λ e. ap step.Stop e) (λ e. cc) (Decides-eqb p q)
step_decides (step.Write p v) (step.Read q) = (λ h. cc, λ h. cc)
step_decides (step.Write p v) (step.Go q d) = (λ h. cc, λ h. cc)
step_decides (step.Write p v) (step.Stop q) = (λ h. cc, λ h. cc)
step_decides (step.Read p) (step.Write q w) = (λ h. cc, λ h. cc)
step_decides (step.Read p) (step.Go q d) = (λ h. cc, λ h. cc)
step_decides (step.Read p) (step.Stop q) = (λ h. cc, λ h. cc)
step_decides (step.Go p c) (step.Write q w) = (λ h. cc, λ h. cc)
step_decides (step.Go p c) (step.Read q) = (λ h. cc, λ h. cc)
step_decides (step.Go p c) (step.Stop q) = (λ h. cc, λ h. cc)
step_decides (step.Stop p) (step.Write q w) = (λ h. cc, λ h. cc)
step_decides (step.Stop p) (step.Read q) = (λ h. cc, λ h. cc)
step_decides (step.Stop p) (step.Go q d) = (λ h. cc, λ h. cc)

-- `step_eq`, applied step by step, decides whether two lists of steps are equal
pub steps_decide : (a b : List Step) → Decides (pointwise step_eq a b) (a ≡ b)
steps_decide a b = slice_eq-Decides step_decides a b _ refl

-- Two places of runs are the same: equally many steps precede them, and their runs have the same
-- steps and begin from equal configurations. E compares the registers of the configurations.
pub record SamePlace {R P : Type 0} (E : R → R → Bool) (a b : RunPart R P) : Type 0 where
  pub count : a.count ≡ b.count
  pub steps : a.run.steps ≡ b.run.steps
  pub entry : SameConfiguration E a.run.entry b.run.entry

module _ {R P : Type 0} (E : R → R → Bool) (F : P → P → Bool) where
  -- whether two places of runs are the same; E compares registers, and F compares the points that
  -- pending operations have reached
  abbrev pub same_place : RunPart R P → RunPart R P → Bool
  same_place = eq_of_both (on (λ a. a.count) nat_eq) (eq_of_both (on (λ a. a.run.steps) (pointwise step_eq)) (on (λ a. a.run.entry) (configuration_eq E F)))

  module _ (d : (x y : P) → Decides (F x y) (x ≡ y)) where
    -- `same_place` decides whether two places of runs are the same, if F decides whether two points
    -- of pending operations are equal
    pub place_decides : (a b : RunPart R P) → Decides (same_place a b) (SamePlace E a b)
    place_decides a b =
        Decides-like (same_place a b) (λ p. record { count = p.0; steps = p.1.0; entry = p.1.1 }) (λ p. (p.count, (p.steps, p.entry)))
        (Decides-and (nat_eq a.count b.count) _ (Decides-eqb a.count b.count)
        (Decides-and (pointwise step_eq a.run.steps b.run.steps) _ (steps_decide a.run.steps b.run.steps) (configuration_decides E F d a.run.entry b.run.entry)))

    -- `same_place` is a partial equivalence if E, which compares registers, is a partial
    -- equivalence, and F decides whether two points of pending operations are equal
    pub same_place_per : IsPartialEquivalence E → IsPartialEquivalence same_place
    same_place_per per =
        and_per (on_per (λ a. a.count) (per_from_decides nat_eq Decides-eqb))
        (and_per (on_per (λ a. a.run.steps) (per_from_decides (pointwise step_eq) steps_decide)) (on_per (λ a. a.run.entry) (configuration_per E F per d)))

    same_place_refl : IsEquivalence E → (a : RunPart R P) → SamePlace E a a
    same_place_refl e a = record {
      count = refl;
      steps = refl;
      entry = record { register = e.refl a.run.entry.register; memory = refl; running = refl; stopped = refl };
    }

    -- `same_place` is an equivalence if E, which compares registers, is an equivalence, and F
    -- decides whether two points of pending operations are equal
    pub same_place_equivalence : IsEquivalence E → IsEquivalence same_place
    same_place_equivalence e = equiv (same_place_per (partial_equiv_from_equiv e)) (λ a. (place_decides a a).1 (same_place_refl e a))

    -- if `same_place` holds of two places, and F decides whether two points of pending operations
    -- are equal, the same numbers are hashed for both places
    pub places_hash_alike : (a b : RunPart R P) → same_place a b ≡ true
        → fed.u64 (digest (hashed_steps a)) ++ fed.u32 a.count ≡ fed.u64 (digest (hashed_steps b)) ++ fed.u32 b.count
    places_hash_alike a b h =
        let same = (place_decides a b).0 h in
        λ i. fed.u64 (digest (last_steps (same.count i) (same.steps i))) ++ fed.u32 (same.count i)
