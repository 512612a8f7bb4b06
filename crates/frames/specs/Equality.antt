-- Equality of configurations: of registers, cells, words, pending operations and stop marks.
use Rattle.std.proofs.Common.{◌≡◌, Bool, true, nat_eq, List, Option, refl, ap}
use mathlib.Core.Bool.{◌&&◌, beq}
use Rattle.std.specs.Bool.{Decides}
use Rattle.std.specs.Cmp.{IsPartialEquivalence, booleans_Decides, on_per, and_per}
use Rattle.std.specs.Cmp.Lexicographic.{pointwise}
use Rattle.std.specs.Option.{option_eq}
use Rattle.std.specs.Ordering.{on, eq_of_both}
use Rattle.std.proofs.lemmas.Bool.Decides.{Decides-and, Decides-eqb, Decides-like}
use Rattle.std.proofs.lemmas.Slice.Eq.{slice_eq-Decides}
use Rattle.safe_bit.specs.laws.Equality.{memory_eq, memory_decides, option_decides, per_from_decides}
use Rattle.schedule_steps.specs.contracts.types.OpPartialEq.TheImpl as ops
use Rattle.schedule_steps.specs.declared.types.Op.{Op}
use Rattle.schedule_steps.specs.declared.types.Op.TheVariants as op
use Rattle.frames.specs.declared.running.Running.{Running}
use Rattle.frames.specs.Configuration.{Configuration}

-- two configurations are equal: the test E finds their registers equal, and the configurations
-- have the same memory, pending operations and stop marks
pub record SameConfiguration {R P : Type 0} (E : R → R → Bool) (a b : Configuration R P) : Type 0 where
  pub register : E a.register b.register ≡ true
  pub memory : a.memory ≡ b.memory
  pub running : a.running ≡ b.running
  pub stopped : a.stopped ≡ b.stopped

-- whether two operations are equal
abbrev pub op_eq : Op → Op → Bool
op_eq = ops.eq-value.it

pub op_decides : (a b : Op) → Decides (op_eq a b) (a ≡ b)
op_decides (op.Write v) (op.Write w) = Decides-like (nat_eq v w) (λ p. ap op.Write p) (λ p. cc) (Decides-eqb v w)
op_decides op.Read op.Read = (λ h. refl, λ h. refl)
op_decides _ _ = (λ h. cc, λ h. cc)

-- whether two pending operations are equal; the test F compares their points
abbrev pub running_eq : {P : Type 0} → (P → P → Bool) → Running P → Running P → Bool
running_eq F a b = op_eq a.op b.op && F a.point b.point

pub running_decides : {P : Type 0} (F : P → P → Bool) → ((x y : P) → Decides (F x y) (x ≡ y)) → (a b : Running P) → Decides (running_eq F a b) (a ≡ b)
running_decides F d a b =
    Decides-like (running_eq F a b) (λ p. λ i. record { op = p.0 i; point = p.1 i }) (λ p. (ap (λ r. r.op) p, ap (λ r. r.point) p))
    (Decides-and (op_eq a.op b.op) (F a.point b.point) (op_decides a.op b.op) (d a.point b.point))

-- whether two configurations are equal; the test E compares their registers, and the test F
-- compares the points of pending operations
abbrev pub configuration_eq : {R P : Type 0} → (R → R → Bool) → (P → P → Bool) → Configuration R P → Configuration R P → Bool
configuration_eq E F = eq_of_both (on (λ c. c.register) E) (eq_of_both (on (λ c. c.memory) memory_eq) (eq_of_both (on (λ c. c.running) (pointwise (option_eq (running_eq F)))) (on (λ c. c.stopped) (pointwise beq))))

slots_decide : {P : Type 0} (F : P → P → Bool) → ((x y : P) → Decides (F x y) (x ≡ y)) → (a b : List (Option (Running P)))
    → Decides (pointwise (option_eq (running_eq F)) a b) (a ≡ b)
slots_decide F d a b = slice_eq-Decides (option_decides (running_decides F d)) a b _ refl

marks_decide : (a b : List Bool) → Decides (pointwise beq a b) (a ≡ b)
marks_decide a b = slice_eq-Decides booleans_Decides a b _ refl

-- `configuration_eq` is symmetric and transitive, if E is, and if F decides equality of points
pub configuration_per : {R P : Type 0} (E : R → R → Bool) (F : P → P → Bool) → IsPartialEquivalence E → ((x y : P) → Decides (F x y) (x ≡ y))
    → IsPartialEquivalence (configuration_eq {R = R} {P = P} E F)
configuration_per E F per d =
    and_per (on_per (λ c. c.register) per)
    (and_per (on_per (λ c. c.memory) (per_from_decides memory_eq memory_decides))
    (and_per (on_per (λ c. c.running) (per_from_decides _ (slots_decide F d)))
    (on_per (λ c. c.stopped) (per_from_decides _ marks_decide))))

-- `configuration_eq` decides `SameConfiguration`, if F decides equality of points
pub configuration_decides : {R P : Type 0} (E : R → R → Bool) (F : P → P → Bool) → ((x y : P) → Decides (F x y) (x ≡ y))
    → (a b : Configuration R P) → Decides (configuration_eq E F a b) (SameConfiguration E a b)
configuration_decides E F d a b =
    Decides-like (configuration_eq E F a b) (λ p. record { register = p.0; memory = p.1.0; running = p.1.1.0; stopped = p.1.1.1 }) (λ p. (p.register, (p.memory, (p.running, p.stopped))))
    (Decides-and (E a.register b.register) _ (λ h. h, λ h. h)
    (Decides-and (memory_eq a.memory b.memory) _ (memory_decides a.memory b.memory)
    (Decides-and (pointwise (option_eq (running_eq F)) a.running b.running) _ (slots_decide F d a.running b.running) (marks_decide a.stopped b.stopped))))
