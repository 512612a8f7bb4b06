-- Two stores are equal if their cells and their words are equal. The first two lemmas are about any
-- test that decides equality.
use Rattle.std.proofs.Common.{◌≡◌, Bool, ◌&&◌, nat_eq, refl, sym, ap, ◌∙◌, Option, Some, None}
use Rattle.std.specs.Bool.{Decides}
use Rattle.std.specs.Cmp.{IsPartialEquivalence, booleans_Decides}
use Rattle.std.specs.Option.{option_eq}
use mathlib.Core.Bool.{beq}
use Rattle.std.specs.Cmp.Lexicographic.{pointwise}
use Rattle.std.proofs.lemmas.Bool.Decides.{Decides-and, Decides-eqb, Decides-like, same_from_decides}
use Rattle.std.proofs.lemmas.Slice.Eq.{slice_eq-Decides}
use Rattle.safe_bit.specs.declared.Cell.{Cell}
use Rattle.safe_bit.specs.Memory.{Memory}
use Rattle.safe_bit.specs.laws.Parts.{same_memory}

-- a test that decides equality is symmetric and transitive
pub per_from_decides : {X : Type 0} (E : X → X → Bool) → ((a b : X) → Decides (E a b) (a ≡ b)) → IsPartialEquivalence E
per_from_decides E d = record {
  symm = λ a b. same_from_decides (E a b) (E b a) (d a b) (Decides-like (E b a) (λ p. sym p) (λ p. sym p) (d b a));
  trans = λ a b c h k. (d a c).1 ((d a b).0 h ∙ (d b c).0 k);
}

pub option_decides : {X : Type 0} {E : X → X → Bool} → ((a b : X) → Decides (E a b) (a ≡ b)) → (x y : Option X) → Decides (option_eq E x y) (x ≡ y)
option_decides d None None = (λ _. refl, λ _. refl)
option_decides d None (Some b) = (λ h. cc, λ p. cc)
option_decides d (Some a) None = (λ h. cc, λ p. cc)
option_decides {X} {E} d (Some a) (Some b) = Decides-like (E a b) (λ p. ap Some p) (λ p. some_same a b p) (d a b)
  where
    some_same : (u v : X) → ◌≡◌ {A = Option X} (Some u) (Some v) → u ≡ v
    some_same u v p = cc

-- whether two cells are equal in every field
abbrev pub cell_eq : Cell → Cell → Bool
cell_eq a b = beq a.value b.value && (option_eq beq a.writing b.writing && (beq a.reading b.reading && beq a.hit b.hit))

pub cell_decides : (a b : Cell) → Decides (cell_eq a b) (a ≡ b)
cell_decides a b =
    Decides-like (cell_eq a b)
    (λ p. λ i. record { value = p.0 i; writing = p.1.0 i; reading = p.1.1.0 i; hit = p.1.1.1 i })
    (λ p. (ap (λ c. c.value) p, (ap (λ c. c.writing) p, (ap (λ c. c.reading) p, ap (λ c. c.hit) p))))
    (Decides-and (beq a.value b.value) _ (booleans_Decides a.value b.value)
    (Decides-and (option_eq beq a.writing b.writing) _ (option_decides booleans_Decides a.writing b.writing)
    (Decides-and (beq a.reading b.reading) (beq a.hit b.hit) (booleans_Decides a.reading b.reading) (booleans_Decides a.hit b.hit))))

-- whether two memories have equal cells and equal words
abbrev pub memory_eq : Memory → Memory → Bool
memory_eq a b = pointwise cell_eq a.cells b.cells && pointwise nat_eq a.words b.words

pub memory_decides : (a b : Memory) → Decides (memory_eq a b) (a ≡ b)
memory_decides a b =
    Decides-like (memory_eq a b) (λ p. same_memory a b p.0 p.1) (λ p. (ap (λ m. m.cells) p, ap (λ m. m.words) p))
    (Decides-and (pointwise cell_eq a.cells b.cells) (pointwise nat_eq a.words b.words)
    (slice_eq-Decides cell_decides a.cells b.cells _ refl) (slice_eq-Decides Decides-eqb a.words b.words _ refl))
