-- Laws of equality. If one test decides whether tasks are equal, and another whether points are
-- equal, then two pending operations are equal exactly if the tests find their tasks equal and
-- their parts' points equal. Layers behave alike if their rules are equal and the registers below
-- them behave alike.
use Rattle.std.proofs.Common.{◌≡◌, Bool, true, false, ap}
use mathlib.Core.Bool.{◌&&◌}
use Rattle.std.specs.Bool.{Decides}
use Rattle.std.proofs.lemmas.Bool.Decides.{Decides-and, Decides-like}
use Rattle.layers.specs.declared.nested.Nested.{Nested}
use Rattle.frames.specs.Behaviour.{Behaviour}
use Rattle.layers.specs.Nested.{Table, layered}

pub nested_decides : {Task P : Type 0} (E : Task → Task → Bool) (F : P → P → Bool) → ((a b : Task) → Decides (E a b) (a ≡ b)) → ((a b : P) → Decides (F a b) (a ≡ b))
    → (a b : Nested Task P) → Decides (E a.task b.task && F a.below b.below) (a ≡ b)
nested_decides E F d e a b =
    Decides-like (E a.task b.task && F a.below b.below) (λ p. λ i. record { task = p.0 i; below = p.1 i }) (λ p. (ap (λ n. n.task) p, ap (λ n. n.below) p))
    (Decides-and (E a.task b.task) (F a.below b.below) (d a.task b.task) (e a.below b.below))

pub layered_alike : {Task P : Type 0} (t u : Table Task) (a b : Behaviour P) → t ≡ u → a ≡ b → layered t a ≡ layered u b
layered_alike t u a b p q = λ i. layered (p i) (q i)
