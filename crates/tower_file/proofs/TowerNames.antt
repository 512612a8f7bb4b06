-- Names of towers, compared with a word one after the other.
use Rattle.std.proofs.Common.{◌≡◌, Bool, true, false, cond, Option, Some, refl}
use Rattle.std.specs.Option.{option_or}

-- `or` after an if-then-else is the same as `or` in its else branch
pub or_other : {A : Type 0} (b : Bool) (x : A) (o p : Option A) → option_or (cond b (Some x) o) p ≡ cond b (Some x) (option_or o p)
or_other true x o p = refl
or_other false x o p = refl
