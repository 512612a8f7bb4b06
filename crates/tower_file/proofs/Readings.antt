-- Readings that have no fault: what their parts gave.
use Rattle.std.proofs.Common.{◌≡◌, true, false, Some, None, Bool, cond, Result, Ok, Err, refl, Option}
use Rattle.tower_file.specs.declared.fault.FileFault.{FileFault}
use Rattle.tower_file.specs.Reading.{◌>>=◌}
use Rattle.std.specs.Option.{ok_or}

-- if a chain of two readings has no fault, the first has none, and gives what the second reads on
-- from
pub bind_ok : {A B : Type 0} (r : Result A FileFault) (f : A → Result B FileFault) (y : B) → (r >>= f) ≡ Ok y → (x : A) × (r ≡ Ok x) × (f x ≡ Ok y)
bind_ok (Ok x) f y e = (x, refl, e)
bind_ok (Err d) f y e = absurd cc

-- if a missing value is a fault, the value isn't missing
pub ok_or_ok : {A : Type 0} (o : Option A) (d : FileFault) (x : A) → ok_or o d ≡ Ok x → o ≡ Some x
ok_or_ok None d x e = absurd cc
ok_or_ok (Some y) d x e = cc

-- if it is a fault that a test fails, the test is passed
pub when_ok : {A : Type 0} (b : Bool) (r : Result A FileFault) (d : FileFault) (y : A) → cond b r (Err d) ≡ Ok y → (b ≡ true) × (r ≡ Ok y)
when_ok true r d y e = (refl, e)
when_ok false r d y e = absurd cc

-- if it is a fault that a test is passed, the test fails
pub unless_ok : {A : Type 0} (b : Bool) (r : Result A FileFault) (d : FileFault) (y : A) → cond b (Err d) r ≡ Ok y → (b ≡ false) × (r ≡ Ok y)
unless_ok true r d y e = absurd cc
unless_ok false r d y e = (refl, e)

-- two readings without a fault that are equal give the same
pub ok_is : {A : Type 0} (x y : A) → (let r : Result A FileFault = Ok x in r) ≡ Ok y → x ≡ y
ok_is x y e = cc
