-- One optional value after another.
use Rattle.std.specs.Prelude.{Option, option_and_then}

-- the result of f on the value of o; `None` if o has no value
infixl 10 ◌>>=◌
abbrev pub ◌>>=◌ : {A B : Type 0} → Option A → (A → Option B) → Option B
o >>= f = option_and_then f o
