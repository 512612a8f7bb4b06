-- Codes as numbers: the writer and the value in a code, and that a write's code is greater than
-- those in its column.
use Rattle.std.proofs.Common.{◌≡◌, ℕ, ◌+◌, ◌*◌, ◌%◌, ◌<◌, ap, ◌∙◌, arith}
use Rattle.std.specs.Prelude.{◌/◌}
use Rattle.std.proofs.lemmas.Nat.{div-mul-add, mod-mul-add}
use Rattle.std.proofs.Math.Nat.{lt-div-mul-add}
use Rattle.matrix.specs.Program.{code_of}

-- the process that a code names
abbrev pub writer_of : ℕ → ℕ → ℕ → ℕ
writer_of n V x = (x / V) % n

-- the writer of a code is the process that the code was made from
pub writer_of_own_code : (n V tag p v : ℕ) → p < n → v < V → writer_of n V (code_of n V tag p v) ≡ p
writer_of_own_code n V tag p v lp lv = ap (λ x. x % n) (div-mul-add (tag * n + p) V v lv) ∙ mod-mul-add tag n p lp

-- the value of a code is the value that the code was made from
pub value_of_own_code : (n V tag p v : ℕ) → v < V → code_of n V tag p v % V ≡ v
value_of_own_code n V tag p v lv = mod-mul-add (tag * n + p) V v lv

-- the code that a write makes from the greatest code of its column is greater
pub code_above : (n V p v g : ℕ) → 0 < n * V → g < code_of n V (g / (n * V) + 1) p v
code_above n V p v g pos =
    let l : g < g / (n * V) * (n * V) + n * V = lt-div-mul-add pos in
    let e : code_of n V (g / (n * V) + 1) p v ≡ g / (n * V) * (n * V) + n * V + (p * V + v) = omega arith in
    omega (arith, l, e)
