-- If a tower's numbers (of values, readers and so on) are within their limits, each of its layers
-- can be built on the layer below.
use Rattle.std.proofs.Common.{◌≡◌, ℕ, ◌+◌, ◌*◌, ◌<◌, ◌≤◌, Option, None, Some, Result, Ok, Err, arith, rules}
use Rattle.std.proofs.lemmas.Bool.Decides.{nat_tests}
use Rattle.std.proofs.Math.Nat.{mul-le-mul, mul-le-mul_right}
use Rattle.std.specs.Prelude.{MatchResult, IsOk}
use Rattle.frames.specs.declared.limits.TheConstants.{LEAST_PROCESSES, LEAST_VALUES, MOST_READERS, MOST_VALUES, MOST_WRITERS}
use Rattle.frames.specs.declared.register.TheConstants.{MOST_CELLS}
use Rattle.layers.specs.Fit.{refusal_below}
use Rattle.frames.specs.SafeBit.{safe_behaviour}
use Rattle.reader_copies.specs.Program.{copies_refusal}
use Rattle.regular_bit.specs.Program.{regular_table}
use Rattle.unary_number.specs.Program.{unary_refusal}
use Rattle.stamped.specs.Limits.{stamped_refusal}
use Rattle.matrix.specs.Limits.{matrix_refusal}
use Rattle.towers.specs.Towers.{copies_tower, regular_tower, unary_tower, stamped_tower}

pub copies_fit : (readers : ℕ) → 1 ≤ readers → readers ≤ MOST_READERS → copies_refusal readers safe_behaviour ≡ None
copies_fit readers some few = grind (arith, nat_tests)

pub regular_fits : (readers : ℕ) → 1 ≤ readers → readers ≤ MOST_READERS → refusal_below (regular_table (readers + 1)) (copies_tower readers) ≡ None
regular_fits readers some few = grind (arith, nat_tests)

pub unary_fits : (values readers : ℕ) → LEAST_VALUES ≤ values → values ≤ MOST_VALUES → 1 ≤ readers → readers ≤ MOST_READERS → unary_refusal values (regular_tower readers) ≡ None
unary_fits values readers two most some few =
    let product : values * readers ≤ MOST_VALUES * MOST_READERS = mul-le-mul most few in
    grind (arith, nat_tests)

pub stamped_fits : (values last : ℕ) → LEAST_VALUES ≤ values → values ≤ MOST_VALUES → last < MOST_VALUES → (last + 1) * values ≤ MOST_VALUES → stamped_refusal values last (unary_tower ((last + 1) * values) 1) ≡ None
stamped_fits values last two few stamps most = grind (arith, nat_tests)

pub matrix_fits : (n values tag stamp : ℕ) → LEAST_PROCESSES ≤ n → n ≤ MOST_WRITERS → LEAST_VALUES ≤ values → values ≤ MOST_VALUES → tag < MOST_VALUES → (stamp + 1) * ((tag + 1) * n * values) ≤ MOST_VALUES
    → n * n * ((stamp + 1) * ((tag + 1) * n * values)) ≤ MOST_CELLS
    → matrix_refusal n values tag (stamped_tower ((tag + 1) * n * values) stamp) ≡ None
matrix_fits n values tag stamp two four some few tags most cells =
    let square : n * n ≤ MOST_WRITERS * MOST_WRITERS = mul-le-mul four four in
    let inner : (tag + 1) * n * values ≤ MOST_VALUES = omega (arith, mul-le-mul_right ((tag + 1) * n * values) (one_le stamp)) in
    grind (arith, nat_tests)
  where
    one_le : (k : ℕ) → 1 ≤ k + 1
    one_le k = omega arith

-- if `refusal` is `None`, and any error of the result r is the one in `refusal`, then r is `Ok`
pub ok_unless_refused : {A E : Type 0} (Q : A → Type 0) (r : Result A E) (refusal : Option E) → refusal ≡ None → MatchResult r Q (λ e. refusal ≡ Some e) → IsOk r
ok_unless_refused Q (Ok x) refusal none h = search rules
ok_unless_refused Q (Err e) refusal none h = absurd (never refusal e none h)
  where
    never : {E : Type 0} (q : Option E) (e : E) → q ≡ None → q ≡ Some e → ⊥
    never q e none some = cc
