-- Which operations fit a register of one writer.
use Rattle.std.proofs.Common.{◌≡◌, ℕ, ◌<◌, ◌≤◌, true, arith}
use Rattle.std.proofs.lemmas.Bool.Decides.{nat_tests}
use Rattle.schedule_steps.specs.declared.types.Op.{Op}
use Rattle.schedule_steps.specs.declared.types.Op.TheVariants as op
use Rattle.frames.specs.OneWriter.{one_writer}

pub zero_writes : (values processes v : ℕ) → 0 < processes → v < values → one_writer values processes 0 (op.Write v) ≡ true
zero_writes values processes v some lt = grind (arith, nat_tests)

pub others_read : (values processes who : ℕ) → 1 ≤ who → who < processes → one_writer values processes who op.Read ≡ true
others_read values processes who some few = grind (arith, nat_tests)

pub nobody_else : (values processes who : ℕ) (o : Op) → one_writer values processes who o ≡ true → who < processes
nobody_else values processes who (op.Write v) h = grind (arith, nat_tests)
nobody_else values processes who op.Read h = grind (arith, nat_tests)

pub writer_zero : (values processes who v : ℕ) → one_writer values processes who (op.Write v) ≡ true → who ≡ 0
writer_zero values processes who v h = grind (arith, nat_tests)

pub no_other_value : (values processes who v : ℕ) → one_writer values processes who (op.Write v) ≡ true → v < values
no_other_value values processes who v h = grind (arith, nat_tests)

pub reader_is_not_zero : (values processes who : ℕ) → one_writer values processes who op.Read ≡ true → 1 ≤ who
reader_is_not_zero values processes who h = grind (arith, nat_tests)

pub reader_below_processes : (values processes who : ℕ) → one_writer values processes who op.Read ≡ true → who < processes
reader_below_processes values processes who h = grind (arith, nat_tests)

pub writer_suits : (values processes who v : ℕ) → who ≡ 0 → 0 < processes → v < values → one_writer values processes who (op.Write v) ≡ true
writer_suits values processes who v zero some lt = grind (arith, nat_tests)
