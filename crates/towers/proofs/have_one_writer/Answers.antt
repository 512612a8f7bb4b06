use Rattle.std.proofs.Common.{◌≡◌, ℕ, true, arith}
use Rattle.std.proofs.lemmas.Bool.Decides.{nat_tests}
use Rattle.frames.specs.declared.types.Op.{Op}
use Rattle.frames.specs.declared.types.Op.TheVariants as op
use Rattle.frames.specs.OneWriter.{one_writer}
use Rattle.frames.specs.SafeBit.{safe_suits}
use Rattle.towers.proofs.have_one_writer.Goals as goal

-- a safe bit has one writer: process 0 alone writes, and process 1 alone reads
safe_has_one_writer : (who : ℕ) (o : Op) → safe_suits who o ≡ true → one_writer 2 2 who o ≡ true
safe_has_one_writer who (op.Write v) h = grind (arith, nat_tests)
safe_has_one_writer who op.Read h = grind (arith, nat_tests)

pub returns-clause-safe : goal.returns-clause-safe
returns-clause-safe c = safe_has_one_writer

pub returns-clause-copies : goal.returns-clause-copies
returns-clause-copies c = λ readers who o h. h

pub returns-clause-regular : goal.returns-clause-regular
returns-clause-regular c = λ readers who o h. h

pub returns-clause-unary : goal.returns-clause-unary
returns-clause-unary c = λ values readers who o h. h

pub returns-clause-stamped : goal.returns-clause-stamped
returns-clause-stamped c = λ values last who o h. h
