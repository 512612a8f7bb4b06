use Rattle.std.proofs.Common.{ap, sym, Some}
use Rattle.std.specs.Option.{is_some}
use Rattle.towerbench.proofs.program.bench_at.Goals as goal

pub returns-in-Ok-opened_bench-clause-ok : goal.returns-in-Ok-opened_bench-clause-ok
returns-in-Ok-opened_bench-clause-ok g c = (Some c.deref.result.now, sym (ap is_some c.in-Some.is), c.in-Ok-opened_bench.ensures.ok)

pub returns-clause-err : goal.returns-clause-err
returns-clause-err g c = (Some c.deref.result.now, sym (ap is_some c.in-Some.is), c.in-Err-opened_bench.ensures.err)
