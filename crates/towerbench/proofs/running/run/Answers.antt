use Rattle.std.proofs.Common.{inl, inr, refl}
use Rattle.tower_file.specs.Parsed.{as_bench}
use Rattle.towerbench.proofs.running.run.Goals as goal

pub returns-in-Err-clause-fault : goal.returns-in-Err-clause-fault
returns-in-Err-clause-fault g c = inl (c.in-Err.ensures.err, refl)

pub returns-clause-done : goal.returns-clause-done
returns-clause-done g c = (as_bench c.in-Ok.bench, (c.in-Ok.ensures.ok, c.in-Ok-run_setup.ensures.1.done))

pub returns-in-Err-run_setup-clause-fault : goal.returns-in-Err-run_setup-clause-fault
returns-in-Err-run_setup-clause-fault g c = inr (as_bench c.in-Ok.bench, (c.in-Ok.ensures.ok, c.in-Err-run_setup.ensures))
