use Rattle.std.proofs.Common.{ap, inl, inr, true, false, Err}
use Rattle.std.specs.Option.{is_some}
use Rattle.tower_file.specs.Parsed.{as_bench}
use Rattle.command_line.specs.Ranges.{limits_of}
use Rattle.towerbench.proofs.Endings.{ends_before_bench, ends_after_run, ends_after_save}
use Rattle.towerbench.proofs.program.work.Goals as goal

pub returns-in-Err : goal.returns-in-Err
returns-in-Err g c =
    ends_before_bench (is_some c.args.file) (is_some c.args.save) (limits_of c.args.options) _ c.in-Err.fault c.in-Err.ensures.err

pub returns-in_default : goal.returns-in_default
returns-in_default g c =
    let read = c.in-Ok.ensures.ok in (read.0, read.1, (as_bench c.in-Ok.bench, (read.2, c.in-Ok-run_setup.ensures.1.done)))

pub returns-in-Err-run_setup : goal.returns-in-Err-run_setup
returns-in-Err-run_setup g c =
    let read = c.in-Ok.ensures.ok in
    let fault = c.in-Err-run_setup in
    rw c.in_default.is (ends_after_run _ _ false read.0 (limits_of c.args.options) (as_bench c.in-Ok.bench) read.2 (is_some c.args.file) read.1 (Err fault.fault) c.ending_of.result
    c.ending_of.ensures tt (inl (inr (as_bench c.in-Ok.bench, (read.2, fault.ensures)))))

pub returns-in-Ok-run_setup-2 : goal.returns-in-Ok-run_setup-2
returns-in-Ok-run_setup-2 g c =
    let read = c.in-Ok.ensures.ok in
    ends_after_save _ _ (is_some c.args.save) read.0 (limits_of c.args.options) (as_bench c.in-Ok.bench) read.2 (is_some c.args.file) read.1
    c.save_at.result c.ending_of-in-Ok-run_setup-2.result c.ending_of-in-Ok-run_setup-2.ensures (ap is_some c.in-Some.is) c.in-Ok-run_setup-2.ensures.1.done c.save_at.ensures

pub returns-in-Err-run_setup-2 : goal.returns-in-Err-run_setup-2
returns-in-Err-run_setup-2 g c =
    let read = c.in-Ok.ensures.ok in
    let fault = c.in-Err-run_setup-2 in
    rw c.in-Some.is (ends_after_run _ _ true read.0 (limits_of c.args.options) (as_bench c.in-Ok.bench) read.2 (is_some c.args.file) read.1 (Err fault.fault) c.ending_of-in-Err-run_setup-2.result
    c.ending_of-in-Err-run_setup-2.ensures tt (inl (inr (as_bench c.in-Ok.bench, (read.2, fault.ensures)))))
