use Rattle.std.proofs.Common.{[]}
use Rattle.std.specs.Prelude.{slice_index_or}
use Rattle.std.proofs.lemmas.Result.{on_ok_weaker}
use Rattle.frames.specs.Configuration.{is_stopped, running_at}
use Rattle.frames.specs.Flat.{stack_of}
use Rattle.answers.specs.Packing.{stack_numbers, outcomes_numbers}
use Rattle.answers.proofs.PackedSoFar.{packed_more}
use Rattle.answers.proofs.packing.add_process.Goals as goal

pub returns : goal.returns
returns g c =
    let x = c.args.config.now in
    let p = c.args.p in
    on_ok_weaker c.add_answers.result
    (λ added. packed_more (stack_numbers (stack_of (g.R.Behaves.behaviour x.register) (running_at p x)) (is_stopped p x)) (outcomes_numbers (slice_index_or c.args.answers.now p []))
    c.args.bytes.now.items c.add_pending.new.bytes.items c.add_answers.new.bytes.items c.in_ok-add_pending.ensures added)
    c.add_answers.ensures
