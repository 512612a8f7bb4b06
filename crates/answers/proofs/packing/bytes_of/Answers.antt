use Rattle.std.proofs.Common.{◌≡◌, ◌-◌, ◌<◌, ◌++◌, ap, ◌∙◌, arith}
use Rattle.answers.specs.Packing.{packed, memory_numbers, processes_numbers, state_numbers}
use Rattle.answers.proofs.PackedSoFar.{front_packed, processes_more}
use Rattle.answers.proofs.packing.bytes_of.Goals as goal

pub loop-p-init : goal.loop-p-init
loop-p-init g c =
    let x = c.args.config.now in
    let b = g.R.Behaves.behaviour x.register in
    let old = c.in_ok-bytes.bytes.items in
    let memory = memory_numbers x.memory in
    let rest = processes_numbers b x.running x.stopped c.args.answers.now (b.processes - 0) 0 in
    let all : b.processes - 0 ≡ b.processes = omega arith in
    front_packed memory rest old c.add_store.new.bytes.items (packed (state_numbers b x.memory x.running x.stopped c.args.answers.now))
    (ap (λ l. l ++ packed (memory ++ rest)) c.in_ok-bytes.ensures.items ∙ ap (λ k. packed (memory ++ processes_numbers b x.running x.stopped c.args.answers.now k 0)) all)
    (c.in_ok-add_store.ensures ∙ ap (λ m. old ++ packed (memory_numbers m)) c.store.ensures)

pub loop-p-preserved : goal.loop-p-preserved
loop-p-preserved g c =
    let x = c.args.config.now in
    let b = g.R.Behaves.behaviour x.register in
    let count : c.processes-p-end.result ≡ b.processes = c.processes-p-end.ensures ∙ ap (λ r. (g.R.Behaves.behaviour r).processes) c.register.ensures in
    let lt : c.loop-p.p < b.processes = omega (arith, c.loop-p-test.true, count) in
    processes_more b x.running x.stopped c.args.answers.now b.processes c.loop-p.p c.loop-p.bytes.items (packed (state_numbers b x.memory x.running x.stopped c.args.answers.now))
    c.loop-p.invariant c.add_process.new.bytes.items lt c.in_ok-add_process.ensures
