use Rattle.std.proofs.Common.{refl, inl, inr}
use Rattle.schedule_trie.specs.Limbs.{limbs}
use Rattle.tower_file.specs.Benches.{bench_of}
use Rattle.towerbench.specs.DeskOpenings.{CanOpen}
use Rattle.towerbench.specs.Seats.{world_at}
use Rattle.towerbench.proofs.RunEndings.{ended_by_fault_at, on_tower_at, done_at, left_at}
use Rattle.towerbench.proofs.running.begin.Goals as goal

pub returns-in-Err-serve_at : goal.returns-in-Err-serve_at
returns-in-Err-serve_at g c =
    let is = g.B.Behaves.behaviour in
    let opened = c.in-Ok.ensures in
    let can : CanOpen is c.args.opening = record { value = c.requires.value; limits = c.requires.limits; builds = c.requires.builds } in
    inr (inl (c.in-Err-serve_at.fault, c.fault_of_stream.ensures, ended_by_fault_at is c.args.opening can (world_at is c.in-Ok.seat) opened.opens _ _ opened.room c.in-Err-serve_at.fault (c.in-Err-serve_at.ensures.fault opened.alone)))

pub reported_bytes-requires-clause-ground : goal.reported_bytes-requires-clause-ground
reported_bytes-requires-clause-ground g c =
    let is = g.B.Behaves.behaviour in
    let opened = c.in-Ok.ensures in
    let can : CanOpen is c.args.opening = record { value = c.requires.value; limits = c.requires.limits; builds = c.requires.builds } in
    on_tower_at is c.args.opening can (world_at is c.in-Ok.seat) opened.opens _ _ opened.room (world_at is c.serve_at.new.seat) (c.in-Ok-serve_at.ensures.done opened.alone)

pub reported_bytes-requires-clause-alone : goal.reported_bytes-requires-clause-alone
reported_bytes-requires-clause-alone g c = c.in-Ok-serve_at.ensures.alone c.in-Ok.ensures.alone

pub returns-in-Ok-reported_bytes : goal.returns-in-Ok-reported_bytes
returns-in-Ok-reported_bytes g c =
    let is = g.B.Behaves.behaviour in
    let o = c.args.opening in
    let opened = c.in-Ok.ensures in
    let can : CanOpen is o = record { value = c.requires.value; limits = c.requires.limits; builds = c.requires.builds } in
    let left = bench_of o.setup.bench.tower (limbs (world_at is c.serve_at.new.seat).forest) in (
      left,
      left_at is o can (world_at is c.in-Ok.seat) opened.opens _ _ opened.room (world_at is c.serve_at.new.seat) (c.in-Ok-serve_at.ensures.done opened.alone) left refl,
      c.in-Ok-reported_bytes.ensures.reported,
    )

pub returns-in-Err-reported_bytes : goal.returns-in-Err-reported_bytes
returns-in-Err-reported_bytes g c =
    let is = g.B.Behaves.behaviour in
    let opened = c.in-Ok.ensures in
    let can : CanOpen is c.args.opening = record { value = c.requires.value; limits = c.requires.limits; builds = c.requires.builds } in
    inr (inr (refl, c.in-Err-reported_bytes.ensures.fault, done_at is c.args.opening can (world_at is c.in-Ok.seat) opened.opens _ _ opened.room (world_at is c.serve_at.new.seat) (c.in-Ok-serve_at.ensures.done opened.alone)))
