use Rattle.std.proofs.Common.{◌≡◌, length, map, take}
use Rattle.frames.specs.Recorded.{indexed}
use Rattle.cutoff.specs.Fitting.{part_of}
use Rattle.views.specs.Spots.{parts_events}
use Rattle.views.proofs.spot.history_of.Given as goal

abbrev pub invariant-loop-run : goal.invariant-loop-run
invariant-loop-run g l =
    let events = parts_events g.R.Behaves.behaviour (map part_of (take l.run-index l.runs)) in
    record {
      all : l.all.items ≡ indexed 0 events;
      index : l.index ≡ length events;
    }
