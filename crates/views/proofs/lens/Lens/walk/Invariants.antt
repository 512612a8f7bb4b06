use Rattle.std.proofs.Common.{◌≤◌}
use Rattle.std.specs.Arc.{arc_value}
use Rattle.views.specs.Spots.{IsAlike, part_end}
use Rattle.views.proofs.lens.Lens.walk.Given as goal

abbrev pub invariant-loop-place : goal.invariant-loop-place
invariant-loop-place g l =
    let is = g.R.Behaves.behaviour in
    record {
      order : l.place ≤ l.count;
      like : IsAlike is l.config (part_end is (record { run = arc_value l.run; count = l.place }));
    }
