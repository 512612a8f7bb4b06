use Rattle.std.proofs.Common.{◌≡◌, ◌+◌, ◌<◌, ◌≤◌, ◌^◌, true, false, List, length}
use Rattle.frames.specs.declared.types.Step.{Step}
use Rattle.tower_file.specs.Reading.{steps_of}
use Rattle.tower_file.proofs.StepLoop.{with_front}
use Rattle.tower_file.proofs.reading.steps_of.Given as goal

abbrev pub invariant-reading : goal.invariant-reading
invariant-reading l = record {
  few : l.number + length l.lines ≤ 2 ^ 63 + 3;
  read : (front : List Step) × (with_front front (steps_of l.version l.tower l.number l.lines) ≡ steps_of l.version l.tower 3 l.fn.lines)
      × (l.are_kept ≡ true → l.steps.items ≡ front) × (l.are_kept ≡ false → 0 < length front);
}

abbrev pub decreases-reading : goal.decreases-reading
decreases-reading l = length l.lines
