use Rattle.std.proofs.Common.{◌≡◌, ◌++◌, take}
use Rattle.std.specs.List.{flat_map}
use Rattle.words.specs.Steps.{step_text}
use Rattle.tower_file.specs.Spelling.{text_with_end}
use Rattle.tower_file.specs.BenchSpelling.{branch_text}
use Rattle.tower_file.proofs.bench_writing.push_limb.Given as goal

abbrev pub invariant-loop-step : goal.invariant-loop-step
invariant-loop-step l = l.out.items ≡ l.fn.out.items ++ text_with_end (branch_text l.limb) ++ flat_map (λ s. text_with_end (step_text s)) (take l.step-index l.step-items)
