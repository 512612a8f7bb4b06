use Rattle.std.proofs.Common.{◌≡◌, ◌++◌, take}
use Rattle.std.specs.List.{flat_map}
use Rattle.words.specs.Steps.{step_text}
use Rattle.tower_file.specs.Spelling.{text_with_end, tower_text}
use Rattle.tower_file.specs.Versions.{header}
use Rattle.tower_file.proofs.writing.print.Given as goal

abbrev pub invariant-loop-step : goal.invariant-loop-step
invariant-loop-step l = l.out.items ≡ text_with_end (header l.file.version) ++ text_with_end (tower_text l.file.tower) ++ flat_map (λ s. text_with_end (step_text s)) (take l.step-index l.step-items)
