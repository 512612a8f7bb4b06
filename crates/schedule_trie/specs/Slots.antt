-- Lists of cells.
use Rattle.std.specs.Prelude.{ℕ, zero, suc, List, [], ◌∷◌}
use Rattle.schedule_steps.specs.declared.types.Step.{Step}
use Rattle.branch_terms.specs.declared.slot.Slot.{Slot}
use Rattle.branch_terms.specs.Forest.{slot}

-- these cells, with the given step in the cell at an index
abbrev pub set_step : List Slot → ℕ → Step → List Slot
set_step [] i step = []
set_step (s ∷ ss) zero step = slot s.cell step ∷ ss
set_step (s ∷ ss) (suc i) step = s ∷ set_step ss i step
