-- The register of one safe bit reports its actions.
use Rattle.std.proofs.Common.{◌≡◌, ℕ, Bool, true, false, Option, Some, None, refl}
use Rattle.std.specs.Prelude.{if◌then◌else◌}
use Rattle.safe_bit.specs.Memory.{Memory, cell_at}
use Rattle.safe_bit.specs.Parts.{HasSize}
use Rattle.schedule_steps.specs.declared.types.Op.{Op}
use Rattle.schedule_steps.specs.declared.types.Op.TheVariants as op
use Rattle.frames.specs.declared.safe.SafePoint.{SafePoint}
use Rattle.frames.specs.declared.safe.SafePoint.TheVariants as at
use Rattle.frames.specs.SafeBit.{safe_behaviour, safe_begins, SafeReaches}
use Rattle.frames.specs.correctness.ReportedActions.{MakesItsAction, ReportsActions}

begin_leaves_cells : (who : ℕ) (o : Op) (m : Memory) → (safe_begins who o m).memory.cells ≡ m.cells
begin_leaves_cells who (op.Write v) m = refl
begin_leaves_cells who op.Read m = refl

-- if a read was hit, the value that it gives is the choice
given_if_hit : (hit choice value : Bool) → ◌≡◌ {A = Option (ℕ × Bool)} (if hit then Some (0, (if hit then choice else value)) else None) (if hit then Some (0, choice) else None)
given_if_hit true choice value = refl
given_if_hit false choice value = refl

makes_its_action : (p : SafePoint) (choice : Bool) (m : Memory) → MakesItsAction safe_behaviour p choice m
makes_its_action (at.WriteStart v) choice m = record { value = v; cells = refl; chosen = refl }
makes_its_action (at.WriteEnd v) choice m = record { value = v; cells = refl; chosen = refl }
makes_its_action at.ReadStart choice m = record { value = choice; cells = refl; chosen = refl }
makes_its_action at.ReadEnd choice m = record { value = choice; cells = refl; chosen = given_if_hit (cell_at 0 m).hit choice (cell_at 0 m).value }

pub safe_reports : ReportsActions safe_behaviour (HasSize safe_behaviour.size) SafeReaches
safe_reports = record { begins = begin_leaves_cells; goes = λ who o p choice m holds there. makes_its_action p choice m }
