use Rattle.std.proofs.Common.{◌≡◌, ℕ, List, refl, sym, ap, ◌∙◌}
use Rattle.frames.specs.declared.types.Step.{Step}
use Rattle.frames.specs.Behaviour.{Behaviour}
use Rattle.frames.specs.Configuration.{fits_step}
use Rattle.branch_terms.specs.declared.limb.Limb.{Limb}
use Rattle.branch_terms.specs.declared.limits.Limits.{Limits}
use Rattle.sessions.specs.World.{opening_of_limbs}
use Rattle.towers.specs.Towers.{copies_tower, regular_tower, unary_tower, stamped_tower, matrix_tower}
use Rattle.tower_file.specs.declared.tower.TowerSpec.{TowerSpec}
use Rattle.tower_file.specs.declared.tower.TowerSpec.TheVariants.{Copies, Regular, Unary, Stamped, Matrix}
use Rattle.tower_file.specs.Towers.{fits}
use Rattle.towerbench.specs.Courses.{course_from, course_of}
use Rattle.towerbench.specs.DeskOpenings.{Builds}
use Rattle.towerbench.proofs.running.run_setup.Goals as goal

-- a register builds a tower if the same steps fit its behaviour, and the course of scripts on it is
-- the tower's
builds_as : {R P : Type 0} (is : R → Behaviour P) (register : R) (value : ℕ) (b : Behaviour P) (given tower : TowerSpec) → is register ≡ b → tower ≡ given
    → ((s : Step) → fits tower s ≡ fits_step b s) → ((limits : Limits) (ls : List Limb) → course_of tower limits ls ≡ course_from (opening_of_limbs b value limits ls))
    → Builds is register value given
builds_as is register value b given tower register_is tower_is alike course =
    record {
      alike = λ s. ap (λ t. fits t s) (sym tower_is) ∙ alike s ∙ ap (λ x. fits_step x s) (sym register_is);
      course = λ limits ls. ap (λ t. course_of t limits ls) (sym tower_is) ∙ course limits ls ∙ ap (λ x. course_from (opening_of_limbs x value limits ls)) (sym register_is);
    }

pub begin-requires-in-Copies-clause-builds : goal.begin-requires-in-Copies-clause-builds
begin-requires-in-Copies-clause-builds g c =
    let m = c.in-Copies in
    λ κs x. builds_as _ c.copies.result m.init (copies_tower m.readers) _ (Copies m.readers m.init) c.copies.ensures (sym m.is ∙ c.tower_of.ensures.tower) (λ s. refl) (λ limits ls. refl)

pub begin-requires-in-Regular-clause-builds : goal.begin-requires-in-Regular-clause-builds
begin-requires-in-Regular-clause-builds g c =
    let m = c.in-Regular in
    λ κs x. builds_as _ c.regular.result m.init (regular_tower m.readers) _ (Regular m.readers m.init) c.regular.ensures (sym m.is ∙ c.tower_of.ensures.tower) (λ s. refl) (λ limits ls. refl)

pub begin-requires-in-Unary-clause-builds : goal.begin-requires-in-Unary-clause-builds
begin-requires-in-Unary-clause-builds g c =
    let m = c.in-Unary in
    λ κs x. builds_as _ c.unary.result m.init (unary_tower m.values m.readers) _ (Unary m.values m.readers m.init) c.unary.ensures (sym m.is ∙ c.tower_of.ensures.tower) (λ s. refl) (λ limits ls. refl)

pub begin-requires-in-Stamped-clause-builds : goal.begin-requires-in-Stamped-clause-builds
begin-requires-in-Stamped-clause-builds g c =
    let m = c.in-Stamped in
    λ κs x. builds_as _ c.stamped.result 0 (stamped_tower m.values m.last) _ (Stamped m.values m.last) c.stamped.ensures (sym m.is ∙ c.tower_of.ensures.tower) (λ s. refl) (λ limits ls. refl)

pub begin-requires-in-Matrix-clause-builds : goal.begin-requires-in-Matrix-clause-builds
begin-requires-in-Matrix-clause-builds g c =
    let m = c.in-Matrix in
    λ κs x. builds_as _ c.matrix.result 0 (matrix_tower m.processes m.values m.last_tag m.last_stamp) _ (Matrix m.processes m.values m.last_tag m.last_stamp) c.matrix.ensures (sym m.is ∙ c.tower_of.ensures.tower) (λ s. refl) (λ limits ls. refl)
