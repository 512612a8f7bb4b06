use Rattle.frames.specs.declared.types.Layer.TheVariants.{Stamped}
use Rattle.frames.specs.declared.types.Outcome.TheVariants.{Spent}
use Rattle.unary_number.specs.Program.{unary_left}
use Rattle.unary_number.specs.laws.Sound.{unary_sound, table_sound}
use Rattle.std.specs.Prelude.{◌-◌}
use Rattle.frames.specs.declared.types.Outcome.TheVariants.{Value}
use Rattle.unary_number.proofs.Kept.{unary_over_regular}
use Rattle.unary_number.proofs.LastBit.{always_finds_one}
use Rattle.unary_number.proofs.laws.regular.Goals as goal

pub returns-clause-regular : goal.returns-clause-regular
returns-clause-regular g c =
    let r = c.args.register.now in
    unary_over_regular (g.S.Behaves.behaviour r.below) (g.S.Register.Holds r.below) (g.S.Register.Reaches r.below) (Value (r.layer.values - 1)) r.layer.values r.layer.processes unary_left r.layer.two (g.met.S.Register.lawful r.below)
    (unary_sound r.layer.values r.layer.processes r.layer.two r.layer.some) r.fit c.requires

-- the variant's scan that finds no 1 is refused as if for lack of stamps: any layer's name would do
pub returns-clause-found : goal.returns-clause-found
returns-clause-found g c =
    let r = c.args.register.now in
    always_finds_one (g.S.Behaves.behaviour r.below) (g.S.Register.Holds r.below) (g.S.Register.Reaches r.below) Stamped r.layer.values r.layer.processes unary_left r.layer.two (g.met.S.Register.lawful r.below)
    (table_sound (Spent Stamped) r.layer.values r.layer.processes r.layer.two r.layer.some tt)
    (record { some_values = r.fit.some_values; some_processes = r.fit.some_processes; few_processes = r.fit.few_processes; same_values = r.fit.same_values; same_processes = r.fit.same_processes; room = r.fit.room; few_cells = r.fit.few_cells; few_words = r.fit.few_words }) c.requires
