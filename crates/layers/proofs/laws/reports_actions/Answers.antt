use Rattle.layers.specs.laws.Over.{over}
use Rattle.layers.proofs.LayerReports.{layer_reports}
use Rattle.layers.proofs.laws.reports_actions.Goals as goal

pub returns : goal.returns
returns g c =
    let r = c.args.register.now in
    layer_reports (over (g.met.S.Register.lawful r.below) (g.met.L.Construction.sound r.layer) r.fit) c.requires
