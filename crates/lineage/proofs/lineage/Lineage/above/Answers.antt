use Rattle.std.proofs.Common.{◌≡◌, Some, None, sym, ◌∙◌, ap}
use Rattle.lineage.specs.Family.{path_in}
use Rattle.lineage.specs.Lineages.{link_in, link_at}
use Rattle.lineage.proofs.ClimbedPaths.{above_is}
use Rattle.lineage.proofs.lineage.Lineage.above.Goals as goal

pub returns-in_err-get-clause-each : goal.returns-in_err-get-clause-each
returns-in_err-get-clause-each g c i front back e =
    let a = c.self.inside in
    let is = above_is a.nodes.slots a.tips.items i c.args.key front back c.self.invariant (ap (λ f. path_in f i) c.self.view_is ∙ e) in
    let none : link_at a.nodes.slots c.args.key ≡ None = ap link_in (sym c.in_err-get.ensures) in
    absurd (cc)

pub returns-clause-each : goal.returns-clause-each
returns-clause-each g c i front back e =
    let a = c.self.inside in
    let is = above_is a.nodes.slots a.tips.items i c.args.key front back c.self.invariant (ap (λ f. path_in f i) c.self.view_is ∙ e) in
    let some : link_at a.nodes.slots c.args.key ≡ Some c.in_ok-get.field-0.now.above = ap link_in (sym c.in_ok-get.ensures) in
    cc
