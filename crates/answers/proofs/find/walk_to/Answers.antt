use Rattle.std.proofs.Common.{[], List, refl, sym, subst, ap, ◌∙◌, length}
use Rattle.std.proofs.lemmas.Result.{IfOk-weaker}
use Rattle.breadth_first.specs.declared.mark.Mark.{Mark}
use Rattle.breadth_first.specs.Paths.{IsTrail, depth_at}
use Rattle.answers.specs.Gathered.{IsBuilding}
use Rattle.answers.specs.Graphs.{moves_of}
use Rattle.answers.proofs.Building.{building_first}
use Rattle.answers.proofs.Building.{node_at}
use Rattle.answers.proofs.find.walk_to.Goals as goal

pub path_to-requires-clause-trail : goal.path_to-requires-clause-trail
path_to-requires-clause-trail g c =
    let moves = moves_of g.R.Behaves.behaviour c.args.moves.now.question.now c.args.moves.now.register in
    let s = c.requires.searched in
    (s.nodes, subst (IsTrail moves.labels moves.move s.nodes) (sym c.deref.ensures.value) s.all.trail)

pub walk_along-requires : goal.walk_along-requires
walk_along-requires g c =
    let r = c.args.moves.now.register in
    let is = g.R.Behaves.behaviour in
    let q = c.args.moves.now.question.now in
    let moves = moves_of is q r in
    let s = c.requires.searched in
    let k = node_at s.nodes c.args.reached.now.marks.items c.args.index c.requires.there s.all.trail.marked in (
      k.0,
      subst (λ (path : List Mark). IsBuilding is (is r) q k.0 c.in_ok-start.start [] path) (sym c.deref-2.ensures.value)
          (building_first is (is r) q r c.in_ok-start.start k.0 s.nodes c.args.index c.in_ok-path.path.items refl c.in_ok-start.ensures s.all.starts k.1
          (c.in_ok-path.ensures.leads s.nodes (subst (IsTrail moves.labels moves.move s.nodes) (sym c.deref.ensures.value) s.all.trail))),
    )

pub returns-clause-led : goal.returns-clause-led
returns-clause-led g c =
    let r = c.args.moves.now.register in
    let is = g.R.Behaves.behaviour in
    let q = c.args.moves.now.question.now in
    let moves = moves_of is q r in
    IfOk-weaker c.walk_along.result _ _
    (λ w led s k stored. led k (subst (λ (path : List Mark). IsBuilding is (is r) q k c.in_ok-start.start [] path) (sym c.deref-2.ensures.value)
    (building_first is (is r) q r c.in_ok-start.start k s.nodes c.args.index c.in_ok-path.path.items refl c.in_ok-start.ensures s.all.starts stored
    (c.in_ok-path.ensures.leads s.nodes (subst (IsTrail moves.labels moves.move s.nodes) (sym c.deref.ensures.value) s.all.trail)))))
    c.walk_along.ensures.led

pub returns-clause-long : goal.returns-clause-long
returns-clause-long g c =
    IfOk-weaker c.walk_along.result _ _
    (λ w long. long ∙ (ap length c.deref-2.ensures.value ∙ (c.in_ok-path.ensures.long ∙ ap (λ (m : List Mark). depth_at m c.args.index) c.deref.ensures.value)))
    c.walk_along.ensures.long
