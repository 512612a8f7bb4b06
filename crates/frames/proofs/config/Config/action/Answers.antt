use Rattle.std.proofs.Common.{rules, ◌≡◌, Some, ap, subst, sym, ◌∙◌}
use Rattle.frames.specs.Configuration.{running_at}
use Rattle.safe_bit.specs.Parts.{origin}
use Rattle.frames.specs.Placed.{placed_action}
use Rattle.frames.proofs.Stacks.{point_of_stack, of_point, action_at_origin}
use Rattle.frames.proofs.config.Config.action.Goals as goal

pub action-requires-clause-reached : goal.action-requires-clause-reached
action-requires-clause-reached g c =
    let r = c.args.self.now.register in
    let found : g.R.Register.point c.self.inside.register c.args.p c.in_ok-frames.frames.now ≡ Some c.in_ok-point.point = search rules in
    let there = point_of_stack (g.R.Behaves.behaviour r) (g.R.Register.Reaches r) (g.R.Register.point r) (g.met.R.Register.reports r) c.args.p (running_at c.args.p c.args.self.now)
    c.in_ok-frames.frames.now c.in_ok-point.point c.frames.ensures.reached c.in_ok-frames.ensures.there
    (subst (λ x. g.R.Register.point x.register c.args.p c.in_ok-frames.frames.now ≡ Some c.in_ok-point.point) c.self.view_is found) in
    (c.args.p, (there.0.0, subst (λ x. g.R.Register.Reaches x.register c.args.p there.0.0 c.in_ok-point.point) (sym c.self.view_is) there.0.1))

pub returns : goal.returns
returns g c =
    let r = c.args.self.now.register in
    let found : g.R.Register.point c.self.inside.register c.args.p c.in_ok-frames.frames.now ≡ Some c.in_ok-point.point = search rules in
    let there = point_of_stack (g.R.Behaves.behaviour r) (g.R.Register.Reaches r) (g.R.Register.point r) (g.met.R.Register.reports r) c.args.p (running_at c.args.p c.args.self.now)
    c.in_ok-frames.frames.now c.in_ok-point.point c.frames.ensures.reached c.in_ok-frames.ensures.there
    (subst (λ x. g.R.Register.point x.register c.args.p c.in_ok-frames.frames.now ≡ Some c.in_ok-point.point) c.self.view_is found) in
    sym (of_point (running_at c.args.p c.args.self.now) c.in_ok-point.point (g.R.Behaves.behaviour r).acts there.1
    ∙ ap Some (sym (action_at_origin ((g.R.Behaves.behaviour r).acts c.in_ok-point.point)) ∙ sym (subst (λ x. c.action.result ≡ placed_action origin ((g.R.Behaves.behaviour x.register).acts c.in_ok-point.point)) c.self.view_is c.action.ensures)))
