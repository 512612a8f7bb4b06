use Rattle.std.proofs.Common.{sym, ap, subst, ◌∙◌}
use Rattle.checkpoints.specs.Runs.{IsTrueRun}
use Rattle.cutoff.proofs.Climbs.{ends_same}
use Rattle.cutoff.proofs.stored.Stored.ends.Goals as goal

pub returns-then-is_same : goal.returns-then-is_same
returns-then-is_same g c = (
  (λ e.
      let p = c.is_same.ensures.0 e in
      let same = c.deref.ensures ∙ ap (λ v. v.run) c.self.view_is in
      let true_run = subst (λ r. IsTrueRun (g.R.Behaves.behaviour r.entry.register) r) same c.exit-exit.ensures.kept in
      let links = c.requires.linked p.0 p.1 (ap (λ v. v.id) (sym c.self.view_is) ∙ p.2) in
      ends_same g.R.PartialEq.eq g.met.R.PartialEq.laws (g.R.Behaves.behaviour c.args.self.now.run.entry.register) c.args.self.now c.args.config.now true_run links.0 links.1),
  (λ same. c.if-is_same.true),
)
