use Rattle.std.proofs.Common.{rules}
use Rattle.std.proofs.lemmas.Bool.Decides.{same_from_decides}
use Rattle.frames.specs.Equality.{configuration_decides}
use Rattle.frames.proofs.Stacks.{same_decided_by_test}
use Rattle.frames.proofs.config.ConfigPartialEq.eq.Goals as goal

pub returns-then-eq-2-clause-same : goal.returns-then-eq-2-clause-same
returns-then-eq-2-clause-same g c = rw (← c.self.view_is, ← c.other.view_is) (same_decided_by_test g.R.Register.Holds g.R.Register.Reaches g.met.R.Register.alike g.met.R.Register.finds_alike c.self.inside.processes.items c.other.inside.processes.items c.self.invariant c.other.invariant c.eq-then-eq-2.result (search rules))

pub returns-then-eq-2-clause-gives : goal.returns-then-eq-2-clause-gives
returns-then-eq-2-clause-gives g c =
    rw (← c.self.view_is, ← c.other.view_is)
    (same_from_decides _ _ (same_decided_by_test g.R.Register.Holds g.R.Register.Reaches g.met.R.Register.alike g.met.R.Register.finds_alike c.self.inside.processes.items c.other.inside.processes.items c.self.invariant c.other.invariant c.eq-then-eq-2.result (search rules)) (configuration_decides g.R.PartialEq.eq g.R.Pending.PartialEq.eq g.met.R.Register.same_pending _ _))
