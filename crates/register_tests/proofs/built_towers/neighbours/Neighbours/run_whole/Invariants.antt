use Rattle.std.proofs.Common.{◌≡◌}
use Rattle.register_tests.specs.Neighbours.{IsPendingUnlessEnded}
use Rattle.register_tests.proofs.built_towers.neighbours.Neighbours.run_whole.Given as goal

-- the register is the same, and the process's operation is pending unless it has ended
abbrev pub invariant-loop : goal.invariant-loop
invariant-loop g l = record {
  register : l.self.register ≡ l.initial.self.register;
  pending : IsPendingUnlessEnded (g.R.Behaves.behaviour l.self.register) (g.R.Register.Reaches l.self.register) l.who l.stack l.end;
}
