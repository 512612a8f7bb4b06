use Rattle.std.proofs.Common.{◌≡◌}
use Rattle.layers.specs.Settled.{tasks_left}
use Rattle.layers.specs.Driver.{table_of, below_of, own_memory, run_from}
use Rattle.layers.proofs.Runs.{RunsOnTo}
use Rattle.layers.proofs.layered.Layered.run.Given as goal

-- a bound on the number of tasks that are left, which falls in each pass of the loop
abbrev pub decreases-loop-onward : goal.decreases-loop-onward
decreases-loop-onward g l = tasks_left (g.L.Construction.left l.self.layer) l.onward

-- run on from here, the layer reaches its aim; and the stack is as it was at the start
abbrev pub invariant-loop-onward : goal.invariant-loop-onward
invariant-loop-onward g l =
    let aim = run_from l.self l.initial.onward (own_memory l.self l.at l.initial.store) in
    RunsOnTo (table_of l.self) (below_of l.self) (g.S.Register.Holds l.self.below) (g.L.Construction.MayBeAt l.self.layer) l.at aim l.initial.store l.onward l.store
    × (l.stack ≡ l.initial.stack)
