use Rattle.std.proofs.Common.{◌≡◌}
use Rattle.safe_bit.specs.Parts.{with_part}
use Rattle.layers.specs.Nested.{first_parts}
use Rattle.layers.proofs.layered.Layered.init_parts.Given as goal

-- the parts before this one are set, and nothing else has changed
abbrev pub invariant-loop-part : goal.invariant-loop-part
invariant-loop-part g l = l.store ≡ with_part l.at (first_parts (g.L.Rules.table l.self.layer) (g.S.Behaves.behaviour l.self.below) l.value l.part) l.initial.store
