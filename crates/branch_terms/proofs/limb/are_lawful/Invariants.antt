use Rattle.std.proofs.Common.{◌≡◌, [], take, drop}
use Rattle.branch_terms.specs.Limbs.{are_lawful_after}
use Rattle.branch_terms.proofs.limb.are_lawful.Given as goal

-- all limbs are lawful exactly if the remaining ones may follow the limbs so far
abbrev pub invariant-loop-index : goal.invariant-loop-index
invariant-loop-index l = are_lawful_after (take l.index l.limbs) (drop l.index l.limbs) ≡ are_lawful_after [] l.limbs
