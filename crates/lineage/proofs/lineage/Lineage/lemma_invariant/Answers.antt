use Rattle.lineage.proofs.Families.{is_family}
use Rattle.lineage.proofs.lineage.Lineage.lemma_invariant.Goals as goal

pub returns : goal.returns
returns g c = let a = c.self.inside in rw (← c.self.view_is) (is_family a.nodes.slots a.tips.items c.self.invariant)
