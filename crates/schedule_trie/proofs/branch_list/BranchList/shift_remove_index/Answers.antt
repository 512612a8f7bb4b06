use Rattle.std.proofs.Common.{◌+◌, sym, ap, subst, ◌∙◌}
use Rattle.schedule_trie.specs.Editions.{lengths_in, AreEarlier}
use Rattle.schedule_trie.proofs.lengths.Editions.{remove_known, remove_earlier}
use Rattle.schedule_trie.proofs.branch_list.BranchList.shift_remove_index.Goals as goal

pub invariant_of-self : goal.invariant_of-self
invariant_of-self c = record {
  some = c.self.invariant.some;
  earlier = subst (AreEarlier (c.self.inside.edition + 1)) (sym c.shift_remove_index.ensures.entries) (remove_earlier (c.self.inside.edition + 1) c.self.inside.entries.entries c.args.index c.self.invariant.earlier);
}

pub returns : goal.returns
returns c = record { entries = rw (← c.self.view_is) (ap (lengths_in c.self.inside.edition) c.shift_remove_index.ensures.entries ∙ remove_known c.self.inside.edition c.self.inside.entries.entries c.args.index) }
