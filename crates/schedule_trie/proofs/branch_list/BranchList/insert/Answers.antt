use Rattle.std.proofs.Common.{◌+◌, sym, ap, subst, ◌∙◌, arith}
use Rattle.indexmap.specs.IndexMap.{insert_entry}
use Rattle.schedule_trie.specs.Editions.{lengths_in, AreEarlier}
use Rattle.schedule_trie.proofs.lengths.Editions.{same_name, insert_known, insert_earlier}
use Rattle.schedule_trie.proofs.branch_list.BranchList.insert.Goals as goal

pub invariant_of-self-2 : goal.invariant_of-self-2
invariant_of-self-2 c = record {
  some = c.self.invariant.some;
  earlier = subst (AreEarlier (c.self.inside.edition + 1)) (sym (c.in_ok-insert.ensures.entries ∙ ap (insert_entry same_name c.self.inside.entries.entries c.args.name) c.unknown.ensures))
      (insert_earlier (c.self.inside.edition + 1) (omega arith) c.self.inside.entries.entries c.args.name c.self.invariant.earlier);
}

pub returns-clause-entries : goal.returns-clause-entries
returns-clause-entries c =
    rw (← c.self.view_is) (ap (lengths_in c.self.inside.edition) (c.in_ok-insert.ensures.entries ∙ ap (insert_entry same_name c.self.inside.entries.entries c.args.name) c.unknown.ensures)
    ∙ insert_known c.self.inside.edition c.self.invariant.some c.self.inside.entries.entries c.args.name)
