use Rattle.std.proofs.Common.{◌+◌, sym, ◌∙◌, arith}
use Rattle.schedule_trie.proofs.lengths.Editions.{names_known, forgotten, AreEarlier-weaker}
use Rattle.schedule_trie.proofs.branch_list.BranchList.forget_lengths.Goals as goal

pub next_edition-self-inside-requires : goal.next_edition-self-inside-requires
next_edition-self-inside-requires c = c.self.invariant.earlier

pub invariant_of-self : goal.invariant_of-self
invariant_of-self c = record {
  some = c.next_edition-self-inside.ensures.some;
  earlier = AreEarlier-weaker c.next_edition-self-inside.result (c.next_edition-self-inside.result + 1) c.next_edition-self-inside.new.entries.entries (omega arith) c.next_edition-self-inside.ensures.earlier;
}

pub returns-clause-names : goal.returns-clause-names
returns-clause-names c = rw (← c.self.view_is) (names_known c.next_edition-self-inside.result c.next_edition-self-inside.new.entries.entries ∙ c.next_edition-self-inside.ensures.names ∙ sym (names_known c.self.inside.edition c.self.inside.entries.entries))

pub returns-clause-none : goal.returns-clause-none
returns-clause-none c = forgotten c.next_edition-self-inside.result c.next_edition-self-inside.new.entries.entries c.next_edition-self-inside.ensures.earlier
