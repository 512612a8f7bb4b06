use Rattle.std.proofs.Common.{nat_eq, sym, subst, ◌∙◌}
use Rattle.std.specs.List.{IsDistinct}
use Rattle.std.specs.Cmp.Lexicographic.{pointwise}
use Rattle.schedule_trie.proofs.lengths.Editions.{names_known, count_known}
use Rattle.schedule_trie.proofs.branch_list.BranchList.len.Goals as goal

pub returns-clause-len : goal.returns-clause-len
returns-clause-len c = rw (← c.self.view_is) (c.len.ensures.len ∙ sym (count_known c.self.inside.edition c.self.inside.entries.entries))

pub returns-clause-unique : goal.returns-clause-unique
returns-clause-unique c = rw (← c.self.view_is) (subst (IsDistinct (pointwise nat_eq)) (sym (names_known c.self.inside.edition c.self.inside.entries.entries)) c.len.ensures.unique)
