use Rattle.std.proofs.Common.{◌<◌, nat_eq, position, sym, ap, subst, ◌∙◌}
use Rattle.std.specs.Option.{IfSome}
use Rattle.std.specs.Cmp.Lexicographic.{pointwise}
use Rattle.schedule_trie.proofs.lengths.Editions.{names_known, count_known}
use Rattle.schedule_trie.proofs.branch_list.BranchList.get_index_of.Goals as goal

pub returns-clause-index : goal.returns-clause-index
returns-clause-index c = rw (← c.self.view_is) (c.get_index_of.ensures.index ∙ ap (position (pointwise nat_eq c.args.name.now)) (sym (names_known c.self.inside.edition c.self.inside.entries.entries)))

pub returns-clause-within : goal.returns-clause-within
returns-clause-within c = rw (← c.self.view_is) (subst (λ n. IfSome c.get_index_of.result (λ i. i < n)) (sym (count_known c.self.inside.edition c.self.inside.entries.entries)) c.get_index_of.ensures.within)
