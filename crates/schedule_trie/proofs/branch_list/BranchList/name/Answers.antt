use Rattle.std.proofs.Common.{ap, sym, ◌∙◌}
use Rattle.std.specs.Option.{option_map}
use Rattle.schedule_trie.proofs.lengths.Editions.{name_known}
use Rattle.schedule_trie.proofs.branch_list.BranchList.name.Goals as goal

pub returns : goal.returns
returns c = rw (← c.self.view_is) (ap (option_map (λ e. e.0)) c.in_ok-name.ensures.entry ∙ sym (name_known c.self.inside.edition c.self.inside.entries.entries c.args.index))

pub returns-in_err-name : goal.returns-in_err-name
returns-in_err-name c = c.from_residual.ensures ∙ rw (← c.self.view_is) (ap (option_map (λ e. e.0)) c.in_err-name.ensures.entry ∙ sym (name_known c.self.inside.edition c.self.inside.entries.entries c.args.index))
