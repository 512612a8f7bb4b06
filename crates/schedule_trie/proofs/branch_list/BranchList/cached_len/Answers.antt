use Rattle.std.proofs.Common.{ap, sym, ◌∙◌}
use Rattle.schedule_trie.proofs.lengths.Editions.{known_at, cached_known}
use Rattle.schedule_trie.proofs.branch_list.BranchList.cached_len.Goals as goal

pub returns : goal.returns
returns c = rw (← c.self.view_is) (c.known.ensures ∙ ap (known_at c.self.inside.edition) c.in_ok-cached.ensures.entry ∙ sym (cached_known c.self.inside.edition c.self.inside.entries.entries c.args.index))

pub returns-in_err-cached : goal.returns-in_err-cached
returns-in_err-cached c = c.from_residual.ensures ∙ rw (← c.self.view_is) (ap (known_at c.self.inside.edition) c.in_err-cached.ensures.entry ∙ sym (cached_known c.self.inside.edition c.self.inside.entries.entries c.args.index))
