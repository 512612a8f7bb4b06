use Rattle.std.proofs.Common.{sym, ◌∙◌}
use Rattle.schedule_trie.proofs.branches.Lines.{name_is}
use Rattle.schedule_trie.proofs.trie.Trie.name_at.Goals as goal

pub returns : goal.returns
returns g c = rw (← c.self.view_is) (c.name.ensures ∙ sym (name_is c.self.inside c.args.index))
