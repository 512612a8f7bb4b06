use Rattle.std.proofs.Common.{ap, sym, ◌∙◌}
use Rattle.lineage.specs.Family.{last_of}
use Rattle.schedule_trie.specs.Trie.{keys_in}
use Rattle.schedule_trie.proofs.branches.Lines.{keys_are}
use Rattle.schedule_trie.proofs.trie.Trie.last_at.Goals as goal

pub returns : goal.returns
returns g c =
    c.last.ensures ∙ (ap last_of (sym (keys_are c.self.inside c.self.invariant.held c.args.index)) ∙ ap (λ z. last_of (keys_in z.branches c.args.index)) c.self.view_is)
