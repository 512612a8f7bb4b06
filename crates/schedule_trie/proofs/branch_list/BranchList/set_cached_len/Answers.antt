use Rattle.std.proofs.Common.{◌+◌, ◌<◌, length, sym, ap, subst, ◌∙◌, arith}
use Rattle.indexmap.specs.IndexMap.{set_value_at}
use Rattle.schedule_trie.specs.Editions.{lengths_in, AreEarlier}
use Rattle.schedule_trie.proofs.lengths.Editions.{count_known, set_known, set_earlier}
use Rattle.schedule_trie.proofs.branch_list.BranchList.set_cached_len.Goals as goal

pub set_cached-requires : goal.set_cached-requires
set_cached-requires c = subst (λ n. c.args.index < n) (ap (λ z. length z.entries) (sym c.self.view_is) ∙ count_known c.self.inside.edition c.self.inside.entries.entries) c.requires

pub invariant_of-self : goal.invariant_of-self
invariant_of-self c = record {
  some = c.self.invariant.some;
  earlier = subst (AreEarlier (c.self.inside.edition + 1)) (sym c.set_cached.ensures)
      (set_earlier (c.self.inside.edition + 1) c.self.inside.entries.entries c.args.index c.of-cached.result (omega (arith, c.of-cached.ensures.earlier)) c.self.invariant.earlier);
}

pub returns : goal.returns
returns c =
    rw (← c.self.view_is) (ap (lengths_in c.self.inside.edition) c.set_cached.ensures ∙ set_known c.self.inside.edition c.self.inside.entries.entries c.args.index c.of-cached.result
    ∙ ap (set_value_at (lengths_in c.self.inside.edition c.self.inside.entries.entries) c.args.index) c.of-cached.ensures.known)
