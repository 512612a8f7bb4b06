use Rattle.std.proofs.Common.{◌<◌, length, sym, ap, subst, ◌∙◌, slice_get, arith}
use Rattle.std.specs.Option.{IfSome}
use Rattle.std.specs.Map.{keys_of}
use Rattle.indexmap.specs.IndexMap.{set_value_at}
use Rattle.schedule_trie.proofs.lengths.Lengths.{names_set, count_set}
use Rattle.schedule_trie.proofs.lengths.Editions.{one_more_unknown, all_unknown}
use Rattle.schedule_trie.proofs.branch_list.forget_editions.Goals as goal

pub set_cached-requires : goal.set_cached-requires
set_cached-requires c = omega (arith, c.loop-index.invariant.count, c.len-index-end.ensures.len, c.loop-index-test.true)

pub loop-index-preserved : goal.loop-index-preserved
loop-index-preserved c =
    let es = c.loop-index.entries.entries in
    let i = c.loop-index.index in
    record {
      names = ap keys_of c.set_cached.ensures ∙ names_set es i c.unknown.result ∙ c.loop-index.invariant.names;
      count = ap length c.set_cached.ensures ∙ count_set es i c.unknown.result ∙ c.loop-index.invariant.count;
      first = λ j less. subst (λ l. IfSome (slice_get l j) (λ e. e.1.edition < 1)) (sym (c.set_cached.ensures ∙ ap (set_value_at es i) c.unknown.ensures)) (one_more_unknown es i c.loop-index.invariant.first j less);
    }

pub returns-clause-first : goal.returns-clause-first
returns-clause-first c = all_unknown c.loop-index.entries.entries c.loop-index.index (omega (arith, c.loop-index.invariant.count, c.len-index-end.ensures.len, c.loop-index-test.false)) c.loop-index.invariant.first
