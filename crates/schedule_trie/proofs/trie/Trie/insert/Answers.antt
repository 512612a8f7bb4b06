use Rattle.std.proofs.Common.{◌+◌, sym, ap, subst, ◌∙◌, arith}
use Rattle.schedule_trie.specs.Edits.{Insert, IsEdited}
use Rattle.schedule_trie.specs.Trie.{forest, IsInserted}
use Rattle.schedule_trie.proofs.edits.InsertAnswers.{insert_ok}
use Rattle.schedule_trie.proofs.lengths.LengthsAfter.{cells_few, longer, inside_after_insert}
use Rattle.schedule_trie.proofs.trie.Trie.insert.Goals as goal

pub overflow_add-len : goal.overflow_add-len
overflow_add-len g c =
    let whole = c.cache_len-len.ensures.whole in
    let few = cells_few c.args.self.now whole c.in-Some.index in
    omega (arith, few, whole.within.cells, whole.within.most_cells, c.cache_len-len.ensures.len)

pub set_cached_len-requires-clause-index : goal.set_cached_len-requires-clause-index
set_cached_len-requires-clause-index g c =
    let whole = c.cache_len-len.ensures.whole in
    inside_after_insert c.args.self.now c.insert_at.new.self whole c.in-Some.index c.in-Some.ensures.within c.args.place c.args.step
    (subst (λ z. IsInserted z c.insert_at.new.self c.in-Some.index c.args.place c.args.step) c.cache_len-len.ensures.same c.in_ok-insert_at.ensures.ok)

pub set_cached_len-requires-clause-len : goal.set_cached_len-requires-clause-len
set_cached_len-requires-clause-len g c =
    let whole = c.cache_len-len.ensures.whole in
    ap (λ n. n + 1) c.cache_len-len.ensures.len
    ∙ longer c.args.self.now c.insert_at.new.self whole c.in-Some.index c.in-Some.ensures.within c.args.place c.args.step
    (subst (λ z. IsInserted z c.insert_at.new.self c.in-Some.index c.args.place c.args.step) c.cache_len-len.ensures.same c.in_ok-insert_at.ensures.ok)
    (omega (arith, c.cache_len-len.ensures.len, c.if-len-place.false))

pub returns-clause-ok : goal.returns-clause-ok
returns-clause-ok g c =
    let view = c.self.view_is ∙ c.cache_len-len.ensures.same in
    let change = subst (λ z. IsInserted z c.insert_at.new.self c.in-Some.index c.args.place c.args.step) c.cache_len-len.ensures.same c.in_ok-insert_at.ensures.ok in
    subst (λ z. IsEdited c.args.self.now z (Insert c.args.branch.now c.args.place c.args.step)) (sym c.set_cached_len.ensures)
    (record {
      forest = insert_ok c.args.self.now.limits (forest c.args.self.now) _ c.args.branch.now c.args.place c.args.step c.in-Some.index (sym c.in-Some.ensures.index)
          (omega (arith, c.cache_len-len.ensures.len, c.if-len-place.false)) (omega (arith, ap (λ z. z.limits.cells) view, ap (λ z. z.made) view, c.if-self.false))
          change.forest_is;
      notes = (change.notes c.args.branch.now (sym c.in-Some.ensures.index), change.unchanged);
      cut = change.cut;
      limits = change.limits;
    })
