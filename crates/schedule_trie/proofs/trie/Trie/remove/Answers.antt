use Rattle.std.proofs.Common.{◌≡◌, ◌<◌, Some, length, sym, subst, arith}
use Rattle.branch_terms.specs.Forest.{index_of, slots_in}
use Rattle.schedule_trie.specs.Trie.{forest, IsWhole}
use Rattle.schedule_trie.specs.Edits.{Remove, IsEdited}
use Rattle.schedule_trie.proofs.lengths.LengthsAfter.{place_inside, shorter, inside_after_removal}
use Rattle.schedule_trie.proofs.edits.RemoveSteps.{remove_ok}
use Rattle.schedule_trie.proofs.segments.CellHolders.{notes_here}
use Rattle.schedule_trie.proofs.trie.Trie.remove.Goals as goal

pub overflow_sub-len : goal.overflow_sub-len
overflow_sub-len g c =
    let less = place_inside c.cache_len-len.new.self c.in-Some.index c.args.place _ c.in-Some-find_cell.ensures.found in
    let len = subst (λ z. c.cache_len-len.result ≡ length (slots_in (forest z).branches c.in-Some.index)) (sym c.cache_len-len.ensures.same) c.cache_len-len.ensures.len in
    omega (arith, less, len)

pub set_cached_len-requires-clause-index : goal.set_cached_len-requires-clause-index
set_cached_len-requires-clause-index g c =
    inside_after_removal c.cache_len-len.new.self c.remove_slot.new.self (subst IsWhole (sym c.cache_len-len.ensures.same) c.cache_len-len.ensures.whole) c.in-Some.index (subst (λ z. c.in-Some.index < length z.branches) (sym c.cache_len-len.ensures.same) c.in-Some.ensures.within)
    c.in-Some-find_cell.key c.in-Some-find_cell.offset c.in-Some-find_cell.ensures.found.within c.remove_slot.ensures

pub set_cached_len-requires-clause-len : goal.set_cached_len-requires-clause-len
set_cached_len-requires-clause-len g c =
    let less = place_inside c.cache_len-len.new.self c.in-Some.index c.args.place _ c.in-Some-find_cell.ensures.found in
    let len = subst (λ z. c.cache_len-len.result ≡ length (slots_in (forest z).branches c.in-Some.index)) (sym c.cache_len-len.ensures.same) c.cache_len-len.ensures.len in
    let one = shorter c.cache_len-len.new.self c.remove_slot.new.self (subst IsWhole (sym c.cache_len-len.ensures.same) c.cache_len-len.ensures.whole) c.in-Some.index (subst (λ z. c.in-Some.index < length z.branches) (sym c.cache_len-len.ensures.same) c.in-Some.ensures.within)
    c.args.place c.in-Some-find_cell.key c.in-Some-find_cell.offset c.in-Some-find_cell.ensures.found c.remove_slot.ensures less in
    omega (arith, one, len)

pub returns-clause-ok : goal.returns-clause-ok
returns-clause-ok g c =
    let now = c.cache_len-len.new.self in
    let found = subst (λ z. index_of (forest z).branches c.args.branch.now ≡ Some c.in-Some.index) (sym c.cache_len-len.ensures.same) (sym c.in-Some.ensures.index) in
    subst (λ z. IsEdited c.args.self.now z (Remove c.args.branch.now c.args.place)) (sym c.set_cached_len.ensures)
    (subst (λ z. IsEdited z c.remove_slot.new.self (Remove c.args.branch.now c.args.place)) c.cache_len-len.ensures.same
    (record {
      forest = remove_ok now c.remove_slot.new.self c.args.branch.now c.args.place c.in-Some.index c.in-Some-find_cell.key c.in-Some-find_cell.offset
          found c.in-Some-find_cell.ensures.found c.remove_slot.ensures;
      notes = notes_here now c.remove_slot.new.self c.args.branch.now c.args.place c.in-Some.index c.in-Some-find_cell.key c.in-Some-find_cell.offset
          (subst IsWhole (sym c.cache_len-len.ensures.same) c.cache_len-len.ensures.whole).sound found c.in-Some-find_cell.ensures.found c.remove_slot.ensures.notes;
      cut = c.remove_slot.ensures.cut;
      limits = c.remove_slot.ensures.limits;
    }))
