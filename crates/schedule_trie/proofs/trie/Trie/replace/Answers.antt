use Rattle.std.proofs.Common.{◌≡◌, Some, sym, subst}
use Rattle.branch_terms.specs.Forest.{index_of}
use Rattle.schedule_trie.specs.Trie.{forest, IsWhole}
use Rattle.schedule_trie.specs.Edits.{Replace, IsEdited}
use Rattle.schedule_trie.proofs.segments.StepSet.{replace_ok}
use Rattle.schedule_trie.proofs.segments.CellHolders.{notes_here}
use Rattle.schedule_trie.proofs.trie.Trie.replace.Goals as goal

pub returns-clause-ok : goal.returns-clause-ok
returns-clause-ok g c =
    let now = c.cache_len.new.self in
    let found = subst (λ z. index_of (forest z).branches c.args.branch.now ≡ Some c.in-Some.index) (sym c.cache_len.ensures.same) (sym c.in-Some.ensures.index) in
    subst (λ z. IsEdited z c.set_step.new.self (Replace c.args.branch.now c.args.place c.args.step)) c.cache_len.ensures.same
    (record {
      forest = replace_ok now c.set_step.new.self c.args.branch.now c.args.place c.in-Some.index c.in-Some-find_cell.key c.in-Some-find_cell.offset
          found c.in-Some-find_cell.ensures.found c.args.step c.set_step.ensures;
      notes = notes_here now c.set_step.new.self c.args.branch.now c.args.place c.in-Some.index c.in-Some-find_cell.key c.in-Some-find_cell.offset
          (subst IsWhole (sym c.cache_len.ensures.same) c.cache_len.ensures.whole).sound found c.in-Some-find_cell.ensures.found c.set_step.ensures.notes;
      cut = c.set_step.ensures.cut;
      limits = c.set_step.ensures.limits;
    })
