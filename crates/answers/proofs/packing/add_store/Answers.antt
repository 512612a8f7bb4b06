use Rattle.std.proofs.Common.{◌++◌, ap, ◌∙◌, map}
use Rattle.std.proofs.lemmas.Result.{on_ok_weaker}
use Rattle.answers.specs.Packing.{packed, by_gaps, cell_code}
use Rattle.answers.proofs.PackedSoFar.{packed_more}
use Rattle.answers.proofs.packing.add_store.Goals as goal

pub returns : goal.returns
returns c =
    let old = c.args.bytes.now.items in
    let m = c.args.store.now in
    on_ok_weaker c.add_words.result
    (λ added. packed_more (by_gaps 0 (map cell_code m.cells)) (by_gaps 0 m.words) old c.add_cells.new.bytes.items c.add_words.new.bytes.items
    (c.in_ok-add_cells.ensures ∙ ap (λ l. old ++ packed (by_gaps 0 (map cell_code l))) c.cells.ensures)
    (added ∙ ap (λ l. c.add_cells.new.bytes.items ++ packed (by_gaps 0 l)) c.words.ensures))
    c.add_words.ensures
