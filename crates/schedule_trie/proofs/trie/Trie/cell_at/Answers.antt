use Rattle.std.proofs.Common.{◌<◌, length, sym, ap, subst, ◌∙◌, slice_get, Some}
use Rattle.std.proofs.lemmas.Option.{slice_get-get_or}
use Rattle.schedule_trie.proofs.segments.CellHolders.{cell_found}
use Rattle.schedule_trie.proofs.trie.Trie.cell_at.Goals as goal

pub returns : goal.returns
returns g c =
    sym (cell_found c.args.self.now c.args.branch.now c.args.place c.in_ok-index.index c.in_ok-key.key c.in_ok-key.offset c.in_ok-slot.slot.now
    (sym c.in_ok-index.ensures.index) c.in_ok-key.ensures.found
    (ap (λ l. slice_get l c.in_ok-key.offset) (sym c.slots_at.ensures)
    ∙ slice_get-get_or c.slots_at.result.now c.in_ok-key.offset c.in_ok-slot.slot.now
    (subst (λ l. c.in_ok-key.offset < length l) (sym c.slots_at.ensures) c.in_ok-key.ensures.found.within)
    ∙ ap Some (sym c.in_ok-slot.ensures.lookup.1)))
