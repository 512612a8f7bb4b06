use Rattle.std.proofs.Common.{◌≡◌, length, ap, ◌∙◌}
use Rattle.std.proofs.lemmas.List.{length-replicate}
use Rattle.safe_bit.specs.Memory.{Memory, blank, no_cell}
use Rattle.safe_bit.specs.declared.Place.{Place}
use Rattle.safe_bit.specs.Parts.{HasSize}
use Rattle.safe_bit.specs.laws.Parts.{LiesIn-whole, with_part-whole}
use Rattle.frames.proofs.own.store_of.Goals as goal

blank_size : (p size : Place) (m : Memory) → m ≡ blank p.cell p.word → p ≡ size → HasSize size m
blank_size p size m e same = record {
  cells = ap (λ n. length n.cells) e ∙ length-replicate p.cell no_cell ∙ ap (λ q. q.cell) same;
  words = ap (λ n. length n.words) e ∙ length-replicate p.word 0 ∙ ap (λ q. q.word) same;
}

pub init-requires-clause-inside : goal.init-requires-clause-inside
init-requires-clause-inside g c =
    let b = g.R.Behaves.behaviour c.args.register.now in
    LiesIn-whole b.size c.in_ok-store.store (blank_size _ b.size _ c.in_ok-store.ensures c.size-size.ensures)

pub returns : goal.returns
returns g c =
    let b = g.R.Behaves.behaviour c.args.register.now in
    let lawful = g.met.R.Register.lawful c.args.register.now in
    c.init.ensures
    ∙ with_part-whole b.size (b.initial c.args.value) c.in_ok-store.store
    (lawful.size_holds _ (lawful.initial_holds c.args.value c.requires))
    (blank_size _ b.size _ c.in_ok-store.ensures c.size-size.ensures)
