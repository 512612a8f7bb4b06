use Rattle.std.proofs.Common.{◌+◌, ◌*◌, Fits, w32, sym, subst, arith}
use Rattle.layers.specs.laws.Nested.{row_fits}
use Rattle.layers.proofs.layered.Layered.part_place.Goals as goal

pub overflow_mul-result : goal.overflow_mul-result
overflow_mul-result g c =
    let size = (g.S.Behaves.behaviour c.args.self.now.below).size in
    let fits = row_fits c.args.part (g.L.Rules.table c.args.self.now.layer).parts size.cell c.requires.part in
    subst (λ s. Fits w32 (c.args.part * s.cell)) (sym c.size-size.ensures)
    (omega (arith, fits, c.requires.placed.cells))

pub overflow_add-result : goal.overflow_add-result
overflow_add-result g c =
    let size = (g.S.Behaves.behaviour c.args.self.now.below).size in
    let fits = row_fits c.args.part (g.L.Rules.table c.args.self.now.layer).parts size.cell c.requires.part in
    subst (λ s. Fits w32 (c.args.at.cell + c.args.part * s.cell)) (sym c.size-size.ensures)
    (omega (arith, fits, c.requires.placed.cells))

pub overflow_mul-result-2 : goal.overflow_mul-result-2
overflow_mul-result-2 g c =
    let size = (g.S.Behaves.behaviour c.args.self.now.below).size in
    let fits = row_fits c.args.part (g.L.Rules.table c.args.self.now.layer).parts size.word c.requires.part in
    subst (λ s. Fits w32 (c.args.part * s.word)) (sym c.size-size.ensures)
    (omega (arith, fits, c.requires.placed.words))

pub overflow_add-result-2 : goal.overflow_add-result-2
overflow_add-result-2 g c =
    let size = (g.S.Behaves.behaviour c.args.self.now.below).size in
    let fits = row_fits c.args.part (g.L.Rules.table c.args.self.now.layer).parts size.word c.requires.part in
    subst (λ s. Fits w32 (c.args.at.word + c.args.part * s.word)) (sym c.size-size.ensures)
    (omega (arith, fits, c.requires.placed.words))
