use Rattle.std.proofs.Common.{◌≡◌, ◌*◌, ◌<◌, ◌^◌, sym, ap, ◌∙◌, arith}
use Rattle.std.proofs.lemmas.Nat.{mul-lt}
use Rattle.layers.proofs.fit.fits_below.Goals as goal

pub returns-clause-fit : goal.returns-clause-fit
returns-clause-fit g c =
    let t = g.L.Rules.table c.args.layer.now in
    let size = (g.S.Behaves.behaviour c.args.below.now).size in
    let parts : c.from-parts.result ≡ t.parts = c.from-parts.ensures ∙ c.shape-shape.ensures.parts in
    let cell : c.from.result ≡ size.cell = c.from.ensures ∙ ap (λ s. s.cell) c.size-size.ensures in
    let word : c.from-2.result ≡ size.word = c.from-2.ensures ∙ ap (λ s. s.word) c.size-size.ensures in
    let words : c.from-3.result ≡ t.words = c.from-3.ensures ∙ c.shape-shape.ensures.words in
    let all_cells : c.from-parts.result * c.from.result ≡ t.parts * size.cell = λ i. parts i * cell i in
    let all_words : c.from-parts.result * c.from-2.result ≡ t.parts * size.word = λ i. parts i * word i in
    record {
      some_values = omega (arith, c.shape-shape.ensures.values);
      some_processes = omega (arith, c.shape-shape.ensures.processes);
      few_processes = omega (arith, c.shape-shape.ensures.processes);
      same_values = sym c.values.ensures ∙ c.if-values-shape.false ∙ c.shape-shape.ensures.inner_values;
      same_processes = sym c.processes.ensures ∙ c.if-processes-shape.false ∙ c.shape-shape.ensures.inner_processes;
      room = omega (arith, c.depth.ensures, c.if-depth-ge-STACK_FRAMES.false);
      few_cells = omega (arith, all_cells, c.from-4.ensures, c.if-cells-from.false);
      few_words = omega (arith, all_words, words, c.from-else-cells-from.ensures, c.if-words-from.false);
    }

pub overflow_mul-cells : goal.overflow_mul-cells
overflow_mul-cells g c =
    let parts : c.from-parts.result < 2 ^ 32 = omega arith in
    let size : c.from.result < 2 ^ 32 = omega arith in
    omega (arith, mul-lt c.from-parts.result c.from.result (2 ^ 32) (2 ^ 32) parts size)

pub overflow_mul-words : goal.overflow_mul-words
overflow_mul-words g c =
    let parts : c.from-parts.result < 2 ^ 32 = omega arith in
    let size : c.from-2.result < 2 ^ 32 = omega arith in
    omega (arith, mul-lt c.from-parts.result c.from-2.result (2 ^ 32) (2 ^ 32) parts size)
