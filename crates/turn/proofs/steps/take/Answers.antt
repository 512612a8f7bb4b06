use Rattle.std.proofs.Common.{rules, ◌∷◌, Some, sym, ap, ◌∙◌}
use Rattle.atomic_table.specs.Table.{rest}
use Rattle.turn.proofs.steps.take.Goals as goal

pub exchange-requires : goal.exchange-requires
exchange-requires g c = let x = c.requires.full.0 in let full = c.requires.full.1 in
    (search rules, (Some x, full ∙ ap (λ cs. (0, Some x) ∷ rest cs) (sym full)))
