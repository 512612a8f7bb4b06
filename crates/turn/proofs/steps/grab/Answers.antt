use Rattle.std.proofs.Common.{rules, sym, subst}
use Rattle.atomic_table.specs.Table.{Me}
use Rattle.turn.specs.declared.view.View.{View}
use Rattle.turn.specs.Histories.{HoldsSome}
use Rattle.turn.proofs.RuleSteps.{grabs}
use Rattle.turn.proofs.steps.grab.Goals as goal

pub compare_exchange-requires : goal.compare_exchange-requires
compare_exchange-requires g c =
    (search rules, search rules, grabs g.T.Counted.by g.T.Counted.entries _ _ _ (subst (λ (m : Me _ (View _)). HoldsSome m.0) (sym c.loop.invariant.1) c.requires.some))
