use Rattle.std.proofs.Common.{◌≡◌, sym, ap, ◌∙◌, Some, Bool, false, List, [], ◌∷◌, get_or, set, refl, subst, arith}
use Rattle.std.specs.Slots.{slots_filled}
use Rattle.atomic_table.specs.declared.owned.Table.{Table}
use mathlib.Core.Option.{some-injective}
use Rattle.atomic_table.specs.declared.shared.Seat.{Seat}
use Rattle.turn.specs.declared.view.View.{View}
use Rattle.turn.specs.Shares.{has_share}
use Rattle.turn.proofs.Calls.{closes}
use Rattle.turn.proofs.chair.Chair.into_value.Goals as goal

pub unreachable-requires : goal.unreachable-requires
unreachable-requires g c =
    let e = c.into_access.ensures in
    let home = closes g.T.Counted.by g.T.Counted.entries _ c.into_access.result.me.0 _ _ c.close_with-closed.ensures.values.2 (ap (λ (p : Seat _ (View _)). p.me.0.holds) e ∙ c.args.self.idle.1)
    (λ share inside. ap (λ (p : Seat _ (View _)). has_share p.me.0.shares share) e ∙ c.requires.1 share inside) in
    let full : c.take-value.result ≡ Some home.0 = some-injective _ _ (sym c.take-value.ensures.value ∙ home.1) in
    let none = c.in-None.is in cc

pub returns : goal.returns
returns g c =
    let e = c.into_access.ensures in
    let home = closes g.T.Counted.by g.T.Counted.entries _ c.into_access.result.me.0 _ _ c.close_with-closed.ensures.values.2 (ap (λ (p : Seat _ (View _)). p.me.0.holds) e ∙ c.args.self.idle.1)
    (λ share inside. ap (λ (p : Seat _ (View _)). has_share p.me.0.shares share) e ∙ c.requires.1 share inside) in
    let full : c.take-value.result ≡ Some home.0 = some-injective _ _ (sym c.take-value.ensures.value ∙ home.1) in
    let is = c.in-Some.is in
    let same : c.in-Some.value ≡ home.0 = cc in
    ap g.T.Counted.entries same ∙ (home.2 ∙ ap (λ (p : Seat _ (View _)). p.me.0.seen) e)

pub take-value-requires : goal.take-value-requires
take-value-requires g c =
    let e = c.close_with-closed.ensures in
    let one = e.counts.1 ∙ ap (λ (t : Table _ _ _ _ _). t.shared.table_id.slots) c.into_table.ensures ∙ c.args.turn.sized.1 in
    (omega (arith, one), e.values.1 0 (omega arith) (omega (arith, one)))

-- a mark that is set to false is false, or there is none
unset : (xs : List Bool) → get_or (set xs 0 false) 0 false ≡ false
unset [] = refl
unset (x ∷ xs) = refl

pub free-requires : goal.free-requires
free-requires g c k within =
    let one = c.close_with-closed.ensures.counts.1 ∙ ap (λ (t : Table _ _ _ _ _). t.shared.table_id.slots) c.into_table.ensures ∙ c.args.turn.sized.1 in
    let e = c.take-value.ensures.others in
    let same = e.2 in
    let first : k ≡ 0 = omega (arith, within, same, one) in
    subst (λ i. get_or (slots_filled c.take-value.new.self.slots) i false ≡ false) (sym first)
    (ap (λ fs. get_or fs 0 false) e.1 ∙ unset (slots_filled c.close_with-closed.result.slots))
