use Rattle.std.proofs.Common.{rules, ◌≡◌, ◌<◌, [], ◌∷◌, refl, sym, ap, ◌∙◌, subst, Some}
use Rattle.atomic_table.specs.Table.{Me}
use Rattle.turn.specs.declared.view.View.{View}
use Rattle.turn.specs.Shares.{count, every_share}
use Rattle.turn.specs.laws.ShareLaws.{count_some}
use Rattle.turn.specs.Histories.{first_view, OwnsItsCalls}
use Rattle.turn.proofs.Calls.{invariant_at_start, owns_first}
use Rattle.turn.proofs.turn.Turn.new.Goals as goal

pub new-requires : goal.new-requires
new-requires g c =
    let items : c.push.new.self.items ≡ Some c.args.value ∷ [] = search rules in
    let same : c.of-about.result.value ≡ c.args.value = search rules in
    invariant_at_start g.T.Counted.by g.T.Counted.entries c.args.value _ _ _ c.requires c.len-length.ensures items same

pub invariant_of-chair : goal.invariant_of-chair
invariant_of-chair g c =
    let is : c.in-Ok.access.me ≡ (first_view (g.T.Counted.entries c.of-about.result.value), []) = search rules in
    let same : c.of-about.result.value ≡ c.args.value = search rules in record {
      marked = ap (λ (m : Me _ (View _)). m.0.shares) is ∙ sym c.every.ensures;
      idle = (ap (λ (m : Me _ (View _)). m.1) is, ap (λ (m : Me _ (View _)). m.0.holds) is);
      some = subst (λ l. 0 < count l) (sym c.every.ensures) (count_some every_share 0 refl);
      owns = subst (λ (m : Me _ (View _)). OwnsItsCalls g.T.Counted.by m.0) (sym is) (owns_first g.T.Counted.by g.T.Counted.entries c.args.value _ c.requires same);
    }
