-- What the first chair of a desk has seen.
use Rattle.std.proofs.Common.{◌≡◌, List, [], refl, sym, ap, subst, ◌∙◌}
use Rattle.frames.specs.Behaviour.{Behaviour}
use Rattle.turn.specs.declared.view.View.{View}
use Rattle.turn.specs.Histories.{first_view}
use Rattle.sessions.specs.Books.{BookOf}
use Rattle.desk.specs.declared.item.Item.{Item}
use Rattle.desk.specs.Histories.{IsHistory}
use Rattle.desk.specs.Items.{items}

module _ {R P : Type 0} where
  pub first_sees_opening : (v : View (Item R P)) (list : List (Item R P)) (book first : BookOf R P) → v ≡ first_view list
      → list ≡ items book book.log → book.log ≡ [] → first ≡ book → v ≡ first_view (items first [])
  first_sees_opening v list book first seen opens none same =
      seen ∙ ap first_view (opens ∙ ap (items book) none ∙ ap (λ b. items b []) (sym same))

  pub opening_is_history : (is : R → Behaviour P) (first : BookOf R P) (v : View (Item R P)) → v ≡ first_view (items first [])
      → IsHistory is first v.seen
  opening_is_history is first v begins = subst (λ w. IsHistory is first w.seen) (sym begins) (record { whole = refl; legal = tt })
