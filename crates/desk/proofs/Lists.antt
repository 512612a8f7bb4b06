-- Lists of items, and the calls in them.
use Rattle.std.proofs.Common.{◌≡◌, ◌+◌, List, [], ◌∷◌, ◌++◌, length, refl, sym, ap, ◌∙◌, arith}
use Rattle.std.proofs.lemmas.List.{map-append, length-map}
use Rattle.turn.specs.Histories.{StartsWith}
use Rattle.sessions.specs.declared.log.Entry.{Entry}
use Rattle.sessions.specs.Books.{BookOf}
use Rattle.desk.specs.declared.item.Item.{Item}
use Rattle.desk.specs.declared.item.Item.TheVariants.{Opening, Call}
use Rattle.desk.specs.Items.{calls_in, as_items, items}

-- the calls in the list of these calls are these calls
pub calls_in_as_items : (R P : Type 0) (calls : List Entry) → calls_in {R = R} {P = P} (as_items calls) ≡ calls
calls_in_as_items R P [] = refl
calls_in_as_items R P (e ∷ calls) = ap (λ l. e ∷ l) (calls_in_as_items R P calls)

module _ {R P : Type 0} where
  pub calls_append : (xs ys : List (Item R P)) → calls_in (xs ++ ys) ≡ calls_in xs ++ calls_in ys
  calls_append [] ys = refl
  calls_append (Opening first ∷ xs) ys = calls_append xs ys
  calls_append (Call e ∷ xs) ys = ap (λ l. e ∷ l) (calls_append xs ys)

  pub items_more : (first : BookOf R P) (calls more : List Entry) → items first (calls ++ more) ≡ items first calls ++ as_items more
  items_more first calls more = ap (λ l. Opening first ∷ l) (map-append (λ e. Call e) calls more)

  pub length_items : (first : BookOf R P) (calls : List Entry) → length (items first calls) ≡ length calls + 1
  length_items first calls = omega (arith, length-map {B = Item R P} calls (λ e. Call e))

  -- the book of the opening at the head of a list, or `other` if the list has no opening there
  opening_or : BookOf R P → List (Item R P) → BookOf R P
  opening_or other [] = other
  opening_or other (Opening first ∷ rest) = first
  opening_or other (Call e ∷ rest) = other

  -- a prefix that begins with an opening has the opening of the list
  pub same_first : (one other : BookOf R P) (xs ys : List Entry) (front : List (Item R P)) → front ≡ items one xs → StartsWith (items other ys) front → one ≡ other
  unfolding opening_or
  same_first one other xs ys front is starts = ap (opening_or one) (ap (λ l. l ++ starts.0) (sym is) ∙ starts.1)

  -- the calls in a prefix of a list are a prefix of the calls in the list
  pub calls_begin : (first : BookOf R P) (calls : List Entry) (front : List (Item R P)) → StartsWith (items first calls) front → StartsWith calls (calls_in front)
  calls_begin first calls front starts = (calls_in starts.0, sym (calls_append front starts.0) ∙ (ap calls_in starts.1 ∙ calls_in_as_items R P calls))
