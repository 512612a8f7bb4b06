-- In contracts, a desk's journal is a list of items: the opening, then the logged calls.
use Rattle.std.specs.Prelude.{ℕ, List, [], ◌∷◌, map}
use Rattle.sessions.specs.declared.log.Entry.{Entry}
use Rattle.sessions.specs.Books.{BookOf}
use Rattle.desk.specs.declared.item.Item.{Item}
use Rattle.desk.specs.declared.item.Item.TheVariants.{Opening, Call}

module _ {R P : Type 0} where
  -- the number of the share under which an item was made; for a call, the calling chair's number,
  -- which is the least of that chair's shares; for the opening, 16, which is no share's number
  abbrev pub made_under : Item R P → ℕ
  made_under (Opening first) = 16
  made_under (Call e) = e.chair

  -- the calls in a list of items, without the opening
  abbrev pub calls_in : List (Item R P) → List Entry
  calls_in [] = []
  calls_in (Opening first ∷ rest) = calls_in rest
  calls_in (Call e ∷ rest) = e ∷ calls_in rest

  -- these calls as a list of items
  abbrev pub as_items : List Entry → List (Item R P)
  as_items calls = map (λ e. Call e) calls

  -- the list of a journal: the opening with the book `first`, followed by these calls
  abbrev pub items : BookOf R P → List Entry → List (Item R P)
  items first calls = Opening first ∷ as_items calls
