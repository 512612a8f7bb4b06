-- Histories: the logged calls since a desk's opening, each with its reply.
use Rattle.std.specs.Prelude.{◌≡◌, List}
use Rattle.frames.specs.Behaviour.{Behaviour}
use Rattle.turn.specs.declared.view.View.{View}
use Rattle.sessions.specs.declared.log.Entry.{Entry}
use Rattle.sessions.specs.Books.{BookOf, opening_of}
use Rattle.sessions.specs.Logs.{IsLegal}
use Rattle.desk.specs.declared.item.Item.{Item}
use Rattle.desk.specs.Items.{calls_in, items}

module _ {R P : Type 0} where
  -- the history that a chair has seen
  abbrev pub seen : View (Item R P) → List Entry
  seen v = calls_in v.seen

  -- the calls that a chair has made
  abbrev pub own_calls : View (Item R P) → List Entry
  own_calls v = calls_in v.calls

  -- `list` is the opening with the book `first`, followed by calls that are legal from there: each
  -- reply is the one that its command gets after the calls before it
  pub record IsHistory (is : R → Behaviour P) (first : BookOf R P) (list : List (Item R P)) : Type 0 where
    pub whole : list ≡ items first (calls_in list)
    pub legal : IsLegal (opening_of is first) (calls_in list)
