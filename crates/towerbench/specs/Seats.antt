-- Seats: a desk and one of its chairs.
use Rattle.std.specs.Prelude.{ℕ, ◌≡◌, ◌++◌, Bool, List}
use Rattle.turn.specs.declared.view.View.{View}
use Rattle.turn.specs.Shares.{HasAll}
use Rattle.desk.specs.declared.desk.Desk.{Desk}
use Rattle.desk.specs.declared.item.Item.{Item}
use Rattle.desk.specs.Chairs.{book_at_first}
use Rattle.desk.specs.Histories.{seen}
use Rattle.conversation.specs.Scripts.{Answered}
use Rattle.frames.specs.Behaviour.{Behaviour}
use Rattle.sessions.specs.declared.log.Entry.{Entry}
use Rattle.sessions.specs.Books.{BookOf, opening_of}
use Rattle.sessions.specs.Logs.{world_after}
use Rattle.sessions.specs.World.{World}

-- what contracts see of a seat: the book (branches, sessions and log) that its desk was opened
-- with, the history of logged calls that its chair has seen, and the chair's shares
pub record Seated (R P : Type 0) : Type 0 where
  pub first : BookOf R P
  pub seen : List Entry
  pub shares : List Bool

-- the seat of a chair at a desk; `v`, the chair's view, gives the chair's shares and the calls that
-- the chair has seen
abbrev pub seated : {R P : Type 0} → Desk R P → View (Item R P) → Seated R P
seated desk v = record { first = book_at_first desk; seen = seen v; shares = v.shares }

-- the seat's chair holds every share, so that no one else can call the desk
abbrev pub IsAlone : {R P : Type 0} → Seated R P → Type 0
IsAlone s = HasAll s.shares

-- the world that a script's lines see and change at this seat: the one after the history of logged
-- calls that the chair has seen
abbrev pub world_at : {R P : Type 0} → (R → Behaviour P) → Seated R P → World P
world_at is s = world_after (opening_of is s.first) s.seen

-- A call was answered. Its answer was added after the bytes `before`, and the call left the world
-- `left`. `answered` gives the answer and the world, given `memory`: whether the call was refused
-- memory.
pub record AddsAnswer {W : Type 0} (answered : Bool → Answered W) (left : W) (before after : List ℕ) : Type 0 where
  pub memory : Bool
  pub text : List ℕ
  pub is : answered memory ≡ record { world = left; text = text }
  pub added : after ≡ before ++ text
