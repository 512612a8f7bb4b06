-- Chairs of a desk, and how each call of the desk changes a chair's view, which is what the chair
-- knows of the desk's history.
use Rattle.std.specs.Prelude.{ℕ, ◌+◌, ◌<◌, ◌≡◌, ◌≤◌, ◌⊎◌, List, [], Option, Result, length}
use Rattle.frames.specs.Behaviour.{Behaviour}
use Rattle.schedule_trie.specs.declared.refusal.Refusal.{Refusal}
use Rattle.schedule_trie.specs.declared.refusal.Refusal.TheVariants.{LogFull, Memory}
use Rattle.pages.specs.declared.query.Query.{Query}
use Rattle.turn.specs.declared.view.View.{View}
use Rattle.turn.specs.declared.chair.Chair.{Chair}
use Rattle.turn.specs.Shares.{HasAll, chair_number}
use Rattle.turn.specs.Histories.{StartsWith, first_view}
use Rattle.turn.specs.Chairs.{IsOf, view}
use Rattle.sessions.specs.declared.command.Command.{Command}
use Rattle.sessions.specs.declared.log.Entry.{Entry}
use Rattle.sessions.specs.declared.reply.Reply.TheVariants.{No}
use Rattle.sessions.specs.World.{World}
use Rattle.sessions.specs.Acts.{command_result}
use Rattle.sessions.specs.Books.{BookOf, opening_of}
use Rattle.sessions.specs.Logs.{IsLegal, entry, logged, world_after}
use Rattle.desk.specs.declared.item.Item.{Item}
use Rattle.desk.specs.declared.desk.Desk.{Desk}
use Rattle.desk.specs.declared.receipt.Receipt.{Receipt}
use Rattle.desk.specs.declared.receipt.Answer.{Answer}
use Rattle.desk.specs.declared.receipt.Saved.{Saved}
use Rattle.desk.specs.declared.report.Report.{Report}
use Rattle.desk.specs.Histories.{IsHistory, seen, own_calls}
use Rattle.desk.specs.Items.{items}
use Rattle.desk.specs.Works.{IsAnswer, IsSaving, NeedsBranch}

module _ {R P : Type 0} where
  -- the book as it was when the desk opened
  abbrev pub book_at_first : Desk R P → BookOf R P
  book_at_first desk = desk.first.value

  -- the chair is one of this desk: it belongs to the desk's turn, and has seen a history that is
  -- legal from the desk's opening
  abbrev pub IsChairOf : {g : _} → (R → Behaviour P) → Desk R P → Chair (List (Item R P)) (Item R P) g → Type 0
  IsChairOf is desk chair = IsOf desk.turn chair × IsHistory is (book_at_first desk) (view chair).seen

  -- a desk as it is opened, with the world `first`, and its one chair, which holds every share and
  -- has seen the opening alone
  pub record IsNewDesk {g : _} (is : R → Behaviour P) (first : World P) (desk : Desk R P) (chair : Chair (List (Item R P)) (Item R P) g) : Type 0 where
    pub owned : IsChairOf is desk chair
    pub sees : view chair ≡ first_view (items (book_at_first desk) [])
    pub opening : opening_of is (book_at_first desk) ≡ first

  -- `found` is the history that a chair with the view v finds when it takes the turn. It begins
  -- with what v has seen, is at least as long as any length that v has read, and is exactly what v
  -- has seen if v has every share. (Lengths read also count the opening, hence the 1.)
  pub record Finds (v : View (Item R P)) (found : List Entry) : Type 0 where
    pub begins : StartsWith found (seen v)
    pub whole : HasAll v.shares → found ≡ seen v
    pub reported : v.reported ≤ length found + 1

  -- From the view v to a later view w, a chair keeps its shares and the history that it has seen,
  -- makes no call, and reads no length. In w it may have seen more calls than in v, unless it has
  -- every share.
  pub record KeepsSeen (v w : View (Item R P)) : Type 0 where
    pub begins : StartsWith (seen w) (seen v)
    pub whole : HasAll v.shares → seen w ≡ seen v
    pub calls : w.calls ≡ v.calls
    pub shares : w.shares ≡ v.shares
    pub reported : w.reported ≡ v.reported

  module _ (is : R → Behaviour P) (first : BookOf R P) where
    -- A command changes a chair's view from v to w. If the reply is logged, the call is added with
    -- its reply, under the chair's number, to the history found and to the chair's own calls. The
    -- resulting history is legal; in w the chair has seen it, and the receipt has its length. The
    -- reply is what the command gets in the world after the history found, or Memory. The reply is
    -- LogFull only if the history found is as long as the limit, and Memory only if the history
    -- found is shorter than the limit.
    pub record Received (session : ℕ) (if_at : Option ℕ) (command : Command) (v w : View (Item R P)) (receipt : Receipt) : Type 0 where
      pub found : List Entry
      pub finds : Finds v found
      pub legal : IsLegal (opening_of is first) (logged (entry (chair_number v.shares) session if_at command receipt.reply) found)
      pub sees : seen w ≡ logged (entry (chair_number v.shares) session if_at command receipt.reply) found
      pub owns : own_calls w ≡ logged (entry (chair_number v.shares) session if_at command receipt.reply) (own_calls v)
      pub replies : (command_result session if_at command (world_after (opening_of is first) found) ≡ record { world = world_after (opening_of is first) (seen w); reply = receipt.reply })
          ⊎ (receipt.reply ≡ No Memory)
      pub at : receipt.at ≡ length (seen w)
      pub full : receipt.reply ≡ No LogFull → length found ≡ (opening_of is first).limits.log
      pub room : receipt.reply ≡ No Memory → length found < (opening_of is first).limits.log
      pub shares : w.shares ≡ v.shares
      pub reported : w.reported ≡ v.reported

    -- A reading is a call that changes no history; it changes a chair's view from v to w. It finds
    -- a legal history; `says`, which is about the answer, holds of this history's length and the
    -- world after it. In w the chair has seen this history, and has the same calls as in v.
    pub record Reads (says : ℕ → World P → Type 0) (v w : View (Item R P)) : Type 0 where
      pub found : List Entry
      pub finds : Finds v found
      pub legal : IsLegal (opening_of is first) found
      pub answers : says (length found) (world_after (opening_of is first) found)
      pub sees : seen w ≡ found
      pub calls : w.calls ≡ v.calls
      pub shares : w.shares ≡ v.shares
      pub reported : w.reported ≡ v.reported

    -- a look is a reading: it answers from the world after the history that it finds, and reports
    -- that history's length
    abbrev pub Looked : Query → View (Item R P) → View (Item R P) → Answer → Type 0
    Looked query v w answer = Reads (λ n world. (answer.at ≡ n) × IsAnswer world query answer.result) v w

    -- a save is a reading: it describes by limbs the branches of the world after the history that
    -- it finds, and reports that history's length; or it is refused, and the refusal is Memory
    abbrev pub SavedFrom : View (Item R P) → View (Item R P) → Result Saved Refusal → Type 0
    SavedFrom v w result = Reads (λ n world. IsSaving n world result) v w

    -- A fill changes a chair's view from v to w. First a reading, which leads from v to a view u,
    -- finds out whether the branch is there. From u to w the chair keeps its shares and the history
    -- that it has seen, and makes no call.
    abbrev pub Filled : List ℕ → View (Item R P) → View (Item R P) → Result Report Refusal → Type 0
    Filled branch v w result = (u : View (Item R P)) × Reads (λ n world. NeedsBranch branch world result) v u × KeepsSeen u w
