-- The work that a chair does while it has a desk's turn: what each kind of work guarantees of its
-- answer, and of the journal's list before and after the work.
use Rattle.std.specs.Prelude.{ℕ, ◌<◌, ◌≡◌, ◌⊎◌, List, Option, Some, IsSome, Result, Ok, Err, IfOk, length}
use Rattle.frames.specs.Behaviour.{Behaviour}
use Rattle.schedule_trie.specs.declared.refusal.Refusal.{Refusal}
use Rattle.schedule_trie.specs.declared.refusal.Refusal.TheVariants.{LogFull, Memory}
use Rattle.schedule_trie.specs.Trie.{query_refusal}
use Rattle.schedule_trie.specs.Forest.{IsRefused, index_of}
use Rattle.pages.specs.declared.page.Page.{Page}
use Rattle.pages.specs.declared.query.Query.{Query}
use Rattle.views.specs.Slips.{Slipped}
use Rattle.pages.specs.Strays.{IsRegularOrAtomic, ShowsNoStray}
use Rattle.sessions.specs.declared.command.Command.{Command}
use Rattle.sessions.specs.declared.log.Entry.{Entry}
use Rattle.sessions.specs.declared.reply.Reply.TheVariants.{No}
use Rattle.sessions.specs.World.{World}
use Rattle.sessions.specs.Looks.{looked_in, shown_in}
use Rattle.sessions.specs.Saves.{IsSaved}
use Rattle.sessions.specs.Books.{BookOf, opening_of}
use Rattle.sessions.specs.Logs.{IsLegal, entry, logged, world_after}
use Rattle.desk.specs.declared.item.Item.{Item}
use Rattle.desk.specs.declared.receipt.Receipt.{Receipt}
use Rattle.desk.specs.declared.receipt.Answer.{Answer}
use Rattle.desk.specs.declared.receipt.Saved.{Saved}
use Rattle.desk.specs.Items.{items}

-- a possible answer to a look at the world w: the page that the query asks for; or why the look is
-- refused; or Memory, if there is no reason to refuse it
abbrev pub IsAnswer : {P : Type 0} → World P → Query → Result Page Refusal → Type 0
IsAnswer w query (Ok page) = (looked_in w query ≡ Ok w.forest) × (Some page ≡ shown_in w query)
IsAnswer w query (Err r) = IsRefused (looked_in w query) r

-- if the world's register is regular or atomic, and the answer is a page, then the page shows no
-- stray read
abbrev pub ShowsNoStrayOf : {P : Type 0} → World P → Result Page Refusal → Type 0
ShowsNoStrayOf w answer = IsRegularOrAtomic w.tower → IfOk answer ShowsNoStray

-- the answer that a look has determined: the page of its slip, or why the look is refused
abbrev pub answer_by : {R : Type 0} → Result (Slipped R) Refusal → Result Page Refusal
answer_by (Ok slip) = Ok slip.page
answer_by (Err r) = Err r

-- the answer of a look that found a history of length n: the page of its slip, or why it is refused
abbrev pub answer_at : {R : Type 0} → ℕ → Result (Slipped R) Refusal → Answer
answer_at n slip = record { at = n; result = answer_by slip }

-- what can result from making the page of a look: the page, or Memory; if the look was refused, the
-- same refusal
abbrev pub IsPaged : Result Page Refusal → Result Page Refusal → Type 0
IsPaged (Ok page) result = (result ≡ Ok page) ⊎ (result ≡ Err Memory)
IsPaged (Err r) result = result ≡ Err r

-- Work that needs a branch succeeds only if the branch is there. If the work is refused, the
-- refusal is Memory if the branch is there, and NoBranch if it isn't.
abbrev pub NeedsBranch : {P A : Type 0} → List ℕ → World P → Result A Refusal → Type 0
NeedsBranch branch w (Ok x) = IsSome (index_of w.forest.branches branch)
NeedsBranch branch w (Err r) = query_refusal (index_of w.forest.branches branch) ≡ r

-- a possible result of a save of the world w after n calls: limbs that describe the branches of w,
-- and n; or the refusal Memory
abbrev pub IsSaving : {P : Type 0} → ℕ → World P → Result Saved Refusal → Type 0
IsSaving n w (Ok saved) = (saved.at ≡ n) × IsSaved w saved.limbs
IsSaving n w (Err r) = r ≡ Memory

module _ {R P : Type 0} (is : R → Behaviour P) where
  -- The work of a command finds a history, and adds the call with its reply to the end, if the
  -- reply is logged. The new history is legal, and the receipt has its length. The reply is LogFull
  -- only if the history found is as long as the limit, and Memory only if that history is shorter.
  pub record IsAct (session : ℕ) (if_at : Option ℕ) (command : Command) (before after : List (Item R P)) (receipt : Receipt) : Type 0 where
    pub first : BookOf R P
    pub found : List Entry
    pub chair : ℕ
    pub finds : before ≡ items first found
    pub leaves : after ≡ items first (logged (entry chair session if_at command receipt.reply) found)
    pub legal : IsLegal (opening_of is first) (logged (entry chair session if_at command receipt.reply) found)
    pub at : receipt.at ≡ length (logged (entry chair session if_at command receipt.reply) found)
    pub full : receipt.reply ≡ No LogFull → length found ≡ (opening_of is first).limits.log
    pub room : receipt.reply ≡ No Memory → length found < (opening_of is first).limits.log

  -- Work that only reads finds a legal history, and leaves it unchanged. `says`, which is about
  -- the answer, holds of the history's length and the world after the history.
  pub record IsReading (says : ℕ → World P → Type 0) (before after : List (Item R P)) : Type 0 where
    pub first : BookOf R P
    pub found : List Entry
    pub finds : before ≡ items first found
    pub leaves : after ≡ before
    pub legal : IsLegal (opening_of is first) found
    pub answers : says (length found) (world_after (opening_of is first) found)

  -- a look only reads: it reports the history's length as `at`, and answers from the world after
  -- the history; if the register is regular or atomic, it shows no stray read
  abbrev pub IsLook : Query → List (Item R P) → List (Item R P) → ℕ → Result Page Refusal → Type 0
  IsLook query before after at answer = IsReading (λ n w. (at ≡ n) × IsAnswer w query answer × ShowsNoStrayOf w answer) before after
