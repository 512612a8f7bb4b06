-- What a chair that has every share knows from a desk's calls.
use Rattle.std.proofs.Common.{◌≡◌, ◌∙◌, ℕ, Bool, true, false, List, length, Option, Result, Ok, Err, IfOk, OnOk, IfErr, refl, sym, ap, subst, ⊎_elim}
use Rattle.std.specs.Prelude.{Some}
use Rattle.frames.specs.Behaviour.{Behaviour}
use Rattle.schedule_trie.specs.declared.refusal.Refusal.{Refusal}
use Rattle.branch_terms.specs.Forest.{IsRefused}
use Rattle.pages.specs.declared.page.Page.{Page}
use Rattle.pages.specs.declared.query.Query.{Query}
use Rattle.sessions.specs.declared.command.Command.{Command}
use Rattle.sessions.specs.declared.log.Entry.{Entry}
use Rattle.sessions.specs.World.{World}
use Rattle.sessions.specs.Acts.{CommandResult, command_result, is_full}
use Rattle.sessions.specs.Books.{BookOf, opening_of}
use Rattle.sessions.specs.Looks.{looked_in, shown_in}
use Rattle.sessions.specs.Saves.{IsSaved}
use Rattle.sessions.specs.Logs.{entry, logged, world_after}
use Rattle.turn.specs.declared.view.View.{View}
use Rattle.turn.specs.Shares.{HasAll, chair_number}
use Rattle.desk.specs.declared.item.Item.{Item}
use Rattle.desk.specs.declared.receipt.Receipt.{Receipt}
use Rattle.desk.specs.declared.receipt.Answer.{Answer}
use Rattle.desk.specs.declared.receipt.Saved.{Saved}
use Rattle.desk.specs.declared.report.Report.{Report}
use Rattle.desk.specs.Chairs.{Received, Looked, SavedFrom, Filled}
use Rattle.desk.specs.Histories.{seen}
use Rattle.desk.specs.Works.{IsAnswer, IsSaving, NeedsBranch}
use Rattle.desk.proofs.Answering.{not_full}
use Rattle.desk.proofs.Logged.{legal_found}
use Rattle.script.specs.Answers.{carried_out, without_memory}

module _ {P : Type 0} (w : World P) (query : Query) where
  -- if a look is answered by a page, it is the page that the look shows in world w
  pub shown : (r : Result Page Refusal) → IsAnswer w query r → IfOk r (λ page. Some page ≡ shown_in w query)
  shown (Ok page) a = a.1
  shown (Err r) a = tt

  -- if a look is answered by a page, the look isn't refused in world w
  pub page_found : (r : Result Page Refusal) → IsAnswer w query r → OnOk r (looked_in w query ≡ Ok w.forest)
  page_found (Ok page) a = a.0
  page_found (Err r) a = tt

  -- if a look is refused, the refusal is the one that is due in world w; or Memory, if none is due
  pub refused : (r : Result Page Refusal) → IsAnswer w query r → IfErr r (IsRefused (looked_in w query))
  refused (Ok page) a = tt
  refused (Err r) a = a

module _ {R P : Type 0} (is : R → Behaviour P) (first : BookOf R P) (v w : View (Item R P)) where
  -- a command by a chair that has every share acts on the world after the history that the chair
  -- had seen, and leaves the world after the history that the chair has then seen
  pub received_answers : (who : ℕ) (guard : Option ℕ) (command : Command) (receipt : Receipt) → Received is first who guard command v w receipt → HasAll v.shares
      → (memory : Bool) × (carried_out memory who guard command (world_after (opening_of is first) (seen v)) ≡ record { world = world_after (opening_of is first) (seen w); reply = receipt.reply })
  received_answers who guard command receipt r all =
      let same : seen v ≡ r.found = sym (r.finds.whole all) in
      let opening : World P = opening_of is first in
      rw same (⊎_elim (λ done. (false, done))
      (λ none_left.
      let call : Entry = entry (chair_number v.shares) who guard command receipt.reply in
      let room : is_full (world_after opening r.found) ≡ false = not_full opening r.found refl (legal_found opening call r.found r.legal) (r.room none_left) in
      let kept : world_after opening (seen w) ≡ world_after opening r.found =
      ap (world_after opening) (r.sees ∙ ap (λ reply. logged (entry (chair_number v.shares) who guard command reply) r.found) none_left) in
      let own : CommandResult P = command_result who guard command (world_after opening r.found) in
      (true, ap (λ full. without_memory full own (world_after opening r.found)) room ∙ (λ i. record { world = sym kept i; reply = sym none_left i }))) r.replies)

  -- a look by a chair that has every share is answered from the world after the history that the
  -- chair had seen
  pub looked_answers : (query : Query) (answer : Answer) → Looked is first query v w answer → HasAll v.shares → IsAnswer (world_after (opening_of is first) (seen v)) query answer.result
  looked_answers query answer r all = subst (λ (before : List Entry). IsAnswer (world_after (opening_of is first) before) query answer.result) (r.finds.whole all) r.answers.1

  -- a save by a chair that has every share saves the branches of the world after the history that
  -- the chair had seen
  pub saved_limbs : (result : Result Saved Refusal) → SavedFrom is first v w result → HasAll v.shares
      → IfOk result (λ saved. IsSaved (world_after (opening_of is first) (seen v)) saved.limbs)
  saved_limbs result r all = by (length r.found) result (subst (λ (before : List Entry). IsSaving (length r.found) (world_after (opening_of is first) before) result) (r.finds.whole all) r.answers)
    where
      by : (n : ℕ) (result : Result Saved Refusal) → IsSaving n (world_after (opening_of is first) (seen v)) result
          → IfOk result (λ saved. IsSaved (world_after (opening_of is first) (seen v)) saved.limbs)
      by n (Ok saved) h = h.1
      by n (Err e) h = tt

  -- a fill by a chair that has every share finds its branch in the world after the history that the
  -- chair had seen, or is refused as `NeedsBranch` says
  pub filled_answers : (branch : List ℕ) (result : Result Report Refusal) → Filled is first branch v w result → HasAll v.shares
      → NeedsBranch branch (world_after (opening_of is first) (seen v)) result
  filled_answers branch result f all = subst (λ (before : List Entry). NeedsBranch branch (world_after (opening_of is first) before) result) (f.1.finds.whole all) f.1.answers

  -- a look by a chair that has every share doesn't change the history that the chair has seen
  pub look_keeps_history : (query : Query) (answer : Answer) → Looked is first query v w answer → HasAll v.shares → seen w ≡ seen v
  look_keeps_history query answer r all = r.sees ∙ r.finds.whole all

  -- a fill doesn't change the chair's shares
  pub fill_keeps_shares : (branch : List ℕ) (result : Result Report Refusal) → Filled is first branch v w result → w.shares ≡ v.shares
  fill_keeps_shares branch result f = f.2.shares ∙ f.1.shares

  -- a fill by a chair that has every share doesn't change the history that the chair has seen
  pub fill_keeps_history : (branch : List ℕ) (result : Result Report Refusal) → Filled is first branch v w result → HasAll v.shares → seen w ≡ seen v
  fill_keeps_history branch result f all = f.2.whole (subst HasAll (sym f.1.shares) all) ∙ (f.1.sees ∙ f.1.finds.whole all)
