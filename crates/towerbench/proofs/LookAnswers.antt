-- What a look answers.
use Rattle.std.proofs.Common.{◌≡◌, ◌⊎◌, ◌++◌, ◌∙◌, ℕ, Bool, true, false, List, Some, Result, Ok, Err, OnOk, ap, sym, inl, inr}
use Rattle.std.specs.Prelude.{⊤}
use Rattle.std.specs.declared.alloc.AllocError.{AllocError}
use Rattle.schedule_trie.specs.declared.refusal.Refusal.{Refusal}
use Rattle.schedule_trie.specs.declared.refusal.Refusal.TheVariants.{Memory}
use Rattle.schedule_trie.specs.Forest.{Forest, IsRefused}
use Rattle.sessions.specs.declared.reply.Reply.TheVariants.{No}
use Rattle.sessions.specs.World.{World}
use Rattle.sessions.specs.Looks.{looked_in, shown_in}
use Rattle.pages.specs.declared.page.Page.{Page}
use Rattle.pages.specs.declared.query.Query.{Query}
use Rattle.pages.specs.Pages.{page_text}
use Rattle.script.specs.Texts.{answer_text}
use Rattle.script.specs.Answers.{look_text, shown_text, page_text_or_nothing}

-- if the text of a refusal of a look was added, the answer to the look was added
pub refusal_answered : (looked : Result Forest Refusal) (session : ℕ) (r : Refusal) (result : Result ⊤ AllocError) (before after page : List ℕ)
    → IsRefused looked r → OnOk result (after ≡ before ++ answer_text session (No r))
    → OnOk result ((memory : Bool) × (after ≡ before ++ look_text memory session looked page))
refusal_answered looked session r (Err x) before after page why pushed = tt
refusal_answered looked session r (Ok done) before after page (inl e) pushed = (false, pushed ∙ ap (λ l. before ++ look_text false session l page) (sym e))
refusal_answered (Ok f) session r (Ok done) before after page (inr h) pushed = (true, pushed ∙ ap (λ x. before ++ answer_text session (No x)) h.0)
refusal_answered (Err x) session r (Ok done) before after page (inr h) pushed = absurd (let clash : false ≡ true = h.1 in cc)

-- if the text of a look's page or of the refusal Memory was added, the answer to the look was added
pub page_answered : {P : Type 0} (w : World P) (query : Query) (session : ℕ) (page : Page) (result : Result ⊤ AllocError) (before after : List ℕ)
    → looked_in w query ≡ Ok w.forest → Some page ≡ shown_in w query
    → OnOk result ((after ≡ before ++ page_text session page) ⊎ (after ≡ before ++ answer_text session (No Memory)))
    → OnOk result ((memory : Bool) × (after ≡ before ++ look_text memory session (looked_in w query) (shown_text session query w)))
page_answered w query session page (Err x) before after found shown pushed = tt
page_answered w query session page (Ok done) before after found shown (inl pushed) =
    (false, pushed ∙ ap (λ o. before ++ page_text_or_nothing session o) shown ∙ ap (λ l. before ++ look_text false session l (shown_text session query w)) (sym found))
page_answered w query session page (Ok done) before after found shown (inr pushed) =
    (true, pushed ∙ ap (λ l. before ++ look_text true session l (shown_text session query w)) (sym found))
