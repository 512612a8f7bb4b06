-- What a book's calls do to the list of its journal.
use Rattle.std.proofs.Common.{◌≡◌, ◌⊎◌, ℕ, ◌<◌, ◌≤◌, Bool, true, false, cond, nat_le, List, [], ◌∷◌, ◌++◌, length, Option, Some, Result, Ok, Err, IsOk, IfOk, OnOk, IfErr, IsSome, refl, sym, ap, subst, ◌∙◌, arith, inl, inr}
use Rattle.std.proofs.lemmas.Bool.Decides.{nat_tests}
use Rattle.std.specs.Result.{IsErrAnd}
use Rattle.frames.specs.Behaviour.{Behaviour}
use Rattle.schedule_trie.specs.declared.refusal.Refusal.{Refusal}
use Rattle.schedule_trie.specs.declared.refusal.Refusal.TheVariants.{LogFull, Memory}
use Rattle.schedule_trie.specs.Trie.{forest, query_refusal}
use Rattle.schedule_trie.specs.Forest.{IsRefused, index_of}
use Rattle.pages.specs.declared.page.Page.{Page}
use Rattle.pages.specs.declared.query.Query.{Query}
use Rattle.views.specs.Slips.{Slipped}
use Rattle.pages.specs.Strays.{IsRegularOrAtomic, ShowsNoStray}
use Rattle.sessions.specs.declared.command.Command.{Command}
use Rattle.sessions.specs.declared.log.Entry.{Entry}
use Rattle.sessions.specs.declared.reply.Reply.TheVariants.{No}
use Rattle.sessions.specs.World.{World}
use Rattle.sessions.specs.Acts.{command_result, is_full}
use Rattle.sessions.specs.Looks.{looked_in, shown_in}
use Rattle.sessions.specs.Books.{BookOf, IsLegalBook, ActsOnBook, RefusesMemoryLast, LacksMemory, opening_of, world_of}
use Rattle.sessions.specs.Logs.{IsLegal, entry, logged, is_logged, world_after}
use Rattle.turn.specs.Entries.{AtMostOne}
use Rattle.sessions.proofs.LoggedReplies.{acted_logged, acted_full}
use Rattle.sessions.proofs.SameStart.{tower_after}
use Rattle.desk.specs.declared.receipt.Receipt.{Receipt}
use Rattle.desk.specs.declared.item.Item.{Item}
use Rattle.desk.specs.declared.item.Item.TheVariants.{Call}
use Rattle.desk.specs.Items.{made_under, as_items, items}
use Rattle.desk.specs.declared.receipt.Saved.{Saved}
use Rattle.desk.specs.Works.{IsAct, IsReading, IsLook, IsAnswer, ShowsNoStrayOf, answer_by, IsPaged, IsSaving, NeedsBranch}
use Rattle.desk.proofs.Lists.{items_more}
use Rattle.desk.proofs.Logged.{logged_if, logged_last}

-- a journal's book: it has the same opening as the first book, and its log gives the journal's list
pub record IsJournalBook {R P : Type 0} (is : R → Behaviour P) (first old : BookOf R P) (before : List (Item R P)) : Type 0 where
  pub opened : opening_of is old ≡ opening_of is first
  pub listed : items first old.log ≡ before

-- the book that is taken out of a journal is the journal's book
pub taken_book : {R P : Type 0} (is : R → Behaviour P) (first : BookOf R P) {old value : BookOf R P} {before : List (Item R P)} → old ≡ value
    → opening_of is value ≡ opening_of is first → items first value.log ≡ before → IsJournalBook is first old before
taken_book is first same opened listed = record { opened = ap (opening_of is) same ∙ opened; listed = ap (λ h. items first h.log) same ∙ listed }

-- a ≤ b if the test of it is true
le_from_true : (a b : ℕ) (t : Bool) → nat_le a b ≡ t → t ≡ true → a ≤ b
le_from_true a b t e f = grind (arith, e, f)

-- a look's slip, or its refusal, is an answer to the query
pub answer_of : {R P : Type 0} (w : World P) (query : Query) (r : Result (Slipped R) Refusal) → IfOk r (λ slip. Some slip.page ≡ shown_in w query) → OnOk r (looked_in w query ≡ Ok w.forest)
    → IfErr r (IsRefused (looked_in w query)) → IsAnswer w query (answer_by r)
answer_of w query (Ok slip) shown found refused = (found, shown)
answer_of w query (Err e) shown found refused = refused

-- if a slip's page shows no stray read, the look's answer shows none
answer_no_stray : {R : Type 0} (r : Result (Slipped R) Refusal) → IfOk r (λ slip. ShowsNoStray slip.page) → IfOk (answer_by r) ShowsNoStray
answer_no_stray (Ok slip) h = h
answer_no_stray (Err e) h = tt

-- a save is refused only as Memory
pub save_refused_as_memory : {P : Type 0} (n : ℕ) (w : World P) (r : Result Saved Refusal) (Is : Refusal → Type 0) → IsErrAnd r Is → ((x : Refusal) → Is x → x ≡ Memory) → IsSaving n w r
save_refused_as_memory n w (Ok saved) Is k same = absurd k
save_refused_as_memory n w (Err x) Is k same = same x k

-- a result that is Ok only if the branch is there, and else has the error that `query_refusal`
-- gives, is as `NeedsBranch` says
needs_branch : {P A : Type 0} (w : World P) (branch : List ℕ) (r : Result A Refusal) → OnOk r (IsSome (index_of w.forest.branches branch))
    → IfErr r (λ e. query_refusal (index_of w.forest.branches branch) ≡ e) → NeedsBranch branch w r
needs_branch w branch (Ok x) found refused = found
needs_branch w branch (Err e) found refused = refused

-- if a look's slip gives the answer, so does the page that is made of it
pub page_answers : {P : Type 0} (w : World P) (query : Query) (slip result : Result Page Refusal) → IsPaged slip result → IsAnswer w query slip → IsAnswer w query result
page_answers w query (Ok page) result (inl e) a = subst (IsAnswer w query) (sym e) a
page_answers w query (Ok page) result (inr e) a = subst (IsAnswer w query) (sym e) (inr (refl, subst IsOk (sym a.0) refl))
page_answers w query (Err r) result e a = subst (IsAnswer w query) (sym e) a

-- if a look's answer shows no stray read, what results from making its page shows none
pub paged_no_stray : (slip result : Result Page Refusal) → IsPaged slip result → IfOk slip ShowsNoStray → IfOk result ShowsNoStray
paged_no_stray (Ok page) result (inl e) h = subst (λ r. IfOk r ShowsNoStray) (sym e) h
paged_no_stray (Ok page) result (inr e) h = subst (λ r. IfOk r ShowsNoStray) (sym e) tt
paged_no_stray (Err r) result e h = subst (λ r. IfOk r ShowsNoStray) (sym e) tt

module _ {R P : Type 0} (is : R → Behaviour P) where
  -- if the reply is LogFull, the log is as long as its limit
  module _ (old new : BookOf R P) (session : ℕ) (if_at : Option ℕ) (command : Command) (held : IsLegalBook is new) (same_log : new.log ≡ old.log)
      (acts : command_result session if_at command (world_of is old.now) ≡ record { world = world_of is new.now; reply = No LogFull }) where
    full_log_by : (t : Bool) → is_full (world_of is old.now) ≡ t → length old.log ≡ new.now.limits.log
    full_log_by true full =
        let same : world_of is old.now ≡ world_of is new.now = ap (λ a. a.world) (sym (acted_full session (world_of is old.now) if_at command full) ∙ acts) in
        let most : new.now.limits.log ≤ new.now.logged = le_from_true new.now.limits.log new.now.logged (is_full (world_of is new.now)) refl (ap is_full (sym same) ∙ full) in
        let few = held.few in
        let count : length old.log ≡ new.now.logged = ap length (sym same_log) ∙ held.count in
        omega arith
    full_log_by false room =
        let in_log = (acted_logged session (world_of is old.now) if_at command room).0 in
        let none : false ≡ true = ap (λ a. is_logged a.reply) (sym acts) ∙ in_log in
        absurd (cc)

    pub full_log : length old.log ≡ new.now.limits.log
    full_log = full_log_by (is_full (world_of is old.now)) refl

  -- if the log isn't full, `command_result` never gives the reply Memory; and if log and world stay
  -- the same, the log is shorter than its limit
  module _ (old new : BookOf R P) (room : is_full (world_of is old.now) ≡ false) where
    never_out_of_memory : (session : ℕ) (if_at : Option ℕ) (command : Command) → command_result session if_at command (world_of is old.now) ≡ record { world = world_of is new.now; reply = No Memory } → ⊥
    never_out_of_memory session if_at command acts =
        let clash : false ≡ true = ap (λ a. is_logged a.reply) (sym acts) ∙ (acted_logged session (world_of is old.now) if_at command room).0 in
        cc

    log_below_limit : IsLegalBook is new → world_of is new.now ≡ world_of is old.now → new.log ≡ old.log → length old.log < new.now.limits.log
    log_below_limit held same same_log =
        let few = below new.now.limits.log new.now.logged (ap is_full same ∙ room) in
        let count : length old.log ≡ new.now.logged = ap length (sym same_log) ∙ held.count in
        omega arith
      where
        below : (most count : ℕ) → nat_le most count ≡ false → count < most
        below most count h = grind (arith, nat_tests)

  module _ (first old new : BookOf R P) {before : List (Item R P)} (book : IsJournalBook is first old before) (same : opening_of is new ≡ opening_of is old) (held : IsLegalBook is new) where
    module _ (chair session : ℕ) (if_at : Option ℕ) (command : Command) (receipt : Receipt) where
      call : Entry
      call = entry chair session if_at command receipt.reply

      logged_by_act : ActsOnBook is old new call ⊎ LacksMemory is old new receipt.reply → new.log ≡ logged call old.log
      unfolding call
      logged_by_act (inl a) = a.logs
      logged_by_act (inr w) = w.log ∙ ap (λ r. cond (is_logged r) (old.log ++ call ∷ []) old.log) (sym w.replies)

      log_at_limit : ActsOnBook is old new call ⊎ LacksMemory is old new receipt.reply → receipt.reply ≡ No LogFull → length old.log ≡ (opening_of is first).limits.log
      unfolding call
      log_at_limit (inl a) is_log_full =
          let same_log : new.log ≡ old.log = a.logs ∙ ap (λ r. cond (is_logged r) (old.log ++ call ∷ []) old.log) is_log_full in
          full_log old new session if_at command held same_log (a.acts ∙ ap (λ r. record { world = world_of is new.now; reply = r }) is_log_full)
          ∙ ap (λ w. w.limits.log) (same ∙ book.opened)
      log_at_limit (inr w) is_log_full = absurd (let clash : No Memory ≡ No LogFull = sym w.replies ∙ is_log_full in cc)

      log_below_limit_if_memory : ActsOnBook is old new call ⊎ LacksMemory is old new receipt.reply → RefusesMemoryLast is old session if_at command receipt.reply
          → receipt.reply ≡ No Memory → length old.log < (opening_of is first).limits.log
      unfolding call
      log_below_limit_if_memory (inl a) last no_memory =
          absurd (never_out_of_memory old new (last no_memory).first session if_at command (a.acts ∙ ap (λ r. record { world = world_of is new.now; reply = r }) no_memory))
      log_below_limit_if_memory (inr w) last no_memory =
          subst (λ (o : World P). length old.log < o.limits.log) (same ∙ book.opened) (log_below_limit old new (last no_memory).first held w.world w.log)

      -- what a book does with a command is, for its journal, work as `IsAct` says
      pub act_for_journal : ActsOnBook is old new (entry chair session if_at command receipt.reply) ⊎ LacksMemory is old new receipt.reply
          → RefusesMemoryLast is old session if_at command receipt.reply → receipt.at ≡ length new.log
          → IsAct is session if_at command before (items first new.log) receipt
      unfolding call
      act_for_journal did last at =
          let more = logged_by_act did in
          record {
            first = first;
            found = old.log;
            chair = chair;
            finds = sym book.listed;
            leaves = ap (items first) more;
            legal = subst (λ l. IsLegal (opening_of is first) l) more (subst (λ w. IsLegal w new.log) (same ∙ book.opened) held.legal);
            at = at ∙ ap length more;
            full = log_at_limit did;
            room = log_below_limit_if_memory did last;
          }

      -- the call is added to the list, or nothing is
      pub adds_at_most_one : ActsOnBook is old new (entry chair session if_at command receipt.reply) ⊎ LacksMemory is old new receipt.reply
          → (added : List (Item R P)) × (items first new.log ≡ before ++ added) × AtMostOne made_under chair added
      unfolding call
      adds_at_most_one did = (
        as_items (logged call []),
        ap (items first) (logged_by_act did ∙ logged_last call old.log) ∙ items_more first old.log (logged call []) ∙ ap (λ l. l ++ as_items (logged call [])) book.listed,
        one_at_most (is_logged call.reply),
      )
        where
          one_at_most : (t : Bool) → AtMostOne made_under chair (as_items {R = R} {P = P} (logged_if t call []))
          one_at_most true = inr (Call call, refl, refl)
          one_at_most false = inl refl

    -- work that changes neither world nor log answers from the history that it found
    pub reading_for_journal : (says : ℕ → World P → Type 0) → world_of is new.now ≡ world_of is old.now → new.log ≡ old.log → says (length old.log) (world_of is old.now)
        → IsReading is says before (items first new.log)
    reading_for_journal says world log said =
        let here : world_of is old.now ≡ world_after (opening_of is first) old.log =
        sym world ∙ (held.after ∙ (ap (λ w. world_after w new.log) (same ∙ book.opened) ∙ ap (world_after (opening_of is first)) log)) in
        record {
          first = first;
          found = old.log;
          finds = sym book.listed;
          leaves = ap (items first) log ∙ book.listed;
          legal = subst (λ l. IsLegal (opening_of is first) l) log (subst (λ w. IsLegal w new.log) (same ∙ book.opened) held.legal);
          answers = subst (says (length old.log)) here said;
        }

    abbrev world_found : World P
    world_found = world_after (opening_of is old) old.log

    -- what a book does for a look is, for its journal, work as `IsLook` says
    pub look_for_journal : (query : Query) (at : ℕ) (r : Result (Slipped R) Refusal) → IfOk r (λ slip. Some slip.page ≡ shown_in world_found query)
        → OnOk r (looked_in world_found query ≡ Ok world_found.forest) → IfErr r (IsRefused (looked_in world_found query))
        → (IsRegularOrAtomic (opening_of is old).tower → IfOk r (λ slip. ShowsNoStray slip.page))
        → world_of is new.now ≡ world_of is old.now → new.log ≡ old.log → at ≡ length new.log
        → IsLook is query before (items first new.log) at (answer_by r)
    look_for_journal query at r shown found refused never world log is_at =
        let here : world_of is old.now ≡ world_found =
        sym world ∙ (held.after ∙ (ap (λ w. world_after w new.log) same ∙ ap (world_after (opening_of is old)) log)) in
        let answers : IsAnswer (world_of is old.now) query (answer_by r) = subst (λ w. IsAnswer w query (answer_by r)) (sym here) (answer_of world_found query r shown found refused) in
        let strays : ShowsNoStrayOf (world_of is old.now) (answer_by r) =
        λ lawful. answer_no_stray r (never (subst IsRegularOrAtomic (ap (λ w. w.tower) here ∙ tower_after (opening_of is old) old.log) lawful)) in
        reading_for_journal (λ n w. (at ≡ n) × IsAnswer w query (answer_by r) × ShowsNoStrayOf w (answer_by r)) world log (is_at ∙ ap length log, answers, strays)

  -- work that doesn't change the book answers from the history that it found
  module _ (first old : BookOf R P) {before : List (Item R P)} (book : IsJournalBook is first old before) (held : IsLegalBook is old) where
    pub unchanged_for_journal : (says : ℕ → World P → Type 0) → says (length old.log) (world_of is old.now) → IsReading is says before before
    unchanged_for_journal says said = subst (λ l. IsReading is says before l) book.listed (reading_for_journal first old old book refl held says refl refl said)

    pub plan_for_journal : {A : Type 0} (branch : List ℕ) (r : Result A Refusal) → OnOk r (IsSome (index_of (forest old.now.chart.trie).branches branch))
        → IfErr r (λ e. query_refusal (index_of (forest old.now.chart.trie).branches branch) ≡ e) → IsReading is (λ n w. NeedsBranch branch w r) before before
    plan_for_journal branch r found refused = unchanged_for_journal (λ n w. NeedsBranch branch w r) (needs_branch (world_of is old.now) branch r found refused)
