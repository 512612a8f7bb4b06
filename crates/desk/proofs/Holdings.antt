-- What a chair learns from holding a desk's turn.
use Rattle.std.proofs.Common.{◌≡◌, ℕ, ◌<◌, ◌≤◌, List, [], ◌++◌, length, Option, Some, None, Result, Ok, Err, IsSome, IfOk, refl, sym, ap, subst, ◌∙◌, arith, append-nil, append_assoc}
use Rattle.std.proofs.lemmas.List.{append_cancel_left}
use Rattle.frames.specs.Behaviour.{Behaviour}
use Rattle.schedule_trie.specs.declared.refusal.Refusal.{Refusal}
use Rattle.schedule_trie.specs.declared.refusal.Refusal.TheVariants.{LogFull, Memory}
use Rattle.schedule_trie.specs.Trie.{query_refusal}
use Rattle.schedule_trie.specs.Forest.{index_of}
use Rattle.pages.specs.declared.page.Page.{Page}
use Rattle.pages.specs.declared.query.Query.{Query}
use Rattle.pages.specs.Strays.{IsRegularOrAtomic, ShowsNoStray}
use Rattle.turn.specs.declared.view.View.{View}
use Rattle.turn.specs.Shares.{HasAll, chair_number}
use Rattle.turn.specs.Histories.{StartsWith, Holding}
use Rattle.sessions.specs.declared.command.Command.{Command}
use Rattle.sessions.specs.declared.log.Entry.{Entry}
use Rattle.sessions.specs.declared.reply.Reply.TheVariants.{No}
use Rattle.sessions.specs.World.{World}
use Rattle.sessions.specs.Books.{BookOf, opening_of}
use Rattle.sessions.specs.Logs.{IsLegal, entry, is_logged, logged, world_after}
use Rattle.sessions.proofs.SameStart.{tower_after}
use Rattle.desk.specs.declared.item.Item.{Item}
use Rattle.desk.specs.declared.receipt.Receipt.{Receipt}
use Rattle.desk.specs.declared.report.Report.{Report}
use Rattle.desk.specs.Items.{made_under, calls_in, items}
use Rattle.desk.specs.Histories.{IsHistory, seen, own_calls}
use Rattle.desk.specs.Works.{IsAct, IsReading, IsLook, IsAnswer, ShowsNoStrayOf, IsPaged, NeedsBranch}
use Rattle.desk.specs.Chairs.{Finds, KeepsSeen, Received, Reads, Looked, Filled}
use Rattle.desk.proofs.Lists.{calls_in_as_items, calls_append, length_items, same_first, calls_begin}
use Rattle.desk.proofs.Works.{page_answers}
use Rattle.desk.proofs.Logged.{logged_if, logged_under, legal_found, logged_last}
use Rattle.desk.proofs.Answering.{reply_or_memory}

module _ {R P : Type 0} (is : R → Behaviour P) (first : BookOf R P) (v w : View (Item R P)) where
  -- a chair that finds the list `before` finds the calls in it, as `Finds` says
  finds_calls : (before : List (Item R P)) (found : List Entry) → StartsWith before v.seen → v.reported ≤ length before → (HasAll v.shares → before ≡ v.seen) → before ≡ items first found → Finds v found
  finds_calls before found starts not_fewer whole is_found =
      let long = ap length is_found ∙ length_items first found in
      record {
        begins = calls_begin first found v.seen (subst (λ l. StartsWith l v.seen) is_found starts);
        whole = λ all. sym (calls_in_as_items R P found) ∙ ap calls_in (sym is_found ∙ whole all);
        reported = omega arith;
      }

  -- a list of the opening and of calls that are legal from there is a history
  is_history : (list : List (Item R P)) (calls : List Entry) → list ≡ items first calls → IsLegal (opening_of is first) calls → IsHistory is first list
  is_history list calls is_list legal =
      let same : calls_in list ≡ calls = ap calls_in is_list ∙ calls_in_as_items R P calls in
      record { whole = is_list ∙ ap (items first) (sym same); legal = subst (IsLegal (opening_of is first)) (sym same) legal }

  module _ (session : ℕ) (if_at : Option ℕ) (command : Command) (receipt : Receipt) where
    -- a chair that did the work of a command received its reply, as `Received` says
    pub received : IsHistory is first v.seen → Holding made_under (λ before after. IsAct is session if_at command before after receipt) v w
        → Received is first session if_at command v w receipt × IsHistory is first w.seen
    received h (before, added, starts, not_fewer, one, after, act, whole) =
        let found = act.found in
        let one_first : first ≡ act.first = same_first first act.first (calls_in v.seen) found v.seen h.whole (subst (λ l. StartsWith l v.seen) act.finds starts) in
        let is_found : before ≡ items first found = act.finds ∙ ap (λ o. items o found) (sym one_first) in
        let call : ℕ → Entry = λ k. entry k session if_at command receipt.reply in
        let n = chair_number v.shares in
        let t = is_logged receipt.reply in
        let put_is : items first found ++ added ≡ items first (logged_if t (call act.chair) found) =
        ap (λ l. l ++ added) (sym is_found) ∙ (act.leaves ∙ ap (λ o. items o (logged (call act.chair) found)) (sym one_first)) in
        let both = logged_under t first found call act.chair n added (λ k. refl) put_is one in
        let list : w.seen ≡ items first (logged (call n) found) =
        ap (λ x. x.seen) after ∙ (act.leaves ∙ (ap (λ o. items o (logged (call act.chair) found)) (sym one_first) ∙ ap (items first) both.1)) in
        let sees : seen w ≡ logged (call n) found = ap calls_in list ∙ calls_in_as_items R P (logged (call n) found) in
        let legal : IsLegal (opening_of is first) (logged (call n) found) =
        subst (λ o. IsLegal (opening_of is o) (logged (call n) found)) (sym one_first) (subst (IsLegal (opening_of is act.first)) both.1 act.legal) in
        let full : receipt.reply ≡ No LogFull → length found ≡ (opening_of is first).limits.log = λ e. act.full e ∙ ap (λ o. (opening_of is o).limits.log) (sym one_first) in
        let room : receipt.reply ≡ No Memory → length found < (opening_of is first).limits.log = λ e. subst (λ o. length found < (opening_of is o).limits.log) (sym one_first) (act.room e) in (
          record {
            found = found;
            finds = finds_calls before found starts not_fewer whole is_found;
            legal = legal;
            sees = sees;
            owns = ap (λ x. own_calls x) after ∙ (calls_append v.calls added ∙ (ap (λ l. own_calls v ++ calls_in l) both.0 ∙ (ap (λ l. own_calls v ++ l) (calls_in_as_items R P (logged (call n) [])) ∙ sym (logged_last (call n) (own_calls v)))));
            replies = reply_or_memory (opening_of is first) n session if_at command found refl receipt.reply (seen w) sees (legal_found (opening_of is first) (call n) found legal) legal full;
            at = act.at ∙ (ap length both.1 ∙ ap length (sym sees));
            full = full;
            room = room;
            shares = ap (λ x. x.shares) after;
            reported = ap (λ x. x.reported) after;
          },
          is_history w.seen (logged (call n) found) list legal,
        )

  module _ (says : ℕ → World P → Type 0) where
    -- a chair that did work that only reads made a reading, as `Reads` says
    pub made_reading : IsHistory is first v.seen → Holding made_under (λ before after. IsReading is says before after) v w → Reads is first says v w × IsHistory is first w.seen
    made_reading h (before, added, starts, not_fewer, one, after, reading, whole) =
        let found = reading.found in
        let one_first : first ≡ reading.first = same_first first reading.first (calls_in v.seen) found v.seen h.whole (subst (λ l. StartsWith l v.seen) reading.finds starts) in
        let is_found : before ≡ items first found = reading.finds ∙ ap (λ o. items o found) (sym one_first) in
        let nothing : added ≡ [] = append_cancel_left before added [] (reading.leaves ∙ sym (append-nil before)) in
        let list : w.seen ≡ items first found = ap (λ x. x.seen) after ∙ (reading.leaves ∙ is_found) in
        let sees : seen w ≡ found = ap calls_in list ∙ calls_in_as_items R P found in
        let legal : IsLegal (opening_of is first) found = subst (λ o. IsLegal (opening_of is o) found) (sym one_first) reading.legal in (
          record {
            found = found;
            finds = finds_calls before found starts not_fewer whole is_found;
            legal = legal;
            answers = subst (λ o. says (length found) (world_after (opening_of is o) found)) (sym one_first) reading.answers;
            sees = sees;
            calls = ap (λ x. x.calls) after ∙ (ap (λ l. v.calls ++ l) nothing ∙ append-nil v.calls);
            shares = ap (λ x. x.shares) after;
            reported = ap (λ x. x.reported) after;
          },
          is_history w.seen found list legal,
        )

    -- what `says` implies also holds of a reading's answer
    reads_weaker : (more : ℕ → World P → Type 0) → ((n : ℕ) (world : World P) → says n world → more n world) → Reads is first says v w → Reads is first more v w
    reads_weaker more on r = record {
      found = r.found;
      finds = r.finds;
      legal = r.legal;
      answers = on (length r.found) (world_after (opening_of is first) r.found) r.answers;
      sees = r.sees;
      calls = r.calls;
      shares = r.shares;
      reported = r.reported;
    }

    -- a reading keeps what the chair had seen
    pub reading_keeps_seen : Reads is first says v w → KeepsSeen v w
    reading_keeps_seen r = record {
      begins = subst (λ l. StartsWith l (seen v)) (sym r.sees) r.finds.begins;
      whole = λ all. r.sees ∙ r.finds.whole all;
      calls = r.calls;
      shares = r.shares;
      reported = r.reported;
    }

  module _ (query : Query) (at : ℕ) (slip : Result Page Refusal) (h : IsHistory is first v.seen) (held : Holding made_under (λ before after. IsLook is query before after at slip) v w) where
    abbrev looked_without_stray : ℕ → World P → Type 0
    looked_without_stray n world = (at ≡ n) × IsAnswer world query slip × ShowsNoStrayOf world slip

    pub made_look : Looked is first query v w (record { at = at; result = slip }) × IsHistory is first w.seen
    made_look =
        let reads = made_reading looked_without_stray h held in
        (reads_weaker looked_without_stray (λ n world. (at ≡ n) × IsAnswer world query slip) (λ n world said. (said.0, said.1)) reads.0, reads.1)

    pub look_no_stray : IsRegularOrAtomic (opening_of is first).tower → IfOk slip ShowsNoStray
    look_no_stray lawful =
        let reads = (made_reading looked_without_stray h held).0 in
        reads.answers.2 (subst IsRegularOrAtomic (sym (tower_after (opening_of is first) reads.found)) lawful)

  -- if a look has determined an answer, what results from making its page answers the look, too
  pub look_with_page : (query : Query) (at : ℕ) (slip result : Result Page Refusal) → IsPaged slip result → Looked is first query v w (record { at = at; result = slip })
      → Looked is first query v w (record { at = at; result = result })
  look_with_page query at slip result paged =
      reads_weaker (λ n world. (at ≡ n) × IsAnswer world query slip) (λ n world. (at ≡ n) × IsAnswer world query result) (λ n world said. (said.0, page_answers world query slip result paged said.1))

-- a fill is a reading that needs the branch, after which the chair keeps what it has seen
pub fill_after_reading : {R P A : Type 0} (is : R → Behaviour P) (first : BookOf R P) (v u w : View (Item R P)) (branch : List ℕ) (planned : Result A Refusal) (result : Result Report Refusal)
    → ((world : World P) → NeedsBranch branch world planned → NeedsBranch branch world result) → Reads is first (λ n world. NeedsBranch branch world planned) v u → KeepsSeen u w
    → Filled is first branch v w result
fill_after_reading is first v u w branch planned result on reads stays =
    (u, reads_weaker is first v u (λ n world. NeedsBranch branch world planned) (λ n world. NeedsBranch branch world result) (λ n world. on world) reads, stays)

-- work that needs a branch may be refused as Memory if the branch is there
pub memory_if_there : {P A : Type 0} (B : Type 0) (world : World P) (branch : List ℕ) (x : A) → NeedsBranch {A = A} branch world (Ok x) → NeedsBranch {A = B} branch world (Err Memory)
memory_if_there B world branch x there = by (index_of world.forest.branches branch) there
  where
    by : (found : Option ℕ) → IsSome found → query_refusal found ≡ Memory
    by (Some i) there = refl
    by None there = absurd (cc)

module _ {R P : Type 0} where
  pub keeps_seen_refl : (v : View (Item R P)) → KeepsSeen v v
  keeps_seen_refl v = record { begins = ([], append-nil (seen v)); whole = λ all. refl; calls = refl; shares = refl; reported = refl }

  pub keeps_seen_trans : (u v w : View (Item R P)) → KeepsSeen u v → KeepsSeen v w → KeepsSeen u w
  keeps_seen_trans u v w a b = record {
    begins = (
      a.begins.0 ++ b.begins.0,
      sym (append_assoc (seen u) a.begins.0 b.begins.0) ∙ (ap (λ l. l ++ b.begins.0) a.begins.1 ∙ b.begins.1),
    );
    whole = λ all. b.whole (subst HasAll (sym a.shares) all) ∙ a.whole all;
    calls = b.calls ∙ a.calls;
    shares = b.shares ∙ a.shares;
    reported = b.reported ∙ a.reported;
  }

-- a chair that kept what it had seen still keeps it after a reading
pub keeps_seen_then_reads : {R P : Type 0} (is : R → Behaviour P) (first : BookOf R P) (u v w : View (Item R P)) (says : ℕ → World P → Type 0) → KeepsSeen u v → Reads is first says v w → KeepsSeen u w
keeps_seen_then_reads is first u v w says stays reads = keeps_seen_trans u v w stays (reading_keeps_seen is first v w says reads)
