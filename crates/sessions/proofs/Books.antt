-- What a book is after a command.
use Rattle.std.proofs.Common.{◌≡◌, ℕ, ◌+◌, ◌<◌, true, false, [], ◌∷◌, ◌++◌, Option, cond, length, refl, sym, ap, subst, ◌∙◌, arith}
use Rattle.std.proofs.lemmas.List.{length_push}
use Rattle.frames.specs.Behaviour.{Behaviour}
use Rattle.schedule_trie.specs.Trie.{forest}
use Rattle.schedule_trie.specs.Forest.{IsForest, AreNamedApart}
use Rattle.sessions.specs.declared.command.Command.{Command}
use Rattle.sessions.specs.declared.log.Entry.{Entry}
use Rattle.sessions.specs.declared.reply.Reply.TheVariants.{No}
use Rattle.schedule_trie.specs.declared.refusal.Refusal.TheVariants.{Memory}
use Rattle.sessions.specs.World.{opening}
use Rattle.sessions.specs.Acts.{command_result, is_full, with_one_logged}
use Rattle.sessions.specs.Logs.{IsLegal, is_logged, world_after, acted_by}
use Rattle.sessions.specs.Books.{BookOf, IsBook, IsLawfulWorld, HasNoRefusal, ActsOnBook, book_of, opening_of, opening_over, stored, world_of}
use Rattle.sessions.specs.declared.workspace.Workspace.{Workspace}
use Rattle.std.specs.Global.{Vec}
use Rattle.std.proofs.lemmas.Bool.{leb-false, lt-leb}
use Rattle.cutoff.specs.Charts.{Charted}
use Rattle.sessions.proofs.LegalLogs.{legal_more, world_after_more}
use Rattle.sessions.proofs.LoggedReplies.{acted_logged, never_memory}
use Rattle.sessions.proofs.Sound.{command_sound}

-- a book keeps the chart that it opened with, and its world: so its opening stays the same; and if
-- its log does too, the book still has what its type guarantees
module _ {R P : Type 0} (is : R → Behaviour P) (old new : BookOf R P) (is_first : new.first ≡ old.first) (is_world : world_of is new.now ≡ world_of is old.now) where
  pub same_opening : opening_of is new ≡ opening_of is old
  same_opening = λ i. opening (is (is_first i).start.register) (is_first i).value (is_world i).limits (forest (is_first i).trie)

  pub book_same : (limit : ℕ) → new.log ≡ old.log → IsBook is limit old → IsBook is limit new
  book_same limit is_log b =
      let h = b.held in
      let logged : new.now.logged ≡ old.now.logged = ap (λ w. w.logged) is_world in
      let most = ap (λ w. w.limits.log) is_world in
      record {
        held = record {
          legal = rw (same_opening, is_log) h.legal;
          after = is_world ∙ h.after ∙ λ i. world_after (sym same_opening i) (sym is_log i);
          count = ap length is_log ∙ h.count ∙ sym logged;
          few = omega (arith, logged, most, h.few);
          most_log = omega (arith, most, h.most_log);
        };
        sound = subst IsLawfulWorld (sym is_world) b.sound;
        same_limit = most ∙ b.same_limit;
      }

-- if two books are equal, the length of one's log is also that of the other's
pub log_count : {R P : Type 0} {book model : BookOf R P} {n : ℕ} → book ≡ model → n ≡ length model.log → n ≡ length book.log
log_count is count = count ∙ ap (λ b. length b.log) (sym is)

-- a book whose log isn't full, before a command; `len` is the log's length, and `reserved` the log
-- once memory for one more entry is reserved
module _ {R P : Type 0} (is : R → Behaviour P) (first : Charted R P) (s t : Workspace R P) (log reserved : Vec Entry) (limit len : ℕ)
    (b : IsBook is limit (book_of first s log)) (count : len ≡ length log.items) (less : len < limit) (kept : reserved.items ≡ log.items) where
  abbrev old : BookOf R P
  old = book_of first s log

  pub log_not_full : is_full (world_of is old.now) ≡ false
  log_not_full = let most = b.same_limit in lt-leb s.chart.trie.limits.log (length log.items) (omega (arith, most, count, less))

  -- memory runs out for a command: the opening stays the same, and the book's invariant holds
  module _ (who : ℕ) (guard : Option ℕ) (c : Command) (has : (n : ℕ) → is_full (world_of is (stored s n)) ≡ false → HasNoRefusal who guard c (world_of is (stored s n)) × (world_of is (stored t n) ≡ world_of is (stored s n))) where
    world_kept : world_of is (stored t (length reserved.items)) ≡ world_of is old.now
    world_kept = ap (λ l. world_of is (stored t (length l))) kept ∙ (has (length log.items) log_not_full).1

    pub opening_kept : opening_of is (book_of first t reserved) ≡ opening_of is old
    opening_kept = same_opening is old (book_of first t reserved) refl world_kept

    pub book_kept : IsBook is limit (book_of first t reserved)
    book_kept = book_same is old (book_of first t reserved) refl world_kept limit kept b

  -- the command is answered, and the entry e is added to the log
  module _ (more : Vec Entry) (e made : Entry) (is_made : made ≡ e) (pushed : more.items ≡ reserved.items ++ made ∷ [])
      (has : (n : ℕ) → is_full (world_of is (stored s n)) ≡ false → command_result e.who e.if_at e.command (world_of is (stored s n)) ≡ record { world = with_one_logged (world_of is (stored t n)); reply = e.reply }) where
    abbrev new : BookOf R P
    new = book_of first t more

    log_after : more.items ≡ log.items ++ e ∷ []
    log_after = pushed ∙ λ i. kept i ++ is_made i ∷ []

    length_log_after : length more.items ≡ length log.items + 1
    length_log_after = ap length log_after ∙ length_push log.items e

    acts : command_result e.who e.if_at e.command (world_of is old.now) ≡ record { world = world_of is new.now; reply = e.reply }
    acts = has (length log.items) log_not_full ∙ λ i. record { world = world_of is (stored t (sym length_log_after i)); reply = e.reply }

    in_log : is_logged e.reply ≡ true
    in_log = ap (λ a. is_logged a.reply) (sym acts) ∙ (acted_logged e.who (world_of is old.now) e.if_at e.command log_not_full).0

    limits_same : new.now.limits ≡ old.now.limits
    limits_same = ap (λ a. a.world.limits) (sym acts) ∙ (acted_logged e.who (world_of is old.now) e.if_at e.command log_not_full).2

    pub acts_on_book : ActsOnBook is old new e
    acts_on_book = record { acts = acts; logs = log_after ∙ ap (λ t. cond t (old.log ++ e ∷ []) old.log) (sym in_log) }

    pub opening_after : opening_of is new ≡ opening_of is old
    opening_after = ap (opening_over is first) limits_same

    pub book_after : IsForest (forest s.chart.trie) → IsForest (forest t.chart.trie) → IsBook is limit new
    book_after before after =
        let h = b.held in
        let w = opening_of is old in
        let few : length log.items < old.now.limits.log = leb-false old.now.limits.log (length log.items) log_not_full in
        let log_limit : new.now.limits.log ≡ old.now.limits.log = ap (λ l. l.log) limits_same in
        let count = length_log_after in
        let replied : (acted_by e (world_after w old.log)).reply ≡ e.reply = ap (λ v. (acted_by e v).reply) (sym h.after) ∙ ap (λ a. a.reply) acts in
        let apart = subst (λ f. AreNamedApart f.branches) (sym (ap (λ a. a.world.forest) acts)) after.apart in
        record {
          held = record {
            legal = subst (λ v. IsLegal v new.log) (sym opening_after) (subst (IsLegal w) (sym log_after) (legal_more w old.log e h.legal replied in_log));
            after = ap (λ a. a.world) (sym acts) ∙ ap (λ v. (acted_by e v).world) h.after ∙ sym (world_after_more w old.log e) ∙ λ i. world_after (sym opening_after i) (sym log_after i);
            count = refl;
            few = omega (arith, count, log_limit, few);
            most_log = omega (arith, log_limit, h.most_log);
          };
          sound = subst IsLawfulWorld (ap (λ a. a.world) acts) (command_sound e.who (world_of is old.now) b.sound before e.if_at e.command apart);
          same_limit = log_limit ∙ b.same_limit;
        }

    pub never_out_of_memory : e.reply ≡ No Memory → ⊥
    never_out_of_memory = never_memory e.who (world_of is old.now) e.if_at e.command _ e.reply log_not_full acts
