-- What a legal history says about the reply to its last call.
use Rattle.std.proofs.Common.{suc, subst, ◌≡◌, ◌⊎◌, ℕ, ◌+◌, ◌<◌, ◌≤◌, Bool, true, false, nat_le, List, [], ◌∷◌, ◌++◌, length, Option, refl, sym, ap, ◌∙◌, arith, inl, inr}
use Rattle.std.proofs.lemmas.Bool.Decides.{nat_tests}
use Rattle.schedule_trie.specs.declared.refusal.Refusal.TheVariants.{LogFull, Memory}
use Rattle.sessions.specs.declared.command.Command.{Command}
use Rattle.sessions.specs.declared.log.Entry.{Entry}
use Rattle.sessions.specs.declared.reply.Reply.{Reply}
use Rattle.sessions.specs.declared.reply.Reply.TheVariants.{No}
use Rattle.sessions.specs.World.{World}
use Rattle.sessions.specs.Acts.{command_result, is_full}
use Rattle.sessions.specs.Logs.{IsLegal, acted_by, entry, is_logged, logged, world_after}
use Rattle.sessions.proofs.LegalLogs.{world_after_more}
use Rattle.sessions.proofs.LoggedReplies.{acted_logged, acted_full}

-- the test of a ≤ b is true if a ≤ b
le_true : (a b : ℕ) (t : Bool) → nat_le a b ≡ t → a ≤ b → t ≡ true
le_true a b true e h = refl
le_true a b false e h = grind (arith, e, h)

module _ {P : Type 0} where
  -- the reply of a legal log's last entry is what its command gets after the entries before it
  legal_last : (w : World P) (log : List Entry) (e : Entry) → IsLegal w (log ++ e ∷ []) → (acted_by e (world_after w log)).reply ≡ e.reply
  legal_last w [] e h = h.0
  legal_last w (f ∷ log) e h = legal_last (acted_by f w).world log e h.2

  -- n calls lead from the world w to the world `after`: n more are counted as logged, and the
  -- limits stay
  abbrev IsCounted : World P → World P → ℕ → Type 0
  IsCounted w after n = (after.logged ≡ w.logged + n) × (after.limits ≡ w.limits)

  -- a logged call counts as one more, since only a log that isn't full takes one
  counted_one_more : (t : Bool) (w : World P) (e : Entry) (n : ℕ) (after : World P) → is_full w ≡ t → (acted_by e w).reply ≡ e.reply → is_logged e.reply ≡ true
      → IsCounted (acted_by e w).world after n → IsCounted w after (suc n)
  counted_one_more true w e n after full same in_log rest = absurd (let none : false ≡ true = ap (λ a. is_logged a.reply) (sym (acted_full e.who w e.if_at e.command full)) ∙ (ap is_logged same ∙ in_log) in cc)
  counted_one_more false w e n after room same in_log rest =
      let a = acted_logged e.who w e.if_at e.command room in
      let here : (acted_by e w).world.logged ≡ w.logged + 1 = a.1 in
      let count = rest.0 in
      (omega arith, rest.1 ∙ a.2)

  -- each call of a legal log is counted
  counted_calls : (w : World P) (log : List Entry) → IsLegal w log → IsCounted w (world_after w log) (length log)
  counted_calls w [] h = (omega arith, refl)
  counted_calls w (e ∷ log) h = counted_one_more (is_full w) w e (length log) (world_after w (e ∷ log)) refl h.0 h.1 (counted_calls (acted_by e w).world log h.2)

  -- if no call is logged in the world w, and fewer calls follow than its limit, the log isn't full
  -- after them
  pub not_full : (w : World P) (found : List Entry) → w.logged ≡ 0 → IsLegal w found → length found < w.limits.log → is_full (world_after w found) ≡ false
  not_full w found fresh legal room =
      let count = counted_calls w found legal in
      let limit : (world_after w found).limits.log ≡ w.limits.log = ap (λ l. l.log) count.1 in
      let many = count.0 in
      short (world_after w found).limits.log (world_after w found).logged (omega arith)
    where
      short : (most count : ℕ) → count < most → nat_le most count ≡ false
      short most count h = grind (arith, nat_tests)

  module _ (w : World P) (chair session : ℕ) (if_at : Option ℕ) (command : Command) (found : List Entry) (fresh : w.logged ≡ 0) where
    logged_reply_or_memory : (reply : Reply) → IsLegal w found → IsLegal w (logged (entry chair session if_at command reply) found) → (reply ≡ No LogFull → length found ≡ w.limits.log)
        → (command_result session if_at command (world_after w found) ≡ record { world = world_after w (logged (entry chair session if_at command reply) found); reply = reply }) ⊎ (reply ≡ No Memory)
    logged_reply_or_memory (No LogFull) before legal full =
        let count = counted_calls w found before in
        let many = count.0 in
        let limit : (world_after w found).limits.log ≡ w.limits.log = ap (λ l. l.log) count.1 in
        let long = full refl in
        inl (acted_full session (world_after w found) if_at command
        (le_true (world_after w found).limits.log (world_after w found).logged (is_full (world_after w found)) refl (omega arith)))
    logged_reply_or_memory (No Memory) before legal full = inr refl
    logged_reply_or_memory reply before legal full =
        let e = entry chair session if_at command reply in
        let last = legal_last w found e legal in
        let after = world_after_more w found e in
        inl (λ i. record { world = sym after i; reply = last i })

    -- the reply is the one that the command gets in the world after the calls found, or Memory
    pub reply_or_memory : (reply : Reply) (after : List Entry) → after ≡ logged (entry chair session if_at command reply) found → IsLegal w found → IsLegal w (logged (entry chair session if_at command reply) found)
        → (reply ≡ No LogFull → length found ≡ w.limits.log) → (command_result session if_at command (world_after w found) ≡ record { world = world_after w after; reply = reply }) ⊎ (reply ≡ No Memory)
    reply_or_memory reply after is before legal full =
        subst (λ l. (command_result session if_at command (world_after w found) ≡ record { world = world_after w l; reply = reply }) ⊎ (reply ≡ No Memory)) (sym is) (logged_reply_or_memory reply before legal full)
