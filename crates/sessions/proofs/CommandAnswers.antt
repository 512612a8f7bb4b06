-- How a command is answered: by its first refusal, or by carrying it out.
use Rattle.std.proofs.Common.{◌≡◌, ℕ, ◌<◌, Bool, true, false, not, ◌||◌, nat_lt, List, [], ◌∷◌, ◌++◌, Option, Some, None, refl, sym, ap, ◌∙◌, inl, inr, arith}
use Rattle.schedule_trie.specs.declared.refusal.Refusal.{Refusal}
use Rattle.sessions.specs.declared.command.Command.{Command}
use Rattle.sessions.specs.declared.reply.Reply.{Reply}
use Rattle.sessions.specs.declared.reply.Reply.TheVariants.{No}
use Rattle.sessions.specs.World.{World}
use Rattle.sessions.specs.Acts.{command_result, answered, early_refusals, late_refusals, first_refusal, refusal_if, refusals, refused_world, accepted_world, reply_to, is_full, lacks_session, is_missed, fits_command, with_one_logged}
use Rattle.schedule_trie.specs.declared.refusal.Refusal.TheVariants.{LogFull, Memory}
use Rattle.sessions.specs.Logs.{is_logged}
use Rattle.sessions.specs.Books.{IsLateRefusal}
use Rattle.sessions.proofs.LoggedReplies.{acted_logged}

-- an option that isn't `Some x` for any x is `None`
pub none_if_never_some : {A : Type 0} (o : Option A) → ((x : A) → o ≡ Some x → ⊥) → None ≡ o
none_if_never_some None h = refl
none_if_never_some (Some x) h = absurd (h x refl)

-- if the first list has no refusal, the first refusal is that of the second list
pub first_after : (xs ys : List (Option Refusal)) → first_refusal xs ≡ None → first_refusal (xs ++ ys) ≡ first_refusal ys
first_after [] ys e = refl
first_after (None ∷ xs) ys e = first_after xs ys e
first_after (Some r ∷ xs) ys e = cc

-- if the first list has a refusal, its first one is also the first refusal of both lists together
pub first_before : (xs ys : List (Option Refusal)) (r : Refusal) → first_refusal xs ≡ Some r → first_refusal (xs ++ ys) ≡ Some r
first_before [] ys r e = cc
first_before (None ∷ xs) ys r e = first_before xs ys r e
first_before (Some q ∷ xs) ys r e = e

-- if none of three conditions gives its refusal, the first and the third condition are false
conditions_false : (a b c : Bool) (r s t : Refusal) → first_refusal (refusal_if a r ∷ refusal_if b s ∷ refusal_if c t ∷ []) ≡ None → (a ≡ false) × (c ≡ false)
conditions_false true b c r s t e = cc
conditions_false false true c r s t e = cc
conditions_false false false true r s t e = cc
conditions_false false false false r s t e = (refl, refl)

or_false_left : (a b : Bool) → (a || b) ≡ false → a ≡ false
or_false_left true b e = cc
or_false_left false b e = refl

true_if_not_false : (a : Bool) → not a ≡ false → a ≡ true
true_if_not_false true e = refl
true_if_not_false false e = cc

below_16 : (who : ℕ) (t : Bool) → nat_lt 15 who ≡ t → t ≡ false → who < 16
below_16 who t e f = grind (arith, e, f)

module _ {P : Type 0} (who : ℕ) (guard : Option ℕ) (c : Command) (w : World P) where
  -- if a command has no early refusal, its session exists, and its step, if any, fits the register
  pub session_exists_and_step_fits : first_refusal (early_refusals who guard c w) ≡ None → (who < 16) × (fits_command w.tower c ≡ true)
  session_exists_and_step_fits e =
      let none = conditions_false (lacks_session who c w.cursors) (is_missed guard w.edits) (not (fits_command w.tower c)) _ _ _ e in
      (below_16 who (nat_lt 15 who) refl (or_false_left (nat_lt 15 who) _ none.0), true_if_not_false (fits_command w.tower c) none.1)

  module _ (room : is_full w ≡ false) where
    -- if the log isn't full and a command has no early refusal, its late refusals decide
    pub late_decides : None ≡ first_refusal (early_refusals who guard c w) → first_refusal (refusals who guard c w) ≡ first_refusal (late_refusals who c w)
    late_decides e =
        ap (λ t. first_refusal (refusal_if t LogFull ∷ (early_refusals who guard c w ++ late_refusals who c w))) room
        ∙ first_after (early_refusals who guard c w) (late_refusals who c w) (sym e)

    -- a refusal that is logged leaves the world with one more command counted as logged
    refused_adds_one : (r : Refusal) → is_logged (No r) ≡ true → refused_world r w ≡ with_one_logged w
    refused_adds_one LogFull h = cc
    refused_adds_one r h = refl

    -- if the log isn't full, the first reason to refuse a command is its reply, which is logged
    pub refused_result : (r : Refusal) → first_refusal (refusals who guard c w) ≡ Some r → command_result who guard c w ≡ record { world = with_one_logged w; reply = No r }
    refused_result r e =
        let acts : command_result who guard c w ≡ record { world = refused_world r w; reply = No r } = ap (λ o. answered o who c w) e in
        let logged = ap (λ a. is_logged a.reply) (sym acts) ∙ (acted_logged who w guard c room).0 in
        acts ∙ ap (λ v. record { world = v; reply = No r }) (refused_adds_one r logged)

    -- if the log isn't full, a command's first early refusal is its reply, which is logged
    pub early_refused_result : (r : Refusal) → Some r ≡ first_refusal (early_refusals who guard c w) → command_result who guard c w ≡ record { world = with_one_logged w; reply = No r }
    early_refused_result r e =
        refused_result r (ap (λ t. first_refusal (refusal_if t LogFull ∷ (early_refusals who guard c w ++ late_refusals who c w))) room
        ∙ first_before (early_refusals who guard c w) (late_refusals who c w) r (sym e))

    -- a command that nothing refuses is carried out
    pub carried_out_result : (after : World P) (reply : Reply) → first_refusal (refusals who guard c w) ≡ None → accepted_world who c w ≡ after → reply_to who c w ≡ reply
        → command_result who guard c w ≡ record { world = after; reply = reply }
    carried_out_result after reply none leaves replies = ap (λ o. answered o who c w) none ∙ λ i. record { world = leaves i; reply = replies i }

    -- if a command has no early refusal, and Memory is why it isn't carried out
    -- (`IsLateRefusal`), then there is no reason to refuse it
    pub none_if_memory : None ≡ first_refusal (early_refusals who guard c w) → (r : Refusal) → r ≡ Memory → IsLateRefusal who c w r → first_refusal (refusals who guard c w) ≡ None
    none_if_memory early r is (inr none) = late_decides early ∙ none.1
    none_if_memory early r is (inl e) =
        let memory : first_refusal (refusals who guard c w) ≡ Some Memory = late_decides early ∙ e ∙ ap Some is in
        let logged : is_logged (No Memory) ≡ true = ap (λ o. is_logged (answered o who c w).reply) (sym memory) ∙ (acted_logged who w guard c room).0 in
        absurd (cc)

    -- if a command has no early refusal, its late one is its reply, which is logged, unless memory
    -- ran out
    pub late_refused_result : None ≡ first_refusal (early_refusals who guard c w) → (r : Refusal) → (r ≡ Memory → ⊥) → IsLateRefusal who c w r → (after : World P) → after ≡ w
        → command_result who guard c w ≡ record { world = with_one_logged after; reply = No r }
    late_refused_result early r other (inr none) after same = absurd (other none.0)
    late_refused_result early r other (inl e) after same = refused_result r (late_decides early ∙ e) ∙ λ i. record { world = with_one_logged (sym same i); reply = No r }
