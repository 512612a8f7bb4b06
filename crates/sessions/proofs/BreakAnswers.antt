-- How a command on a session's breaks is answered.
use Rattle.std.proofs.Common.{◌≡◌, ◌∷◌, ℕ, true, false, not, List, [], Result, Ok, Err, inl, inr, refl, sym, ap}
use Rattle.std.specs.Prelude.{slice_set}
use Rattle.std.specs.Result.{IsErrAnd}
use Rattle.frames.specs.Behaviour.{Behaviour}
use Rattle.schedule_trie.specs.declared.refusal.Refusal.{Refusal}
use Rattle.schedule_trie.specs.declared.refusal.Refusal.TheVariants.{Memory, NoBreak}
use Rattle.pages.specs.declared.breakpoint.Break.{Break}
use Rattle.sessions.specs.declared.command.Command.TheVariants as command
use Rattle.sessions.specs.declared.reply.Reply.{Reply}
use Rattle.sessions.specs.declared.reply.Reply.TheVariants.{BreakSet, BreakCleared}
use Rattle.sessions.specs.Acts.{first_refusal, refusal_if, with_one_logged}
use Rattle.sessions.specs.BreakLists.{breaks_at, has_break, with_break, without_break}
use Rattle.sessions.specs.Books.{StoredWorld, IsResult, IsCarriedOut, IsNotCarriedOut, world_of}

module _ {R P : Type 0} (is : R → Behaviour P) (old : StoredWorld R P) (who : ℕ) (b : Break) (new : List Break) where
  pub break_set : new ≡ with_break b (breaks_at old.breaks who)
      → IsCarriedOut is who (command.Break b) old (record old { breaks = slice_set old.breaks who new }) BreakSet
  break_set e = record {
    not_refused = refl;
    leaves = λ i. with_one_logged (world_of is (record old { breaks = slice_set old.breaks who (sym e i) }));
    replies = refl;
  }

  -- if memory runs out when a break is set, the refusal is Memory, and nothing is changed
  pub set_lacks_memory : (r : Result Reply Refusal) (Is : Refusal → Type 0) → IsErrAnd r Is → ((x : Refusal) → Is x → x ≡ Memory)
      → slice_set old.breaks who new ≡ old.breaks
      → IsResult is who (command.Break b) old (record old { breaks = slice_set old.breaks who new }) r
  set_lacks_memory (Ok reply) Is is_error one same = absurd is_error
  set_lacks_memory (Err x) Is is_error one same = record {
    why = inr (one x is_error, refl);
    same = λ i. world_of is (record old { breaks = same i });
  }

  pub break_cleared : has_break b (breaks_at old.breaks who) ≡ true → new ≡ without_break b (breaks_at old.breaks who)
      → IsCarriedOut is who (command.Clear b) old (record old { breaks = slice_set old.breaks who new }) BreakCleared
  break_cleared has e = record {
    not_refused = ap (λ h. first_refusal (refusal_if (not h) NoBreak ∷ [])) has;
    leaves = λ i. with_one_logged (world_of is (record old { breaks = slice_set old.breaks who (sym e i) }));
    replies = refl;
  }

-- a clear of a break that the session hasn't set is refused as NoBreak, and nothing is changed
pub clear_refused : {R P : Type 0} (is : R → Behaviour P) (old : StoredWorld R P) (who : ℕ) (b : Break)
    → has_break b (breaks_at old.breaks who) ≡ false → IsNotCarriedOut is who (command.Clear b) old old NoBreak
clear_refused is old who b has = record {
  why = inl (ap (λ h. first_refusal (refusal_if (not h) NoBreak ∷ [])) has);
  same = refl;
}
