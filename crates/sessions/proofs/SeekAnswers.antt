-- How a seek is answered.
use Rattle.std.proofs.Common.{◌≡◌, ◌∙◌, ℕ, true, false, List, Option, Some, None, Result, Ok, Err, is_some, inr, refl, sym, ap}
use Rattle.std.specs.Prelude.{slice_set}
use Rattle.std.specs.Result.{IsErrAnd}
use Rattle.frames.specs.Behaviour.{Behaviour}
use Rattle.schedule_trie.specs.declared.refusal.Refusal.{Refusal}
use Rattle.schedule_trie.specs.declared.refusal.Refusal.TheVariants.{Memory}
use Rattle.sessions.specs.declared.cursor.Cursor.{Cursor}
use Rattle.sessions.specs.declared.reply.Reply.{Reply}
use Rattle.sessions.specs.declared.way.Way.{Way}
use Rattle.sessions.specs.declared.way.Way.TheVariants.{Forth, Back}
use Rattle.sessions.specs.World.{World}
use Rattle.sessions.specs.Acts.{accepted_world, first_refusal, hit_of, hit_reply, late_refusals, put_cursor, reply_to, with_one_logged}
use Rattle.sessions.specs.Books.{IsResult, IsCarriedOut, StoredWorld, seek_command, world_of}

-- a seek has no late refusal; it puts the session's cursor at the hit, if any, and replies with it
module _ {P : Type 0} (who : ℕ) (w : World P) where
  no_late_refusal : (way : Way) → first_refusal (late_refusals who (seek_command way) w) ≡ None
  no_late_refusal Forth = refl
  no_late_refusal Back = refl

  world_after_seek : (way : Way) → accepted_world who (seek_command way) w ≡ record (with_one_logged w) { cursors = put_cursor who (hit_of way w who) w.cursors }
  world_after_seek Forth = refl
  world_after_seek Back = refl

  reply_to_seek : (way : Way) → reply_to who (seek_command way) w ≡ hit_reply (hit_of way w who)
  reply_to_seek Forth = refl
  reply_to_seek Back = refl

pub put_cursor_some : (who : ℕ) (o : Option Cursor) (cursors : List (Option Cursor)) → true ≡ is_some o → put_cursor who o cursors ≡ slice_set cursors who o
put_cursor_some who None cursors h = cc
put_cursor_some who (Some c) cursors h = refl

pub put_cursor_none : (who : ℕ) (o : Option Cursor) (cursors : List (Option Cursor)) → false ≡ is_some o → put_cursor who o cursors ≡ cursors
put_cursor_none who None cursors h = refl
put_cursor_none who (Some c) cursors h = cc

module _ {R P : Type 0} (is : R → Behaviour P) (old new : StoredWorld R P) (who : ℕ) (way : Way) (same : world_of is new ≡ world_of is old) where
  pub seek_carried_out : (hit : Option Cursor) (cursors : List (Option Cursor)) (reply : Reply) → hit ≡ hit_of way (world_of is old) who → put_cursor who hit new.cursors ≡ cursors → reply ≡ hit_reply hit
      → IsCarriedOut is who (seek_command way) old (record new { cursors = cursors }) reply
  seek_carried_out hit cursors reply found put replied = record {
    not_refused = no_late_refusal who (world_of is old) way;
    leaves = world_after_seek who (world_of is old) way ∙ (λ i. record (with_one_logged (sym same i)) { cursors = put_cursor who (sym found i) (sym same i).cursors })
        ∙ λ i. record (with_one_logged (world_of is new)) { cursors = put i };
    replies = reply_to_seek who (world_of is old) way ∙ ap hit_reply (sym found) ∙ sym replied;
  }

  -- if memory runs out, a seek is refused as Memory, and the world is unchanged
  pub seek_lacks_memory : (r : Result Reply Refusal) (Is : Refusal → Type 0) → IsErrAnd r Is → ((x : Refusal) → Is x → x ≡ Memory) → IsResult is who (seek_command way) old new r
  seek_lacks_memory (Ok reply) Is is_error one = absurd is_error
  seek_lacks_memory (Err x) Is is_error one = record { why = inr (one x is_error, no_late_refusal who (world_of is old) way); same = same }
