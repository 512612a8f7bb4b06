-- What answering a piece of a script does, and the end of a conversation.
use Rattle.std.proofs.Common.{◌≡◌, ℕ, ◌+◌, ◌<◌, ◌≤◌, Bool, List, [], ◌++◌, length, take, Option, refl, sym, ap, subst, ◌∙◌, arith, append_assoc, append-nil, length-append, inl, inr}
use Rattle.std.specs.Io.KnownBytes.{Appends, Consumes, IsAtEnd}
use Rattle.conversation.specs.declared.fault.StreamFault.TheVariants.{Read, Write, TooLong, Memory}
use Rattle.conversation.specs.Streams.{Streams, streams}
use Rattle.conversation.specs.Scripts.{LineAnswering, answers_to, IsLineAnswer}
use Rattle.std.specs.Prelude.{⊤, IfErr, OnOk, Result, Ok, Err}
use Rattle.conversation.specs.declared.fault.StreamFault.{StreamFault}
use Rattle.conversation.specs.Pieces.{HasAnswered, Reached, Finished}
use Rattle.conversation.specs.Conversations.{Leaves, EndsWithFault, IsPrefix}
use Rattle.conversation.proofs.AnsweredLines.{HasAnsweredAll, answered_start, answered_whole, answered_first, answered_all, line_answer_append}
use Rattle.std.proofs.KnownBytes.{Appends-nil, Appends-trans, Consumes-nil, Consumes-trans}
use Rattle.conversation.specs.declared.limits.TheConstants.{KEPT_BYTES, MOST_SCRIPT_BYTES}

consumes_kept : (a b c : Option (List ℕ)) (s : List ℕ) → Consumes a b s → Consumes b c [] → Consumes a c s
consumes_kept a b c s h k = subst (Consumes a c) (append-nil s) (Consumes-trans a b c s [] h k)

front_append : (text front out : List ℕ) → IsPrefix front out → IsPrefix (text ++ front) (text ++ out)
front_append text front out h = (h.0, ap (λ xs. text ++ xs) h.1 ∙ sym (append_assoc text front h.0))

module _ {W : Type 0} (define : LineAnswering W) (start : W) where
  pub reached_start : (before : Streams) (lines : ℕ) (line : List ℕ) → lines ≡ 0 → line ≡ [] → Reached define start before before 0 start lines line
  reached_start before lines line n l = record {
    seen = [];
    text = [];
    read = Consumes-nil before.unread;
    counted = refl;
    wrote = Appends-nil before.written;
    reported = answered_start define start [] start lines line [] refl refl n l refl;
  }

  module _ (before after : Streams) (count : ℕ) (world : W) (lines : ℕ) (line : List ℕ) (r : Reached define start before after count world lines line) where
    -- a read that takes no bytes changes nothing of what was reached
    pub reached_kept : (next : Option (List ℕ)) → Consumes after.unread next [] → Reached define start before (streams next after.written) count world lines line
    reached_kept next k = record { seen = r.seen; text = r.text; read = consumes_kept before.unread after.unread next r.seen r.read k; counted = r.counted; wrote = r.wrote; reported = r.reported }

    -- a read that fails takes no bytes: all whole lines that were read are answered
    pub fault_read : (next : Option (List ℕ)) → Consumes after.unread next [] → count ≤ MOST_SCRIPT_BYTES → EndsWithFault (answers_to define start) Read before (streams next after.written)
    fault_read next k few = record {
      seen = r.seen;
      refused = r.reported.refused;
      text = r.text;
      read = consumes_kept before.unread after.unread next r.seen r.read k;
      few = omega (arith, r.counted);
      wrote = r.wrote;
      went = answered_whole define start r.seen world lines line r.text r.reported;
    }

    -- a script that is too long: all whole lines that were read are answered
    pub fault_too_long : count ≤ MOST_SCRIPT_BYTES → EndsWithFault (answers_to define start) TooLong before after
    fault_too_long few = record {
      seen = r.seen;
      refused = r.reported.refused;
      text = r.text;
      read = r.read;
      few = omega (arith, r.counted);
      wrote = r.wrote;
      went = answered_whole define start r.seen world lines line r.text r.reported;
    }

    -- if memory runs out while a piece is answered, no answer to its lines is written
    pub fault_memory : (next : Option (List ℕ)) (piece : List ℕ) → Consumes after.unread next piece → count + length piece ≤ MOST_SCRIPT_BYTES
        → EndsWithFault (answers_to define start) Memory before (streams next after.written)
    fault_memory next piece k few = record {
      seen = r.seen ++ piece;
      refused = r.reported.refused;
      text = r.text;
      read = Consumes-trans before.unread after.unread next r.seen piece r.read k;
      few = omega (arith, r.counted, length-append r.seen piece);
      wrote = r.wrote;
      went = (length r.reported.whole, answered_first define start r.seen world lines line r.text r.reported piece);
    }

    -- the answers of a piece, and the part of them that the writer took
    module _ (next : Option (List ℕ)) (piece : List ℕ) (k : Consumes after.unread next piece) (n : ℕ) (size : length piece ≡ n)
        (new_world : W) (new_lines : ℕ) (new_line out : List ℕ) (t : HasAnswered define start (r.seen ++ piece) new_world new_lines new_line (r.text ++ out)) where
      -- if the writer took all answers of the piece, the piece is reached too
      pub reached_more : (last : Option (List ℕ)) (last_lines : ℕ) (last_line : List ℕ) → last_lines ≡ new_lines → last_line ≡ new_line → Appends after.written last out
          → Reached define start before (streams next last) (count + n) new_world last_lines last_line
      reached_more last last_lines last_line same_lines same_line w = record {
        seen = r.seen ++ piece;
        text = r.text ++ out;
        read = Consumes-trans before.unread after.unread next r.seen piece r.read k;
        counted = omega (arith, r.counted, size, length-append r.seen piece);
        wrote = Appends-trans before.written after.written last r.text out r.wrote w;
        reported = record {
          refused = t.refused;
          whole = t.whole;
          rest = t.rest;
          cut = t.cut;
          kept = same_line ∙ t.kept;
          same_world = t.same_world;
          same_lines = same_lines ∙ t.same_lines;
          same_text = t.same_text;
        };
      }

      -- if a write failed, the writer took a prefix of the piece's answers
      pub fault_write : (last : Option (List ℕ)) (front : List ℕ) → IsPrefix front out → Appends after.written last front → count + n ≤ MOST_SCRIPT_BYTES
          → EndsWithFault (answers_to define start) Write before (streams next last)
      fault_write last front f w few =
          let h = front_append r.text front out f in
          let all = answered_whole define start (r.seen ++ piece) new_world new_lines new_line (r.text ++ out) t in
          record {
            seen = r.seen ++ piece;
            refused = t.refused;
            text = r.text ++ front;
            read = Consumes-trans before.unread after.unread next r.seen piece r.read k;
            few = omega (arith, r.counted, size, length-append r.seen piece);
            wrote = Appends-trans before.written after.written last r.text front r.wrote w;
            went = inl (h.0, sym all ∙ h.1);
          }

    -- between pieces no answer is held back, so all that was read is answered
    pub answered_between_pieces : (out : List ℕ) → out ≡ [] → HasAnswered define start r.seen world lines line (r.text ++ out)
    answered_between_pieces out e = record {
      refused = r.reported.refused;
      whole = r.reported.whole;
      rest = r.reported.rest;
      cut = r.reported.cut;
      kept = r.reported.kept;
      same_world = r.reported.same_world;
      same_lines = r.reported.same_lines;
      same_text = ap (λ xs. r.text ++ xs) e ∙ append-nil r.text ∙ r.reported.same_text;
    }

    -- the end: the last line is answered too
    module _ (reads_front : (memory : Bool) (number : ℕ) (line : List ℕ) (w : W) → define memory number (take KEPT_BYTES line) w ≡ define memory number line w)
        (ended : IsAtEnd after.unread) (short : count < MOST_SCRIPT_BYTES) (new_world : W) (sent out : List ℕ) (none : sent ≡ []) (a : IsLineAnswer define (lines + 1) line world new_world sent out) where
      last_line_added : IsLineAnswer define (lines + 1) line world new_world r.text (r.text ++ out)
      last_line_added =
          let b = line_answer_append define (lines + 1) line world new_world sent out r.text a in
          record { memory = b.memory; text = b.text; answered = b.answered; added = b.added ∙ ap (λ xs. (r.text ++ xs) ++ b.text) none ∙ ap (λ xs. xs ++ b.text) (append-nil r.text) }

      every_line : HasAnsweredAll define start r.seen new_world (lines + 1) (r.text ++ out)
      every_line = answered_all define reads_front start r.seen world lines line r.text r.reported new_world (r.text ++ out) last_line_added

      -- if the writer took the last answer, the whole script is answered
      pub leaves_at_end : (last : Option (List ℕ)) → Appends after.written last out → Leaves define start new_world before (streams after.unread last)
      leaves_at_end last w = record {
        answered =
            record {
              script = r.seen;
              refused = every_line.refused;
              read = r.read;
              ended = ended;
              short = omega (arith, r.counted);
              wrote = subst (λ xs. Appends before.written last xs) every_line.same_text (Appends-trans before.written after.written last r.text out r.wrote w);
            };
        left = every_line.same_world;
      }

      -- if the last write failed, the writer took a prefix of the last answer
      pub fault_last_write : (last : Option (List ℕ)) (front : List ℕ) → IsPrefix front out → Appends after.written last front → EndsWithFault (answers_to define start) Write before (streams after.unread last)
      fault_last_write last front f w =
          let h = front_append r.text front out f in
          record {
            seen = r.seen;
            refused = every_line.refused;
            text = r.text ++ front;
            read = r.read;
            few = omega (arith, r.counted);
            wrote = Appends-trans before.written after.written last r.text front r.wrote w;
            went = inr (ended, (h.0, sym every_line.same_text ∙ h.1));
          }

  -- the two clauses of `converse` about its end: without a fault, and with one
  module _ (before after : Streams) (left : W) where
    abbrev IsEnd : Result ⊤ StreamFault → Type 0
    IsEnd r = record { done : OnOk r (Leaves define start left before after); fault : IfErr r (λ e. EndsWithFault (answers_to define start) e before after) }

    pub end_from_finished : (r : Result ⊤ StreamFault) → Finished define start before after left r → IsEnd r
    end_from_finished (Ok done) h = record { done = h; fault = tt }
    end_from_finished (Err e) h = record { done = tt; fault = h }

  -- a conversation that ends after a last read, of no bytes, ends as `IsEnd` says
  pub end_after_last_read : (before after : Streams) (count : ℕ) (world : W) (lines : ℕ) (line : List ℕ) → Reached define start before after count world lines line → (next : Option (List ℕ)) → Consumes after.unread next []
      → (end : Streams) (left : W) (r : Result ⊤ StreamFault) → (Reached define start before (streams next after.written) count world lines line → Finished define start before end left r) → IsEnd before end left r
  end_after_last_read before after count world lines line h next k end left r f = end_from_finished before end left r (f (reached_kept before after count world lines line h next k))
