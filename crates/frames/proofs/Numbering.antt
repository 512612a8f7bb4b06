-- If reads can be numbered step by step, they can be numbered in terms of `Known`. A register with
-- one writer and one reader is then atomic.
use Rattle.std.proofs.Common.{◌≡◌, ℕ, ◌+◌, ◌<◌, ◌≤◌, Bool, true, false, List, [], ◌∷◌, ◌++◌, length, Option, Some, None, inl, inr, refl, sym, ap, subst, ◌∙◌, arith, get_or, append-nil, append_assoc, length-append}
use Rattle.std.specs.Prelude.{◌==◌}
use Rattle.std.specs.Option.{unwrap_or}
use Rattle.std.proofs.lemmas.Bool.{cases_eq}
use Rattle.std.proofs.lemmas.List.{get_or_append_left, get_or_at}
use Rattle.std.proofs.lemmas.List.Elements.{All-head, All-tail}
use Rattle.safe_bit.specs.Memory.{Memory}
use Rattle.schedule_steps.specs.declared.types.Op.{Op}
use Rattle.schedule_steps.specs.declared.types.Op.TheVariants as op
use Rattle.frames.specs.declared.types.Layer.{Layer}
use Rattle.frames.specs.declared.types.Outcome.TheVariants.{Value, Written, Spent}
use Rattle.frames.specs.declared.types.Next.{Next}
use Rattle.frames.specs.declared.types.Next.TheVariants.{Pending, Done}
use Rattle.schedule_steps.specs.declared.types.Step.{Step}
use Rattle.schedule_steps.specs.declared.types.Step.TheVariants as step
use Rattle.frames.specs.declared.types.Event.{Event}
use Rattle.frames.specs.declared.types.Event.TheVariants.{Invoke, Got, Wrote, Refused, Void, Stop, Chosen}
use Rattle.frames.specs.declared.types.StepEvents.{StepEvents}
use Rattle.frames.specs.declared.types.Reason.TheVariants.{Busy, Idle, Stopped}
use Rattle.frames.specs.declared.running.Running.{Running}
use Rattle.frames.specs.declared.verdict.Reading.{Reading}
use Rattle.frames.specs.Behaviour.{Behaviour, IsLawful, ReachedOrAnswered, Answers}
use Rattle.schedule_steps.specs.Steps.{process_of}
use Rattle.frames.specs.OneWriter.{HasOneWriter}
use Rattle.frames.specs.Configuration.{running_at, is_stopped, fits_step, stepped, history, events_of, acted_on, acting, acting_unless, invoking, going, return_of, still_running, chosen_of, in_order}
use Rattle.frames.specs.StoredConfiguration.{IsConfiguration}
use Rattle.frames.specs.Recorded.{AllFit, LoneConfiguration, at_index, indexed, first_configuration}
use Rattle.frames.specs.correctness.Verdicts.{Known, refused_by, is_refused, counts, accepted, initially, after, invoked_now, returning, last_read, reading}
use Rattle.frames.specs.correctness.Regularity.{in_progress, OnReturn, by_number, IsNumber, Numbered, IsAtomic}
use Rattle.frames.specs.laws.Steps.{IsReached, step_keeps, process_exists}
use Rattle.frames.specs.laws.OneWriter.{writer_zero, reader_is_not_zero, reader_below_processes}
use Rattle.frames.proofs.Seen.{refuses, Allowed}
use Rattle.frames.proofs.Accepted.{accepted_if_counts}
use Rattle.frames.proofs.KnownAndSeen.{found_last}
use Rattle.frames.proofs.OneWriterPromises.{after_option}
use Rattle.frames.proofs.Pending.{op_of, ops_of, ops_after, none_pending_at, first_is_configuration}
use Rattle.frames.proofs.Pointwise.{put, put_same, put_other, put_present_at, put_twice_at}
use Rattle.frames.proofs.Counted.{Counted, uncounted, TakesCount, NumberedIf, NumberedStep}

-- process 1 has invoked a read, and `low` of the count is as recorded for its last one
pub record ReadSince (k : Known) (c : Counted) : Type 0 where
  pub read : Reading
  pub last : last_read 1 k ≡ Some read
  pub since : read.since ≡ c.low

-- `Known` and `Counted` agree, if the processes have the operations `ops` pending
pub record CountAgrees (v : ℕ) (ops : ℕ → Option Op) (k : Known) (c : Counted) : Type 0 where
  pub values : (n : ℕ) → n ≤ c.begun → get_or (by_number v k) n v ≡ c.value n
  pub begun : length k.returned + length (in_progress k.writing) ≡ c.begun
  pub done : length k.returned ≡ c.done
  pub idle : ops 0 ≡ None → k.writing ≡ None
  pub low : ops 1 ≡ Some op.Read → ReadSince k c

-- process 0 writes, and process 1 reads
abbrev pub PlaysRoleOfTwo : ℕ → Op → Type 0
PlaysRoleOfTwo p (op.Write v) = p ≡ 0
PlaysRoleOfTwo p op.Read = p ≡ 1

module _ (v : ℕ) where
  -- these events don't refuse the write in progress, and their reads have numbers from `floor` on
  abbrev pub CanBeNumbered : ℕ → Known → List (ℕ × Event) → Type 0
  CanBeNumbered floor k events = (is_refused events ≡ false) × Numbered v floor k (accepted events)

  -- after the event, if there is one, `Known` agrees with the count z; and if all later events can
  -- be numbered, they still can with this event before them
  pub record EventNumbers (ops : ℕ → Option Op) (e : Option Event) (k : Known) (c z : Counted) : Type 0 where
    pub agrees : CountAgrees v ops (after_option e k) z
    pub join : (i : ℕ) (rest : List (ℕ × Event)) → CanBeNumbered z.floor (after_option e k) rest → CanBeNumbered c.floor k (at_index i e ++ rest)

  -- after the step `next` is known, and agrees with the count z; and if all later events can be
  -- numbered, they still can with the events of the step before them
  pub record StepNumbers (ops : ℕ → Option Op) (e : StepEvents) (k : Known) (c z : Counted) : Type 0 where
    pub next : Known
    pub agrees : CountAgrees v ops next z
    pub join : (i : ℕ) (rest : List (ℕ × Event)) → CanBeNumbered z.floor next rest → CanBeNumbered c.floor k (at_index i e.first ++ (at_index i e.second ++ rest))

  same_ops : (from to : ℕ → Option Op) (k : Known) (c : Counted) → ((p : ℕ) → from p ≡ to p) → CountAgrees v from k c → CountAgrees v to k c
  same_ops from to k c same a = record { values = a.values; begun = a.begun; done = a.done; idle = λ e. a.idle (same 0 ∙ e); low = λ e. a.low (same 1 ∙ e) }

  both_events : (ops mid_ops : ℕ → Option Op) (first second : Option Event) (k : Known) (c mid z : Counted) → EventNumbers mid_ops first k c mid → EventNumbers ops second (after_option first k) mid z
      → StepNumbers ops (record { first = first; second = second }) k c z
  both_events ops mid_ops first second k c mid z a b =
      record { next = after_option second (after_option first k); agrees = b.agrees; join = λ i rest h. a.join i (at_index i second ++ rest) (b.join i rest h) }

  no_event_numbers : (ops : ℕ → Option Op) (k : Known) (c z : Counted) → z ≡ c → CountAgrees v ops k c → EventNumbers ops None k c z
  no_event_numbers ops k c z e a = record { agrees = subst (CountAgrees v ops k) (sym e) a; join = λ i rest h. subst (λ (x : Counted). CanBeNumbered x.floor k rest) e h }

  event_numbers : (ops : ℕ → Option Op) (e : Event) (k : Known) (c z : Counted) → counts e false ≡ true → refused_by e false ≡ false → c.floor ≤ z.floor
      → OnReturn (λ k p x. IsNumber v k p x z.floor) k e → CountAgrees v ops (after k e) z → EventNumbers ops (Some e) k c z
  event_numbers ops e k c z counted kept rises says a = record {
    agrees = a;
    join = λ i rest h.
        (ap (refused_by e) h.0 ∙ kept, subst (Numbered v c.floor k) (sym (accepted_if_counts i e rest h.0 counted)) (z.floor, (rises, (says, h.1))));
  }

  -- if no write is in progress, the numbered values are those of the returned writes
  quiet_values : (k : Known) (c : Counted) (ops : ℕ → Option Op) → CountAgrees v ops k c → k.writing ≡ None → (n : ℕ) → n ≤ c.begun → get_or (v ∷ k.returned) n v ≡ c.value n
  quiet_values k c ops a none n l =
      ap (λ (xs : List ℕ). get_or (v ∷ xs) n v) (sym (append-nil k.returned)) ∙ ap (λ w. get_or (v ∷ (k.returned ++ in_progress w)) n v) (sym none) ∙ a.values n l

  quiet_begun : (k : Known) (c : Counted) (ops : ℕ → Option Op) → CountAgrees v ops k c → k.writing ≡ None → length k.returned ≡ c.begun
  quiet_begun k c ops a none =
      let e : length k.returned + length (in_progress None) ≡ c.begun = ap (λ w. length k.returned + length (in_progress w)) (sym none) ∙ a.begun in omega (arith, e)

  -- `Known` and `Counted` still agree after a write is invoked
  write_begins : (x : ℕ) (ops : ℕ → Option Op) (k : Known) (c : Counted) → ops 0 ≡ None → CountAgrees v ops k c
      → CountAgrees v (put 0 (Some (op.Write x)) ops) (after k (Invoke 0 (op.Write x))) (record c { value = put (c.begun + 1) x c.value; begun = c.begun + 1 })
  write_begins x ops k c free a =
      let none = a.idle free in
      let all : length k.returned ≡ c.begun = quiet_begun k c ops a none in
      record {
        values = λ n l. elim (cases_eq n (c.begun + 1)) as (λ _. get_or (v ∷ (k.returned ++ x ∷ [])) n v ≡ put (c.begun + 1) x c.value n) [
          | inl e ↦ get_or_at (v ∷ k.returned) x [] v n (omega (arith, e, all)) ∙ sym (ap (put (c.begun + 1) x c.value) e ∙ put_same (c.begun + 1) x c.value)
          | inr ne ↦
              get_or_append_left (v ∷ k.returned) (x ∷ []) v n (omega (arith, all, l, ne)) ∙ quiet_values k c ops a none n (omega (arith, l, ne))
              ∙ sym (put_other (c.begun + 1) n x c.value ne)
        ];
        begun = omega (arith, all);
        done = a.done;
        idle = λ e. absurd (cc e);
        low = λ e. let r = a.low e in record { read = r.read; last = r.last; since = r.since };
      }

  -- `Known` and `Counted` still agree after a read is invoked
  read_begins : (ops : ℕ → Option Op) (k : Known) (c : Counted) → CountAgrees v ops k c
      → CountAgrees v (put 1 (Some op.Read) ops) (after k (Invoke 1 op.Read)) (record c { low = c.done })
  read_begins ops k c a = record {
    values = a.values;
    begun = a.begun;
    done = a.done;
    idle = λ e. a.idle e;
    low = λ e. record { read = invoked_now 1 k; last = found_last 1 (invoked_now 1 k) k.reads; since = a.done };
  }

  -- `Known` and `Counted` still agree after the write in progress has returned
  write_returns : (w : Option ℕ) (ops : ℕ → Option Op) (k : Known) (c : Counted) → k.writing ≡ w → CountAgrees v ops k c → CountAgrees v (put 0 None ops) (returning w k) (record c { done = c.begun })
  write_returns None ops k c e a = record {
    values = a.values;
    begun = a.begun;
    done = quiet_begun k c ops a e;
    idle = λ h. e;
    low = λ h. let r = a.low h in record { read = r.read; last = r.last; since = r.since };
  }
  write_returns (Some x) ops k c e a =
      let b : length k.returned + length (in_progress (Some x)) ≡ c.begun = ap (λ w. length k.returned + length (in_progress w)) (sym e) ∙ a.begun in
      let l : length (k.returned ++ x ∷ []) ≡ length k.returned + 1 = length-append k.returned (x ∷ []) in
      record {
        values = λ n lt. ap (λ (xs : List ℕ). get_or (v ∷ xs) n v) (append-nil (k.returned ++ x ∷ [])) ∙ ap (λ w. get_or (v ∷ (k.returned ++ in_progress w)) n v) (sym e) ∙ a.values n lt;
        begun = omega (arith, b, l);
        done = omega (arith, b, l);
        idle = λ h. refl;
        low = λ h. let r = a.low h in record { read = r.read; last = r.last; since = r.since };
      }

  -- an operation ends, or goes on
  end_numbers : {P : Type 0} (Reached : P → Type 0) (values p : ℕ) (o : Op) (next : Next P) (ops : ℕ → Option Op) (k : Known) (c z : Counted) → ops p ≡ Some o → PlaysRoleOfTwo p o
      → ReachedOrAnswered Reached (Answers values o) next → refuses (return_of p next) ≡ false → TakesCount (return_of p next) c z → CountAgrees v ops k c
      → EventNumbers (put p (op_of (still_running o next)) ops) (return_of p next) k c z
  end_numbers Reached values p o (Pending q) ops k c z there role well fine counts a =
      no_event_numbers (put p (Some o) ops) k c z counts (same_ops ops (put p (Some o) ops) k c (λ i. put_present_at p i (Some o) ops there) a)
  end_numbers Reached values p (op.Write x) (Done (Value y)) ops k c z there role well fine counts a = absurd well
  end_numbers Reached values p op.Read (Done Written) ops k c z there role well fine counts a = absurd well
  end_numbers Reached values p o (Done (Spent layer)) ops k c z there role well fine counts a = absurd (cc fine)
  end_numbers Reached values p (op.Write x) (Done Written) ops k c z there role well fine counts a =
      subst (λ q. EventNumbers (put q None ops) (Some (Wrote q)) k c z) (sym role)
      (event_numbers (put 0 None ops) (Wrote 0) k c z refl refl (let e = ap (λ (y : Counted). y.floor) counts in omega (arith, e)) tt
      (subst (CountAgrees v (put 0 None ops) (after k (Wrote 0))) (sym counts) (write_returns k.writing ops k c refl a)))
  end_numbers Reached values p op.Read (Done (Value x)) ops k c z there role well fine counts a =
      let n : ℕ = counts.0 in
      let is : z ≡ record c { floor = n } = counts.1.1.1.1.1 in
      let e : z.floor ≡ n = ap (λ (y : Counted). y.floor) is in
      let rises : c.floor ≤ n = counts.1.1.1.1.0 in
      let begun : n ≤ c.begun = counts.1.1.1.0 in
      let low : c.low ≤ n = counts.1.1.0 in
      let r = a.low (ap ops (sym role) ∙ there) in
      let since : (reading 1 k).since ≡ c.low = ap (λ o. (unwrap_or o (invoked_now 1 k)).since) r.last ∙ r.since in
      let number : IsNumber v k 1 x n = record {
        low = omega (arith, since, low);
        high = (let b = a.begun in let l = length-append k.returned (in_progress k.writing) in omega (arith, b, l, begun));
        value_of = a.values n begun ∙ counts.1.0;
      } in
      subst (λ q. EventNumbers (put q None ops) (Some (Got q x)) k c z) (sym role)
      (event_numbers (put 1 None ops) (Got 1 x) k c z refl refl (omega (arith, e, rises)) (subst (IsNumber v k 1 x) (sym e) number)
      (subst (CountAgrees v (put 1 None ops) k) (sym is) (record { values = a.values; begun = a.begun; done = a.done; idle = λ h. a.idle h; low = λ h. absurd (cc h) })))

  -- an operation is invoked
  begin_numbers : (p : ℕ) (o : Op) (ops : ℕ → Option Op) (k : Known) (c mid : Counted) → ops p ≡ None → PlaysRoleOfTwo p o → TakesCount (Some (Invoke p o)) c mid → CountAgrees v ops k c
      → EventNumbers (put p (Some o) ops) (Some (Invoke p o)) k c mid
  begin_numbers p (op.Write x) ops k c mid free role counts a =
      subst (λ q. EventNumbers (put q (Some (op.Write x)) ops) (Some (Invoke q (op.Write x))) k c mid) (sym role)
      (event_numbers (put 0 (Some (op.Write x)) ops) (Invoke 0 (op.Write x)) k c mid refl refl (let e = ap (λ (y : Counted). y.floor) counts in omega (arith, e)) tt
      (subst (CountAgrees v (put 0 (Some (op.Write x)) ops) (after k (Invoke 0 (op.Write x)))) (sym counts) (write_begins x ops k c (sym (ap ops role) ∙ free) a)))
  begin_numbers p op.Read ops k c mid free role counts a =
      subst (λ q. EventNumbers (put q (Some op.Read) ops) (Some (Invoke q op.Read)) k c mid) (sym role)
      (event_numbers (put 1 (Some op.Read) ops) (Invoke 1 op.Read) k c mid refl refl (let e = ap (λ (y : Counted). y.floor) counts in omega (arith, e)) tt
      (subst (CountAgrees v (put 1 (Some op.Read) ops) (after k (Invoke 1 op.Read))) (sym counts) (read_begins ops k c a)))

  -- an operation refused in the step that invokes it counts for nothing
  refused_numbers : (p : ℕ) (o : Op) (layer : Layer) (ops : ℕ → Option Op) (k : Known) (c : Counted) → ops p ≡ None → PlaysRoleOfTwo p o → CountAgrees v ops k c
      → StepNumbers (put p None ops) (record { first = Some (Invoke p o); second = Some (Refused p layer) }) k c c
  refused_numbers p (op.Write x) layer ops k c free role a =
      subst (λ q. StepNumbers (put q None ops) (record { first = Some (Invoke q (op.Write x)); second = Some (Refused q layer) }) k c c) (sym role) (record {
        next = k;
        agrees = same_ops ops (put 0 None ops) k c (λ i. put_present_at 0 i None ops (sym (ap ops role) ∙ free)) a;
        join = λ i rest h. (refl, h.1);
      })
  refused_numbers p op.Read layer ops k c free role a =
      subst (λ q. StepNumbers (put q None ops) (record { first = Some (Invoke q op.Read); second = Some (Refused q layer) }) k c c) (sym role) (record {
        next = after k (Invoke 1 op.Read);
        agrees = record { values = a.values; begun = a.begun; done = a.done; idle = λ h. a.idle h; low = λ h. absurd (cc h) };
        join = λ i rest h. (h.0, (c.floor, (omega arith, (tt, (c.floor, (omega arith, (tt, h.1)))))));
      })

  step_same : (from to : ℕ → Option Op) (e : StepEvents) (k : Known) (c z : Counted) → ((p : ℕ) → from p ≡ to p) → StepNumbers from e k c z → StepNumbers to e k c z
  step_same from to e k c z same s = record { next = s.next; agrees = same_ops from to s.next z same s.agrees; join = s.join }

  -- an operation is invoked, and may end in the same step
  begun_numbers : {P : Type 0} (Reached : P → Type 0) (values p : ℕ) (o : Op) (next : Next P) (ops : ℕ → Option Op) (k : Known) (c z : Counted) → ops p ≡ None → PlaysRoleOfTwo p o
      → ReachedOrAnswered Reached (Answers values o) next → NumberedStep c (in_order (Some (Invoke p o)) (return_of p next)) z → CountAgrees v ops k c
      → StepNumbers (put p (op_of (still_running o next)) ops) (in_order (Some (Invoke p o)) (return_of p next)) k c z
  begun_numbers {P} Reached values p o next ops k c z free role well numbered a = go (refuses (return_of p next)) refl numbered.1
    where
      e : StepEvents
      e = in_order (Some (Invoke p o)) (return_of p next)

      spent : (next : Next P) → refuses (return_of p next) ≡ true → StepNumbers (put p (op_of (still_running o next)) ops) (in_order (Some (Invoke p o)) (return_of p next)) k c c
      spent (Done (Spent layer)) h = refused_numbers p o layer ops k c free role a
      spent _ h = absurd (cc h)

      go : (b : Bool) → refuses (return_of p next) ≡ b → NumberedIf b c (in_order (Some (Invoke p o)) (return_of p next)) z
          → StepNumbers (put p (op_of (still_running o next)) ops) (in_order (Some (Invoke p o)) (return_of p next)) k c z
      go true h n = subst (StepNumbers (put p (op_of (still_running o next)) ops) (in_order (Some (Invoke p o)) (return_of p next)) k c) (sym n.1) (spent next h)
      go false h n =
          let x = op_of (still_running o next) in
          let first = begin_numbers p o ops k c n.0 free role n.1.0 a in
          let second = end_numbers Reached values p o next (put p (Some o) ops) (after k (Invoke p o)) n.0 z (put_same p (Some o) ops) role well h n.1.1 first.agrees in
          step_same (put p x (put p (Some o) ops)) (put p x ops) (in_order (Some (Invoke p o)) (return_of p next)) k c z (λ i. put_twice_at p i (Some o) x ops)
          (both_events (put p x (put p (Some o) ops)) (put p (Some o) ops) (Some (Invoke p o)) (return_of p next) k c n.0 z first second)

  -- an operation makes a bit action, and may end in the same step
  action_numbers : {P : Type 0} (Reached : P → Type 0) (values p : ℕ) (o : Op) (chosen : Option (ℕ × Bool)) (next : Next P) (ops : ℕ → Option Op) (k : Known) (c z : Counted) → ops p ≡ Some o → PlaysRoleOfTwo p o
      → ReachedOrAnswered Reached (Answers values o) next → NumberedStep c (in_order (chosen_of p chosen) (return_of p next)) z → CountAgrees v ops k c
      → StepNumbers (put p (op_of (still_running o next)) ops) (in_order (chosen_of p chosen) (return_of p next)) k c z
  action_numbers Reached values p o None next ops k c z there role well numbered a =
      let n = numbered.1 in
      let x = op_of (still_running o next) in
      let first = end_numbers Reached values p o next ops k c n.0 there role well numbered.0 n.1.0 a in
      both_events (put p x ops) (put p x ops) (return_of p next) None k c n.0 z first (no_event_numbers (put p x ops) (after_option (return_of p next) k) n.0 z n.1.1 first.agrees)
  action_numbers Reached values p o (Some bit) next ops k c z there role well numbered a = go (refuses (return_of p next)) refl numbered.1
    where
      go : (d : Bool) → refuses (return_of p next) ≡ d → NumberedIf d c (in_order (chosen_of p (Some bit)) (return_of p next)) z
          → StepNumbers (put p (op_of (still_running o next)) ops) (in_order (chosen_of p (Some bit)) (return_of p next)) k c z
      go true fine n = absurd n.0
      go false fine n =
          let mid : CountAgrees v ops k n.0 = subst (CountAgrees v ops k) (sym n.1.0) a in
          let first : EventNumbers ops (Some (Chosen p bit.0 bit.1)) k c n.0 = event_numbers ops (Chosen p bit.0 bit.1) k c n.0 refl refl (let e = ap (λ (y : Counted). y.floor) n.1.0 in omega (arith, e)) tt mid in
          both_events (put p (op_of (still_running o next)) ops) ops (Some (Chosen p bit.0 bit.1)) (return_of p next) k c n.0 z first
          (end_numbers Reached values p o next ops k n.0 z there role well fine n.1.1 mid)

  -- a step that records one event, which leaves the count as it was
  quiet_step : (ops : ℕ → Option Op) (e : Event) (k : Known) (c mid z : Counted) → counts e false ≡ true → refused_by e false ≡ false → mid ≡ c → z ≡ mid → OnReturn (λ k p x. IsNumber v k p x mid.floor) k e → CountAgrees v ops (after k e) c
      → StepNumbers ops (in_order (Some e) None) k c z
  quiet_step ops e k c mid z counted kept e1 e2 says a =
      let am = subst (CountAgrees v ops (after k e)) (sym e1) a in
      both_events ops ops (Some e) None k c mid z (event_numbers ops e k c mid counted kept (let f = ap (λ (y : Counted). y.floor) e1 in omega (arith, f)) says am) (no_event_numbers ops (after k e) mid z e2 am)

  module _ {P : Type 0} (b : Behaviour P) (one : HasOneWriter b) (two : b.processes ≡ 2) (Holds : Memory → Type 0) (Reaches : ℕ → Op → P → Type 0) (lawful : IsLawful b Holds Reaches) where
    role_of : (p : ℕ) (o : Op) → b.suits p o ≡ true → PlaysRoleOfTwo p o
    role_of p (op.Write x) h = writer_zero b.values b.processes p x (one p (op.Write x) h)
    role_of p op.Read h =
        let some = reader_is_not_zero b.values b.processes p (one p op.Read h) in
        let few = reader_below_processes b.values b.processes p (one p op.Read h) in
        omega (arith, some, few, two)

    invoking_numbers : (p : ℕ) (o : Op) (x : Option (Running P)) (m : Memory) (ops : ℕ → Option Op) (k : Known) (c z : Counted) → Holds m → b.suits p o ≡ true → ops p ≡ op_of x
        → NumberedStep c (invoking b p o x m).events z → CountAgrees v ops k c → StepNumbers (put p (op_of (invoking b p o x m).running) ops) (invoking b p o x m).events k c z
    invoking_numbers p o None m ops k c z h fits there n a =
        begun_numbers (Reaches p o) b.values p o (b.begins p o m).next ops k c z there (role_of p o fits) (lawful.begins_well p o m h fits).may_be_at n a
    invoking_numbers p o (Some r) m ops k c z h fits there n a =
        step_same ops (put p (Some r.op) ops) _ k c z (λ i. put_present_at p i (Some r.op) ops there) (quiet_step ops (Void p Busy) k c n.1.0 z refl refl n.1.1.0 n.1.1.1 tt a)

    going_numbers : (p : ℕ) (choice : Bool) (x : Option (Running P)) (m : Memory) (ops : ℕ → Option Op) (k : Known) (c z : Counted) → Holds m → IsReached Reaches p x → ops p ≡ op_of x
        → NumberedStep c (going b p choice x m).events z → CountAgrees v ops k c → StepNumbers (put p (op_of (going b p choice x m).running) ops) (going b p choice x m).events k c z
    going_numbers p choice None m ops k c z h reached there n a =
        step_same ops (put p None ops) _ k c z (λ i. put_present_at p i None ops there) (quiet_step ops (Void p Idle) k c n.1.0 z refl refl n.1.1.0 n.1.1.1 tt a)
    going_numbers p choice (Some r) m ops k c z h reached there n a =
        let moved = b.goes r.point choice m in
        action_numbers (Reaches p r.op) b.values p r.op moved.chosen moved.next ops k c z there (role_of p r.op (lawful.reached_suits p r.op r.point reached))
        (lawful.goes_well p r.op r.point choice m h reached).may_be_at n a

    acting_numbers : (s : Step) (x : Option (Running P)) (m : Memory) (ops : ℕ → Option Op) (k : Known) (c z : Counted) → fits_step b s ≡ true → Holds m → IsReached Reaches (process_of s) x → ops (process_of s) ≡ op_of x
        → NumberedStep c (acting b s x m).events z → CountAgrees v ops k c → StepNumbers (put (process_of s) (op_of (acting b s x m).running) ops) (acting b s x m).events k c z
    acting_numbers (step.Write p x) y m ops k c z fits h reached there n a = invoking_numbers p (op.Write x) y m ops k c z h fits there n a
    acting_numbers (step.Read p) y m ops k c z fits h reached there n a = invoking_numbers p op.Read y m ops k c z h fits there n a
    acting_numbers (step.Go p x) y m ops k c z fits h reached there n a = going_numbers p (x == 1) y m ops k c z h reached there n a
    acting_numbers (step.Stop p) y m ops k c z fits h reached there n a =
        step_same ops (put p (op_of y) ops) _ k c z (λ i. put_present_at p i (op_of y) ops there) (quiet_step ops (Stop p) k c n.1.0 z refl refl n.1.1.0 n.1.1.1 tt a)

    acting_unless_numbers : (marked : Bool) (s : Step) (x : Option (Running P)) (m : Memory) (ops : ℕ → Option Op) (k : Known) (c z : Counted) → fits_step b s ≡ true → Holds m → IsReached Reaches (process_of s) x
        → ops (process_of s) ≡ op_of x → NumberedStep c (acting_unless marked b s x m).events z → CountAgrees v ops k c
        → StepNumbers (put (process_of s) (op_of (acting_unless marked b s x m).running) ops) (acting_unless marked b s x m).events k c z
    acting_unless_numbers true s x m ops k c z fits h reached there n a =
        step_same ops (put (process_of s) (op_of x) ops) _ k c z (λ i. put_present_at (process_of s) i (op_of x) ops there) (quiet_step ops (Void (process_of s) Stopped) k c n.1.0 z refl refl n.1.1.0 n.1.1.1 tt a)
    acting_unless_numbers false s x m ops k c z fits h reached there n a = acting_numbers s x m ops k c z fits h reached there n a

    step_numbers : (d : LoneConfiguration P) (s : Step) (k : Known) (c z : Counted) → IsConfiguration b Holds Reaches d → fits_step b s ≡ true → NumberedStep c (events_of b d s) z → CountAgrees v (ops_of d) k c
        → StepNumbers (ops_of (stepped b d s)) (events_of b d s) k c z
    step_numbers d s k c z is fits n a =
        let p = process_of s in
        let done = acted_on b d s in
        let there : p < length d.running = subst (λ n. p < n) (sym is.each) (process_exists b Holds Reaches lawful s fits) in
        step_same (put p (op_of done.running) (ops_of d)) (ops_of (stepped b d s)) (events_of b d s) k c z
        (ops_after p done.running d there)
        (acting_unless_numbers (is_stopped p d) s (running_at p d) d.memory (ops_of d) k c z fits is.holds (is.reached p) refl n a)

    numbered_from : (d : LoneConfiguration P) (steps : List Step) (i : ℕ) (k : Known) (c : Counted) → IsConfiguration b Holds Reaches d → AllFit b steps → CountAgrees v (ops_of d) k c
        → Allowed NumberedStep c (history b d steps) → CanBeNumbered c.floor k (indexed i (history b d steps))
    numbered_from d [] i k c is fit a n = (refl, tt)
    numbered_from d (s ∷ steps) i k c is fit a n =
        let fits : fits_step b s ≡ true = All-head (λ x. fits_step b x ≡ true) s steps fit in
        let e : StepEvents = events_of b d s in
        let later : List StepEvents = history b (stepped b d s) steps in
        let g = step_numbers d s k c n.0 is fits n.1.0 a in
        subst (CanBeNumbered c.floor k) (sym (append_assoc (at_index i e.first) (at_index i e.second) (indexed (i + 1) later)))
        (g.join i (indexed (i + 1) later)
        (numbered_from (stepped b d s) steps (i + 1) g.next n.0 (step_keeps b Holds Reaches lawful d s is fits) (All-tail (λ x. fits_step b x ≡ true) s steps fit) g.agrees n.1.1))

    first_counts : CountAgrees v (ops_of (first_configuration b v)) (initially v) (uncounted v)
    first_counts = record {
      values = λ n l. (let e : n ≡ 0 = omega (arith, l) in ap (λ i. get_or (v ∷ []) i v) e);
      begun = omega arith;
      done = refl;
      idle = λ e. refl;
      low = λ e. absurd (let n = ap (λ (r : Option (Running P)). op_of r) (none_pending_at b.processes 1) in cc);
    }

-- a register of one writer and one reader is atomic, if its reads can be numbered step by step
pub numbered_atomic : {P : Type 0} (b : Behaviour P) (one : HasOneWriter b) (two : b.processes ≡ 2) (Holds : Memory → Type 0) (Reaches : ℕ → Op → P → Type 0) (lawful : IsLawful b Holds Reaches)
    → ((v : ℕ) (steps : List Step) → v < b.values → AllFit b steps → Allowed NumberedStep (uncounted v) (history b (first_configuration b v) steps)) → IsAtomic b
numbered_atomic b one two Holds Reaches lawful numbered = record {
  one_writer = one;
  one_reader = two;
  numbered = λ v steps lt fit.
      (numbered_from v b one two Holds Reaches lawful (first_configuration b v) steps 0 (initially v) (uncounted v)
      (first_is_configuration b Holds Reaches lawful v lt) fit (first_counts v b one two Holds Reaches lawful) (numbered v steps lt fit)).1;
}
