-- Definitions that claim that something exists: an example of each, and a near miss.
use Rattle.std.proofs.Common.{ℕ, zero, suc, ◌+◌, Option, Some, None, ◌≡◌, ◌++◌, ◌<◌, Bool, true, false, true≢false, List, [], ◌∷◌, inr, ⊎_elim, drop, slice_index_or, ap, refl, sym, ◌∙◌, subst, arith}
use Rattle.std.proofs.Common.{nat_eq, nat_lt, ltb-true, if◌then◌else◌}
use mathlib.Core.Bool.{◌&&◌}
use Rattle.std.specs.List.{list_any}
use Rattle.std.proofs.lemmas.List.Elements.{All-nil, All-cons, All-head}
use Rattle.frames.specs.declared.types.Op.{Op}
use Rattle.frames.specs.declared.types.Op.TheVariants.{Write, Read}
use Rattle.frames.specs.declared.types.Layer.{Layer}
use Rattle.frames.specs.declared.types.Layer.TheVariants.{Stamped, Matrix}
use Rattle.frames.specs.declared.types.Event.{Event}
use Rattle.frames.specs.declared.types.Event.TheVariants.{Invoke, Got, Wrote, Refused, Stop}
use Rattle.frames.specs.declared.types.Step.{Step}
use Rattle.frames.specs.declared.types.Step.TheVariants as step
use Rattle.frames.specs.declared.verdict.ReadVerdict.{ReadVerdict}
use Rattle.frames.specs.declared.verdict.Verdict.{Verdict}
use Rattle.frames.specs.declared.verdict.Verdict.TheVariants.{Fresh, Stray}
use Rattle.frames.specs.declared.safe.SafePoint.{SafePoint}
use Rattle.frames.specs.SafeBit.{safe_behaviour}
use Rattle.frames.specs.Behaviour.{Behaviour}
use Rattle.frames.specs.Configuration.{fits_step}
use Rattle.frames.specs.Recorded.{AllFit, recorded}
use Rattle.frames.specs.correctness.Verdicts.{verdicts}
use Rattle.pages.specs.VerdictWords.{begins_or_ends, IsQuiet, InProgress, Follows, ReturnedRead, IsLastReturnedWrite, IsVerdictOn, EndsBy, IsOverlapping, IsJudged}
use Rattle.pages.specs.LawWords.{IsWrite, AreNumbered}
use Rattle.pages.specs.Linearizability.{Operation, EndsAt, Order, IsWriteBefore, IsLastWrite, IsValueAt, HasLinearization}
use Rattle.pages.specs.Linearizability as linear
use Rattle.pages.proofs.VerdictKnown.{no_event}
use Rattle.pages.proofs.Linearizations.{is_own, ranks_linearize}
use Rattle.pages.specs.Strays.{AreVerdictsOn}

abbrev Events : Type 0
Events = List (ℕ × Event)

-- the event at an index of a list
abbrev event_at_index : ℕ → Events → Event
event_at_index k events = (slice_index_or events k (0, Stop 9)).1

-- the value of the write that an event invokes, and (`returning_writer`) the process whose write
-- returns in it; 7 for any other event
abbrev written_value : Event → ℕ
written_value (Invoke p (Write v)) = v
written_value e = 7

abbrev returning_writer : Event → ℕ
returning_writer (Wrote p) = p
returning_writer e = 7

wrote_is_not_invocation : (p q : ℕ) (o : Op) → Wrote p ≡ Invoke q o → ⊥
wrote_is_not_invocation p q o e = cc

read_is_not_write : (v : ℕ) → Read ≡ Write v → ⊥
read_is_not_write v e = cc

abbrev invoked_op : Event → Op
invoked_op (Invoke p o) = o
invoked_op e = Read

-- process 0 begins to write 1
abbrev write_begins : ℕ × Event
write_begins = (0, Invoke 0 (Write 1))

-- process 1 begins to read, whether or not the write has returned
abbrev read_begins : ℕ × Event
read_begins = (2, Invoke 1 Read)

-- process 0 is writing 1 as process 1 reads
InProgress-holds : InProgress 0 (Write 1) (write_begins ∷ read_begins ∷ [])
InProgress-holds = record { earlier = []; step = 0; since = read_begins ∷ []; split = refl; quiet = refl }

-- the write of process 0 has returned
InProgress-fails : InProgress 0 (Write 1) (write_begins ∷ (1, Wrote 0) ∷ []) → ⊥
InProgress-fails h = by h.earlier h.step h.since h.split h.quiet
  where
    by : (earlier : Events) (k : ℕ) (since : Events) → write_begins ∷ (1, Wrote 0) ∷ [] ≡ earlier ++ (k, Invoke 0 (Write 1)) ∷ since → IsQuiet 0 since → ⊥
    by [] k since e quiet = true≢false (ap (λ events. list_any (λ e. begins_or_ends 0 e.1) events) (ap (drop 1) e) ∙ quiet)
    by (x ∷ []) k since e quiet = wrote_is_not_invocation 0 0 (Write 1) (ap (event_at_index 1) e)
    by (x ∷ y ∷ earlier) k since e quiet = no_event earlier _ since (ap (drop 2) e)

-- no write is in progress after a read alone, or after the write of another value
no_write : (v : ℕ) → InProgress 0 (Write v) (read_begins ∷ []) → ⊥
no_write v h = by h.earlier h.step h.since h.split
  where
    by : (earlier : Events) (k : ℕ) (since : Events) → read_begins ∷ [] ≡ earlier ++ (k, Invoke 0 (Write v)) ∷ since → ⊥
    by [] k since e = read_is_not_write v (ap invoked_op (ap (event_at_index 0) e))
    by (x ∷ earlier) k since e = no_event earlier _ since (ap (drop 1) e)

no_other_write : InProgress 0 (Write 0) (write_begins ∷ []) → ⊥
no_other_write h = by h.earlier h.step h.since h.split
  where
    by : (earlier : Events) (k : ℕ) (since : Events) → write_begins ∷ [] ≡ earlier ++ (k, Invoke 0 (Write 0)) ∷ since → ⊥
    by [] k since e = let same : 1 ≡ 0 = ap written_value (ap (event_at_index 0) e) in omega (arith, same)
    by (x ∷ earlier) k since e = no_event earlier _ since (ap (drop 1) e)

-- a write can return after its invocation
Follows-holds : Follows (write_begins ∷ []) (Wrote 0)
Follows-holds = (1, record { earlier = []; step = 0; since = []; split = refl; quiet = refl })

-- a write can't return if the process has invoked a read
Follows-fails : Follows (read_begins ∷ []) (Wrote 0) → ⊥
Follows-fails h = no_write h.0 h.1

-- process 1 reads 0
abbrev one_read : Events
one_read = read_begins ∷ (3, Got 1 0) ∷ []

abbrev read_of_0 : ReturnedRead one_read
read_of_0 = record { process = 1; value = 0; earlier = []; invoked = 2; since = []; returned = 3; later = []; split = refl; quiet = refl }

-- a read that was invoked and returned
ReturnedRead-holds : ReturnedRead one_read
ReturnedRead-holds = read_of_0

-- a read that was only invoked
ReturnedRead-fails : ReturnedRead (read_begins ∷ []) → ⊥
ReturnedRead-fails h = by h.earlier h.since h.later h.split
  where
    by : (earlier since later : Events) → read_begins ∷ [] ≡ (earlier ++ (h.invoked, Invoke h.process Read) ∷ since) ++ (h.returned, Got h.process h.value) ∷ later → ⊥
    by [] since later e = no_event since _ later (ap (drop 1) e)
    by (x ∷ earlier) since later e = no_event (earlier ++ (h.invoked, Invoke h.process Read) ∷ since) _ later (ap (drop 1) e)

-- the write of 1 is the last that returned
IsLastReturnedWrite-holds : IsLastReturnedWrite 1 (write_begins ∷ (1, Wrote 0) ∷ [])
IsLastReturnedWrite-holds = record { earlier = write_begins ∷ []; step = 1; since = []; split = refl; write = record { earlier = []; step = 0; since = []; split = refl; quiet = refl }; last = refl }

-- the last write that returned was not one of 0
IsLastReturnedWrite-fails : IsLastReturnedWrite 0 (write_begins ∷ (1, Wrote 0) ∷ []) → ⊥
IsLastReturnedWrite-fails h = by h.earlier h.step h.since h.split h.write
  where
    by : (earlier : Events) (k : ℕ) (since : Events) → write_begins ∷ (1, Wrote 0) ∷ [] ≡ earlier ++ (k, Wrote 0) ∷ since → InProgress 0 (Write 0) earlier → ⊥
    by [] k since e write = wrote_is_not_invocation 0 0 (Write 1) (sym (ap (event_at_index 0) e))
    by (x ∷ []) k since e write =
        no_other_write (subst (λ x. InProgress 0 (Write 0) (x ∷ [])) (sym (ap (λ events. slice_index_or events 0 read_begins) e)) write)
    by (x ∷ y ∷ earlier) k since e write = no_event earlier _ since (ap (drop 2) e)

-- the write of process 0 returns while process 1 reads
EndsBy-holds : EndsBy 0 (Wrote 0) (read_begins ∷ (3, Wrote 0) ∷ [])
EndsBy-holds = record { before = read_begins ∷ []; step = 3; later = []; split = refl; quiet = refl }

-- the write is refused, and another write returns
EndsBy-fails : EndsBy 0 (Wrote 0) ((1, Refused 0 Stamped) ∷ (3, Wrote 0) ∷ []) → ⊥
EndsBy-fails h = by h.before h.step h.later h.split h.quiet
  where
    refused : Refused 0 Stamped ≡ Wrote 0 → ⊥
    refused e = cc

    by : (before : Events) (k : ℕ) (later : Events) → (1, Refused 0 Stamped) ∷ (3, Wrote 0) ∷ [] ≡ before ++ (k, Wrote 0) ∷ later → IsQuiet 0 before → ⊥
    by [] k later e quiet = refused (ap (event_at_index 0) e)
    by (x ∷ []) k later e quiet =
        true≢false (subst (λ x. IsQuiet 0 (x ∷ [])) (sym (ap (λ events. slice_index_or events 0 read_begins) e)) quiet)
    by (x ∷ y ∷ before) k later e quiet = no_event before _ later (ap (drop 2) e)

no_end : (event : Event) → EndsBy 0 event [] → ⊥
no_end event h = no_event h.before _ h.later h.split

-- the write of 1 is in progress as process 1 reads
IsOverlapping-holds : IsOverlapping 1 (write_begins ∷ []) (read_begins ∷ []) []
IsOverlapping-holds = record { before = []; step = 0; since = read_begins ∷ []; split = refl; unreturned = unreturned; unrefused = unrefused }
  where
    unreturned : (rest : Events) → write_begins ∷ [] ≡ write_begins ∷ rest → EndsBy 0 (Wrote 0) rest → ⊥
    unreturned rest e h = no_end (Wrote 0) (subst (EndsBy 0 (Wrote 0)) (sym (ap (drop 1) e)) h)

    invoked_refused : (layer : Layer) → Invoke 1 Read ≡ Refused 0 layer → ⊥
    invoked_refused layer e = cc

    unrefused : (layer : Layer) → EndsBy 0 (Refused 0 layer) (read_begins ∷ []) → ⊥
    unrefused layer h = by h.before h.step h.later h.split
      where
        by : (before : Events) (k : ℕ) (later : Events) → read_begins ∷ [] ≡ before ++ (k, Refused 0 layer) ∷ later → ⊥
        by [] k later e = invoked_refused layer (ap (event_at_index 0) e)
        by (x ∷ before) k later e = no_event before _ later (ap (drop 1) e)

-- the write of 1 had returned before
IsOverlapping-fails : IsOverlapping 1 (write_begins ∷ (1, Wrote 0) ∷ []) (read_begins ∷ []) ((3, Got 1 1) ∷ []) → ⊥
IsOverlapping-fails h = by h.before h.step h.since h.split h.unreturned
  where
    by : (before : Events) (k : ℕ) (since : Events) → write_begins ∷ (1, Wrote 0) ∷ read_begins ∷ [] ≡ before ++ (k, Invoke 0 (Write 1)) ∷ since
        → ((rest : Events) → write_begins ∷ (1, Wrote 0) ∷ [] ≡ before ++ (k, Invoke 0 (Write 1)) ∷ rest → EndsBy 0 (Wrote 0) rest → ⊥) → ⊥
    by [] k since e unreturned =
        unreturned ((1, Wrote 0) ∷ []) (ap (λ k. (k, Invoke 0 (Write 1)) ∷ (1, Wrote 0) ∷ []) (ap (λ events. (slice_index_or events 0 read_begins).0) e))
        (record { before = []; step = 1; later = []; split = refl; quiet = refl })
    by (x ∷ []) k since e unreturned = wrote_is_not_invocation 0 0 (Write 1) (ap (event_at_index 1) e)
    by (x ∷ y ∷ []) k since e unreturned = read_is_not_write 1 (ap invoked_op (ap (event_at_index 2) e))
    by (x ∷ y ∷ z ∷ before) k since e unreturned = no_event before _ since (ap (drop 3) e)

-- the write of process 0 is refused after process 1 has read
abbrev refusal_after_read : Events
refusal_after_read = (3, Got 1 1) ∷ (4, Refused 0 Stamped) ∷ []

-- the first write, of 1, isn't refused
IsWrite-holds : IsWrite 1 1 (write_begins ∷ []) []
IsWrite-holds = record { before = []; step = 0; since = []; split = refl; unrefused = λ layer h. no_end (Refused 0 layer) h; number = refl }

-- the write is refused, although only after the read has returned
IsWrite-fails : IsWrite 1 1 (write_begins ∷ read_begins ∷ []) refusal_after_read → ⊥
IsWrite-fails h = by h.before h.step h.since h.split (h.unrefused Stamped)
  where
    end : EndsBy 0 (Refused 0 Stamped) ((read_begins ∷ []) ++ refusal_after_read)
    end = record { before = read_begins ∷ (3, Got 1 1) ∷ []; step = 4; later = []; split = refl; quiet = refl }

    by : (before : Events) (k : ℕ) (since : Events) → write_begins ∷ read_begins ∷ [] ≡ before ++ (k, Invoke 0 (Write 1)) ∷ since → (EndsBy 0 (Refused 0 Stamped) (since ++ refusal_after_read) → ⊥) → ⊥
    by [] k since e unrefused = unrefused (subst (λ since. EndsBy 0 (Refused 0 Stamped) (since ++ refusal_after_read)) (ap (drop 1) e) end)
    by (x ∷ []) k since e unrefused = read_is_not_write 1 (ap invoked_op (ap (event_at_index 1) e))
    by (x ∷ y ∷ before) k since e unrefused = no_event before _ since (ap (drop 2) e)

-- a history with no read has no number to give
AreNumbered-holds : AreNumbered 0 (write_begins ∷ [])
AreNumbered-holds = record { number = λ i. 0; rises = λ i j le. omega arith; each = λ r. absurd (none r) }
  where
    none : ReturnedRead (write_begins ∷ []) → ⊥
    none r = at r.earlier r.since r.later r.split
      where
        at : (earlier since later : Events) → write_begins ∷ [] ≡ (earlier ++ (r.invoked, Invoke r.process Read) ∷ since) ++ (r.returned, Got r.process r.value) ∷ later → ⊥
        at [] since later e = no_event since _ later (ap (drop 1) e)
        at (x ∷ earlier) since later e = no_event (earlier ++ (r.invoked, Invoke r.process Read) ∷ since) _ later (ap (drop 1) e)

-- the value that is read was never written
AreNumbered-fails : AreNumbered 1 one_read → ⊥
AreNumbered-fails h = ⊎_elim initial written (h.each read_of_0).write
  where
    initial : (h.number 0 ≡ 0) × (◌≡◌ {A = ℕ} 0 1) → ⊥
    initial z = let same : ◌≡◌ {A = ℕ} 0 1 = z.1 in omega (arith, same)

    written : IsWrite (h.number 0) 0 (read_begins ∷ []) ((3, Got 1 0) ∷ []) → ⊥
    written w = by w.before w.step w.since w.split
      where
        by : (before : Events) (k : ℕ) (since : Events) → read_begins ∷ [] ≡ before ++ (k, Invoke 0 (Write 0)) ∷ since → ⊥
        by [] k since e = read_is_not_write 0 (ap invoked_op (ap (event_at_index 0) e))
        by (x ∷ before) k since e = no_event before _ since (ap (drop 1) e)

-- a read of the initial value, with no write, is fresh, and is the first that is judged
IsJudged-holds : IsJudged 0 one_read read_of_0
IsJudged-holds = record { verdict = Fresh; on_it = inr (refl, refl); before = []; following = []; split = refl; place = refl }

-- process 1 writes 1, although only process 0 may write, and process 2 reads the 1
abbrev write_by_reader : Events
write_by_reader = (0, Invoke 1 (Write 1)) ∷ (1, Wrote 1) ∷ (2, Invoke 2 Read) ∷ (3, Got 2 1) ∷ []

abbrev read_of_1 : ReturnedRead write_by_reader
read_of_1 = record {
  process = 2;
  value = 1;
  earlier = (0, Invoke 1 (Write 1)) ∷ (1, Wrote 1) ∷ [];
  invoked = 2;
  since = [];
  returned = 3;
  later = [];
  split = refl;
  quiet = refl;
}

abbrev first_verdict : List ReadVerdict → Verdict
first_verdict [] = Stray
first_verdict (read ∷ more) = read.verdict

-- the verdict on that read is fresh, and yet no write of process 0 has returned
IsJudged-fails : IsJudged 0 write_by_reader read_of_1 → ⊥
IsJudged-fails h = by h.before h.verdict h.following h.split h.on_it
  where
    none : (front back : List ReadVerdict) (r : ReadVerdict) → [] ≡ front ++ r ∷ back → ⊥
    none [] back r e = cc
    none (x ∷ front) back r e = cc

    last : IsLastReturnedWrite 1 ((0, Invoke 1 (Write 1)) ∷ (1, Wrote 1) ∷ []) → ⊥
    last w = at w.earlier w.step w.since w.split
      where
        at : (earlier : Events) (k : ℕ) (since : Events) → (0, Invoke 1 (Write 1)) ∷ (1, Wrote 1) ∷ [] ≡ earlier ++ (k, Wrote 0) ∷ since → ⊥
        at [] k since e = wrote_is_not_invocation 0 1 (Write 1) (sym (ap (event_at_index 0) e))
        at (x ∷ []) k since e = let same : 1 ≡ 0 = ap returning_writer (ap (event_at_index 1) e) in omega (arith, same)
        at (x ∷ y ∷ earlier) k since e = no_event earlier _ since (ap (drop 2) e)

    fresh : IsVerdictOn 0 read_of_1 Fresh → ⊥
    fresh is = ⊎_elim last (λ first. true≢false first.0) is

    by : (before : List ReadVerdict) (verdict : Verdict) (others : List ReadVerdict)
        → verdicts 0 write_by_reader ≡ before ++ record { step = 3; process = 2; value = 1; verdict = verdict } ∷ others → IsVerdictOn 0 read_of_1 verdict → ⊥
    by [] verdict others e is =
        let same : Fresh ≡ verdict = ap first_verdict e in
        fresh (subst (IsVerdictOn 0 read_of_1) (sym same) is)
    by (x ∷ before) verdict others e is = none before others _ (ap (drop 1) e)

-- the verdict on a read of 0 by process 1 that returns in the step with index 2
abbrev fresh_read_verdict : ReadVerdict
fresh_read_verdict = record { step = 2; process = 1; value = 0; verdict = Fresh }

-- process 1 reads a safe bit whose value is 0: one invocation and two bit actions
AreVerdictsOn-holds : AreVerdictsOn safe_behaviour (fresh_read_verdict ∷ [])
AreVerdictsOn-holds = record { value = 0; steps = step.Read 1 ∷ step.Go 1 0 ∷ step.Go 1 0 ∷ []; within = omega arith; fit = fit; judged = refl }
  where
    fits : Step → Type 0
    fits s = fits_step safe_behaviour s ≡ true

    fit : AllFit safe_behaviour (step.Read 1 ∷ step.Go 1 0 ∷ step.Go 1 0 ∷ [])
    fit = All-cons fits (step.Read 1) (step.Go 1 0 ∷ step.Go 1 0 ∷ []) refl
        (All-cons fits (step.Go 1 0) (step.Go 1 0 ∷ []) refl (All-cons fits (step.Go 1 0) [] refl (All-nil fits)))

-- a bit on which no process makes a step
abbrev unused_bit : Behaviour SafePoint
unused_bit = record safe_behaviour { processes = 0; suits = λ who o. false }

none_below_zero : (p : ℕ) (b : Bool) → (nat_lt p 0 && b) ≡ true → ⊥
none_below_zero p b h = by (nat_lt p 0) refl h
  where
    by : (c : Bool) → nat_lt p 0 ≡ c → (c && b) ≡ true → ⊥
    by true e h = let less : p < 0 = ltb-true p 0 e in omega (arith, less)
    by false e h = true≢false (sym h)

no_step : (s : Step) → fits_step unused_bit s ≡ true → ⊥
no_step (step.Write p v) e = true≢false (sym e)
no_step (step.Read p) e = true≢false (sym e)
no_step (step.Go p c) e = none_below_zero p (nat_lt c 2) e
no_step (step.Stop p) e = let less : p < 0 = ltb-true p 0 e in omega (arith, less)

-- no read of that bit is judged
AreVerdictsOn-fails : AreVerdictsOn unused_bit (fresh_read_verdict ∷ []) → ⊥
AreVerdictsOn-fails h = by h.steps h.fit h.judged
  where
    none : fresh_read_verdict ∷ [] ≡ [] → ⊥
    none e = cc

    by : (steps : List Step) → AllFit unused_bit steps → fresh_read_verdict ∷ [] ≡ verdicts h.value (recorded unused_bit h.value steps) → ⊥
    by [] fit e = none e
    by (s ∷ steps) fit e = no_step s (All-head (λ s. fits_step unused_bit s ≡ true) s steps fit)

-- process 1 reads 1, while process 0 is writing it
abbrev pending_write : Events
pending_write = write_begins ∷ read_begins ∷ (3, Got 1 1) ∷ []

-- Operation: event number 1 invokes a read
Operation-holds : Operation pending_write
Operation-holds = record { number = 1; process = 1; op = Read; invoked = refl }

-- Operation: no event invokes one
Operation-fails : Operation ((3, Got 1 1) ∷ []) → ⊥
Operation-fails a = by a.number a.invoked
  where
    by : (n : ℕ) → linear.event_at ((3, Got 1 1) ∷ []) n ≡ Some (Invoke a.process a.op) → ⊥
    by zero e = cc
    by (suc n) e = cc

-- the write first, and then the read
abbrev write_then_read : Order
write_then_read = record { has = λ n. true; place = λ n. n }

-- the write of 1 is at place 0, and so before place 1
IsLastWrite-holds : IsLastWrite pending_write write_then_read 1 1
IsLastWrite-holds = record {
  write = record { number = 0; process = 0; op = Write 1; invoked = refl };
  is_before = record { writes = refl; in_it = refl; before = omega arith };
  last = λ other u w. let before = w.before in omega (arith, before);
}

-- no write is before place 0
IsLastWrite-fails : IsLastWrite pending_write write_then_read 0 1 → ⊥
IsLastWrite-fails h = let before = h.is_before.before in omega (arith, before)

-- HasLinearization: the pending write is in the order, and the read comes after it
HasLinearization-holds : HasLinearization 0 pending_write
HasLinearization-holds = ranks_linearize 0 pending_write (0, (Some 1, ((omega arith, refl), (None, (tt, (Some 1, ((omega arith, refl), tt)))))))

-- one more than the value of the write that an event invokes; 0 for any other event
abbrev value_written_plus_1 : Option Event → ℕ
value_written_plus_1 (Some (Invoke p (Write v))) = v + 1
value_written_plus_1 e = 0

-- for the event that invokes a write of v, `value_written_plus_1` gives v + 1
invokes_write : {history : Events} (v : ℕ) (a : Operation history) → a.op ≡ Write v → value_written_plus_1 (linear.event_at history a.number) ≡ v + 1
invokes_write v a is = ap value_written_plus_1 (a.invoked ∙ ap (λ o. Some (Invoke a.process o)) is)

-- 1 isn't the initial value, 0
not_initial : ◌≡◌ {A = ℕ} 1 0 → ⊥
not_initial e = omega (arith, e)

-- an operation ends in the event after its invocation, if that is an event of its process
ends_next : {history : Events} (a : Operation history) (end : Event) → linear.event_at history (a.number + 1) ≡ Some end → begins_or_ends a.process end ≡ true
    → EndsAt a (a.number + 1) end
ends_next a end there own = record { later = omega arith; there = there; own = own; first = λ k other low high. absurd (omega (arith, low, high)) }

-- whether no event of a history invokes a write of 0
abbrev never_zero : Events → Bool
never_zero [] = true
never_zero (e ∷ history) = if nat_eq (value_written_plus_1 (Some e.1)) 1 then false else never_zero history

never_later : (b later : Bool) → (if b then false else later) ≡ true → later ≡ true
never_later true later never = absurd (true≢false (sym never))
never_later false later never = never

no_zero : (history : Events) → never_zero history ≡ true → (n : ℕ) → value_written_plus_1 (linear.event_at history n) ≡ 1 → ⊥
no_zero [] never n e = omega (arith, e)
no_zero (x ∷ history) never zero e = true≢false (sym (subst (λ w. (if nat_eq w 1 then false else never_zero history) ≡ true) e never))
no_zero (x ∷ history) never (suc n) e = no_zero history (never_later (nat_eq (value_written_plus_1 (Some x.1)) 1) (never_zero history) never) n e

-- while process 0 is writing 1, process 1 reads it, and then process 2 the older 0
abbrev new_then_old : Events
new_then_old = write_begins ∷ read_begins ∷ (3, Got 1 1) ∷ (4, Invoke 2 Read) ∷ (5, Got 2 0) ∷ []

-- HasLinearization fails: the write comes before the first read, and so before the second
HasLinearization-fails : HasLinearization 0 new_then_old → ⊥
HasLinearization-fails h = ⊎_elim older (λ none. ⊎_elim (newer none.0) (λ start. not_initial start.1) (h.reads first 2 1 refl ended)) (h.reads second 4 0 refl ends)
  where
    first : Operation new_then_old
    first = record { number = 1; process = 1; op = Read; invoked = refl }

    second : Operation new_then_old
    second = record { number = 3; process = 2; op = Read; invoked = refl }

    ended : EndsAt first 2 (Got 1 1)
    ended = ends_next first (Got 1 1) refl refl

    ends : EndsAt second 4 (Got 2 0)
    ends = ends_next second (Got 2 0) refl refl

    older : IsLastWrite new_then_old h.order (h.order.place 3) 0 → ⊥
    older l = no_zero new_then_old refl l.write.number (invokes_write 0 l.write l.is_before.writes)

    newer : ((other : Operation new_then_old) (u : ℕ) → IsWriteBefore h.order (h.order.place 3) u other → ⊥) → IsLastWrite new_then_old h.order (h.order.place 1) 1 → ⊥
    newer none l =
        let before = l.is_before.before in
        let less = h.in_time first second 2 (Got 1 1) ended refl (omega arith) (h.returned second 4 (Got 2 0) ends refl) in
        none l.write 1 (record { writes = l.is_before.writes; in_it = l.is_before.in_it; before = omega (arith, before, less) })

-- a write of 1 returns, and then a read gives 0
abbrev lost_write : Events
lost_write = write_begins ∷ (1, Wrote 0) ∷ read_begins ∷ (3, Got 1 0) ∷ []

-- HasLinearization fails: the write comes before the read
lost_write-fails : HasLinearization 0 lost_write → ⊥
lost_write-fails h = ⊎_elim older (λ none. none.0 write 1 (record { writes = refl; in_it = h.returned write 1 (Wrote 0) done refl; before = first })) (h.reads read 3 0 refl ends)
  where
    write : Operation lost_write
    write = record { number = 0; process = 0; op = Write 1; invoked = refl }

    read : Operation lost_write
    read = record { number = 2; process = 1; op = Read; invoked = refl }

    done : EndsAt write 1 (Wrote 0)
    done = ends_next write (Wrote 0) refl refl

    ends : EndsAt read 3 (Got 1 0)
    ends = ends_next read (Got 1 0) refl refl

    first : h.order.place 0 < h.order.place 2
    first = h.in_time write read 1 (Wrote 0) done refl (omega arith) (h.returned read 3 (Got 1 0) ends refl)

    older : IsLastWrite lost_write h.order (h.order.place 2) 0 → ⊥
    older l = no_zero lost_write refl l.write.number (invokes_write 0 l.write l.is_before.writes)

-- a read gives 1, and then 1 is written
abbrev early_read : Events
early_read = (0, Invoke 1 Read) ∷ (1, Got 1 1) ∷ (2, Invoke 0 (Write 1)) ∷ (3, Wrote 0) ∷ []

-- HasLinearization fails: the write comes after the read
early_read-fails : HasLinearization 0 early_read → ⊥
early_read-fails h = ⊎_elim later (λ none. not_initial none.1) (h.reads read 1 1 refl ends)
  where
    read : Operation early_read
    read = record { number = 0; process = 1; op = Read; invoked = refl }

    ends : EndsAt read 1 (Got 1 1)
    ends = ends_next read (Got 1 1) refl refl

    is_later : (n : ℕ) → value_written_plus_1 (linear.event_at early_read n) ≡ 1 + 1 → 1 < n
    is_later zero e = absurd (omega (arith, e))
    is_later (suc zero) e = absurd (omega (arith, e))
    is_later (suc (suc n)) e = omega arith

    later : IsLastWrite early_read h.order (h.order.place 0) 1 → ⊥
    later l =
        let before = l.is_before.before in
        let after = h.in_time read l.write 1 (Got 1 1) ends refl (is_later l.write.number (invokes_write 1 l.write l.is_before.writes)) l.is_before.in_it in
        omega (arith, before, after)

-- a read gives 1 while 1 is being written, and then the write is refused
abbrev refused_was_read : Events
refused_was_read = write_begins ∷ read_begins ∷ (3, Got 1 1) ∷ (4, Refused 0 Matrix) ∷ []

-- HasLinearization fails: the refused write isn't in the order
refused_was_read-fails : HasLinearization 0 refused_was_read → ⊥
refused_was_read-fails h = ⊎_elim from_it (λ none. not_initial none.1) (h.reads read 2 1 refl ends)
  where
    write : Operation refused_was_read
    write = record { number = 0; process = 0; op = Write 1; invoked = refl }

    read : Operation refused_was_read
    read = record { number = 1; process = 1; op = Read; invoked = refl }

    ends : EndsAt read 2 (Got 1 1)
    ends = ends_next read (Got 1 1) refl refl

    between : (k : ℕ) (other : Event) → 0 < k → k < 3 → linear.event_at refused_was_read k ≡ Some other → begins_or_ends 0 other ≡ false
    between zero other low high e = absurd (omega (arith, low))
    between (suc zero) other low high e = sym (ap (is_own 0) e)
    between (suc (suc zero)) other low high e = sym (ap (is_own 0) e)
    between (suc (suc (suc k))) other low high e = absurd (omega (arith, high))

    out : h.order.has 0 ≡ false
    out = h.refused write 3 Matrix (record { later = omega arith; there = refl; own = refl; first = between })

    at_zero : (n : ℕ) → value_written_plus_1 (linear.event_at refused_was_read n) ≡ 1 + 1 → n ≡ 0
    at_zero zero e = refl
    at_zero (suc zero) e = absurd (omega (arith, e))
    at_zero (suc (suc zero)) e = absurd (omega (arith, e))
    at_zero (suc (suc (suc zero))) e = absurd (omega (arith, e))
    at_zero (suc (suc (suc (suc n)))) e = absurd (omega (arith, e))

    from_it : IsLastWrite refused_was_read h.order (h.order.place 1) 1 → ⊥
    from_it l = true≢false (sym l.is_before.in_it ∙ ap h.order.has (at_zero l.write.number (invokes_write 1 l.write l.is_before.writes)) ∙ out)
