-- What a register records is a well-formed history; if the register has one writer, it is also a
-- history of such a register (`IsOneWriterHistory`). The proof goes event by event.
use Rattle.std.proofs.Common.{◌≡◌, ℕ, ◌+◌, ◌<◌, Bool, true, false, ◌&&◌, List, [], ◌∷◌, ◌++◌, length, Option, Some, None, ◌⊎◌, inl, inr, refl, sym, ap, subst, ◌∙◌, true≢false, arith, eq-eqb, replicate, append_assoc}
use Rattle.std.specs.Prelude.{◌==◌}
use Rattle.std.specs.List.{list_any, list_all}
use Rattle.std.proofs.lemmas.Bool.{cases_eq, or_parts, ne_eqb}
use Rattle.std.proofs.lemmas.Bool.Decides.{nat_tests}
use Rattle.std.proofs.lemmas.List.{append-nil, get_or-set_same, get_or-set_other}
use Rattle.std.proofs.lemmas.List.Folds.{list_any-append, list_all-append}
use Rattle.std.proofs.lemmas.List.Elements.{All-head, All-tail}
use Rattle.frames.proofs.Pending.{op_of, none_pending_at}
use Rattle.safe_bit.specs.Memory.{Memory}
use Rattle.frames.specs.declared.types.Op.{Op}
use Rattle.frames.specs.declared.types.Op.TheVariants as op
use Rattle.frames.specs.declared.types.Step.{Step}
use Rattle.frames.specs.declared.types.Step.TheVariants as step
use Rattle.frames.specs.declared.types.Next.{Next}
use Rattle.frames.specs.declared.types.Next.TheVariants.{Pending, Done}
use Rattle.frames.specs.declared.types.Outcome.TheVariants.{Value, Written, Spent}
use Rattle.frames.specs.declared.types.Reason.TheVariants.{Busy, Idle, Stopped}
use Rattle.frames.specs.declared.types.Event.{Event}
use Rattle.frames.specs.declared.types.Event.TheVariants.{Invoke, Got, Wrote, Refused, Void, Stop, Chosen}
use Rattle.frames.specs.declared.types.StepEvents.{StepEvents}
use Rattle.frames.specs.declared.running.Running.{Running}
use Rattle.frames.specs.Behaviour.{Behaviour, IsLawful, ReachedOrAnswered, Answers}
use Rattle.frames.specs.Steps.{process_of}
use Rattle.frames.specs.OneWriter.{HasOneWriter}
use Rattle.frames.specs.Configuration.{Configuration, running_at, is_stopped, fits_step, stepped, history, events_of, acted_on, acting, acting_unless, invoking, going, return_of, still_running, chosen_of, in_order}
use Rattle.frames.specs.StoredConfiguration.{IsConfiguration}
use Rattle.frames.specs.laws.Steps.{IsReached, initial_is_configuration, process_exists, step_keeps}
use Rattle.frames.specs.laws.OneWriter.{writer_zero, reader_is_not_zero}
use Rattle.frames.specs.Recorded.{at_index, indexed}
use Rattle.frames.specs.Recorded.{AllFit}
use Rattle.frames.specs.Recorded.{first_configuration, recorded}
use Rattle.pages.specs.VerdictWords.{begins_or_ends, IsQuiet, InProgress, suits_role, Follows, IsWellFormed, RecordsWellFormed, RecordsOneWriter, RecordsJudged}
use Rattle.pages.proofs.VerdictKnown.{no_event, with_event, progress_still}
use Rattle.pages.proofs.VerdictOverlaps.{parted_at, rest_then_later}
use Rattle.pages.proofs.VerdictWords.{judged_in_words}

quiet-left : (p : ℕ) (xs ys : List (ℕ × Event)) → IsQuiet p (xs ++ ys) → IsQuiet p xs
quiet-left p xs ys q = (or_parts (list_any (λ e. begins_or_ends p e.1) xs) (list_any (λ e. begins_or_ends p e.1) ys) (sym (list_any-append (λ e. begins_or_ends p e.1) xs ys) ∙ q)).0

quiet-right : (p : ℕ) (xs ys : List (ℕ × Event)) → IsQuiet p (xs ++ ys) → IsQuiet p ys
quiet-right p xs ys q = (or_parts (list_any (λ e. begins_or_ends p e.1) xs) (list_any (λ e. begins_or_ends p e.1) ys) (sym (list_any-append (λ e. begins_or_ends p e.1) xs ys) ∙ q)).1

-- if a list of one event is split at an event, that is the one, and no event is before it
only_one : (s since : List (ℕ × Event)) (x y : ℕ × Event) → x ∷ [] ≡ s ++ y ∷ since → (s ≡ []) × (x ≡ y)
only_one [] since x y h = (refl, cc h)
only_one (z ∷ []) since x y h = cc h
only_one (z ∷ w ∷ s) since x y h = cc h

-- a well-formed history; and if `One` holds, then each process has its role in it
record IsHistory (One : Type 0) (events : List (ℕ × Event)) : Type 0 where
  roles : One → list_all (λ e. suits_role e.1) events ≡ true
  follows : IsWellFormed events

empty_is_history : {One : Type 0} → IsHistory One []
empty_is_history = record { roles = λ one. refl; follows = λ earlier i e later s. absurd (no_event earlier (i, e) later s) }

-- an event that can follow makes a longer history
history_with : {One : Type 0} (before : List (ℕ × Event)) (i : ℕ) (e : Event) → IsHistory One before → Follows before e → (One → suits_role e ≡ true) → IsHistory One (with_event before i e)
history_with before i e h f r = record {
  roles = λ one. list_all-append (λ x. suits_role x.1) before ((i, e) ∷ []) ∙ ap (λ b. b && (suits_role e && true)) (h.roles one) ∙ ap (λ b. b && true) (r one);
  follows = λ earlier j d later s. elim (parted_at before ((i, e) ∷ []) earlier later (j, d) s) [
    | inl second ↦
        let one = only_one second.0 later (i, e) (j, d) second.2 in
        let whole : before ≡ earlier = sym (second.1 ∙ ap (λ xs. before ++ xs) one.0 ∙ append-nil before) in
        subst (λ x. Follows x d) whole (subst (Follows before) (ap (λ (x : ℕ × Event). x.1) one.1) f)
    | inr first ↦ h.follows earlier j d first.0 first.1
  ];
}

-- what a process has pending after events: an operation in progress, or none
abbrev HasPending : ℕ → List (ℕ × Event) → Option Op → Type 0
HasPending p before None = (o : Op) → ¬ InProgress p o before
HasPending p before (Some o) = InProgress p o before

-- an operation in progress after one more event was so before, or is invoked by it
progress_before : (p : ℕ) (o : Op) (before : List (ℕ × Event)) (i : ℕ) (e : Event) → InProgress p o (with_event before i e) → (e ≡ Invoke p o) ⊎ ((begins_or_ends p e ≡ false) × InProgress p o before)
progress_before p o before i e w =
    elim (parted_at before ((i, e) ∷ []) w.earlier w.since (w.step, Invoke p o) w.split) [
      | inl second ↦ inl (ap (λ (x : ℕ × Event). x.1) (only_one second.0 w.since (i, e) (w.step, Invoke p o) second.2).1)
      | inr first ↦
          let rest : w.since ≡ first.0 ++ (i, e) ∷ [] = rest_then_later w.earlier w.since first.0 before ((i, e) ∷ []) (w.step, Invoke p o) w.split first.1 in
          let quiet : IsQuiet p (first.0 ++ (i, e) ∷ []) = subst (IsQuiet p) rest w.quiet in
          inr (
            (or_parts (begins_or_ends p e) false (quiet-right p first.0 ((i, e) ∷ []) quiet)).0,
            record { earlier = w.earlier; step = w.step; since = first.0; split = first.1; quiet = quiet-left p first.0 ((i, e) ∷ []) quiet },
          )
    ]

-- an event that neither begins nor ends an operation of p leaves what p has pending
has_pending_still : (p : ℕ) (x : Option Op) (before : List (ℕ × Event)) (i : ℕ) (e : Event) → begins_or_ends p e ≡ false → HasPending p before x → HasPending p (with_event before i e) x
has_pending_still p None before i e t h = λ o w. elim (progress_before p o before i e w) [
  | inl same ↦ true≢false (sym (ap (begins_or_ends p) same ∙ eq-eqb p p refl) ∙ t)
  | inr old ↦ h o old.1
]
has_pending_still p (Some o) before i e t h = progress_still p o before i e t h

-- what p has pending after it invokes an operation, and after it ends one
has_pending_invoked : (p : ℕ) (o : Op) (before : List (ℕ × Event)) (i : ℕ) → HasPending p (with_event before i (Invoke p o)) (Some o)
has_pending_invoked p o before i = record { earlier = before; step = i; since = []; split = refl; quiet = refl }

has_pending_none : (p : ℕ) (before : List (ℕ × Event)) (i : ℕ) (e : Event) → begins_or_ends p e ≡ true → ((o : Op) → ¬ (e ≡ Invoke p o)) → HasPending p (with_event before i e) None
has_pending_none p before i e t n = λ o w. elim (progress_before p o before i e w) [
  | inl same ↦ n o same
  | inr old ↦ true≢false (sym t ∙ old.0)
]

-- After events of process p are added, the events still are a history, and determine what p has
-- pending. The other processes have pending what they had.
record Extends (One : Type 0) (p : ℕ) (before after : List (ℕ × Event)) (x : Option Op) : Type 0 where
  history : IsHistory One after
  own : HasPending p after x
  others : (q : ℕ) (y : Option Op) → ¬ (q ≡ p) → HasPending q before y → HasPending q after y

extends_nothing : {One : Type 0} (p : ℕ) (before : List (ℕ × Event)) (x : Option Op) → IsHistory One before → HasPending p before x → Extends One p before (before ++ []) x
extends_nothing {One = One} p before x h own =
    subst (λ after. Extends One p before after x) (sym (append-nil before)) (record { history = h; own = own; others = λ q y other is. is })

extends_twice : {One : Type 0} (p : ℕ) (before first after : List (ℕ × Event)) (x y : Option Op) → Extends One p before first x → Extends One p first after y → Extends One p before after y
extends_twice p before first after x y a b =
    record { history = b.history; own = b.own; others = λ q z other is. b.others q z other (a.others q z other is) }

-- one event of p, by which no other process begins or ends an operation, extends a history
extends_event : {One : Type 0} (p : ℕ) (before : List (ℕ × Event)) (i : ℕ) (e : Event) (x : Option Op) → IsHistory One before → Follows before e → (One → suits_role e ≡ true)
    → ((q : ℕ) → ¬ (q ≡ p) → begins_or_ends q e ≡ false) → HasPending p (with_event before i e) x → Extends One p before (with_event before i e) x
extends_event p before i e x h f r alone own =
    record { history = history_with before i e h f r; own = own; others = λ q y other is. has_pending_still q y before i e (alone q other) is }

-- `before`, and then the events that the step with index i records
abbrev with_events : List (ℕ × Event) → ℕ → StepEvents → List (ℕ × Event)
with_events before i events = before ++ (at_index i events.first ++ at_index i events.second)

module _ {P : Type 0} (b : Behaviour P) where
  abbrev One : Type 0
  One = HasOneWriter b

  role_of : (p : ℕ) (o : Op) → b.suits p o ≡ true → One → suits_role (Invoke p o) ≡ true
  role_of p (op.Write v) h one = eq-eqb p 0 (writer_zero b.values b.processes p v (one p (op.Write v) h))
  role_of p op.Read h one = let some = reader_is_not_zero b.values b.processes p (one p op.Read h) in grind (arith, nat_tests)

  -- the return or refusal of an operation in progress, if it ends, extends a history
  extends_end : (Reached : P → Type 0) (p : ℕ) (o : Op) (next : Next P) (before : List (ℕ × Event)) (i : ℕ) → b.suits p o ≡ true → ReachedOrAnswered Reached (Answers b.values o) next
      → IsHistory One before → InProgress p o before → Extends One p before (before ++ at_index i (return_of p next)) (op_of (still_running o next))
  extends_end Reached p o (Pending point) before i fits well h w = extends_nothing p before (Some o) h w
  extends_end Reached p (op.Write v) (Done (Value x)) before i fits well h w = absurd well
  extends_end Reached p op.Read (Done (Value x)) before i fits well h w =
      extends_event p before i (Got p x) None h w (role_of p op.Read fits) (λ q other. ne_eqb p q (λ same. other (sym same)))
      (has_pending_none p before i (Got p x) (eq-eqb p p refl) (λ o same. cc same))
  extends_end Reached p (op.Write v) (Done Written) before i fits well h w =
      extends_event p before i (Wrote p) None h (v, w) (role_of p (op.Write v) fits) (λ q other. ne_eqb p q (λ same. other (sym same)))
      (has_pending_none p before i (Wrote p) (eq-eqb p p refl) (λ o same. cc same))
  extends_end Reached p op.Read (Done Written) before i fits well h w = absurd well
  extends_end Reached p o (Done (Spent layer)) before i fits well h w =
      extends_event p before i (Refused p layer) None h (o, w) (λ one. refl) (λ q other. ne_eqb p q (λ same. other (sym same)))
      (has_pending_none p before i (Refused p layer) (eq-eqb p p refl) (λ o same. cc same))

  -- an event that begins or ends no operation extends a history, as the only event of a step
  extends_only : (p : ℕ) (before : List (ℕ × Event)) (i : ℕ) (e : Event) (x : Option Op) → IsHistory One before → Follows before e → (One → suits_role e ≡ true) → ((q : ℕ) → begins_or_ends q e ≡ false)
      → HasPending p before x → Extends One p before (with_events before i (in_order (Some e) None)) x
  extends_only p before i e x h f r nobody own = extends_event p before i e x h f r (λ q other. nobody q) (has_pending_still p x before i e (nobody p) own)

  module _ (Holds : Memory → Type 0) (Reaches : ℕ → Op → P → Type 0) (lawful : IsLawful b Holds Reaches) where
    extends_invoking : (p : ℕ) (o : Op) (slot : Option (Running P)) (m : Memory) (before : List (ℕ × Event)) (i : ℕ) → Holds m → b.suits p o ≡ true → IsHistory One before → HasPending p before (op_of slot)
        → Extends One p before (with_events before i (invoking b p o slot m).events) (op_of (invoking b p o slot m).running)
    extends_invoking p o None m before i holds fits h own =
        let next = (b.begins p o m).next in
        let first = extends_event p before i (Invoke p o) (Some o) h own (role_of p o fits) (λ q other. ne_eqb p q (λ same. other (sym same))) (has_pending_invoked p o before i) in
        let rest = extends_end (Reaches p o) p o next (with_event before i (Invoke p o)) i fits (lawful.begins_well p o m holds fits).may_be_at first.history first.own in
        subst (λ after. Extends One p before after (op_of (still_running o next))) (append_assoc before ((i, Invoke p o) ∷ []) (at_index i (return_of p next)))
        (extends_twice p before (with_event before i (Invoke p o)) _ (Some o) (op_of (still_running o next)) first rest)
    extends_invoking p o (Some r) m before i holds fits h own = extends_only p before i (Void p Busy) (Some r.op) h tt (λ one. refl) (λ q. refl) own

    extends_acted : (p : ℕ) (o : Op) (chosen : Option (ℕ × Bool)) (next : Next P) (before : List (ℕ × Event)) (i : ℕ) → b.suits p o ≡ true → ReachedOrAnswered (Reaches p o) (Answers b.values o) next
        → IsHistory One before → InProgress p o before → Extends One p before (with_events before i (in_order (chosen_of p chosen) (return_of p next))) (op_of (still_running o next))
    extends_acted p o None next before i fits well h own =
        subst (λ events. Extends One p before (before ++ events) (op_of (still_running o next))) (sym (append-nil (at_index i (return_of p next))))
        (extends_end (Reaches p o) p o next before i fits well h own)
    extends_acted p o (Some bit) next before i fits well h own =
        let e = Chosen p bit.0 bit.1 in
        let first = extends_only p before i e (Some o) h tt (λ one. refl) (λ q. refl) own in
        let rest = extends_end (Reaches p o) p o next (with_event before i e) i fits well first.history first.own in
        subst (λ after. Extends One p before after (op_of (still_running o next))) (append_assoc before ((i, e) ∷ []) (at_index i (return_of p next)))
        (extends_twice p before (with_event before i e) _ (Some o) (op_of (still_running o next)) first rest)

    extends_going : (p : ℕ) (choice : Bool) (slot : Option (Running P)) (m : Memory) (before : List (ℕ × Event)) (i : ℕ) → Holds m → IsReached Reaches p slot → IsHistory One before
        → HasPending p before (op_of slot) → Extends One p before (with_events before i (going b p choice slot m).events) (op_of (going b p choice slot m).running)
    extends_going p choice None m before i holds reached h own = extends_only p before i (Void p Idle) None h tt (λ one. refl) (λ q. refl) own
    extends_going p choice (Some r) m before i holds reached h own =
        let moved = b.goes r.point choice m in
        extends_acted p r.op moved.chosen moved.next before i (lawful.reached_suits p r.op r.point reached) (lawful.goes_well p r.op r.point choice m holds reached).may_be_at h own

    extends_acting : (s : Step) (slot : Option (Running P)) (m : Memory) (before : List (ℕ × Event)) (i : ℕ) → fits_step b s ≡ true → Holds m → IsReached Reaches (process_of s) slot → IsHistory One before
        → HasPending (process_of s) before (op_of slot) → Extends One (process_of s) before (with_events before i (acting b s slot m).events) (op_of (acting b s slot m).running)
    extends_acting (step.Write p v) slot m before i fits holds reached h own = extends_invoking p (op.Write v) slot m before i holds fits h own
    extends_acting (step.Read p) slot m before i fits holds reached h own = extends_invoking p op.Read slot m before i holds fits h own
    extends_acting (step.Go p c) slot m before i fits holds reached h own = extends_going p (c == 1) slot m before i holds reached h own
    extends_acting (step.Stop p) slot m before i fits holds reached h own = extends_only p before i (Stop p) (op_of slot) h tt (λ one. refl) (λ q. refl) own

    extends_acting_unless : (stopped : Bool) (s : Step) (slot : Option (Running P)) (m : Memory) (before : List (ℕ × Event)) (i : ℕ) → fits_step b s ≡ true → Holds m → IsReached Reaches (process_of s) slot
        → IsHistory One before → HasPending (process_of s) before (op_of slot) → Extends One (process_of s) before (with_events before i (acting_unless stopped b s slot m).events) (op_of (acting_unless stopped b s slot m).running)
    extends_acting_unless true s slot m before i fits holds reached h own = extends_only (process_of s) before i (Void (process_of s) Stopped) (op_of slot) h tt (λ one. refl) (λ q. refl) own
    extends_acting_unless false s slot m before i fits holds reached h own = extends_acting s slot m before i fits holds reached h own

    -- events determine what each process of a configuration has pending
    abbrev Tracks : {R : Type 0} → List (ℕ × Event) → Configuration R P → Type 0
    Tracks before c = (p : ℕ) → HasPending p before (op_of (running_at p c))

    tracks_step : {R : Type 0} (c : Configuration R P) (s : Step) (before : List (ℕ × Event)) (i : ℕ) → process_of s < length c.running
        → Extends One (process_of s) before (with_events before i (events_of b c s)) (op_of (acted_on b c s).running)
        → Tracks before c → Tracks (with_events before i (events_of b c s)) (stepped b c s)
    tracks_step c s before i there extended was q =
        elim (cases_eq q (process_of s)) as (λ _. HasPending q (with_events before i (events_of b c s)) (op_of (running_at q (stepped b c s)))) [
          | inl same ↦ rw (same, get_or-set_same c.running (process_of s) (acted_on b c s).running None there) extended.own
          | inr other ↦ rw (get_or-set_other c.running (process_of s) q (acted_on b c s).running None other) (extended.others q (op_of (running_at q c)) other (was q))
        ]

    history_from : {R : Type 0} (c : Configuration R P) (steps : List Step) (before : List (ℕ × Event)) (i : ℕ) → IsConfiguration b Holds Reaches c → AllFit b steps → IsHistory One before → Tracks before c
        → IsHistory One (before ++ indexed i (history b c steps))
    history_from c [] before i is fit h was = subst (IsHistory One) (sym (append-nil before)) h
    history_from c (s ∷ steps) before i is fit h was =
        let fits : fits_step b s ≡ true = All-head (λ x. fits_step b x ≡ true) s steps fit in
        let p = process_of s in
        let extended = extends_acting_unless (is_stopped p c) s (running_at p c) c.memory before i fits is.holds (is.reached p) h (was p) in
        let after = with_events before i (events_of b c s) in
        let later = indexed (i + 1) (history b (stepped b c s) steps) in
        subst (IsHistory One) (append_assoc before (at_index i (events_of b c s).first ++ at_index i (events_of b c s).second) later)
        (history_from (stepped b c s) steps after (i + 1) (step_keeps b Holds Reaches lawful c s is fits) (All-tail (λ x. fits_step b x ≡ true) s steps fit) extended.history
        (tracks_step c s before i (subst (λ n. p < n) (sym is.each) (process_exists b Holds Reaches lawful s fits)) extended was))

    recorded_is_history : (value : ℕ) (steps : List Step) → value < b.values → AllFit b steps → IsHistory One (recorded b value steps)
    recorded_is_history value steps lt fit =
        history_from (first_configuration b value) steps [] 0 (initial_is_configuration b Holds Reaches lawful tt value (b.initial value) (replicate b.processes None) (replicate b.processes false) lt refl refl refl) fit empty_is_history
        (λ p. subst (λ slot. HasPending p [] (op_of slot)) (sym (none_pending_at {A = Running P} b.processes p)) (λ o w. no_event w.earlier (w.step, Invoke p o) w.since w.split))

    pub records_well_formed : RecordsWellFormed b
    records_well_formed value steps lt fit = (recorded_is_history value steps lt fit).follows

    pub records_one_writer : HasOneWriter b → RecordsOneWriter b
    records_one_writer one value steps lt fit = let h = recorded_is_history value steps lt fit in record { roles = h.roles one; follows = h.follows }

    pub records_judged : HasOneWriter b → RecordsJudged b
    records_judged one value steps lt fit = judged_in_words value (recorded b value steps) (records_one_writer one value steps lt fit)
