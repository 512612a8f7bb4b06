-- What a register with one writer promises is the same in terms of `Known` as in terms of `Seen`.
use Rattle.std.proofs.Common.{◌≡◌, ℕ, ◌+◌, ◌<◌, Bool, true, false, ◌||◌, List, [], ◌∷◌, ◌++◌, length, Option, Some, None, refl, sym, ap, subst, ◌∙◌, arith, IsTrue, append_assoc}
use Rattle.std.specs.Prelude.{◌==◌, ⊤, if◌then◌else◌}
use Rattle.std.specs.List.{list_any, AllByRecursion}
use Rattle.std.proofs.lemmas.Bool.{or_parts}
use Rattle.std.proofs.lemmas.List.Folds.{list_any-append}
use Rattle.std.proofs.lemmas.List.Elements.{All-head, All-tail}
use Rattle.safe_bit.specs.Memory.{Memory}
use Rattle.schedule_steps.specs.declared.types.Op.{Op}
use Rattle.schedule_steps.specs.declared.types.Op.TheVariants as op
use Rattle.frames.specs.declared.types.Outcome.TheVariants.{Value, Written, Spent}
use Rattle.frames.specs.declared.types.Next.{Next}
use Rattle.frames.specs.declared.types.Next.TheVariants.{Pending, Done}
use Rattle.schedule_steps.specs.declared.types.Step.{Step}
use Rattle.schedule_steps.specs.declared.types.Step.TheVariants as step
use Rattle.frames.specs.declared.types.Event.{Event}
use Rattle.frames.specs.declared.types.Event.TheVariants.{Invoke, Got, Wrote}
use Rattle.frames.specs.declared.types.StepEvents.{StepEvents}
use Rattle.frames.specs.declared.running.Running.{Running}
use Rattle.frames.specs.Behaviour.{Behaviour, IsLawful, ReachedOrAnswered, Answers}
use Rattle.schedule_steps.specs.Steps.{process_of}
use Rattle.frames.specs.OneWriter.{HasOneWriter}
use Rattle.frames.specs.Configuration.{running_at, is_stopped, fits_step, stepped, history, events_of, acted_on, acting, acting_unless, invoking, going, return_of, still_running, chosen_of, in_order}
use Rattle.frames.specs.StoredConfiguration.{IsConfiguration}
use Rattle.frames.specs.Recorded.{AllFit, LoneConfiguration, at_index, indexed, first_configuration, recorded}
use Rattle.frames.specs.correctness.Verdicts.{Known, initially, after}
use Rattle.frames.specs.correctness.Regularity.{is_refusal, NoneRefused, OnReturn, EachRead, AlwaysReads}
use Rattle.frames.specs.laws.Steps.{IsReached, step_keeps, process_exists}
use Rattle.frames.specs.laws.OneWriter.{writer_zero, reader_is_not_zero}
use Rattle.frames.proofs.Seen.{Seen, Returned, opening, sees, refuses, refuses_none, refuses_none_parts, after_step, got, read_in, reads, Always}
use Rattle.frames.proofs.KnownAndSeen.{ReadAgrees, Agrees, agrees_same, agrees_write, agrees_read, agrees_ended, agrees_wrote, no_write_after_wrote, Alike}
use Rattle.frames.proofs.Accepted.{all_accepted}
use Rattle.frames.proofs.JoinedLists.{all_left, all_right, all_both}
use Rattle.frames.proofs.Pending.{op_of, ops_of, ops_after, none_pending_at, first_is_configuration}
use Rattle.frames.proofs.Pointwise.{put, put_same, put_present_at, put_twice_at}

-- what is known after an event, if there is one
abbrev pub after_option : Option Event → Known → Known
after_option None k = k
after_option (Some e) k = after k e

-- if the event is the return of a read, that read is the same in both folds
abbrev pub ReadsAgree : Option Event → Known → Seen → Type 0
ReadsAgree (Some (Got p v)) k s = ReadAgrees p k s
ReadsAgree _ k s = ⊤

-- the folds agree on the read that the event returns, if any, and after the event
pub record EventAgrees (ops : ℕ → Option Op) (e : Option Event) (k : Known) (s : Seen) : Type 0 where
  pub reads : ReadsAgree e k s
  pub after : Agrees ops (after_option e k) (sees e s)

-- the folds agree on the reads that each event of a step returns, and after the step
pub record StepAgrees (ops : ℕ → Option Op) (e : StepEvents) (k : Known) (s : Seen) : Type 0 where
  pub first : ReadsAgree e.first k s
  pub second : ReadsAgree e.second (after_option e.first k) (sees e.first s)
  pub after : Agrees ops (after_option e.second (after_option e.first k)) (after_step e s)

-- process 0 writes, and the others read
abbrev pub PlaysRole : ℕ → Op → Type 0
PlaysRole p (op.Write v) = p ≡ 0
PlaysRole p op.Read = p ≡ 0 → ⊥

-- the folds still agree after an operation ends or goes on
end_agrees : {P : Type 0} (Reached : P → Type 0) (values p : ℕ) (o : Op) (next : Next P) (ops : ℕ → Option Op) (k : Known) (s : Seen) → ops p ≡ Some o → PlaysRole p o
    → ReachedOrAnswered Reached (Answers values o) next → refuses (return_of p next) ≡ false → Agrees ops k s → EventAgrees (put p (op_of (still_running o next)) ops) (return_of p next) k s
end_agrees Reached values p o (Pending q) ops k s there role well fine a = record { reads = tt; after = agrees_same ops (put p (Some o) ops) k s (λ i. put_present_at p i (Some o) ops there) a }
end_agrees Reached values p (op.Write v) (Done (Value x)) ops k s there role well fine a = absurd well
end_agrees Reached values p op.Read (Done (Value x)) ops k s there role well fine a =
    record { reads = a.reads p there; after = agrees_ended p ops k s (λ e. absurd (role e)) a }
end_agrees Reached values p (op.Write v) (Done Written) ops k s there role well fine a =
    record { reads = tt; after = agrees_ended p ops (after k (Wrote p)) (sees (Some (Wrote p)) s) (λ e. no_write_after_wrote p k) (agrees_wrote p ops k s a) }
end_agrees Reached values p op.Read (Done Written) ops k s there role well fine a = absurd well
end_agrees Reached values p o (Done (Spent layer)) ops k s there role well fine a = absurd (cc fine)

begin_agrees : (p : ℕ) (o : Op) (ops : ℕ → Option Op) (k : Known) (s : Seen) → ops p ≡ None → PlaysRole p o → Agrees ops k s
    → Agrees (put p (Some o) ops) (after k (Invoke p o)) (sees (Some (Invoke p o)) s)
begin_agrees p (op.Write v) ops k s free role a =
    subst (λ q. Agrees (put q (Some (op.Write v)) ops) (after k (Invoke q (op.Write v))) (sees (Some (Invoke q (op.Write v))) s)) (sym role)
    (agrees_write v ops k s (sym (ap ops role) ∙ free) a)
begin_agrees p op.Read ops k s free role a = agrees_read p ops k s free a

-- the folds still agree after an operation begins
begun_agrees : {P : Type 0} (Reached : P → Type 0) (values p : ℕ) (o : Op) (next : Next P) (ops : ℕ → Option Op) (k : Known) (s : Seen) → ops p ≡ None → PlaysRole p o
    → ReachedOrAnswered Reached (Answers values o) next → refuses (return_of p next) ≡ false → Agrees ops k s
    → StepAgrees (put p (op_of (still_running o next)) ops) (in_order (Some (Invoke p o)) (return_of p next)) k s
begun_agrees Reached values p o next ops k s free role well fine a =
    let k1 : Known = after k (Invoke p o) in
    let s1 : Seen = sees (Some (Invoke p o)) s in
    let x : Option Op = op_of (still_running o next) in
    let e = end_agrees Reached values p o next (put p (Some o) ops) k1 s1 (put_same p (Some o) ops) role well fine (begin_agrees p o ops k s free role a) in
    record {
      first = tt;
      second = e.reads;
      after = subst (λ z. Agrees (put p x ops) (after_option (return_of p next) k1) z) (sym (ap (λ c. if c then s else sees (return_of p next) s1) fine))
          (agrees_same (put p x (put p (Some o) ops)) (put p x ops) (after_option (return_of p next) k1) (sees (return_of p next) s1) (λ i. put_twice_at p i (Some o) x ops) e.after);
    }

-- the folds still agree after a bit action of an operation
action_agrees : {P : Type 0} (Reached : P → Type 0) (values p : ℕ) (o : Op) (chosen : Option (ℕ × Bool)) (next : Next P) (ops : ℕ → Option Op) (k : Known) (s : Seen) → ops p ≡ Some o → PlaysRole p o
    → ReachedOrAnswered Reached (Answers values o) next → refuses (return_of p next) ≡ false → Agrees ops k s
    → StepAgrees (put p (op_of (still_running o next)) ops) (in_order (chosen_of p chosen) (return_of p next)) k s
action_agrees Reached values p o None next ops k s there role well fine a =
    let e = end_agrees Reached values p o next ops k s there role well fine a in record { first = e.reads; second = tt; after = e.after }
action_agrees Reached values p o (Some c) next ops k s there role well fine a =
    let e = end_agrees Reached values p o next ops k s there role well fine a in
    record {
      first = tt;
      second = e.reads;
      after = subst (λ z. Agrees (put p (op_of (still_running o next)) ops) (after_option (return_of p next) k) z) (sym (ap (λ c. if c then s else sees (return_of p next) s) fine)) e.after;
    }

-- the end of an operation isn't a refusal if no event of the step is one
end_not_refused : (p : ℕ) (chosen : Option (ℕ × Bool)) (end : Option Event) → refuses (in_order (chosen_of p chosen) end).first ≡ false → refuses (in_order (chosen_of p chosen) end).second ≡ false → refuses end ≡ false
end_not_refused p None end f s = f
end_not_refused p (Some c) end f s = s

module _ {P : Type 0} (b : Behaviour P) (one : HasOneWriter b) (Holds : Memory → Type 0) (Reaches : ℕ → Op → P → Type 0) (lawful : IsLawful b Holds Reaches) where
  role_of : (p : ℕ) (o : Op) → b.suits p o ≡ true → PlaysRole p o
  role_of p (op.Write v) h = writer_zero b.values b.processes p v (one p (op.Write v) h)
  role_of p op.Read h = λ e. let some = reader_is_not_zero b.values b.processes p (one p op.Read h) in omega (arith, e, some)

  invoking_agrees : (p : ℕ) (o : Op) (x : Option (Running P)) (m : Memory) (ops : ℕ → Option Op) (k : Known) (s : Seen) → Holds m → b.suits p o ≡ true → ops p ≡ op_of x
      → refuses (invoking b p o x m).events.second ≡ false → Agrees ops k s → StepAgrees (put p (op_of (invoking b p o x m).running) ops) (invoking b p o x m).events k s
  invoking_agrees p o None m ops k s h fits there fine a =
      begun_agrees (Reaches p o) b.values p o (b.begins p o m).next ops k s there (role_of p o fits) (lawful.begins_well p o m h fits).may_be_at fine a
  invoking_agrees p o (Some r) m ops k s h fits there fine a =
      record { first = tt; second = tt; after = agrees_same ops (put p (Some r.op) ops) k s (λ i. put_present_at p i (Some r.op) ops there) a }

  going_agrees : (p : ℕ) (choice : Bool) (x : Option (Running P)) (m : Memory) (ops : ℕ → Option Op) (k : Known) (s : Seen) → Holds m → IsReached Reaches p x → ops p ≡ op_of x
      → refuses (going b p choice x m).events.first ≡ false → refuses (going b p choice x m).events.second ≡ false → Agrees ops k s → StepAgrees (put p (op_of (going b p choice x m).running) ops) (going b p choice x m).events k s
  going_agrees p choice None m ops k s h reached there f1 f2 a =
      record { first = tt; second = tt; after = agrees_same ops (put p None ops) k s (λ i. put_present_at p i None ops there) a }
  going_agrees p choice (Some r) m ops k s h reached there f1 f2 a =
      let moved = b.goes r.point choice m in
      action_agrees (Reaches p r.op) b.values p r.op moved.chosen moved.next ops k s there (role_of p r.op (lawful.reached_suits p r.op r.point reached))
      (lawful.goes_well p r.op r.point choice m h reached).may_be_at (end_not_refused p moved.chosen (return_of p moved.next) f1 f2) a

  acting_agrees : (z : Step) (x : Option (Running P)) (m : Memory) (ops : ℕ → Option Op) (k : Known) (s : Seen) → fits_step b z ≡ true → Holds m → IsReached Reaches (process_of z) x → ops (process_of z) ≡ op_of x
      → refuses (acting b z x m).events.first ≡ false → refuses (acting b z x m).events.second ≡ false → Agrees ops k s → StepAgrees (put (process_of z) (op_of (acting b z x m).running) ops) (acting b z x m).events k s
  acting_agrees (step.Write p v) x m ops k s fits h reached there f1 f2 a = invoking_agrees p (op.Write v) x m ops k s h fits there f2 a
  acting_agrees (step.Read p) x m ops k s fits h reached there f1 f2 a = invoking_agrees p op.Read x m ops k s h fits there f2 a
  acting_agrees (step.Go p c) x m ops k s fits h reached there f1 f2 a = going_agrees p (c == 1) x m ops k s h reached there f1 f2 a
  acting_agrees (step.Stop p) x m ops k s fits h reached there f1 f2 a = record { first = tt; second = tt; after = agrees_same ops (put p (op_of x) ops) k s (λ i. put_present_at p i (op_of x) ops there) a }

  acting_unless_agrees : (marked : Bool) (z : Step) (x : Option (Running P)) (m : Memory) (ops : ℕ → Option Op) (k : Known) (s : Seen) → fits_step b z ≡ true → Holds m → IsReached Reaches (process_of z) x → ops (process_of z) ≡ op_of x
      → refuses (acting_unless marked b z x m).events.first ≡ false → refuses (acting_unless marked b z x m).events.second ≡ false → Agrees ops k s
      → StepAgrees (put (process_of z) (op_of (acting_unless marked b z x m).running) ops) (acting_unless marked b z x m).events k s
  acting_unless_agrees true z x m ops k s fits h reached there f1 f2 a = record { first = tt; second = tt; after = agrees_same ops (put (process_of z) (op_of x) ops) k s (λ i. put_present_at (process_of z) i (op_of x) ops there) a }
  acting_unless_agrees false z x m ops k s fits h reached there f1 f2 a = acting_agrees z x m ops k s fits h reached there f1 f2 a

  step_agrees : (c : LoneConfiguration P) (z : Step) (k : Known) (s : Seen) → IsConfiguration b Holds Reaches c → fits_step b z ≡ true
      → refuses (events_of b c z).first ≡ false → refuses (events_of b c z).second ≡ false → Agrees (ops_of c) k s → StepAgrees (ops_of (stepped b c z)) (events_of b c z) k s
  step_agrees c z k s is fits f1 f2 a =
      let p = process_of z in
      let done = acted_on b c z in
      let there : p < length c.running = subst (λ n. p < n) (sym is.each) (process_exists b Holds Reaches lawful z fits) in
      let t = acting_unless_agrees (is_stopped p c) z (running_at p c) c.memory (ops_of c) k s fits is.holds (is.reached p) refl f1 f2 a in
      record {
        first = t.first;
        second = t.second;
        after = agrees_same (put p (op_of done.running) (ops_of c)) (ops_of (stepped b c z)) _ _
            (ops_after p done.running c there) t.after;
      }

  first_agrees : (v : ℕ) → Agrees (ops_of (first_configuration b v)) (initially v) (opening v)
  first_agrees v = record {
    last = refl;
    writing = refl;
    idle = λ e. refl;
    reads = λ p e. absurd (let n = ap (λ (r : Option (Running P)). op_of r) (none_pending_at b.processes p) in cc);
  }

-- `at_index` of an event, if there is one, has a refusal exactly if the event is one
refusal_at : (i : ℕ) (e : Option Event) → list_any (λ x. is_refusal x.1) (at_index i e) ≡ refuses e
refusal_at i (Some (Got p v)) = refl
refusal_at i _ = refl

two_parts : (x y z : Bool) → (x || (y || z)) ≡ false → (x ≡ false) × ((y ≡ false) × (z ≡ false))
two_parts x y z h = let o = or_parts x (y || z) h in (o.0, or_parts y z o.1)

pub none_refused_split : (i : ℕ) (e : StepEvents) (es : List StepEvents) → NoneRefused (indexed i (e ∷ es)) → (refuses e.first ≡ false) × ((refuses e.second ≡ false) × NoneRefused (indexed (i + 1) es))
none_refused_split i e es h =
    let rest = indexed (i + 1) es in
    let first = list_any-append (λ x. is_refusal x.1) (at_index i e.first) (at_index i e.second ++ rest) in
    let second = list_any-append (λ x. is_refusal x.1) (at_index i e.second) rest in
    let t = two_parts (list_any (λ x. is_refusal x.1) (at_index i e.first)) (list_any (λ x. is_refusal x.1) (at_index i e.second)) (list_any (λ x. is_refusal x.1) rest)
    (sym (first ∙ ap (λ c. list_any (λ x. is_refusal x.1) (at_index i e.first) || c) second) ∙ sym (ap (list_any (λ x. is_refusal x.1)) (append_assoc (at_index i e.first) (at_index i e.second) rest)) ∙ h) in
    (sym (refusal_at i e.first) ∙ t.0, (sym (refusal_at i e.second) ∙ t.1.0, t.1.1))

none_refused_join : (i : ℕ) (e : StepEvents) (es : List StepEvents) → refuses e.first ≡ false → refuses e.second ≡ false → NoneRefused (indexed (i + 1) es) → NoneRefused (indexed i (e ∷ es))
none_refused_join i e es f1 f2 h =
    let rest = indexed (i + 1) es in
    ap (list_any (λ x. is_refusal x.1)) (append_assoc (at_index i e.first) (at_index i e.second) rest)
    ∙ list_any-append (λ x. is_refusal x.1) (at_index i e.first) (at_index i e.second ++ rest)
    ∙ ap (λ c. list_any (λ x. is_refusal x.1) (at_index i e.first) || c) (list_any-append (λ x. is_refusal x.1) (at_index i e.second) rest ∙ ap (λ c. list_any (λ x. is_refusal x.1) (at_index i e.second) || c) h)
    ∙ ap (λ c. c || (list_any (λ x. is_refusal x.1) (at_index i e.second) || false)) (refusal_at i e.first ∙ f1)
    ∙ ap (λ c. c || false) (refusal_at i e.second ∙ f2)

none_refused_known : (i : ℕ) (es : List StepEvents) → IsTrue (refuses_none es) → NoneRefused (indexed i es)
none_refused_known i [] h = refl
none_refused_known i (e ∷ es) h = let t = refuses_none_parts (refuses e.first) (refuses e.second) (refuses_none es) h in none_refused_join i e es t.0 t.1.0 (none_refused_known (i + 1) es t.1.1)

none_refused_seen : (i : ℕ) (es : List StepEvents) → NoneRefused (indexed i es) → IsTrue (refuses_none es)
none_refused_seen i [] h = refl
none_refused_seen i (e ∷ es) h =
    let t = none_refused_split i e es h in
    let k : IsTrue (refuses_none es) = none_refused_seen (i + 1) es t.1.1 in
    rw (t.0, t.1.0) k

module _ (Says : Known → ℕ → ℕ → Type 0) (Good : Returned → Type 0) (alike : Alike Says Good) where
  -- the claim about a read, if the event is the read's return
  abbrev SaysOf : Option Event → Known → Type 0
  SaysOf None k = ⊤
  SaysOf (Some e) k = OnReturn Says k e

  says_join : (i : ℕ) (e : Option Event) (k : Known) (rest : List (ℕ × Event)) → SaysOf e k → EachRead Says (after_option e k) rest → EachRead Says k (at_index i e ++ rest)
  says_join i None k rest h t = t
  says_join i (Some e) k rest h t = (h, t)

  says_split : (i : ℕ) (e : Option Event) (k : Known) (rest : List (ℕ × Event)) → EachRead Says k (at_index i e ++ rest) → SaysOf e k × EachRead Says (after_option e k) rest
  says_split i None k rest h = (tt, h)
  says_split i (Some e) k rest h = h

  event_known : (e : Option Event) (k : Known) (s : Seen) → ReadsAgree e k s → AllByRecursion Good (got e s) → SaysOf e k
  event_known (Some (Got p v)) k s a h = alike.known p v k s a h.0
  event_known e k s a h = tt

  event_seen : (e : Option Event) (k : Known) (s : Seen) → ReadsAgree e k s → SaysOf e k → AllByRecursion Good (got e s)
  event_seen (Some (Got p v)) k s a h = (alike.seen p v k s a h, tt)
  event_seen e k s a h = tt

  module _ {P : Type 0} (b : Behaviour P) (one : HasOneWriter b) (Holds : Memory → Type 0) (Reaches : ℕ → Op → P → Type 0) (lawful : IsLawful b Holds Reaches) where
    known_from : (c : LoneConfiguration P) (steps : List Step) (i : ℕ) (k : Known) (s : Seen) → IsConfiguration b Holds Reaches c → AllFit b steps → Agrees (ops_of c) k s
        → IsTrue (refuses_none (history b c steps)) → AllByRecursion Good (reads s (history b c steps)) → EachRead Says k (indexed i (history b c steps))
    known_from c [] i k s is fit a none all = tt
    known_from c (z ∷ steps) i k s is fit a none all =
        let fits : fits_step b z ≡ true = All-head (λ x. fits_step b x ≡ true) z steps fit in
        let e : StepEvents = events_of b c z in
        let later : List StepEvents = history b (stepped b c z) steps in
        let t = refuses_none_parts (refuses e.first) (refuses e.second) (refuses_none later) none in
        let g = step_agrees b one Holds Reaches lawful c z k s is fits t.0 t.1.0 a in
        let here = all_left Good (read_in e s) (reads (after_step e s) later) all in
        subst (EachRead Says k) (sym (append_assoc (at_index i e.first) (at_index i e.second) (indexed (i + 1) later))) (says_join i e.first k (at_index i e.second ++ indexed (i + 1) later) (event_known e.first k s g.first (all_left Good (got e.first s) (got e.second (sees e.first s)) here))
        (says_join i e.second (after_option e.first k) (indexed (i + 1) later) (event_known e.second (after_option e.first k) (sees e.first s) g.second (all_right Good (got e.first s) (got e.second (sees e.first s)) here))
        (known_from (stepped b c z) steps (i + 1) (after_option e.second (after_option e.first k)) (after_step e s) (step_keeps b Holds Reaches lawful c z is fits) (All-tail (λ x. fits_step b x ≡ true) z steps fit) g.after t.1.1
        (all_right Good (read_in e s) (reads (after_step e s) later) all))))

    seen_from : (c : LoneConfiguration P) (steps : List Step) (i : ℕ) (k : Known) (s : Seen) → IsConfiguration b Holds Reaches c → AllFit b steps → Agrees (ops_of c) k s
        → NoneRefused (indexed i (history b c steps)) → EachRead Says k (indexed i (history b c steps)) → AllByRecursion Good (reads s (history b c steps))
    seen_from c [] i k s is fit a none all = tt
    seen_from c (z ∷ steps) i k s is fit a none all =
        let fits : fits_step b z ≡ true = All-head (λ x. fits_step b x ≡ true) z steps fit in
        let e : StepEvents = events_of b c z in
        let later : List StepEvents = history b (stepped b c z) steps in
        let t = none_refused_split i e later none in
        let g = step_agrees b one Holds Reaches lawful c z k s is fits t.0 t.1.0 a in
        let h1 = says_split i e.first k (at_index i e.second ++ indexed (i + 1) later) (subst (EachRead Says k) (append_assoc (at_index i e.first) (at_index i e.second) (indexed (i + 1) later)) all) in
        let h2 = says_split i e.second (after_option e.first k) (indexed (i + 1) later) h1.1 in
        all_both Good (read_in e s) (reads (after_step e s) later)
        (all_both Good (got e.first s) (got e.second (sees e.first s)) (event_seen e.first k s g.first h1.0) (event_seen e.second (after_option e.first k) (sees e.first s) g.second h2.0))
        (seen_from (stepped b c z) steps (i + 1) (after_option e.second (after_option e.first k)) (after_step e s) (step_keeps b Holds Reaches lawful c z is fits) (All-tail (λ x. fits_step b x ≡ true) z steps fit) g.after t.1.1 h2.1)

    -- the promise in terms of `Known` follows from the promise in terms of `Seen`, and the converse
    pub always_known : Always Good b → AlwaysReads b Says
    always_known h = record {
      one_writer = one;
      refuses_none = λ v steps lt fit. none_refused_known 0 (history b (first_configuration b v) steps) (h v steps lt fit).0;
      each_read = λ v steps lt fit.
          let events = recorded b v steps in
          subst (EachRead Says (initially v)) (sym (all_accepted events (none_refused_known 0 (history b (first_configuration b v) steps) (h v steps lt fit).0)))
          (known_from (first_configuration b v) steps 0 (initially v) (opening v) (first_is_configuration b Holds Reaches lawful v lt) fit (first_agrees b one Holds Reaches lawful v) (h v steps lt fit).0 (h v steps lt fit).1);
    }

    pub always_seen : AlwaysReads b Says → Always Good b
    always_seen h v steps lt fit = (
      none_refused_seen 0 (history b (first_configuration b v) steps) (h.refuses_none v steps lt fit),
      seen_from (first_configuration b v) steps 0 (initially v) (opening v) (first_is_configuration b Holds Reaches lawful v lt) fit (first_agrees b one Holds Reaches lawful v) (h.refuses_none v steps lt fit)
          (subst (EachRead Says (initially v)) (all_accepted (recorded b v steps) (h.refuses_none v steps lt fit)) (h.each_read v steps lt fit)),
    )
