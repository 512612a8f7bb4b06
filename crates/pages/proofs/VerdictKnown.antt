-- What is known after some events of a history, given the events that follow them, event by event.
use Rattle.std.proofs.Common.{◌≡◌, ℕ, ◌+◌, ◌≤◌, Bool, true, false, ◌||◌, ◌&&◌, cond, List, [], ◌∷◌, ◌++◌, length, drop, Option, Some, None, ◌⊎◌, inl, inr, refl, sym, ap, subst, ◌∙◌, true≢false, arith, eq-eqb, append_assoc, length-append}
use Rattle.std.specs.Prelude.{◌==◌, not, reverse, if◌then◌else◌}
use Rattle.std.specs.List.{find, list_all, list_any, filter}
use Rattle.std.specs.Option.{unwrap_or}
use Rattle.std.proofs.lemmas.Bool.{eqb-true, or_parts, and_parts, or_cases, or_right, not-true}
use Rattle.std.proofs.lemmas.List.{append-nil, drop-append-le}
use Rattle.std.proofs.Math.Seq.{drop-append_seam}
use Rattle.std.proofs.lemmas.List.Folds.{list_any-append}
use Rattle.frames.proofs.KnownAndSeen.{found_last, returning_none}
use Rattle.frames.specs.declared.types.Op.{Op}
use Rattle.frames.specs.declared.types.Op.TheVariants as op
use Rattle.frames.specs.declared.types.Event.{Event}
use Rattle.frames.specs.declared.types.Event.TheVariants.{Invoke, Got, Wrote, Refused, Void, Stop, Chosen}
use Rattle.frames.specs.declared.verdict.Reading.{Reading}
use Rattle.frames.specs.correctness.Verdicts.{Known, refused_by, is_refused, counts, accepted, initially, invoked_now, returning, after, last_read, reading, has_returned, verdict_of_event, verdicts_from}
use Rattle.pages.specs.VerdictWords.{begins_or_ends, IsQuiet, InProgress, suits_role, Follows, IsOneWriterHistory, is_written, NoWriteReturns, is_got, returned_reads}

-- an empty list has no event
pub no_event : (xs : List (ℕ × Event)) (x : ℕ × Event) (ys : List (ℕ × Event)) → ¬ ([] ≡ xs ++ x ∷ ys)
no_event [] x ys h = cc h
no_event (z ∷ xs) x ys h = cc h

-- each of these events suits the role of its process (`suits_role`)
abbrev pub HaveRoles : List (ℕ × Event) → Type 0
HaveRoles events = list_all (λ e. suits_role e.1) events ≡ true

pub roles-left : (xs ys : List (ℕ × Event)) → HaveRoles (xs ++ ys) → HaveRoles xs
roles-left [] ys h = refl
roles-left (x ∷ xs) ys h =
    let both = and_parts (suits_role x.1) (list_all (λ e. suits_role e.1) (xs ++ ys)) h in
    ap (λ c. c && list_all (λ e. suits_role e.1) xs) both.0 ∙ roles-left xs ys both.1

pub roles-right : (xs ys : List (ℕ × Event)) → HaveRoles (xs ++ ys) → HaveRoles ys
roles-right [] ys h = h
roles-right (x ∷ xs) ys h = roles-right xs ys (and_parts (suits_role x.1) (list_all (λ e. suits_role e.1) (xs ++ ys)) h).1

-- the first events of a history are a history
pub history-left : (xs ys : List (ℕ × Event)) → IsOneWriterHistory (xs ++ ys) → IsOneWriterHistory xs
history-left xs ys h = record {
  roles = roles-left xs ys h.roles;
  follows = λ earlier i e later s. h.follows earlier i e (later ++ ys) (ap (λ es. es ++ ys) s ∙ append_assoc earlier ((i, e) ∷ later) ys);
}

-- what is known after one more event, which counts or doesn't
abbrev pub noting : Bool → Event → Known → Known
noting counted e k = if counted then after k e else k

-- what is known after some events, if k is known before them and the events `later` follow them
abbrev pub known : Known → List (ℕ × Event) → List (ℕ × Event) → Known
known k [] later = k
known k (e ∷ es) later = known (noting (counts e.1 (is_refused (es ++ later))) e.1 k) es later

pub known-append : (k : Known) (xs ys later : List (ℕ × Event)) → known k (xs ++ ys) later ≡ known (known k xs (ys ++ later)) ys later
known-append k [] ys later = refl
known-append k (e ∷ xs) ys later =
    ap (λ es. known (noting (counts e.1 (is_refused es)) e.1 k) (xs ++ ys) later) (append_assoc xs ys later)
    ∙ known-append (noting (counts e.1 (is_refused (xs ++ (ys ++ later)))) e.1 k) xs ys later

-- how an event is noted depends on all events after it, however these are split into lists
pub noting_split : (k : Known) (e : Event) (xs before since later : List (ℕ × Event)) (x : ℕ × Event) → xs ≡ before ++ x ∷ since
    → noting (counts e (is_refused (xs ++ later))) e k ≡ noting (counts e (is_refused (before ++ (x ∷ (since ++ later))))) e k
noting_split k e xs before since later x s = ap (λ es. noting (counts e (is_refused es)) e k) (ap (λ es. es ++ later) s ∙ append_assoc before (x ∷ since) later)

returning_reads : (o : Option ℕ) (k : Known) → (returning o k).reads ≡ k.reads
returning_reads None k = refl
returning_reads (Some v) k = refl

-- an event that neither begins nor ends an operation of the writer leaves what is being written
after_writing : (k : Known) (e : Event) → begins_or_ends 0 e ≡ false → suits_role e ≡ true → (after k e).writing ≡ k.writing
after_writing k (Invoke p (op.Write v)) q r = absurd (true≢false (sym r ∙ q))
after_writing k (Invoke p op.Read) q r = refl
after_writing k (Got p v) q r = refl
after_writing k (Wrote p) q r = absurd (true≢false (sym r ∙ q))
after_writing k (Refused p layer) q r = refl
after_writing k (Void p reason) q r = refl
after_writing k (Stop p) q r = refl
after_writing k (Chosen p bit v) q r = refl

noting_writing : (counted : Bool) (k : Known) (e : Event) → begins_or_ends 0 e ≡ false → suits_role e ≡ true → (noting counted e k).writing ≡ k.writing
noting_writing true k e q r = after_writing k e q r
noting_writing false k e q r = refl

pub known_writing : (k : Known) (xs later : List (ℕ × Event)) → IsQuiet 0 xs → HaveRoles xs → (known k xs later).writing ≡ k.writing
known_writing k [] later q r = refl
known_writing k (e ∷ es) later q r =
    let quiet = or_parts (begins_or_ends 0 e.1) (list_any (λ x. begins_or_ends 0 x.1) es) q in
    let roles = and_parts (suits_role e.1) (list_all (λ x. suits_role x.1) es) r in
    let counted = counts e.1 (is_refused (es ++ later)) in
    known_writing (noting counted e.1 k) es later quiet.1 roles.1 ∙ noting_writing counted k e.1 quiet.0 roles.0

-- whether the write in progress is refused doesn't depend on events in which the writer is quiet
quiet_refused_by : (e : Event) (later : Bool) → begins_or_ends 0 e ≡ false → suits_role e ≡ true → refused_by e later ≡ later
quiet_refused_by (Invoke p (op.Write v)) later q r = absurd (true≢false (sym r ∙ q))
quiet_refused_by (Invoke p op.Read) later q r = refl
quiet_refused_by (Got p v) later q r = refl
quiet_refused_by (Wrote p) later q r = absurd (true≢false (sym r ∙ q))
quiet_refused_by (Refused p layer) later q r = ap (λ b. b || later) q
quiet_refused_by (Void p reason) later q r = refl
quiet_refused_by (Stop p) later q r = refl
quiet_refused_by (Chosen p bit v) later q r = refl

pub quiet_refused : (xs later : List (ℕ × Event)) → IsQuiet 0 xs → HaveRoles xs → is_refused (xs ++ later) ≡ is_refused later
quiet_refused [] later q r = refl
quiet_refused (e ∷ es) later q r =
    let quiet = or_parts (begins_or_ends 0 e.1) (list_any (λ x. begins_or_ends 0 x.1) es) q in
    let roles = and_parts (suits_role e.1) (list_all (λ x. suits_role x.1) es) r in
    quiet_refused_by e.1 (is_refused (es ++ later)) quiet.0 roles.0 ∙ quiet_refused es later quiet.1 roles.1

-- if a write of v is in progress and isn't refused later, `Known` has v as the value being written
pub writing_of_progress : (k : Known) (v : ℕ) (xs later : List (ℕ × Event)) → InProgress 0 (op.Write v) xs → HaveRoles xs → is_refused later ≡ false → (known k xs later).writing ≡ Some v
writing_of_progress k v xs later w r kept =
    let x : ℕ × Event = (w.step, Invoke 0 (op.Write v)) in
    let upto : Known = known k w.earlier (x ∷ (w.since ++ later)) in
    let roles = roles-right w.earlier (x ∷ w.since) (subst HaveRoles w.split r) in
    ap (λ es. (known k es later).writing) w.split
    ∙ ap (λ (n : Known). n.writing) (known-append k w.earlier (x ∷ w.since) later)
    ∙ ap (λ b. (known (noting (counts (Invoke 0 (op.Write v)) b) (Invoke 0 (op.Write v)) upto) w.since later).writing) (quiet_refused w.since later w.quiet roles ∙ kept)
    ∙ known_writing (after upto (Invoke 0 (op.Write v))) w.since later w.quiet roles

-- these events, and one more at their end
abbrev pub with_event : List (ℕ × Event) → ℕ → Event → List (ℕ × Event)
with_event before i e = before ++ (i, e) ∷ []

quiet_with : (p : ℕ) (xs : List (ℕ × Event)) (i : ℕ) (e : Event) → IsQuiet p xs → begins_or_ends p e ≡ false → IsQuiet p (with_event xs i e)
quiet_with p xs i e q t =
    list_any-append (λ x. begins_or_ends p x.1) xs ((i, e) ∷ []) ∙ ap (λ b. b || (begins_or_ends p e || false)) q ∙ ap (λ b. b || false) t

-- an event that neither begins nor ends an operation of p leaves p's operation in progress
pub progress_still : (p : ℕ) (o : Op) (before : List (ℕ × Event)) (i : ℕ) (e : Event) → begins_or_ends p e ≡ false → InProgress p o before → InProgress p o (with_event before i e)
progress_still p o before i e t h = record {
  earlier = h.earlier;
  step = h.step;
  since = with_event h.since i e;
  split = ap (λ xs. xs ++ (i, e) ∷ []) h.split ∙ append_assoc h.earlier ((h.step, Invoke p o) ∷ h.since) ((i, e) ∷ []);
  quiet = quiet_with p h.since i e h.quiet t;
}

-- if k has v as the value being written, a write of v is in progress and isn't refused later
abbrev WritingIsInProgress : Known → List (ℕ × Event) → List (ℕ × Event) → Type 0
WritingIsInProgress k before later = (v : ℕ) → k.writing ≡ Some v → InProgress 0 (op.Write v) before × (is_refused later ≡ false)

in_progress_after_other : (k : Known) (before : List (ℕ × Event)) (i : ℕ) (e : Event) (later : List (ℕ × Event)) → begins_or_ends 0 e ≡ false → suits_role e ≡ true → WritingIsInProgress k before ((i, e) ∷ later)
    → WritingIsInProgress k (with_event before i e) later
in_progress_after_other k before i e later t r h v w =
    let was = h v w in
    (progress_still 0 (op.Write v) before i e t was.0, sym (quiet_refused_by e (is_refused later) t r) ∙ was.1)

-- `WritingIsInProgress` holds also after one more event
in_progress_after : (k : Known) (before : List (ℕ × Event)) (i : ℕ) (e : Event) (later : List (ℕ × Event)) → Follows before e → suits_role e ≡ true → WritingIsInProgress k before ((i, e) ∷ later)
    → WritingIsInProgress (noting (counts e (is_refused later)) e k) (with_event before i e) later
in_progress_after k before i (Invoke p (op.Write u)) later f r h v w = by (is_refused later) refl w
  where
    by : (b : Bool) → is_refused later ≡ b → (noting (counts (Invoke p (op.Write u)) b) (Invoke p (op.Write u)) k).writing ≡ Some v
        → InProgress 0 (op.Write v) (with_event before i (Invoke p (op.Write u))) × (is_refused later ≡ false)
    by false e w =
        let same : u ≡ v = cc w in
        let writer = eqb-true p 0 r in
        (record { earlier = before; step = i; since = []; split = λ j. before ++ (i, Invoke (writer j) (op.Write (same j))) ∷ []; quiet = refl }, e)
    by true e w =
        let writer = eqb-true p 0 r in
        absurd (f (op.Write v) (subst (λ q. InProgress q (op.Write v) before) (sym writer) (h v w).0))
in_progress_after k before i (Invoke p op.Read) later f r h v w = in_progress_after_other k before i (Invoke p op.Read) later (not-true (p == 0) r) r h v w
in_progress_after k before i (Got p u) later f r h v w = in_progress_after_other k before i (Got p u) later (not-true (p == 0) r) r h v w
in_progress_after k before i (Wrote p) later f r h v w = let none = returning_none k.writing k refl in cc
in_progress_after k before i (Refused p layer) later f r h v w = by (p == 0) refl w
  where
    by : (b : Bool) → (p == 0) ≡ b → (noting (not b) (Refused p layer) k).writing ≡ Some v
        → InProgress 0 (op.Write v) (with_event before i (Refused p layer)) × (is_refused later ≡ false)
    by true e w = absurd (true≢false (sym (ap (λ b. b || is_refused later) e) ∙ (h v w).1))
    by false e w = in_progress_after_other k before i (Refused p layer) later e refl h v w
in_progress_after k before i (Void p reason) later f r h v w = in_progress_after_other k before i (Void p reason) later refl refl h v w
in_progress_after k before i (Stop p) later f r h v w = in_progress_after_other k before i (Stop p) later refl refl h v w
in_progress_after k before i (Chosen p bit u) later f r h v w = in_progress_after_other k before i (Chosen p bit u) later refl refl h v w

in_progress_after_all : (k : Known) (before xs later : List (ℕ × Event)) → IsOneWriterHistory (before ++ xs) → WritingIsInProgress k before (xs ++ later) → WritingIsInProgress (known k xs later) (before ++ xs) later
in_progress_after_all k before [] later h w = subst (λ b. WritingIsInProgress k b later) (sym (append-nil before)) w
in_progress_after_all k before (e ∷ es) later h w =
    let role = and_parts (suits_role e.1) (list_all (λ x. suits_role x.1) es) (roles-right before (e ∷ es) h.roles) in
    let one = in_progress_after k before e.0 e.1 (es ++ later) (h.follows before e.0 e.1 es refl) role.0 w in
    subst (λ b. WritingIsInProgress (known k (e ∷ es) later) b later) (append_assoc before (e ∷ []) es)
    (in_progress_after_all (noting (counts e.1 (is_refused (es ++ later))) e.1 k) (before ++ e ∷ []) es later (subst IsOneWriterHistory (sym (append_assoc before (e ∷ []) es)) h) one)

pub progress_of_writing : (initial v : ℕ) (xs later : List (ℕ × Event)) → IsOneWriterHistory xs → (known (initially initial) xs later).writing ≡ Some v
    → InProgress 0 (op.Write v) xs × (is_refused later ≡ false)
progress_of_writing initial v xs later h w = in_progress_after_all (initially initial) [] xs later h (λ u e. absurd (cc e)) v w

-- the fresh value and the values of returned writes change only when a write returns
after_kept : (k : Known) (e : Event) → is_written e ≡ false → ((after k e).fresh ≡ k.fresh) × ((after k e).returned ≡ k.returned)
after_kept k (Invoke p (op.Write v)) n = (refl, refl)
after_kept k (Invoke p op.Read) n = (refl, refl)
after_kept k (Wrote p) n = absurd (true≢false n)
after_kept k e n = (refl, refl)

after_fresh : (k : Known) (e : Event) → is_written e ≡ false → (after k e).fresh ≡ k.fresh
after_fresh k e n = (after_kept k e n).0

after_returned : (k : Known) (e : Event) → is_written e ≡ false → (after k e).returned ≡ k.returned
after_returned k e n = (after_kept k e n).1

noting_fresh : (counted : Bool) (k : Known) (e : Event) → is_written e ≡ false → (noting counted e k).fresh ≡ k.fresh
noting_fresh true k e n = after_fresh k e n
noting_fresh false k e n = refl

pub noting_returned : (counted : Bool) (k : Known) (e : Event) → is_written e ≡ false → (noting counted e k).returned ≡ k.returned
noting_returned true k e n = after_returned k e n
noting_returned false k e n = refl

pub known_fresh : (k : Known) (xs later : List (ℕ × Event)) → NoWriteReturns xs → (known k xs later).fresh ≡ k.fresh
known_fresh k [] later n = refl
known_fresh k (e ∷ es) later n =
    let none = or_parts (is_written e.1) (list_any (λ x. is_written x.1) es) n in
    let counted = counts e.1 (is_refused (es ++ later)) in
    known_fresh (noting counted e.1 k) es later none.1 ∙ noting_fresh counted k e.1 none.0

-- n has the values of returned writes that k has, and then maybe more
abbrev HasGrown : Known → Known → Type 0
HasGrown k n = (more : List ℕ) × (n.returned ≡ k.returned ++ more)

returning_grows : (o : Option ℕ) (k : Known) → HasGrown k (returning o k)
returning_grows None k = ([], sym (append-nil k.returned))
returning_grows (Some v) k = (v ∷ [], refl)

after_grows : (k : Known) (e : Event) → HasGrown k (after k e)
after_grows k (Wrote p) = returning_grows k.writing k
after_grows k e = ([], after_returned k e refl ∙ sym (append-nil k.returned))

noting_grows : (counted : Bool) (k : Known) (e : Event) → HasGrown k (noting counted e k)
noting_grows true k e = after_grows k e
noting_grows false k e = ([], sym (append-nil k.returned))

pub known_grows : (k : Known) (xs later : List (ℕ × Event)) → HasGrown k (known k xs later)
known_grows k [] later = ([], sym (append-nil k.returned))
known_grows k (e ∷ es) later =
    let counted = counts e.1 (is_refused (es ++ later)) in
    let first = noting_grows counted k e.1 in
    let rest = known_grows (noting counted e.1 k) es later in
    (first.0 ++ rest.0, rest.1 ∙ ap (λ r. r ++ rest.0) first.1 ∙ append_assoc k.returned first.0 rest.0)

-- a value that is in a list is found there
any_here : (v : ℕ) (xs ys : List ℕ) → list_any (λ u. u == v) (xs ++ v ∷ ys) ≡ true
any_here v [] ys = ap (λ b. b || list_any (λ u. u == v) ys) (eq-eqb v v refl)
any_here v (x ∷ xs) ys = or_right (x == v) (list_any (λ u. u == v) (xs ++ v ∷ ys)) (any_here v xs ys)

-- if the write in progress returns among these events, its value is then among those of the
-- returned writes
pub returned_among : (k : Known) (v : ℕ) (xs ys later : List (ℕ × Event)) (i : ℕ) → (known k xs ((i, Wrote 0) ∷ (ys ++ later))).writing ≡ Some v
    → has_returned v (length k.returned) (known k (xs ++ (i, Wrote 0) ∷ ys) later) ≡ true
returned_among k v xs ys later i w =
    let upto = known k xs ((i, Wrote 0) ∷ (ys ++ later)) in
    let first = known_grows k xs ((i, Wrote 0) ∷ (ys ++ later)) in
    let rest = known_grows (returning upto.writing upto) ys later in
    let all : (known k (xs ++ (i, Wrote 0) ∷ ys) later).returned ≡ k.returned ++ (first.0 ++ v ∷ rest.0) =
    ap (λ (n : Known). n.returned) (known-append k xs ((i, Wrote 0) ∷ ys) later)
    ∙ rest.1
    ∙ ap (λ o. (returning o upto).returned ++ rest.0) w
    ∙ ap (λ r. (r ++ v ∷ []) ++ rest.0) first.1
    ∙ append_assoc (k.returned ++ first.0) (v ∷ []) rest.0
    ∙ append_assoc k.returned first.0 (v ∷ rest.0) in
    ap (λ r. list_any (λ u. u == v) (drop (length k.returned) r)) all
    ∙ ap (list_any (λ u. u == v)) (drop-append_seam k.returned (first.0 ++ v ∷ rest.0))
    ∙ any_here v first.0 rest.0

-- A write returns among the events `xs`, and `Known`, which is k before `xs`, has v as the value
-- being written when it returns. `ReturnsIn` states this by the events alone, without `Known`.
pub record ReturnedAmong (k : Known) (v : ℕ) (xs later : List (ℕ × Event)) : Type 0 where
  pub before : List (ℕ × Event)
  pub step : ℕ
  pub since : List (ℕ × Event)
  pub split : xs ≡ before ++ (step, Wrote 0) ∷ since
  pub writing : (known k before ((step, Wrote 0) ∷ (since ++ later))).writing ≡ Some v

among_after : (k : Known) (v : ℕ) (e : ℕ × Event) (xs later : List (ℕ × Event)) → ReturnedAmong (noting (counts e.1 (is_refused (xs ++ later))) e.1 k) v xs later → ReturnedAmong k v (e ∷ xs) later
among_after k v e xs later r =
    record {
      before = e ∷ r.before;
      step = r.step;
      since = r.since;
      split = ap (λ es. e ∷ es) r.split;
      writing =
          ap (λ n. (known n r.before ((r.step, Wrote 0) ∷ (r.since ++ later))).writing) (sym (noting_split k e.1 xs r.before r.since later (r.step, Wrote 0) r.split))
          ∙ r.writing;
    }

returning_adds : (o : Option ℕ) (k : Known) (v n : ℕ) → k.writing ≡ o → n ≤ length k.returned → has_returned v n (returning o k) ≡ true → (has_returned v n k ≡ true) ⊎ (k.writing ≡ Some v)
returning_adds None k v n w le h = inl h
returning_adds (Some u) k v n w le h =
    let parts : (list_any (λ x. x == v) (drop n k.returned) || list_any (λ x. x == v) (u ∷ [])) ≡ true =
    sym (list_any-append (λ x. x == v) (drop n k.returned) (u ∷ []))
    ∙ ap (list_any (λ x. x == v)) (sym (drop-append-le n k.returned (u ∷ []) le))
    ∙ h in
    elim (or_cases (has_returned v n k) (list_any (λ x. x == v) (u ∷ [])) parts) [
      | inl old ↦ inl old
      | inr new ↦ elim (or_cases (u == v) false new) [
        | inl same ↦ inr (w ∙ ap Some (eqb-true u v same))
        | inr none ↦ absurd (true≢false (sym none))
      ]
    ]

among_head : (k : Known) (i : ℕ) (e : Event) (es later : List (ℕ × Event)) (v n : ℕ) → suits_role e ≡ true → n ≤ length k.returned
    → has_returned v n (noting (counts e (is_refused (es ++ later))) e k) ≡ true → (has_returned v n k ≡ true) ⊎ ReturnedAmong k v ((i, e) ∷ es) later
among_head k i (Wrote p) es later v n r le h =
    elim (returning_adds k.writing k v n refl le h) [
      | inl old ↦ inl old
      | inr w ↦ inr (record { before = []; step = i; since = es; split = ap (λ q. (i, Wrote q) ∷ es) (eqb-true p 0 r); writing = w })
    ]
among_head k i e es later v n r le h =
    inl (ap (λ s. list_any (λ u. u == v) (drop n s)) (sym (noting_returned (counts e (is_refused (es ++ later))) k e refl)) ∙ h)

-- if after these events a write of v has returned, not counting the first n, then one had returned
-- before them, or one returns among them
pub among_of_returned : (k : Known) (xs later : List (ℕ × Event)) (v n : ℕ) → HaveRoles xs → n ≤ length k.returned → has_returned v n (known k xs later) ≡ true
    → (has_returned v n k ≡ true) ⊎ ReturnedAmong k v xs later
among_of_returned k [] later v n r le h = inl h
among_of_returned k (e ∷ es) later v n r le h =
    let roles = and_parts (suits_role e.1) (list_all (λ x. suits_role x.1) es) r in
    let counted = counts e.1 (is_refused (es ++ later)) in
    let grown = noting_grows counted k e.1 in
    let longer : n ≤ length (noting counted e.1 k).returned = rw grown.1 (simp length-append (omega arith)) in
    elim (among_of_returned (noting counted e.1 k) es later v n roles.1 longer h) [
      | inl old ↦ among_head k e.0 e.1 es later v n roles.0 le old
      | inr new ↦ inr (among_after k v e es later new)
    ]

-- each write that returns among these events is in progress until then, and is of process 0
abbrev pub EndsWrites : Known → List (ℕ × Event) → List (ℕ × Event) → Type 0
EndsWrites k xs later =
    (before : List (ℕ × Event)) (i p : ℕ) (rest : List (ℕ × Event)) → xs ≡ before ++ (i, Wrote p) ∷ rest
    → (v : ℕ) × ((known k before ((i, Wrote p) ∷ (rest ++ later))).writing ≡ Some v) × (p ≡ 0)

pub ends_writes_after : (k : Known) (e : ℕ × Event) (es later : List (ℕ × Event)) → EndsWrites k (e ∷ es) later → EndsWrites (noting (counts e.1 (is_refused (es ++ later))) e.1 k) es later
ends_writes_after k e es later ends before i p rest s =
    let w = ends (e ∷ before) i p rest (ap (λ xs. e ∷ xs) s) in
    (w.0, ap (λ n. (known n before ((i, Wrote p) ∷ (rest ++ later))).writing) (noting_split k e.1 es before rest later (i, Wrote p) s) ∙ w.1, w.2)

-- the last return of a write among these events, which is of the value that is then fresh
pub record LastReturn (k : Known) (xs later : List (ℕ × Event)) : Type 0 where
  pub among : ReturnedAmong k (known k xs later).fresh xs later
  pub last : NoWriteReturns among.since

-- the fresh value is as before these events, as no write returns in them, or is that of the last
-- one that does
abbrev FreshSince : Known → List (ℕ × Event) → List (ℕ × Event) → Type 0
FreshSince k xs later = (((known k xs later).fresh ≡ k.fresh) × NoWriteReturns xs) ⊎ LastReturn k xs later

last_head : (k : Known) (i : ℕ) (e : Event) (es later : List (ℕ × Event)) → EndsWrites k ((i, e) ∷ es) later
    → (known (noting (counts e (is_refused (es ++ later))) e k) es later).fresh ≡ (noting (counts e (is_refused (es ++ later))) e k).fresh → NoWriteReturns es → FreshSince k ((i, e) ∷ es) later
last_head k i (Wrote p) es later ends f n =
    let write = ends [] i p es refl in
    let fresh_now = f ∙ ap (λ o. (returning o k).fresh) write.1 in
    inr (record {
      among = record { before = []; step = i; since = es; split = ap (λ q. (i, Wrote q) ∷ es) write.2; writing = write.1 ∙ ap Some (sym fresh_now) };
      last = n;
    })
last_head k i e es later ends f n = inl (f ∙ noting_fresh (counts e (is_refused (es ++ later))) k e refl, n)

pub last_return : (k : Known) (xs later : List (ℕ × Event)) → EndsWrites k xs later → FreshSince k xs later
unfolding among_after
last_return k [] later ends = inl (refl, refl)
last_return k (e ∷ es) later ends =
    elim (last_return (noting (counts e.1 (is_refused (es ++ later))) e.1 k) es later (ends_writes_after k e es later ends)) [
      | inl w ↦ last_head k e.0 e.1 es later ends w.0 w.1
      | inr l ↦ inr (record { among = among_after k (known k (e ∷ es) later).fresh e es later l.among; last = l.last })
    ]

-- what was noted of a process's last read is kept while the process is quiet

after_last_read : (p : ℕ) (k : Known) (e : Event) → begins_or_ends p e ≡ false → last_read p (after k e) ≡ last_read p k
after_last_read p k (Invoke q (op.Write v)) n = refl
after_last_read p k (Invoke q op.Read) n =
    found_last p (invoked_now q k) k.reads ∙ ap (λ b. cond b (Some (invoked_now q k)) (last_read p k)) n
after_last_read p k (Got q v) n = refl
after_last_read p k (Wrote q) n = ap (λ rs. find (λ (x : Reading). x.process == p) (reverse rs)) (returning_reads k.writing k)
after_last_read p k (Refused q layer) n = refl
after_last_read p k (Void q reason) n = refl
after_last_read p k (Stop q) n = refl
after_last_read p k (Chosen q bit v) n = refl

noting_last_read : (p : ℕ) (counted : Bool) (k : Known) (e : Event) → begins_or_ends p e ≡ false → last_read p (noting counted e k) ≡ last_read p k
noting_last_read p true k e n = after_last_read p k e n
noting_last_read p false k e n = refl

known_last_read : (p : ℕ) (k : Known) (xs later : List (ℕ × Event)) → IsQuiet p xs → last_read p (known k xs later) ≡ last_read p k
known_last_read p k [] later n = refl
known_last_read p k (e ∷ es) later n =
    let quiet = or_parts (begins_or_ends p e.1) (list_any (λ x. begins_or_ends p x.1) es) n in
    let counted = counts e.1 (is_refused (es ++ later)) in
    known_last_read p (noting counted e.1 k) es later quiet.1 ∙ noting_last_read p counted k e.1 quiet.0

-- what is known of a read in progress is what was noted at its invocation
pub reading_of_progress : (p : ℕ) (k : Known) (earlier since later : List (ℕ × Event)) (i : ℕ) → IsQuiet p since
    → reading p (known k (earlier ++ (i, Invoke p op.Read) ∷ since) later) ≡ invoked_now p (known k earlier ((i, Invoke p op.Read) ∷ (since ++ later)))
reading_of_progress p k earlier since later i quiet =
    let upto = known k earlier ((i, Invoke p op.Read) ∷ (since ++ later)) in
    let all = known k (earlier ++ (i, Invoke p op.Read) ∷ since) later in
    let found : last_read p all ≡ Some (invoked_now p upto) =
    ap (last_read p) (known-append k earlier ((i, Invoke p op.Read) ∷ since) later)
    ∙ known_last_read p (after upto (Invoke p op.Read)) since later quiet
    ∙ found_last p (invoked_now p upto) upto.reads
    ∙ ap (λ b. cond b (Some (invoked_now p upto)) (last_read p upto)) (eq-eqb p p refl) in
    ap (λ o. unwrap_or o (invoked_now p all)) found

-- those of these events that count, given the events `later` that follow them
abbrev pub accepted_of : List (ℕ × Event) → List (ℕ × Event) → List (ℕ × Event)
accepted_of [] later = []
accepted_of (e ∷ es) later = if counts e.1 (is_refused (es ++ later)) then e ∷ accepted_of es later else accepted_of es later

-- the verdicts on two successive parts of a history: those on the first part, and then those on the
-- second
pub verdicts-append : (k : Known) (xs ys : List (ℕ × Event)) → verdicts_from k (accepted (xs ++ ys)) ≡ verdicts_from k (accepted_of xs ys) ++ verdicts_from (known k xs ys) (accepted ys)
verdicts-append k [] ys = refl
verdicts-append k (e ∷ xs) ys =
    let counted = counts e.1 (is_refused (xs ++ ys)) in
    by counted (verdicts-append (noting counted e.1 k) xs ys)
  where
    by : (b : Bool) → verdicts_from (noting b e.1 k) (accepted (xs ++ ys)) ≡ verdicts_from (noting b e.1 k) (accepted_of xs ys) ++ verdicts_from (known (noting b e.1 k) xs ys) (accepted ys)
        → verdicts_from k (if b then e ∷ accepted (xs ++ ys) else accepted (xs ++ ys))
        ≡ verdicts_from k (if b then e ∷ accepted_of xs ys else accepted_of xs ys) ++ verdicts_from (known (noting b e.1 k) xs ys) (accepted ys)
    by true h =
        ap (λ lines. verdict_of_event k e.0 e.1 ++ lines) h
        ∙ sym (append_assoc (verdict_of_event k e.0 e.1) (verdicts_from (after k e.1) (accepted_of xs ys)) (verdicts_from (known (after k e.1) xs ys) (accepted ys)))
    by false h = h

-- an event gives one verdict if it is the return of a read, else none
one_verdict_if_got : (k : Known) (i : ℕ) (e : Event) (n : ℕ) → length (verdict_of_event k i e) + n ≡ cond (is_got e) (1 + n) n
one_verdict_if_got k i (Got p v) n = omega arith
one_verdict_if_got k i e n = omega arith

-- a list is longer by one with an item in front of it, which it has if b is true
length-cons_if : (b : Bool) (e : ℕ × Event) (es : List (ℕ × Event)) → cond b (1 + length es) (length es) ≡ length (cond b (e ∷ es) es)
length-cons_if true e es = omega arith
length-cons_if false e es = refl

-- there is one verdict for each read that returns
length-verdicts_from : (k : Known) (xs : List (ℕ × Event)) → length (verdicts_from k xs) ≡ returned_reads xs
length-verdicts_from k [] = refl
length-verdicts_from k (e ∷ es) =
    length-append (verdict_of_event k e.0 e.1) (verdicts_from (after k e.1) es)
    ∙ ap (λ n. length (verdict_of_event k e.0 e.1) + n) (length-verdicts_from (after k e.1) es)
    ∙ one_verdict_if_got k e.0 e.1 (returned_reads es)
    ∙ length-cons_if (is_got e.1) e (filter (λ x. is_got x.1) es)

-- an event that doesn't count isn't the return of a read
uncounted_is_not_got : (e : Event) (refused : Bool) → counts e refused ≡ false → is_got e ≡ false
uncounted_is_not_got (Got p v) refused c = absurd (true≢false c)
uncounted_is_not_got e refused c = refl

reads_head : (counted : Bool) (e : ℕ × Event) (xs ys : List (ℕ × Event)) → (counted ≡ false → is_got e.1 ≡ false) → returned_reads xs ≡ returned_reads ys
    → returned_reads (if counted then e ∷ xs else xs) ≡ returned_reads (e ∷ ys)
reads_head true e xs ys n h =
    sym (length-cons_if (is_got e.1) e (filter (λ x. is_got x.1) xs))
    ∙ ap (λ m. cond (is_got e.1) (1 + m) m) h
    ∙ length-cons_if (is_got e.1) e (filter (λ x. is_got x.1) ys)
reads_head false e xs ys n h = h ∙ ap (λ b. length (cond b (e ∷ filter (λ x. is_got x.1) ys) (filter (λ x. is_got x.1) ys))) (sym (n refl))

reads_accepted_of : (xs later : List (ℕ × Event)) → returned_reads (accepted_of xs later) ≡ returned_reads xs
reads_accepted_of [] later = refl
reads_accepted_of (e ∷ es) later = reads_head (counts e.1 (is_refused (es ++ later))) e (accepted_of es later) es (uncounted_is_not_got e.1 (is_refused (es ++ later))) (reads_accepted_of es later)

reads_accepted : (xs : List (ℕ × Event)) → returned_reads (accepted xs) ≡ returned_reads xs
reads_accepted [] = refl
reads_accepted (e ∷ es) = reads_head (counts e.1 (is_refused es)) e (accepted es) es (uncounted_is_not_got e.1 (is_refused es)) (reads_accepted es)

pub length-verdicts_of : (k : Known) (xs later : List (ℕ × Event)) → length (verdicts_from k (accepted_of xs later)) ≡ returned_reads xs
length-verdicts_of k xs later = length-verdicts_from k (accepted_of xs later) ∙ reads_accepted_of xs later

pub length-verdicts : (k : Known) (xs : List (ℕ × Event)) → length (verdicts_from k (accepted xs)) ≡ returned_reads xs
length-verdicts k xs = length-verdicts_from k (accepted xs) ∙ reads_accepted xs
