-- A write that overlaps a read is in progress as the read returns and isn't refused later, or has
-- returned since the read was invoked.
use Rattle.std.proofs.Common.{◌≡◌, ℕ, Bool, true, false, ◌||◌, List, [], ◌∷◌, ◌++◌, ◌⊎◌, inl, inr, refl, sym, ap, subst, ◌∙◌, true≢false, append_assoc}
use Rattle.std.specs.Prelude.{◌==◌}
use Rattle.std.specs.List.{list_any, list_all}
use Rattle.std.proofs.lemmas.Bool.{eqb-true, or_parts, and_parts, not-true}
use Rattle.std.proofs.lemmas.List.{append_cancel_left}
use Rattle.std.proofs.lemmas.List.Folds.{list_any-append}
use Rattle.frames.specs.declared.types.Op.TheVariants as op
use Rattle.frames.specs.declared.types.Layer.{Layer}
use Rattle.frames.specs.declared.types.Event.{Event}
use Rattle.frames.specs.declared.types.Event.TheVariants.{Invoke, Got, Wrote, Refused, Void, Stop, Chosen}
use Rattle.frames.specs.correctness.Verdicts.{refused_by, is_refused}
use Rattle.pages.specs.VerdictWords.{begins_or_ends, IsQuiet, InProgress, suits_role, Follows, IsOneWriterHistory, EndsBy, IsOverlapping}
use Rattle.pages.proofs.VerdictKnown.{HaveRoles, roles-left, roles-right, history-left, quiet_refused}

-- A write of the value v, in progress until then, returns in `during`; it was invoked in `earlier`
-- or in `during`. This is stated by the events alone, while `ReturnedAmong` states it by `Known`.
pub record ReturnsIn (v : ℕ) (earlier during : List (ℕ × Event)) : Type 0 where
  pub before : List (ℕ × Event)
  pub step : ℕ
  pub since : List (ℕ × Event)
  pub split : during ≡ before ++ (step, Wrote 0) ∷ since
  pub write : InProgress 0 (op.Write v) (earlier ++ before)

-- a write of the value v returns in `during`, or is in progress after `earlier` and `during` and
-- isn't refused in `later`
abbrev pub Crosses : ℕ → List (ℕ × Event) → List (ℕ × Event) → List (ℕ × Event) → Type 0
Crosses v earlier during later = (InProgress 0 (op.Write v) (earlier ++ during) × (is_refused later ≡ false)) ⊎ ReturnsIn v earlier during

-- no event among events in which p is quiet begins or ends an operation of p
quiet_at : (p : ℕ) (before later : List (ℕ × Event)) (i : ℕ) (e : Event) → IsQuiet p (before ++ (i, e) ∷ later) → begins_or_ends p e ≡ false
quiet_at p [] later i e q = (or_parts (begins_or_ends p e) (list_any (λ x. begins_or_ends p x.1) later) q).0
quiet_at p (x ∷ before) later i e q =
    quiet_at p before later i e (or_parts (begins_or_ends p x.1) (list_any (λ y. begins_or_ends p y.1) (before ++ (i, e) ∷ later)) q).1

-- the first event that begins or ends an operation of p
record FirstBoundary (p : ℕ) (events : List (ℕ × Event)) : Type 0 where
  before : List (ℕ × Event)
  step : ℕ
  event : Event
  since : List (ℕ × Event)
  split : events ≡ before ++ (step, event) ∷ since
  quiet : IsQuiet p before
  bounds : begins_or_ends p event ≡ true

first_boundary : (p : ℕ) (events : List (ℕ × Event)) → IsQuiet p events ⊎ FirstBoundary p events
first_boundary p [] = inl refl
first_boundary p (e ∷ es) = by (begins_or_ends p e.1) refl (first_boundary p es)
  where
    by : (b : Bool) → begins_or_ends p e.1 ≡ b → IsQuiet p es ⊎ FirstBoundary p es → IsQuiet p (e ∷ es) ⊎ FirstBoundary p (e ∷ es)
    by true t rest = inr (record { before = []; step = e.0; event = e.1; since = es; split = refl; quiet = refl; bounds = t })
    by false t (inl q) = inl (ap (λ b. b || list_any (λ x. begins_or_ends p x.1) es) t ∙ q)
    by false t (inr f) = inr (record {
      before = e ∷ f.before;
      step = f.step;
      event = f.event;
      since = f.since;
      split = ap (λ xs. e ∷ xs) f.split;
      quiet = ap (λ b. b || list_any (λ x. begins_or_ends p x.1) f.before) t ∙ f.quiet;
      bounds = f.bounds;
    })

-- events have one first boundary
same_boundary : (p : ℕ) (xs ys later rest : List (ℕ × Event)) (x y : ℕ × Event) → xs ++ x ∷ later ≡ ys ++ y ∷ rest → IsQuiet p xs → IsQuiet p ys → begins_or_ends p x.1 ≡ true → begins_or_ends p y.1 ≡ true → x ≡ y
same_boundary p [] [] later rest x y h a b s t = cc
same_boundary p [] (z ∷ ys) later rest x y h a b s t =
    let same : x ≡ z = cc h in
    absurd (true≢false (sym s ∙ ap (λ (e : ℕ × Event). begins_or_ends p e.1) same ∙ (or_parts (begins_or_ends p z.1) (list_any (λ e. begins_or_ends p e.1) ys) b).0))
same_boundary p (z ∷ xs) [] later rest x y h a b s t =
    let same : z ≡ y = cc h in
    absurd (true≢false (sym t ∙ ap (λ (e : ℕ × Event). begins_or_ends p e.1) (sym same) ∙ (or_parts (begins_or_ends p z.1) (list_any (λ e. begins_or_ends p e.1) xs) a).0))
same_boundary p (z ∷ xs) (w ∷ ys) later rest x y h a b s t =
    let tails : xs ++ x ∷ later ≡ ys ++ y ∷ rest = cc h in
    same_boundary p xs ys later rest x y tails
    (or_parts (begins_or_ends p z.1) (list_any (λ e. begins_or_ends p e.1) xs) a).1
    (or_parts (begins_or_ends p w.1) (list_any (λ e. begins_or_ends p e.1) ys) b).1
    s
    t

-- an event of `xs ++ ys` is in `ys`, or in `xs`
abbrev pub InSecond : List (ℕ × Event) → List (ℕ × Event) → List (ℕ × Event) → List (ℕ × Event) → ℕ × Event → Type 0
InSecond xs ys before since x = (s : List (ℕ × Event)) × (before ≡ xs ++ s) × (ys ≡ s ++ x ∷ since)

abbrev pub InFirst : List (ℕ × Event) → List (ℕ × Event) → ℕ × Event → Type 0
InFirst xs before x = (s : List (ℕ × Event)) × (xs ≡ before ++ x ∷ s)

pub parted_at : (xs ys before since : List (ℕ × Event)) (x : ℕ × Event) → xs ++ ys ≡ before ++ x ∷ since → InSecond xs ys before since x ⊎ InFirst xs before x
parted_at [] ys before since x h = inl (before, refl, h)
parted_at (z ∷ xs) ys [] since x h = let same : z ≡ x = cc h in inr (xs, ap (λ w. w ∷ xs) same)
parted_at (z ∷ xs) ys (w ∷ before) since x h =
    let same : z ≡ w = cc h in
    let tails : xs ++ ys ≡ before ++ x ∷ since = cc h in
    elim (parted_at xs ys before since x tails) [
      | inl s ↦ inl (s.0, λ j. sym same j ∷ s.1 j, s.2)
      | inr s ↦ inr (s.0, λ j. same j ∷ s.1 j)
    ]

-- the boundary that follows a write in progress, and isn't its refusal, is its return
return_of_boundary : (v : ℕ) (before : List (ℕ × Event)) (e : Event) → InProgress 0 (op.Write v) before → Follows before e → begins_or_ends 0 e ≡ true → suits_role e ≡ true → ((layer : Layer) → ¬ (e ≡ Refused 0 layer)) → e ≡ Wrote 0
return_of_boundary v before (Invoke p o) w f t r n = absurd (f (op.Write v) (subst (λ q. InProgress q (op.Write v) before) (sym (eqb-true p 0 t)) w))
return_of_boundary v before (Got p u) w f t r n = absurd (true≢false (sym t ∙ not-true (p == 0) r))
return_of_boundary v before (Wrote p) w f t r n = ap Wrote (eqb-true p 0 t)
return_of_boundary v before (Refused p layer) w f t r n = absurd (n layer (ap (λ q. Refused q layer) (eqb-true p 0 t)))
return_of_boundary v before (Void p reason) w f t r n = absurd (true≢false (sym t))
return_of_boundary v before (Stop p) w f t r n = absurd (true≢false (sym t))
return_of_boundary v before (Chosen p bit u) w f t r n = absurd (true≢false (sym t))

-- an operation of process 0 that is in progress before these events ends in them by its refusal
RefusedIn : List (ℕ × Event) → Type 0
RefusedIn events = (layer : Layer) × EndsBy 0 (Refused 0 layer) events

refusal_after : (e : ℕ × Event) (es : List (ℕ × Event)) → begins_or_ends 0 e.1 ≡ false → RefusedIn es → RefusedIn (e ∷ es)
unfolding RefusedIn
refusal_after e es t x = (
  x.0,
  record {
    before = e ∷ x.1.before;
    step = x.1.step;
    later = x.1.later;
    split = ap (λ l. e ∷ l) x.1.split;
    quiet = ap (λ b. b || list_any (λ y. begins_or_ends 0 y.1) x.1.before) t ∙ x.1.quiet;
  },
)

refusal_now : (b : Bool) (i p : ℕ) (layer : Layer) (es : List (ℕ × Event)) → (p == 0) ≡ b → (b || is_refused es) ≡ true → (is_refused es ≡ true → RefusedIn es) → RefusedIn ((i, Refused p layer) ∷ es)
unfolding RefusedIn
refusal_now true i p layer es e h later = (layer, record { before = []; step = i; later = es; split = ap (λ q. (i, Refused q layer) ∷ es) (eqb-true p 0 e); quiet = refl })
refusal_now false i p layer es e h later = refusal_after (i, Refused p layer) es e (later h)

refusal_head : (i : ℕ) (e : Event) (es : List (ℕ × Event)) → suits_role e ≡ true → refused_by e (is_refused es) ≡ true → (is_refused es ≡ true → RefusedIn es) → RefusedIn ((i, e) ∷ es)
refusal_head i (Refused p layer) es r h later = refusal_now (p == 0) i p layer es refl h later
refusal_head i (Wrote p) es r h later = absurd (true≢false (sym h))
refusal_head i (Invoke p (op.Write v)) es r h later = absurd (true≢false (sym h))
refusal_head i (Invoke p op.Read) es r h later = refusal_after (i, Invoke p op.Read) es (not-true (p == 0) r) (later h)
refusal_head i (Got p v) es r h later = refusal_after (i, Got p v) es (not-true (p == 0) r) (later h)
refusal_head i (Void p reason) es r h later = refusal_after (i, Void p reason) es refl (later h)
refusal_head i (Stop p) es r h later = refusal_after (i, Stop p) es refl (later h)
refusal_head i (Chosen p bit v) es r h later = refusal_after (i, Chosen p bit v) es refl (later h)

-- if `is_refused` finds that these events refuse the write in progress, its refusal is among them
refusal_of : (es : List (ℕ × Event)) → HaveRoles es → is_refused es ≡ true → RefusedIn es
refusal_of [] r h = absurd (true≢false (sym h))
refusal_of (e ∷ es) r h =
    let roles = and_parts (suits_role e.1) (list_all (λ x. suits_role x.1) es) r in
    refusal_head e.0 e.1 es roles.0 h (refusal_of es roles.1)

-- a write that ends by its refusal is refused
refused_by_end : (layer : Layer) (es : List (ℕ × Event)) → HaveRoles es → EndsBy 0 (Refused 0 layer) es → is_refused es ≡ true
refused_by_end layer es r e =
    let x : ℕ × Event = (e.step, Refused 0 layer) in
    ap is_refused e.split ∙ quiet_refused e.before (x ∷ e.later) e.quiet (roles-left e.before (x ∷ e.later) (subst HaveRoles e.split r))

-- if no refusal ends a write in progress, the write isn't refused
pub not_refused : (since later : List (ℕ × Event)) → IsQuiet 0 since → HaveRoles later → ((layer : Layer) → ¬ EndsBy 0 (Refused 0 layer) (since ++ later)) → is_refused later ≡ false
unfolding RefusedIn
not_refused since later quiet roles none = by (is_refused later) refl
  where
    by : (b : Bool) → is_refused later ≡ b → is_refused later ≡ false
    by false e = e
    by true e =
        let end = refusal_of later roles e in
        let x : ℕ × Event = (end.1.step, Refused 0 end.0) in
        absurd (none end.0 (record {
          before = since ++ end.1.before;
          step = end.1.step;
          later = end.1.later;
          split = ap (λ es. since ++ es) end.1.split ∙ sym (append_assoc since end.1.before (x ∷ end.1.later));
          quiet = list_any-append (λ y. begins_or_ends 0 y.1) since end.1.before ∙ ap (λ b. b || list_any (λ y. begins_or_ends 0 y.1) end.1.before) quiet ∙ end.1.quiet;
        }))

-- a write that isn't refused is in progress after these events, or returns in them
pub in_progress_or_returns : (v : ℕ) (xs later before : List (ℕ × Event)) (step : ℕ) (since : List (ℕ × Event)) → IsOneWriterHistory (xs ++ later) → xs ≡ before ++ (step, Invoke 0 (op.Write v)) ∷ since
    → ((layer : Layer) → ¬ EndsBy 0 (Refused 0 layer) (since ++ later)) → (IsQuiet 0 since × (is_refused later ≡ false)) ⊎ EndsBy 0 (Wrote 0) since
in_progress_or_returns v xs later before step since whole split unrefused =
    let h : IsOneWriterHistory xs = history-left xs later whole in
    let x : ℕ × Event = (step, Invoke 0 (op.Write v)) in
    elim (first_boundary 0 since) [
      | inl quiet ↦ inl (quiet, not_refused since later quiet (roles-right xs later whole.roles) unrefused)
      | inr f ↦
          let upto = before ++ x ∷ f.before in
          let write : InProgress 0 (op.Write v) upto = record { earlier = before; step = step; since = f.before; split = refl; quiet = f.quiet } in
          let cut : xs ≡ upto ++ (f.step, f.event) ∷ f.since =
          split ∙ ap (λ es. before ++ x ∷ es) f.split ∙ sym (append_assoc before (x ∷ f.before) ((f.step, f.event) ∷ f.since)) in
          let role = and_parts (suits_role f.event) (list_all (λ e. suits_role e.1) f.since) (roles-right upto ((f.step, f.event) ∷ f.since) (subst HaveRoles cut h.roles)) in
          let kept : (layer : Layer) → ¬ (f.event ≡ Refused 0 layer) = λ layer e. unrefused layer
          (record {
            before = f.before;
            step = f.step;
            later = f.since ++ later;
            split = ap (λ es. es ++ later) (f.split ∙ ap (λ y. f.before ++ (f.step, y) ∷ f.since) e) ∙ append_assoc f.before ((f.step, Refused 0 layer) ∷ f.since) later;
            quiet = f.quiet;
          }) in
          let returns : f.event ≡ Wrote 0 = return_of_boundary v upto f.event write (h.follows upto f.step f.event f.since cut) f.bounds role.0 kept in
          inr (record { before = f.before; step = f.step; later = f.since; split = f.split ∙ ap (λ y. f.before ++ (f.step, y) ∷ f.since) returns; quiet = f.quiet })
    ]

-- a write that overlaps a read, in Lamport's words, crosses it (`Crosses`); and back
pub crossing_of_words : (v : ℕ) (earlier during later : List (ℕ × Event)) → IsOneWriterHistory ((earlier ++ during) ++ later) → IsOverlapping v earlier during later → Crosses v earlier during later
crossing_of_words v earlier during later whole o =
    let x : ℕ × Event = (o.step, Invoke 0 (op.Write v)) in
    elim (in_progress_or_returns v (earlier ++ during) later o.before o.step o.since whole o.split o.unrefused) [
      | inl w ↦ inl (record { earlier = o.before; step = o.step; since = o.since; split = o.split; quiet = w.0 }, w.1)
      | inr e ↦
          let upto = o.before ++ x ∷ e.before in
          let write : InProgress 0 (op.Write v) upto = record { earlier = o.before; step = o.step; since = e.before; split = refl; quiet = e.quiet } in
          let cut : earlier ++ during ≡ upto ++ (e.step, Wrote 0) ∷ e.later =
          o.split ∙ ap (λ es. o.before ++ x ∷ es) e.split ∙ sym (append_assoc o.before (x ∷ e.before) ((e.step, Wrote 0) ∷ e.later)) in
          elim (parted_at earlier during upto e.later (e.step, Wrote 0) cut) [
            | inl s ↦ inr (record { before = s.0; step = e.step; since = e.later; split = s.2; write = subst (InProgress 0 (op.Write v)) s.1 write })
            | inr s ↦ absurd (o.unreturned (e.before ++ (e.step, Wrote 0) ∷ s.0) (s.1 ∙ append_assoc o.before (x ∷ e.before) ((e.step, Wrote 0) ∷ s.0))
                (record { before = e.before; step = e.step; later = s.0; split = refl; quiet = e.quiet }))
          ]
    ]

-- what follows an event of `earlier` is the rest of `earlier`, and then `later`
pub rest_then_later : (before since rest earlier later : List (ℕ × Event)) (x : ℕ × Event) → earlier ++ later ≡ before ++ x ∷ since → earlier ≡ before ++ x ∷ rest → since ≡ rest ++ later
rest_then_later before since rest earlier later x whole part =
    let same : x ∷ since ≡ x ∷ (rest ++ later) =
    append_cancel_left before (x ∷ since) (x ∷ (rest ++ later)) (sym whole ∙ ap (λ es. es ++ later) part ∙ append_assoc before (x ∷ rest) later) in
    cc same

-- a write in progress hasn't returned
no_return : (since rest later : List (ℕ × Event)) → IsQuiet 0 since → since ≡ rest ++ later → ¬ EndsBy 0 (Wrote 0) rest
no_return since rest later q s e =
    let split : since ≡ e.before ++ (e.step, Wrote 0) ∷ (e.later ++ later) =
    s ∙ ap (λ es. es ++ later) e.split ∙ append_assoc e.before ((e.step, Wrote 0) ∷ e.later) later in
    true≢false (quiet_at 0 e.before (e.later ++ later) e.step (Wrote 0) (subst (IsQuiet 0) split q))

-- a write with neither return nor refusal in `since` isn't refused if `later` doesn't refuse it,
-- nor if it returns right after `since`
pub still_unrefused : (since later : List (ℕ × Event)) → IsQuiet 0 since → HaveRoles (since ++ later) → is_refused later ≡ false → (layer : Layer) → ¬ EndsBy 0 (Refused 0 layer) (since ++ later)
still_unrefused since later quiet roles kept = λ layer e.
    true≢false (sym (refused_by_end layer (since ++ later) roles e) ∙ quiet_refused since later quiet (roles-left since later roles) ∙ kept)

pub returned_unrefused : (since rest later : List (ℕ × Event)) (step : ℕ) → IsQuiet 0 since → (layer : Layer) → ¬ EndsBy 0 (Refused 0 layer) ((since ++ (step, Wrote 0) ∷ rest) ++ later)
returned_unrefused since rest later step quiet = λ layer e.
    let split : since ++ (step, Wrote 0) ∷ (rest ++ later) ≡ e.before ++ (e.step, Refused 0 layer) ∷ e.later =
    sym (append_assoc since ((step, Wrote 0) ∷ rest) later) ∙ e.split in
    let same : Wrote 0 ≡ Refused 0 layer =
    ap (λ (y : ℕ × Event). y.1) (same_boundary 0 since e.before (rest ++ later) e.later (step, Wrote 0) (e.step, Refused 0 layer) split quiet e.quiet refl refl) in
    cc same

-- if all events have their roles, so have those after an event x
pub roles_since : (xs later before since : List (ℕ × Event)) (x : ℕ × Event) → HaveRoles (xs ++ later) → xs ≡ before ++ x ∷ since → HaveRoles (since ++ later)
roles_since xs later before since x roles split =
    let all = roles-right before (x ∷ (since ++ later)) (subst HaveRoles (ap (λ es. es ++ later) split ∙ append_assoc before (x ∷ since) later) roles) in
    (and_parts (suits_role x.1) (list_all (λ e. suits_role e.1) (since ++ later)) all).1

pub words_of_crossing : (v : ℕ) (earlier during later : List (ℕ × Event)) → HaveRoles ((earlier ++ during) ++ later) → Crosses v earlier during later → IsOverlapping v earlier during later
words_of_crossing v earlier during later roles (inl p) =
    let w = p.0 in
    let x : ℕ × Event = (w.step, Invoke 0 (op.Write v)) in
    record {
      before = w.earlier;
      step = w.step;
      since = w.since;
      split = w.split;
      unreturned = λ rest s. no_return w.since rest during w.quiet (rest_then_later w.earlier w.since rest earlier during x w.split s);
      unrefused = still_unrefused w.since later w.quiet (roles_since (earlier ++ during) later w.earlier w.since x roles w.split) p.1;
    }
words_of_crossing v earlier during later roles (inr r) =
    let w = r.write in
    let x : ℕ × Event = (w.step, Invoke 0 (op.Write v)) in
    record {
      before = w.earlier;
      step = w.step;
      since = w.since ++ (r.step, Wrote 0) ∷ r.since;
      split =
          ap (λ es. earlier ++ es) r.split
          ∙ sym (append_assoc earlier r.before ((r.step, Wrote 0) ∷ r.since))
          ∙ ap (λ es. es ++ (r.step, Wrote 0) ∷ r.since) w.split
          ∙ append_assoc w.earlier (x ∷ w.since) ((r.step, Wrote 0) ∷ r.since);
      unreturned = λ rest s. no_return w.since rest r.before w.quiet (rest_then_later w.earlier w.since rest earlier r.before x w.split s);
      unrefused = returned_unrefused w.since r.since later r.step w.quiet;
    }
