-- Each step of a layer keeps the invariant, and links each part to its own list of steps.
use Rattle.std.proofs.Common.{zero, suc, ◌≡◌, ℕ, ◌+◌, ◌<◌, ◌≤◌, ◌==◌, List, [], ◌∷◌, length, get_or, set, refl, ap, sym, ◌∙◌, subst, arith, inl, inr, Bool, true, false, Option, Some, None}
use Rattle.std.specs.Prelude.{nat_lt, ◌&&◌, is_none, is_some, not}
use Rattle.std.proofs.lemmas.Bool.{cases_eq, and_parts, ltb-true}
use Rattle.std.proofs.lemmas.Bool.Decides.{nat_tests}
use Rattle.std.proofs.lemmas.List.Elements.{All-head, All-tail}
use Rattle.std.proofs.lemmas.List.{get_or-set_other}
use Rattle.std.proofs.lemmas.Grind.{get_or-set_at}
use Rattle.safe_bit.specs.Memory.{Memory, word_at}
use Rattle.safe_bit.specs.Parts.{part, with_part, HasSize}
use Rattle.frames.specs.declared.types.Op.{Op}
use Rattle.frames.specs.declared.types.Op.TheVariants as op
use Rattle.frames.specs.declared.types.Event.{Event}
use Rattle.frames.specs.declared.types.Event.TheVariants.{Invoke}
use Rattle.frames.specs.declared.types.StepEvents.{StepEvents}
use Rattle.frames.specs.declared.types.Step.{Step}
use Rattle.frames.specs.declared.types.Step.TheVariants as step
use Rattle.frames.specs.declared.running.Running.{Running}
use Rattle.layers.specs.declared.nested.Nested.{Nested}
use Rattle.frames.specs.Behaviour.{Behaviour, Begun, Moved}
use Rattle.frames.specs.Steps.{process_of, invoking_step}
use Rattle.frames.specs.Flat.{IsReached}
use Rattle.frames.specs.Configuration.{running_at, is_stopped, stepped, events_of, return_of, still_running, chosen_of, in_order, fits_step, history, replayed}
use Rattle.frames.specs.StoredConfiguration.{IsConfiguration}
use Rattle.frames.specs.Recorded.{LoneConfiguration, AllFit}
use Rattle.frames.specs.Voids.{IsVoid, why_void}
use Rattle.frames.specs.laws.Steps.{void_unless_enabled, stopped_is_void, step_keeps}
use Rattle.frames.proofs.Seen.{Seen, after_step, sees, Allowed, end_event}
use Rattle.frames.proofs.Replayed.{IsReplayed, replayed_more}
use Rattle.layers.proofs.Admitted.{IsAdmitted, AlwaysAdmits, reached_admitted, gone_admitted}
use Rattle.frames.proofs.Pointwise.{put, put_same, put_back_at, put_present_at}
use Rattle.layers.specs.Nested.{part_place, own_words_start, after_part, advance, resume, layered}
use Rattle.layers.specs.Sound.{LayerHolds, LayerReaches}
use Rattle.layers.specs.laws.Nested.{asks_fit, holds_with_part}
use Rattle.layers.specs.laws.Layered.{layer_lawful}
use Rattle.layers.specs.laws.Over.{LayerOver}
use Rattle.layers.proofs.Law.{TaskInProgress, View, Watch, Admission, IsKeptUnder, IsUser}
use Rattle.layers.proofs.Links.{put_next, StepsTo, step_begins, step_goes, step_stops, nested_next, pending_in_part, pending_in_part-same, pending_in_part-other, Linked, word_after_part, links_move, link_same, gone_seen}
use Rattle.layers.proofs.TaskRuns.{task_in_progress, Ran, program_ran, after_part_ran, suits_by_table}

-- a configuration of the layer, its view, and each part alone agree, and the invariant holds
pub record Joint {Task P U : Type 0} (l : LayerOver Task P) (user : ℕ → ℕ → ℕ) (value : ℕ → ℕ) (w : Watch Task U) (c : LoneConfiguration (Nested Task P)) (u : U) : Type 0 where
  pub well : IsConfiguration (layered l.table l.below) (LayerHolds l.table l.below l.Holds) (LayerReaches l.table l.MayBeAt l.Reaches) c
  pub j : View Task
  pub inv : w.Inv u j
  pub words : (i : ℕ) → i < l.table.words → j.words i ≡ word_at (own_words_start l.table l.below.size + i) c.memory
  pub tasks : (q : ℕ) → j.tasks q ≡ task_in_progress (running_at q c)
  pub links : (k : ℕ) → k < l.table.parts → Linked l user value (λ q. is_stopped q c) c.memory (λ q. running_at q c) k (j.parts k)

-- part k alone, in the middle of p's stop: each process below n of the part as which p acts has
-- stopped
pub record Stopping {Task P : Type 0} (l : LayerOver Task P) (user : ℕ → ℕ → ℕ) (value : ℕ → ℕ) (p : ℕ) (c : LoneConfiguration (Nested Task P)) (k : ℕ) (s : Seen) (n : ℕ) : Type 0 where
  pub d : LoneConfiguration P
  pub well : IsConfiguration l.below l.Holds l.Reaches d
  pub reached : IsReplayed l.below (value k) d s
  pub memory : d.memory ≡ part (part_place l.below.size k) l.below.size c.memory
  pub running : (q : ℕ) → q < l.below.processes → running_at q d ≡ pending_in_part l.table k q (running_at (user k q) c)
  pub stops : (q : ℕ) → q < n → q < l.below.processes → user k q ≡ p → is_stopped q d ≡ true
  pub others : (q : ℕ) → q < l.below.processes → (q < n → user k q ≡ p → ⊥) → is_stopped q d ≡ is_stopped (user k q) c

-- a bit action of an existing process fits
pub go_fits : {P : Type 0} (b : Behaviour P) (who choice : ℕ) → who < b.processes → choice < 2 → fits_step b (step.Go who choice) ≡ true
go_fits b who choice lw lc = grind (arith, nat_tests)

pub stop_fits : {P : Type 0} (b : Behaviour P) (who : ℕ) → who < b.processes → fits_step b (step.Stop who) ≡ true
stop_fits b who lw = grind (arith, nat_tests)

module _ {Task P U : Type 0} (l : LayerOver Task P) (user : ℕ → ℕ → ℕ) (is_user : IsUser l.table l.MayBeAt user) (value : ℕ → ℕ) (w : Watch Task U) (rule : Admission) (first : ℕ → U) (Up : U → StepEvents → U → Type 0)
    (K : IsKeptUnder rule l.table l.MayBeAt w first Up) (all : AlwaysAdmits w.Good rule l.below) (vals : (k : ℕ) → k < l.table.parts → value k < l.below.values) where
  -- the layer's points, the layer, and `Joint` of a configuration and what is known
  abbrev N : Type 0
  N = Nested Task P

  abbrev L : Behaviour N
  L = layered l.table l.below

  abbrev J : LoneConfiguration N → U → Type 0
  J c u = Joint l user value w c u

  -- `Up` allows step s, and `Joint` holds after it
  abbrev NextJoint : LoneConfiguration N → U → Step → Type 0
  NextJoint c u s = (z : U) × (Up u (events_of L c s) z × J (stepped L c s) z)

  -- a void step keeps `Joint`
  void_joint : (s : Step) (c : LoneConfiguration N) (u : U) → IsVoid L c s → J c u → NextJoint c u s
  void_joint s c u v h = (u, (subst (λ e. Up u e u) (sym v.reported) (K.passes.void u (process_of s) (why_void c s)), subst (λ d. J d u) (sym v.leaves) h))

  -- `Joint` holds after p's program has run to its next bit action or its end
  ran_joint : (p : ℕ) (o : Op) (s : Step) (event : Option Event) (begun : Begun N) (c : LoneConfiguration N) (u : U)
      → p < length c.running → StepsTo L c s p o event begun.next begun.memory
      → IsConfiguration L (LayerHolds l.table l.below l.Holds) (LayerReaches l.table l.MayBeAt l.Reaches) (stepped L c s)
      → Ran l user value (λ q. is_stopped q c) w p o (λ e. Up u (in_order event e)) begun (λ q. running_at q c) → NextJoint c u s
  ran_joint p o s event begun c u lp to well r =
      let d = put_next p o begun.next begun.memory c in
      let same : (q : ℕ) → r.to q ≡ running_at q d =
      λ q. elim (cases_eq q p) as (λ _. r.to q ≡ running_at q d) [
        | inl e ↦ ap r.to e ∙ r.mine ∙ sym (ap (λ i. running_at i d) e ∙ get_or-set_at c.running p p (still_running o begun.next) None refl lp)
        | inr ne ↦ r.others q ne ∙ sym (get_or-set_other c.running p q (still_running o begun.next) None ne)
      ] in (
        r.u,
        (
          subst (λ e. Up u e r.u) (sym to.events) r.out,
          subst (λ x. J x r.u) (sym to.after) (record {
            well = subst (IsConfiguration L (LayerHolds l.table l.below l.Holds) (LayerReaches l.table l.MayBeAt l.Reaches)) to.after well;
            j = r.j;
            inv = r.inv;
            words = r.words;
            tasks = λ q. r.tasks q ∙ ap task_in_progress (same q);
            links = λ k lt. link_same l user value (λ q. is_stopped q c) begun.memory begun.memory r.to (λ q. running_at q d) k (r.j.parts k) (r.j.parts k) same refl refl (r.links k lt);
          }),
        ),
      )

  keeps_configuration : (c : LoneConfiguration N) (s : Step) (u : U) → fits_step L s ≡ true → J c u → IsConfiguration L (LayerHolds l.table l.below l.Holds) (LayerReaches l.table l.MayBeAt l.Reaches) (stepped L c s)
  keeps_configuration c s u f h = step_keeps L (LayerHolds l.table l.below l.Holds) (LayerReaches l.table l.MayBeAt l.Reaches) (layer_lawful l) c s h.well f

  -- a process with nothing pending invokes an operation
  invoke_joint : (p : ℕ) (o : Op) (c : LoneConfiguration N) (u : U) → running_at p c ≡ None → is_stopped p c ≡ false → l.table.suits p o ≡ true → fits_step L (invoking_step p o) ≡ true → J c u → NextJoint c u (invoking_step p o)
  invoke_joint p o c u e awake s f h =
      let begun : Begun N = advance l.table l.below (l.table.program p o) c.memory in
      let r = program_ran l user value (λ q. is_stopped q c) w rule is_user all vals p o (λ e. Up u (in_order (Some (Invoke p o)) e)) (l.table.program p o) c.memory (λ q. running_at q c) h.j
      awake e (l.sound.begins_sound p o s)
      (record { holds = h.well.holds; words = h.words; tasks = λ q ne. h.tasks q; links = h.links })
      (K.begins u h.j p o h.inv (h.tasks p ∙ ap task_in_progress e) s) in
      let lp : p < l.table.processes = l.sound.nobody_else p o s in
      ran_joint p o (invoking_step p o) (Some (Invoke p o)) begun c u (omega (arith, lp, h.well.each)) (step_begins L p o c c.memory e awake refl) (keeps_configuration c (invoking_step p o) u f h) r

  -- a process with an operation pending makes its next bit action
  go_joint : (p choice : ℕ) (c : LoneConfiguration N) (u : U) (r : Running N) → running_at p c ≡ Some r → is_stopped p c ≡ false → p < l.table.processes → choice < 2 → fits_step L (step.Go p choice) ≡ true → J c u
      → NextJoint c u (step.Go p choice)
  go_joint p choice c u r e awake lp lc f h =
      let o : Op = r.op in
      let task : Task = r.point.task in
      let a : ℕ = (l.table.asks task).part in
      let who : ℕ = (l.table.asks task).who in
      let aop : Op = (l.table.asks task).op in
      let m : Memory = c.memory in
      let at : ℕ → Option (Running N) = λ q. running_at q c in
      let can : LayerReaches l.table l.MayBeAt l.Reaches p o r.point = subst (IsReached (LayerReaches l.table l.MayBeAt l.Reaches) p) e (h.well.reached p) in
      let fit = asks_fit l p o task can.may_be_at in
      let la : a < l.table.parts = fit.0 in
      let lw : who < l.below.processes = l.lawful.nobody_else who aop fit.1 in
      let us : user a who ≡ p = is_user p o task can.may_be_at in
      let link = h.links a la in
      let inner_running : Running P = record { op = aop; point = r.point.below } in
      let runs_it : running_at who link.c ≡ Some inner_running =
      link.running who lw ∙ ap (λ i. pending_in_part l.table a who (at i)) us ∙ ap (pending_in_part l.table a who) e ∙ pending_in_part-same l.table o task (Rattle.frames.specs.declared.types.Next.TheVariants.Pending r.point.below) in
      let own : Memory = part (part_place l.below.size a) l.below.size m in
      let moved : Moved P = l.below.goes r.point.below (choice == 1) own in
      let new : Memory = with_part (part_place l.below.size a) moved.memory m in
      let to : StepsTo l.below link.c (step.Go who choice) who aop (chosen_of who moved.chosen) moved.next moved.memory =
      step_goes l.below who choice link.c inner_running own runs_it (link.stopped who lw ∙ ap (λ q. is_stopped q c) us ∙ awake) link.memory in
      let fb : fits_step l.below (step.Go who choice) ≡ true = go_fits l.below who choice lw lc in
      let g = l.lawful.goes_well who aop r.point.below (choice == 1) own (h.well.holds.parts a la) can.below in
      let hs : HasSize l.below.size moved.memory = l.lawful.size_holds moved.memory g.holds in
      let fine = gone_admitted w.Good rule who moved.chosen (return_of who moved.next) (h.j.parts a)
      (subst (IsAdmitted w.Good rule (h.j.parts a)) to.events (reached_admitted w.Good rule l.below (value a) link.c (h.j.parts a) (step.Go who choice) all (vals a la) link.reached fb)) in
      let es : after_step (in_order (chosen_of who moved.chosen) (return_of who moved.next)) (h.j.parts a) ≡ sees (return_of who moved.next) (h.j.parts a) =
      gone_seen who moved.chosen (return_of who moved.next) (h.j.parts a) fine.0 in
      let whole = step_goes L p choice c r m e awake refl in
      let lh : LayerHolds l.table l.below l.Holds new = holds_with_part l a moved.memory m la g.holds h.well.holds in
      let chosen = (resume l.table l.below r.point (choice == 1) m).chosen in
      let n : TaskInProgress Task = record { op = o; task = task } in
      let mine : h.j.tasks p ≡ Some n = h.tasks p ∙ ap task_in_progress e in
      let tasks_same : (q : ℕ) → h.j.tasks q ≡ put p (Some n) h.j.tasks q = λ q. put_present_at p q (Some n) h.j.tasks mine in
      let parts_same : (k : ℕ) → h.j.parts k ≡ put a (h.j.parts a) h.j.parts k = λ k. put_back_at a k h.j.parts in
      let Out : Option Event → U → Type 0 = λ e. Up u (in_order (chosen_of p chosen) e) in
      let still = K.passes.still u h.j p chosen h.inv in
      let ran = after_part_ran l user value (λ q. is_stopped q c) w p o task new at h.j h.j (h.j.parts a) moved.next Out (λ outcome m'. advance l.table l.below (l.table.rest task outcome) m')
      lh
      (λ i lt. h.words i lt ∙ sym (word_after_part l moved.memory m a i h.well.holds la hs))
      (λ q ne. h.tasks q)
      (λ k lk. subst (λ y. Linked l user value (λ q. is_stopped q c) new (put p (still_running o (nested_next task moved.next)) at) k (put a y h.j.parts k)) es
      (links_move l user value (λ q. is_stopped q c) m at h.j.parts p o task (chosen_of who moved.chosen) moved.next moved.memory (step.Go who choice) h.well.holds h.links la lw us
      (λ k q ne. ap (pending_in_part l.table k q) e ∙ pending_in_part-other l.table o task (Rattle.frames.specs.declared.types.Next.TheVariants.Pending r.point.below) k q ne) link fb to hs k lk))
      fine.0
      fine.1
      (suits_by_table l user value (λ q. is_stopped q c) w task moved.next g.may_be_at)
      still
      (λ i. refl) tasks_same parts_same
      (λ outcome ans pass good mid.
      program_ran l user value (λ q. is_stopped q c) w rule is_user all vals p o Out (l.table.rest task outcome) new (put p None at)
      (record h.j { parts = put a (sees (Some (end_event who outcome)) (h.j.parts a)) h.j.parts })
      awake (put_same p None at) (l.sound.rest_sound p o task outcome can.may_be_at ans pass) mid
      (K.goes u h.j p n chosen outcome h.inv mine can.may_be_at ans pass good)) in
      ran_joint p o (step.Go p choice) (chosen_of p chosen) (after_part (λ outcome m'. advance l.table l.below (l.table.rest task outcome) m') task moved.next new) c u
      (omega (arith, lp, h.well.each)) whole (keeps_configuration c (step.Go p choice) u f h) ran

  -- when p stops, so does each process below n of part k as which p acts
  stops_upto : (p : ℕ) (c : LoneConfiguration N) (k : ℕ) (s : Seen) → is_stopped p c ≡ false → (n : ℕ) → n ≤ l.below.processes → Linked l user value (λ q. is_stopped q c) c.memory (λ q. running_at q c) k s
      → Stopping l user value p c k s n
  stops_upto p c k s awake zero ln h = record {
    d = h.c;
    well = h.well;
    reached = h.reached;
    memory = h.memory;
    running = h.running;
    stops = λ q lt lq e. (let z : ⊥ = omega (arith, lt) in absurd z);
    others = λ q lq f. h.stopped q lq;
  }
  stops_upto p c k s awake (suc n) ln h =
      let r = stops_upto p c k s awake n (omega (arith, ln)) h in
      let lb : n < l.below.processes = omega (arith, ln) in
      elim (cases_eq (user k n) p) [
        | inr ne ↦ record {
          d = r.d;
          well = r.well;
          reached = r.reached;
          memory = r.memory;
          running = r.running;
          stops = λ q lt lq e. r.stops q (let d : q ≡ n → ⊥ = λ x. ne (sym (ap (user k) x) ∙ e) in omega (arith, lt, d)) lq e;
          others = λ q lq f. r.others q lq (λ lt e. f (omega (arith, lt)) e);
        }
        | inl me ↦
            let first : is_stopped n r.d ≡ false = r.others n lb (λ lt e. omega (arith, lt)) ∙ ap (λ q. is_stopped q c) me ∙ awake in
            let is = step_stops l.below n r.d first in
            let f : fits_step l.below (step.Stop n) ≡ true = stop_fits l.below n lb in
            let len : n < length r.d.stopped = omega (arith, lb, r.well.each_mark) in
            record {
              d = stepped l.below r.d (step.Stop n);
              well = step_keeps l.below l.Holds l.Reaches l.lawful r.d (step.Stop n) r.well f;
              reached = subst (λ e. IsReplayed l.below (value k) (stepped l.below r.d (step.Stop n)) (after_step e s)) is.events (replayed_more l.below (value k) r.d s (step.Stop n) r.reached f);
              memory = ap (λ x. x.memory) is.after ∙ r.memory;
              running = λ q lq. ap (λ x. running_at q x) is.after ∙ r.running q lq;
              stops = λ q lt lq e. ap (λ x. is_stopped q x) is.after ∙ elim (cases_eq q n) as (λ _. get_or (set r.d.stopped n true) q false ≡ true) [
                | inl same ↦ get_or-set_at r.d.stopped n q true false same len
                | inr other ↦ get_or-set_other r.d.stopped n q true false other ∙ r.stops q (omega (arith, lt, other)) lq e
              ];
              others = λ q lq f. ap (λ x. is_stopped q x) is.after ∙ elim (cases_eq q n) as (λ _. get_or (set r.d.stopped n true) q false ≡ is_stopped (user k q) c) [
                | inl same ↦ absurd (f (omega (arith, same)) (ap (user k) same ∙ me))
                | inr other ↦ get_or-set_other r.d.stopped n q true false other ∙ r.others q lq (λ lt e. f (omega (arith, lt)) e)
              ];
            }
      ]

  stop_joint : (p : ℕ) (c : LoneConfiguration N) (u : U) → is_stopped p c ≡ false → p < l.table.processes → fits_step L (step.Stop p) ≡ true → J c u → NextJoint c u (step.Stop p)
  stop_joint p c u awake lp f h =
      let is = step_stops L p c awake in (
        u,
        (
          subst (λ e. Up u e u) (sym is.events) (K.passes.stop u p),
          subst (λ d. J d u) (sym is.after) (record {
            well = subst (IsConfiguration L (LayerHolds l.table l.below l.Holds) (LayerReaches l.table l.MayBeAt l.Reaches)) is.after (keeps_configuration c (step.Stop p) u f h);
            j = h.j;
            inv = h.inv;
            words = h.words;
            tasks = h.tasks;
            links = λ k lk.
                let r = stops_upto p c k (h.j.parts k) awake l.below.processes (omega arith) (h.links k lk) in
                record {
                  c = r.d;
                  well = r.well;
                  reached = r.reached;
                  memory = r.memory;
                  running = r.running;
                  stopped = λ q lq. elim (cases_eq (user k q) p) as (λ _. is_stopped q r.d ≡ get_or (set c.stopped p true) (user k q) false) [
                    | inl e ↦ r.stops q lq lq e ∙ sym (get_or-set_at c.stopped p (user k q) true false e (omega (arith, lp, h.well.each_mark)))
                    | inr ne ↦ r.others q lq (λ lt e. ne e) ∙ sym (get_or-set_other c.stopped p (user k q) true false ne)
                  ];
                };
          }),
        ),
      )

  -- p invokes an operation, whether or not p has one pending
  invoke_or_void_joint : (p : ℕ) (o : Op) (c : LoneConfiguration N) (u : U) (x : Option (Running N)) → running_at p c ≡ x → is_stopped p c ≡ false → l.table.suits p o ≡ true → fits_step L (invoking_step p o) ≡ true
      → ((r : Running N) → x ≡ Some r → IsVoid L c (invoking_step p o)) → J c u → NextJoint c u (invoking_step p o)
  invoke_or_void_joint p o c u None e awake s f void h = invoke_joint p o c u e awake s f h
  invoke_or_void_joint p o c u (Some r) e awake s f void h = void_joint (invoking_step p o) c u (void r refl) h

  go_or_void_joint : (p choice : ℕ) (c : LoneConfiguration N) (u : U) (x : Option (Running N)) → running_at p c ≡ x → is_stopped p c ≡ false → p < l.table.processes → choice < 2 → fits_step L (step.Go p choice) ≡ true → J c u
      → NextJoint c u (step.Go p choice)
  go_or_void_joint p choice c u (Some r) e awake lp lc f h = go_joint p choice c u r e awake lp lc f h
  go_or_void_joint p choice c u None e awake lp lc f h =
      void_joint (step.Go p choice) c u (void_unless_enabled L c (step.Go p choice) (ap (λ x. not (is_stopped p c) && is_some x) e ∙ ap (λ b. not b && false) awake)) h

  awake_joint : (s : Step) (c : LoneConfiguration N) (u : U) → fits_step L s ≡ true → is_stopped (process_of s) c ≡ false → J c u → NextJoint c u s
  awake_joint (step.Write p v) c u f awake h =
      invoke_or_void_joint p (op.Write v) c u (running_at p c) refl awake f f
      (λ r e. void_unless_enabled L c (step.Write p v) (ap (λ x. not (is_stopped p c) && is_none x) e ∙ ap (λ b. not b && false) awake)) h
  awake_joint (step.Read p) c u f awake h =
      invoke_or_void_joint p op.Read c u (running_at p c) refl awake f f
      (λ r e. void_unless_enabled L c (step.Read p) (ap (λ x. not (is_stopped p c) && is_none x) e ∙ ap (λ b. not b && false) awake)) h
  awake_joint (step.Go p choice) c u f awake h =
      let parts = and_parts (nat_lt p l.table.processes) (nat_lt choice 2) f in
      go_or_void_joint p choice c u (running_at p c) refl awake (ltb-true p l.table.processes parts.0) (ltb-true choice 2 parts.1) f h
  awake_joint (step.Stop p) c u f awake h = stop_joint p c u awake (ltb-true p l.table.processes f) f h

  pub step_joint : (s : Step) (c : LoneConfiguration N) (u : U) → fits_step L s ≡ true → J c u → NextJoint c u s
  step_joint s c u f h = go (is_stopped (process_of s) c) refl
    where
      go : (k : Bool) → is_stopped (process_of s) c ≡ k → NextJoint c u s
      go true e = void_joint s c u (stopped_is_void L c s e) h
      go false e = awake_joint s c u f e h

  pub steps_joint : (list : List Step) (c : LoneConfiguration N) (u : U) → AllFit L list → J c u → Allowed Up u (history L c list)
  steps_joint [] c u f h = tt
  steps_joint (s ∷ rest) c u f h =
      let z = step_joint s c u (All-head (λ x. fits_step L x ≡ true) s rest f) h in
      (z.0, (z.1.0, steps_joint rest (stepped L c s) z.0 (All-tail (λ x. fits_step L x ≡ true) s rest f) z.1.1))

  -- after all steps of a list, the view and the parts agree with the configuration
  pub replayed_joint : (list : List Step) (c : LoneConfiguration N) (u : U) → AllFit L list → J c u → (z : U) × J (replayed L c list) z
  replayed_joint [] c u f h = (u, h)
  replayed_joint (s ∷ rest) c u f h =
      let z = step_joint s c u (All-head (λ x. fits_step L x ≡ true) s rest f) h in
      replayed_joint rest (stepped L c s) z.0 (All-tail (λ x. fits_step L x ≡ true) s rest f) z.1.1
