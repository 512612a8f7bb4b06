-- A process's program runs to its next bit action or its end: the invariant is kept, and each part
-- stays linked to its own list of steps.
use Rattle.std.proofs.Common.{◌≡◌, ℕ, ◌+◌, ◌<◌, length, refl, ap, sym, ◌∙◌, subst, arith, inl, inr, Bool, true, false, Option, Some, None}
use Rattle.std.specs.List.{AllByRecursion}
use Rattle.std.proofs.lemmas.Bool.{cases_eq}
use Rattle.std.proofs.lemmas.List.{get_or-set_same, get_or-set_other}
use Rattle.safe_bit.specs.Memory.{Memory, word_at, with_word}
use Rattle.safe_bit.specs.Parts.{part, with_part, HasSize}
use Rattle.frames.specs.declared.types.Op.{Op}
use Rattle.frames.specs.declared.types.Outcome.{Outcome}
use Rattle.frames.specs.declared.types.Outcome.TheVariants.{Value, Written, Spent}
use Rattle.frames.specs.declared.types.Next.{Next}
use Rattle.frames.specs.declared.types.Next.TheVariants.{Pending, Done}
use Rattle.frames.specs.declared.types.Event.{Event}
use Rattle.frames.specs.declared.types.Event.TheVariants.{Invoke}
use Rattle.frames.specs.declared.running.Running.{Running}
use Rattle.layers.specs.declared.nested.Nested.{Nested}
use Rattle.frames.specs.Behaviour.{Begun, ReachedOrAnswered, Answers}
use Rattle.frames.specs.Configuration.{running_at, return_of, still_running, in_order, fits_step}
use Rattle.frames.specs.declared.types.Event.TheVariants.{Refused}
use Rattle.frames.specs.declared.types.Layer.{Layer}
use Rattle.frames.specs.Steps.{invoking_step}
use Rattle.std.specs.Prelude.{if◌then◌else◌}
use Rattle.frames.proofs.Seen.{Seen, sees, got, refuses, end_event, after_step}
use Rattle.frames.proofs.Pointwise.{put, put_same, put_other, put_present_at, put_back_at}
use Rattle.layers.specs.Nested.{Program, Ends, Asks, Reads, Sets, part_place, own_words_start, after_part, advance}
use Rattle.layers.specs.Sound.{LayerHolds, IsSound, IsNotSpent}
use Rattle.layers.specs.laws.Nested.{asks_fit, holds_with_part, holds_with_word}
use Rattle.layers.specs.laws.Over.{LayerOver}
use Rattle.layers.proofs.Law.{TaskInProgress, View, Watch, Admission, RunsUnder, IsUser}
use Rattle.layers.proofs.Admitted.{IsAdmitted, AlwaysAdmits, reached_admitted, spent_end}
use Rattle.layers.proofs.Links.{invoking_step_fits, step_begins, StepsTo, nested_next, pending_in_part, Linked, part-with_word, word_after_part, links_move, link_same, begun_seen}

abbrev pub task_in_progress : {Task P : Type 0} → Option (Running (Nested Task P)) → Option (TaskInProgress Task)
task_in_progress None = None
task_in_progress (Some r) = Some (record { op = r.op; task = r.point.task })

-- the event of an operation's end is that of its outcome
pub return_done : (P : Type 0) (p : ℕ) (o : Outcome) → return_of {P = P} p (Done o) ≡ Some (end_event p o)
return_done P p (Value v) = refl
return_done P p Written = refl
return_done P p (Spent layer) = refl

-- while p's program runs in a step, the view agrees with the memory, with the processes other than
-- p, and with the parts
pub record AgreesMidway {Task P U : Type 0} (l : LayerOver Task P) (user : ℕ → ℕ → ℕ) (value : ℕ → ℕ) (has_stopped : ℕ → Bool) (w : Watch Task U)
    (m : Memory) (at : ℕ → Option (Running (Nested Task P))) (p : ℕ) (j : View Task) : Type 0 where
  pub holds : LayerHolds l.table l.below l.Holds m
  pub words : (i : ℕ) → i < l.table.words → j.words i ≡ word_at (own_words_start l.table l.below.size + i) m
  pub tasks : (q : ℕ) → (q ≡ p → ⊥) → j.tasks q ≡ task_in_progress (at q)
  pub links : (k : ℕ) → k < l.table.parts → Linked l user value has_stopped m at k (j.parts k)

-- what holds once p's program has run to its next bit action or its end
pub record Ran {Task P U : Type 0} (l : LayerOver Task P) (user : ℕ → ℕ → ℕ) (value : ℕ → ℕ) (has_stopped : ℕ → Bool) (w : Watch Task U)
    (p : ℕ) (o : Op) (Out : Option Event → U → Type 0) (begun : Begun (Nested Task P)) (at : ℕ → Option (Running (Nested Task P))) : Type 0 where
  pub u : U
  pub out : Out (return_of p begun.next) u
  pub j : View Task
  pub inv : w.Inv u j
  pub to : ℕ → Option (Running (Nested Task P))
  pub others : (q : ℕ) → (q ≡ p → ⊥) → to q ≡ at q
  pub mine : to p ≡ still_running o begun.next
  pub words : (i : ℕ) → i < l.table.words → j.words i ≡ word_at (own_words_start l.table l.below.size + i) begun.memory
  pub tasks : (q : ℕ) → j.tasks q ≡ task_in_progress (to q)
  pub links : (k : ℕ) → k < l.table.parts → Linked l user value has_stopped begun.memory to k (j.parts k)

tasks_put : {Task P : Type 0} (p q : ℕ) (x : Option (Running (Nested Task P))) (f : ℕ → Option (TaskInProgress Task)) (at : ℕ → Option (Running (Nested Task P)))
    → ((q : ℕ) → (q ≡ p → ⊥) → f q ≡ task_in_progress (at q)) → put p (task_in_progress x) f q ≡ task_in_progress (put p x at q)
tasks_put p q x f at h =
    elim (cases_eq q p) [
      | inl e ↦ ap (put p (task_in_progress x) f) e ∙ put_same p (task_in_progress x) f ∙ sym (ap (λ i. task_in_progress (put p x at i)) e ∙ ap task_in_progress (put_same p x at))
      | inr ne ↦ put_other p q (task_in_progress x) f ne ∙ h q ne ∙ sym (ap task_in_progress (put_other p q x at ne))
    ]

module _ {Task P U : Type 0} (l : LayerOver Task P) (user : ℕ → ℕ → ℕ) (value : ℕ → ℕ) (has_stopped : ℕ → Bool) (w : Watch Task U) where
  abbrev PendingOps : Type 0
  PendingOps = ℕ → Option (Running (Nested Task P))

  abbrev RanTo : ℕ → Op → (Option Event → U → Type 0) → Begun (Nested Task P) → PendingOps → Type 0
  RanTo p o Out begun at = Ran l user value has_stopped w p o Out begun at

  -- `Ran` doesn't depend on what p had pending before the step
  ran_from : (p : ℕ) (o : Op) (Out : Option Event → U → Type 0) (begun : Begun (Nested Task P)) (at : PendingOps) → RanTo p o Out begun (put p None at) → RanTo p o Out begun at
  ran_from p o Out begun at r = record {
    u = r.u;
    out = r.out;
    j = r.j;
    inv = r.inv;
    to = r.to;
    others = λ q ne. r.others q ne ∙ put_other p q None at ne;
    mine = r.mine;
    words = r.words;
    tasks = r.tasks;
    links = r.links;
  }

  -- p's program runs on, or waits, after a step of a part
  pub after_part_ran : (p : ℕ) (o : Op) (task : Task) (m : Memory) (at : PendingOps) (j c : View Task) (s : Seen) (next : Next P) (Out : Option Event → U → Type 0) (go_on : Outcome → Memory → Begun (Nested Task P))
      → LayerHolds l.table l.below l.Holds m
      → ((i : ℕ) → i < l.table.words → j.words i ≡ word_at (own_words_start l.table l.below.size + i) m)
      → ((q : ℕ) → (q ≡ p → ⊥) → j.tasks q ≡ task_in_progress (at q))
      → ((k : ℕ) → k < l.table.parts → Linked l user value has_stopped m (put p (still_running o (nested_next task next)) at) k
      (put (l.table.asks task).part (sees (return_of (l.table.asks task).who next) s) j.parts k))
      → refuses (return_of (l.table.asks task).who next) ≡ false
      → AllByRecursion w.Good (got (return_of (l.table.asks task).who next) s)
      → ReachedOrAnswered (l.Reaches (l.table.asks task).who (l.table.asks task).op) (Answers l.table.inner_values (l.table.asks task).op) next
      → ((u : U) × (Out None u × w.Inv u c))
      → ((i : ℕ) → c.words i ≡ j.words i) → ((q : ℕ) → c.tasks q ≡ put p (Some (record { op = o; task = task })) j.tasks q) → ((k : ℕ) → c.parts k ≡ put (l.table.asks task).part s j.parts k)
      → ((outcome : Outcome) → Answers l.table.inner_values (l.table.asks task).op outcome → IsNotSpent outcome → AllByRecursion w.Good (got (Some (end_event (l.table.asks task).who outcome)) s)
      → AgreesMidway l user value has_stopped w m (put p None at) p (record j { parts = put (l.table.asks task).part (sees (Some (end_event (l.table.asks task).who outcome)) s) j.parts })
      → RanTo p o Out (go_on outcome m) (put p None at))
      → RanTo p o Out (after_part go_on task next m) at
  after_part_ran p o task m at j c s (Pending q) Out go_on lh words tasks links fine good ans inv cw ct cp more =
      let x : Option (Running (Nested Task P)) = Some (record { op = o; point = record { task = task; below = q } }) in
      record {
        u = inv.0;
        out = inv.1.0;
        j = c;
        inv = inv.1.1;
        to = put p x at;
        others = λ i ne. put_other p i x at ne;
        mine = put_same p x at;
        words = λ i lt. cw i ∙ words i lt;
        tasks = λ i. ct i ∙ tasks_put p i x j.tasks at tasks;
        links = λ k lt. subst (Linked l user value has_stopped m (put p x at) k) (sym (cp k)) (links k lt);
      }
  after_part_ran p o task m at j c s (Done (Value v)) Out go_on lh words tasks links fine good ans inv cw ct cp more =
      ran_from p o Out (go_on (Value v) m) at (more (Value v) ans tt good (record { holds = lh; words = words; tasks = λ q ne. tasks q ne ∙ sym (ap task_in_progress (put_other p q None at ne)); links = links }))
  after_part_ran p o task m at j c s (Done Written) Out go_on lh words tasks links fine good ans inv cw ct cp more =
      ran_from p o Out (go_on Written m) at (more Written ans tt good (record { holds = lh; words = words; tasks = λ q ne. tasks q ne ∙ sym (ap task_in_progress (put_other p q None at ne)); links = links }))
  after_part_ran p o task m at j c s (Done (Spent layer)) Out go_on lh words tasks links fine good ans inv cw ct cp more =
      let never : ⊥ = cc in absurd never

  -- a part's next point or end suits in terms of the table's number of values too
  pub suits_by_table : (task : Task) (next : Next P) → ReachedOrAnswered (l.Reaches (l.table.asks task).who (l.table.asks task).op) (Answers l.below.values (l.table.asks task).op) next
      → ReachedOrAnswered (l.Reaches (l.table.asks task).who (l.table.asks task).op) (Answers l.table.inner_values (l.table.asks task).op) next
  suits_by_table task next h = subst (λ n. ReachedOrAnswered (l.Reaches (l.table.asks task).who (l.table.asks task).op) (Answers n (l.table.asks task).op) next) l.fit.same_values h

  -- the part that is asked takes the operation, or refuses it at once
  pub ask_ran : (rule : Admission) (p : ℕ) (o : Op) (task : Task) (m : Memory) (at : PendingOps) (j : View Task) (next : Next P) (Out : Option Event → U → Type 0) (go_on : Outcome → Memory → Begun (Nested Task P))
      → at p ≡ None → LayerHolds l.table l.below l.Holds m
      → ((i : ℕ) → i < l.table.words → j.words i ≡ word_at (own_words_start l.table l.below.size + i) m)
      → ((q : ℕ) → (q ≡ p → ⊥) → j.tasks q ≡ task_in_progress (at q))
      → ((k : ℕ) → k < l.table.parts → Linked l user value has_stopped m (put p (still_running o (nested_next task next)) at) k
      (put (l.table.asks task).part (after_step (in_order (Some (Invoke (l.table.asks task).who (l.table.asks task).op)) (return_of (l.table.asks task).who next)) (j.parts (l.table.asks task).part)) j.parts k))
      → IsAdmitted w.Good rule (j.parts (l.table.asks task).part) (in_order (Some (Invoke (l.table.asks task).who (l.table.asks task).op)) (return_of (l.table.asks task).who next))
      → ReachedOrAnswered (l.Reaches (l.table.asks task).who (l.table.asks task).op) (Answers l.table.inner_values (l.table.asks task).op) next
      → (rule.Takes (l.table.asks task).op (j.parts (l.table.asks task).part) → (u : U) × (Out None u × w.Inv u (record j {
        tasks = put p (Some (record { op = o; task = task })) j.tasks;
        parts = put (l.table.asks task).part (sees (Some (Invoke (l.table.asks task).who (l.table.asks task).op)) (j.parts (l.table.asks task).part)) j.parts;
      })))
      → ((layer : Layer) → rule.Refuses (l.table.asks task).op (j.parts (l.table.asks task).part) → (u : U) × (Out (Some (Refused p layer)) u × w.Inv u (record j { tasks = put p None j.tasks })))
      → ((outcome : Outcome) → rule.Takes (l.table.asks task).op (j.parts (l.table.asks task).part) → Answers l.table.inner_values (l.table.asks task).op outcome → IsNotSpent outcome
      → AllByRecursion w.Good (got (Some (end_event (l.table.asks task).who outcome)) (sees (Some (Invoke (l.table.asks task).who (l.table.asks task).op)) (j.parts (l.table.asks task).part)))
      → AgreesMidway l user value has_stopped w m (put p None at) p (record j { parts = put (l.table.asks task).part (sees (Some (end_event (l.table.asks task).who outcome)) (sees (Some (Invoke (l.table.asks task).who (l.table.asks task).op)) (j.parts (l.table.asks task).part))) j.parts })
      → RanTo p o Out (go_on outcome m) (put p None at))
      → RanTo p o Out (after_part go_on task next m) at
  ask_ran rule p o task m at j next Out go_on idle lh words tasks moved fine ans pending spent more = by_end (refuses (return_of (l.table.asks task).who next)) refl
    where
      by_end : (b : Bool) → refuses (return_of (l.table.asks task).who next) ≡ b → RanTo p o Out (after_part go_on task next m) at
      by_end false e =
          let a : ℕ = (l.table.asks task).part in
          let who : ℕ = (l.table.asks task).who in
          let aop : Op = (l.table.asks task).op in
          let z : Seen = sees (Some (Invoke who aop)) (j.parts a) in
          let t : rule.Takes aop (j.parts a) = fine.taken e in
          let es : after_step (in_order (Some (Invoke who aop)) (return_of who next)) (j.parts a) ≡ sees (return_of who next) z = begun_seen who aop (return_of who next) (j.parts a) e in
          after_part_ran p o task m at j (record j { tasks = put p (Some (record { op = o; task = task })) j.tasks; parts = put a z j.parts }) z next Out go_on
          lh words tasks
          (λ k lk. subst (λ y. Linked l user value has_stopped m (put p (still_running o (nested_next task next)) at) k (put a y j.parts k)) es (moved k lk))
          e fine.reads ans (pending t)
          (λ i. refl) (λ q. refl) (λ k. refl)
          (λ outcome ans2 pass good mid2. more outcome t ans2 pass good mid2)
      by_end true e =
          let a : ℕ = (l.table.asks task).part in
          let who : ℕ = (l.table.asks task).who in
          let aop : Op = (l.table.asks task).op in
          let s = spent_end who next e in
          let r = spent s.0 (fine.refused e) in
          let es : after_step (in_order (Some (Invoke who aop)) (return_of who next)) (j.parts a) ≡ j.parts a =
          ap (λ b. if b then j.parts a else sees (return_of who next) (sees (Some (Invoke who aop)) (j.parts a))) e in
          let end : Next P = Done (Spent s.0) in
          subst (λ x. RanTo p o Out (after_part go_on task x m) at) (sym s.1) (record {
            u = r.0;
            out = r.1.0;
            j = record j { tasks = put p None j.tasks };
            inv = r.1.1;
            to = put p None at;
            others = λ q ne. put_other p q None at ne;
            mine = put_same p None at;
            words = words;
            tasks = λ q. tasks_put p q None j.tasks at tasks;
            links = λ k lt. subst (λ y. Linked l user value has_stopped m (put p None at) k y) (sym (put_back_at a k j.parts))
                (subst (λ y. Linked l user value has_stopped m (put p None at) k (put a y j.parts k)) es (subst (λ x. Linked l user value has_stopped m (put p (still_running o (nested_next task x)) at) k
                (put a (after_step (in_order (Some (Invoke who aop)) (return_of who next)) (j.parts a)) j.parts k)) s.1 (moved k lt)));
          })

  -- if p's program runs from here, the invariant and the links are kept
  pub program_ran : (rule : Admission) → IsUser l.table l.MayBeAt user → AlwaysAdmits w.Good rule l.below → ((k : ℕ) → k < l.table.parts → value k < l.below.values)
      → (p : ℕ) (o : Op) (Out : Option Event → U → Type 0) (prog : Program Task) (m : Memory) (at : PendingOps) (j : View Task)
      → has_stopped p ≡ false → at p ≡ None → IsSound l.table (l.MayBeAt p o) (Answers l.table.values o) prog
      → AgreesMidway l user value has_stopped w m at p j → RunsUnder rule l.table w p o Out prog j
      → RanTo p o Out (advance l.table l.below prog m) at
  program_ran rule is_user all vals p o Out (Ends outcome) m at j awake idle sound mid r = record {
    u = r.0;
    out = subst (λ e. Out e r.0) (sym (return_done (Nested Task P) p outcome)) r.1.0;
    j = record j { tasks = put p None j.tasks };
    inv = r.1.1;
    to = put p None at;
    others = λ q ne. put_other p q None at ne;
    mine = put_same p None at;
    words = mid.words;
    tasks = λ q. tasks_put p q None j.tasks at mid.tasks;
    links = λ k lt. link_same l user value has_stopped m m at (put p None at) k (j.parts k) (j.parts k) (λ q. put_present_at p q None at idle) refl refl (mid.links k lt);
  }
  program_ran rule is_user all vals p o Out (Reads i rest) m at j awake idle sound mid r =
      let x : ℕ = word_at (own_words_start l.table l.below.size + i) m in
      program_ran rule is_user all vals p o Out (rest x) m at j awake idle (sound.1 x (mid.holds.words i sound.0)) mid (subst (λ y. RunsUnder rule l.table w p o Out (rest y) j) (mid.words i sound.0) r)
  program_ran rule is_user all vals p o Out (Sets i x rest) m at j awake idle sound mid r =
      let new : Memory = with_word (own_words_start l.table l.below.size + i) x m in
      let there : own_words_start l.table l.below.size + i < length m.words = (let h = mid.holds.size.words in let lt = sound.0 in omega arith) in
      program_ran rule is_user all vals p o Out rest new at (record j { words = put i x j.words }) awake idle sound.1.1
      (record {
        holds = holds_with_word l i x m sound.0 sound.1.0 mid.holds;
        words = λ k lk. elim (cases_eq k i) as (λ _. put i x j.words k ≡ word_at (own_words_start l.table l.below.size + k) new) [
          | inl e ↦
              ap (put i x j.words) e ∙ put_same i x j.words
              ∙ sym (ap (λ q. word_at (own_words_start l.table l.below.size + q) new) e ∙ get_or-set_same m.words (own_words_start l.table l.below.size + i) x 0 there)
          | inr ne ↦
              put_other i k x j.words ne ∙ mid.words k lk
              ∙ sym (get_or-set_other m.words (own_words_start l.table l.below.size + i) (own_words_start l.table l.below.size + k) x 0 (λ e. ne (omega (arith, e))))
        ];
        tasks = mid.tasks;
        links = λ k lk. link_same l user value has_stopped m new at at k (j.parts k) (j.parts k) (λ q. refl) (sym (part-with_word l m i x k mid.holds lk)) refl (mid.links k lk);
      }) r
  program_ran rule is_user all vals p o Out (Asks task rest) m at j awake idle sound mid r =
      let a : ℕ = (l.table.asks task).part in
      let who : ℕ = (l.table.asks task).who in
      let aop : Op = (l.table.asks task).op in
      let fit = asks_fit l p o task sound.0 in
      let la : a < l.table.parts = fit.0 in
      let lw : who < l.below.processes = l.lawful.nobody_else who aop fit.1 in
      let u : user a who ≡ p = is_user p o task sound.0 in
      let link = mid.links a la in
      let free : running_at who link.c ≡ None = link.running who lw ∙ ap (λ i. pending_in_part l.table a who (at i)) u ∙ ap (pending_in_part l.table a who) idle in
      let own : Memory = part (part_place l.below.size a) l.below.size m in
      let begun : Begun P = l.below.begins who aop own in
      let new : Memory = with_part (part_place l.below.size a) begun.memory m in
      let to : StepsTo l.below link.c (invoking_step who aop) who aop (Some (Invoke who aop)) begun.next begun.memory =
      step_begins l.below who aop link.c own free (link.stopped who lw ∙ ap has_stopped u ∙ awake) link.memory in
      let f : fits_step l.below (invoking_step who aop) ≡ true = invoking_step_fits l.below who aop fit.1 in
      let g = l.lawful.begins_well who aop own (mid.holds.parts a la) fit.1 in
      let hs : HasSize l.below.size begun.memory = l.lawful.size_holds begun.memory g.holds in
      let fine : IsAdmitted w.Good rule (j.parts a) (in_order (Some (Invoke who aop)) (return_of who begun.next)) =
      subst (IsAdmitted w.Good rule (j.parts a)) to.events (reached_admitted w.Good rule l.below (value a) link.c (j.parts a) (invoking_step who aop) all (vals a la) link.reached f) in
      let z : Seen = sees (Some (Invoke who aop)) (j.parts a) in
      let lh : LayerHolds l.table l.below l.Holds new = holds_with_part l a begun.memory m la g.holds mid.holds in
      let words : (i : ℕ) → i < l.table.words → j.words i ≡ word_at (own_words_start l.table l.below.size + i) new = λ i lt. mid.words i lt ∙ sym (word_after_part l begun.memory m a i mid.holds la hs) in
      let moved : (k : ℕ) → k < l.table.parts → Linked l user value has_stopped new (put p (still_running o (nested_next task begun.next)) at) k (put a (after_step (in_order (Some (Invoke who aop)) (return_of who begun.next)) (j.parts a)) j.parts k) =
      links_move l user value has_stopped m at j.parts p o task (Some (Invoke who aop)) begun.next begun.memory (invoking_step who aop) mid.holds mid.links la lw u
      (λ k q ne. ap (pending_in_part l.table k q) idle) link f to hs in
      ask_ran rule p o task new at j begun.next Out (λ outcome n. advance l.table l.below (rest outcome) n) idle lh words mid.tasks moved fine (suits_by_table task begun.next g.may_be_at) r.0 r.1.1
      (λ outcome takes ans pass good mid2.
      program_ran rule is_user all vals p o Out (rest outcome) new (put p None at) (record j { parts = put a (sees (Some (end_event who outcome)) z) j.parts })
      awake (put_same p None at)
      (subst (λ q. IsSound l.table (l.MayBeAt p o) (Answers l.table.values o) q) (sym (sound.1 outcome)) (l.sound.rest_sound p o task outcome sound.0 ans pass))
      mid2 (r.1.0 outcome takes ans pass good))
