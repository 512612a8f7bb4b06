-- The stacks of frames of a configuration: at first, after a step of one process, and in equal
-- configurations.
use Rattle.std.proofs.Common.{◌≡◌, ℕ, ◌<◌, List, [], ◌∷◌, length, get_or, set, Option, Some, None, option_map, refl, sym, ap, subst, ◌∙◌, inl, inr, arith, zero-add, zero, suc, true, false, replicate}
use Rattle.std.specs.Prelude.{Bool, ◌&&◌}
use Rattle.std.specs.Bool.{Decides}
use Rattle.std.specs.Cmp.Lexicographic.{pointwise}
use Rattle.std.proofs.lemmas.Bool.{cases_eq}
use Rattle.std.proofs.lemmas.Bool.Decides.{Decides-and, Decides-at, Decides-like}
use Rattle.std.proofs.lemmas.Slice.Eq.{slice_eq-Decides}
use Rattle.std.proofs.lemmas.List.{get_or-set_same, get_or-set_other, get_or_default, same_lists}
use Rattle.safe_bit.specs.laws.Equality.{memory_eq, memory_decides}
use Rattle.frames.specs.Equality.{SameConfiguration}
use Rattle.safe_bit.specs.Memory.{Memory}
use Rattle.safe_bit.specs.Parts.{origin}
use Rattle.frames.specs.declared.types.Action.{Action}
use Rattle.frames.specs.Placed.{placed_action, placed_bit}
use Rattle.schedule_steps.specs.declared.types.Op.{Op}
use Rattle.frames.specs.declared.types.Frame.{Frame}
use Rattle.frames.specs.declared.types.StepEvents.{StepEvents}
use Rattle.frames.specs.declared.config.ProcessState.{ProcessState}
use Rattle.frames.specs.declared.running.Running.{Running}
use Rattle.frames.specs.Behaviour.{Behaviour, IsLawful}
use Rattle.frames.specs.Configuration.{Acted, initial_configuration, running_at, put_acted}
use Rattle.frames.specs.StoredConfiguration.{IsConfiguration, IsFlat, idle, marks_of, stacked_configuration, stacks_of}
use Rattle.frames.specs.Flat.{FramesGivePoint, HasStackEffect, IsReached, running_from, running_of, stack_of}
use Rattle.frames.specs.laws.Steps.{initial_is_configuration, put_acted_keeps}
use Rattle.frames.specs.laws.Flat.{set_running, length_running, none_running, slot_point, process_eq, process_decides, slot_by_frames}

module _ {R P : Type 0} (b : Behaviour P) (Holds : Memory → Type 0) (Reaches : ℕ → Op → P → Type 0) (find : ℕ → List Frame → Option P)
    (lawful : IsLawful b Holds Reaches) (gives_point : FramesGivePoint b Reaches find)
    (r : R) (m : Memory) (stacks : List (List Frame)) (stopped : List Bool) (was : IsFlat b Holds Reaches (stacked_configuration find r m stacks stopped) stacks) where
  -- each process has a stack
  stack_there : (who : ℕ) → who < b.processes → who < length stacks
  stack_there who lt = let e = was.configuration.each in omega (arith, lt, e, length_running find 0 stacks)

  -- a process's stack has the frames of its pending operation
  pub frames_are_on_stack : (who : ℕ) (x : List Frame) → who < b.processes → x ≡ get_or stacks who x → x ≡ stack_of b (running_at who (stacked_configuration find r m stacks stopped))
  frames_are_on_stack who x lt is = is ∙ sym (get_or_default stacks who [] x (stack_there who lt)) ∙ was.flat who

  -- putting in the stack of a pending operation puts in that operation
  put_running : (who : ℕ) (slot : Option (Running P)) (stack : List Frame) → IsReached Reaches who slot → stack ≡ stack_of b slot
      → running_from find 0 (set stacks who stack) ≡ set (running_from find 0 stacks) who slot
  put_running who slot stack there is =
      set_running find 0 stacks who stack
      ∙ ap (λ n. set (running_from find 0 stacks) who (running_of (find n) stack)) (zero-add who)
      ∙ ap (λ x. set (running_from find 0 stacks) who (running_of (find who) x)) is
      ∙ ap (λ x. set (running_from find 0 stacks) who x) (slot_by_frames b Reaches find gives_point who slot there)

  module _ (who : ℕ) (done : Acted P) (step_events : StepEvents) (stack : List Frame) (m' : Memory) (acts : HasStackEffect b done step_events stack m') (there : IsReached Reaches who done.running) where
    -- putting in the new stack and memory gives the configuration after the step's effect
    pub put_gives_effect : stacked_configuration find r m' (set stacks who stack) stopped ≡ put_acted who done (stacked_configuration find r m stacks stopped)
    put_gives_effect = λ i. record { register = r; memory = acts.memory i; running = put_running who done.running stack there acts.stack i; stopped = stopped }

    pub put_flat : who < b.processes → Holds done.memory → IsFlat b Holds Reaches (stacked_configuration find r m' (set stacks who stack) stopped) (set stacks who stack)
    put_flat lt holds = record {
      configuration = subst (IsConfiguration b Holds Reaches) (sym put_gives_effect) (put_acted_keeps b Holds Reaches lawful (stacked_configuration find r m stacks stopped) who done was.configuration lt holds there);
      flat = λ q. elim (cases_eq q who) as (λ _. get_or (set stacks who stack) q [] ≡ stack_of b (running_at q (stacked_configuration find r m' (set stacks who stack) stopped))) [
        | inl same ↦ rw (same, get_or-set_same stacks who stack [] (stack_there who lt))
            (acts.stack ∙ ap (stack_of b) (sym (ap (λ l. get_or l who None) (put_running who done.running stack there acts.stack)
            ∙ get_or-set_same (running_from find 0 stacks) who done.running None (subst (λ n. who < n) (sym was.configuration.each) lt))))
        | inr other ↦ rw (get_or-set_other stacks who q stack [] other)
            (was.flat q ∙ ap (stack_of b) (sym (ap (λ l. get_or l q None) (put_running who done.running stack there acts.stack)
            ∙ get_or-set_other (running_from find 0 stacks) who q done.running None other)))
      ];
    }

-- the initial configuration, in which no process has a frame
module _ {R P : Type 0} (b : Behaviour P) (Holds : Memory → Type 0) (Reaches : ℕ → Op → P → Type 0) (find : ℕ → List Frame → Option P)
    (lawful : IsLawful b Holds Reaches) (r : R) (v : ℕ) (lt : v < b.values) (m : Memory) (processes : List ProcessState)
    (at_m : m ≡ b.initial v) (at_rest : processes ≡ replicate b.processes idle) where
  idle_stacks : (n : ℕ) → stacks_of (replicate n idle) ≡ replicate n []
  idle_stacks zero = refl
  idle_stacks (suc n) = ap (λ l. [] ∷ l) (idle_stacks n)

  idle_marks : (n : ℕ) → marks_of (replicate n idle) ≡ replicate n false
  idle_marks zero = refl
  idle_marks (suc n) = ap (λ l. false ∷ l) (idle_marks n)

  at_stacks : stacks_of processes ≡ replicate b.processes []
  at_stacks = ap stacks_of at_rest ∙ idle_stacks b.processes

  at_stopped : marks_of processes ≡ replicate b.processes false
  at_stopped = ap marks_of at_rest ∙ idle_marks b.processes

  first_running : running_from find 0 (stacks_of processes) ≡ replicate b.processes None
  first_running = ap (running_from find 0) at_stacks ∙ none_running find 0 b.processes

  pub first_is_initial : stacked_configuration find r m (stacks_of processes) (marks_of processes) ≡ initial_configuration b r v
  first_is_initial = λ i. record { register = r; memory = at_m i; running = first_running i; stopped = at_stopped i }

  idle_stack_at : (n p : ℕ) → get_or (replicate n []) p [] ≡ stack_of b (get_or (replicate n None) p None)
  idle_stack_at zero p = refl
  idle_stack_at (suc n) zero = refl
  idle_stack_at (suc n) (suc p) = idle_stack_at n p

  pub first_flat : IsFlat b Holds Reaches (stacked_configuration find r m (stacks_of processes) (marks_of processes)) (stacks_of processes)
  first_flat = record {
    configuration = initial_is_configuration b Holds Reaches lawful r v m (running_from find 0 (stacks_of processes)) (marks_of processes) lt at_m first_running at_stopped;
    flat = λ p. ap (λ l. get_or l p []) at_stacks ∙ idle_stack_at b.processes p ∙ sym (ap (λ l. stack_of b (get_or l p None)) first_running);
  }

-- the point that a stack describes is the point of its process's pending operation
pub point_of_stack : {P : Type 0} (b : Behaviour P) (Reaches : ℕ → Op → P → Type 0) (find : ℕ → List Frame → Option P) → FramesGivePoint b Reaches find
    → (who : ℕ) (slot : Option (Running P)) (stack : List Frame) (p : P) → IsReached Reaches who slot → stack ≡ stack_of b slot → find who stack ≡ Some p
    → ((o : Op) × Reaches who o p) × (option_map (λ r. r.point) slot ≡ Some p)
point_of_stack {P} b Reaches find gives_point who slot stack p there is found =
    let e : option_map (λ r. r.point) slot ≡ Some p = sym (slot_point b Reaches find gives_point who slot there) ∙ ap (find who) (sym is) ∙ found in (reached_at slot there e, e)
  where
    reached_at : (slot : Option (Running P)) → IsReached Reaches who slot → option_map (λ r. r.point) slot ≡ Some p → (o : Op) × Reaches who o p
    reached_at None h e = cc
    reached_at (Some r) h e = let same : r.point ≡ p = cc in (r.op, subst (Reaches who r.op) same h)

-- if p is the point of a process's pending operation, f of that operation's point is f p
pub of_point : {P X : Type 0} (slot : Option (Running P)) (p : P) (f : P → X) → option_map (λ r. r.point) slot ≡ Some p → option_map (λ r. f r.point) slot ≡ Some (f p)
of_point None p f e = cc
of_point (Some r) p f e = let same : r.point ≡ p = cc in ap (λ q. Some (f q)) same

-- an action's cell has the same number in a store in which the register lies at the first place
pub action_at_origin : (a : Action) → placed_action origin a ≡ a
action_at_origin a = λ i. record a { cell = zero-add a.cell i }

pub bit_at_origin : (bit : Option (ℕ × Bool)) → placed_bit origin bit ≡ bit
bit_at_origin None = refl
bit_at_origin (Some bit) = ap (λ n. Some (n, bit.1)) (zero-add bit.0)

-- processes are equal if their stacks and marks are
same_processes : (xs ys : List ProcessState) → stacks_of xs ≡ stacks_of ys → marks_of xs ≡ marks_of ys → xs ≡ ys
same_processes [] [] s t = refl
same_processes [] (y ∷ ys) s t = cc
same_processes (x ∷ xs) [] s t = cc
same_processes (x ∷ xs) (y ∷ ys) s t =
    let stack : x.stack ≡ y.stack = cc in
    let stopped : x.stopped ≡ y.stopped = cc in
    let stacks : stacks_of xs ≡ stacks_of ys = cc in
    let marks : marks_of xs ≡ marks_of ys = cc in
    let rest = same_processes xs ys stacks marks in
    λ i. record { stack = stack i; stopped = stopped i } ∷ rest i

-- two configurations have equal stacks if their pending operations are equal
module _ {R P : Type 0} (is : R → Behaviour P) (Holds : R → Memory → Type 0) (Reaches : R → ℕ → Op → P → Type 0) (find : R → ℕ → List Frame → Option P)
    (r r' : R) (alike : is r ≡ is r') (m m' : Memory) (stacks stacks' : List (List Frame)) (stopped stopped' : List Bool)
    (was : IsFlat (is r) (Holds r) (Reaches r) (stacked_configuration (find r) r m stacks stopped) stacks) (was' : IsFlat (is r') (Holds r') (Reaches r') (stacked_configuration (find r') r' m' stacks' stopped') stacks')
    (s : running_from (find r) 0 stacks ≡ running_from (find r') 0 stacks') where
  at_place : length stacks ≡ length stacks' → (k : ℕ) (x : List Frame) → k < length stacks → get_or stacks k x ≡ get_or stacks' k x
  at_place as_many k x lt =
      sym (get_or_default stacks k [] x lt) ∙ was.flat k ∙ (λ i. stack_of (alike i) (get_or (s i) k None)) ∙ sym (was'.flat k)
      ∙ get_or_default stacks' k [] x (subst (λ n. k < n) as_many lt)

  same_stacks : stacks ≡ stacks'
  same_stacks =
      let long : length (running_from (find r) 0 stacks) ≡ length (running_from (find r') 0 stacks') = ap length s in
      let each = length_running (find r) 0 stacks in
      let each' = length_running (find r') 0 stacks' in
      let as_many : length stacks ≡ length stacks' = omega (arith, long, each, each') in
      same_lists stacks stacks' as_many (λ k x lt. at_place as_many k x lt)

-- configurations are equal exactly if their registers, memories, stacks and stop marks are
pub same_decided : {R P : Type 0} (is : R → Behaviour P) (Holds : R → Memory → Type 0) (Reaches : R → ℕ → Op → P → Type 0) (find : R → ℕ → List Frame → Option P)
    (E : R → R → Bool) (alike : (a b : R) → E a b ≡ true → is a ≡ is b) (finds_alike : (a b : R) → E a b ≡ true → find a ≡ find b)
    (r r' : R) (m m' : Memory) (ps ps' : List ProcessState)
    → IsFlat (is r) (Holds r) (Reaches r) (stacked_configuration (find r) r m (stacks_of ps) (marks_of ps)) (stacks_of ps)
    → IsFlat (is r') (Holds r') (Reaches r') (stacked_configuration (find r') r' m' (stacks_of ps') (marks_of ps')) (stacks_of ps')
    → Decides (E r r' && (memory_eq m m' && pointwise process_eq ps ps'))
    (SameConfiguration E (stacked_configuration (find r) r m (stacks_of ps) (marks_of ps)) (stacked_configuration (find r') r' m' (stacks_of ps') (marks_of ps')))
same_decided is Holds Reaches find E alike finds_alike r r' m m' ps ps' was was' =
    Decides-like _
    (λ p. record { register = p.0; memory = p.1.0; running = λ i. running_from (finds_alike r r' p.0 i) 0 (stacks_of (p.1.1 i)); stopped = ap marks_of p.1.1 })
    (λ s. (s.register, (s.memory, same_processes ps ps' (stacks_from s) s.stopped)))
    (Decides-and (E r r') _ (λ h. h, λ h. h)
    (Decides-and (memory_eq m m') _ (memory_decides m m') (slice_eq-Decides process_decides ps ps' _ refl)))
  where
    stacks_from : SameConfiguration E (stacked_configuration (find r) r m (stacks_of ps) (marks_of ps)) (stacked_configuration (find r') r' m' (stacks_of ps') (marks_of ps')) → stacks_of ps ≡ stacks_of ps'
    stacks_from s =
        same_stacks is Holds Reaches find r r' (alike r r' s.register) m m' (stacks_of ps) (stacks_of ps') (marks_of ps) (marks_of ps') was was' s.running

-- a test that compares registers, memories and processes decides equality of configurations
pub same_decided_by_test : {R P : Type 0} {is : R → Behaviour P} (Holds : R → Memory → Type 0) (Reaches : R → ℕ → Op → P → Type 0) {find : R → ℕ → List Frame → Option P}
    {E : R → R → Bool} (alike : (a b : R) → E a b ≡ true → is a ≡ is b) (finds_alike : (a b : R) → E a b ≡ true → find a ≡ find b)
    {r r' : R} {m m' : Memory} (ps ps' : List ProcessState)
    → IsFlat (is r) (Holds r) (Reaches r) (stacked_configuration (find r) r m (stacks_of ps) (marks_of ps)) (stacks_of ps)
    → IsFlat (is r') (Holds r') (Reaches r') (stacked_configuration (find r') r' m' (stacks_of ps') (marks_of ps')) (stacks_of ps')
    → (t : Bool) → t ≡ (E r r' && (memory_eq m m' && pointwise process_eq ps ps'))
    → Decides t (SameConfiguration E (stacked_configuration (find r) r m (stacks_of ps) (marks_of ps)) (stacked_configuration (find r') r' m' (stacks_of ps') (marks_of ps')))
same_decided_by_test {is = is} Holds Reaches {find = find} {E = E} alike finds_alike {r} {r'} {m} {m'} ps ps' was was' t e =
    Decides-at _ _ e (same_decided is Holds Reaches find E alike finds_alike r r' m m' ps ps' was was')
