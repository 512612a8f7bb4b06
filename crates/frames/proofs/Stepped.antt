-- A configuration after a step of one process, found from the change of that process's stack.
use Rattle.std.proofs.Common.{◌≡◌, ℕ, ◌<◌, Bool, true, false, List, length, length-set, get_or, set, Option, None, sym, ap, subst, ◌∙◌}
use Rattle.std.proofs.Math.ListN.{get_or-map}
use Rattle.std.proofs.Math.Seq.{map-set_same}
use Rattle.std.proofs.lemmas.List.{get_or_default, map-set, set-get_or}
use Rattle.safe_bit.specs.Memory.{Memory}
use Rattle.schedule_steps.specs.declared.types.Op.{Op}
use Rattle.frames.specs.declared.types.Event.{Event}
use Rattle.frames.specs.declared.types.Frame.{Frame}
use Rattle.frames.specs.declared.types.StepEvents.{StepEvents}
use Rattle.frames.specs.declared.config.ProcessState.{ProcessState}
use Rattle.frames.specs.declared.running.Running.{Running}
use Rattle.frames.specs.Behaviour.{Behaviour, IsLawful}
use Rattle.frames.specs.Configuration.{Acted, Configuration, running_at, put_acted, only_records, going, invoking}
use Rattle.frames.specs.StoredConfiguration.{IsFlat, marks_of, stacked_configuration, stacks_of}
use Rattle.frames.specs.Flat.{FramesGivePoint, HasStackEffect, IsReached, running_from, stack_of}
use Rattle.frames.specs.laws.Steps.{LeavesWell, going_well, invoking_well}
use Rattle.frames.proofs.Stacks.{frames_are_on_stack, put_gives_effect, put_flat}

module _ {R P : Type 0} {b : Behaviour P} {Holds : Memory → Type 0} {Reaches : ℕ → Op → P → Type 0} {find : ℕ → List Frame → Option P}
    (lawful : IsLawful b Holds Reaches) (gives_point : FramesGivePoint b Reaches find)
    {r : R} {m : Memory} (ps : List ProcessState) (was : IsFlat b Holds Reaches (stacked_configuration find r m (stacks_of ps) (marks_of ps)) (stacks_of ps))
    (who : ℕ) (lt : who < b.processes) where
  -- the configuration before the step, and what process `who` has pending in it
  abbrev before : Configuration R P
  before = stacked_configuration find r m (stacks_of ps) (marks_of ps)

  abbrev slot : Option (Running P)
  slot = running_at who before

  -- a step has the effect `done`: it records these events, and leaves the processes `now` and the
  -- memory m'
  pub record HasEffect (done : Acted P) (step_events : StepEvents) (now : List ProcessState) (m' : Memory) : Type 0 where
    pub events : step_events ≡ done.events
    pub flat : IsFlat b Holds Reaches (stacked_configuration find r m' (stacks_of now) (marks_of now)) (stacks_of now)
    pub after : stacked_configuration find r m' (stacks_of now) (marks_of now) ≡ put_acted who done before

  -- a configuration is still flat after only stop marks have changed
  pub marked_flat : (now : List ProcessState) → stacks_of now ≡ stacks_of ps → marks_of now ≡ set (marks_of ps) who true
      → IsFlat b Holds Reaches (stacked_configuration find r m (stacks_of now) (marks_of now)) (stacks_of now)
  marked_flat now stacks marks =
      subst (λ l. IsFlat b Holds Reaches (stacked_configuration find r m l (marks_of now)) l) (sym stacks)
      (record {
        configuration = record {
          holds = was.configuration.holds;
          each = was.configuration.each;
          each_mark = ap length marks ∙ length-set (marks_of ps) who true ∙ was.configuration.each_mark;
          reached = was.configuration.reached;
        };
        flat = was.flat;
      })

  pub mark_gives_effect : (event : Event) (now : List ProcessState) → stacks_of now ≡ stacks_of ps
      → marks_of now ≡ set (marks_of ps) who true
      → stacked_configuration find r m (stacks_of now) (marks_of now) ≡ put_acted who (only_records event slot m)
      (record before { stopped = set before.stopped who true })
  mark_gives_effect event now stacks marks =
      let same = ap (running_from find 0) stacks ∙ sym (set-get_or (running_from find 0 (stacks_of ps)) who None) in
      λ i. record before { running = same i; stopped = marks i }

  module _ (p : ProcessState) (is : p ≡ get_or ps who p) where
    -- the processes, with this stack for process `who`
    abbrev with_stack : List Frame → List ProcessState
    with_stack stack = set ps who (record { stack = stack; stopped = p.stopped })

    stacks_put : (stack : List Frame) → stacks_of (with_stack stack) ≡ set (stacks_of ps) who stack
    stacks_put stack = map-set (λ x. x.stack) ps who (record { stack = stack; stopped = p.stopped })

    marks_stay : (stack : List Frame) → marks_of (with_stack stack) ≡ marks_of ps
    marks_stay stack = map-set_same (λ x. x.stopped) ps who (record { stack = stack; stopped = p.stopped }) p (ap (λ x. x.stopped) is)

    has_effect : (done : Acted P) (step_events : StepEvents) (stack : List Frame) (m' : Memory) → HasStackEffect b done step_events stack m' → LeavesWell Holds Reaches who done
        → HasEffect done step_events (with_stack stack) m'
    has_effect done step_events stack m' acts well = record {
      events = acts.events;
      flat = subst (λ k. IsFlat b Holds Reaches (stacked_configuration find r m' (stacks_of (with_stack stack)) k) (stacks_of (with_stack stack))) (sym (marks_stay stack))
          (subst (λ l. IsFlat b Holds Reaches (stacked_configuration find r m' l (marks_of ps)) l) (sym (stacks_put stack))
          (put_flat b Holds Reaches find lawful gives_point r m (stacks_of ps) (marks_of ps) was who done step_events stack m' acts well.reached lt well.holds));
      after = (λ i. stacked_configuration find r m' (stacks_put stack i) (marks_stay stack i))
          ∙ put_gives_effect b Holds Reaches find lawful gives_point r m (stacks_of ps) (marks_of ps) was who done step_events stack m' acts well.reached;
    }

    -- the stack of process `who` before the step
    abbrev stack_before : List Frame
    stack_before = p.stack

    -- the stop mark of process `who`
    pub mark_there : get_or (marks_of ps) who false ≡ p.stopped
    mark_there =
        get_or_default (marks_of ps) who false p.stopped (subst (λ n. who < n) (sym was.configuration.each_mark) lt)
        ∙ get_or-map (λ q. q.stopped) ps who p ∙ sym (ap (λ q. q.stopped) is)

    stack_has_frames : stack_before ≡ stack_of b slot
    stack_has_frames = frames_are_on_stack b Holds Reaches find lawful gives_point r m (stacks_of ps) (marks_of ps) was who stack_before lt
        (ap (λ q. q.stack) is ∙ sym (get_or-map (λ q. q.stack) ps who p))

    -- the process is idle or at a point that it can reach, and its stack has the frames
    pub slot_with_frames : (s : Option (Running P)) × (IsReached Reaches who s × (stack_before ≡ stack_of b s))
    slot_with_frames = (slot, (was.configuration.reached who, stack_has_frames))

    module _ (step_events : StepEvents) (stack : List Frame) (m' : Memory) where
      -- a bit action that has the defined effect on stack and memory has it on the configuration
      pub proceeds : (choice : Bool) → ((s : Option (Running P)) → IsReached Reaches who s → stack_before ≡ stack_of b s → HasStackEffect b (going b who choice s m) step_events stack m')
          → HasEffect (going b who choice slot m) step_events (with_stack stack) m'
      proceeds choice acts =
          has_effect (going b who choice slot m) step_events stack m' (acts slot (was.configuration.reached who) stack_has_frames)
          (going_well b Holds Reaches lawful who choice slot m was.configuration.holds (was.configuration.reached who))

      -- an invocation that has the defined effect on stack and memory has it on the configuration
      pub invokes : (o : Op) → b.suits who o ≡ true → ((s : Option (Running P)) → IsReached Reaches who s → stack_before ≡ stack_of b s → HasStackEffect b (invoking b who o s m) step_events stack m')
          → HasEffect (invoking b who o slot m) step_events (with_stack stack) m'
      invokes o fits acts =
          has_effect (invoking b who o slot m) step_events stack m' (acts slot (was.configuration.reached who) stack_has_frames)
          (invoking_well b Holds Reaches lawful who o slot m was.configuration.holds (was.configuration.reached who) fits)
