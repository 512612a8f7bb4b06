-- The effect of a step of a process that hasn't stopped.
use Rattle.std.proofs.Common.{◌≡◌, ℕ, ◌==◌, ap, ◌∙◌, true, false, Option, Some, None, set}
use Rattle.std.proofs.lemmas.List.{set-get_or}
use Rattle.safe_bit.specs.Memory.{Memory}
use Rattle.schedule_steps.specs.declared.types.Op.{Op}
use Rattle.schedule_steps.specs.declared.types.Op.TheVariants as op
use Rattle.frames.specs.declared.types.Next.{Next}
use Rattle.frames.specs.declared.types.Event.{Event}
use Rattle.frames.specs.declared.types.Event.TheVariants.{Invoke, Stop}
use Rattle.schedule_steps.specs.declared.types.Step.{Step}
use Rattle.schedule_steps.specs.declared.types.Step.TheVariants as step
use Rattle.schedule_steps.specs.Steps.{invoking_step}
use Rattle.frames.specs.declared.running.Running.{Running}
pub use Rattle.schedule_steps.specs.Steps.{invoking_step}
use Rattle.frames.specs.Behaviour.{Behaviour}
use Rattle.frames.specs.Configuration.{Configuration, running_at, is_stopped, stepped, events_of, acting_unless, invoking, going, put_acted, with_stop_mark, return_of, still_running, chosen_of, in_order, fits_step}

pub invoking_step_fits : {P : Type 0} (b : Behaviour P) (who : ℕ) (o : Op) → b.suits who o ≡ true → fits_step b (invoking_step who o) ≡ true
invoking_step_fits b who (op.Write v) h = h
invoking_step_fits b who op.Read h = h

-- the configuration after operation o of process p has reached `next`
abbrev pub put_next : {R P : Type 0} → ℕ → Op → Next P → Memory → Configuration R P → Configuration R P
put_next p o next m c = record c { memory = m; running = set c.running p (still_running o next) }

-- a step records `event`, if there is one, and then the operation's end, if it has ended; the
-- operation is then at `next`
pub record StepsTo {R P : Type 0} (b : Behaviour P) (c : Configuration R P) (s : Step) (who : ℕ) (o : Op) (event : Option Event) (next : Next P) (inner : Memory) : Type 0 where
  pub events : events_of b c s ≡ in_order event (return_of who next)
  pub after : stepped b c s ≡ put_next who o next inner c

-- a process that is idle and hasn't stopped invokes an operation
pub step_begins : {R P : Type 0} (b : Behaviour P) (who : ℕ) (o : Op) (c : Configuration R P) (m : Memory) → running_at who c ≡ None → is_stopped who c ≡ false → c.memory ≡ m
    → StepsTo b c (invoking_step who o) who o (Some (Invoke who o)) (b.begins who o m).next (b.begins who o m).memory
step_begins b who (op.Write v) c m free awake e =
    let a = ap (λ k. acting_unless k b (step.Write who v) (running_at who c) c.memory) awake ∙ ap (λ r. invoking b who (op.Write v) r c.memory) free ∙ ap (λ x. invoking b who (op.Write v) None x) e in
    record { events = ap (λ d. d.events) a; after = ap (λ d. put_acted who d c) a }
step_begins b who op.Read c m free awake e =
    let a = ap (λ k. acting_unless k b (step.Read who) (running_at who c) c.memory) awake ∙ ap (λ r. invoking b who op.Read r c.memory) free ∙ ap (λ x. invoking b who op.Read None x) e in
    record { events = ap (λ d. d.events) a; after = ap (λ d. put_acted who d c) a }

-- a process that hasn't stopped goes on with its pending operation
pub step_goes : {R P : Type 0} (b : Behaviour P) (who choice : ℕ) (c : Configuration R P) (r : Running P) (m : Memory) → running_at who c ≡ Some r → is_stopped who c ≡ false → c.memory ≡ m
    → (let moved = b.goes r.point (choice == 1) m in StepsTo b c (step.Go who choice) who r.op (chosen_of who moved.chosen) moved.next moved.memory)
step_goes b who choice c r m there awake e =
    let a = ap (λ k. acting_unless k b (step.Go who choice) (running_at who c) c.memory) awake ∙ ap (λ x. going b who (choice == 1) x c.memory) there ∙ ap (λ x. going b who (choice == 1) (Some r) x) e in
    record { events = ap (λ d. d.events) a; after = ap (λ d. put_acted who d c) a }

-- a process that hasn't stopped stops
pub record StopsTo {R P : Type 0} (b : Behaviour P) (c : Configuration R P) (who : ℕ) : Type 0 where
  pub events : events_of b c (step.Stop who) ≡ in_order (Some (Stop who)) None
  pub after : stepped b c (step.Stop who) ≡ record c { stopped = set c.stopped who true }

pub step_stops : {R P : Type 0} (b : Behaviour P) (who : ℕ) (c : Configuration R P) → is_stopped who c ≡ false → StopsTo b c who
step_stops b who c awake =
    let a = ap (λ k. acting_unless k b (step.Stop who) (running_at who c) c.memory) awake in
    record {
      events = ap (λ d. d.events) a;
      after = ap (λ d. put_acted who d (with_stop_mark (step.Stop who) c)) a ∙ (λ i. record c { running = set-get_or c.running who None i; stopped = set c.stopped who true });
    }
