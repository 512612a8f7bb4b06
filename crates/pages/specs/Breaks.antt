-- Breaks: the conditions that a seek looks for, on a step's events or on the memory after the step.
use Rattle.std.specs.Prelude.{ℕ, Bool, true, false, ◌==◌, ◌||◌, ◌&&◌, nat_lt, List, [], ◌∷◌, Option, Some, None, length}
use Rattle.safe_bit.specs.Memory.{Memory, cell_at}
use Rattle.frames.specs.declared.types.Event.{Event}
use Rattle.frames.specs.declared.types.Event.TheVariants as event
use Rattle.frames.specs.declared.types.StepEvents.{StepEvents}
use Rattle.frames.specs.SafeBit.{value_of}
use Rattle.frames.specs.correctness.Regularity.{is_refusal}
use Rattle.pages.specs.declared.breakpoint.Break.{Break}
use Rattle.pages.specs.declared.breakpoint.Break.TheVariants.{Returns, Bit, Chosen, Void, Refused}

-- whether an event is the return of an operation of process p
abbrev pub is_return_of : ℕ → Event → Bool
is_return_of p (event.Got q v) = p == q
is_return_of p (event.Wrote q) = p == q
is_return_of p (event.Invoke q o) = false
is_return_of p (event.Refused q layer) = false
is_return_of p (event.Void q reason) = false
is_return_of p (event.Stop q) = false
is_return_of p (event.Chosen q bit v) = false

-- whether an event is the end of a hit read of a bit: one that a write of the bit overlapped
abbrev pub is_choice : Event → Bool
is_choice (event.Chosen q bit v) = true
is_choice e = false

-- whether an event records that a step wasn't enabled
abbrev pub is_void : Event → Bool
is_void (event.Void q reason) = true
is_void e = false

-- whether an event meets a break; no event meets a break on a bit, which only a memory can meet
abbrev pub is_met_by : Break → Event → Bool
is_met_by (Returns p) e = is_return_of p e
is_met_by (Bit j v) e = false
is_met_by Chosen e = is_choice e
is_met_by Void e = is_void e
is_met_by Refused e = is_refusal e

-- whether there is an event, and it meets a break
abbrev pub is_met_by_option : Break → Option Event → Bool
is_met_by_option break None = false
is_met_by_option break (Some e) = is_met_by break e

-- whether one of the events that a step recorded meets a break
abbrev pub is_met_by_events : Break → StepEvents → Bool
is_met_by_events break events = is_met_by_option break events.first || is_met_by_option break events.second

-- whether a memory meets a break: the break is on a bit that the memory has, and the bit's value is
-- the break's
abbrev pub is_met_by_memory : Break → Memory → Bool
is_met_by_memory (Bit j v) m = nat_lt j (length m.cells) && (value_of (cell_at j m).value == v)
is_met_by_memory (Returns p) m = false
is_met_by_memory Chosen m = false
is_met_by_memory Void m = false
is_met_by_memory Refused m = false

-- whether one of the events that a step recorded, or the memory after the step, meets one of these
-- breaks
abbrev pub is_met : List Break → StepEvents → Memory → Bool
is_met [] events m = false
is_met (break ∷ breaks) events m = (is_met_by_events break events || is_met_by_memory break m) || is_met breaks events m
