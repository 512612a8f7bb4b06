-- Events, and the forms in which they are stored.
use Rattle.std.specs.Prelude.{List, map, true, false}
use Rattle.frames.specs.declared.types.Event.{Event}
use Rattle.frames.specs.declared.types.Event.TheVariants as event
use Rattle.frames.specs.declared.types.Op.TheVariants.{Write, Read}
use Rattle.checkpoints.specs.declared.stored_event.StoredEvent.{StoredEvent}
use Rattle.checkpoints.specs.declared.stored_event.StoredEvent.TheVariants as stored

-- the event with this stored form
abbrev pub event_of : StoredEvent → Event
event_of (stored.InvokedWrite p v) = event.Invoke p (Write v)
event_of (stored.InvokedRead p) = event.Invoke p Read
event_of (stored.Got p v) = event.Got p v
event_of (stored.Wrote p) = event.Wrote p
event_of (stored.Refused p layer) = event.Refused p layer
event_of (stored.Void p reason) = event.Void p reason
event_of (stored.Stop p) = event.Stop p
event_of (stored.ChosenZero p bit) = event.Chosen p bit false
event_of (stored.ChosenOne p bit) = event.Chosen p bit true

-- the events with these stored forms, in order
abbrev pub stored_events : List StoredEvent → List Event
stored_events events = map event_of events
