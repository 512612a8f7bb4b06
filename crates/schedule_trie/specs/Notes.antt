-- The note that a segment has.
use Rattle.std.specs.Prelude.{Option, Some, None}
use Rattle.schedule_trie.specs.declared.note.State.{State}
use Rattle.schedule_trie.specs.declared.note.State.TheVariants.{Empty, Cleared, Set}

-- the note that is set; None if there is none, or if it was cleared
abbrev pub note_in : {T : Type 0} → State T → Option T
note_in Empty = None
note_in (Cleared note) = None
note_in (Set note) = Some note
