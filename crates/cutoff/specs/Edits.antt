-- What an edit does to a chart.
use Rattle.std.specs.Prelude.{◌≡◌, Bool, true, Option, Some, None, Result, Ok, Err}
use Rattle.frames.specs.declared.types.Step.{Step}
use Rattle.frames.specs.Behaviour.{Behaviour}
use Rattle.frames.specs.Configuration.{fits_step}
use Rattle.schedule_trie.specs.declared.refusal.Refusal.{Refusal}
use Rattle.schedule_trie.specs.Trie.{forest}
use Rattle.schedule_trie.specs.Edits.{Edit, edited, step_in, IsEdited, WhyRefused}
use Rattle.cutoff.specs.Charts.{Charted}

-- whether the step fits; true if there is none
abbrev pub fits_if_any : {P : Type 0} → Behaviour P → Option Step → Bool
fits_if_any b None = true
fits_if_any b (Some step) = fits_step b step

-- the step that an edit gives a cell, if it gives one, fits
abbrev pub FitsEdit : {P : Type 0} → Behaviour P → Edit → Type 0
FitsEdit b edit = fits_if_any b (step_in edit) ≡ true

-- what an edit does to a chart. Ok: the edit is made, and branches begin from the same
-- configuration and value as before. Err: the chart doesn't change, and the error is why
-- (`WhyRefused`).
abbrev pub Edits : {R P : Type 0} → Charted R P → Charted R P → Edit → Result (Unit {0}) Refusal → Type 0
Edits old new edit (Ok done) = IsEdited old.trie new.trie edit × ((new.start ≡ old.start) × (new.value ≡ old.value))
Edits old new edit (Err e) = WhyRefused edit (edited old.trie.limits (forest old.trie) edit) e × (new ≡ old)
