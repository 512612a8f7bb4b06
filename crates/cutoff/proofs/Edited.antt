-- A chart after an edit.
use Rattle.std.proofs.Common.{◌≡◌, ℕ, Bool, Option, None, Result, Ok, Err, OnOk, IfErr, refl, sym, subst}
use Rattle.frames.specs.Behaviour.{Behaviour}
use Rattle.frames.specs.Recorded.{without_register}
use Rattle.schedule_trie.specs.declared.limits.Limits.{Limits}
use Rattle.schedule_trie.specs.declared.refusal.Refusal.{Refusal}
use Rattle.schedule_trie.specs.Forest.{Forest}
use Rattle.schedule_trie.specs.Trie.{TrieOf, forest, KeepsNotes}
use Rattle.schedule_trie.specs.Edits.{Edit, Insert, Remove, Replace, Fork, Detach, Drop, edited, KeepsNotesBy, IsEdited, IsUnedited}
use Rattle.cutoff.specs.Fitting.{StoredRun}
use Rattle.cutoff.specs.Charts.{Charted, IsCharted, StepsFit}
use Rattle.cutoff.specs.Edits.{Edits, FitsEdit}
use Rattle.cutoff.proofs.FittingSteps.{insert_fits, remove_fits, fork_fits, detach_fits, drop_fits, replace_fits}
use Rattle.cutoff.proofs.SameBranches.{charted_marked}
use Rattle.cutoff.proofs.Links.{linked_kept}

edited_fits : {P : Type 0} (b : Behaviour P) (limits : Limits) (f g : Forest) (edit : Edit) → FitsEdit b edit → StepsFit b f → edited limits f edit ≡ Ok g → StepsFit b g
edited_fits b limits f g (Insert name place step) new fits e = insert_fits b limits f g name place step new fits e
edited_fits b limits f g (Remove name place) new fits e = remove_fits b f g name place fits e
edited_fits b limits f g (Replace name place step) new fits e = replace_fits b f g name place step new fits e
edited_fits b limits f g (Fork name place made) new fits e = fork_fits b limits f g name place made fits e
edited_fits b limits f g (Detach name) new fits e = detach_fits b limits f g name fits e
edited_fits b limits f g (Drop name) new fits e = drop_fits b f g name fits e

keeps_notes : {T : Type 0} (edit : Edit) (old new : TrieOf T) → KeepsNotesBy edit old new → KeepsNotes old new
keeps_notes (Insert name place step) old new h = h.0.notes
keeps_notes (Remove name place) old new h = h.notes
keeps_notes (Replace name place step) old new h = h.notes
keeps_notes (Fork name place made) old new h = h.notes
keeps_notes (Detach name) old new h = h.0
keeps_notes (Drop name) old new h = h.0

-- the invariant of a chart after an edit of its trie that was made or refused
pub charted_edited : {R P Y : Type 0} (E : R → R → Bool) (is : R → Behaviour P) (next : ℕ) (fresh mark : Option ℕ) (c : Charted R P) (new : TrieOf (StoredRun R P)) (edit : Edit) (result : Result Y Refusal)
    → IsCharted E is next fresh mark c → FitsEdit (is c.start.register) edit → OnOk result (IsEdited c.trie new edit) → IfErr result (IsUnedited c.trie new edit)
    → IsCharted E is next None None (record { trie = new; start = c.start; value = c.value })
charted_edited E is next fresh mark c new edit (Ok y) was brings ok err =
    record {
      within = was.within;
      begins = was.begins;
      fits = edited_fits (is c.start.register) c.trie.limits (forest c.trie) (forest new) edit brings was.fits ok.forest;
      cut = ok.cut;
      linked = linked_kept E c.start.register next None (without_register c.start) c.trie new (keeps_notes edit c.trie new ok.notes) was.linked;
      marked = tt;
      fresh_marked = tt;
    }
charted_edited E is next fresh mark c new edit (Err e) was brings ok err =
    subst (λ d. IsCharted E is next None None (record { trie = d; start = c.start; value = c.value })) (sym err.unchanged) (charted_marked E is next fresh mark None None c tt tt was)

-- an edit of the trie, made or refused, is one of the chart
pub edits_from_trie : {R P : Type 0} (c d : Charted R P) (new : TrieOf (StoredRun R P)) (edit : Edit) (result : Result (Unit {0}) Refusal) → c ≡ d
    → OnOk result (IsEdited c.trie new edit) → IfErr result (IsUnedited c.trie new edit) → Edits d (record { trie = new; start = c.start; value = c.value }) edit result
edits_from_trie c d new edit (Ok y) same ok err =
    subst (λ v. Edits v (record { trie = new; start = c.start; value = c.value }) edit (Ok y)) same (ok, (refl, refl))
edits_from_trie c d new edit (Err e) same ok err =
    subst (λ v. Edits v (record { trie = new; start = c.start; value = c.value }) edit (Err e)) same
    (err.why, λ i. record { trie = err.unchanged i; start = c.start; value = c.value })
