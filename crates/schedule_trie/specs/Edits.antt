-- Edits of branches as data, and their effect on a trie.
use Rattle.std.specs.Prelude.{ℕ, ◌≡◌, List, Option, Some, None, Result, Ok, Err}
use Rattle.schedule_steps.specs.declared.types.Step.{Step}
use Rattle.schedule_trie.specs.declared.edit.Edit.{Edit as Borrowed}
use Rattle.schedule_trie.specs.declared.edit.Edit.TheVariants as borrowed
use Rattle.branch_terms.specs.declared.refusal.Refusal.{Refusal}
use Rattle.branch_terms.specs.declared.limits.Limits.{Limits}
use Rattle.branch_terms.specs.Forest.{Forest, insert, remove_cell, replace_step, fork, detach, drop_branch, IsRefused}
use Rattle.schedule_trie.specs.Trie.{TrieOf, forest, IsCut, KeepsNotesBut, KeepsNotesExcept, KeepsUnchanged, KeepsAllNotes, HoldsCellAt, MayTouchAt, IsParted}

-- an edit of the branch with the first name. `Insert` a new cell at a place; `Remove` the cell at a
-- place; `Replace` the step of the cell at a place; `Fork`: add a branch, with the second name,
-- that shares the cells before a place; `Detach`: replace all cells by new ones; `Drop` the branch
pub data Edit : Type 0 where
  Insert : List ℕ → ℕ → Step → Edit
  Remove : List ℕ → ℕ → Edit
  Replace : List ℕ → ℕ → Step → Edit
  Fork : List ℕ → ℕ → List ℕ → Edit
  Detach : List ℕ → Edit
  Drop : List ℕ → Edit

-- an edit that borrows its names, as data with the names themselves
abbrev pub edit_in : Borrowed → Edit
edit_in (borrowed.Insert name place step) = Insert name.now place step
edit_in (borrowed.Remove name place) = Remove name.now place
edit_in (borrowed.Replace name place step) = Replace name.now place step
edit_in (borrowed.Fork name place new) = Fork name.now place new.now
edit_in (borrowed.Detach name) = Detach name.now
edit_in (borrowed.Drop name) = Drop name.now

-- the step that an edit gives a cell; `None` if it gives none
abbrev pub step_in : Edit → Option Step
step_in (Insert name place step) = Some step
step_in (Replace name place step) = Some step
step_in edit = None

-- the forest after an edit, or the first reason to refuse the edit
abbrev pub edited : Limits → Forest → Edit → Result Forest Refusal
edited limits f (Insert name place step) = insert limits f name place step
edited limits f (Remove name place) = remove_cell f name place
edited limits f (Replace name place step) = replace_step f name place step
edited limits f (Fork name place new) = fork limits f name place new
edited limits f (Detach name) = detach limits f name
edited limits f (Drop name) = drop_branch f name

-- An edit touches at most one segment, which has no note afterwards: the one with the cell at the
-- edit's place, or the one that a fork cuts. An insert at the branch's length touches the branch's
-- last segment only to add its cell to it. No insert touches a segment whose cells don't change.
-- Detach and drop touch no segment. The other segments that remain keep their notes, and new ones
-- have none.
abbrev pub KeepsNotesBy : {T : Type 0} → Edit → TrieOf T → TrieOf T → Type 0
KeepsNotesBy (Insert name place step) old new = KeepsNotesBut old new (HoldsCellAt old name place) (MayTouchAt old new name place step) × KeepsUnchanged old new
KeepsNotesBy (Remove name place) old new = KeepsNotesExcept old new (HoldsCellAt old name place)
KeepsNotesBy (Replace name place step) old new = KeepsNotesExcept old new (HoldsCellAt old name place)
KeepsNotesBy (Fork name place made) old new = KeepsNotesExcept old new (IsParted old name place)
KeepsNotesBy (Detach name) old new = KeepsAllNotes old new
KeepsNotesBy (Drop name) old new = KeepsAllNotes old new

-- An edit is made, not refused: from trie `old` to trie `new`, the forest changes as `edited` says.
-- Of the segments that remain, at most one loses its note (in a chart, its stored run): the one
-- that the edit touches (`KeepsNotesBy`). `new` is cut into segments as `IsCut` says, and the
-- limits don't change.
pub record IsEdited {T : Type 0} (old new : TrieOf T) (edit : Edit) : Type 0 where
  pub forest : edited old.limits (forest old) edit ≡ Ok (forest new)
  pub notes : KeepsNotesBy edit old new
  pub cut : IsCut new
  pub limits : new.limits ≡ old.limits

-- `e` is why an edit is refused, given `model`, the edit's result if memory suffices: the error of
-- `model`, which is the first reason that holds; or, if there is no error and the edit allocates
-- (insert, fork, detach), Memory
abbrev pub WhyRefused : Edit → Result Forest Refusal → Refusal → Type 0
WhyRefused (Insert name place step) model e = IsRefused model e
WhyRefused (Remove name place) model e = model ≡ Err e
WhyRefused (Replace name place step) model e = model ≡ Err e
WhyRefused (Fork name place new) model e = IsRefused model e
WhyRefused (Detach name) model e = IsRefused model e
WhyRefused (Drop name) model e = model ≡ Err e

-- an edit is refused, and nothing changes: `e` is the first reason that holds; or, if the edit
-- allocates and no reason holds, Memory
pub record IsUnedited {T : Type 0} (old new : TrieOf T) (edit : Edit) (e : Refusal) : Type 0 where
  pub why : WhyRefused edit (edited old.limits (forest old) edit) e
  pub unchanged : new ≡ old
