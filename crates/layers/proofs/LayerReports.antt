-- A layer reports its actions, if the register below it does.
use Rattle.std.proofs.Common.{◌≡◌, ℕ, ◌+◌, ◌<◌, Bool, true, false, List, ◌++◌, length, take, drop, Some, None, refl, sym, ap, ◌∙◌, inl, inr, arith, length-drop, append-nil}
use Rattle.std.specs.Prelude.{if◌then◌else◌}
use Rattle.std.proofs.lemmas.List.{take_all, drop_all, take-append-drop}
use Rattle.std.proofs.lemmas.Bool.{cases_lt}
use Rattle.safe_bit.specs.declared.Cell.{Cell}
use Rattle.safe_bit.specs.declared.Place.{Place}
use Rattle.safe_bit.specs.Memory.{Memory, cell_at, word_at, with_word}
use Rattle.safe_bit.specs.Windows.{splice, window}
use Rattle.safe_bit.specs.Parts.{part}
use Rattle.safe_bit.specs.laws.Windows.{splice-own}
use Rattle.safe_bit.specs.laws.Parts.{LiesIn-of_size, on_cell-part, cell_at-part}
use Rattle.frames.specs.declared.types.Op.{Op}
use Rattle.frames.specs.declared.types.Outcome.{Outcome}
use Rattle.frames.specs.declared.types.Outcome.TheVariants.{Value, Written, Spent}
use Rattle.frames.specs.declared.types.Next.{Next}
use Rattle.frames.specs.declared.types.Next.TheVariants.{Pending, Done}
use Rattle.frames.specs.declared.types.ActionKind.{ActionKind}
use Rattle.frames.specs.declared.types.ActionKind.TheVariants.{WriteStart, WriteEnd, ReadStart, ReadEnd}
use Rattle.frames.specs.Behaviour.{Behaviour, Begun}
use Rattle.frames.specs.Placed.{placed_bit}
use Rattle.frames.specs.correctness.ReportedActions.{cell_after, choice_on, MakesItsAction, ReportsActions}
use Rattle.layers.specs.declared.nested.Ask.{Ask}
use Rattle.layers.specs.declared.nested.Nested.{Nested}
use Rattle.layers.specs.Nested.{Program, Ends, Asks, Reads, Sets, Table, layer_size, own_words_start, part_place, asked, part_goes, after_part, advance, layered}
use Rattle.layers.specs.Sound.{LayerHolds, LayerReaches}
use Rattle.layers.specs.laws.Nested.{part_within, asks_fit}
use Rattle.layers.specs.laws.Over.{LayerOver}

-- putting back a window of a list changes nothing, also at the end of the list
splice-own_anywhere : {A : Type 0} (i n : ℕ) (xs : List A) → splice i (window i n xs) xs ≡ xs
splice-own_anywhere i n xs = elim (cases_lt (length xs) (i + n)) [
  | inr inside ↦ splice-own i n xs inside
  | inl beyond ↦
      let rest : take n (drop i xs) ≡ drop i xs = take_all n (drop i xs) (let e = length-drop i xs in omega (arith, e)) in
      ap (λ ys. take i xs ++ ys ++ drop (i + length ys) xs) rest
      ∙ ap (λ zs. zs ++ drop (i + length (drop i xs)) xs) (take-append-drop i xs)
      ∙ ap (λ zs. xs ++ zs) (drop_all (i + length (drop i xs)) xs (let e = length-drop i xs in omega (arith, e)))
      ∙ append-nil xs
]

-- an action on cell j of a part chooses, counted in the layer's cells, what the same action chooses
-- on that cell of the layer
choice_of_part : (kind : ActionKind) (at size : Place) (j : ℕ) (choice : Bool) (m : Memory) → j < size.cell
    → placed_bit at (choice_on kind j choice (part at size m)) ≡ choice_on kind (at.cell + j) choice m
choice_of_part WriteStart at size j choice m few = refl
choice_of_part WriteEnd at size j choice m few = refl
choice_of_part ReadStart at size j choice m few = refl
choice_of_part ReadEnd at size j choice m few =
    moved (cell_at j (part at size m)).hit
    ∙ ap (λ hit. if hit then Some (at.cell + j, choice) else None) (ap (λ cell. cell.hit) (cell_at-part at size j m few))
  where
    moved : (hit : Bool) → placed_bit at (if hit then Some (j, choice) else None) ≡ (if hit then Some (at.cell + j, choice) else None)
    moved true = refl
    moved false = refl

-- a program that runs on between two bit actions changes no cell
module _ {Task P : Type 0} (t : Table Task) (b : Behaviour P) (quiet : (who : ℕ) (o : Op) (m : Memory) → (b.begins who o m).memory.cells ≡ m.cells) where
  asked_cells : (a : Ask) (m : Memory) → (asked b a m).memory.cells ≡ m.cells
  asked_cells a m =
      let at = part_place b.size a.part in
      ap (λ cells. splice at.cell cells m.cells) (quiet a.who a.op (part at b.size m)) ∙ splice-own_anywhere at.cell b.size.cell m.cells

  after_cells : (go_on : Outcome → Memory → Begun (Nested Task P)) (task : Task) (next : Next P) (m : Memory)
      → ((o : Outcome) → (go_on o m).memory.cells ≡ m.cells) → (after_part go_on task next m).memory.cells ≡ m.cells
  after_cells go_on task (Pending p) m h = refl
  after_cells go_on task (Done (Spent layer)) m h = refl
  after_cells go_on task (Done Written) m h = h Written
  after_cells go_on task (Done (Value v)) m h = h (Value v)

  advance_cells : (p : Program Task) (m : Memory) → (advance t b p m).memory.cells ≡ m.cells
  advance_cells (Ends o) m = refl
  advance_cells (Asks task k) m =
      after_cells (λ o n. advance t b (k o) n) task (asked b (t.asks task) m).next (asked b (t.asks task) m).memory
      (λ o. advance_cells (k o) (asked b (t.asks task) m).memory) ∙ asked_cells (t.asks task) m
  advance_cells (Reads i k) m = advance_cells (k (word_at (own_words_start t b.size + i) m)) m
  advance_cells (Sets i x k) m = advance_cells k (with_word (own_words_start t b.size + i) x m)

module _ {Task P : Type 0} (l : LayerOver Task P) (reports : ReportsActions l.below l.Holds l.Reaches) where
  makes_its_action : (who : ℕ) (o : Op) (n : Nested Task P) (choice : Bool) (m : Memory) → LayerHolds l.table l.below l.Holds m → LayerReaches l.table l.MayBeAt l.Reaches who o n
      → MakesItsAction (layered l.table l.below) n choice m
  makes_its_action who o n choice m holds there =
      let b = l.below in
      let a = l.table.asks n.task in
      let at = part_place b.size a.part in
      let fit = asks_fit l who o n.task there.may_be_at in
      let made = reports.goes a.who a.op n.below choice (part at b.size m) (holds.parts a.part fit.0) there.below in
      let inside = LiesIn-of_size (layer_size l.table b.size) at b.size m holds.size (part_within l.table b.size a.part fit.0) in
      let few = l.lawful.acts_own a.who a.op n.below there.below in
      let moved = part_goes b a.part n.below choice m in
      let f : Cell → Cell = cell_after (b.acts n.below).kind made.value in
      record {
        value = made.value;
        cells =
            after_cells l.table b reports.begins (λ o n'. advance l.table b (l.table.rest n.task o) n') n.task moved.next moved.memory
            (λ o. advance_cells l.table b reports.begins (l.table.rest n.task o) moved.memory)
            ∙ ap (λ cells. splice at.cell cells m.cells) made.cells
            ∙ sym (ap (λ x. x.cells) (on_cell-part at b.size (b.acts n.below).cell f m inside few));
        chosen = ap (placed_bit at) made.chosen ∙ choice_of_part (b.acts n.below).kind at b.size (b.acts n.below).cell choice m few;
      }

  pub layer_reports : ReportsActions (layered l.table l.below) (LayerHolds l.table l.below l.Holds) (LayerReaches l.table l.MayBeAt l.Reaches)
  layer_reports = record { begins = λ who o m. advance_cells l.table l.below reports.begins (l.table.program who o) m; goes = makes_its_action }
