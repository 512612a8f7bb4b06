-- What has to be shown of a layer's table, so that the layer's promise follows from those of its
-- parts. A part may refuse an operation, but only in the step that invokes it.
use Rattle.std.proofs.Common.{◌≡◌, ℕ, ◌<◌, Bool, true, Option, Some, None}
use Rattle.std.specs.Prelude.{⊤}
use Rattle.std.specs.List.{AllByRecursion}
use Rattle.frames.specs.declared.types.Op.{Op}
use Rattle.frames.specs.declared.types.Outcome.{Outcome}
use Rattle.frames.specs.declared.types.Reason.{Reason}
use Rattle.frames.specs.declared.types.Event.{Event}
use Rattle.frames.specs.declared.types.Event.TheVariants.{Invoke, Void, Stop, Refused}
use Rattle.frames.specs.declared.types.Layer.{Layer}
use Rattle.frames.specs.declared.types.StepEvents.{StepEvents}
use Rattle.frames.specs.Behaviour.{Answers}
use Rattle.frames.specs.Configuration.{in_order, chosen_of}
use Rattle.frames.proofs.Seen.{Returned, Seen, opening, sees, got, end_event}
use Rattle.frames.proofs.Pointwise.{put}
use Rattle.layers.specs.Nested.{Program, Ends, Asks, Reads, Sets, Table}
use Rattle.layers.specs.Sound.{IsNotSpent}

-- an operation of a layer, and the task that it is in
pub record TaskInProgress (Task : Type 0) : Type 0 where
  pub op : Op
  pub task : Task

-- what a proof about a layer keeps track of: its own words, each process's operation and task, and
-- what each part's own history shows
pub record View (Task : Type 0) : Type 0 where
  pub words : ℕ → ℕ
  pub tasks : ℕ → Option (TaskInProgress Task)
  pub parts : ℕ → Seen

-- `Good` is what is assumed of each returned read of a part, and `Inv` the invariant; U is the type
-- of what is known of the layer's own history
pub record Watch (Task U : Type 0) : Type 1 where
  pub Good : Returned → Type 0
  pub Inv : U → View Task → Type 0

-- `Takes` is what holds of an operation that a part takes, and `Refuses` of one that a part refuses,
-- given what the part's history shows before the operation
pub record Admission : Type 1 where
  pub Takes : Op → Seen → Type 0
  pub Refuses : Op → Seen → Type 0

-- The program of p's operation runs from a view to its next bit action or its end, and keeps the
-- invariant. `Out` says how the step's last event, if there is one, changes what is known.
abbrev pub Runs : {Task U : Type 0} → Table Task → Watch Task U → ℕ → Op → (Option Event → U → Type 0) → Program Task → View Task → Type 0
Runs {U = U} t w p op Out (Ends o) j = (u : U) × (Out (Some (end_event p o)) u × w.Inv u (record j { tasks = put p None j.tasks }))
Runs t w p op Out (Reads i rest) j = Runs t w p op Out (rest (j.words i)) j
Runs t w p op Out (Sets i x rest) j = Runs t w p op Out rest (record j { words = put i x j.words })
Runs {U = U} t w p op Out (Asks task rest) j =
    let ask = t.asks task in
    let s = sees (Some (Invoke ask.who ask.op)) (j.parts ask.part) in
    ((u : U) × (Out None u × w.Inv u (record j { tasks = put p (Some (record { op = op; task = task })) j.tasks; parts = put ask.part s j.parts })))
    × ((o : Outcome) → Answers t.inner_values ask.op o → IsNotSpent o → AllByRecursion w.Good (got (Some (end_event ask.who o)) s)
    → Runs t w p op Out (rest o) (record j { parts = put ask.part (sees (Some (end_event ask.who o)) s) j.parts }))

-- `Runs` over parts that may refuse an operation as it is invoked. Then the layer's operation ends,
-- refused too, and the part's history shows what it showed before.
abbrev pub RunsUnder : {Task U : Type 0} → Admission → Table Task → Watch Task U → ℕ → Op → (Option Event → U → Type 0) → Program Task → View Task → Type 0
RunsUnder {U = U} a t w p op Out (Ends o) j = (u : U) × (Out (Some (end_event p o)) u × w.Inv u (record j { tasks = put p None j.tasks }))
RunsUnder a t w p op Out (Reads i rest) j = RunsUnder a t w p op Out (rest (j.words i)) j
RunsUnder a t w p op Out (Sets i x rest) j = RunsUnder a t w p op Out rest (record j { words = put i x j.words })
RunsUnder {U = U} a t w p op Out (Asks task rest) j =
    let ask = t.asks task in
    let s = sees (Some (Invoke ask.who ask.op)) (j.parts ask.part) in
    ((a.Takes ask.op (j.parts ask.part) → (u : U) × (Out None u × w.Inv u (record j { tasks = put p (Some (record { op = op; task = task })) j.tasks; parts = put ask.part s j.parts })))
    × (((o : Outcome) → a.Takes ask.op (j.parts ask.part) → Answers t.inner_values ask.op o → IsNotSpent o → AllByRecursion w.Good (got (Some (end_event ask.who o)) s)
    → RunsUnder a t w p op Out (rest o) (record j { parts = put ask.part (sees (Some (end_event ask.who o)) s) j.parts }))
    × ((layer : Layer) → a.Refuses ask.op (j.parts ask.part) → (u : U) × (Out (Some (Refused p layer)) u × w.Inv u (record j { tasks = put p None j.tasks })))))

-- the type of `Runs` and `RunsUnder` once the table and the invariant are given
abbrev pub RunClaim : Type 0 → Type 0 → Type 1
RunClaim Task U = ℕ → Op → (Option Event → U → Type 0) → Program Task → View Task → Type 0

-- `Up` allows void steps and stops, after which the same is known as before; and it allows each
-- step after which an operation stays at its task, and the invariant is kept
pub record Passes {Task U : Type 0} (w : Watch Task U) (Up : U → StepEvents → U → Type 0) : Type 0 where
  pub void : (u : U) (p : ℕ) (reason : Reason) → Up u (in_order (Some (Void p reason)) None) u
  pub stop : (u : U) (p : ℕ) → Up u (in_order (Some (Stop p)) None) u
  pub still : (u : U) (j : View Task) (p : ℕ) (chosen : Option (ℕ × Bool)) → w.Inv u j → (z : U) × (Up u (in_order (chosen_of p chosen) None) z × w.Inv z j)

-- the invariant holds at first; each operation that starts keeps it, and so does each operation of
-- a part that ends; `runs` says what is shown of a program that runs
pub record IsKeptBy {Task U : Type 0} (runs : RunClaim Task U) (t : Table Task) (MayBeAt : ℕ → Op → Task → Type 0) (w : Watch Task U) (first : ℕ → U) (Up : U → StepEvents → U → Type 0) : Type 0 where
  pub initial : (v : ℕ) → v < t.values → (j : View Task) → ((i : ℕ) → i < t.words → j.words i ≡ t.first_word v i)
      → ((p : ℕ) → j.tasks p ≡ None) → ((k : ℕ) → k < t.parts → j.parts k ≡ opening (t.first v k)) → w.Inv (first v) j
  pub passes : Passes w Up
  pub begins : (u : U) (j : View Task) (p : ℕ) (op : Op) → w.Inv u j → j.tasks p ≡ None → t.suits p op ≡ true
      → runs p op (λ e. Up u (in_order (Some (Invoke p op)) e)) (t.program p op) j
  pub goes : (u : U) (j : View Task) (p : ℕ) (n : TaskInProgress Task) (chosen : Option (ℕ × Bool)) (o : Outcome)
      → w.Inv u j → j.tasks p ≡ Some n → MayBeAt p n.op n.task
      → Answers t.inner_values (t.asks n.task).op o → IsNotSpent o
      → AllByRecursion w.Good (got (Some (end_event (t.asks n.task).who o)) (j.parts (t.asks n.task).part))
      → runs p n.op (λ e. Up u (in_order (chosen_of p chosen) e)) (t.rest n.task o)
      (record j { parts = put (t.asks n.task).part (sees (Some (end_event (t.asks n.task).who o)) (j.parts (t.asks n.task).part)) j.parts })

-- the invariant is kept over parts that refuse nothing
abbrev pub IsKept : {Task U : Type 0} → Table Task → (ℕ → Op → Task → Type 0) → Watch Task U → (ℕ → U) → (U → StepEvents → U → Type 0) → Type 0
IsKept t MayBeAt w first Up = IsKeptBy (λ p op Out prog j. Runs t w p op Out prog j) t MayBeAt w first Up

-- the invariant is kept over parts that may refuse an operation, as the admission says
abbrev pub IsKeptUnder : {Task U : Type 0} → Admission → Table Task → (ℕ → Op → Task → Type 0) → Watch Task U → (ℕ → U) → (U → StepEvents → U → Type 0) → Type 0
IsKeptUnder a t MayBeAt w first Up = IsKeptBy (λ p op Out prog j. RunsUnder a t w p op Out prog j) t MayBeAt w first Up

-- a part that takes every operation
abbrev pub takes_all : Admission
takes_all = record { Takes = λ o s. ⊤; Refuses = λ o s. ⊥ }

runs_under : {Task U : Type 0} (t : Table Task) (w : Watch Task U) (p : ℕ) (op : Op) (Out : Option Event → U → Type 0) (prog : Program Task) (j : View Task)
    → Runs t w p op Out prog j → RunsUnder takes_all t w p op Out prog j
runs_under t w p op Out (Ends o) j r = r
runs_under t w p op Out (Reads i rest) j r = runs_under t w p op Out (rest (j.words i)) j r
runs_under t w p op Out (Sets i x rest) j r = runs_under t w p op Out rest (record j { words = put i x j.words }) r
runs_under t w p op Out (Asks task rest) j r = (
  λ takes. r.0,
  (
    λ o takes ans pass good. runs_under t w p op Out (rest o) _ (r.1 o ans pass good),
    λ layer none. absurd none,
  ),
)

-- an invariant kept over parts that refuse nothing is kept over parts that take every operation
pub kept_under : {Task U : Type 0} (t : Table Task) (MayBeAt : ℕ → Op → Task → Type 0) (w : Watch Task U) (first : ℕ → U) (Up : U → StepEvents → U → Type 0)
    → IsKept t MayBeAt w first Up → IsKeptUnder takes_all t MayBeAt w first Up
kept_under t MayBeAt w first Up k = record {
  initial = k.initial;
  passes = k.passes;
  begins = λ u j p op inv free suits. runs_under t w p op (λ e. Up u (in_order (Some (Invoke p op)) e)) (t.program p op) j (k.begins u j p op inv free suits);
  goes = λ u j p n chosen o inv mine at ans pass good. runs_under t w p n.op (λ e. Up u (in_order (chosen_of p chosen) e)) (t.rest n.task o) _ (k.goes u j p n chosen o inv mine at ans pass good);
}

-- process `user k q` is the only process of the layer that acts as process q of part k
abbrev pub IsUser : {Task : Type 0} → Table Task → (ℕ → Op → Task → Type 0) → (ℕ → ℕ → ℕ) → Type 0
IsUser {Task = Task} t MayBeAt user = (p : ℕ) (op : Op) (task : Task) → MayBeAt p op task → user (t.asks task).part (t.asks task).who ≡ p
