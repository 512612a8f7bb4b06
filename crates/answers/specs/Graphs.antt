-- The graph that a search for answers searches.
use Rattle.std.specs.Prelude.{◌≡◌, ℕ, zero, suc, ◌*◌, ◌&&◌, Bool, true, List, length}
use Rattle.safe_bit.specs.Memory.{Memory}
use Rattle.frames.specs.declared.types.Op.{Op}
use Rattle.frames.specs.Behaviour.{Behaviour}
use Rattle.frames.specs.StoredConfiguration.{IsConfiguration}
use Rattle.breadth_first.specs.Graph.{GraphOf}
use Rattle.answers.specs.declared.question.Question.{Question}
use Rattle.answers.specs.Packing.{state_bytes}
use Rattle.answers.specs.States.{StateOf, first_state, is_over, moved}

-- whether each of the first n processes has stopped, or is idle and has ended all its operations
abbrev pub all_over : {R P : Type 0} → Question → StateOf R P → ℕ → Bool
all_over q x zero = true
all_over q x (suc n) = is_over q x n && all_over q x n

-- the moves of a question from the initial state of register r; its goals are the states in which
-- all is over
abbrev pub moves_of : {R P : Type 0} → (R → Behaviour P) → Question → R → GraphOf (StateOf R P) (List ℕ)
moves_of is q r = record {
  labels = (is r).processes * 4;
  move = λ x l. moved (is x.configuration.register) q x l;
  origin = first_state (is r) q.value r;
  key = λ x. state_bytes (is x.configuration.register) x;
  is_goal = λ x. all_over q x (is r).processes;
}

-- what holds of each discovered state: it is one of register r, with outcomes for each process
pub record IsStateOf {R P : Type 0} (b : Behaviour P) (Holds : Memory → Type 0) (Reaches : ℕ → Op → P → Type 0) (r : R) (x : StateOf R P) : Type 0 where
  pub register : x.configuration.register ≡ r
  pub sound : IsConfiguration b Holds Reaches x.configuration
  pub each : length x.answers ≡ b.processes
