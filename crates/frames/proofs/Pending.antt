-- The pending operation of each process of a register alone; at first there is none.
use Rattle.std.proofs.Common.{◌≡◌, ℕ, zero, suc, ◌<◌, false, Option, None, inl, inr, refl, sym, ap, ◌∙◌, length, get_or, set, replicate}
use Rattle.std.specs.Option.{option_map}
use Rattle.std.proofs.lemmas.Bool.{cases_eq}
use Rattle.std.proofs.lemmas.List.{get_or-set_same, get_or-set_other}
use Rattle.safe_bit.specs.Memory.{Memory}
use Rattle.schedule_steps.specs.declared.types.Op.{Op}
use Rattle.frames.specs.declared.running.Running.{Running}
use Rattle.frames.specs.Behaviour.{Behaviour, IsLawful}
use Rattle.frames.specs.Configuration.{running_at}
use Rattle.frames.specs.StoredConfiguration.{IsConfiguration}
use Rattle.frames.specs.Recorded.{LoneConfiguration, first_configuration}
use Rattle.frames.specs.laws.Steps.{initial_is_configuration}
pub use Rattle.frames.specs.laws.Steps.{none_pending_at}
use Rattle.frames.proofs.Pointwise.{put, put_same, put_other}

-- the operation that is pending, if any
abbrev pub op_of : {P : Type 0} → Option (Running P) → Option Op
op_of slot = option_map (λ r. r.op) slot

-- the operation that each process has pending, if any
abbrev pub ops_of : {P : Type 0} → LoneConfiguration P → ℕ → Option Op
ops_of c q = op_of (running_at q c)

-- the pending operations after the operation of process p has changed
pub ops_after : {P : Type 0} (p : ℕ) (x : Option (Running P)) (c : LoneConfiguration P) → p < length c.running → (q : ℕ) → put p (op_of x) (ops_of c) q ≡ op_of (get_or (set c.running p x) q None)
ops_after p x c there q = elim (cases_eq q p) as (λ _. put p (op_of x) (ops_of c) q ≡ op_of (get_or (set c.running p x) q None)) [
  | inl same ↦ ap (put p (op_of x) (ops_of c)) same ∙ put_same p (op_of x) (ops_of c)
      ∙ sym (ap (λ i. op_of (get_or (set c.running p x) i None)) same ∙ ap op_of (get_or-set_same c.running p x None there))
  | inr other ↦ put_other p q (op_of x) (ops_of c) other ∙ sym (ap op_of (get_or-set_other c.running p q x None other))
]

-- if no process has stopped, process p hasn't
pub none_stopped_at : (n p : ℕ) → get_or (replicate n false) p false ≡ false
none_stopped_at zero p = refl
none_stopped_at (suc n) zero = refl
none_stopped_at (suc n) (suc p) = none_stopped_at n p

pub first_is_configuration : {P : Type 0} (b : Behaviour P) (Holds : Memory → Type 0) (Reaches : ℕ → Op → P → Type 0) (lawful : IsLawful b Holds Reaches) (v : ℕ) → v < b.values
    → IsConfiguration b Holds Reaches (first_configuration b v)
first_is_configuration b Holds Reaches lawful v lt = initial_is_configuration b Holds Reaches lawful tt v (b.initial v) (replicate b.processes None) (replicate b.processes false) lt refl refl refl
