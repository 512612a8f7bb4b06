-- A law that says when the table of a register with one writer is sound. Laws of the crate `frames`
-- show which operations each process may make. The law in this file requires all else that the
-- table has to satisfy.
use Rattle.std.specs.Prelude.{◌≡◌, ℕ, ◌<◌, true}
use Rattle.std.proofs.Common.{◌∙◌, sym}
use Rattle.frames.specs.declared.types.Op.{Op}
use Rattle.frames.specs.declared.types.Op.TheVariants as op
use Rattle.frames.specs.declared.types.Outcome.{Outcome}
use Rattle.frames.specs.Behaviour.{Answers}
use Rattle.frames.specs.OneWriter.{one_writer}
use Rattle.frames.specs.laws.OneWriter as writer
use Rattle.layers.specs.Nested.{Table}
use Rattle.layers.specs.Sound.{IsSound, IsSoundTable, IsNotSpent, Falls, FitsPart}
pub use Rattle.frames.specs.laws.OneWriter.{zero_writes, others_read, nobody_else, writer_zero, no_other_value, reader_is_not_zero, reader_below_processes, writer_suits}

module _ {Task : Type 0} (t : Table Task) (MayBeAt : ℕ → Op → Task → Type 0) (left : Task → ℕ) where
  -- `Then` holds, if process `who` can be in the task during operation o, and the outcome suits the
  -- operation that the task asks for and isn't `Spent`
  abbrev AfterTask : ℕ → Op → Task → Outcome → (Type 0) → Type 0
  AfterTask who o task outcome Then = MayBeAt who o task → Answers t.inner_values (t.asks task).op outcome → IsNotSpent outcome → Then

  pub one_writer_sound : ((who : ℕ) (o : Op) → t.suits who o ≡ one_writer t.values t.processes who o) → 0 < t.processes
      → ((v j : ℕ) → v < t.values → j < t.parts → t.first v j < t.inner_values)
      → ((v k : ℕ) → v < t.values → k < t.words → t.first_word v k < t.bound k)
      → ((who : ℕ) (o : Op) (task : Task) → MayBeAt who o task → ((t.asks task).part < t.parts) × FitsPart t.inner_values t.inner_processes (t.asks task).who (t.asks task).op)
      → ((who : ℕ) (o : Op) (task : Task) → MayBeAt who o task → t.suits who o ≡ true)
      → ((who : ℕ) (o : Op) (task : Task) → MayBeAt who o task → (t.find who (t.frame task) ≡ task) × ((t.frame task).op ≡ o))
      → ((who : ℕ) (o : Op) → t.suits who o ≡ true → IsSound t (MayBeAt who o) (Answers t.values o) (t.program who o))
      → ((who : ℕ) (o : Op) (task : Task) (outcome : Outcome) → AfterTask who o task outcome (IsSound t (MayBeAt who o) (Answers t.values o) (t.rest task outcome)))
      → ((who : ℕ) (o : Op) (task : Task) (outcome : Outcome) → AfterTask who o task outcome (Falls left (left task) (t.rest task outcome)))
      → IsSoundTable t MayBeAt left
  one_writer_sound suits some first_fits first_words asks_fit may_be_at_suits frame_gives_task begins_sound rest_sound rest_falls = record {
    zero_writes = λ v lt. suits 0 (op.Write v) ∙ writer.zero_writes t.values t.processes v some lt;
    others_read = λ who above below. suits who op.Read ∙ writer.others_read t.values t.processes who above below;
    nobody_else = λ who o h. writer.nobody_else t.values t.processes who o (sym (suits who o) ∙ h);
    no_other_value = λ who v h. writer.no_other_value t.values t.processes who v (sym (suits who (op.Write v)) ∙ h);
    first_fits = first_fits;
    first_words = first_words;
    asks_fit = asks_fit;
    may_be_at_suits = may_be_at_suits;
    frame_gives = frame_gives_task;
    begins_sound = begins_sound;
    rest_sound = rest_sound;
    rest_falls = rest_falls;
  }
