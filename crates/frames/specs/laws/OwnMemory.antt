-- A register's calls change only its own cells and words.
use Rattle.std.specs.Prelude.{◌≡◌, ℕ, ◌<◌, Bool, true}
use Rattle.safe_bit.specs.declared.Place.{Place}
use Rattle.safe_bit.specs.Memory.{Memory}
use Rattle.safe_bit.specs.Parts.{LiesIn, part, with_part}
use Rattle.safe_bit.specs.laws.Parts.{part-with_part_apart}
use Rattle.schedule_steps.specs.declared.types.Op.{Op}
use Rattle.frames.specs.Behaviour.{Behaviour, IsLawful}
use Rattle.frames.specs.Others.{LeavesOthers}

module _ {P : Type 0} (b : Behaviour P) (Holds : Memory → Type 0) (Reaches : ℕ → Op → P → Type 0) (lawful : IsLawful b Holds Reaches) where
  -- if a register's own memory is replaced by one that satisfies `Holds`, all parts that don't
  -- overlap it stay as they were
  pub put_in_leaves_others : (at : Place) (m inner : Memory) → LiesIn at b.size m → Holds inner → LeavesOthers at b.size m (with_part at inner m)
  put_in_leaves_others at m inner lies holds other_place other_size there apart = part-with_part_apart at b.size other_place other_size inner m (lawful.size_holds inner holds) lies there apart

  pub init_leaves_others : (at : Place) (m : Memory) (v : ℕ) → LiesIn at b.size m → v < b.values → LeavesOthers at b.size m (with_part at (b.initial v) m)
  init_leaves_others at m v lies few = put_in_leaves_others at m (b.initial v) lies (lawful.initial_holds v few)

  pub begin_leaves_others : (at : Place) (m : Memory) (who : ℕ) (o : Op) → LiesIn at b.size m → Holds (part at b.size m) → b.suits who o ≡ true
      → LeavesOthers at b.size m (with_part at (b.begins who o (part at b.size m)).memory m)
  begin_leaves_others at m who o lies holds fits = put_in_leaves_others at m _ lies (lawful.begins_well who o (part at b.size m) holds fits).holds

  pub go_leaves_others : (at : Place) (m : Memory) (who : ℕ) (o : Op) (p : P) (choice : Bool) → LiesIn at b.size m → Holds (part at b.size m) → Reaches who o p
      → LeavesOthers at b.size m (with_part at (b.goes p choice (part at b.size m)).memory m)
  go_leaves_others at m who o p choice lies holds there = put_in_leaves_others at m _ lies (lawful.goes_well who o p choice (part at b.size m) holds there).holds
