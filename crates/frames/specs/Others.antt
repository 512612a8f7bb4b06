-- The memory outside a register's own part.
use Rattle.std.specs.Prelude.{◌≡◌}
use Rattle.safe_bit.specs.declared.Place.{Place}
use Rattle.safe_bit.specs.Memory.{Memory}
use Rattle.safe_bit.specs.Parts.{LiesIn, Apart, part}

-- each part of the memory that doesn't overlap the part of this size at place `at` is the same
-- after as before
abbrev pub LeavesOthers : Place → Place → Memory → Memory → Type 0
LeavesOthers at size before after = (other_place other_size : Place) → LiesIn other_place other_size before → Apart at size other_place other_size
    → part other_place other_size after ≡ part other_place other_size before
