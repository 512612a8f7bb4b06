-- The limits of a stamped register's numbers of values and stamps, and why a stamped register is
-- refused.
use Rattle.std.specs.Prelude.{ℕ, Bool, ◌&&◌, nat_le, nat_lt, Option, Some, if◌then◌else◌}
use Rattle.frames.specs.declared.limits.TheConstants.{LEAST_VALUES, MOST_VALUES}
use Rattle.layers.specs.declared.fit.LayerError.{LayerError}
use Rattle.layers.specs.declared.fit.LayerError.TheVariants.{BadSize}
use Rattle.frames.specs.Behaviour.{Behaviour}
use Rattle.layers.specs.Fit.{refusal_below}
use Rattle.stamped.specs.Program.{stamped_code_count, stamped_table}

-- there are 2 to 512 values, the last stamp is at most 511, and there are at most 512 codes
abbrev pub stamped_limits_hold : ℕ → ℕ → Bool
stamped_limits_hold values last = nat_le LEAST_VALUES values && (nat_le values MOST_VALUES && (nat_lt last MOST_VALUES && nat_le (stamped_code_count values last) MOST_VALUES))

-- why a stamped register of `values` values, with stamps up to `last`, can't be built on register
-- b; `None` if it can
abbrev pub stamped_refusal : {P : Type 0} → ℕ → ℕ → Behaviour P → Option LayerError
stamped_refusal values last b = if stamped_limits_hold values last then refusal_below (stamped_table values last) b else Some BadSize
