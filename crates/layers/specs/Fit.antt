-- Whether a layer can be built on a register, and if not, why.
use Rattle.std.specs.Prelude.{ℕ, ◌+◌, ◌*◌, List, ◌∷◌, ◌++◌, codes, Bool, ◌&&◌, ◌==◌, nat_le, nat_lt, Option, Some, None, if◌then◌else◌}
use Rattle.std.specs.Fmt.{decimal}
use Rattle.layers.specs.declared.fit.LayerError.{LayerError}
use Rattle.layers.specs.declared.fit.LayerError.TheVariants.{BadSize, TooManyBits}
use Rattle.frames.specs.Behaviour.{Behaviour}
use Rattle.frames.specs.declared.types.TheConstants.{STACK_FRAMES}
use Rattle.frames.specs.declared.register.TheConstants.{MOST_CELLS, MOST_WORDS}
use Rattle.frames.specs.declared.limits.TheConstants.{LEAST_VALUES, LEAST_PROCESSES, MOST_PROCESSES}
use Rattle.layers.specs.Nested.{Table}

-- the layer has at least 2 values, and 2 to 5 processes
abbrev pub limits_hold : {Task : Type 0} → Table Task → Bool
limits_hold t = nat_le LEAST_VALUES t.values && (nat_le LEAST_PROCESSES t.processes && nat_le t.processes MOST_PROCESSES)

-- the register below has the values and processes that the parts need, and its depth, the most
-- frames that its operations have, is below 8, so that the layer can add a frame of its own
abbrev pub below_fits : {Task P : Type 0} → Table Task → Behaviour P → Bool
below_fits t b = b.values == t.inner_values && (b.processes == t.inner_processes && nat_lt b.depth STACK_FRAMES)

-- the layer over register b has at most 4,096 cells and 65,536 words, as each register must
abbrev pub size_fits : {Task P : Type 0} → Table Task → Behaviour P → Bool
size_fits t b = nat_le (t.parts * b.size.cell) MOST_CELLS && nat_le (t.parts * b.size.word + t.words) MOST_WORDS

-- why the layer can't be built on register b: `BadSize` if `limits_hold` or `below_fits` is false,
-- otherwise `TooManyBits` if `size_fits` is false; `None` if it can
abbrev pub refusal_below : {Task P : Type 0} → Table Task → Behaviour P → Option LayerError
refusal_below t b = if limits_hold t && below_fits t b then (if size_fits t b then None else Some TooManyBits) else Some BadSize

-- the number of each refusal, and its name, which is spelled like the variant
abbrev pub error_number_and_name : LayerError → ℕ × List ℕ
error_number_and_name BadSize = (1, codes "BadSize")
error_number_and_name TooManyBits = (2, codes "TooManyBits")

-- the number of each refusal: 1 for `BadSize`, 2 for `TooManyBits`
abbrev pub layer_error_number : LayerError → ℕ
layer_error_number e = (error_number_and_name e).0

-- what a refusal prints: its number, a space and its name
abbrev pub layer_error_display : LayerError → List ℕ
layer_error_display e = decimal (layer_error_number e) ++ 32 ∷ (error_number_and_name e).1
