-- The breaks of a session.
use Rattle.std.specs.Prelude.{ℕ, Bool, true, false, not, ◌==◌, ◌&&◌, List, [], ◌∷◌, ◌++◌, filter, slice_index_or, if◌then◌else◌}
use Rattle.std.specs.List.{list_any}
use Rattle.pages.specs.declared.breakpoint.Break.{Break}
use Rattle.pages.specs.declared.breakpoint.Break.TheVariants.{Returns, Bit, Chosen, Void, Refused}

-- whether two breaks are equal
abbrev pub is_same : Break → Break → Bool
is_same (Returns p) (Returns q) = p == q
is_same (Bit j v) (Bit k w) = (j == k) && (v == w)
is_same Chosen Chosen = true
is_same Void Void = true
is_same Refused Refused = true
is_same (Returns p) other = false
is_same (Bit j v) other = false
is_same Chosen other = false
is_same Void other = false
is_same Refused other = false

-- the breaks of session `who`; none if there is no such session
abbrev pub breaks_at : List (List Break) → ℕ → List Break
breaks_at breaks who = slice_index_or breaks who []

-- whether a break is one of these breaks
abbrev pub has_break : Break → List Break → Bool
has_break break breaks = list_any (is_same break) breaks

-- these breaks with `break` added at the end, unless it is already one of them
abbrev pub with_break : Break → List Break → List Break
with_break break breaks = if has_break break breaks then breaks else breaks ++ break ∷ []

-- these breaks without `break`
abbrev pub without_break : Break → List Break → List Break
without_break break breaks = filter (λ other. not (is_same break other)) breaks
