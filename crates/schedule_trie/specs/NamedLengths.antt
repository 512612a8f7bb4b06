-- The names of branches, with their cached lengths.
use Rattle.std.specs.Prelude.{ℕ, List, Option, Some, None}

-- names of branches in order, each with the branch's length if that is cached; and the number of
-- branches that there is memory for, beyond these
pub record NamedLengths : Type 0 where
  pub entries : List (List ℕ × Option ℕ)
  pub spare : ℕ

-- the cached length in a branch's entry; None if there is no entry, or no length is cached
abbrev pub cached_in : Option (List ℕ × Option ℕ) → Option ℕ
cached_in None = None
cached_in (Some entry) = entry.1
