-- Cached lengths, each of an edition: only those of the list's own edition are known.
use Rattle.std.specs.Prelude.{ℕ, ◌+◌, ◌<◌, nat_eq, if◌then◌else◌, List, [], ◌∷◌, Option, Some, None, IfSome, slice_get}
use Rattle.indexmap.specs.IndexMap.{spare}
use Rattle.schedule_trie.specs.declared.branch_list.Cached.{Cached}
use Rattle.schedule_trie.specs.declared.branch_list.BranchList.TheInside.{Inside}
use Rattle.schedule_trie.specs.NamedLengths.{NamedLengths}

-- a cached length that is known in no edition of a list
abbrev pub unknown : Cached
unknown = record { cells = 0; edition = 0 }

-- a cached length, if it was cached in this edition; otherwise None
abbrev pub known_in : ℕ → Cached → Option ℕ
known_in edition cached = if nat_eq cached.edition edition then Some cached.cells else None

-- the names, each with its length as known in this edition
abbrev pub lengths_in : ℕ → List (List ℕ × Cached) → List (List ℕ × Option ℕ)
lengths_in edition [] = []
lengths_in edition (e ∷ es) = (e.0, known_in edition e.1) ∷ lengths_in edition es

-- each length was cached before this edition
abbrev pub AreEarlier : ℕ → List (List ℕ × Cached) → Type 0
AreEarlier edition entries = (i : ℕ) → IfSome (slice_get entries i) (λ e. e.1.edition < edition)

-- what contracts see of a list: names, lengths known in the list's edition, and spare memory
abbrev pub named_lengths : Inside → NamedLengths
named_lengths b = record { entries = lengths_in b.edition b.entries.entries; spare = spare b.entries }

-- the list's edition is at least 1, and no length was cached in a later edition
pub record IsOfEditions (b : Inside) : Type 0 where
  pub some : 0 < b.edition
  pub earlier : AreEarlier (b.edition + 1) b.entries.entries
