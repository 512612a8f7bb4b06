-- Climbs: reading the keys of a path from one of them up to the first.
pub use Rattle.lineage.specs.Family.{last_from, last_of}
use Rattle.std.specs.Prelude.{ℕ, ◌≡◌, true, nat_eq, List, [], ◌∷◌, Option, Some, None, if◌then◌else◌}
use Rattle.schedule_trie.specs.Trie.{has}

-- the keys of a path from the first down to `key`; all its keys if `key` isn't one of them
abbrev pub keys_up_to : ℕ → List ℕ → List ℕ
keys_up_to key [] = []
keys_up_to key (k ∷ ks) = if nat_eq key k then k ∷ [] else k ∷ keys_up_to key ks

-- the keys of a path from the first down to the given key; no keys if None is given
abbrev pub keys_to : List ℕ → Option ℕ → List ℕ
keys_to keys None = []
keys_to keys (Some key) = keys_up_to key keys

-- a climb of a path is at the given key, which is on the path; or None is given, and the climb has
-- passed the first key
abbrev pub HasClimbedTo : List ℕ → Option ℕ → Type 0
HasClimbedTo keys None = Unit {0}
HasClimbedTo keys (Some key) = has key keys ≡ true
