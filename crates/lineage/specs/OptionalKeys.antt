-- A key or no key, in one word. The greatest word means no key.
use Rattle.std.specs.Prelude.{ℕ, ◌-◌, ◌^◌, nat_eq, Option, Some, None, if◌then◌else◌}

-- the key that a word of an `OptionalKey` stores: None if it is the greatest word, which means no
-- key
abbrev pub key_of_word : ℕ → Option ℕ
key_of_word word = if nat_eq word (2 ^ 64 - 1) then None else Some word

-- the word that stores a key, or no key
abbrev pub word_of_key : Option ℕ → ℕ
word_of_key None = 2 ^ 64 - 1
word_of_key (Some key) = key
