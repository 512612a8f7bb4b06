-- Names of branches.
use Rattle.std.specs.Prelude.{ℕ, ◌-◌, ◌≤◌, ◌≡◌, Bool, false, ◌&&◌, ◌||◌, List, [], ◌∷◌, ◌++◌, Option, Some, None, length, take, replicate, nat_le, if◌then◌else◌}
use Rattle.std.specs.List.{list_all}

-- the name with these bytes; None if there are more than 16
abbrev pub name_of_bytes : List ℕ → Option (List ℕ)
name_of_bytes bytes = if nat_le (length bytes) 16 then Some bytes else None

-- whether a byte is a lower-case letter
abbrev pub is_letter : ℕ → Bool
is_letter b = nat_le 97 b && nat_le b 122

-- whether a byte is a lower-case letter or a digit
abbrev pub is_letter_or_digit : ℕ → Bool
is_letter_or_digit b = is_letter b || (nat_le 48 b && nat_le b 57)

-- whether a name is a lower-case letter, followed by lower-case letters or digits only
abbrev pub is_well_formed : List ℕ → Bool
is_well_formed [] = false
is_well_formed (b ∷ bs) = is_letter b && list_all is_letter_or_digit bs

-- a name's bytes, padded with zeros to 16 bytes
abbrev pub padded : List ℕ → List ℕ
padded bytes = bytes ++ replicate (16 - length bytes) 0

-- 16 bytes hold a name of `len` bytes: the first `len` are the name's, and the others are 0
pub record IsPadded (bytes : List ℕ) (len : ℕ) : Type 0 where
  pub fills : padded (take len bytes) ≡ bytes
  pub counted : length (take len bytes) ≡ len
  pub short : len ≤ 16
