-- Sets of a turn's 16 shares, as lists of marks: mark i is true exactly if share i is in the set. A
-- chair's set has the shares that the chair holds.
use Rattle.std.specs.Prelude.{◌≡◌, ℕ, ◌<◌, Bool, true, false, not, nat_lt, nat_le, ◌&&◌, ◌||◌, List, map, take, slice_index_or, replicate, count_by, position, unwrap_or}
use Rattle.std.specs.List.{range_with_len}

-- whether share i is in the set
abbrev pub has_share : List Bool → ℕ → Bool
has_share shares i = slice_index_or shares i false

-- all sixteen shares are in the set
abbrev pub HasAll : List Bool → Type 0
HasAll shares = (i : ℕ) → i < 16 → has_share shares i ≡ true

-- the set of the shares below 16 that pass a test
unfoldable pub shares_where : (ℕ → Bool) → List Bool
shares_where test = map test (range_with_len 0 16)

-- the set of all sixteen shares
abbrev pub every_share : List Bool
every_share = replicate 16 true

-- the empty set of shares
abbrev pub no_share : List Bool
no_share = replicate 16 false

-- how many shares are in the set
abbrev pub count : List Bool → ℕ
count shares = count_by (λ held. held) shares

-- the number of a chair that holds these shares: the least of them, or 16 if there is none
abbrev pub chair_number : List Bool → ℕ
chair_number shares = unwrap_or (position (λ held. held) shares) 16

-- how many shares in the set are less than i
abbrev pub rank : List Bool → ℕ → ℕ
rank shares i = count (take i shares)

-- the first n of the set's shares after its least share; all of these if there are fewer than n
abbrev pub next_least : ℕ → List Bool → List Bool
next_least n shares = shares_where (λ i. has_share shares i && nat_lt 0 (rank shares i) && nat_le (rank shares i) n)

-- the shares that are in the first set but not in the second
abbrev pub shares_without : List Bool → List Bool → List Bool
shares_without shares given = shares_where (λ i. has_share shares i && not (has_share given i))

-- the shares that are in at least one of two sets
abbrev pub together : List Bool → List Bool → List Bool
together shares others = shares_where (λ i. has_share shares i || has_share others i)
