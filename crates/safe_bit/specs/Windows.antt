-- A window of a list, and a list with a window replaced.
use Rattle.std.proofs.Common.{ℕ, ◌+◌, List, ◌++◌, length, take, drop}

-- the n items from index i on
abbrev pub window : {A : Type 0} → ℕ → ℕ → List A → List A
window i n xs = take n (drop i xs)

-- the list xs with `length ys` of its items, from index i on, replaced by ys
abbrev pub splice : {A : Type 0} → ℕ → List A → List A → List A
splice i ys xs = take i xs ++ ys ++ drop (i + length ys) xs
