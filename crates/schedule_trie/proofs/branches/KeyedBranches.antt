-- Branches, from their names and their paths.
use Rattle.std.proofs.Common.{◌≡◌, ℕ, zero, suc, ◌<◌, List, [], ◌∷◌, ◌++◌, length, map, get_or, set, ◌⊎◌, inl, inr, refl, ap, arith}
use Rattle.std.specs.List.{remove}
use Rattle.branch_terms.specs.Forest.{name_of}
use Rattle.schedule_trie.specs.Trie.{SegmentOf, KeyedBranch, keyed_branch, branches_on, keys_in, set_keys, divided_keys, divided_branch, keys_without, branch_without}
use Rattle.schedule_trie.specs.TrieFields.{keyed_branches}
use Rattle.std.specs.Prelude.{Option}

-- branches have the names that they are made of
pub names_on : {T : Type 0} (at : ℕ → Option (SegmentOf T)) (names paths : List (List ℕ)) → map name_of (branches_on at (keyed_branches names paths)) ≡ names
names_on at [] paths = refl
names_on at (n ∷ ns) [] = ap (λ l. n ∷ l) (names_on at ns [])
names_on at (n ∷ ns) (p ∷ ps) = ap (λ l. n ∷ l) (names_on at ns ps)

pub length-keyed_branches : (names paths : List (List ℕ)) → length (keyed_branches names paths) ≡ length names
length-keyed_branches [] paths = refl
length-keyed_branches (n ∷ ns) [] = ap suc (length-keyed_branches ns [])
length-keyed_branches (n ∷ ns) (p ∷ ps) = ap suc (length-keyed_branches ns ps)

-- the keys of a branch are those of its path
pub keys_in-keyed_branches : (names paths : List (List ℕ)) (i : ℕ) → length paths ≡ length names → keys_in (keyed_branches names paths) i ≡ get_or paths i []
keys_in-keyed_branches [] [] i e = refl
keys_in-keyed_branches [] (p ∷ ps) i e = absurd (omega arith)
keys_in-keyed_branches (n ∷ ns) [] i e = absurd (omega arith)
keys_in-keyed_branches (n ∷ ns) (p ∷ ps) zero e = refl
keys_in-keyed_branches (n ∷ ns) (p ∷ ps) (suc i) e = keys_in-keyed_branches ns ps i (omega arith)

-- replacing one path replaces the keys of its branch
pub keyed_branches-set : (names paths : List (List ℕ)) (i : ℕ) (keys : List ℕ) → length paths ≡ length names
    → keyed_branches names (set paths i keys) ≡ set_keys (keyed_branches names paths) i keys
keyed_branches-set [] [] i keys e = refl
keyed_branches-set [] (p ∷ ps) i keys e = absurd (omega arith)
keyed_branches-set (n ∷ ns) [] i keys e = absurd (omega arith)
keyed_branches-set (n ∷ ns) (p ∷ ps) zero keys e = refl
keyed_branches-set (n ∷ ns) (p ∷ ps) (suc i) keys e = ap (λ l. keyed_branch n p ∷ l) (keyed_branches-set ns ps i keys (omega arith))

pub keyed_branches-divided : (key fresh : ℕ) (names paths : List (List ℕ)) → keyed_branches names (map (divided_keys key fresh) paths) ≡ map (divided_branch key fresh) (keyed_branches names paths)
keyed_branches-divided key fresh [] paths = refl
keyed_branches-divided key fresh (n ∷ ns) [] = ap (λ l. keyed_branch n [] ∷ l) (keyed_branches-divided key fresh ns [])
keyed_branches-divided key fresh (n ∷ ns) (p ∷ ps) = ap (λ l. keyed_branch n (divided_keys key fresh p) ∷ l) (keyed_branches-divided key fresh ns ps)

pub keyed_branches-without : (key : ℕ) (names paths : List (List ℕ)) → keyed_branches names (map (keys_without key) paths) ≡ map (branch_without key) (keyed_branches names paths)
keyed_branches-without key [] paths = refl
keyed_branches-without key (n ∷ ns) [] = ap (λ l. keyed_branch n [] ∷ l) (keyed_branches-without key ns [])
keyed_branches-without key (n ∷ ns) (p ∷ ps) = ap (λ l. keyed_branch n (keys_without key p) ∷ l) (keyed_branches-without key ns ps)

-- adding a name and a path last adds their branch last
pub keyed_branches-last : (names paths : List (List ℕ)) (name path : List ℕ) → length paths ≡ length names
    → keyed_branches (names ++ name ∷ []) (paths ++ path ∷ []) ≡ keyed_branches names paths ++ keyed_branch name path ∷ []
keyed_branches-last [] [] name path e = refl
keyed_branches-last [] (p ∷ ps) name path e = absurd (omega arith)
keyed_branches-last (n ∷ ns) [] name path e = absurd (omega arith)
keyed_branches-last (n ∷ ns) (p ∷ ps) name path e = ap (λ l. keyed_branch n p ∷ l) (keyed_branches-last ns ps name path (omega arith))

-- removing a name and its path removes their branch
pub keyed_branches-remove : (names paths : List (List ℕ)) (i : ℕ) → length paths ≡ length names
    → keyed_branches (remove names i) (remove paths i) ≡ remove (keyed_branches names paths) i
keyed_branches-remove [] [] zero e = refl
keyed_branches-remove [] [] (suc i) e = refl
keyed_branches-remove [] (p ∷ ps) i e = absurd (omega arith)
keyed_branches-remove (n ∷ ns) [] i e = absurd (omega arith)
keyed_branches-remove (n ∷ ns) (p ∷ ps) zero e = refl
keyed_branches-remove (n ∷ ns) (p ∷ ps) (suc i) e = ap (λ l. keyed_branch n p ∷ l) (keyed_branches-remove ns ps i (omega arith))

-- the keys of branches after the keys of one are replaced
pub keys_in-set_same : (branches : List KeyedBranch) (i : ℕ) (keys : List ℕ) → i < length branches → keys_in (set_keys branches i keys) i ≡ keys
keys_in-set_same [] i keys h = absurd (omega arith)
keys_in-set_same (s ∷ ss) zero keys h = refl
keys_in-set_same (s ∷ ss) (suc i) keys h = keys_in-set_same ss i keys (omega arith)

pub keys_in-set_other : (branches : List KeyedBranch) (i j : ℕ) (keys : List ℕ) → (j ≡ i → ⊥) → keys_in (set_keys branches i keys) j ≡ keys_in branches j
keys_in-set_other [] i j keys ne = refl
keys_in-set_other (s ∷ ss) zero zero keys ne = absurd (ne refl)
keys_in-set_other (s ∷ ss) zero (suc j) keys ne = refl
keys_in-set_other (s ∷ ss) (suc i) zero keys ne = refl
keys_in-set_other (s ∷ ss) (suc i) (suc j) keys ne = keys_in-set_other ss i j keys (λ e. ne (ap suc e))

pub set_keys-same : (branches : List KeyedBranch) (i : ℕ) → set_keys branches i (keys_in branches i) ≡ branches
set_keys-same [] i = refl
set_keys-same (s ∷ ss) zero = refl
set_keys-same (s ∷ ss) (suc i) = ap (λ l. s ∷ l) (set_keys-same ss i)

pub length-set_keys : (branches : List KeyedBranch) (i : ℕ) (keys : List ℕ) → length (set_keys branches i keys) ≡ length branches
length-set_keys [] i keys = refl
length-set_keys (s ∷ ss) zero keys = refl
length-set_keys (s ∷ ss) (suc i) keys = ap suc (length-set_keys ss i keys)

-- the keys of a branch after one is added: those that it had, or the added one's
pub keys_in-last : (branches : List KeyedBranch) (s : KeyedBranch) (i : ℕ) → (keys_in (branches ++ s ∷ []) i ≡ keys_in branches i) ⊎ (keys_in (branches ++ s ∷ []) i ≡ s.keys)
keys_in-last [] s zero = inr refl
keys_in-last [] s (suc i) = inl refl
keys_in-last (t ∷ ts) s zero = inl refl
keys_in-last (t ∷ ts) s (suc i) = keys_in-last ts s i
