-- A lineage as contracts see it: the items, and the keys of each path.
use Rattle.std.specs.Prelude.{ℕ, ◌≡◌, ◌≢◌, Bool, true, false, not, ◌||◌, nat_eq, List, [], ◌∷◌, ◌++◌, Option, Some, None, IsSome, slice_index_or, slice_set, map, filter, if◌then◌else◌}
use Rattle.std.specs.List.{flat_map}

-- a lineage: `items` has, at the index of each key, the item with this key or None; `paths` has the
-- keys of each path, in order
pub record Family (X : Type 0) : Type 0 where
  pub items : List (Option X)
  pub paths : List (List ℕ)

module _ {X : Type 0} where
  -- the item at a key; None if there is no such item
  abbrev pub item_at : Family X → ℕ → Option X
  item_at f k = slice_index_or f.items k None

  -- the keys of the path at an index; no keys if there is no such path
  abbrev pub path_in : Family X → ℕ → List ℕ
  path_in f i = slice_index_or f.paths i []

-- whether a number is in a list
abbrev pub has : ℕ → List ℕ → Bool
has x [] = false
has x (y ∷ ys) = nat_eq x y || has x ys

-- the last key of a list, or `first` if the list is empty
abbrev pub last_from : Option ℕ → List ℕ → Option ℕ
last_from first [] = first
last_from first (k ∷ ks) = last_from (Some k) ks

-- the last key of a list; None if the list is empty
abbrev pub last_of : List ℕ → Option ℕ
last_of keys = last_from None keys

-- a path has a key: `front` are the keys before it, and `back` the keys after it
pub record IsOnPath (keys : List ℕ) (key : ℕ) : Type 0 where
  pub front : List ℕ
  pub back : List ℕ
  pub is : keys ≡ front ++ key ∷ back

-- what replaces the key k of a path when `new` is put right above `key`: if k is `key`, `new` and
-- then k; otherwise k alone
abbrev pub above_key : ℕ → ℕ → ℕ → List ℕ
above_key key new k = if nat_eq key k then new ∷ k ∷ [] else k ∷ []

-- the keys of a path once `new` is put right above `key`
abbrev pub divided_keys : ℕ → ℕ → List ℕ → List ℕ
divided_keys key new keys = flat_map (above_key key new) keys

-- whether the key k of a path stays when `key` is taken out: true unless k is `key`
abbrev pub other_key : ℕ → ℕ → Bool
other_key key k = not (nat_eq key k)

-- the keys of a path once `key` is taken out
abbrev pub keys_without : ℕ → List ℕ → List ℕ
keys_without key keys = filter (other_key key) keys

module _ {X : Type 0} where
  -- the lineage f with `item` as the item at a key
  abbrev pub with_item : Family X → ℕ → X → Family X
  with_item f key item = record f { items = slice_set f.items key (Some item) }

  -- an item is added at a new key, and each other key still has the item that it had
  pub record IsAdded (old new : Family X) (key : ℕ) (item : X) : Type 0 where
    pub was_vacant : item_at old key ≡ None
    pub here : item_at new key ≡ Some item
    pub others : (k : ℕ) → k ≢ key → item_at new k ≡ item_at old k

  -- A path is added at the end of the list of paths, and the items don't change. If a key is given,
  -- the new path is the beginning, down to this key, of each path that has the key. If not, the new
  -- path is empty.
  pub record IsForked (old new : Family X) (key : Option ℕ) : Type 0 where
    pub path : List ℕ
    pub paths : new.paths ≡ old.paths ++ path ∷ []
    pub last : last_of path ≡ key
    pub shared : (k i : ℕ) (front back : List ℕ) → key ≡ Some k → path_in old i ≡ front ++ k ∷ back → path ≡ front ++ k ∷ []
    pub items : new.items ≡ old.items

  -- a new item, whose key is `fresh`, is put right above `key` in each path that has `key`. Then a
  -- path is added at the end of the list of paths: its keys are those before `fresh` in the paths
  -- that have `key`, and then `fresh`. No other item changes.
  pub record IsForkedAbove (old new : Family X) (key fresh : ℕ) (item : X) : Type 0 where
    pub path : List ℕ
    pub paths : new.paths ≡ map (divided_keys key fresh) old.paths ++ path ∷ []
    pub shared : (i : ℕ) (front back : List ℕ) → path_in old i ≡ front ++ key ∷ back → path ≡ front ++ fresh ∷ []
    pub added : IsAdded old new fresh item

  -- each item that no path has any more is gone, and each other item is unchanged
  pub record IsReleased (old new : Family X) : Type 0 where
    pub kept : (i k : ℕ) → has k (path_in new i) ≡ true → item_at new k ≡ item_at old k
    pub gone : (k : ℕ) → ((i : ℕ) → has k (path_in new i) ≡ false) → item_at new k ≡ None

  -- the path at an index has these items, all of them new, instead of its old ones; each item that
  -- is then on no path is gone, and all other items and paths are unchanged
  pub record IsExchanged (old new : Family X) (path : ℕ) (items : List X) : Type 0 where
    pub keys : List ℕ
    pub paths : new.paths ≡ slice_set old.paths path keys
    pub items_are : map (item_at new) keys ≡ map Some items
    pub fresh : (k : ℕ) → has k keys ≡ true → item_at old k ≡ None
    pub kept : (i k : ℕ) → has k (path_in new i) ≡ true → has k keys ≡ false → item_at new k ≡ item_at old k
    pub gone : (k : ℕ) → ((i : ℕ) → has k (path_in new i) ≡ false) → item_at new k ≡ None

  -- the path at an index has a last key, which no other path has
  pub record EndsAlone (f : Family X) (path : ℕ) : Type 0 where
    pub key : ℕ
    pub last : last_of (path_in f path) ≡ Some key
    pub own : (j : ℕ) → j ≢ path → has key (path_in f j) ≡ false

  -- the invariant of a lineage: each key of a path has an item, each item is on a path, and paths
  -- that share a key share all keys before it, so that no key is twice in a path
  pub record IsFamily (f : Family X) : Type 0 where
    pub held : (i k : ℕ) → has k (path_in f i) ≡ true → IsSome (item_at f k)
    pub live : (k : ℕ) → IsSome (item_at f k) → (i : ℕ) × (has k (path_in f i) ≡ true)
    pub shared : (i j k : ℕ) (front back front2 back2 : List ℕ) → path_in f i ≡ front ++ k ∷ back → path_in f j ≡ front2 ++ k ∷ back2 → front ≡ front2
