-- The fields of a lineage (nodes and tips), and the items and paths that they represent.
use Rattle.std.specs.Prelude.{[], ◌∷◌, ◌++◌, ◌⊎◌, ◌≡◌, ℕ, ◌+◌, ◌-◌, ◌<◌, ◌^◌, Bool, true, false, nat_eq, nat_le, if◌then◌else◌, List, Option, Some, None, is_some, map, reverse, length, slice_index_or}
use Rattle.std.specs.List.{count_by}
use Rattle.lineage.specs.declared.node.Node.{Node}
use Rattle.lineage.specs.declared.lineage.Lineage.TheInside.{Inside}
use Rattle.lineage.specs.Family.{Family, has}
use Rattle.lineage.specs.Climbs.{IsClimb, climb, Ends}

-- the tip (last key) of the path at an index; None if it has no key, or if there is no such path
abbrev pub tip_at : List (Option ℕ) → ℕ → Option ℕ
tip_at tips i = slice_index_or tips i None

-- whether a link is to key k; None is a link to no key
abbrev pub is_key : ℕ → Option ℕ → Bool
is_key k None = false
is_key k (Some j) = nat_eq k j

-- whether a key has an item and its link is to key k; the second argument is that link, or None if
-- the key has no item
abbrev pub is_above : ℕ → Option (Option ℕ) → Bool
is_above k None = false
is_above k (Some next) = is_key k next

-- a link once `key` is taken out: a link to `key` becomes `above`, which is the link of `key`; any
-- other link stays
abbrev pub past : ℕ → Option ℕ → Option ℕ → Option ℕ
past key above None = None
past key above (Some k) = if nat_eq key k then above else Some k

module _ {X : Type 0} where
  -- the node with this item, this link and this number of holders
  abbrev pub node : X → Option ℕ → ℕ → Node X
  node item above holders = record { item = item; above = above; holders = holders }

  -- the node at a key, if there is one
  abbrev pub node_at : List (Option (Node X)) → ℕ → Option (Node X)
  node_at s k = slice_index_or s k None

  -- the item of a node, if there is a node
  abbrev pub item_in : Option (Node X) → Option X
  item_in None = None
  item_in (Some n) = Some n.item

  -- the link of a node, if there is a node; the link is None if it is to no key
  abbrev pub link_in : Option (Node X) → Option (Option ℕ)
  link_in None = None
  link_in (Some n) = Some n.above

  -- the link of the node at key k, if there is a node
  abbrev pub link_at : List (Option (Node X)) → ℕ → Option (Option ℕ)
  link_at s k = link_in (node_at s k)

  -- the key `at`, the key that it links to, and so on, but at most `length s` keys; stops before a
  -- key without a node
  abbrev pub keys_up : List (Option (Node X)) → Option ℕ → List ℕ
  keys_up s at = climb (link_at s) (length s) at

  -- the keys of the path that ends with `at`, from the first down
  abbrev pub path_to : List (Option (Node X)) → Option ℕ → List ℕ
  path_to s at = reverse (keys_up s at)

  -- whether there is a node and it links to key k
  abbrev pub links_to_key : ℕ → Option (Node X) → Bool
  links_to_key k o = is_above k (link_in o)

  -- the number of tips (last keys of paths) and nodes that link to key k
  abbrev pub holders_of : List (Option (Node X)) → List (Option ℕ) → ℕ → ℕ
  holders_of s tips k = count_by (is_key k) tips + count_by (links_to_key k) s

  -- a node, with one more holder if the first argument is true
  abbrev pub with_holder : Bool → Option (Node X) → Option (Node X)
  with_holder b None = None
  with_holder false (Some n) = Some n
  with_holder true (Some n) = Some (node n.item n.above (n.holders + 1))

  -- the node of a new item that is put right above a node: it gets that node's link, and has one
  -- holder
  abbrev pub node_over : X → Option (Node X) → Option (Node X)
  node_over item None = None
  node_over item (Some n) = Some (node item n.above 1)

  -- a node once it links to `key`, the key of a new node right above it
  abbrev pub node_under : ℕ → Option (Node X) → Option (Node X)
  node_under key None = None
  node_under key (Some n) = Some (node n.item (Some key) n.holders)

  -- a node with one holder less; None if it has no holder left
  abbrev pub without_holder : Option (Node X) → Option (Node X)
  without_holder None = None
  without_holder (Some n) = if nat_le n.holders 1 then None else Some (node n.item n.above (n.holders - 1))

  -- when this node loses a holder, the key whose node loses a holder next: this node's link if the
  -- holder was its last, so that this node is dropped; otherwise None
  abbrev pub next_up : Option (Node X) → Option ℕ
  next_up None = None
  next_up (Some n) = if nat_le n.holders 1 then n.above else None

  -- a node once `key` is taken out: if it linked to `key`, it now has the link of `key`, which is
  -- `above`
  abbrev pub past_node : ℕ → Option ℕ → Option (Node X) → Option (Node X)
  past_node key above None = None
  past_node key above (Some n) = Some (node n.item (past key above n.above) n.holders)

  -- this node once another node is taken out: if the first argument is true, the other node linked
  -- to this node, so this node loses one holder and gets the `others` holders of the other node; if
  -- it is false, this node is unchanged
  abbrev pub passed_on : Bool → ℕ → Option (Node X) → Option (Node X)
  passed_on b others None = None
  passed_on false others (Some n) = Some n
  passed_on true others (Some n) = Some (node n.item n.above (n.holders - 1 + others))

  -- each node in `new` is in `old` at the same key, with the same item and the same link
  abbrev pub Stays : List (Option (Node X)) → List (Option (Node X)) → Type 0
  Stays old new =
      (k : ℕ) (n : Node X) → node_at new k ≡ Some n → (m : Node X) × ((node_at old k ≡ Some m) × ((n.item ≡ m.item) × (n.above ≡ m.above)))

  -- key k is on a path: `up` are the keys of this path from the last one up, and k is one of them
  pub record IsOn (s : List (Option (Node X))) (tips : List (Option ℕ)) (k : ℕ) : Type 0 where
    pub path : ℕ
    pub up : List ℕ
    pub is : IsClimb (link_at s) (tip_at tips path) up
    pub on : has k up ≡ true

  -- the invariant of nodes and tips: from each tip, links lead up to a key that links to none; each
  -- node is on a path, and its number of holders is that of the tips and nodes that link to it; and
  -- there are fewer than 2^64 tips and nodes together, so that a word can count holders
  pub record IsSoundFamily (s : List (Option (Node X))) (tips : List (Option ℕ)) : Type 0 where
    pub ends : (i : ℕ) → Ends (link_at s) (tip_at tips i)
    pub live : (k : ℕ) (n : Node X) → node_at s k ≡ Some n → IsOn s tips k
    pub counted : (k : ℕ) (n : Node X) → node_at s k ≡ Some n → n.holders ≡ holders_of s tips k
    pub few : length tips + count_by is_some s < 2 ^ 64

  -- The state while nodes of a dropped path are released; the node at `at` is the next of them.
  -- That node counts one holder too many, and that node and the nodes above it may be on no path.
  -- Otherwise nodes and tips are as `IsSoundFamily` says. Each node that is left has the item and
  -- the link that it has in `first`.
  pub record IsReleasing (first s : List (Option (Node X))) (tips : List (Option ℕ)) (at : Option ℕ) : Type 0 where
    pub ends : (i : ℕ) → Ends (link_at s) (tip_at tips i)
    pub going : Ends (link_at s) at
    pub live : (k : ℕ) (n : Node X) → node_at s k ≡ Some n → IsOn s tips k ⊎ (has k going.up ≡ true)
    pub counted : (k : ℕ) (n : Node X) → node_at s k ≡ Some n → n.holders ≡ holders_of s tips k + (if is_key k at then 1 else 0)
    pub few : length tips + count_by is_some s < 2 ^ 64
    pub stays : Stays first s

  -- a path of new nodes with these items is added at the end of the list of paths, and all other
  -- nodes and paths are unchanged; s and `tips` are the nodes and tips before, t and `new` those
  -- after
  pub record IsPathAdded (s t : List (Option (Node X))) (tips new : List (Option ℕ)) (items : List X) : Type 0 where
    pub sound : IsSoundFamily t new
    pub tip : Option ℕ
    pub tips_are : new ≡ tips ++ tip ∷ []
    pub there : (k : ℕ) → has k (path_to t tip) ≡ true → (n : Node X) × (node_at t k ≡ Some n)
    pub fresh : (k : ℕ) → has k (path_to t tip) ≡ true → node_at s k ≡ None
    pub items_are : map (λ k. item_in (node_at t k)) (path_to t tip) ≡ map Some items
    pub kept : (k : ℕ) (n : Node X) → node_at s k ≡ Some n → node_at t k ≡ Some n
    pub others : (k : ℕ) → has k (path_to t tip) ≡ false → node_at t k ≡ node_at s k

  -- what nodes and tips represent: the item of each node, and the path that ends with each tip
  abbrev pub family_on : List (Option (Node X)) → List (Option ℕ) → Family X
  family_on s tips = record { items = map item_in s; paths = map (path_to s) tips }

  -- the items and paths that contracts see of a lineage with these fields
  abbrev pub family_of : Inside X → Family X
  family_of t = family_on t.nodes.slots t.tips.items

  -- the invariant of a lineage's fields: their nodes and tips are as `IsSoundFamily` says
  abbrev pub IsSoundLineage : Inside X → Type 0
  IsSoundLineage t = IsSoundFamily t.nodes.slots t.tips.items
