-- Which nodes a graph's moves reach, and what a search of it must find.
use Rattle.std.specs.Prelude.{◌≡◌, ℕ, zero, suc, ◌+◌, ◌<◌, ◌≤◌, Bool, true, List, [], ◌∷◌, Option, Some, length, slice_get, slice_index_or}
use Rattle.std.specs.List.{IsDistinct}
use Rattle.breadth_first.specs.declared.mark.Mark.{Mark}

-- the mark of the start, to which no move is needed
abbrev pub mark_of_start : Mark
mark_of_start = record { parent = 0; label = 0; depth = 0 }

-- the mark at index i; that of the start if there is none
abbrev pub noted_mark : List Mark → ℕ → Mark
noted_mark marks i = slice_index_or marks i mark_of_start

-- the number of moves noted at index i
abbrev pub depth_at : List Mark → ℕ → ℕ
depth_at marks i = (noted_mark marks i).depth

module _ {N : Type 0} (labels : ℕ) (move : N → ℕ → Option N) where
  -- a label leads from x to y
  abbrev pub Moves : N → N → Type 0
  Moves x y = (l : ℕ) × ((l < labels) × (move x l ≡ Some y))

  -- n moves lead from start to y
  abbrev pub Reaches : N → ℕ → N → Type 0
  Reaches start zero y = y ≡ start
  Reaches start (suc n) y = (x : N) × (Reaches start n x × Moves x y)

  -- the noted label leads from the noted parent, which is earlier, to the node k at index i, which
  -- is one deeper
  pub record IsMade (nodes : List N) (marks : List Mark) (i : ℕ) (k : N) : Type 0 where
    pub parent : N
    pub earlier : (noted_mark marks i).parent < i
    pub stored : slice_get nodes (noted_mark marks i).parent ≡ Some parent
    pub labelled : (noted_mark marks i).label < labels
    pub made : move parent (noted_mark marks i).label ≡ Some k
    pub deeper : depth_at marks i ≡ depth_at marks (noted_mark marks i).parent + 1

  -- each node but the first is made from an earlier one
  pub record IsTrail (nodes : List N) (marks : List Mark) : Type 0 where
    pub marked : length marks ≡ length nodes
    pub first : depth_at marks 0 ≡ 0
    pub made : (i : ℕ) (k : N) → 0 < i → slice_get nodes i ≡ Some k → IsMade nodes marks i k

  -- the marks' labels, one after another, lead from x to y; each mark names the node it leads from
  abbrev pub LeadsBy : List N → N → List Mark → N → Type 0
  LeadsBy nodes x [] y = y ≡ x
  LeadsBy nodes x (m ∷ path) y = (z : N) × (((slice_get nodes m.parent ≡ Some x) × ((m.label < labels) × (move x m.label ≡ Some z))) × LeadsBy nodes z path y)

  module _ (eq : N → N → Bool) where
    -- a node equal to y is found, at most d moves from the start
    pub record IsFound (nodes : List N) (marks : List Mark) (y : N) (d : ℕ) : Type 0 where
      pub index : ℕ
      pub node : N
      pub stored : slice_get nodes index ≡ Some node
      pub same : eq y node ≡ true
      pub within : depth_at marks index ≤ d

    -- all moves from the nodes before index `at` are followed, and maybe some from the node at it
    pub record IsExpanding (nodes : List N) (marks : List Mark) (at : ℕ) : Type 0 where
      pub trail : IsTrail nodes marks
      pub distinct : IsDistinct eq nodes
      pub sorted : (i j : ℕ) → i ≤ j → j < length nodes → depth_at marks i ≤ depth_at marks j
      pub near : (j : ℕ) → at < length nodes → j < length nodes → depth_at marks j ≤ depth_at marks at + 1
      pub expanded : (i : ℕ) (k : N) → i < at → slice_get nodes i ≡ Some k → (y : N) → Moves k y
          → IsFound nodes marks y (depth_at marks i + 1)

    -- the move by the label l from the node at index `at` is followed: nodes and marks after it
    pub record IsFollowed (nodes : List N) (marks : List Mark) (new_nodes : List N) (new_marks : List Mark) (at l : ℕ) : Type 0 where
      pub expanding : IsExpanding new_nodes new_marks at
      pub grown : (i : ℕ) (x : N) → slice_get nodes i ≡ Some x → slice_get new_nodes i ≡ Some x
      pub kept : (y : N) (d : ℕ) → IsFound nodes marks y d → IsFound new_nodes new_marks y d
      pub depth : depth_at new_marks at ≡ depth_at marks at
      pub discovered : (x y : N) → slice_get nodes at ≡ Some x → move x l ≡ Some y → IsFound new_nodes new_marks y (depth_at marks at + 1)

    -- All is found: each node found is reached by as many moves as are noted, along its parents;
    -- and whatever is reached by n moves is found, with at most n.
    pub record IsAllReached (start : N) (nodes : List N) (marks : List Mark) : Type 0 where
      pub starts : slice_get nodes 0 ≡ Some start
      pub trail : IsTrail nodes marks
      pub distinct : IsDistinct eq nodes
      pub sorted : (i j : ℕ) → i ≤ j → j < length nodes → depth_at marks i ≤ depth_at marks j
      pub sound : (i : ℕ) (k : N) → slice_get nodes i ≡ Some k → Reaches start (depth_at marks i) k
      pub complete : (n : ℕ) (y : N) → Reaches start n y → IsFound nodes marks y n

    -- more than `most` nodes are reachable, none equal to another
    pub record AreTooMany (start : N) (most : ℕ) : Type 0 where
      pub nodes : List N
      pub distinct : IsDistinct eq nodes
      pub reached : (i : ℕ) (k : N) → slice_get nodes i ≡ Some k → (n : ℕ) × Reaches start n k
      pub many : most < length nodes
