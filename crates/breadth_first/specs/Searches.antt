-- What a search keeps: of each node a key, whether it is a goal, and a mark; in the queue the node.
use Rattle.std.specs.Prelude.{◌≡◌, ℕ, ◌+◌, ◌<◌, Bool, true, false, List, [], ◌∷◌, ◌++◌, Some, length, map, drop, slice_get}
use Rattle.std.specs.List.{list_any}
use Rattle.breadth_first.specs.declared.mark.Mark.{Mark}
use Rattle.breadth_first.specs.Paths.{IsExpanding, IsFollowed, IsAllReached}
use Rattle.breadth_first.specs.Graph.{GraphOf}

module _ {N K : Type 0} (g : GraphOf N K) where
  module _ (eq_key : K → K → Bool) where
    -- a node whose key was there isn't noted again
    pub record IsOldNode (node : N) (keys new_keys : List K) (goals new_goals : List Bool) (marks new_marks : List Mark) (queue new_queue : List N) : Type 0 where
      pub old : list_any (eq_key (g.key node)) keys ≡ true
      pub keys_stay : new_keys ≡ keys
      pub goals_stay : new_goals ≡ goals
      pub marks_stay : new_marks ≡ marks
      pub queue_stays : new_queue ≡ queue

    -- a node whose key wasn't there is noted, and waits in the queue
    pub record IsNewNode (node : N) (mark : Mark) (most : ℕ) (keys new_keys : List K) (goals new_goals : List Bool) (marks new_marks : List Mark) (queue new_queue : List N) : Type 0 where
      pub new : list_any (eq_key (g.key node)) keys ≡ false
      pub room : length keys < most
      pub keys_grow : new_keys ≡ keys ++ g.key node ∷ []
      pub goals_grow : new_goals ≡ goals ++ g.is_goal node ∷ []
      pub marks_grow : new_marks ≡ marks ++ mark ∷ []
      pub queue_grows : new_queue ≡ queue ++ node ∷ []

  module _ (eq : N → N → Bool) (Holds : N → Type 0) where
    -- the keys and the goals are those of these nodes
    pub record AreKeysOf (nodes : List N) (keys : List K) (goals : List Bool) : Type 0 where
      pub by_key : keys ≡ map g.key nodes
      pub by_goal : goals ≡ map g.is_goal nodes
      pub hold : (i : ℕ) (x : N) → slice_get nodes i ≡ Some x → Holds x

    -- the nodes before index `at` are expanded; those from index `from` on wait in the queue
    pub record IsSearching (nodes : List N) (keys : List K) (goals : List Bool) (marks : List Mark) (queue : List N) (from at : ℕ) : Type 0 where
      pub expanding : IsExpanding g.labels g.move eq nodes marks at
      pub first : slice_get nodes 0 ≡ Some g.origin
      pub kept : AreKeysOf nodes keys goals
      pub waiting : queue ≡ drop from nodes

    -- a search of some nodes
    pub record IsSearch (keys : List K) (goals : List Bool) (marks : List Mark) (queue : List N) (from at : ℕ) : Type 0 where
      pub nodes : List N
      pub searching : IsSearching nodes keys goals marks queue from at

    -- a search of some nodes, of which x, at index `at`, is being expanded, and isn't in the queue
    pub record IsSearchAt (x : N) (keys : List K) (goals : List Bool) (marks : List Mark) (queue : List N) (at : ℕ) : Type 0 where
      pub nodes : List N
      pub here : slice_get nodes at ≡ Some x
      pub searching : IsSearching nodes keys goals marks queue (at + 1) at

    -- the move by the label l from the node at index `at` is followed: the search after it,
    -- with keys, goals and queue (`IsFollowed` is of nodes and marks alone)
    pub record IsSearchAfter (nodes : List N) (marks : List Mark) (new_keys : List K) (new_goals : List Bool) (new_marks : List Mark) (new_queue : List N) (at l : ℕ) : Type 0 where
      pub new_nodes : List N
      pub searching : IsSearching new_nodes new_keys new_goals new_marks new_queue (at + 1) at
      pub followed : IsFollowed g.labels g.move eq nodes marks new_nodes new_marks at l

    -- all nodes that are reachable: their keys, whether each is a goal, and how it was discovered
    pub record IsWholeSearch (keys : List K) (goals : List Bool) (marks : List Mark) : Type 0 where
      pub nodes : List N
      pub kept : AreKeysOf nodes keys goals
      pub all : IsAllReached g.labels g.move eq g.origin nodes marks
