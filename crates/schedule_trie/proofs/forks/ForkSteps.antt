-- A fork, in terms of the fields.
use Rattle.std.proofs.Common.{◌≡◌, ℕ, ◌+◌, ◌<◌, nat_eq, List, [], ◌∷◌, ◌++◌, length, map, take, position, Option, Some, None, IsSome, refl, sym, ap, subst, ◌∙◌, append_assoc}
use Rattle.std.specs.Cmp.Lexicographic.{pointwise}
use Rattle.std.specs.Map.{keys_of}
use Rattle.std.proofs.lemmas.List.{map-append, length_push}
use Rattle.std.proofs.Math.Seq.{take-append_seam}
use Rattle.indexmap.specs.IndexMap.{insert_entry}
use Rattle.indexmap.proofs.MapLemmas.{Missing-position, insert_entry-absent}
use Rattle.std.specs.Option.{IfSome}
use Rattle.lineage.specs.Family.{Family, item_at, path_in, IsForked}
use Rattle.schedule_trie.specs.declared.trie.Trie.TheInside.{Inside}
use Rattle.branch_terms.specs.Forest.{index_of, name_of}
use Rattle.schedule_trie.specs.Trie.{TrieOf, keyed_branch, forest, segment_at, line, branches_on, keys_in, IsWhole}
use Rattle.schedule_trie.specs.Climbs.{keys_to, HasClimbedTo}
use Rattle.schedule_trie.specs.TrieFields.{segments_of, keyed_branches, names_of, trie_of, IsWholeWithPaths}
use Rattle.schedule_trie.specs.changes.Forks.{IsBranchForked, IsForkedWhole}
use Rattle.schedule_trie.proofs.lists.KeyPositions.{parting}
use Rattle.schedule_trie.proofs.forks.Forks.{with_front, front_whole, front_forked}
use Rattle.schedule_trie.proofs.segments.StepSet.{item_there}
use Rattle.schedule_trie.proofs.branches.KeyedBranches.{names_on, keys_in-keyed_branches, keyed_branches-last}
use Rattle.schedule_trie.proofs.lists.LastKeys.{empty_from_no_last}

-- a branch with a new name is added last, with the first `count` keys of the branch at `index`
module _ {T : Type 0} (c : TrieOf T) (u : Inside T) (name : List ℕ) (index count : ℕ) (es : List (List ℕ × Option ℕ)) (paths : List (List ℕ)) (path : List ℕ) (v : Option ℕ)
    (branches : keyed_branches (keys_of es) paths ≡ c.branches) (as_many : length paths ≡ length (keys_of es))
    (segments : segments_of u.segments.items ≡ c.segments) (made : u.made ≡ c.made) (limits : u.limits ≡ c.limits)
    (free : index_of (forest c).branches name ≡ None) (path_is : path ≡ take count (keys_in c.branches index))
    (all : u.segments.paths ≡ paths ++ path ∷ []) (entries : u.branches.entries ≡ insert_entry (pointwise nat_eq) es name v) where
  absent : position (pointwise nat_eq name) (keys_of es) ≡ None
  absent =
      ap (position (pointwise nat_eq name)) (sym (names_on (segment_at c.segments) (keys_of es) paths))
      ∙ ap (λ l. position (pointwise nat_eq name) (map name_of (branches_on (segment_at c.segments) l))) branches ∙ free

  names : names_of u ≡ keys_of es ++ name ∷ []
  names =
      ap keys_of (entries ∙ insert_entry-absent (pointwise nat_eq) name v es (Missing-position (pointwise nat_eq name) es absent).absent)
      ∙ map-append (λ e. e.0) es ((name, v) ∷ [])

  last : (trie_of u).branches ≡ c.branches ++ keyed_branch name (take count (keys_in c.branches index)) ∷ []
  last =
      (λ i. keyed_branches (names i) (all i)) ∙ keyed_branches-last (keys_of es) paths name path as_many
      ∙ (λ i. branches i ++ keyed_branch name (path_is i) ∷ [])

  fork_seen : trie_of u ≡ with_front c name index count
  fork_seen = λ i. record { branches = last i; segments = segments i; made = made i; limits = limits i }

  -- the fork has all keys, if the first `count` keys are all of them
  pub fork_whole : take count (keys_in c.branches index) ≡ keys_in c.branches index → IsForkedWhole c (trie_of u) index name
  fork_whole every = record { branches = last ∙ ap (λ l. c.branches ++ keyed_branch name l ∷ []) every; segments = segments }

  many : length u.segments.paths ≡ length (names_of u)
  many = ap length all ∙ length_push paths path ∙ ap (λ n. n + 1) as_many ∙ sym (ap length names ∙ length_push (keys_of es) name)

  module _ (whole : IsWhole c) (room : length c.branches < c.limits.branches) where
    pub fork_held : IsWholeWithPaths u
    fork_held = record { whole = subst IsWhole (sym fork_seen) (front_whole c name index count whole room); paths = many }

    pub is_branch_forked : (place : ℕ) → length (line (segment_at c.segments) (take count (keys_in c.branches index))) ≡ place → IsBranchForked c (trie_of u) index place name
    is_branch_forked place e = subst (λ d. IsBranchForked c d index place name) (sym fork_seen) (front_forked c name index count whole room place e)

-- the keys down to `last` are the first n keys, n being their number
pub taken_to : (keys : List ℕ) (last : Option ℕ) → HasClimbedTo keys last → keys_to keys last ≡ take (length (keys_to keys last)) keys
taken_to keys None h = refl
taken_to keys (Some key) h =
    let p = parting keys key h in
    let parts : keys ≡ (p.front ++ key ∷ []) ++ p.back = p.is ∙ sym (append_assoc p.front (key ∷ []) p.back) in
    p.to ∙ sym (take-append_seam (p.front ++ key ∷ []) p.back) ∙ ap (take (length (p.front ++ key ∷ []))) (sym parts) ∙ ap (λ l. take (length l) keys) (sym p.to)

module _ {X : Type 0} (old new : Family X) (index : ℕ) (key : Option ℕ) (forked : IsForked old new key) where
  pub path_forked : HasClimbedTo (path_in old index) key → forked.path ≡ take (length (keys_to (path_in old index) key)) (path_in old index)
  path_forked h = by key forked h
    where
      by : (key : Option ℕ) (forked : IsForked old new key) → HasClimbedTo (path_in old index) key → forked.path ≡ take (length (keys_to (path_in old index) key)) (path_in old index)
      by None forked h = empty_from_no_last forked.path forked.last
      by (Some k) forked h =
          let p = parting (path_in old index) k h in
          forked.shared k index p.front p.back refl p.is ∙ sym p.to ∙ taken_to (path_in old index) (Some k) h

pub reached_there : {T : Type 0} (t : Inside T) (index : ℕ) (last : Option ℕ) → IsWholeWithPaths t → HasClimbedTo (keys_in (trie_of t).branches index) last
    → IfSome last (λ k. IsSome (item_at t.segments k))
reached_there t index None held h = tt
reached_there t index (Some k) held h = item_there t k (held.whole.sound.held index k h)

-- a fork down to the end of a segment of a branch, or with no segment
module _ {T : Type 0} (t u : Inside T) (name : List ℕ) (index : ℕ) (last : Option ℕ) (more : Option ℕ) (held : IsWholeWithPaths t)
    (room : length (trie_of t).branches < (trie_of t).limits.branches) (free : index_of (forest (trie_of t)).branches name ≡ None)
    (reached : HasClimbedTo (keys_in (trie_of t).branches index) last) (forked : IsForked t.segments u.segments last)
    (entries : u.branches.entries ≡ insert_entry (pointwise nat_eq) t.branches.entries name more) (made : u.made ≡ t.made) (limits : u.limits ≡ t.limits) where
  abbrev keys : List ℕ
  keys = keys_in (trie_of t).branches index

  same : keys ≡ path_in t.segments index
  same = keys_in-keyed_branches (names_of t) t.segments.paths index held.paths

  abbrev count : ℕ
  count = length (keys_to keys last)

  path : forked.path ≡ take count keys
  path =
      path_forked t.segments u.segments index last forked (subst (λ l. HasClimbedTo l last) same reached)
      ∙ ap (λ l. take (length (keys_to l last)) l) (sym same)

  pub held_after_fork : IsWholeWithPaths u
  held_after_fork = fork_held (trie_of t) u name index count t.branches.entries t.segments.paths forked.path more refl held.paths (ap segments_of forked.items) made limits free path forked.paths entries
      held.whole room

  pub is_forked_at_end : IsBranchForked (trie_of t) (trie_of u) index (length (line (segment_at (trie_of t).segments) (keys_to keys last))) name
  is_forked_at_end = is_branch_forked (trie_of t) u name index count t.branches.entries t.segments.paths forked.path more refl held.paths (ap segments_of forked.items) made limits free path forked.paths entries
      held.whole room (length (line (segment_at (trie_of t).segments) (keys_to keys last))) (ap (λ l. length (line (segment_at (trie_of t).segments) l)) (sym (taken_to keys last reached)))

  pub is_forked_whole : keys_to keys last ≡ keys → IsForkedWhole (trie_of t) (trie_of u) index name
  is_forked_whole every = fork_whole (trie_of t) u name index count t.branches.entries t.segments.paths forked.path more refl held.paths (ap segments_of forked.items) made limits free path forked.paths entries
      (sym (taken_to keys last reached) ∙ every)
