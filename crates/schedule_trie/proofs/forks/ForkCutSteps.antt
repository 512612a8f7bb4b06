-- A fork inside a segment, in terms of the fields.
use Rattle.std.proofs.Common.{◌≡◌, ℕ, ◌+◌, ◌-◌, ◌<◌, nat_eq, List, [], ◌∷◌, ◌++◌, length, map, take, drop, get_or, set, Option, Some, None, IsSome, refl, sym, ap, subst, ◌∙◌, arith}
use Rattle.std.specs.Cmp.Lexicographic.{pointwise}
use Rattle.std.specs.Global.{Vec}
use Rattle.std.proofs.lemmas.List.{length-append, length-map, length-take-le, take-append-drop}
use Rattle.std.proofs.Math.Seq.{take-append_seam}
use Rattle.indexmap.specs.IndexMap.{insert_entry}
use Rattle.lineage.specs.Family.{Family, item_at, path_in, divided_keys, IsForkedAbove}
use Rattle.branch_terms.specs.declared.slot.Slot.{Slot}
use Rattle.schedule_trie.specs.declared.segment.Segment.{Segment}
use Rattle.schedule_trie.specs.declared.trie.Trie.TheInside.{Inside}
use Rattle.branch_terms.specs.Forest.{branch, index_of, slots_in}
use Rattle.schedule_trie.specs.Trie.{TrieOf, SegmentOf, segment, segment_at, slots_of, line, forest, keys_in, IsParted, IsWhole, divided_branch}
use Rattle.schedule_trie.specs.TrieFields.{segments_of, names_of, trie_of, IsWholeWithPaths}
use Rattle.schedule_trie.specs.changes.Forks.{IsBranchForked}
use Rattle.schedule_trie.proofs.segments.Division.{Divides, notes-divided}
use Rattle.schedule_trie.proofs.segments.DivisionSteps.{divides_from}
use Rattle.schedule_trie.proofs.forks.ForkCuts.{cut, cut_whole, same_branches, cut_front, cut_line}
use Rattle.schedule_trie.proofs.forks.ForkSteps.{fork_held, is_branch_forked}
use Rattle.schedule_trie.proofs.edits.InsertSteps.{unnoted}
use Rattle.schedule_trie.proofs.segments.Notes.{notes_but}
use Rattle.schedule_trie.proofs.segments.CellHolders.{one_holder}
use Rattle.schedule_trie.proofs.branches.KeyedBranches.{keys_in-keyed_branches, keyed_branches-divided}
use Rattle.schedule_trie.proofs.segments.TouchedSegments.{parted}

-- what has cells is a segment
some_from_slots : {T : Type 0} (o : Option (SegmentOf T)) (n : ℕ) → n < length (slots_of o) → IsSome o
some_from_slots None n h = absurd (omega arith)
some_from_slots (Some p) n h = refl

get_or-here : (front back : List ℕ) (key : ℕ) → get_or (front ++ key ∷ back) (length front) 0 ≡ key
get_or-here [] back key = refl
get_or-here (f ∷ fs) back key = get_or-here fs back key

module _ {T : Type 0} (t u : Inside T) (mid : Family (Segment T)) (name : List ℕ) (index key new rest : ℕ) (front back : List ℕ)
    (above below : Vec Slot) (v w : Segment T) (more : Option ℕ) (held : IsWholeWithPaths t) (room : length (trie_of t).branches < (trie_of t).limits.branches)
    (free : index_of (forest (trie_of t)).branches name ≡ None) (made : u.made ≡ t.made) (limits : u.limits ≡ t.limits)
    (parting : keys_in (trie_of t).branches index ≡ front ++ key ∷ back) (some : 0 < rest) (within : rest < length (slots_of (segment_at (trie_of t).segments key)))
    (forked : IsForkedAbove t.segments mid key new (unnoted above)) (there : item_at mid key ≡ Some v) (after : u.segments.items ≡ set mid.items key (Some w))
    (slots : w.slots ≡ below) (note : w.note ≡ None) (paths : u.segments.paths ≡ mid.paths)
    (first : above.items ≡ take rest (slots_of (segment_at (trie_of t).segments key))) (second : below.items ≡ drop rest (slots_of (segment_at (trie_of t).segments key)))
    (entries : u.branches.entries ≡ insert_entry (pointwise nat_eq) t.branches.entries name more) where
  abbrev c : TrieOf T
  c = trie_of t

  abbrev count : ℕ
  count = length front

  front_is : take count (keys_in c.branches index) ≡ front
  front_is = ap (take count) parting ∙ take-append_seam front (key ∷ back)

  inside : count < length (keys_in c.branches index)
  inside = let whole : length (keys_in c.branches index) ≡ count + length (key ∷ back) = ap length parting ∙ length-append front (key ∷ back) in omega (arith, whole)

  at_key : key ≡ get_or (keys_in c.branches index) count 0
  at_key = sym (ap (λ l. get_or l count 0) parting ∙ get_or-here front back key)

  divides : Divides (segment_at c.segments) (segment_at (segments_of u.segments.items)) key new (segment above.items None) (segment below.items None)
  divides = divides_from t u mid key new (unnoted above) v w below.items (some_from_slots (segment_at c.segments key) rest within) forked.added there after (ap (λ z. z.items) slots) note

  parts : above.items ++ below.items ≡ slots_of (segment_at c.segments key)
  parts = (λ i. first i ++ second i) ∙ take-append-drop rest (slots_of (segment_at c.segments key))

  len : length above.items ≡ rest
  len = ap length first ∙ length-take-le rest (slots_of (segment_at c.segments key)) (omega arith)

  abbrev middle : TrieOf T
  middle = cut c (segments_of u.segments.items) index count key new rest (segment above.items None) (segment below.items None) held.whole inside at_key divides parts len some within

  middle_whole : IsWhole middle
  middle_whole = cut_whole c (segments_of u.segments.items) index count key new rest (segment above.items None) (segment below.items None) held.whole inside at_key divides parts len some within

  same : (forest middle).branches ≡ (forest c).branches
  same = same_branches c (segments_of u.segments.items) index count key new rest (segment above.items None) (segment below.items None) held.whole inside at_key divides parts len some within

  path : path_in t.segments index ≡ front ++ key ∷ back
  path = sym (keys_in-keyed_branches (names_of t) t.segments.paths index held.paths) ∙ parting

  path_now : forked.path ≡ take (count + 1) (keys_in middle.branches index)
  path_now =
      forked.shared index front back path ∙ ap (λ l. l ++ new ∷ []) (sym front_is)
      ∙ sym (cut_front c (segments_of u.segments.items) index count key new rest (segment above.items None) (segment below.items None) held.whole inside at_key divides parts len some within)

  free_now : index_of (forest middle).branches name ≡ None
  free_now = ap (λ l. index_of l name) same ∙ free

  room_now : length middle.branches < c.limits.branches
  room_now = subst (λ n. n < c.limits.branches) (sym (length-map c.branches (divided_branch key new))) room

  as_many : length (map (divided_keys key new) t.segments.paths) ≡ length (names_of t)
  as_many = length-map t.segments.paths (divided_keys key new) ∙ held.paths

  cut_fork_held : IsWholeWithPaths u
  cut_fork_held = fork_held middle u name index (count + 1) t.branches.entries (map (divided_keys key new) t.segments.paths) forked.path more
      (keyed_branches-divided key new (names_of t) t.segments.paths) as_many refl made limits free_now path_now (paths ∙ forked.paths) entries middle_whole room_now

  abbrev place : ℕ
  place = length (line (segment_at c.segments) front) + rest

  middle_forked : IsBranchForked middle (trie_of u) index place name
  middle_forked = is_branch_forked middle u name index (count + 1) t.branches.entries (map (divided_keys key new) t.segments.paths) forked.path more
      (keyed_branches-divided key new (names_of t) t.segments.paths) as_many refl made limits free_now path_now (paths ∙ forked.paths) entries middle_whole room_now place
      (cut_line c (segments_of u.segments.items) index count key new rest (segment above.items None) (segment below.items None) held.whole inside at_key divides parts len some within
      ∙ ap (λ l. length (line (segment_at c.segments) l) + rest) front_is)

  is_forked_in_segment : IsBranchForked c (trie_of u) index place name
  is_forked_in_segment = record {
    branches = middle_forked.branches ∙ ap (λ l. l ++ branch name (take place (slots_in l index)) ∷ []) same;
    made = middle_forked.made;
    limits = middle_forked.limits;
    notes = λ source found.
        let here : IsParted c source place key = subst (IsParted c source place) (sym at_key)
        (parted c source index found count rest place inside some (subst (λ k. rest < length (slots_of (segment_at c.segments k))) at_key within)
        (ap (λ l. length (line (segment_at c.segments) l) + rest) front_is)) in
        notes_but c (trie_of u) key (IsParted c source place) (IsParted c source place)
        (notes-divided c (trie_of u) key new (segment above.items None) (segment below.items None) divides refl refl)
        (λ k h. one_holder c source place k key held.whole.sound h.below here.below) here;
    cut = middle_forked.cut;
  }

  pub cut_fork : IsWholeWithPaths u × IsBranchForked c (trie_of u) index place name
  cut_fork = (cut_fork_held, is_forked_in_segment)
