-- Cached lengths after each edit.
use Rattle.std.proofs.Common.{◌≡◌, ℕ, ◌<◌, nat_eq, List, [], ◌∷◌, ◌++◌, length, slice_get, position, Option, Some, None, refl, sym, ap, subst, ◌∙◌}
use Rattle.std.specs.Cmp.Lexicographic.{pointwise}
use Rattle.std.specs.List.{remove}
use Rattle.std.specs.Option.{IfSome}
use Rattle.std.proofs.lemmas.List.{length-map}
use Rattle.indexmap.specs.IndexMap.{insert_entry, set_value_at}
use Rattle.indexmap.proofs.MapLemmas.{Missing-position, insert_entry-absent}
use Rattle.lineage.specs.Family.{path_in, last_of}
use Rattle.schedule_steps.specs.declared.types.Step.{Step}
use Rattle.schedule_trie.specs.declared.trie.Trie.TheInside.{Inside}
use Rattle.branch_terms.specs.Forest.{index_of, put_last, renumbered, replaced, slot, slots_in, with_step}
use Rattle.schedule_trie.specs.Trie.{TrieOf, forest, segment_at, slots_of, line, keys_in, branch_on, IsStepSet, IsNoted, IsPushed}
use Rattle.schedule_trie.specs.changes.Detaches.{IsDetached}
use Rattle.schedule_trie.specs.changes.Forks.{IsBranchForked}
use Rattle.schedule_trie.specs.changes.Drops.{IsDropped}
use Rattle.schedule_trie.specs.TrieFields.{names_of, trie_of, AreLengths, AreNames, IsWholeWithPaths, IsTrie}
use Rattle.schedule_trie.specs.NamedLengths.{cached_in}
use Rattle.schedule_trie.proofs.lengths.Lengths.{cached_is, relength_seen, relength_held, none_cached, same_lengths, length-everywhere, length-only_in, one_forgotten, lengths_left, lengths_more}
use Rattle.schedule_trie.proofs.branches.Lines.{index_is, keys_are, slots_in_on}
use Rattle.schedule_trie.proofs.detaches.Renumbered.{length-renumbered}
use Rattle.schedule_trie.proofs.branches.Shared.{same_path}
use Rattle.schedule_trie.proofs.branches.KeyedBranches.{length-keyed_branches}
use Rattle.branch_terms.proofs.Lists.{slice_get_some}

module _ {T : Type 0} (old new : TrieOf T) (es : List (List ℕ × Option ℕ)) (right : AreLengths es (forest old).branches) where
  pub set_lengths : (key offset : ℕ) (step : Step) → IsStepSet old new key offset step → offset < length (slots_of (segment_at old.segments key)) → AreLengths es (forest new).branches
  set_lengths key offset step is_step inside =
      let p = slice_get_some (slots_of (segment_at old.segments key)) offset inside in
      let set = is_step.everywhere_set p.0 p.1 in
      same_lengths es (forest old).branches (forest new).branches
      (λ i. ap (λ l. length (slots_in l i)) set ∙ length-everywhere (replaced p.0.cell step) (λ slots. length-map slots (with_step p.0.cell step)) (forest old).branches i) right

  pub noted_lengths : (key : ℕ) (noted : Option T) → IsNoted old new key noted → AreLengths es (forest new).branches
  noted_lengths key noted is_step = subst (λ f. AreLengths es f.branches) (sym is_step.unchanged) right

  pub pushed_lengths : (index : ℕ) (step : Step) → IsPushed old new index step → AreLengths (set_value_at es index None) (forest new).branches
  pushed_lengths index step is_step =
      subst (AreLengths (set_value_at es index None)) (sym is_step.branches) (one_forgotten (put_last (slot old.made step)) es (forest old).branches index right)

  pub detached_lengths : (index : ℕ) → IsDetached old new index → AreLengths es (forest new).branches
  detached_lengths index is_step =
      same_lengths es (forest old).branches (forest new).branches
      (λ i. ap (λ l. length (slots_in l i)) is_step.branches ∙ length-only_in (renumbered old.made) (length-renumbered old.made) (forest old).branches index i) right

  pub dropped_lengths : (index : ℕ) → IsDropped old new index → AreLengths (remove es index) (forest new).branches
  dropped_lengths index is_step = subst (AreLengths (remove es index)) (sym is_step.branches) (lengths_left es (forest old).branches index right)

-- the number of branches
pub entry_count : {T : Type 0} (t : Inside T) → length t.branches.entries ≡ length (trie_of t).branches
entry_count t = sym (length-map t.branches.entries (λ e. e.0)) ∙ sym (length-keyed_branches (names_of t) t.segments.paths)

pub entry_within : {T : Type 0} (t : Inside T) (c : TrieOf T) (index : ℕ) → trie_of t ≡ c → index < length c.branches → index < length t.branches.entries
entry_within t c index view inside = subst (λ n. index < n) (ap (λ z. length z.branches) (sym view) ∙ sym (entry_count t)) inside

pub forked_lengths : {T : Type 0} (t : Inside T) (new : TrieOf T) (entries : List (List ℕ × Option ℕ)) (index place : ℕ) (name : List ℕ) → AreLengths t.branches.entries (forest (trie_of t)).branches
    → index_of (forest (trie_of t)).branches name ≡ None → entries ≡ insert_entry (pointwise nat_eq) t.branches.entries name None
    → IsBranchForked (trie_of t) new index place name → AreLengths entries (forest new).branches
forked_lengths t new entries index place name right free is is_step =
    let es = t.branches.entries in
    let absent : position (pointwise nat_eq name) (names_of t) ≡ None = sym (index_is t name) ∙ free in
    let all : entries ≡ es ++ (name, None) ∷ [] = is ∙ insert_entry-absent (pointwise nat_eq) name None es (Missing-position (pointwise nat_eq name) es absent).absent in
    let count : length es ≡ length (forest (trie_of t)).branches = entry_count t ∙ sym (length-map (trie_of t).branches (branch_on (segment_at (trie_of t).segments))) in
    subst (λ l. AreLengths l (forest new).branches) (sym all)
    (subst (AreLengths (es ++ (name, None) ∷ [])) (sym is_step.branches) (lengths_more es (forest (trie_of t)).branches name _ count right))

-- only cached lengths differ between the fields t and u; in u none is cached, or all are right
module _ {T : Type 0} (t u : Inside T) (names : names_of u ≡ names_of t) (segments : u.segments ≡ t.segments) (made : u.made ≡ t.made) (limits : u.limits ≡ t.limits) where
  pub none_cached_kept : IsWholeWithPaths t → AreNames (names_of t) → ((i : ℕ) → cached_in (slice_get u.branches.entries i) ≡ None) → IsTrie u
  none_cached_kept held named none = record {
    held = relength_held t u names segments made limits held;
    lengths = none_cached u.branches.entries (forest (trie_of u)).branches none;
    names = subst AreNames (sym names) named;
  }

  pub right_lengths_kept : (es : List (List ℕ × Option ℕ)) → IsWholeWithPaths t → AreNames (names_of t) → AreLengths es (forest (trie_of t)).branches → u.branches.entries ≡ es → IsTrie u
  right_lengths_kept es held named right is = record {
    held = relength_held t u names segments made limits held;
    lengths = subst (λ l. AreLengths l (forest (trie_of u)).branches) (sym is)
        (subst (λ c. AreLengths es (forest c).branches) (sym (relength_seen t u names segments made limits)) right);
    names = subst AreNames (sym names) named;
  }

-- the cached length of one branch is also that of each branch with the same last key
pub same_len : {T : Type 0} (t : Inside T) (other index : ℕ) (len : Option ℕ) → IsWholeWithPaths t → AreLengths t.branches.entries (forest (trie_of t)).branches
    → last_of (path_in t.segments other) ≡ last_of (path_in t.segments index) → len ≡ cached_in (slice_get t.branches.entries other)
    → IfSome len (λ n. n ≡ length (slots_in (forest (trie_of t)).branches index))
same_len t other index None held right last kept = tt
same_len t other index (Some len) held right last kept =
    let c = trie_of t in
    let shares = held.whole.sound.shares in
    let lasts : last_of (keys_in c.branches other) ≡ last_of (keys_in c.branches index) = ap last_of (keys_are t held other) ∙ last ∙ sym (ap last_of (keys_are t held index)) in
    let same = same_path shares.above (keys_in c.branches other) (keys_in c.branches index) (last_of (keys_in c.branches index)) (shares.linked other) (shares.linked index) lasts refl in
    cached_is t.branches.entries (forest c).branches other len right kept
    ∙ ap length (slots_in_on (segment_at c.segments) c.branches other ∙ ap (line (segment_at c.segments)) same ∙ sym (slots_in_on (segment_at c.segments) c.branches index))
