-- Segments that stored runs are known to fit down to, after a run is stored.
use Rattle.std.proofs.Common.{◌≡◌, ℕ, drop, get_or, ◌<◌, ◌≤◌, length, arith, Bool, true, false, List, [], ◌∷◌, ◌++◌, map, Option, Some, None, ◌⊎◌, inl, inr, refl, sym, ap, subst, ◌∙◌, append_assoc, true≢false}
use Rattle.std.specs.Prelude.{⊤}
use Rattle.std.specs.Option.{option_map, option_or}
use Rattle.std.specs.Cmp.{IsPartialEquivalence, IsEquivalence}
use Rattle.frames.specs.Behaviour.{Behaviour}
use Rattle.frames.specs.Configuration.{Configuration, replayed}
use Rattle.schedule_trie.specs.Forest.{step_of}
use Rattle.schedule_trie.specs.Trie.{TrieOf, segment_at, note_of, slots_of, keys_in, has, Linked, Once, IsCut, IsNoted}
use Rattle.schedule_trie.specs.Climbs.{keys_up_to}
use Rattle.checkpoints.specs.Runs.{IsTrueRun}
use Rattle.schedule_trie.proofs.branches.Shared.{same_front}
use Rattle.schedule_trie.proofs.climbs.Climbs.{up_to-here}
use Rattle.schedule_trie.proofs.lists.NoRepeats.{has-in}
use Rattle.schedule_trie.proofs.lists.KeyPositions.{parting, IsParting}
use Rattle.cutoff.specs.Fitting.{StoredRun, bare_run, steps_at}
use Rattle.cutoff.specs.Links.{IsGiven, IsLinked, run_checked}
use Rattle.cutoff.specs.Settles.{IsSegmentSettled}
use Rattle.cutoff.specs.Prefixes.{RunsDown, RunsTo, RunsToOnAll, AreFresh, note_if_any, exit_or_start, exit_or}
use Rattle.cutoff.proofs.Fits.{stored-from_stored_in}
use Rattle.cutoff.proofs.RestWalks.{IsRestWalk, rest_walk_next, reached_next}
use Rattle.cutoff.proofs.SameBranches.{cut_kept}
use Rattle.cutoff.proofs.Keys.{by_key, path_once, once_after, lacks_front}
use Rattle.cutoff.proofs.Noted.{noted_cells}
use Rattle.cutoff.proofs.Prefixes.{down_kept}

module _ {R P : Type 0} (E : R → R → Bool) (is : R → Behaviour P) (old new : TrieOf (StoredRun R P)) (start : Configuration R P) (key : ℕ) (s : StoredRun R P) (whole : IsCut old) (noted : IsNoted old new key (Some s)) where
  abbrev b : Behaviour P
  b = is start.register

  steps_kept : (j : ℕ) → steps_at old j ≡ steps_at new j
  steps_kept j = by_key j key _
      (λ e. subst (λ z. steps_at old z ≡ steps_at new z) (sym e) (ap (map step_of) (sym (noted_cells s (segment_at old.segments key) (segment_at new.segments key) noted.here))))
      (λ ne. ap (λ o. map step_of (slots_of o)) (sym (noted.others j ne)))

  still_down : (c : Configuration R P) (keys : List ℕ) (end : Configuration R P) → has key keys ≡ false → RunsDown E is old b c keys end → RunsDown E is new b c keys end
  still_down c keys end lacks = down_kept E is old new b c keys end (λ j h. noted.others j (λ e. true≢false (sym (subst (λ z. has z keys ≡ true) e h) ∙ lacks)))

  -- true runs still fit down some segments after a run is stored at `key`, if true runs fit down
  -- to `key`
  still_down_through : (c : Configuration R P) (front back : List ℕ) (end stop : Configuration R P) → has key back ≡ false
      → RunsDown E is old b c (front ++ key ∷ back) end → RunsDown E is new b c (front ++ key ∷ []) stop → RunsDown E is new b c (front ++ key ∷ back) end
  still_down_through c [] back end stop lacks was to =
      (to.0, subst (λ l. RunsDown E is new b (replayed b c l) back end) (steps_kept key) (still_down (replayed b c (steps_at old key)) back end lacks was.1))
  still_down_through c (k ∷ front) back end stop lacks was to = (
    to.0,
    still_down_through (replayed b c (steps_at new k)) front back end stop lacks
        (subst (λ l. RunsDown E is old b (replayed b c l) (front ++ key ∷ back) end) (steps_kept k) was.1) to.1,
  )

  down_again : (i k : ℕ) → RunsToOnAll E is new start (Some key) → IsParting (keys_in old.branches i) k → (end : Configuration R P)
      → RunsDown E is old b start (keys_up_to k (keys_in old.branches i)) end → RunsDown E is new b start (keys_up_to k (keys_in old.branches i)) end
  down_again i k at_key p end down = by (has key path) refl
    where
      path : List ℕ
      path = keys_up_to k (keys_in old.branches i)

      by : (t : Bool) → has key path ≡ t → RunsDown E is new b start path end
      by false e = still_down start path end e down
      by true e =
          let q = parting path key e in
          let keys : keys_in old.branches i ≡ q.front ++ key ∷ (q.back ++ p.back) =
          p.is ∙ sym (append_assoc p.front (k ∷ []) p.back) ∙ ap (λ l. l ++ p.back) (sym p.to ∙ q.is) ∙ append_assoc q.front (key ∷ q.back) p.back in
          let there : has key (keys_in old.branches i) ≡ true = ap (has key) keys ∙ has-in key q.front (q.back ++ p.back) in
          let up : keys_up_to key (keys_in old.branches i) ≡ q.front ++ key ∷ [] = ap (keys_up_to key) keys ∙ up_to-here key q.front (q.back ++ p.back) q.lacks in
          let lacks : has key q.back ≡ false = lacks_front key q.back p.back (once_after q.front key (q.back ++ p.back) (subst Once keys (path_once old whole i))) in
          let to = subst (λ ss. RunsTo E is new start (Some key) (keys_in ss i)) noted.branches
          (at_key i (subst (λ ss. has key (keys_in ss i) ≡ true) (sym noted.branches) there)) in
          subst (λ l. RunsDown E is new b start l end) (sym q.is)
          (still_down_through start q.front q.back end (exit_or_start new start (Some key)) lacks (subst (λ l. RunsDown E is old b start l end) q.is down)
          (subst (λ l. RunsDown E is new b start l (exit_or_start new start (Some key))) up to))

  -- a segment stays marked, if the one whose run is new is marked
  mark_kept : (k : ℕ) → (k ≡ key → ⊥) → RunsToOnAll E is new start (Some key) → RunsToOnAll E is old start (Some k) → RunsToOnAll E is new start (Some k)
  mark_kept k other at_key marked = λ i h.
      let there : has k (keys_in old.branches i) ≡ true = subst (λ ss. has k (keys_in ss i) ≡ true) noted.branches h in
      let end : exit_or_start old start (Some k) ≡ exit_or_start new start (Some k) =
      ap (λ o. exit_or start (option_map bare_run (note_of o))) (sym (noted.others k other)) in
      subst (λ ss. RunsTo E is new start (Some k) (keys_in ss i)) (sym noted.branches)
      (subst (RunsDown E is new b start (keys_up_to k (keys_in old.branches i))) end
      (down_again i k at_key (parting (keys_in old.branches i) k there) (exit_or_start old start (Some k)) (marked i there)))

  number_kept : (k : ℕ) → (k ≡ key → ⊥) → run_checked (note_of (segment_at new.segments k)) ≡ run_checked (note_of (segment_at old.segments k))
  number_kept k other = ap (λ o. run_checked (note_of o)) (noted.others k other)

  -- after a run is stored at `key`, runs are fresh as before, if `key` is marked then
  pub fresh_kept : (first : Option ℕ) → RunsToOnAll E is new start (Some key) → AreFresh E is old start first → AreFresh E is new start first
  fresh_kept None at_key was = tt
  fresh_kept (Some first) at_key was = λ k a number late.
      by_key k key _ (λ e. subst (λ z. RunsToOnAll E is new start (Some z)) (sym e) at_key)
      (λ ne. mark_kept k ne at_key (was k a (sym (number_kept k ne) ∙ number) late))

-- no stored run was found to fit with a number that wasn't given yet, so if nothing is fresh,
-- `AreFresh` also holds from the next number on
pub fresh_given : {R P : Type 0} (E : R → R → Bool) (is : R → Behaviour P) (trie : TrieOf (StoredRun R P)) (start : Configuration R P) (h : R) (next : ℕ) (c : Configuration ⊤ P) (fresh id : Option ℕ)
    → IsLinked E h next None c trie → (id ≡ None) ⊎ (id ≡ Some next) → AreFresh E is trie start fresh → AreFresh E is trie start (option_or fresh id)
fresh_given E is trie start h next c (Some first) id linked given was = was
fresh_given E is trie start h next c None None linked given was = tt
fresh_given E is trie start h next c None (Some a) linked (inl e) was = cc
fresh_given {R} {P} E is trie start h next c None (Some a) linked (inr e) was = λ k x number late. by k x (note_of (segment_at trie.segments k)) refl number late
  where
    by : (k x : ℕ) (o : Option (StoredRun R P)) → note_of (segment_at trie.segments k) ≡ o → run_checked o ≡ Some x → a ≤ x → RunsToOnAll E is trie start (Some k)
    by k x None at number late = cc
    by k x (Some t) at number late =
        let same : a ≡ next = cc in
        let given : x < length linked.exits = subst (IsGiven (length linked.exits)) number (stored-from_stored_in E h linked.exits trie k t (linked.each k) at).checked in
        let many = linked.as_many in
        absurd (omega (arith, given, many, late, same))

-- true runs that fit are stored down to a segment on each branch that has it, if they are on one
pub on_all_from_one : {R P : Type 0} (E : R → R → Bool) (is : R → Behaviour P) (trie : TrieOf (StoredRun R P)) (start : Configuration R P) (i k : ℕ) → IsCut trie
    → (has k (keys_in trie.branches i) ≡ true) × RunsTo E is trie start (Some k) (keys_in trie.branches i) → RunsToOnAll E is trie start (Some k)
on_all_from_one E is trie start i k whole down = λ j h.
    let p = parting (keys_in trie.branches i) k down.0 in
    let q = parting (keys_in trie.branches j) k h in
    let same : p.front ≡ q.front =
    same_front whole.shares.above p.front p.back q.front q.back k (subst (Linked whole.shares.above None) p.is (whole.shares.linked i)) (subst (Linked whole.shares.above None) q.is (whole.shares.linked j)) in
    subst (λ l. RunsDown E is trie (is start.register) start l (exit_or_start trie start (Some k))) (p.to ∙ ap (λ f. f ++ k ∷ []) same ∙ sym q.to) down.1

-- runs are fresh as before, after a walk settles its next segment
pub fresh_next : {R P : Type 0} (E : R → R → Bool) (equal : IsEquivalence E) (per : IsPartialEquivalence E) (is : R → Behaviour P) (alike : (x y : R) → E x y ≡ true → is x ≡ is y)
    {old trie new : TrieOf (StoredRun R P)} {start : Configuration R P} {key count : ℕ} {back : List ℕ} {place n : ℕ} {above : Option ℕ} (i : ℕ) (all : List ℕ) (index : ℕ) (more : List ℕ)
    → (g : IsRestWalk E is old trie start key count (keys_in old.branches i) (drop index all ++ more) back place n above) (h : index < length all) {o : Option (StoredRun R P)} {s : StoredRun R P} {work : ℕ}
    → note_if_any trie above ≡ o → IsSegmentSettled E trie new (exit_or start (option_map bare_run o)) (get_or all index 0) s work × IsTrueRun (is s.run.entry.register) s.run → IsCut old
    → (first : Option ℕ) → AreFresh E is trie start first → AreFresh E is new start first
fresh_next E equal per is alike {old} {trie} {new} {start} i all index more g h {s = s} above_is settled whole first was =
    let keeps = (rest_walk_next E equal per is alike all index more g h above_is settled).walk.keeps in
    let k = get_or all index 0 in
    let marked = on_all_from_one E is new start i k (cut_kept old new _ keeps whole)
    (subst (λ ss. (has k (keys_in ss i) ≡ true) × RunsTo E is new start (Some k) (keys_in ss i)) (sym keeps.branches) (reached_next E equal per is alike all index more g h above_is settled)) in
    fresh_kept E is trie new start k s (cut_kept old trie _ g.walk.keeps whole) settled.0.noted first marked was
