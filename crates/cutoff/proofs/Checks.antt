-- A chart after numbers with which runs were last found to fit are recorded (`IsChecked`).
use Rattle.std.proofs.Common.{◌≡◌, ◌⊎◌, ℕ, ◌≤◌, length, Bool, true, List, [], ◌∷◌, ◌++◌, map, Option, Some, None, MatchOption, IsSome, inl, inr, refl, sym, ap, subst, ◌∙◌, append_assoc}
use Rattle.std.specs.Prelude.{⊤}
use Rattle.std.specs.Option.{option_map}
use Rattle.frames.specs.Behaviour.{Behaviour}
use Rattle.frames.specs.Configuration.{Configuration, replayed}
use Rattle.frames.specs.laws.WithoutRegister.{register_kept}
use Rattle.schedule_trie.specs.Forest.{step_of}
use Rattle.schedule_trie.specs.Trie.{TrieOf, SegmentOf, segment, segment_at, slots_of, note_of, with_note, keys_in, has, Linked, IsNoted, IsCut}
use Rattle.schedule_trie.specs.Climbs.{keys_up_to}
use Rattle.schedule_trie.proofs.lists.KeyPositions.{parting}
use Rattle.schedule_trie.proofs.branches.Shared.{same_front}
use Rattle.cutoff.specs.Fitting.{StoredRun, RunFits, KeepsRuns, IsChecked, IsOnWayTo, with_checked, checked_segment, bare_run, run_at, slots_at, steps_at}
use Rattle.cutoff.specs.Links.{IsGiven, IsStored, IsStoredIn, IsLinked, run_checked}
use Rattle.cutoff.specs.Prefixes.{HasTrueRun, RunsDown, RunsTo, RunsToOnAll, AreFresh, exit_or_start, exit_or}
use Rattle.cutoff.specs.Charts.{Charted, IsCharted, StepsFit}
use Rattle.cutoff.proofs.Fits.{exit_same, stored-from_stored_in}
use Rattle.cutoff.proofs.Prefixes.{down_after}
use Rattle.cutoff.proofs.SameBranches.{cut_kept}
use Rattle.cutoff.proofs.Keys.{by_key}

-- `checked_segment` changes neither the cells nor the run of a segment, and keeps `IsStoredIn`
module _ {R P : Type 0} (number : Option ℕ) where
  slots_checked : (o : Option (SegmentOf (StoredRun R P))) → option_map (λ p. p.slots) (option_map (checked_segment number) o) ≡ option_map (λ p. p.slots) o
  slots_checked None = refl
  slots_checked (Some p) = refl

  cells_checked : (o : Option (SegmentOf (StoredRun R P))) → slots_of (option_map (checked_segment number) o) ≡ slots_of o
  cells_checked None = refl
  cells_checked (Some p) = refl

  bare_run-checked : (o : Option (SegmentOf (StoredRun R P))) → option_map bare_run (note_of (option_map (checked_segment number) o)) ≡ option_map bare_run (note_of o)
  bare_run-checked None = refl
  bare_run-checked (Some p) = by p.note
    where
      by : (n : Option (StoredRun R P)) → option_map bare_run (option_map (with_checked number) n) ≡ option_map bare_run n
      by None = refl
      by (Some s) = refl

  note_checked : (o : Option (SegmentOf (StoredRun R P))) (s : StoredRun R P) → note_of o ≡ Some s
      → note_of (option_map (checked_segment number) o) ≡ Some (with_checked number s)
  note_checked None s e = cc
  note_checked (Some p) s e = ap (option_map (with_checked number)) e

  stored_in-checked : (E : R → R → Bool) (h : R) (exits : List (Configuration ⊤ P)) → IsGiven (length exits) number → (o : Option (SegmentOf (StoredRun R P)))
      → IsStoredIn E h exits o → IsStoredIn E h exits (option_map (checked_segment number) o)
  stored_in-checked E h exits given None t = tt
  stored_in-checked E h exits given (Some p) t = by p.note t
    where
      by : (n : Option (StoredRun R P)) → MatchOption n ⊤ (IsStored E h exits (map step_of p.slots))
          → MatchOption (option_map (with_checked number) n) ⊤ (IsStored E h exits (map step_of p.slots))
      by None t = tt
      by (Some s) t = record { own = t.own; covers = t.covers; id = t.id; link = t.link; checked = given }

-- if `IsChecked` holds of two tries, their runs and branches are the same
module _ {R P : Type 0} (old new : TrieOf (StoredRun R P)) (number : Option ℕ) (key : ℕ) (checked : IsChecked old new number key) where
  steps_same : (k : ℕ) → steps_at old k ≡ steps_at new k
  steps_same k = ap (map step_of) (sym (by (checked.each k)))
    where
      by : (segment_at new.segments k ≡ segment_at old.segments k) ⊎ (IsOnWayTo old key k × (segment_at new.segments k ≡ option_map (checked_segment number) (segment_at old.segments k)))
          → slots_of (segment_at new.segments k) ≡ slots_of (segment_at old.segments k)
      by (inl e) = ap slots_of e
      by (inr e) = ap slots_of e.1 ∙ cells_checked number (segment_at old.segments k)

  slots_same : (k : ℕ) → slots_at new k ≡ slots_at old k
  slots_same k = by (checked.each k)
    where
      by : (segment_at new.segments k ≡ segment_at old.segments k) ⊎ (IsOnWayTo old key k × (segment_at new.segments k ≡ option_map (checked_segment number) (segment_at old.segments k)))
          → slots_at new k ≡ slots_at old k
      by (inl e) = ap (option_map (λ p. p.slots)) e
      by (inr e) = ap (option_map (λ p. p.slots)) e.1 ∙ slots_checked number (segment_at old.segments k)

  run_same : (k : ℕ) → run_at new k ≡ run_at old k
  run_same k = by (checked.each k)
    where
      by : (segment_at new.segments k ≡ segment_at old.segments k) ⊎ (IsOnWayTo old key k × (segment_at new.segments k ≡ option_map (checked_segment number) (segment_at old.segments k)))
          → run_at new k ≡ run_at old k
      by (inl e) = ap (λ o. option_map bare_run (note_of o)) e
      by (inr e) = ap (λ o. option_map bare_run (note_of o)) e.1 ∙ bare_run-checked number (segment_at old.segments k)

  checked_keeps : KeepsRuns old new (λ k. ⊥)
  checked_keeps = record { branches = checked.branches; limits = checked.limits; forest_kept = checked.unchanged; slots = slots_same; runs = λ k. inl (run_same k) }

  linked_checked : (E : R → R → Bool) (h : R) (next : ℕ) (c : Configuration ⊤ P) (l : IsLinked E h next None c old) → IsGiven (length l.exits) number → IsLinked E h next None c new
  linked_checked E h next c l given = record { exits = l.exits; as_many = l.as_many; each = λ k. by k (checked.each k); reached_exit = l.reached_exit }
    where
      by : (k : ℕ) → (segment_at new.segments k ≡ segment_at old.segments k) ⊎ (IsOnWayTo old key k × (segment_at new.segments k ≡ option_map (checked_segment number) (segment_at old.segments k)))
          → IsStoredIn E h l.exits (segment_at new.segments k)
      by k (inl e) = subst (IsStoredIn E h l.exits) (sym e) (l.each k)
      by k (inr e) = subst (IsStoredIn E h l.exits) (sym e.1) (stored_in-checked number E h l.exits given (segment_at old.segments k) (l.each k))

  module _ (E : R → R → Bool) (is : R → Behaviour P) where
    true_same : (c : Configuration R P) (k : ℕ) → HasTrueRun E is old c k → HasTrueRun E is new c k
    true_same c k h = by (checked.each k)
      where
        by : (segment_at new.segments k ≡ segment_at old.segments k) ⊎ (IsOnWayTo old key k × (segment_at new.segments k ≡ option_map (checked_segment number) (segment_at old.segments k)))
            → HasTrueRun E is new c k
        by (inl e) = record {
          stored = h.stored;
          noted = ap note_of e ∙ h.noted;
          true_run = h.true_run;
          fits = subst (λ s. RunFits E c s h.stored.run) (steps_same k) h.fits;
        }
        by (inr e) = record {
          stored = with_checked number h.stored;
          noted = ap note_of e.1 ∙ note_checked number (segment_at old.segments k) h.stored h.noted;
          true_run = h.true_run;
          fits = subst (λ s. RunFits E c s h.stored.run) (steps_same k) h.fits;
        }

    marked_still : (start : Configuration R P) (k : ℕ) → RunsToOnAll E is old start (Some k) → RunsToOnAll E is new start (Some k)
    marked_still start k marked = λ i h.
        let there : has k (keys_in old.branches i) ≡ true = subst (λ ss. has k (keys_in ss i) ≡ true) checked.branches h in
        let down = down_after E is old new steps_same true_same (is start.register) start (keys_up_to k (keys_in old.branches i)) (exit_or_start old start (Some k)) (marked i there) in
        subst (λ ss. RunsTo E is new start (Some k) (keys_in ss i)) (sym checked.branches)
        (subst (RunsDown E is new (is start.register) start (keys_up_to k (keys_in old.branches i))) (ap (exit_or start) (sym (run_same k))) down)

-- stored runs fit down to each segment on the way to a marked one
module _ {R P : Type 0} (E : R → R → Bool) (is : R → Behaviour P) (alike : (x y : R) → E x y ≡ true → is x ≡ is y) (trie : TrieOf (StoredRun R P)) (start : Configuration R P) where
  down_part : (c : Configuration R P) (front : List ℕ) (k : ℕ) (back : List ℕ) (end : Configuration R P) → is c.register ≡ is start.register
      → RunsDown E is trie (is start.register) c (front ++ k ∷ back) end → RunsDown E is trie (is start.register) c (front ++ k ∷ []) (exit_or_start trie start (Some k))
  down_part c [] k back end home d =
      let come : exit_or_start trie start (Some k) ≡ d.0.stored.run.exit = ap (λ n. exit_or start (option_map bare_run n)) d.0.noted in
      subst (RunsDown E is trie (is start.register) c (k ∷ [])) (sym come)
      (d.0, exit_same E is alike (is start.register) c (steps_at trie k) d.0.stored.run home d.0.true_run d.0.fits)
  down_part c (j ∷ front) k back end home d =
      (d.0, down_part (replayed (is start.register) c (steps_at trie j)) front k back end (ap is (register_kept (is start.register) c (steps_at trie j)) ∙ home) d.1)

  marked_on_way : IsCut trie → (key k : ℕ) → IsSome (segment_at trie.segments key) → RunsToOnAll E is trie start (Some key) → IsOnWayTo trie key k → RunsToOnAll E is trie start (Some k)
  marked_on_way whole key k there marked way = λ i h.
      let live = whole.live key there in
      let keys = keys_in trie.branches live.0 in
      let p = parting keys key live.1 in
      let q = parting (keys_up_to key keys) k (way live.0 live.1) in
      let path : keys ≡ q.front ++ k ∷ (q.back ++ p.back) =
      p.is ∙ sym (append_assoc p.front (key ∷ []) p.back) ∙ ap (λ l. l ++ p.back) (sym p.to ∙ q.is) ∙ append_assoc q.front (k ∷ q.back) p.back in
      let here = parting (keys_in trie.branches i) k h in
      let same : q.front ≡ here.front =
      same_front whole.shares.above q.front (q.back ++ p.back) here.front here.back k (subst (Linked whole.shares.above None) path (whole.shares.linked live.0))
      (subst (Linked whole.shares.above None) here.is (whole.shares.linked i)) in
      let down = down_part start q.front k q.back (exit_or_start trie start (Some key)) refl
      (subst (λ l. RunsDown E is trie (is start.register) start l (exit_or_start trie start (Some key))) q.is (marked live.0 live.1)) in
      subst (λ l. RunsDown E is trie (is start.register) start l (exit_or_start trie start (Some k))) (ap (λ f. f ++ k ∷ []) same ∙ sym here.to) down

-- the invariant of a chart, after the number of the marked segment's run is recorded at runs on the
-- way to that segment
module _ {R P : Type 0} (E : R → R → Bool) (is : R → Behaviour P) (alike : (x y : R) → E x y ≡ true → is x ≡ is y) (next : ℕ) (key : ℕ) (c : Charted R P) (new : TrieOf (StoredRun R P)) (s : StoredRun R P)
    (noted : note_of (segment_at c.trie.segments key) ≡ Some s) (checked : IsChecked c.trie new s.checked key) where
  noted_there : (o : Option (SegmentOf (StoredRun R P))) → note_of o ≡ Some s → IsSome o
  noted_there None e = cc
  noted_there (Some p) e = refl

  fresh_still : IsCut c.trie → RunsToOnAll E is c.trie c.start (Some key) → (fresh : Option ℕ) → AreFresh E is c.trie c.start fresh → AreFresh E is new c.start fresh
  fresh_still whole marked None f = tt
  fresh_still whole marked (Some first) f = λ k a number late. by k a number late (checked.each k)
    where
      by : (k a : ℕ) → run_checked (note_of (segment_at new.segments k)) ≡ Some a → first ≤ a
          → (segment_at new.segments k ≡ segment_at c.trie.segments k) ⊎ (IsOnWayTo c.trie key k × (segment_at new.segments k ≡ option_map (checked_segment s.checked) (segment_at c.trie.segments k)))
          → RunsToOnAll E is new c.start (Some k)
      by k a number late (inl e) = marked_still c.trie new s.checked key checked E is c.start k (f k a (ap (λ o. run_checked (note_of o)) (sym e) ∙ number) late)
      by k a number late (inr e) =
          marked_still c.trie new s.checked key checked E is c.start k (marked_on_way E is alike c.trie c.start whole key k (noted_there (segment_at c.trie.segments key) noted) marked e.0)

  pub charted_checked : (fresh : Option ℕ) → IsCharted E is next fresh (Some key) c → IsCharted E is next fresh (Some key) (record { trie = new; start = c.start; value = c.value })
  charted_checked fresh was = record {
    within = was.within;
    begins = was.begins;
    fits = subst (StepsFit (is c.start.register)) (sym checked.unchanged) was.fits;
    cut = cut_kept c.trie new (λ k. ⊥) (checked_keeps c.trie new s.checked key checked) was.cut;
    linked = linked_checked c.trie new s.checked key checked E c.start.register next _ was.linked
        (stored-from_stored_in E c.start.register was.linked.exits c.trie key s (was.linked.each key) noted).checked;
    marked = marked_still c.trie new s.checked key checked E is c.start key was.marked;
    fresh_marked = fresh_still was.cut was.marked fresh was.fresh_marked;
  }

-- `IsChecked` before any run is passed, and after one more
module _ {R P : Type 0} where
  pub none_checked : (trie : TrieOf (StoredRun R P)) (number : Option ℕ) (key : ℕ) → IsChecked trie trie number key
  none_checked trie number key = record { branches = refl; limits = refl; unchanged = refl; each = λ k. inl refl }

  checked_twice : (number : Option ℕ) (o : Option (SegmentOf (StoredRun R P))) → option_map (checked_segment number) (option_map (checked_segment number) o) ≡ option_map (checked_segment number) o
  checked_twice number None = refl
  checked_twice number (Some p) = by p.note
    where
      by : (n : Option (StoredRun R P)) → option_map (checked_segment number) (option_map (checked_segment number) (Some (segment p.slots n))) ≡ option_map (checked_segment number) (Some (segment p.slots n))
      by None = refl
      by (Some s) = refl

  with_note_checked : (number : Option ℕ) (s again : StoredRun R P) → again.run ≡ s.run → again.id ≡ s.id → again.link ≡ s.link → again.checked ≡ number → (o : Option (SegmentOf (StoredRun R P))) → note_of o ≡ Some s
      → option_map (with_note (Some again)) o ≡ option_map (checked_segment number) o
  with_note_checked number s again run id link checked None e = refl
  with_note_checked number s again run id link checked (Some p) e =
      ap (λ n. Some (segment p.slots n))
      ((λ i. Some (record { run = run i; id = id i; link = link i; checked = checked i })) ∙ sym (ap (option_map (with_checked number)) e))

  module _ (old trie new : TrieOf (StoredRun R P)) (number : Option ℕ) (key k : ℕ) (s again : StoredRun R P) (was : IsChecked old trie number key) (there : note_of (segment_at trie.segments k) ≡ Some s)
      (run : again.run ≡ s.run) (id : again.id ≡ s.id) (link : again.link ≡ s.link) (checked : again.checked ≡ number) (noted : IsNoted trie new k (Some again)) (way : IsOnWayTo old key k) where
    checked_here : segment_at new.segments k ≡ option_map (checked_segment number) (segment_at old.segments k)
    checked_here = noted.here ∙ with_note_checked number s again run id link checked (segment_at trie.segments k) there ∙ by (was.each k)
      where
        by : (segment_at trie.segments k ≡ segment_at old.segments k) ⊎ (IsOnWayTo old key k × (segment_at trie.segments k ≡ option_map (checked_segment number) (segment_at old.segments k)))
            → option_map (checked_segment number) (segment_at trie.segments k) ≡ option_map (checked_segment number) (segment_at old.segments k)
        by (inl e) = ap (option_map (checked_segment number)) e
        by (inr e) = ap (option_map (checked_segment number)) e.1 ∙ checked_twice number (segment_at old.segments k)

    pub more_checked : IsChecked old new number key
    more_checked = record {
      branches = noted.branches ∙ was.branches;
      limits = noted.limits ∙ was.limits;
      unchanged = noted.unchanged ∙ was.unchanged;
      each = λ j. by_key j k _
          (λ e. inr (subst (IsOnWayTo old key) (sym e) way, ap (segment_at new.segments) e ∙ checked_here ∙ ap (λ z. option_map (checked_segment number) (segment_at old.segments z)) (sym e)))
          (λ ne. still j (noted.others j ne) (was.each j));
    }
      where
        still : (j : ℕ) → segment_at new.segments j ≡ segment_at trie.segments j
            → (segment_at trie.segments j ≡ segment_at old.segments j) ⊎ (IsOnWayTo old key j × (segment_at trie.segments j ≡ option_map (checked_segment number) (segment_at old.segments j)))
            → (segment_at new.segments j ≡ segment_at old.segments j) ⊎ (IsOnWayTo old key j × (segment_at new.segments j ≡ option_map (checked_segment number) (segment_at old.segments j)))
        still j same (inl e) = inl (same ∙ e)
        still j same (inr e) = inr (e.0, same ∙ e.1)
