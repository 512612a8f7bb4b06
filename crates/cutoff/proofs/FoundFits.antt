-- What a plan finds of segments, one after the other down a branch.
use Rattle.std.proofs.Common.{◌≡◌, ◌⊎◌, ℕ, zero, suc, ◌+◌, ◌<◌, arith, drop, Bool, true, false, cond, ◌||◌, nat_eq, List, [], ◌∷◌, ◌++◌, length, map, reverse, get_or, Option, Some, None, inl, inr, refl, sym, ap, subst, ◌∙◌, append_assoc, append-nil, true≢false}
use Rattle.std.specs.Cmp.{IsEquivalence, IsPartialEquivalence}
use Rattle.std.proofs.lemmas.Bool.{ne_eqb, or_left, or_right}
use Rattle.std.proofs.Math.Seq.{drop-cons}
use Rattle.std.proofs.lemmas.List.{map-append}
use Rattle.frames.specs.Behaviour.{Behaviour}
use Rattle.frames.specs.Configuration.{Configuration, replayed, fits_step}
use Rattle.frames.specs.Recorded.{AllFit}
use Rattle.frames.specs.laws.WithoutRegister.{same_symm}
use Rattle.schedule_trie.specs.Forest.{step_of}
use Rattle.schedule_trie.specs.Trie.{TrieOf, segment_at, slots_of, line, forest, keys_in, has, Once, IsCut}
use Rattle.schedule_trie.specs.Climbs.{keys_up_to, keys_to, HasClimbedTo}
use Rattle.schedule_trie.proofs.climbs.Climbs.{up_to-here}
use Rattle.schedule_trie.proofs.lists.NoRepeats.{has_cases, has-append, has-head, has-tail, has-in, once_before}
use Rattle.schedule_trie.proofs.limbs.OwnParts.{IsClimbing, last_reached}
use Rattle.cutoff.specs.Charts.{StepsFit}
use Rattle.cutoff.specs.Fitting.{StoredRun, Fits, steps_at}
use Rattle.cutoff.specs.Plans.{FitsDownTo, Descends, Planned, job_of, key_of, with_job}
use Rattle.cutoff.specs.Prefixes.{HasTrueRun, RunsToOnAll, exit_or_start, IsAbove}
use Rattle.cutoff.specs.FoundFits.{AreSeen, HasDescendedAbove, HasDescended, IsKnownAt, IsRightAt, IsUnseenPart, FitsOrAddsJob, found_fit_at}
use Rattle.cutoff.proofs.Fits.{fits_alike}
use Rattle.cutoff.proofs.Paths.{fits_on}
use Rattle.cutoff.proofs.Prefixes.{down_same, runs_fit, runs_to_next}
use Rattle.cutoff.proofs.Lists.{all_left, all_right}
use Rattle.cutoff.proofs.Keys.{by_key, path_once, once_after}
use Rattle.cutoff.proofs.Climbs.{above_step}

-- what was found at each key stays the same when `None` is added to the list
pub found_fit_at-none_added : (seen : List (Option Bool)) (k : ℕ) → found_fit_at (seen ++ None ∷ []) k ≡ found_fit_at seen k
found_fit_at-none_added [] zero = refl
found_fit_at-none_added [] (suc k) = refl
found_fit_at-none_added (s ∷ seen) zero = refl
found_fit_at-none_added (s ∷ seen) (suc k) = found_fit_at-none_added seen k

-- nothing was found at a key
abbrev pub IsUnseen : List (Option Bool) → ℕ → Type 0
IsUnseen seen k = found_fit_at seen k ≡ None

-- what a plan knows of a key, by a test `is` whether the key is one of the marked ones
pub known_at : (Marked : ℕ → Type 0) (seen : List (Option Bool)) (k : ℕ) (is fits : Bool) → (is ≡ true → Marked k) → ((is ≡ true) × (fits ≡ true)) ⊎ (found_fit_at seen k ≡ Some fits) → IsKnownAt Marked seen (Some k) fits
known_at Marked seen k is fits marked (inl known) = inl (marked known.0, known.1)
known_at Marked seen k is fits marked (inr known) = inr known

module _ (seen : List (Option Bool)) (keys : List ℕ) where
  pub unseen_part : (Marked : ℕ → Type 0) (at : Option ℕ) (own all : List ℕ) (fits : Bool) → IsClimbing (IsUnseen seen) keys at own → IsKnownAt Marked seen at fits → all ≡ reverse own
      → IsUnseenPart Marked seen keys fits all
  unseen_part Marked at own all fits c known turned =
      subst (IsUnseenPart Marked seen keys fits) (sym turned) (record { above = at; reached = c.reached; path = c.is; lacks = c.free; known = known })

-- the steps of a segment of a branch fit
segment_fits : {R P : Type 0} (b : Behaviour P) (trie : TrieOf (StoredRun R P)) (keys : List ℕ) (k : ℕ) → has k keys ≡ true → AllFit b (map step_of (line (segment_at trie.segments) keys))
    → AllFit b (steps_at trie k)
segment_fits b trie [] k h fit = absurd (true≢false (sym h))
segment_fits b trie (j ∷ js) k h fit =
    let both = subst (AllFit b) (map-append step_of (slots_of (segment_at trie.segments j)) (line (segment_at trie.segments) js)) fit in
    has_cases k j js (AllFit b (steps_at trie k)) h
    (λ e. subst (λ i. AllFit b (steps_at trie i)) (sym e) (all_left (λ s. fits_step b s ≡ true) (steps_at trie j) (map step_of (line (segment_at trie.segments) js)) both))
    (λ r. segment_fits b trie js k r (all_right (λ s. fits_step b s ≡ true) (steps_at trie j) (map step_of (line (segment_at trie.segments) js)) both))

-- `Descends` of more keys, of keys that stored runs all fit, and of these with one that none fits
module _ {R P : Type 0} (E : R → R → Bool) (b : Behaviour P) (trie : TrieOf (StoredRun R P)) where
  descends_more : (c end : Configuration R P) (keys more : List ℕ) (m : ℕ) → Descends E b trie c keys (Some m) end → Descends E b trie c (keys ++ more) (Some m) end
  descends_more c end [] more m d = absurd (let e : ◌≡◌ {A = Option ℕ} (Some m) None = d.0 in cc)
  descends_more c end (k ∷ ks) more m (inl d) = inl (d.0, descends_more (replayed b c (steps_at trie k)) end ks more m d.1)
  descends_more c end (k ∷ ks) more m (inr d) = inr d

  fits_descends : (c end : Configuration R P) (keys : List ℕ) → FitsDownTo E b trie c keys end → Descends E b trie c keys None end
  fits_descends c end [] d = (refl, d)
  fits_descends c end (k ∷ ks) d = inl (d.0, fits_descends (replayed b c (steps_at trie k)) end ks d.1)

  missing_descends : (per : IsPartialEquivalence E) (c end : Configuration R P) (keys : List ℕ) (k : ℕ) → FitsDownTo E b trie c keys end → (Fits E trie end k → ⊥)
      → Descends E b trie c (keys ++ k ∷ []) (Some k) end
  missing_descends per c end [] k d misses = inr ((λ f. misses (fits_alike E per trie c end k (same_symm E per end c d) f)), refl, d)
  missing_descends per c end (j ∷ ks) k d misses = inl (d.0, missing_descends per (replayed b c (steps_at trie j)) end ks k d.1 misses)

-- jobs with one more, that of the segment k
module _ {R P : Type 0} (trie : TrieOf (StoredRun R P)) (k : ℕ) (end : Configuration R P) where
  abbrev pub job : Planned R P
  job = record { key = k; entry = end; steps = steps_at trie k }

  pub job_is : (made : Planned R P) → Some made ≡ job_of trie (Some k) end → made ≡ job
  job_is made same = cc

  job_again : (jobs : List (Planned R P)) → has k (map key_of jobs) ≡ true → jobs ≡ with_job jobs (job_of trie (Some k) end)
  job_again jobs there = sym (ap (λ t. cond t jobs (jobs ++ job ∷ [])) there)

  job_new : (jobs : List (Planned R P)) → has k (map key_of jobs) ≡ false → with_job jobs (job_of trie (Some k) end) ≡ jobs ++ job ∷ []
  job_new jobs other = ap (λ t. cond t jobs (jobs ++ job ∷ [])) other

  keys_more : (jobs : List (Planned R P)) (j : ℕ) → has j (map key_of (jobs ++ job ∷ [])) ≡ has j (map key_of jobs) || has j (k ∷ [])
  keys_more jobs j = ap (has j) (map-append key_of jobs (job ∷ [])) ∙ has-append j (map key_of jobs) (k ∷ [])

-- nothing has been visited yet
pub none_seen : {R P : Type 0} (E : R → R → Bool) (is : R → Behaviour P) (trie : TrieOf (StoredRun R P)) (start : Configuration R P) (seen : List (Option Bool)) (jobs : List (Planned R P)) → seen ≡ [] → jobs ≡ []
    → AreSeen E is trie start seen jobs
none_seen E is trie start seen jobs nothing_found no_jobs k =
    subst (λ l. IsRightAt E is trie start jobs k (found_fit_at l k)) (sym nothing_found) (subst (λ l. has k (map key_of l) ≡ false) (sym no_jobs) refl)

-- a visit of a key adds the key's job or nothing
abbrev pub AddsAtMostOneJob : {R P : Type 0} → TrieOf (StoredRun R P) → ℕ → List (Planned R P) → List (Planned R P) → Type 0
AddsAtMostOneJob {R} {P} trie key old new = (new ≡ old) ⊎ ((end : Configuration R P) × (new ≡ old ++ record { key = key; entry = end; steps = steps_at trie key } ∷ []))

-- after a visit of a key, a segment with a job still has one
still_has_job : {R P : Type 0} (trie : TrieOf (StoredRun R P)) (key : ℕ) (old new : List (Planned R P)) → AddsAtMostOneJob trie key old new → (m : ℕ) → has m (map key_of old) ≡ true → has m (map key_of new) ≡ true
still_has_job trie key old new (inl same) m h = ap (λ l. has m (map key_of l)) same ∙ h
still_has_job trie key old new (inr more) m h =
    ap (λ l. has m (map key_of l)) more.1 ∙ keys_more trie key more.0 old m ∙ or_left (has m (map key_of old)) (has m (key ∷ [])) h

-- after a visit of a key, a segment other than the key's still has no job
still_lacks_job : {R P : Type 0} (trie : TrieOf (StoredRun R P)) (key : ℕ) (old new : List (Planned R P)) → AddsAtMostOneJob trie key old new → (m : ℕ) → (m ≡ key → ⊥) → has m (map key_of old) ≡ false
    → has m (map key_of new) ≡ false
still_lacks_job trie key old new (inl same) m other h = ap (λ l. has m (map key_of l)) same ∙ h
still_lacks_job trie key old new (inr more) m other h =
    ap (λ l. has m (map key_of l)) more.1 ∙ keys_more trie key more.0 old m ∙ ap (λ t. t || (nat_eq m key || false)) h ∙ ap (λ t. t || false) (ne_eqb m key other)

module _ {R P : Type 0} (E : R → R → Bool) (per : IsPartialEquivalence E) (is : R → Behaviour P) (alike : (x y : R) → E x y ≡ true → is x ≡ is y)
    (trie : TrieOf (StoredRun R P)) (start : Configuration R P) where
  abbrev b : Behaviour P
  b = is start.register

  descended_again : (old jobs : List (Planned R P)) (last : Option ℕ) (fits : Bool) → HasDescended E is trie start old jobs last fits → HasDescended E is trie start jobs jobs last fits
  descended_again old jobs last true c = (c.0, refl)
  descended_again old jobs last false c = λ i h. let p = c i h in (p.0, p.1, p.2, p.3, job_again trie p.0 p.1 jobs p.3)

  -- one key further down
  module _ (whole : IsCut trie) (key : ℕ) (above : Option ℕ) (each : IsAbove trie key above) where
    pub descended_unfit : (old jobs : List (Planned R P)) → HasDescended E is trie start old jobs above false → HasDescended E is trie start old jobs (Some key) false
    descended_unfit old jobs c = λ i h.
        let keys = keys_in trie.branches i in
        let s = above_step E per is alike trie whole start key above each i h in
        let p = c i s.reached in
        (p.0, p.1, subst (λ l. Descends E b trie start l (Some p.0) p.1) (sym s.is) (descends_more E b trie start p.1 (keys_to keys above) (key ∷ []) p.0 p.2), p.3, p.4)

    pub descended_fit : (old jobs new : List (Planned R P)) → HasDescended E is trie start old jobs above true → HasTrueRun E is trie (exit_or_start trie start above) key → new ≡ jobs
        → HasDescended E is trie start old new (Some key) true
    descended_fit old jobs new c run same = (
      λ i h.
          let keys = keys_in trie.branches i in
          let s = above_step E per is alike trie whole start key above each i h in
          runs_to_next E per is alike trie key run.stored run.noted run.true_run run.fits.steps start keys above s
          (down_same E per is alike trie b start (keys_to keys above) run.stored.run.entry (exit_or_start trie start above) run.fits.entry (c.0 i s.reached)),
      same ∙ c.1,
    )

    pub descended_missed : (old jobs new : List (Planned R P)) → HasDescended E is trie start old jobs above true → has key (map key_of jobs) ≡ false → (Fits E trie (exit_or_start trie start above) key → ⊥)
        → new ≡ jobs ++ record { key = key; entry = exit_or_start trie start above; steps = steps_at trie key } ∷ [] → HasDescended E is trie start old new (Some key) false
    descended_missed old jobs new c other misses added = λ i h.
        let keys = keys_in trie.branches i in
        let s = above_step E per is alike trie whole start key above each i h in
        let end = exit_or_start trie start above in
        let down = runs_fit E per is alike trie b start (keys_to keys above) end (c.0 i s.reached) in
        let lacks : has key (map key_of old) ≡ false = ap (λ l. has key (map key_of l)) (sym c.1) ∙ other in (
          key,
          end,
          subst (λ l. Descends E b trie start l (Some key) end) (sym s.is) (missing_descends E b trie per start end (keys_to keys above) key down misses),
          ap (λ l. has key (map key_of l)) added ∙ keys_more trie key end jobs key ∙ or_right (has key (map key_of jobs)) (has key (key ∷ [])) (has-head key []),
          added ∙ ap (λ l. l ++ job trie key end ∷ []) c.1 ∙ sym (job_new trie key end old lacks),
        )

  -- what was found stays so, and the key visited is now known
  pub seen_after : (seen after : List (Option Bool)) (jobs new : List (Planned R P)) (key : ℕ) (fits : Bool) → AreSeen E is trie start seen jobs → found_fit_at after key ≡ Some fits
      → ((k : ℕ) → (k ≡ key → ⊥) → found_fit_at after k ≡ found_fit_at seen k) → HasDescended E is trie start new new (Some key) fits → AddsAtMostOneJob trie key jobs new → AreSeen E is trie start after new
  seen_after seen after jobs new key fits were at others now adds_at_most_one = λ k. by_key k key (IsRightAt E is trie start new k (found_fit_at after k))
      (λ e. subst (λ j. IsRightAt E is trie start new j (found_fit_at after j)) (sym e) (subst (IsRightAt E is trie start new key) (sym at) (by fits now)))
      (λ ne. subst (IsRightAt E is trie start new k) (sym (others k ne)) (still k ne (found_fit_at seen k) (were k)))
    where
      by : (f : Bool) → HasDescended E is trie start new new (Some key) f → IsRightAt E is trie start new key (Some f)
      by true h = h
      by false h = h

      still : (k : ℕ) → (k ≡ key → ⊥) → (s : Option Bool) → IsRightAt E is trie start jobs k s → IsRightAt E is trie start new k s
      still k ne None h = still_lacks_job trie key jobs new adds_at_most_one k ne h
      still k ne (Some true) h = (h.0, refl)
      still k ne (Some false) h = λ i r. let p = h i r in let there = still_has_job trie key jobs new adds_at_most_one p.0 p.3 in (p.0, p.1, p.2, there, job_again trie p.0 p.1 new there)

  -- a visit of a key, if runs don't fit down to the key above
  module _ (whole : IsCut trie) (key : ℕ) (above : Option ℕ) (each : IsAbove trie key above) (jobs : List (Planned R P)) where
    pub visit_unfit : (old : List (Planned R P)) → HasDescendedAbove E is trie start old jobs key false → HasDescended E is trie start old jobs (Some key) false
    visit_unfit old c = descended_unfit whole key above each old jobs (c above each)

    pub seen_unfit : (seen after : List (Option Bool)) → AreSeen E is trie start seen jobs → found_fit_at after key ≡ Some false → ((k : ℕ) → (k ≡ key → ⊥) → found_fit_at after k ≡ found_fit_at seen k)
        → (old : List (Planned R P)) × HasDescendedAbove E is trie start old jobs key false → AreSeen E is trie start after jobs
    seen_unfit seen after were at others c =
        seen_after seen after jobs jobs key false were at others (descended_again c.0 jobs (Some key) false (visit_unfit c.0 c.1)) (inl refl)

    module _ (fits : Bool) (new : List (Planned R P)) (looks : FitsOrAddsJob E is trie (exit_or_start trie start above) key fits jobs new) (lacks : has key (map key_of jobs) ≡ false) where
      pub visit_below : (old : List (Planned R P)) → HasDescendedAbove E is trie start old jobs key true → HasDescended E is trie start old new (Some key) fits
      visit_below old c = by fits looks
        where
          by : (f : Bool) → FitsOrAddsJob E is trie (exit_or_start trie start above) key f jobs new → HasDescended E is trie start old new (Some key) f
          by true l = descended_fit whole key above each old jobs new (c above each) l.0 l.1
          by false l = descended_missed whole key above each old jobs new (c above each) lacks l.0 l.1

      adds_at_most_one : AddsAtMostOneJob trie key jobs new
      adds_at_most_one = by fits looks
        where
          by : (f : Bool) → FitsOrAddsJob E is trie (exit_or_start trie start above) key f jobs new → AddsAtMostOneJob trie key jobs new
          by true l = inl l.1
          by false l = inr (exit_or_start trie start above, l.1)

      pub seen_below : (seen after : List (Option Bool)) → AreSeen E is trie start seen jobs → found_fit_at after key ≡ Some fits → ((k : ℕ) → (k ≡ key → ⊥) → found_fit_at after k ≡ found_fit_at seen k)
          → (old : List (Planned R P)) × HasDescendedAbove E is trie start old jobs key true → AreSeen E is trie start after new
      seen_below seen after were at others c =
          seen_after seen after jobs new key fits were at others (descended_again c.0 new (Some key) fits (visit_below c.0 c.1)) adds_at_most_one

  -- what is known of a key that was visited or is marked is true
  known_descended : (seen : List (Option Bool)) (jobs : List (Planned R P)) (last : Option ℕ) (fits : Bool) → IsEquivalence E
      → AreSeen E is trie start seen jobs → IsKnownAt (λ k. RunsToOnAll E is trie start (Some k)) seen last fits → HasDescended E is trie start jobs jobs last fits
  known_descended seen jobs None fits equal are_seen known =
      subst (HasDescended E is trie start jobs jobs None) (sym known) ((λ i h. record { register = equal.refl start.register; memory = refl; running = refl; stopped = refl }), refl)
  known_descended seen jobs (Some k) fits equal are_seen (inl known) = subst (HasDescended E is trie start jobs jobs (Some k)) (sym known.1) (known.0, refl)
  known_descended seen jobs (Some k) fits equal are_seen (inr known) = by fits (subst (IsRightAt E is trie start jobs k) known (are_seen k))
    where
      by : (f : Bool) → IsRightAt E is trie start jobs k (Some f) → HasDescended E is trie start jobs jobs (Some k) f
      by true h = h
      by false h = h

-- a walk down a branch has passed a key, or is above the first; the keys `left` are still to go,
-- and weren't visited
pub record IsPlanning {R P : Type 0} (E : R → R → Bool) (is : R → Behaviour P) (trie : TrieOf (StoredRun R P)) (start : Configuration R P) (old jobs : List (Planned R P)) (seen : List (Option Bool))
    (i : ℕ) (left : List ℕ) (fits : Bool) : Type 0 where
  pub above : Option ℕ
  pub reached : HasClimbedTo (keys_in trie.branches i) above
  pub path : keys_in trie.branches i ≡ keys_to (keys_in trie.branches i) above ++ left
  pub lacks : (k : ℕ) → has k left ≡ true → found_fit_at seen k ≡ None
  pub are_seen : AreSeen E is trie start seen jobs
  pub descended : HasDescended E is trie start old jobs above fits

module _ {R P : Type 0} (E : R → R → Bool) (per : IsPartialEquivalence E) (is : R → Behaviour P) (alike : (x y : R) → E x y ≡ true → is x ≡ is y)
    (trie : TrieOf (StoredRun R P)) (start : Configuration R P) (old : List (Planned R P)) (i : ℕ) where
  pub planning_starts : (seen was : List (Option Bool)) (left given : List ℕ) (fits : Bool) → IsEquivalence E → AreSeen E is trie start seen old
      → was ≡ seen → given ≡ left → IsUnseenPart (λ k. RunsToOnAll E is trie start (Some k)) was (keys_in trie.branches i) fits left → IsPlanning E is trie start old old seen i given fits
  planning_starts seen was left given fits equal are_seen found same unseen =
      let part = subst (λ l. IsUnseenPart (λ k. RunsToOnAll E is trie start (Some k)) l (keys_in trie.branches i) fits left) found unseen in
      subst (λ l. IsPlanning E is trie start old old seen i l fits) (sym same) (record {
        above = part.above;
        reached = part.reached;
        path = part.path;
        lacks = part.lacks;
        are_seen = are_seen;
        descended = known_descended E per is alike trie start seen old part.above fits equal are_seen part.known;
      })

  module _ (jobs : List (Planned R P)) (seen : List (Option Bool)) (key : ℕ) (rest : List ℕ) (fits : Bool) (p : IsPlanning E is trie start old jobs seen i (key ∷ rest) fits) where
    abbrev keys : List ℕ
    keys = keys_in trie.branches i

    next_there : has key keys ≡ true
    next_there = ap (has key) p.path ∙ has-in key (keys_to keys p.above) rest

    next_descended : HasDescendedAbove E is trie start old jobs key fits
    next_descended = λ above each.
        let same : above ≡ p.above = each i (keys_to keys p.above) rest p.path ∙ last_reached keys p.above p.reached in
        subst (λ o. HasDescended E is trie start old jobs o fits) (sym same) p.descended

    planning_on : IsCut trie → (new : List (Planned R P)) (after : List (Option Bool)) (found : Bool) → AreSeen E is trie start after new
        → ((k : ℕ) → (k ≡ key → ⊥) → found_fit_at after k ≡ found_fit_at seen k) → HasDescended E is trie start old new (Some key) found → IsPlanning E is trie start old new after i rest found
    planning_on whole new after found are_seen others come =
        let front = keys_to keys p.above in
        let once : Once (front ++ key ∷ rest) = subst Once p.path (path_once trie whole i) in
        let up : keys_up_to key keys ≡ front ++ key ∷ [] = ap (keys_up_to key) p.path ∙ up_to-here key front rest (once_before front key rest once) in
        record {
          above = Some key;
          reached = next_there;
          path = p.path ∙ sym (append_assoc front (key ∷ []) rest) ∙ ap (λ l. l ++ rest) (sym up);
          lacks = λ k h. others k (λ same. true≢false (sym (subst (λ j. has j rest ≡ true) same h) ∙ once_after front key rest once)) ∙ p.lacks k (has-tail k key rest h);
          are_seen = are_seen;
          descended = come;
        }

  -- the next key, by its index
  module _ {jobs : List (Planned R P)} {seen : List (Option Bool)} (keys : List ℕ) (index : ℕ) (fits : Bool) (less : index < length keys) (p : IsPlanning E is trie start old jobs seen i (drop index keys) fits) where
    abbrev key : ℕ
    key = get_or keys index 0

    planning_at : IsPlanning E is trie start old jobs seen i (key ∷ drop (index + 1) keys) fits
    planning_at =
        let step : suc index ≡ index + 1 = omega arith in
        subst (λ l. IsPlanning E is trie start old jobs seen i l fits) (drop-cons keys index 0 less ∙ ap (λ n. key ∷ drop n keys) step) p

    pub next_fits : StepsFit (is start.register) (forest trie) → AllFit (is start.register) (steps_at trie key)
    next_fits fit =
        segment_fits (is start.register) trie (keys_in trie.branches i) key (next_there jobs seen key (drop (index + 1) keys) fits planning_at) (fits_on (is start.register) trie fit i (keys_in trie.branches i) refl)

    pub next_unseen : found_fit_at seen key ≡ None
    next_unseen = planning_at.lacks key (has-head key (drop (index + 1) keys))

    pub next_above : HasDescendedAbove E is trie start old jobs key fits
    next_above = next_descended jobs seen key (drop (index + 1) keys) fits planning_at

    pub planning_next : {new : List (Planned R P)} {after : List (Option Bool)} {found : Bool} → IsCut trie → AreSeen E is trie start after new → ((k : ℕ) → (k ≡ key → ⊥) → found_fit_at after k ≡ found_fit_at seen k)
        → HasDescended E is trie start old new (Some key) found → IsPlanning E is trie start old new after i (drop (index + 1) keys) found
    planning_next {new} {after} {found} whole = planning_on jobs seen key (drop (index + 1) keys) fits planning_at whole new after found

  pub planning_ends : (jobs : List (Planned R P)) (seen : List (Option Bool)) (left : List ℕ) (fits : Bool) → left ≡ [] → IsPlanning E is trie start old jobs seen i left fits
      → (missed : Option ℕ) × (end : Configuration R P) × Descends E (is start.register) trie start (keys_in trie.branches i) missed end × (jobs ≡ with_job old (job_of trie missed end))
  planning_ends jobs seen left fits none p = by fits p.descended
    where
      all : keys_to (keys_in trie.branches i) p.above ≡ keys_in trie.branches i
      all = sym (p.path ∙ ap (λ l. keys_to (keys_in trie.branches i) p.above ++ l) none ∙ append-nil (keys_to (keys_in trie.branches i) p.above))

      by : (f : Bool) → HasDescended E is trie start old jobs p.above f
          → (missed : Option ℕ) × (end : Configuration R P) × Descends E (is start.register) trie start (keys_in trie.branches i) missed end × (jobs ≡ with_job old (job_of trie missed end))
      by true c =
          let end = exit_or_start trie start p.above in
          let down = runs_fit E per is alike trie (is start.register) start (keys_to (keys_in trie.branches i) p.above) end (c.0 i p.reached) in
          (None, end, subst (λ l. Descends E (is start.register) trie start l None end) all (fits_descends E (is start.register) trie start end (keys_to (keys_in trie.branches i) p.above) down), c.1)
      by false c =
          let m = c i p.reached in
          (Some m.0, m.1, subst (λ l. Descends E (is start.register) trie start l (Some m.0) m.1) all m.2, m.4)
