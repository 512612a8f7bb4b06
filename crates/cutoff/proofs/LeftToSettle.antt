-- What is left to settle of a branch: the segments down to `top`, then those whose runs hang from
-- the run at `top`.
use Rattle.std.proofs.Common.{◌≡◌, ℕ, suc, ◌+◌, ◌<◌, Bool, true, List, [], ◌∷◌, ◌++◌, length, drop, get_or, Option, Some, None, refl, sym, ap, subst, ◌∙◌, arith, append-nil, append_assoc, map, inl, inr, ◌⊎◌}
use Rattle.std.specs.Cmp.{IsPartialEquivalence, IsEquivalence}
use Rattle.std.specs.Option.{option_map}
use Rattle.std.proofs.Math.Seq.{drop-cons}
use Rattle.std.proofs.lemmas.List.{append_cancel_left, append_cancel_right}
use Rattle.frames.specs.Behaviour.{Behaviour}
use Rattle.frames.specs.Configuration.{Configuration}
use Rattle.frames.specs.Recorded.{AllFit}
use Rattle.schedule_trie.specs.Trie.{TrieOf, keys_in, has, segment_at, forest}
use Rattle.schedule_trie.specs.Climbs.{keys_up_to, keys_to, last_from, HasClimbedTo}
use Rattle.schedule_trie.specs.Forest.{step_of}
use Rattle.schedule_trie.proofs.lists.NoRepeats.{has-in, has-left}
use Rattle.schedule_trie.proofs.limbs.OwnParts.{last_reached}
use Rattle.schedule_trie.proofs.lists.KeyPositions.{parting}
use Rattle.schedule_trie.proofs.branches.Lines.{slots_in_on}
use Rattle.cutoff.specs.Fitting.{StoredRun, bare_run, run_at}
use Rattle.cutoff.specs.Prefixes.{HasTrueRun, RunsDown, RunsTo, RunsHang, RunsToOnAllWith, RunsToOnAll, AreKeysAfter, IsHung, exit_or_start, exit_or, run_if_any, IsPlaceIn, IsLeftToSettle}
use Rattle.cutoff.specs.Settles.{SettlesTo}
use Rattle.cutoff.specs.Charts.{StepsFit}
use Rattle.cutoff.proofs.Prefixes.{down_same, down_more}
use Rattle.cutoff.proofs.RestWalks.{IsRestWalk, hanging_settles}

-- `keys`, which a second climb lists, are the keys that hang below `top`
module _ {R P : Type 0} (E : R → R → Bool) (is : R → Behaviour P) (old trie : TrieOf (StoredRun R P)) (top key i : ℕ) (last : Option ℕ) (keys : List ℕ) (same : trie.branches ≡ old.branches)
    (h : IsHung E is old top key i) (there : has key (keys_in old.branches i) ≡ true) (following : AreKeysAfter trie (Some key) [] (Some top) last keys)
    (stops : (i f : ℕ) → has key (keys_in trie.branches i) ≡ true → Some top ≡ Some f → has f (keys_up_to key (keys_in trie.branches i)) ≡ true → last ≡ Some top) where
  abbrev path : List ℕ
  path = keys_in old.branches i

  path_same : keys_in trie.branches i ≡ path
  path_same = ap (λ s. keys_in s i) same

  there_now : has key (keys_in trie.branches i) ≡ true
  there_now = subst (λ l. has key l ≡ true) (sym path_same) there

  on_path : has top (keys_up_to key path) ≡ true
  on_path =
      let p = parting path top h.there in
      subst (λ l. has top l ≡ true) (sym h.path) (has-left top (keys_up_to top path) h.below (subst (λ l. has top l ≡ true) (sym p.to) (has-in top p.front [])))

  pub below_is_listed : h.below ≡ keys
  below_is_listed =
      let ends : last ≡ Some top = stops i top there_now refl (subst (λ l. has top (keys_up_to key l) ≡ true) (sym path_same) on_path) in
      let now : keys_up_to key path ≡ keys_to path last ++ keys = subst (λ l. keys_up_to key l ≡ keys_to l last ++ keys) path_same (sym (append-nil (keys_up_to key (keys_in trie.branches i))) ∙ (following.1 i there_now).1) in
      append_cancel_left (keys_up_to top path) h.below keys (sym h.path ∙ now ∙ ap (λ o. keys_to path o ++ keys) ends)

module _ {R P : Type 0} (E : R → R → Bool) (is : R → Behaviour P) (old : TrieOf (StoredRun R P)) where
  -- of runs that hang from one another, the next one, and those after it, which hang from it
  pub hangs_next : (c : Configuration R P) (all : List ℕ) (index : ℕ) → index < length all → RunsHang E is old c (drop index all)
      → (here : HasTrueRun E is old c (get_or all index 0)) × RunsHang E is old here.stored.run.exit (drop (index + 1) all)
  hangs_next c all index h hangs =
      let step : suc index ≡ index + 1 = omega arith in
      subst (RunsHang E is old c) (drop-cons all index 0 h ∙ ap (λ j. get_or all index 0 ∷ drop j all) step) hangs

-- runs that hang are settled if the run that they hang from stays stored
module _ {R P : Type 0} (E : R → R → Bool) (equal : IsEquivalence E) (per : IsPartialEquivalence E) (is : R → Behaviour P) (alike : (x y : R) → E x y ≡ true → is x ≡ is y)
    (old trie : TrieOf (StoredRun R P)) (start : Configuration R P) (key count i place n : ℕ) (back : List ℕ) where
  pub kept_settles : (top : ℕ) (above : Option ℕ) (h : IsHung E is old top key i) → IsRestWalk E is old trie start key count (keys_in old.branches i) h.below back place n above
      → run_if_any trie above ≡ run_if_any old above → SettlesTo E is old trie start key count place i n
  kept_settles top above h g kept =
      let keys = keys_in old.branches i in
      let named : above ≡ Some top = sym g.last ∙ ap (last_from None) (append_cancel_right g.done (keys_up_to top keys) h.below (sym g.path ∙ h.path)) ∙ last_reached keys (Some top) h.there in
      let came : exit_or_start old start (Some top) ≡ exit_or_start trie start above = ap (exit_or_start old start) (sym named) ∙ ap (exit_or start) (sym kept) in
      hanging_settles E equal per is alike old trie start key count i place n h.below back above g (subst (λ c. RunsHang E is old c h.below) came (h.hangs start))

  pub early_settles : (k : ℕ) (c : Configuration R P) (left : List ℕ) (here : HasTrueRun E is old c k) → RunsHang E is old here.stored.run.exit left
      → IsRestWalk E is old trie start key count (keys_in old.branches i) (left ++ []) back place n (Some k) → run_at trie k ≡ run_at old k
      → SettlesTo E is old trie start key count place i n
  early_settles k c left here hangs g kept =
      let came : here.stored.run.exit ≡ exit_or_start trie start (Some k) = sym (ap (exit_or start) (kept ∙ ap (option_map bare_run) here.noted)) in
      hanging_settles E equal per is alike old trie start key count i place n (left ++ []) back (Some k) g
      (subst (λ d. RunsHang E is old d (left ++ [])) came (subst (RunsHang E is old here.stored.run.exit) (sym (append-nil left)) hangs))

-- if runs fit down to a segment, so do those that hang from that segment's run
module _ {R P : Type 0} (E : R → R → Bool) (per : IsPartialEquivalence E) (is : R → Behaviour P) (alike : (x y : R) → E x y ≡ true → is x ≡ is y) (trie : TrieOf (StoredRun R P)) (start : Configuration R P) where
  hung_down : (keys below : List ℕ) (above : Option ℕ) → RunsDown E is trie (is start.register) start keys (exit_or_start trie start above) → RunsHang E is trie (exit_or_start trie start above) below
      → RunsDown E is trie (is start.register) start (keys ++ below) (exit_or_start trie start (last_from above below))
  hung_down keys [] above d h = subst (λ l. RunsDown E is trie (is start.register) start l (exit_or_start trie start above)) (sym (append-nil keys)) d
  hung_down keys (k ∷ below) above d h =
      let s = h.0.stored in
      let came : exit_or_start trie start (Some k) ≡ s.run.exit = ap (λ n. exit_or start (option_map bare_run n)) h.0.noted in
      let entry = down_same E per is alike trie (is start.register) start keys s.run.entry (exit_or_start trie start above) h.0.fits.entry d in
      let more = down_more E per is alike trie k s h.0.noted h.0.true_run h.0.fits.steps (is start.register) start keys refl entry in
      subst (λ l. RunsDown E is trie (is start.register) start l (exit_or_start trie start (last_from (Some k) below))) (append_assoc keys (k ∷ []) below)
      (hung_down (keys ++ k ∷ []) below (Some k) (subst (RunsDown E is trie (is start.register) start (keys ++ k ∷ [])) (sym came) more) (subst (λ c. RunsHang E is trie c below) (sym came) h.1))

  last_from-append : (above : Option ℕ) (keys below : List ℕ) → last_from above (keys ++ below) ≡ last_from (last_from above keys) below
  last_from-append above [] below = refl
  last_from-append above (k ∷ keys) below = last_from-append (Some k) keys below

  hung_runs : (top bottom i : ℕ) → IsHung E is trie top bottom i → has bottom (keys_in trie.branches i) ≡ true → RunsTo E is trie start (Some top) (keys_in trie.branches i)
      → RunsTo E is trie start (Some bottom) (keys_in trie.branches i)
  hung_runs top bottom i h there d =
      let keys = keys_in trie.branches i in
      let named : last_from (Some top) h.below ≡ Some bottom =
      ap (λ o. last_from o h.below) (sym (last_reached keys (Some top) h.there)) ∙ sym (last_from-append None (keys_up_to top keys) h.below) ∙ ap (last_from None) (sym h.path) ∙ last_reached keys (Some bottom) there in
      subst (λ o. RunsDown E is trie (is start.register) start (keys_up_to bottom keys) (exit_or_start trie start o)) named
      (subst (λ l. RunsDown E is trie (is start.register) start l (exit_or_start trie start (last_from (Some top) h.below))) (sym h.path)
      (hung_down (keys_up_to top keys) h.below (Some top) d (h.hangs start)))

  -- if runs fit down to `top`, at which a climb ended, they fit down to `bottom`, at which it began
  pub known_bottom : (key top bottom : ℕ) → ((i : ℕ) → has key (keys_in trie.branches i) ≡ true → has bottom (keys_in trie.branches i) ≡ true)
      → ((i : ℕ) → has key (keys_in trie.branches i) ≡ true → IsHung E is trie top bottom i) → RunsToOnAll E is trie start (Some top) → RunsToOnAllWith E is trie start key (Some bottom)
  known_bottom key top bottom there hung marked = λ i h. (there i h, hung_runs top bottom i (hung i h) (there i h) (marked i (hung i h).there))

-- what is left of each branch with `key`, if runs hang from `top` down to `key`
module _ {R P : Type 0} (E : R → R → Bool) (equal : IsEquivalence E) (is : R → Behaviour P) (trie : TrieOf (StoredRun R P)) (start : Configuration R P) (top key : ℕ) (known fitted : Option ℕ) (left : List ℕ)
    (hangs : (i : ℕ) → has key (keys_in trie.branches i) ≡ true → IsHung E is trie top key i) (down : RunsToOnAllWith E is trie start top known) (last : Option ℕ) (below : List ℕ) (to : (i : ℕ) → has top (keys_in trie.branches i) ≡ true → HasClimbedTo (keys_in trie.branches i) last × (keys_up_to top (keys_in trie.branches i) ≡ keys_to (keys_in trie.branches i) last ++ below))
    (following : AreKeysAfter trie last below known fitted left)
    (fits : StepsFit (is start.register) (forest trie)) where
  pub left_to_settle : (i count place : ℕ) → IsPlaceIn trie key count place i → IsLeftToSettle E is trie start fitted left top key count place i
  left_to_settle i count place lies =
      let on = hangs i lies.there in
      let up = to i on.there in
      let path = following.1 i up.0 in
      record {
        hanging = on;
        rest = record {
          lies = lies;
          reached = path.0;
          down = by following.0 on.there;
          path = on.path ∙ ap (λ l. l ++ on.below) (up.1 ∙ path.1) ∙ append_assoc (keys_to (keys_in trie.branches i) fitted) left on.below;
          fits = subst (λ l. AllFit (is start.register) (map step_of l)) (slots_in_on (segment_at trie.segments) trie.branches i) (fits i);
        };
      }
    where
      by : (fitted ≡ known) ⊎ (fitted ≡ None) → has top (keys_in trie.branches i) ≡ true → RunsTo E is trie start fitted (keys_in trie.branches i)
      by (inl e) there = subst (λ o. RunsTo E is trie start o (keys_in trie.branches i)) (sym e) (down i there).1
      by (inr e) there =
          subst (λ o. RunsTo E is trie start o (keys_in trie.branches i)) (sym e)
          (record { register = equal.refl start.register; memory = refl; running = refl; stopped = refl })
