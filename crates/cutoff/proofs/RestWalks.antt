-- A walk down the remaining segments of a branch, below those that are known to have fitting runs.
use Rattle.std.proofs.Common.{◌≡◌, ◌⊎◌, ℕ, suc, drop, get_or, ◌+◌, ◌-◌, ◌<◌, ◌≤◌, Bool, true, false, List, [], ◌∷◌, ◌++◌, length, map, Option, Some, None, IsSome, inl, inr, refl, sym, ap, subst, ◌∙◌, arith, append_assoc, append-nil, true≢false}
use Rattle.std.specs.Prelude.{min}
use Rattle.std.specs.Cmp.{IsPartialEquivalence, IsEquivalence}
use Rattle.std.specs.Option.{option_map, IfSome}
use Rattle.std.proofs.Math.Seq.{drop-cons}
use Rattle.std.proofs.lemmas.List.{length-append, length-map, drop_all}
use Rattle.frames.specs.Behaviour.{Behaviour}
use Rattle.frames.specs.Configuration.{Configuration, replayed}
use Rattle.frames.specs.Equality.{SameConfiguration}
use Rattle.frames.specs.Recorded.{AllFit}
use Rattle.frames.specs.laws.WithoutRegister.{register_kept, same_symm}
use Rattle.checkpoints.specs.Runs.{SegmentRun, IsTrueRun}
use Rattle.schedule_trie.specs.Forest.{step_of}
use Rattle.schedule_trie.specs.Trie.{TrieOf, SegmentOf, segment_at, slots_of, note_of, line, has, Once, keys_in, IsCut}
use Rattle.schedule_trie.specs.Climbs.{keys_up_to, keys_to, last_from}
use Rattle.schedule_trie.proofs.climbs.Climbs.{up_to-here}
use Rattle.schedule_trie.proofs.lists.NoRepeats.{has-head, has-in, once_before, has-left, last_from-push}
use Rattle.schedule_trie.proofs.limbs.OwnParts.{last_reached}
use Rattle.schedule_trie.proofs.lists.KeyPositions.{parting}
use Rattle.schedule_trie.proofs.edits.Pushes.{line-append}
use Rattle.cutoff.specs.Fitting.{StoredRun, bare_run, RunPart, steps_at, run_at, reached}
use Rattle.cutoff.specs.Settles.{ReplaysIfNeeded, IsSegmentSettled, Settles, EndsWith, SettlesTo}
use Rattle.cutoff.specs.Prefixes.{RunsDown, RunsTo, RunsHang, EndsIn, IsRest, note_if_any, exit_or_start, exit_or}
use Rattle.cutoff.proofs.Fits.{run_fits_alike, fits_from_run_fits, exit_same}
use Rattle.cutoff.proofs.HungRuns.{hang_kept, hang_down}
use Rattle.cutoff.proofs.Prefixes.{down_same, down_more, down_kept}
use Rattle.cutoff.proofs.Walks.{reached_none, IsWalking, walk_starts, walk_on, fits_here, exit_of, exit_of-last}
use Rattle.cutoff.proofs.Keys.{path_once}
use Rattle.cutoff.proofs.Noted.{noted_still, noted_at, noted_cells}

-- the walk has passed the key `above`, or is above the first key; the segments `left` are still to
-- go
pub record IsRestWalk {R P : Type 0} (E : R → R → Bool) (is : R → Behaviour P) (old trie : TrieOf (StoredRun R P)) (start : Configuration R P) (key count : ℕ)
    (keys left back : List ℕ) (place n : ℕ) (above : Option ℕ) : Type 0 where
  pub done : List ℕ
  pub last : last_from None done ≡ above
  pub path : keys_up_to key keys ≡ done ++ left
  pub whole : keys ≡ done ++ (left ++ back)
  pub down : RunsDown E is trie (is start.register) start done (exit_or_start trie start above)
  pub rest : ℕ
  pub parts : List (RunPart R P)
  pub walk : IsWalking E (is start.register) old trie start keys (left ++ back) place rest n parts
  pub from : exit_of start parts ≡ exit_or_start trie start above
  pub ahead : EndsIn old key count rest left ⊎ ((left ≡ []) × (rest ≡ 0) × (above ≡ Some key) × EndsWith trie key count parts)
  pub once : Once keys
  pub positive : 0 < count
  pub within : count ≤ length (slots_of (segment_at old.segments key))

-- the place is `rest` cells further on, which is at least one
rest_positive : {R P : Type 0} (old : TrieOf (StoredRun R P)) (key count rest : ℕ) (left : List ℕ) → 0 < count → EndsIn old key count rest left → 0 < rest
rest_positive old key count rest left some ends = let s = ends.sum in omega arith

-- a list with a last key isn't empty
not_empty : (front : List ℕ) (key : ℕ) → [] ≡ front ++ key ∷ [] → ⊥
not_empty [] key e = cc
not_empty (k ∷ front) key e = cc

-- each segment has a step
some_steps : {T : Type 0} (o : Option (SegmentOf T)) → IsSome o → IfSome o (λ p. (0 < length p.slots) × (length p.slots ≤ 128)) → 0 < length (map step_of (slots_of o))
some_steps None h s = absurd (true≢false (sym h))
some_steps (Some p) h s = let some = s.0 in let e : length (map step_of p.slots) ≡ length p.slots = length-map p.slots step_of in omega arith

-- the walk goes on after one more settled segment
module _ {R P : Type 0} (E : R → R → Bool) (equal : IsEquivalence E) (per : IsPartialEquivalence E) (is : R → Behaviour P) (alike : (x y : R) → E x y ≡ true → is x ≡ is y)
    (old trie : TrieOf (StoredRun R P)) (start : Configuration R P) (key count : ℕ) (keys ks back : List ℕ) (k place n : ℕ) (above : Option ℕ)
    (g : IsRestWalk E is old trie start key count keys (k ∷ ks) back place n above) where
  ends_here : EndsIn old key count g.rest (k ∷ ks)
  ends_here = by g.ahead
    where
      by : EndsIn old key count g.rest (k ∷ ks) ⊎ ((k ∷ ks ≡ []) × (g.rest ≡ 0) × (above ≡ Some key) × EndsWith trie key count g.parts) → EndsIn old key count g.rest (k ∷ ks)
      by (inl e) = e
      by (inr f) = let none = f.0 in cc

  pub rest_not_zero : g.rest ≡ 0 → ⊥
  rest_not_zero e = let m = rest_positive old key count g.rest (k ∷ ks) g.positive ends_here in omega arith

  pub small_left : length (steps_at trie k) ≤ 128
  small_left =
      let same : length (steps_at trie k) ≡ length (steps_at old k) = ap (λ o. length (map step_of (slots_of o))) (g.walk.ahead k (has-head k (ks ++ back))) in
      let s = g.walk.small k in omega (arith, same, s)

  pub fits_left : AllFit (is start.register) (steps_at trie k)
  fits_left =
      subst (λ b. AllFit b (steps_at trie k)) (alike (exit_of start g.parts).register start.register (subst (λ r. E (exit_of start g.parts).register r ≡ true) g.walk.same_register g.walk.same.register))
      (fits_here E equal per is alike old trie start keys (ks ++ back) k place g.rest n g.parts g.walk rest_not_zero)

  lacks_here : has k g.done ≡ false
  lacks_here = once_before g.done k (ks ++ back) (subst Once g.whole g.once)

  module _ (new : TrieOf (StoredRun R P)) (s : StoredRun R P) (work : ℕ) (settled : IsSegmentSettled E trie new (exit_or_start trie start above) k s work)
      (true_run : IsTrueRun (is s.run.entry.register) s.run) where
    abbrev run : SegmentRun R P
    run = s.run

    pub noted_here : note_of (segment_at new.segments k) ≡ Some s
    noted_here =
        let there : IsSome (segment_at trie.segments k) = subst IsSome (sym (g.walk.ahead k (has-head k (ks ++ back)))) (g.walk.there k (has-head k (ks ++ back))) in
        noted_at s (segment_at trie.segments k) (segment_at new.segments k) settled.noted.here there

    steps_still : steps_at new k ≡ steps_at trie k
    steps_still = ap (map step_of) (noted_cells s (segment_at trie.segments k) (segment_at new.segments k) settled.noted.here)

    exit_here : exit_or_start new start (Some k) ≡ run.exit
    exit_here = ap (λ o. exit_or start (option_map bare_run o)) noted_here

    down_here : RunsDown E is new (is start.register) start (g.done ++ k ∷ []) (exit_or_start new start (Some k))
    down_here =
        let kept = down_kept E is trie new (is start.register) start g.done (exit_or_start trie start above)
        (λ j h. settled.noted.others j (λ e. true≢false (sym (subst (λ i. has i g.done ≡ true) e h) ∙ lacks_here))) g.down in
        subst (RunsDown E is new (is start.register) start (g.done ++ k ∷ [])) (sym exit_here)
        (down_more E per is alike new k s noted_here true_run (settled.fits.steps ∙ sym steps_still) (is start.register) start g.done refl
        (down_same E per is alike new (is start.register) start g.done run.entry (exit_or_start trie start above) settled.fits.entry kept))

    -- if nothing is replayed, the segment's run stays stored
    pub kept_here : IsCut old → work ≡ 0 → run_at new k ≡ run_at old k
    kept_here whole none = by settled.work
      where
        by : ReplaysIfNeeded E trie (exit_or_start trie start above) k run work → run_at new k ≡ run_at old k
        by (inl f) = ap (option_map bare_run) noted_here ∙ sym f.1 ∙ ap (λ o. option_map bare_run (note_of o)) (g.walk.ahead k (has-head k (ks ++ back)))
        by (inr f) =
            let some = some_steps (segment_at old.segments k) (g.walk.there k (has-head k (ks ++ back))) (whole.sizes k) in
            let same : length (steps_at trie k) ≡ length (steps_at old k) = ap (λ o. length (map step_of (slots_of o))) (g.walk.ahead k (has-head k (ks ++ back))) in
            let all : work ≡ length (steps_at trie k) = f.1 in
            absurd (omega arith)

    abbrev count_here : ℕ
    count_here = min g.rest (length run.steps)

    walk_here : IsWalking E (is start.register) old new start keys (ks ++ back) place (g.rest - count_here) (n + work) (g.parts ++ record { run = run; count = count_here } ∷ [])
    walk_here =
        walk_on E equal per is alike old trie start keys (ks ++ back) k place g.rest n g.parts g.walk rest_not_zero
        new s work count_here (g.rest - count_here) (n + work) (subst (λ d. IsSegmentSettled E trie new d k s work) (sym g.from) settled) true_run refl refl refl

    run_len : length run.steps ≡ length (steps_at old k)
    run_len = ap length settled.fits.steps ∙ ap (λ o. length (map step_of (slots_of o))) (g.walk.ahead k (has-head k (ks ++ back)))

    ahead_here : (e : EndsIn old key count g.rest (k ∷ ks))
        → EndsIn old key count (g.rest - count_here) ks
        ⊎ ((ks ≡ []) × (g.rest - count_here ≡ 0) × (Some k ≡ Some key) × EndsWith new key count (g.parts ++ record { run = run; count = count_here } ∷ []))
    ahead_here e = by e.front e.is e.sum
      where
        by : (front : List ℕ) → k ∷ ks ≡ front ++ key ∷ [] → length (line (segment_at old.segments) front) + count ≡ g.rest
            → EndsIn old key count (g.rest - count_here) ks
            ⊎ ((ks ≡ []) × (g.rest - count_here ≡ 0) × (Some k ≡ Some key) × EndsWith new key count (g.parts ++ record { run = run; count = count_here } ∷ []))
        by [] is_last sum =
            let one : k ≡ key = cc in
            let none : ks ≡ [] = cc in
            let named : length (steps_at old k) ≡ length (slots_of (segment_at old.segments key)) =
            length-map (slots_of (segment_at old.segments k)) step_of ∙ ap (λ j. length (slots_of (segment_at old.segments j))) one in
            let all = g.within in
            let len = run_len in
            let same : count_here ≡ count = omega (arith, named, all, len, sum) in
            inr (
              none,
              omega (arith, same, sum),
              ap Some one,
              record {
                before = g.parts;
                stored = s;
                noted = subst (λ j. note_of (segment_at new.segments j) ≡ Some s) one noted_here;
                is = ap (λ m. g.parts ++ record { run = run; count = m } ∷ []) same;
              },
            )
        by (j ∷ front) is_last sum =
            let one : k ≡ j = cc in
            let rest : ks ≡ front ++ key ∷ [] = cc in
            let own : length (line (segment_at old.segments) (j ∷ front)) ≡ length (slots_of (segment_at old.segments j)) + length (line (segment_at old.segments) front) =
            length-append (slots_of (segment_at old.segments j)) (line (segment_at old.segments) front) in
            let cells : length (steps_at old k) ≡ length (slots_of (segment_at old.segments j)) = length-map (slots_of (segment_at old.segments k)) step_of ∙ ap (λ i. length (slots_of (segment_at old.segments i))) one in
            let len = run_len in
            inl (record { front = front; is = rest; sum = omega (arith, own, cells, len, sum) })

    -- true runs that fit are stored down to this segment
    pub reached_here : (has k keys ≡ true) × RunsTo E is new start (Some k) keys
    reached_here = (
      ap (has k) g.whole ∙ has-in k g.done (ks ++ back),
      subst (λ l. RunsDown E is new (is start.register) start l (exit_or_start new start (Some k))) (sym (ap (keys_up_to k) g.whole ∙ up_to-here k g.done (ks ++ back) lacks_here)) down_here,
    )

    pub rest_walk_step : IsRestWalk E is old new start key count keys ks back place (n + work) (Some k)
    rest_walk_step = record {
      done = g.done ++ k ∷ [];
      last = last_from-push None g.done k;
      path = g.path ∙ sym (append_assoc g.done (k ∷ []) ks);
      whole = g.whole ∙ sym (append_assoc g.done (k ∷ []) (ks ++ back));
      down = down_here;
      rest = g.rest - count_here;
      parts = g.parts ++ record { run = run; count = count_here } ∷ [];
      walk = walk_here;
      from = exit_of-last start g.parts (record { run = run; count = count_here }) ∙ sym exit_here;
      ahead = ahead_here ends_here;
      once = g.once;
      positive = g.positive;
      within = g.within;
    }

module _ {R P : Type 0} (E : R → R → Bool) (equal : IsEquivalence E) (per : IsPartialEquivalence E) (is : R → Behaviour P) (alike : (x y : R) → E x y ≡ true → is x ≡ is y) where
  -- the walk goes down a part that stored runs fit, and replays nothing
  rest_walk_down : (old trie : TrieOf (StoredRun R P)) (start : Configuration R P) (key count : ℕ) (keys front left back : List ℕ) (place n : ℕ) (above : Option ℕ) (c end : Configuration R P)
      → SameConfiguration E c (exit_or_start trie start above) → is c.register ≡ is start.register
      → RunsDown E is trie (is start.register) c front end → IsRestWalk E is old trie start key count keys (front ++ left) back place n above
      → IsRestWalk E is old trie start key count keys left back place n (last_from above front)
  rest_walk_down old trie start key count keys [] left back place n above c end same own down g = g
  rest_walk_down old trie start key count keys (k ∷ front) left back place n above c end same own down g =
      let s = down.0.stored in
      let noted = down.0.noted in
      let fits = run_fits_alike E per c (exit_or_start trie start above) (steps_at trie k) s.run same down.0.fits in
      let settled : IsSegmentSettled E trie trie (exit_or_start trie start above) k s 0 = record {
        noted = noted_still trie k s noted;
        fits = fits;
        work = inl (fits_from_run_fits E trie (exit_or_start trie start above) k s noted fits, ap (option_map bare_run) noted, refl);
      } in
      let on = rest_walk_step E equal per is alike old trie start key count keys (front ++ left) back k place n above g trie s 0 settled down.0.true_run in
      let none : n + 0 ≡ n = omega arith in
      let here : s.run.exit ≡ exit_or_start trie start (Some k) = sym (ap (λ o. exit_or start (option_map bare_run o)) noted) in
      rest_walk_down old trie start key count keys front left back place n (Some k) (replayed (is start.register) c (steps_at trie k)) end
      (subst (SameConfiguration E (replayed (is start.register) c (steps_at trie k))) here
      (same_symm E per s.run.exit (replayed (is start.register) c (steps_at trie k)) (exit_same E is alike (is start.register) c (steps_at trie k) s.run own down.0.true_run down.0.fits)))
      (ap is (register_kept (is start.register) c (steps_at trie k)) ∙ own) down.1
      (subst (λ m. IsRestWalk E is old trie start key count keys (front ++ left) back place m (Some k)) none on)

  pub rest_walk_starts : (old : TrieOf (StoredRun R P)) (start : Configuration R P) (fitted : Option ℕ) (left : List ℕ) (key count place i : ℕ) → IsCut old
      → IsRest E is old start fitted left key count place i
      → (back : List ℕ) × IsRestWalk E is old old start key count (keys_in old.branches i) left back place 0 fitted
  rest_walk_starts old start fitted left key count place i whole r =
      let keys = keys_in old.branches i in
      let p = parting keys key r.lies.there in
      let all : keys ≡ keys_up_to key keys ++ p.back = p.is ∙ sym (append_assoc p.front (key ∷ []) p.back) ∙ ap (λ l. l ++ p.back) (sym p.to) in
      let parts : keys ≡ (keys_to keys fitted ++ left) ++ p.back = all ∙ ap (λ l. l ++ p.back) r.path in
      let same : SameConfiguration E start start = record { register = equal.refl start.register; memory = refl; running = refl; stopped = refl } in
      let few = r.lies.within in
      let sum = r.lies.ends.sum in
      let cells : length (line (segment_at old.segments) keys) ≡ length (line (segment_at old.segments) r.lies.ends.front) + (length (slots_of (segment_at old.segments key)) + length (line (segment_at old.segments) p.back)) =
      ap (λ l. length (line (segment_at old.segments) l)) (all ∙ ap (λ l. l ++ p.back) r.lies.ends.is ∙ append_assoc r.lies.ends.front (key ∷ []) p.back)
      ∙ ap length (line-append (segment_at old.segments) r.lies.ends.front (key ∷ p.back))
      ∙ length-append (line (segment_at old.segments) r.lies.ends.front) (slots_of (segment_at old.segments key) ++ line (segment_at old.segments) p.back)
      ∙ ap (λ n. length (line (segment_at old.segments) r.lies.ends.front) + n) (length-append (slots_of (segment_at old.segments key)) (line (segment_at old.segments) p.back)) in
      let within : place ≤ length (line (segment_at old.segments) keys) = omega (arith, few, sum, cells) in
      let begun : IsRestWalk E is old old start key count keys (keys_to keys fitted ++ left) p.back place 0 None = record {
        done = [];
        last = refl;
        path = r.path;
        whole = parts;
        down = same;
        rest = place;
        parts = [];
        walk = subst (λ l. IsWalking E (is start.register) old old start keys l place place 0 []) parts
            (walk_starts E equal (is start.register) old start keys place whole (i, refl) r.fits within);
        from = refl;
        ahead = inl (subst (EndsIn old key count place) r.path r.lies.ends);
        once = path_once old whole i;
        positive = r.lies.positive;
        within = r.lies.within;
      } in (
        p.back,
        subst (IsRestWalk E is old old start key count keys left p.back place 0) (last_reached keys fitted r.reached)
            (rest_walk_down old old start key count keys (keys_to keys fitted) left p.back place 0 None start (exit_or_start old start fitted) same refl r.down begun),
      )

-- the walk ends
module _ {R P : Type 0} (E : R → R → Bool) (is : R → Behaviour P) (old trie : TrieOf (StoredRun R P)) (start : Configuration R P) (key count i place n : ℕ) (back : List ℕ) (above : Option ℕ)
    (g : IsRestWalk E is old trie start key count (keys_in old.branches i) [] back place n above) where
  abbrev keys : List ℕ
  keys = keys_in old.branches i

  ended : (rest : ℕ) (parts : List (RunPart R P)) → EndsIn old key count rest [] ⊎ ((◌≡◌ {A = List ℕ} [] []) × (rest ≡ 0) × (above ≡ Some key) × EndsWith trie key count parts)
      → (rest ≡ 0) × (above ≡ Some key) × EndsWith trie key count parts
  ended rest parts (inl e) = absurd (not_empty e.front key e.is)
  ended rest parts (inr f) = (f.1, f.2, f.3)

  pub ends_at : above ≡ Some key
  ends_at = (ended g.rest g.parts g.ahead).1

  pub rest_walk_settles : SettlesTo E is old trie start key count place i n
  rest_walk_settles =
      let end = ended g.rest g.parts g.ahead in
      let none : n + 0 ≡ n = omega arith in
      let sum = g.walk.count in
      let last = end.0 in
      let past : reached old g.rest ([] ++ back) ≡ [] = ap (λ r. reached old r back) end.0 ∙ reached_none old back in
      record {
        parts = g.parts;
        settles = subst (Settles E (is start.register) old trie start place (reached old place keys) g.parts) none
            (subst (λ l. Settles E (is start.register) old trie start place (reached old place keys) l (n + 0)) (append-nil g.parts)
            (g.walk.settles trie [] 0 (λ k h. refl) (subst (λ l. Settles E (is start.register) old trie g.walk.at g.rest l [] 0) (sym past) (refl, refl))));
        sum = omega (arith, sum, last);
        last = end.2;
        down = subst (λ o. RunsDown E is trie (is start.register) start (keys_up_to key keys) (exit_or_start trie start o)) end.1
            (subst (λ l. RunsDown E is trie (is start.register) start l (exit_or_start trie start above)) (sym (g.path ∙ append-nil g.done)) g.down);
      }

-- the walk, if the keys still to go are those of the list `all` from `index` on, and then `more`
module _ {R P : Type 0} (E : R → R → Bool) (equal : IsEquivalence E) (per : IsPartialEquivalence E) (is : R → Behaviour P) (alike : (x y : R) → E x y ≡ true → is x ≡ is y)
    {old trie : TrieOf (StoredRun R P)} {start : Configuration R P} {key count : ℕ} {keys back : List ℕ} {place n : ℕ} {above : Option ℕ} (all : List ℕ) (index : ℕ) (more : List ℕ)
    (g : IsRestWalk E is old trie start key count keys (drop index all ++ more) back place n above) where
  pub rest_walk_past : length all ≤ index → IsRestWalk E is old trie start key count keys more back place n above
  rest_walk_past past = subst (λ l. IsRestWalk E is old trie start key count keys (l ++ more) back place n above) (drop_all index all past) g

  module _ (h : index < length all) where
    rest_walk_at : IsRestWalk E is old trie start key count keys (get_or all index 0 ∷ (drop (index + 1) all ++ more)) back place n above
    rest_walk_at =
        let step : suc index ≡ index + 1 = omega arith in
        subst (λ l. IsRestWalk E is old trie start key count keys (l ++ more) back place n above) (drop-cons all index 0 h ∙ ap (λ j. get_or all index 0 ∷ drop j all) step) g

    pub small_next : length (steps_at trie (get_or all index 0)) ≤ 128
    small_next = small_left E equal per is alike old trie start key count keys (drop (index + 1) all ++ more) back (get_or all index 0) place n above rest_walk_at

    pub fits_next : AllFit (is start.register) (steps_at trie (get_or all index 0))
    fits_next = fits_left E equal per is alike old trie start key count keys (drop (index + 1) all ++ more) back (get_or all index 0) place n above rest_walk_at

    -- `o` is stored right above
    module _ {new : TrieOf (StoredRun R P)} {o : Option (StoredRun R P)} {s : StoredRun R P} {work : ℕ} (above_is : note_if_any trie above ≡ o)
        (settled : IsSegmentSettled E trie new (exit_or start (option_map bare_run o)) (get_or all index 0) s work × IsTrueRun (is s.run.entry.register) s.run) where
      settled_here : IsSegmentSettled E trie new (exit_or_start trie start above) (get_or all index 0) s work
      settled_here = subst (λ p. IsSegmentSettled E trie new (exit_or start (option_map bare_run p)) (get_or all index 0) s work) (sym above_is) settled.0

      pub noted_next : note_of (segment_at new.segments (get_or all index 0)) ≡ Some s
      noted_next =
          noted_here E equal per is alike old trie start key count keys (drop (index + 1) all ++ more) back (get_or all index 0) place n above rest_walk_at
          new s work settled_here settled.1

      pub rest_walk_next : IsRestWalk E is old new start key count keys (drop (index + 1) all ++ more) back place (n + work) (Some (get_or all index 0))
      rest_walk_next =
          rest_walk_step E equal per is alike old trie start key count keys (drop (index + 1) all ++ more) back (get_or all index 0) place n above rest_walk_at
          new s work settled_here settled.1

      pub reached_next : (has (get_or all index 0) keys ≡ true) × RunsTo E is new start (Some (get_or all index 0)) keys
      reached_next =
          reached_here E equal per is alike old trie start key count keys (drop (index + 1) all ++ more) back (get_or all index 0) place n above rest_walk_at
          new s work settled_here settled.1

      pub kept_next : IsCut old → work ≡ 0 → run_at new (get_or all index 0) ≡ run_at old (get_or all index 0)
      kept_next =
          kept_here E equal per is alike old trie start key count keys (drop (index + 1) all ++ more) back (get_or all index 0) place n above rest_walk_at
          new s work settled_here settled.1

-- what is left hangs from a run that stays stored
module _ {R P : Type 0} (E : R → R → Bool) (equal : IsEquivalence E) (per : IsPartialEquivalence E) (is : R → Behaviour P) (alike : (x y : R) → E x y ≡ true → is x ≡ is y)
    (old trie : TrieOf (StoredRun R P)) (start : Configuration R P) (key count i place n : ℕ) (left back : List ℕ) (above : Option ℕ)
    (g : IsRestWalk E is old trie start key count (keys_in old.branches i) left back place n above) where
  exit_register : E (exit_or_start trie start above).register start.register ≡ true
  exit_register = subst (λ (d : Configuration R P). E d.register start.register ≡ true) g.from (subst (λ r. E (exit_of start g.parts).register r ≡ true) g.walk.same_register g.walk.same.register)

  pub hanging_settles : RunsHang E is old (exit_or_start trie start above) left → SettlesTo E is old trie start key count place i n
  hanging_settles hangs =
      let c : Configuration R P = exit_or_start trie start above in
      let here : SameConfiguration E c c = record { register = equal.refl c.register; memory = refl; running = refl; stopped = refl } in
      let own : is c.register ≡ is start.register = alike c.register start.register exit_register in
      let down = hang_down E is per alike trie (is start.register) c c left here own (hang_kept E is old trie c left (λ j h. g.walk.ahead j (has-left j left back h)) hangs) in
      rest_walk_settles E is old trie start key count i place n back (last_from above left)
      (rest_walk_down E equal per is alike old trie start key count (keys_in old.branches i) left [] back place n above c down.0 here own down.1
      (subst (λ l. IsRestWalk E is old trie start key count (keys_in old.branches i) l back place n above) (sym (append-nil left)) g))
