-- A walk down a branch that settles one segment after the other.
use Rattle.std.proofs.Common.{◌≡◌, ℕ, ◌+◌, ◌-◌, ◌<◌, ◌≤◌, Bool, true, false, nat_eq, cond, List, [], ◌∷◌, ◌++◌, length, map, Option, Some, None, IsSome, MatchOption, ◌⊎◌, inl, inr, refl, sym, ap, subst, ◌∙◌, arith, append_assoc, true≢false}
use Rattle.std.specs.Prelude.{min}
use Rattle.std.specs.Cmp.{IsPartialEquivalence, IsEquivalence}
use Rattle.std.specs.Option.{option_map, IfSome}
use Rattle.std.specs.Arc.{arc_value}
use Rattle.std.specs.declared.sync.Arc.{Arc}
use Rattle.std.proofs.lemmas.Bool.{eqb-true}
use Rattle.std.proofs.lemmas.List.{length-append, length-map, map-append}
use Rattle.frames.specs.Behaviour.{Behaviour}
use Rattle.frames.specs.Configuration.{Configuration, replayed, fits_step}
use Rattle.frames.specs.Equality.{SameConfiguration}
use Rattle.checkpoints.specs.Runs.{SegmentRun, IsTrueRun}
use Rattle.frames.specs.Recorded.{AllFit}
use Rattle.frames.specs.laws.WithoutRegister.{register_kept, same_symm}
use Rattle.schedule_trie.specs.Forest.{step_of}
use Rattle.schedule_trie.specs.Trie.{TrieOf, SegmentOf, segment_at, slots_of, note_of, line, has, Once, keys_in, IsNoted, IsCut}
use Rattle.schedule_trie.proofs.lists.NoRepeats.{has-head, has-tail, Once-from_linked}
use Rattle.cutoff.specs.Fitting.{StoredRun, RunPart, bare_run, RunFits, Fits, KeepsRuns, steps_at, slots_at, run_at, reached, counted, part_of}
use Rattle.cutoff.specs.Settles.{ReplaysIfNeeded, IsSettledAt, IsSegmentSettled, Settles, GetsRun}
use Rattle.cutoff.proofs.Fits.{run_fits_alike, fits_alike, exit_same}
use Rattle.cutoff.proofs.Lists.{all_left, all_right}
use Rattle.cutoff.proofs.Keys.{by_key, lacks_cons}
use Rattle.cutoff.proofs.Noted.{noted_run, noted_slots}

-- the exit of the last of these runs, or c if there are none
abbrev pub exit_of : {R P : Type 0} → Configuration R P → List (RunPart R P) → Configuration R P
exit_of c [] = c
exit_of c (part ∷ parts) = exit_of part.run.exit parts

module _ {R P : Type 0} where
  -- if no cells are to be reached, no segment is
  pub reached_none : (trie : TrieOf (StoredRun R P)) (ks : List ℕ) → reached trie 0 ks ≡ []
  reached_none trie [] = refl
  reached_none trie (k ∷ ks) = refl

  -- the part of a run of which this many steps count
  abbrev pub part : SegmentRun R P → ℕ → RunPart R P
  part run count = record { run = run; count = count }

  pub exit_of-last : (c : Configuration R P) (parts : List (RunPart R P)) (p : RunPart R P) → exit_of c (parts ++ p ∷ []) ≡ p.run.exit
  exit_of-last c [] p = refl
  exit_of-last c (q ∷ parts) p = exit_of-last q.run.exit parts p

  counted-last : (parts : List (RunPart R P)) (p : RunPart R P) → counted (parts ++ p ∷ []) ≡ counted parts + p.count
  counted-last [] p = omega arith
  counted-last (q ∷ parts) p = let e : counted (parts ++ p ∷ []) ≡ counted parts + p.count = counted-last parts p in omega arith

-- a segment that gets a run (`GetsRun`) still does if its stored run stays
gets_still : {R P : Type 0} (E : R → R → Bool) (b : Behaviour P) (old trie new : TrieOf (StoredRun R P)) (c : Configuration R P) (ks : List ℕ) (k : ℕ)
    → run_at new k ≡ run_at trie k → GetsRun E b old trie c ks k → GetsRun E b old new c ks k
gets_still E b old trie new c [] k same f = f
gets_still E b old trie new c (j ∷ js) k same (inl f) = inl (f.0, f.1, (f.2.0, ap (run_at new) (sym f.0) ∙ same ∙ ap (run_at trie) f.0 ∙ f.2.1, f.2.2))
gets_still E b old trie new c (j ∷ js) k same (inr f) = inr (gets_still E b old trie new (replayed b c (steps_at old j)) js k same f)

-- a walk has passed the runs `parts` and replayed n steps; the segments `left` and `rest` cells are
-- still to go
pub record IsWalking {R P : Type 0} (E : R → R → Bool) (b : Behaviour P) (old trie : TrieOf (StoredRun R P)) (start : Configuration R P)
    (keys left : List ℕ) (place rest n : ℕ) (parts : List (RunPart R P)) : Type 0 where
  pub at : Configuration R P
  pub same_register : at.register ≡ start.register
  pub same : SameConfiguration E (exit_of start parts) at
  pub keeps : KeepsRuns old trie (GetsRun E b old trie start (reached old place keys))
  pub ahead : (k : ℕ) → has k left ≡ true → segment_at trie.segments k ≡ segment_at old.segments k
  pub there : (k : ℕ) → has k left ≡ true → IsSome (segment_at old.segments k)
  pub small : (k : ℕ) → length (steps_at old k) ≤ 128
  pub gets : (new : TrieOf (StoredRun R P)) (k : ℕ) → GetsRun E b old new at (reached old rest left) k → GetsRun E b old new start (reached old place keys) k
  pub settles : (new : TrieOf (StoredRun R P)) (more : List (RunPart R P)) (m : ℕ) → ((k : ℕ) → has k left ≡ false → run_at new k ≡ run_at trie k)
      → Settles E b old new at rest (reached old rest left) more m → Settles E b old new start place (reached old place keys) (parts ++ more) (n + m)
  pub count : counted parts + rest ≡ place
  pub enough : rest ≤ length (line (segment_at old.segments) left)
  pub short : n + length (line (segment_at old.segments) left) ≤ length (line (segment_at old.segments) keys)
  pub once : Once left
  pub fit : AllFit b (map step_of (line (segment_at old.segments) left))

-- the walk begins
module _ {R P : Type 0} (E : R → R → Bool) (equal : IsEquivalence E) (b : Behaviour P) (old : TrieOf (StoredRun R P)) (start : Configuration R P) where
  small_steps : IsCut old → (k : ℕ) → length (steps_at old k) ≤ 128
  small_steps whole k = by (segment_at old.segments k) (whole.sizes k)
    where
      by : (o : Option (SegmentOf (StoredRun R P))) → IfSome o (λ p. (0 < length p.slots) × (length p.slots ≤ 128)) → length (map step_of (slots_of o)) ≤ 128
      by None h = omega arith
      by (Some p) h = let e : length (map step_of p.slots) ≡ length p.slots = length-map p.slots step_of in omega arith

  pub walk_starts : (keys : List ℕ) (place : ℕ) → IsCut old → (branch : (i : ℕ) × (keys ≡ keys_in old.branches i))
      → AllFit b (map step_of (line (segment_at old.segments) keys)) → place ≤ length (line (segment_at old.segments) keys)
      → IsWalking E b old old start keys keys place place 0 []
  walk_starts keys place whole branch fit within = record {
    at = start;
    same_register = refl;
    same = record { register = equal.refl start.register; memory = refl; running = refl; stopped = refl };
    keeps = record { branches = refl; limits = refl; forest_kept = refl; slots = λ k. refl; runs = λ k. inl refl };
    ahead = λ k h. refl;
    there = λ k h. whole.held branch.0 k (subst (λ l. has k l ≡ true) branch.1 h);
    small = small_steps whole;
    gets = λ new k f. f;
    settles = λ new more m same s. let e : m ≡ 0 + m = omega arith in subst (Settles E b old new start place (reached old place keys) more) e s;
    count = omega arith;
    enough = within;
    short = omega arith;
    once = subst Once (sym branch.1) (Once-from_linked whole.shares.above (keys_in old.branches branch.0) (whole.shares.linked branch.0));
    fit = fit;
  }

-- the walk goes on after one more settled segment
module _ {R P : Type 0} (E : R → R → Bool) (equal : IsEquivalence E) (per : IsPartialEquivalence E) (is : R → Behaviour P) (alike : (x y : R) → E x y ≡ true → is x ≡ is y)
    (old trie : TrieOf (StoredRun R P)) (start : Configuration R P) (keys ks : List ℕ) (k place rest n : ℕ) (parts : List (RunPart R P))
    (w : IsWalking E (is start.register) old trie start keys (k ∷ ks) place rest n parts) (wanted : rest ≡ 0 → ⊥) where
  -- what holds before the segment k is settled
  exit_register : E (exit_of start parts).register start.register ≡ true
  exit_register = subst (λ r. E (exit_of start parts).register r ≡ true) w.same_register w.same.register

  here_same : segment_at trie.segments k ≡ segment_at old.segments k
  here_same = w.ahead k (has-head k ks)

  steps_here : steps_at trie k ≡ steps_at old k
  steps_here = ap (λ o. map step_of (slots_of o)) here_same

  line_here : map step_of (line (segment_at old.segments) (k ∷ ks)) ≡ steps_at old k ++ map step_of (line (segment_at old.segments) ks)
  line_here = map-append step_of (slots_of (segment_at old.segments k)) (line (segment_at old.segments) ks)

  fits_old : AllFit (is start.register) (steps_at old k)
  fits_old = all_left (λ s. fits_step (is start.register) s ≡ true) (steps_at old k) (map step_of (line (segment_at old.segments) ks)) (subst (AllFit (is start.register)) line_here w.fit)

  pub fits_here : AllFit (is (exit_of start parts).register) (steps_at trie k)
  fits_here =
      subst (AllFit (is (exit_of start parts).register)) (sym steps_here)
      (subst (λ b. AllFit b (steps_at old k)) (sym (alike (exit_of start parts).register start.register exit_register)) fits_old)

  len_here : length (line (segment_at old.segments) (k ∷ ks)) ≡ length (steps_at old k) + length (line (segment_at old.segments) ks)
  len_here =
      length-append (slots_of (segment_at old.segments k)) (line (segment_at old.segments) ks)
      ∙ ap (λ x. x + length (line (segment_at old.segments) ks)) (sym (length-map (slots_of (segment_at old.segments k)) step_of))

  reached_cons : (c : Bool) → nat_eq rest 0 ≡ c → c ≡ false → reached old rest (k ∷ ks) ≡ k ∷ reached old (rest - length (steps_at old k)) ks
  reached_cons c e f = ap (λ x. cond x [] (k ∷ reached old (rest - length (steps_at old k)) ks)) (e ∙ f)

  reached_is : reached old rest (k ∷ ks) ≡ k ∷ reached old (rest - length (steps_at old k)) ks
  reached_is = by (nat_eq rest 0) refl
    where
      by : (c : Bool) → nat_eq rest 0 ≡ c → reached old rest (k ∷ ks) ≡ k ∷ reached old (rest - length (steps_at old k)) ks
      by true e = absurd (wanted (eqb-true rest 0 e))
      by false e = reached_cons false e refl

  module _ (new : TrieOf (StoredRun R P)) (s : StoredRun R P) (work count rest_after n_after : ℕ) (settled : IsSegmentSettled E trie new (exit_of start parts) k s work)
      (true_run : IsTrueRun (is s.run.entry.register) s.run) (counts : count ≡ min rest (length s.run.steps)) (less : rest_after ≡ rest - count) (more_work : n_after ≡ n + work) where
    abbrev run : SegmentRun R P
    run = s.run

    noted : IsNoted trie new k (Some s)
    noted = settled.noted

    abbrev goes_to : Configuration R P
    goes_to = replayed (is start.register) w.at (steps_at old k)

    fits_at : RunFits E w.at (steps_at old k) run
    fits_at = subst (λ l. RunFits E w.at l run) steps_here (run_fits_alike E per (exit_of start parts) w.at (steps_at trie k) run w.same settled.fits)

    run_len : length run.steps ≡ length (steps_at old k)
    run_len = ap length fits_at.steps

    stored_here : run_at new k ≡ Some run
    stored_here =
        ap (λ o. option_map bare_run (note_of o)) noted.here
        ∙ noted_run s (segment_at trie.segments k) (subst IsSome (sym here_same) (w.there k (has-head k ks)))

    other_segment : (j : ℕ) → (j ≡ k → ⊥) → segment_at new.segments j ≡ segment_at trie.segments j
    other_segment j ne = noted.others j ne

    other_run : (j : ℕ) → (j ≡ k → ⊥) → run_at new j ≡ run_at trie j
    other_run j ne = ap (λ o. option_map bare_run (note_of o)) (other_segment j ne)

    run_here : run_at trie k ≡ run_at old k
    run_here = ap (λ o. option_map bare_run (note_of o)) here_same

    -- a stored run fits k in `trie` just if one did in `old`
    fits_now : Fits E old w.at k → Fits E trie (exit_of start parts) k
    fits_now f = subst (λ o. MatchOption (option_map bare_run (note_of o)) ⊥ (RunFits E (exit_of start parts) (map step_of (slots_of o)))) (sym here_same)
        (fits_alike E per old w.at (exit_of start parts) k (same_symm E per (exit_of start parts) w.at w.same) f)

    fits_was : Fits E trie (exit_of start parts) k → Fits E old w.at k
    fits_was f = fits_alike E per old (exit_of start parts) w.at k w.same
        (subst (λ o. MatchOption (option_map bare_run (note_of o)) ⊥ (RunFits E (exit_of start parts) (map step_of (slots_of o)))) here_same f)

    work_was : ReplaysIfNeeded E old w.at k run work
    work_was = by settled.work
      where
        by : ReplaysIfNeeded E trie (exit_of start parts) k run work → ReplaysIfNeeded E old w.at k run work
        by (inl f) = inl (fits_was f.0, sym run_here ∙ f.1, f.2)
        by (inr m) = inr ((λ f. m.0 (fits_now f)), m.1 ∙ ap length steps_here)

    settled_at : (last : TrieOf (StoredRun R P)) → run_at last k ≡ run_at new k → IsSettledAt E old last w.at rest k (part run count) work
    settled_at last e = record { stored = e ∙ stored_here; fits = fits_at; count = counts ∙ ap (min rest) run_len; work = work_was }

    rest_is : rest_after ≡ rest - length (steps_at old k)
    rest_is = let e : length run.steps ≡ length (steps_at old k) = run_len in omega arith

    gets_here : (last : TrieOf (StoredRun R P)) (j : ℕ) → GetsRun E (is start.register) old last w.at (k ∷ reached old (rest - length (steps_at old k)) ks) j
        → GetsRun E (is start.register) old last start (reached old place keys) j
    gets_here last j m = w.gets last j (subst (λ l. GetsRun E (is start.register) old last w.at l j) (sym reached_is) m)

    runs_kept : (j : ℕ) → (run_at new j ≡ run_at old j) ⊎ GetsRun E (is start.register) old new start (reached old place keys) j
    runs_kept j = by_key j k _ here (λ ne. other ne (w.keeps.runs j))
      where
        other : (j ≡ k → ⊥) → (run_at trie j ≡ run_at old j) ⊎ GetsRun E (is start.register) old trie start (reached old place keys) j
            → (run_at new j ≡ run_at old j) ⊎ GetsRun E (is start.register) old new start (reached old place keys) j
        other ne (inl e) = inl (other_run j ne ∙ e)
        other ne (inr f) = inr (gets_still E (is start.register) old trie new start (reached old place keys) j (other_run j ne) f)

        by : j ≡ k → ReplaysIfNeeded E old w.at k run work → (run_at new j ≡ run_at old j) ⊎ GetsRun E (is start.register) old new start (reached old place keys) j
        by e (inl f) = inl (ap (run_at new) e ∙ stored_here ∙ sym f.1 ∙ ap (run_at old) (sym e))
        by e (inr m) = inr (gets_here new j (inl (e, m.0, (run, stored_here, fits_at))))

        here : j ≡ k → (run_at new j ≡ run_at old j) ⊎ GetsRun E (is start.register) old new start (reached old place keys) j
        here e = by e work_was

    slots_kept : (j : ℕ) → slots_at new j ≡ slots_at old j
    slots_kept j = by_key j k _
        (λ e. ap (slots_at new) e ∙ ap (option_map (λ p. p.slots)) noted.here ∙ noted_slots s (segment_at trie.segments k) ∙ w.keeps.slots k ∙ ap (slots_at old) (sym e))
        (λ ne. ap (option_map (λ p. p.slots)) (other_segment j ne) ∙ w.keeps.slots j)

    exit_is : exit_of start (parts ++ part run count ∷ []) ≡ run.exit
    exit_is = exit_of-last start parts (part run count)

    settles_on : (last : TrieOf (StoredRun R P)) (more : List (RunPart R P)) (m : ℕ) → ((j : ℕ) → has j ks ≡ false → run_at last j ≡ run_at new j)
        → Settles E (is start.register) old last goes_to rest_after (reached old rest_after ks) more m
        → Settles E (is start.register) old last start place (reached old place keys) ((parts ++ part run count ∷ []) ++ more) (n_after + m)
    settles_on last more m same s =
        let sum : n + (work + m) ≡ n_after + m = omega arith in
        subst (λ l. Settles E (is start.register) old last start place (reached old place keys) l (n_after + m)) (sym (append_assoc parts (part run count ∷ []) more))
        (subst (Settles E (is start.register) old last start place (reached old place keys) (parts ++ part run count ∷ more)) sum
        (w.settles last (part run count ∷ more) (work + m)
        (λ j h. let lacks = lacks_cons j k ks h in same j lacks.1 ∙ other_run j lacks.0)
        (subst (λ l. Settles E (is start.register) old last w.at rest l (part run count ∷ more) (work + m)) (sym reached_is)
        (work, m, refl, settled_at last (same k w.once.0), subst (λ r. Settles E (is start.register) old last goes_to r (reached old r ks) more m) rest_is s))))

    pub walk_on : IsWalking E (is start.register) old new start keys ks place rest_after n_after (parts ++ part run count ∷ [])
    walk_on = record {
      at = goes_to;
      same_register = register_kept (is start.register) w.at (steps_at old k) ∙ w.same_register;
      same = subst (λ c. SameConfiguration E c goes_to) (sym exit_is) (exit_same E is alike (is start.register) w.at (steps_at old k) run (ap is w.same_register) true_run fits_at);
      keeps = record {
        branches = noted.branches ∙ w.keeps.branches;
        limits = noted.limits ∙ w.keeps.limits;
        forest_kept = noted.unchanged ∙ w.keeps.forest_kept;
        slots = slots_kept;
        runs = runs_kept;
      };
      ahead = λ j h. noted.others j (λ e. true≢false (sym (subst (λ i. has i ks ≡ true) e h) ∙ w.once.0)) ∙ w.ahead j (has-tail j k ks h);
      there = λ j h. w.there j (has-tail j k ks h);
      small = w.small;
      gets = λ last j m. gets_here last j (inr (subst (λ r. GetsRun E (is start.register) old last goes_to (reached old r ks) j) rest_is m));
      settles = settles_on;
      count = let e : counted (parts ++ part run count ∷ []) ≡ counted parts + count = counted-last parts (part run count) in let c = w.count in omega arith;
      enough = let e = w.enough in let l = len_here in let r = rest_is in omega arith;
      short = let f = w.short in let l = len_here in let wk = work_short work_was in omega arith;
      once = w.once.1;
      fit = all_right (λ s. fits_step (is start.register) s ≡ true) (steps_at old k) (map step_of (line (segment_at old.segments) ks)) (subst (AllFit (is start.register)) line_here w.fit);
    }
      where
        work_short : ReplaysIfNeeded E old w.at k run work → work ≤ length (steps_at old k)
        work_short (inl f) = let z = f.2 in omega arith
        work_short (inr m) = let z = m.1 in omega arith

pub part_last : {R P Z : Type 0} (runs : List (Arc (SegmentRun R P) Z × ℕ)) (x : Arc (SegmentRun R P) Z × ℕ)
    → map part_of (runs ++ x ∷ []) ≡ map part_of runs ++ part (arc_value x.0) x.1 ∷ []
part_last runs x = map-append part_of runs (x ∷ [])
