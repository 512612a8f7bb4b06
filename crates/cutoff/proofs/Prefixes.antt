-- Stored runs down a branch, one more at a time.
use Rattle.std.proofs.Common.{◌≡◌, ℕ, Bool, true, false, nat_eq, List, [], ◌∷◌, ◌++◌, Option, Some, None, refl, sym, ap, subst, ◌∙◌, true≢false, eq-eqb, map}
use Rattle.std.specs.Option.{option_eq, option_map, IfSome}
use Rattle.std.specs.Cmp.{IsEquivalence, IsPartialEquivalence}
use Rattle.frames.specs.Behaviour.{Behaviour}
use Rattle.frames.specs.Configuration.{Configuration, replayed}
use Rattle.frames.specs.Equality.{SameConfiguration}
use Rattle.frames.specs.Recorded.{without_register}
use Rattle.frames.specs.laws.WithoutRegister.{register_kept, same_trans}
use Rattle.checkpoints.specs.Runs.{IsTrueRun}
use Rattle.schedule_trie.specs.Trie.{TrieOf, segment_at, note_of, has, slots_of}
use Rattle.schedule_trie.specs.Climbs.{keys_to, keys_up_to}
use Rattle.schedule_trie.specs.Forest.{step_of}
use Rattle.schedule_trie.proofs.climbs.Climbs.{IsStepUp}
use Rattle.schedule_trie.proofs.lists.NoRepeats.{has-head, has-tail}
use Rattle.cutoff.specs.Fitting.{StoredRun, bare_run, RunFits, steps_at}
use Rattle.cutoff.specs.Links.{run_number, IsLinkedAt}
use Rattle.cutoff.specs.Prefixes.{HasTrueRun, RunsDown, RunsTo, RunsToOnAllWith, note_if_any, exit_or_start, exit_or}
use Rattle.cutoff.specs.Plans.{FitsDownTo}
use Rattle.cutoff.proofs.Fits.{exit_same, stored-from_stored_in, fits_from_run_fits}
use Rattle.cutoff.proofs.Links.{linked_equal}

-- true runs that fit lead as far down after a change that keeps each segment's steps and true run
pub down_after : {R P : Type 0} (E : R → R → Bool) (is : R → Behaviour P) (old new : TrieOf (StoredRun R P)) → ((k : ℕ) → steps_at old k ≡ steps_at new k)
    → ((c : Configuration R P) (k : ℕ) → HasTrueRun E is old c k → HasTrueRun E is new c k)
    → (b : Behaviour P) (c : Configuration R P) (keys : List ℕ) (end : Configuration R P) → RunsDown E is old b c keys end → RunsDown E is new b c keys end
down_after E is old new steps runs b c [] end d = d
down_after E is old new steps runs b c (k ∷ keys) end d = (
  runs c k d.0,
  subst (λ s. RunsDown E is new b (replayed b c s) keys end) (steps k) (down_after E is old new steps runs b (replayed b c (steps_at old k)) keys end d.1),
)

-- runs stay stored if the segments at their keys stay as they are
pub down_kept : {R P : Type 0} (E : R → R → Bool) (is : R → Behaviour P) (trie new : TrieOf (StoredRun R P)) (b : Behaviour P) (c : Configuration R P) (keys : List ℕ) (end : Configuration R P)
    → ((j : ℕ) → has j keys ≡ true → segment_at new.segments j ≡ segment_at trie.segments j) → RunsDown E is trie b c keys end → RunsDown E is new b c keys end
down_kept E is trie new b c [] end same d = d
down_kept E is trie new b c (k ∷ ks) end same d =
    let p = same k (has-head k ks) in
    let steps : steps_at trie k ≡ steps_at new k = ap (λ o. map step_of (slots_of o)) (sym p) in (
      record {
        stored = d.0.stored;
        noted = ap note_of p ∙ d.0.noted;
        true_run = d.0.true_run;
        fits = subst (λ l. RunFits E c l d.0.stored.run) steps d.0.fits;
      },
      subst (λ l. RunsDown E is new b (replayed b c l) ks end) steps (down_kept E is trie new b (replayed b c (steps_at trie k)) ks end (λ j h. same j (has-tail j k ks h)) d.1),
    )

module _ {R P : Type 0} (E : R → R → Bool) (per : IsPartialEquivalence E) (is : R → Behaviour P) (alike : (x y : R) → E x y ≡ true → is x ≡ is y) (trie : TrieOf (StoredRun R P)) where
  -- stored runs that lead to a configuration lead to each equal one
  pub down_same : (b : Behaviour P) (c : Configuration R P) (keys : List ℕ) (a e : Configuration R P) → SameConfiguration E a e → RunsDown E is trie b c keys e → RunsDown E is trie b c keys a
  down_same b c [] a e s d = same_trans E per a e c s d
  down_same b c (k ∷ ks) a e s d = (d.0, down_same b (replayed b c (steps_at trie k)) ks a e s d.1)

  -- stored runs fit all keys at which true runs that fit are stored
  pub runs_fit : (b : Behaviour P) (c : Configuration R P) (keys : List ℕ) (end : Configuration R P) → RunsDown E is trie b c keys end → FitsDownTo E b trie c keys end
  runs_fit b c [] end d = d
  runs_fit b c (k ∷ ks) end d = (fits_from_run_fits E trie c k d.0.stored d.0.noted d.0.fits, runs_fit b (replayed b c (steps_at trie k)) ks end d.1)

  module _ (k : ℕ) (s : StoredRun R P) (noted : note_of (segment_at trie.segments k) ≡ Some s) (true_run : IsTrueRun (is s.run.entry.register) s.run) (covers : s.run.steps ≡ steps_at trie k) where
    pub down_more : (b : Behaviour P) (c : Configuration R P) (keys : List ℕ) → is c.register ≡ b → RunsDown E is trie b c keys s.run.entry → RunsDown E is trie b c (keys ++ k ∷ []) s.run.exit
    down_more b c [] home d =
        let fits : RunFits E c (steps_at trie k) s.run = record { steps = covers; entry = d } in
        (record { stored = s; noted = noted; true_run = true_run; fits = fits }, exit_same E is alike b c (steps_at trie k) s.run home true_run fits)
    down_more b c (j ∷ ks) home d =
        (d.0, down_more b (replayed b c (steps_at trie j)) ks (ap is (register_kept b c (steps_at trie j)) ∙ home) d.1)

    -- `above` is the key right above k: the runs down to k, by those down to `above`
    module _ (start : Configuration R P) (keys : List ℕ) (above : Option ℕ) (step : IsStepUp keys k above) where
      exit_here : exit_or_start trie start (Some k) ≡ s.run.exit
      exit_here = ap (λ n. exit_or start (option_map bare_run n)) noted

      pub runs_to_next : RunsDown E is trie (is start.register) start (keys_to keys above) s.run.entry → RunsTo E is trie start (Some k) keys
      runs_to_next d =
          subst (λ l. RunsDown E is trie (is start.register) start l (exit_or_start trie start (Some k))) (sym step.is)
          (subst (RunsDown E is trie (is start.register) start (keys_to keys above ++ k ∷ [])) (sym exit_here) (down_more (is start.register) start (keys_to keys above) refl d))

      -- if runs fit down to the key k, they lead to each configuration equal to the exit of its run
      pub runs_to_equal : (entry : Configuration R P) → SameConfiguration E entry s.run.exit → RunsTo E is trie start (Some k) keys
          → RunsDown E is trie (is start.register) start (keys_up_to k keys) entry
      runs_to_equal entry same d =
          down_same (is start.register) start (keys_up_to k keys) entry (exit_or_start trie start (Some k)) (subst (SameConfiguration E entry) (sym exit_here) same) d

-- if a climb is at the key k and not at the key f, the two differ
pub climb_key_differs : (f k : ℕ) (at stop : Option ℕ) → stop ≡ Some f → at ≡ Some k → option_eq nat_eq at stop ≡ false → f ≡ k → ⊥
climb_key_differs f k at stop e here differs same =
    true≢false (sym (eq-eqb k f (sym same)) ∙ sym (ap (λ o. option_eq nat_eq o stop) here ∙ ap (option_eq nat_eq (Some k)) e) ∙ differs)

-- the exit of the run stored above, or the start: it is of the chart's register, and the run's
-- number is that of a run with this exit
module _ {R P : Type 0} (E : R → R → Bool) (equal : IsEquivalence E) (per : IsPartialEquivalence E) (is : R → Behaviour P) (trie : TrieOf (StoredRun R P)) (start : Configuration R P) (next : ℕ)
    (linked : IsLinkedAt E start next None trie) where
  entry_own : (key : Option ℕ) (above : Option (StoredRun R P)) → note_if_any trie key ≡ above → IfSome above (λ s. IsTrueRun (is s.run.entry.register) s.run)
      → E (exit_or start (option_map bare_run above)).register start.register ≡ true
  entry_own key None noted kept = equal.refl start.register
  entry_own None (Some s) noted kept = cc
  entry_own (Some k) (Some s) noted kept =
      let same : s.run.exit.register ≡ s.run.entry.register = ap (λ d. d.register) kept.exit ∙ register_kept (is s.run.entry.register) s.run.entry s.run.steps in
      subst (λ r. E r start.register ≡ true) (sym same) (stored-from_stored_in E start.register linked.exits trie k s (linked.each k) noted).own

  entry_linked : (key : Option ℕ) (above : Option (StoredRun R P)) → note_if_any trie key ≡ above → IfSome above (λ s. IsTrueRun (is s.run.entry.register) s.run)
      → IsLinkedAt E (exit_or start (option_map bare_run above)) next (run_number above) trie
  entry_linked key None noted kept = linked
  entry_linked None (Some s) noted kept = cc
  entry_linked (Some k) (Some s) noted kept =
      let own = entry_own (Some k) (Some s) noted kept in
      linked_equal E per start.register s.run.exit.register next s.id (without_register s.run.exit) trie (per.symm start.register s.run.exit.register ∙ own)
      (record { exits = linked.exits; as_many = linked.as_many; each = linked.each; reached_exit = (stored-from_stored_in E start.register linked.exits trie k s (linked.each k) noted).id })

  pub config_linked : (key : Option ℕ) (above : Option (StoredRun R P)) → note_if_any trie key ≡ above → IfSome above (λ s. IsTrueRun (is s.run.entry.register) s.run)
      → (config : Configuration R P) (number : Option ℕ) → config ≡ exit_or start (option_map bare_run above) → number ≡ run_number above
      → IsLinkedAt E config next number trie × (E config.register start.register ≡ true)
  config_linked key above noted kept config number came numbered = rw (came, numbered) (entry_linked key above noted kept, entry_own key above noted kept)

-- if there is no key, no run has to be known
pub none_known : {R P : Type 0} (E : R → R → Bool) (equal : IsEquivalence E) (is : R → Behaviour P) (trie : TrieOf (StoredRun R P)) (start : Configuration R P) (key : ℕ) → RunsToOnAllWith E is trie start key None
none_known E equal is trie start key = λ i h. (tt, record { register = equal.refl start.register; memory = refl; running = refl; stopped = refl })
