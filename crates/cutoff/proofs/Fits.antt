-- Runs that fit.
use Rattle.std.proofs.Common.{◌≡◌, ℕ, Bool, true, List, map, Option, Some, None, MatchOption, sym, ap, subst, ◌∙◌}
use Rattle.std.specs.Prelude.{⊤}
use Rattle.std.specs.Option.{option_map}
use Rattle.std.specs.Cmp.{IsPartialEquivalence}
use Rattle.frames.specs.declared.types.Step.{Step}
use Rattle.frames.specs.Behaviour.{Behaviour}
use Rattle.frames.specs.Configuration.{Configuration, replayed}
use Rattle.frames.specs.Equality.{SameConfiguration}
use Rattle.frames.specs.laws.WithoutRegister.{replayed_same, same_trans}
use Rattle.checkpoints.specs.Runs.{SegmentRun, IsTrueRun}
use Rattle.schedule_trie.specs.Forest.{step_of}
use Rattle.schedule_trie.specs.Trie.{TrieOf, SegmentOf, segment_at, slots_of, note_of}
use Rattle.cutoff.specs.Fitting.{StoredRun, bare_run, RunFits, Fits, steps_at, run_at}
use Rattle.cutoff.specs.Links.{IsStored, IsStoredIn}

module _ {R P : Type 0} (E : R → R → Bool) where
  module _ (per : IsPartialEquivalence E) where
    pub run_fits_alike : (c d : Configuration R P) (segment : List Step) (run : SegmentRun R P) → SameConfiguration E c d → RunFits E c segment run → RunFits E d segment run
    run_fits_alike c d segment run e f = record { steps = f.steps; entry = same_trans E per run.entry c d f.entry e }

    pub fits_alike : (trie : TrieOf (StoredRun R P)) (c d : Configuration R P) (k : ℕ) → SameConfiguration E c d → Fits E trie c k → Fits E trie d k
    fits_alike trie c d k e = by (run_at trie k)
      where
        by : (o : Option (SegmentRun R P)) → MatchOption o ⊥ (RunFits E c (steps_at trie k)) → MatchOption o ⊥ (RunFits E d (steps_at trie k))
        by None h = h
        by (Some run) h = run_fits_alike c d (steps_at trie k) run e h

  -- the exit of a run that fits is the configuration that replay of the segment reaches
  pub exit_same : (is : R → Behaviour P) → ((x y : R) → E x y ≡ true → is x ≡ is y) → (b : Behaviour P) (c : Configuration R P) (segment : List Step) (run : SegmentRun R P)
      → is c.register ≡ b → IsTrueRun (is run.entry.register) run → RunFits E c segment run → SameConfiguration E run.exit (replayed b c segment)
  exit_same is alike b c segment run home true_run f =
      let same : is run.entry.register ≡ b = alike run.entry.register c.register f.entry.register ∙ home in
      let exit : run.exit ≡ replayed b run.entry segment = true_run.exit ∙ ap (λ x. replayed x run.entry run.steps) same ∙ ap (replayed b run.entry) f.steps in
      subst (λ d. SameConfiguration E d (replayed b c segment)) (sym exit) (replayed_same E b run.entry c segment f.entry)

  -- if `IsStoredIn` holds of the segment k, `IsStored` holds of the run stored there
  module _ (h : R) (exits : List (Configuration ⊤ P)) (trie : TrieOf (StoredRun R P)) (k : ℕ) (s : StoredRun R P) where
    pub stored-from_stored_in : IsStoredIn E h exits (segment_at trie.segments k) → note_of (segment_at trie.segments k) ≡ Some s → IsStored E h exits (steps_at trie k) s
    stored-from_stored_in = by (segment_at trie.segments k)
      where
        by : (o : Option (SegmentOf (StoredRun R P))) → IsStoredIn E h exits o → note_of o ≡ Some s → IsStored E h exits (map step_of (slots_of o)) s
        by None t e = cc
        by (Some p) t e = subst (λ n. MatchOption n ⊤ (IsStored E h exits (map step_of p.slots))) e t

  -- the run s, which is stored at the key k, fits just if `Fits` holds of k
  pub run_fits_from_fits : (trie : TrieOf (StoredRun R P)) (c : Configuration R P) (k : ℕ) (s : StoredRun R P) → note_of (segment_at trie.segments k) ≡ Some s
      → Fits E trie c k → RunFits E c (steps_at trie k) s.run
  run_fits_from_fits trie c k s e f = subst (λ n. MatchOption (option_map bare_run n) ⊥ (RunFits E c (steps_at trie k))) e f

  pub fits_from_run_fits : (trie : TrieOf (StoredRun R P)) (c : Configuration R P) (k : ℕ) (s : StoredRun R P) → note_of (segment_at trie.segments k) ≡ Some s
      → RunFits E c (steps_at trie k) s.run → Fits E trie c k
  fits_from_run_fits trie c k s e f = subst (λ n. MatchOption (option_map bare_run n) ⊥ (RunFits E c (steps_at trie k))) (sym e) f

  pub no_note_no_fit : (trie : TrieOf (StoredRun R P)) (c : Configuration R P) (k : ℕ) → note_of (segment_at trie.segments k) ≡ None → Fits E trie c k → ⊥
  no_note_no_fit trie c k e f = subst (λ n. MatchOption (option_map bare_run n) ⊥ (RunFits E c (steps_at trie k))) e f
