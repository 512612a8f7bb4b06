-- Segments that stored runs fit aren't replayed.
use Rattle.std.proofs.Common.{◌≡◌, ℕ, ◌+◌, ◌-◌, Bool, List, [], ◌∷◌, ◌++◌, length, map, take, refl, sym, ap, subst, arith, inl, inr}
use Rattle.std.specs.Prelude.{MatchOption}
use Rattle.std.specs.Option.{option_map}
use Rattle.frames.specs.Behaviour.{Behaviour}
use Rattle.frames.specs.Configuration.{Configuration, replayed}
use Rattle.schedule_trie.specs.Forest.{step_of}
use Rattle.schedule_trie.specs.Trie.{TrieOf, segment_at, slots_of, note_of}
use Rattle.schedule_trie.proofs.lists.NoRepeats.{has-head, has-tail}
use Rattle.checkpoints.specs.Runs.{SegmentRun}
use Rattle.cutoff.specs.Fitting.{StoredRun, RunPart, RunFits, Fits, bare_run, steps_at}
use Rattle.cutoff.specs.Settles.{ReplaysIfNeeded, Settles}
use Rattle.cutoff.specs.EarlyCutoff.{AreKept, AreFitted, replayed_through, StopsEarly}

module _ {R P : Type 0} (E : R → R → Bool) (b : Behaviour P) where
  -- runs that fitted still fit if cells and runs are unchanged
  fitted_still : (was old : TrieOf (StoredRun R P)) (c : Configuration R P) (ks : List ℕ) → AreKept was old ks → AreFitted b was E c ks → AreFitted b old E c ks
  fitted_still was old c [] kept f = tt
  fitted_still was old c (k ∷ ks) kept f =
      let here : segment_at old.segments k ≡ segment_at was.segments k = kept k (has-head k ks) in
      let steps : steps_at was k ≡ steps_at old k = ap (λ o. map step_of (slots_of o)) (sym here) in (
        subst (λ o. MatchOption (option_map bare_run (note_of o)) ⊥ (RunFits E c (map step_of (slots_of o)))) (sym here) f.0,
        fitted_still was old (replayed b c (steps_at old k)) ks (λ j h. kept j (has-tail j k ks h))
            (subst (λ l. AreFitted b was E (replayed b c l) ks) steps f.1),
      )

  module _ (old new : TrieOf (StoredRun R P)) where
    no_work : (c : Configuration R P) (k : ℕ) (run : SegmentRun R P) (n : ℕ) → Fits E old c k → ReplaysIfNeeded E old c k run n → n ≡ 0
    no_work c k run n fits (inl w) = w.2
    no_work c k run n fits (inr w) = absurd (w.0 fits)

    -- a settle along segments that stored runs fit replays nothing
    none_replayed : (c : Configuration R P) (place : ℕ) (ks : List ℕ) (parts : List (RunPart R P)) (n : ℕ) → AreFitted b old E c ks
        → Settles E b old new c place ks parts n → n ≡ 0
    none_replayed c place [] parts n f s = s.1
    none_replayed c place (k ∷ ks) [] n f s = absurd s
    none_replayed c place (k ∷ ks) (part ∷ parts) n f s =
        let here : s.0 ≡ 0 = no_work c k part.run s.0 f.0 s.3.work in
        let below : s.1 ≡ 0 = none_replayed (replayed b c (steps_at old k)) (place - length (steps_at old k)) ks parts s.1 f.1 s.4 in
        let sum : n ≡ s.0 + s.1 = s.2 in
        omega arith

    -- if runs fit the segments `below`, a settle along `above` and then `below` replays only steps
    -- of `above`
    all_above : (c : Configuration R P) (place : ℕ) (above below : List ℕ) (parts : List (RunPart R P)) (n : ℕ) → AreFitted b old E (replayed_through b old c above) below
        → Settles E b old new c place (above ++ below) parts n → Settles E b old new c place above (take (length above) parts) n
    all_above c place [] below parts n f s = (refl, none_replayed c place below parts n f s)
    all_above c place (k ∷ above) below [] n f s = absurd s
    all_above c place (k ∷ above) below (part ∷ parts) n f s = (
      s.0,
      s.1,
      s.2,
      s.3,
      all_above (replayed b c (steps_at old k)) (place - length (steps_at old k)) above below parts s.1 f s.4,
    )

  pub stops_early : StopsEarly E b
  stops_early was old new start c place above below parts n kept fitted comes s =
      all_above old new start place above below parts n (subst (λ d. AreFitted b old E d below) (sym comes) (fitted_still was old c below kept fitted)) s
