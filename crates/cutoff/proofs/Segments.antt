-- A settled segment: a stored run that fits, or a new one.
use Rattle.std.proofs.Common.{◌≡◌, ℕ, ◌+◌, Bool, true, length, Option, Some, None, ◌⊎◌, inl, inr, refl, sym, ap, subst, ◌∙◌}
use Rattle.std.specs.Cmp.{IsEquivalence}
use Rattle.std.specs.Option.{option_map}
use Rattle.frames.specs.Configuration.{Configuration}
use Rattle.frames.specs.Equality.{SameConfiguration}
use Rattle.frames.specs.Recorded.{without_register}
use Rattle.frames.specs.laws.WithoutRegister.{without_register_same}
use Rattle.schedule_trie.specs.Trie.{TrieOf, segment, segment_at, note_of, IsNoted}
use Rattle.cutoff.specs.Fitting.{StoredRun, bare_run, RunFits, Fits, steps_at}
use Rattle.cutoff.specs.Settles.{IsSegmentSettled}
use Rattle.cutoff.specs.Links.{IsExitOf, IsGiven, IsStored, IsLinked}
use Rattle.cutoff.proofs.Fits.{stored-from_stored_in, fits_from_run_fits}
use Rattle.cutoff.proofs.Links.{taken_linked, new_linked}

module _ {R P : Type 0} (E : R → R → Bool) (old new : TrieOf (StoredRun R P)) (c : Configuration R P) (k : ℕ) (s : StoredRun R P) (noted : IsNoted old new k (Some s)) where
  -- the segment k is settled, if a new run of its steps from c is stored
  pub segment_replayed : IsEquivalence E → s.run.steps ≡ steps_at old k → s.run.entry ≡ c → (Fits E old c k → ⊥) → (n : ℕ) → n ≡ length (steps_at old k)
      → IsSegmentSettled E old new c k s n
  segment_replayed e steps entry misses n all = record {
    noted = noted;
    fits = record {
      steps = steps;
      entry = subst (λ d. SameConfiguration E d c) (sym entry) (record { register = e.refl c.register; memory = refl; running = refl; stopped = refl });
    };
    work = inr (misses, all);
  }

  pub replayed_linked : (next after : ℕ) (above id : Option ℕ) → IsEquivalence E → IsLinked E c.register next above (without_register c) old → s.run.steps ≡ steps_at old k → s.run.entry ≡ c
      → s.link ≡ above → s.checked ≡ id → s.id ≡ id → ((id ≡ None) × (after ≡ next)) ⊎ ((id ≡ Some next) × (after ≡ next + 1)) → IsLinked E c.register after s.id (without_register s.run.exit) new
  replayed_linked next after above id e l steps entry link checked number given =
      new_linked E c.register old new k next above c l s noted after (checked ∙ sym number)
      (subst (λ d. E d.register c.register ≡ true) (sym entry) (e.refl c.register)) steps link entry
      (subst (λ n. ((n ≡ None) × (after ≡ next)) ⊎ ((n ≡ Some next) × (after ≡ next + 1))) (sym number) given)

  -- the segment k is settled, if the run that was stored there fits, and is stored again
  module _ (was : StoredRun R P) (at_first : note_of (segment_at old.segments k) ≡ Some was) (d : Configuration R P) (there : d ≡ c) (fits_there : RunFits E d (steps_at old k) was.run)
      (again : s.run ≡ was.run) where
    fits : RunFits E c (steps_at old k) was.run
    fits = subst (λ e. RunFits E e (steps_at old k) was.run) there fits_there

    pub segment_taken : IsSegmentSettled E old new c k s 0
    segment_taken = record {
      noted = noted;
      fits = subst (RunFits E c (steps_at old k)) (sym again) fits;
      work = inl (fits_from_run_fits E old c k was at_first fits, ap (option_map bare_run) at_first ∙ ap Some (sym again), refl);
    }

    pub stored_again_linked : (next : ℕ) (above : Option ℕ) → IsLinked E c.register next above (without_register c) old → s.id ≡ was.id → s.checked ≡ was.checked → (s.link ≡ above) ⊎ (s.link ≡ was.link)
        → IsLinked E c.register next s.id (without_register s.run.exit) new
    stored_again_linked next above l number checked link =
        let t : IsStored E c.register l.exits (steps_at old k) was = stored-from_stored_in E c.register l.exits old k was (l.each k) at_first in
        taken_linked E c.register old new k next above c l s noted (record {
          own = subst (λ r. E r.entry.register c.register ≡ true) (sym again) t.own;
          covers = ap (λ r. r.steps) again ∙ t.covers;
          id = subst (λ r. IsExitOf l.exits s.id (without_register r.exit)) (sym again) (subst (λ n. IsExitOf l.exits n (without_register was.run.exit)) (sym number) t.id);
          link = subst (λ r. IsExitOf l.exits s.link (without_register r.entry)) (sym again) (came link t.link);
          checked = subst (IsGiven (length l.exits)) (sym checked) t.checked;
        })
      where
        came : (s.link ≡ above) ⊎ (s.link ≡ was.link) → IsExitOf l.exits was.link (without_register was.run.entry) → IsExitOf l.exits s.link (without_register was.run.entry)
        came (inl e) t = subst (λ o. IsExitOf l.exits o (without_register was.run.entry)) (sym e) (subst (IsExitOf l.exits above) (sym (without_register_same E was.run.entry c fits.entry)) l.reached_exit)
        came (inr e) t = subst (λ o. IsExitOf l.exits o (without_register was.run.entry)) (sym e) t
