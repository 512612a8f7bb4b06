-- Stored runs that hang from one another, by their numbers.
use Rattle.std.proofs.Common.{◌≡◌, ℕ, Bool, true, List, [], ◌∷◌, ◌++◌, Option, Some, None, sym, ap, subst, ◌∙◌, append_assoc, append-nil, map}
use Rattle.std.specs.Option.{option_map}
use Rattle.std.specs.Cmp.{IsPartialEquivalence}
use Rattle.frames.specs.Behaviour.{Behaviour}
use Rattle.frames.specs.Configuration.{Configuration, replayed}
use Rattle.frames.specs.Equality.{SameConfiguration}
use Rattle.frames.specs.Recorded.{without_register}
use Rattle.frames.specs.laws.WithoutRegister.{register_kept}
use Rattle.checkpoints.specs.Runs.{IsTrueRun}
use Rattle.schedule_trie.specs.Forest.{step_of}
use Rattle.schedule_trie.specs.Trie.{TrieOf, segment_at, slots_of, note_of, keys_in, has}
use Rattle.schedule_trie.specs.Climbs.{keys_up_to, keys_to, HasClimbedTo}
use Rattle.schedule_trie.proofs.climbs.Climbs.{IsStepUp}
use Rattle.schedule_trie.proofs.lists.NoRepeats.{has-head, has-tail}
use Rattle.cutoff.specs.Fitting.{StoredRun, bare_run, RunFits, steps_at}
use Rattle.cutoff.specs.Links.{IsLinked}
use Rattle.cutoff.specs.Prefixes.{HasTrueRun, RunsDown, RunsHang, IsHung, exit_or_start, exit_or}
use Rattle.cutoff.proofs.Climbs.{linked_entry, link_same, ends_same}
use Rattle.cutoff.proofs.Fits.{run_fits_alike, exit_same, stored-from_stored_in}

module _ {R P : Type 0} (E : R → R → Bool) (is : R → Behaviour P) (trie : TrieOf (StoredRun R P)) where
  -- nothing hangs between a key and itself
  pub hung_here : (key i : ℕ) → has key (keys_in trie.branches i) ≡ true → IsHung E is trie key key i
  hung_here key i h = record { there = h; below = []; path = sym (append-nil (keys_up_to key (keys_in trie.branches i))); hangs = λ start. tt }

  -- a true run with this link is stored at the key k
  pub record HasLinked (k : ℕ) (link : Option ℕ) : Type 0 where
    pub stored : StoredRun R P
    pub noted : note_of (segment_at trie.segments k) ≡ Some stored
    pub true_run : IsTrueRun (is stored.run.entry.register) stored.run
    pub linked : stored.link ≡ link

  -- one more hangs, from the run whose number is its link
  pub hung_more : IsPartialEquivalence E → (hung k key i next a : ℕ) (start : Configuration R P) (at link : Option ℕ) (s : StoredRun R P) → IsLinked E start.register next None (without_register start) trie
      → HasLinked hung link → note_of (segment_at trie.segments k) ≡ Some s → IsTrueRun (is s.run.entry.register) s.run → link ≡ Some a → s.id ≡ Some a → at ≡ Some k
      → IsStepUp (keys_in trie.branches i) hung at → IsHung E is trie hung key i → IsHung E is trie k key i
  hung_more per hung k key i next a start at link s links was noted true_run linked numbered here step h =
      let u = was.stored in
      let links_u = stored-from_stored_in E start.register links.exits trie hung u (links.each hung) was.noted in
      let links_s = stored-from_stored_in E start.register links.exits trie k s (links.each k) noted in
      let came = linked_entry E start.register links.exits (steps_at trie hung) u links_u a (was.linked ∙ linked) in
      let same = link_same E per (is s.run.entry.register) s u.run.entry start.register links.exits (steps_at trie k) links_s a numbered came.0 came.1 in
      let fits : RunFits E s.run.exit (steps_at trie hung) u.run = record { steps = links_u.covers; entry = ends_same E per (is s.run.entry.register) s u.run.entry true_run same.0 same.1 } in
      let first : HasTrueRun E is trie s.run.exit hung = record { stored = u; noted = was.noted; true_run = was.true_run; fits = fits } in
      record {
        there = subst (HasClimbedTo (keys_in trie.branches i)) here step.reached;
        below = hung ∷ h.below;
        path = h.path ∙ ap (λ l. l ++ h.below) step.is ∙ append_assoc (keys_to (keys_in trie.branches i) at) (hung ∷ []) h.below
            ∙ ap (λ o. keys_to (keys_in trie.branches i) o ++ hung ∷ h.below) here;
        hangs = λ from.
            let up : exit_or_start trie from (Some k) ≡ s.run.exit = ap (λ n. exit_or from (option_map bare_run n)) noted in
            let down : exit_or_start trie from (Some hung) ≡ u.run.exit = ap (λ n. exit_or from (option_map bare_run n)) was.noted in
            subst (λ c. RunsHang E is trie c (hung ∷ h.below)) (sym up) (first, subst (λ c. RunsHang E is trie c h.below) down (h.hangs from));
      }

module _ {R P : Type 0} (E : R → R → Bool) (is : R → Behaviour P) where
  -- runs still hang from one another if the segments at their keys stay as they are
  pub hang_kept : (trie new : TrieOf (StoredRun R P)) (c : Configuration R P) (keys : List ℕ) → ((j : ℕ) → has j keys ≡ true → segment_at new.segments j ≡ segment_at trie.segments j)
      → RunsHang E is trie c keys → RunsHang E is new c keys
  hang_kept trie new c [] same h = tt
  hang_kept trie new c (k ∷ ks) same h =
      let p = same k (has-head k ks) in (
        record {
          stored = h.0.stored;
          noted = ap note_of p ∙ h.0.noted;
          true_run = h.0.true_run;
          fits = subst (λ l. RunFits E c l h.0.stored.run) (ap (λ o. map step_of (slots_of o)) (sym p)) h.0.fits;
        },
        hang_kept trie new h.0.stored.run.exit ks (λ j g. same j (has-tail j k ks g)) h.1,
      )

  -- runs that hang from one another, the first at a configuration equal to c, fit from c on
  pub hang_down : IsPartialEquivalence E → ((x y : R) → E x y ≡ true → is x ≡ is y) → (trie : TrieOf (StoredRun R P)) (b : Behaviour P) (c d : Configuration R P) (keys : List ℕ)
      → SameConfiguration E d c → is c.register ≡ b → RunsHang E is trie d keys → (end : Configuration R P) × RunsDown E is trie b c keys end
  hang_down per alike trie b c d [] same home h = (d, same)
  hang_down per alike trie b c d (k ∷ ks) same home h =
      let s = h.0.stored in
      let fits = run_fits_alike E per d c (steps_at trie k) s.run same h.0.fits in
      let rest = hang_down per alike trie b (replayed b c (steps_at trie k)) s.run.exit ks (exit_same E is alike b c (steps_at trie k) s.run home h.0.true_run fits)
      (ap is (register_kept b c (steps_at trie k)) ∙ home) h.1 in
      (rest.0, (record { stored = s; noted = h.0.noted; true_run = h.0.true_run; fits = fits }, rest.1))
