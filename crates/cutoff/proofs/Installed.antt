-- A chart after an install.
use Rattle.std.proofs.Common.{◌≡◌, ℕ, ◌+◌, Bool, true, List, [], ◌∷◌, ◌++◌, map, Option, Some, None, IsSome, ◌⊎◌, inl, inr, refl, sym, ap, subst, ◌∙◌, append_assoc, true≢false}
use Rattle.std.specs.Option.{option_map, option_or}
use Rattle.std.specs.Cmp.{IsPartialEquivalence}
use Rattle.frames.specs.Behaviour.{Behaviour}
use Rattle.frames.specs.Configuration.{Configuration, replayed}
use Rattle.frames.specs.Recorded.{without_register}
use Rattle.frames.specs.laws.WithoutRegister.{register_kept}
use Rattle.checkpoints.specs.Runs.{SegmentRun, IsTrueRun}
use Rattle.schedule_trie.specs.Forest.{step_of}
use Rattle.schedule_trie.specs.Trie.{TrieOf, segment_at, note_of, keys_in, has, Once, IsCut, IsNoted}
use Rattle.schedule_trie.proofs.lists.NoRepeats.{once_before}
use Rattle.schedule_trie.proofs.lists.KeyPositions.{parting}
use Rattle.cutoff.specs.Fitting.{StoredRun, KeepsRuns, bare_run, steps_at, slots_at}
use Rattle.cutoff.specs.Links.{IsLinked}
use Rattle.cutoff.specs.Charts.{Charted, IsCharted}
use Rattle.cutoff.specs.Plans.{FitsDown}
use Rattle.cutoff.specs.Prefixes.{RunsDown, RunsTo, RunsToOnAll, RunsLeadTo, exit_or_start, exit_or}
use Rattle.cutoff.proofs.Links.{linked_none, new_linked}
use Rattle.cutoff.proofs.SameBranches.{charted_kept, charted_marked}
use Rattle.cutoff.proofs.FreshRuns.{fresh_given, fresh_kept}
use Rattle.cutoff.proofs.Prefixes.{down_more, down_kept}
use Rattle.cutoff.proofs.Keys.{by_key, path_once}
use Rattle.cutoff.proofs.Noted.{noted_slots, noted_at, noted_cells}

module _ {R P : Type 0} (E : R → R → Bool) (b : Behaviour P) where
  -- a run that fits begins with a register equal to that of c, and has its segment's steps
  pub register_and_steps : (trie : TrieOf (StoredRun R P)) (key : ℕ) (run : SegmentRun R P) (c : Configuration R P) (keys : List ℕ) → FitsDown E b trie key run c keys
      → (E run.entry.register c.register ≡ true) × (run.steps ≡ steps_at trie key)
  register_and_steps trie key run c [] f = absurd f
  register_and_steps trie key run c (k ∷ ks) (inl f) = (f.1.entry.register, f.1.steps ∙ ap (steps_at trie) (sym f.0))
  register_and_steps trie key run c (k ∷ ks) (inr f) =
      let rest = register_and_steps trie key run (replayed b c (steps_at trie k)) ks f.2 in
      (subst (λ r. E run.entry.register r ≡ true) (register_kept b c (steps_at trie k)) rest.0, rest.1)

  pub noted_keeps : (old new : TrieOf (StoredRun R P)) (key : ℕ) (s : StoredRun R P) → IsNoted old new key (Some s) → KeepsRuns old new (λ k. Unit {0})
  noted_keeps old new key s noted = record {
    branches = noted.branches;
    limits = noted.limits;
    forest_kept = noted.unchanged;
    slots = λ j. by_key j key _
        (λ e. ap (slots_at new) e ∙ ap (option_map (λ p. p.slots)) noted.here ∙ noted_slots s (segment_at old.segments key) ∙ ap (slots_at old) (sym e))
        (λ ne. ap (option_map (λ p. p.slots)) (noted.others j ne));
    runs = λ k. inr tt;
  }

-- an installed run's segment can be marked, if the runs above lead to the run's entry
module _ {R P : Type 0} (E : R → R → Bool) (per : IsPartialEquivalence E) (is : R → Behaviour P) (alike : (x y : R) → E x y ≡ true → is x ≡ is y) (old new : TrieOf (StoredRun R P))
    (start : Configuration R P) (key : ℕ) (s : StoredRun R P) (whole : IsCut old) (noted : IsNoted old new key (Some s)) (there : IsSome (segment_at old.segments key))
    (true_run : IsTrueRun (is s.run.entry.register) s.run) (covers : s.run.steps ≡ steps_at old key) where
  abbrev b : Behaviour P
  b = is start.register

  pub mark_installed : RunsLeadTo E is old start key s.run → RunsToOnAll E is new start (Some key)
  mark_installed on = λ i h.
      let keys = keys_in old.branches i in
      let has_it : has key keys ≡ true = subst (λ ss. has key (keys_in ss i) ≡ true) noted.branches h in
      let g = on i has_it in
      let p = parting keys key has_it in
      let parts : keys ≡ g.0 ++ key ∷ p.back =
      p.is ∙ sym (append_assoc p.front (key ∷ []) p.back) ∙ ap (λ l. l ++ p.back) (sym p.to ∙ g.1) ∙ append_assoc g.0 (key ∷ []) p.back in
      let lacks = once_before g.0 key p.back (subst Once parts (path_once old whole i)) in
      let kept = down_kept E is old new b start g.0 s.run.entry
      (λ j hj. noted.others j (λ e. true≢false (sym (subst (λ z. has z g.0 ≡ true) e hj) ∙ lacks))) g.2 in
      let here : note_of (segment_at new.segments key) ≡ Some s = noted_at s (segment_at old.segments key) (segment_at new.segments key) noted.here there in
      let steps : s.run.steps ≡ steps_at new key =
      covers ∙ ap (map step_of) (sym (noted_cells s (segment_at old.segments key) (segment_at new.segments key) noted.here)) in
      let more = down_more E per is alike new key s here true_run steps b start g.0 refl kept in
      let come : exit_or_start new start (Some key) ≡ s.run.exit = ap (λ n. exit_or start (option_map bare_run n)) here in
      let down = subst (λ l. RunsDown E is new b start l (exit_or_start new start (Some key))) (sym g.1) (subst (RunsDown E is new b start (g.0 ++ key ∷ [])) (sym come) more) in
      subst (λ ss. RunsTo E is new start (Some key) (keys_in ss i)) (sym noted.branches) down

given_id : {next after : ℕ} {id : Option ℕ} → ((id ≡ None) × (after ≡ next)) ⊎ ((id ≡ Some next) × (after ≡ next + 1)) → (id ≡ None) ⊎ (id ≡ Some next)
given_id (inl e) = inl e.0
given_id (inr e) = inr e.0

pub charted_installed : {R P : Type 0} (E : R → R → Bool) (per : IsPartialEquivalence E) (is : R → Behaviour P) (alike : (x y : R) → E x y ≡ true → is x ≡ is y) (next after : ℕ) (fresh mark : Option ℕ) (c : Charted R P) (new : TrieOf (StoredRun R P)) (key : ℕ) (s : StoredRun R P) (run seen : SegmentRun R P) (keys : List ℕ) (id : Option ℕ)
    → IsCharted E is next fresh mark c → FitsDown E (is c.start.register) c.trie key seen c.start keys → RunsLeadTo E is c.trie c.start key seen → IsTrueRun (is seen.entry.register) seen
    → IsSome (segment_at c.trie.segments key) → seen ≡ run → s.run ≡ run → s.id ≡ id → s.checked ≡ id → (above : Option ℕ) → s.link ≡ above
    → (IsLinked E c.start.register next None (without_register c.start) c.trie → IsLinked E c.start.register next above (without_register seen.entry) c.trie) → IsNoted c.trie new key (Some s)
    → ((id ≡ None) × (after ≡ next)) ⊎ ((id ≡ Some next) × (after ≡ next + 1))
    → IsCharted E is after (option_or fresh id) (Some key) (record { trie = new; start = c.start; value = c.value })
charted_installed {R} {P} E per is alike next after fresh mark c new key s run seen keys id was fits on true_run there same is_run number checked above link moved noted given =
    let owns = register_and_steps E (is c.start.register) c.trie key s.run c.start keys (subst (λ r. FitsDown E (is c.start.register) c.trie key r c.start keys) (same ∙ sym is_run) fits) in
    let linked =
    new_linked E c.start.register c.trie new key next above s.run.entry
    (subst (λ (r : SegmentRun R P). IsLinked E c.start.register next above (without_register r.entry) c.trie) (same ∙ sym is_run) (moved was.linked)) s noted after (checked ∙ sym number)
    owns.0 owns.1 link refl (subst (λ n. ((n ≡ None) × (after ≡ next)) ⊎ ((n ≡ Some next) × (after ≡ next + 1))) (sym number) given) in
    let marked =
    mark_installed E per is alike c.trie new c.start key s was.cut noted there (subst (λ (r : SegmentRun R P). IsTrueRun (is r.entry.register) r) (same ∙ sym is_run) true_run) owns.1
    (subst (RunsLeadTo E is c.trie c.start key) (same ∙ sym is_run) on) in
    let still =
    fresh_kept E is c.trie new c.start key s was.cut noted (option_or fresh id) marked
    (fresh_given E is c.trie c.start c.start.register next (without_register c.start) fresh id was.linked (given_id given) was.fresh_marked) in
    charted_marked E is after None None (option_or fresh id) (Some key) (record { trie = new; start = c.start; value = c.value }) still marked
    (charted_kept E is next after fresh mark c new (λ k. Unit {0}) (noted_keeps E (is c.start.register) c.trie new key s noted)
    (linked_none E c.start.register after s.id (without_register s.run.exit) (without_register c.start) new linked) was)
