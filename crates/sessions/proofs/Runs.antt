-- What the runs of a branch say about its places.
use Rattle.std.proofs.Common.{◌≡◌, ℕ, zero, suc, ◌+◌, ◌-◌, ◌<◌, ◌≤◌, Bool, true, false, nat_eq, cond, List, [], ◌∷◌, ◌++◌, length, map, take, refl, sym, ap, subst, ◌∙◌, arith, append_assoc, get_or, slice_index_or}
use Rattle.std.specs.List.{list_any}
use Rattle.std.specs.declared.sync.Arc.{Arc}
use Rattle.checkpoints.specs.Runs.{SegmentRun, IsTrueRun}
use Rattle.std.proofs.Math.Seq.{take-append-add}
use Rattle.std.proofs.lemmas.List.{length-append, length-take, take-append-le, take-take, get_or-append-add, get_or_append_left, get_or-take}
use Rattle.frames.specs.declared.types.Step.{Step}
use Rattle.frames.specs.declared.types.StepEvents.{StepEvents}
use Rattle.frames.specs.Behaviour.{Behaviour}
use Rattle.frames.specs.Configuration.{Configuration, initial_configuration, stepped, replayed, history}
use Rattle.frames.specs.Configuration.{events_of as events_of_step}
use Rattle.schedule_trie.specs.Trie.{TrieOf, forest}
use Rattle.cutoff.specs.Fitting.{StoredRun, RunPart, RunFits, steps_at, reached, counted, part_of}
use Rattle.cutoff.specs.Settles.{Settles, IsSettled}
use Rattle.cutoff.specs.Charts.{Charted, keys_named}
use Rattle.pages.specs.declared.breakpoint.Break.{Break}
use Rattle.pages.specs.Breaks.{is_met}
use Rattle.frames.specs.Recorded.{LoneConfiguration, first_configuration, configuration_after, without_register}
use Rattle.frames.specs.laws.WithoutRegister.{register_kept, replayed_alone, history_alone, without_register_same}
use Rattle.views.specs.Looks.{steps_in}
use Rattle.views.proofs.Spots.{steps_along, steps_along_more, steps_named}
use Rattle.views.proofs.Replays.{replayed-append, history-append}
use Rattle.sessions.specs.Seeks.{no_events, events_before, is_hit}
use Rattle.sessions.specs.Walks.{ReportsPart, ReportsParts, is_on_bit, is_any_met_by_events}
use Rattle.sessions.proofs.Searches.{met_by_events}

module _ {R P : Type 0} (b : Behaviour P) where
  pub length-history : (c : Configuration R P) (steps : List Step) → length (history b c steps) ≡ length steps
  length-history c [] = refl
  length-history c (s ∷ steps) = ap suc (length-history (stepped b c s) steps)

-- the steps of a branch are those before a segment, the segment's own, and those following it
module _ {P : Type 0} (b : Behaviour P) (value : ℕ) (breaks : List Break) (before segment following steps : List Step) (all : steps ≡ before ++ (segment ++ following)) where
  config_before : LoneConfiguration P
  config_before = configuration_after b value before

  -- of the place after step i of the segment: the events before it, the configuration there, and
  -- whether it is a hit
  events_in : (i : ℕ) → i < length segment → events_before b value steps (suc (length before + i)) ≡ slice_index_or (history b config_before segment) i no_events
  unfolding config_before
  events_in i within =
      let first = first_configuration b value in
      let parted : history b first steps ≡ history b first before ++ (history b config_before segment ++ history b (replayed b config_before segment) following) =
      ap (history b first) all ∙ history-append b first before (segment ++ following) ∙ ap (λ l. history b first before ++ l) (history-append b config_before segment following) in
      let long : length before + i ≡ length (history b first before) + i = ap (λ n. n + i) (sym (length-history b first before)) in
      let later : List StepEvents = history b config_before segment ++ history b (replayed b config_before segment) following in
      ap (λ l. get_or l (length before + i) no_events) parted ∙ ap (λ n. get_or (history b first before ++ later) n no_events) long
      ∙ get_or-append-add (history b first before) later i no_events
      ∙ get_or_append_left (history b config_before segment) (history b (replayed b config_before segment) following) no_events i (omega (arith, within, length-history b config_before segment))

  shown_in : (i : ℕ) → i < length segment → configuration_after b value (take (suc (length before + i)) steps) ≡ replayed b config_before (take (i + 1) segment)
  unfolding config_before
  shown_in i within =
      let first = first_configuration b value in
      let next : suc (length before + i) ≡ length before + (i + 1) = omega arith in
      let taken : take (suc (length before + i)) steps ≡ before ++ take (i + 1) segment =
      ap (take (suc (length before + i))) all ∙ ap (λ n. take n (before ++ (segment ++ following))) next ∙ take-append-add before (segment ++ following) (i + 1)
      ∙ ap (λ l. before ++ l) (take-append-le (i + 1) segment following (omega (arith, within))) in
      ap (replayed b first) taken ∙ replayed-append b first before (take (i + 1) segment)

  pub hit_in : (i : ℕ) → i < length segment
      → is_hit b value steps breaks ((length before + 1) + i) ≡ is_met breaks (slice_index_or (history b (configuration_after b value before) segment) i no_events) (replayed b (configuration_after b value before) (take (i + 1) segment)).memory
  unfolding config_before
  hit_in i within =
      let place : (length before + 1) + i ≡ suc (length before + i) = omega arith in
      ap (is_hit b value steps breaks) place
      ∙ ap (λ events. is_met breaks events (configuration_after b value (take (suc (length before + i)) steps)).memory) (events_in i within)
      ∙ ap (λ c. is_met breaks (slice_index_or (history b (configuration_after b value before) segment) i no_events) c.memory) (shown_in i within)

module _ {R P : Type 0} (E : R → R → Bool) (is : R → Behaviour P) (alike : (x y : R) → E x y ≡ true → is x ≡ is y)
    (b : Behaviour P) (old new : TrieOf (StoredRun R P)) (value : ℕ) (breaks : List Break) (steps : List Step) where
  -- a run fits the segment right after the steps `before`, and all its steps count: the test of
  -- hits is right for it (`ReportsPart`)
  reports_run : (before : List Step) (c : Configuration R P) (k : ℕ) (ks : List ℕ) (part : RunPart R P) → is c.register ≡ b → without_register c ≡ configuration_after b value before
      → steps ≡ before ++ steps_along old (k ∷ ks) → RunFits E c (steps_at old k) part.run → part.count ≡ length (steps_at old k)
      → ReportsPart is breaks (is_hit b value steps breaks) (length before) part
  reports_run before c k ks part home comes all fits count =
      let own : is part.run.entry.register ≡ b = alike part.run.entry.register c.register fits.entry.register ∙ home in
      let entry : without_register part.run.entry ≡ configuration_after b value before = without_register_same E part.run.entry c fits.entry ∙ comes in
      let parted : steps ≡ before ++ (part.run.steps ++ steps_along old ks) =
      all ∙ ap (λ l. before ++ l) (steps_along_more old k ks ∙ ap (λ l. l ++ steps_along old ks) (sym fits.steps)) in
      let long : part.count ≡ length part.run.steps = count ∙ ap length (sym fits.steps) in
      record {
        within = omega (arith, long);
        each = λ i h.
            hit_in b value breaks before part.run.steps (steps_along old ks) steps parted i (omega (arith, h, long))
            ∙ sym (ap (λ d. is_met breaks (slice_index_or (history d part.run.entry part.run.steps) i no_events) (replayed d part.run.entry (take (i + 1) part.run.steps)).memory) own
            ∙ ap (λ events. is_met breaks (slice_index_or events i no_events) (replayed b part.run.entry (take (i + 1) part.run.steps)).memory) (history_alone b part.run.entry part.run.steps)
            ∙ ap (λ d. is_met breaks (slice_index_or (history b (without_register part.run.entry) part.run.steps) i no_events) d.memory) (replayed_alone b part.run.entry (take (i + 1) part.run.steps))
            ∙ ap (λ d. is_met breaks (slice_index_or (history b d part.run.steps) i no_events) (replayed b d (take (i + 1) part.run.steps)).memory) entry);
      }

  reports_none : (place : ℕ) (parts : List (RunPart R P)) → parts ≡ [] → ReportsParts is breaks (is_hit b value steps breaks) place parts
  reports_none place parts e = subst (ReportsParts is breaks (is_hit b value steps breaks) place) (sym e) tt

  -- all segments after the steps `before` are settled: the test of hits is right for their runs
  -- (`ReportsParts`)
  reports_runs : (before : List Step) (c : Configuration R P) (keys : List ℕ) (rest : ℕ) (parts : List (RunPart R P)) (n : ℕ) → is c.register ≡ b → without_register c ≡ configuration_after b value before
      → steps ≡ before ++ steps_along old keys → rest ≡ length (steps_along old keys) → Settles E b old new c rest (reached old rest keys) parts n
      → ReportsParts is breaks (is_hit b value steps breaks) (length before) parts
  reports_runs before c [] rest parts n home comes all long h = reports_none (length before) parts h.0
  reports_runs before c (k ∷ ks) rest parts n home comes all long h = by (λ before' c' rest' parts' n'. reports_runs before' c' ks rest' parts' n') (nat_eq rest 0) parts h
    where
      Later : Type 0
      Later = (before' : List Step) (c' : Configuration R P) (rest' : ℕ) (parts' : List (RunPart R P)) (n' : ℕ) → is c'.register ≡ b → without_register c' ≡ configuration_after b value before'
          → steps ≡ before' ++ steps_along old ks → rest' ≡ length (steps_along old ks) → Settles E b old new c' rest' (reached old rest' ks) parts' n'
          → ReportsParts is breaks (is_hit b value steps breaks) (length before') parts'

      some : Later → (part : RunPart R P) (parts' : List (RunPart R P)) → Settles E b old new c rest (k ∷ reached old (rest - length (steps_at old k)) ks) (part ∷ parts') n
          → ReportsParts is breaks (is_hit b value steps breaks) (length before) (part ∷ parts')
      some later part parts' s =
          let segment : List Step = steps_at old k in
          let total : rest ≡ length segment + length (steps_along old ks) = long ∙ ap length (steps_along_more old k ks) ∙ length-append segment (steps_along old ks) in
          let count : part.count ≡ length segment = s.3.count ∙ omega (arith, total) in
          let parted : steps ≡ (before ++ segment) ++ steps_along old ks = all ∙ ap (λ l. before ++ l) (steps_along_more old k ks) ∙ sym (append_assoc before segment (steps_along old ks)) in
          let next : without_register (replayed b c segment) ≡ configuration_after b value (before ++ segment) =
          replayed_alone b c segment ∙ ap (λ d. replayed b d segment) comes ∙ sym (replayed-append b (first_configuration b value) before segment) in
          let place : length (before ++ segment) ≡ length before + part.count = length-append before segment ∙ ap (λ m. length before + m) (sym count) in (
            reports_run before c k ks part home comes all s.3.fits count,
            subst (λ m. ReportsParts is breaks (is_hit b value steps breaks) m parts') place
                (later (before ++ segment) (replayed b c segment) (rest - length segment) parts' s.1 (ap is (register_kept b c segment) ∙ home) next parted (omega (arith, total)) s.4),
          )

      by : Later → (t : Bool) (parts' : List (RunPart R P)) → Settles E b old new c rest (cond t [] (k ∷ reached old (rest - length (steps_at old k)) ks)) parts' n
          → ReportsParts is breaks (is_hit b value steps breaks) (length before) parts'
      by later true parts' s = reports_none (length before) parts' s.0
      by later false [] s = absurd s
      by later false (part ∷ parts') s = some later part parts' s

module _ {R P : Type 0} (E : R → R → Bool) (is : R → Behaviour P) (alike : (x y : R) → E x y ≡ true → is x ≡ is y) where
  -- a whole branch is settled: the test of hits is right for its runs (`ReportsParts`)
  pub runs_report : (old new : Charted R P) (name : List ℕ) (len : ℕ) (parts : List (RunPart R P)) (n : ℕ) (breaks : List Break) → len ≡ length (steps_in (forest old.trie) name)
      → old.start ≡ initial_configuration (is old.start.register) old.start.register old.value
      → IsSettled E (is old.start.register) old new name len parts n
      → ReportsParts is breaks (is_hit (is old.start.register) old.value (steps_in (forest old.trie) name) breaks) 0 parts
  runs_report old new name len parts n breaks long begins h =
      let b = is old.start.register in
      let named = steps_named old.trie name in
      reports_runs E is alike b old.trie new.trie old.value breaks (steps_in (forest old.trie) name) [] old.start (keys_named old.trie name) len parts n refl (ap without_register begins) named
      (long ∙ ap length named) h.settles

-- step i of several: the configuration right after it, and the events that it records
module _ {R P : Type 0} (b : Behaviour P) where
  pub replayed_next : (c : Configuration R P) (steps : List Step) (i : ℕ) (s : Step) → i < length steps → s ≡ get_or steps i s
      → replayed b c (take (i + 1) steps) ≡ stepped b (replayed b c (take i steps)) s
  replayed_next c [] i s h e = absurd (omega (arith, h))
  replayed_next c (x ∷ steps) zero s h e = let same : x ≡ s = sym e in ap (stepped b c) same
  replayed_next c (x ∷ steps) (suc i) s h e =
      let next : suc i + 1 ≡ suc (i + 1) = omega arith in
      ap (λ n. replayed b c (take n (x ∷ steps))) next ∙ replayed_next (stepped b c x) steps i s (omega (arith, h)) e

  pub events_next : (c : Configuration R P) (steps : List Step) (i : ℕ) (s : Step) → i < length steps → s ≡ get_or steps i s
      → slice_index_or (history b c steps) i no_events ≡ events_of_step b (replayed b c (take i steps)) s
  events_next c [] i s h e = absurd (omega (arith, h))
  events_next c (x ∷ steps) zero s h e = let same : x ≡ s = sym e in ap (events_of_step b c) same
  events_next c (x ∷ steps) (suc i) s h e = events_next (stepped b c x) steps i s (omega (arith, h)) e

  pub events_of_front : (c : Configuration R P) (steps : List Step) (count i : ℕ) → i < count
      → slice_index_or (history b c (take count steps)) i no_events ≡ slice_index_or (history b c steps) i no_events
  events_of_front c steps zero i h = absurd (omega (arith, h))
  events_of_front c [] (suc count) i h = refl
  events_of_front c (x ∷ steps) (suc count) zero h = refl
  events_of_front c (x ∷ steps) (suc count) (suc i) h = events_of_front (stepped b c x) steps count i (omega (arith, h))

-- if the test is right for the first `count` steps of a run, as `ReportsPart` says, then it is
-- right for their stored events, if no break is on a bit, and for the steps when they are replayed
module _ {R P : Type 0} (is : R → Behaviour P) (breaks : List Break) (test : ℕ → Bool) (place : ℕ) (run : SegmentRun R P) (count : ℕ) (reports : ReportsPart is breaks test place (record { run = run; count = count })) where
  pub events_report : IsTrueRun (is run.entry.register) run → list_any is_on_bit breaks ≡ false → (i : ℕ) → i < length (take count run.events)
      → test ((place + 1) + i) ≡ is_any_met_by_events breaks (slice_index_or (take count run.events) i no_events)
  events_report true_run none i h =
      let within : i < count = omega (arith, h, length-take count run.events) in
      let b = is run.entry.register in
      reports.each i within
      ∙ met_by_events breaks (slice_index_or (history b run.entry run.steps) i no_events) (replayed b run.entry (take (i + 1) run.steps)).memory none
      ∙ ap (λ events. is_any_met_by_events breaks (slice_index_or events i no_events)) (sym true_run.events)
      ∙ ap (is_any_met_by_events breaks) (sym (get_or-take count run.events i no_events within))

  pub events_count : IsTrueRun (is run.entry.register) run → length (take count run.events) ≡ count
  events_count true_run =
      let long : length run.events ≡ length run.steps = ap length true_run.events ∙ length-history (is run.entry.register) run.entry run.steps in
      omega (arith, length-take count run.events, long, reports.within)

  pub steps_report : (i : ℕ) → i < length (take count run.steps)
      → test ((place + 1) + i) ≡ is_met breaks (slice_index_or (history (is run.entry.register) run.entry (take count run.steps)) i no_events)
      (replayed (is run.entry.register) run.entry (take (i + 1) (take count run.steps))).memory
  steps_report i h =
      let within : i < count = omega (arith, h, length-take count run.steps) in
      let b = is run.entry.register in
      reports.each i within
      ∙ ap (λ events. is_met breaks events (replayed b run.entry (take (i + 1) run.steps)).memory) (sym (events_of_front b run.entry run.steps count i within))
      ∙ ap (λ steps. is_met breaks (slice_index_or (history b run.entry (take count run.steps)) i no_events) (replayed b run.entry steps).memory)
      (sym (take-take (i + 1) count run.steps (omega (arith, within))))

  pub steps_count : length (take count run.steps) ≡ count
  steps_count = omega (arith, length-take count run.steps, reports.within)

-- runs that follow one another, each with a count of its first steps
module _ {R P Z : Type 0} where
  pub counted_split : (runs : List (Arc (SegmentRun R P) Z × ℕ)) (i : ℕ) (x : Arc (SegmentRun R P) Z × ℕ) → i < length runs → x ≡ get_or runs i x
      → counted (map part_of (take (i + 1) runs)) ≡ counted (map part_of (take i runs)) + x.1
  counted_split [] i x h e = absurd (omega (arith, h))
  counted_split (y ∷ runs) zero x h e = let same : y ≡ x = sym e in ap (λ (z : Arc (SegmentRun R P) Z × ℕ). z.1 + 0) same ∙ omega arith
  counted_split (y ∷ runs) (suc i) x h e =
      let next : suc i + 1 ≡ suc (i + 1) = omega arith in
      ap (λ n. counted (map part_of (take n (y ∷ runs)))) next ∙ ap (λ n. y.1 + n) (counted_split runs i x (omega (arith, h)) e) ∙ omega arith

  pub counted_within : (runs : List (Arc (SegmentRun R P) Z × ℕ)) (n : ℕ) → counted (map part_of (take n runs)) ≤ counted (map part_of runs)
  counted_within runs zero = omega arith
  counted_within [] (suc n) = omega arith
  counted_within (y ∷ runs) (suc n) = omega (arith, counted_within runs n)

  pub reports_at : (is : R → Behaviour P) (breaks : List Break) (test : ℕ → Bool) (place : ℕ) (runs : List (Arc (SegmentRun R P) Z × ℕ)) (i : ℕ) (x : Arc (SegmentRun R P) Z × ℕ)
      → i < length runs → x ≡ get_or runs i x → ReportsParts is breaks test place (map part_of runs) → ReportsPart is breaks test (place + counted (map part_of (take i runs))) (part_of x)
  reports_at is breaks test place [] i x h e t = absurd (omega (arith, h))
  reports_at is breaks test place (y ∷ runs) zero x h e t =
      let none : place ≡ place + 0 = omega arith in
      let same : y ≡ x = sym e in
      subst (λ n. ReportsPart is breaks test n (part_of x)) none (subst (λ (z : Arc (SegmentRun R P) Z × ℕ). ReportsPart is breaks test place (part_of z)) same t.0)
  reports_at is breaks test place (y ∷ runs) (suc i) x h e t =
      let next : (place + y.1) + counted (map part_of (take i runs)) ≡ place + (y.1 + counted (map part_of (take i runs))) = omega arith in
      subst (λ n. ReportsPart is breaks test n (part_of x)) next (reports_at is breaks test (place + y.1) runs i x (omega (arith, h)) e t.1)
