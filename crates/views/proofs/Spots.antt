-- What a settled place's runs reach and record.
use Rattle.std.proofs.Common.{◌≡◌, ℕ, zero, suc, ◌+◌, ◌-◌, ◌<◌, ◌≤◌, Bool, true, false, nat_eq, cond, List, [], ◌∷◌, ◌++◌, length, map, take, Option, Some, None, refl, sym, ap, subst, ◌∙◌, arith, inl, inr, append-nil, append_assoc, get_or, eqb-true}
use Rattle.std.specs.Option.{option_map, unwrap_or}
use Rattle.std.specs.Cmp.{IsEquivalence}
use Rattle.std.specs.Arc.{arc_value}
use Rattle.std.specs.declared.sync.Arc.{Arc}
use Rattle.checkpoints.specs.Runs.{SegmentRun, IsTrueRun}
use Rattle.std.proofs.lemmas.Bool.{cases_lt}
use Rattle.std.proofs.Math.Seq.{take-append-add}
use Rattle.std.proofs.lemmas.List.{take_all, map-append, length-map, take-append-le}
use Rattle.frames.specs.declared.types.Step.{Step}
use Rattle.frames.specs.Behaviour.{Behaviour}
use Rattle.frames.specs.Configuration.{Configuration, initial_configuration, replayed, history}
use Rattle.frames.specs.Equality.{SameConfiguration}
use Rattle.schedule_trie.specs.Forest.{Forest, step_of, index_of, slots_in, path_by, len_of}
use Rattle.schedule_trie.specs.Trie.{TrieOf, segment_at, slots_of, line, forest}
use Rattle.schedule_trie.proofs.branches.Lines.{slots_in_on}
use Rattle.cutoff.specs.Fitting.{StoredRun, RunPart, RunFits, steps_at, reached, counted, part_of}
use Rattle.cutoff.specs.Settles.{Settles, IsSettled}
use Rattle.cutoff.specs.Charts.{Charted, keys_named}
use Rattle.frames.specs.Recorded.{first_configuration, without_register}
use Rattle.frames.specs.laws.WithoutRegister.{register_kept, replayed_alone, history_alone, without_register_same, replayed_same, history_same}
use Rattle.views.specs.Spots.{part_end, part_events, parts_end, parts_events, IsSpotOf}
use Rattle.views.specs.Looks.{steps_in}
use Rattle.views.proofs.Replays.{replayed-append, history-append, history-take}

-- the steps of the segments with these keys, one segment after the other
abbrev pub steps_along : {R P : Type 0} → TrieOf (StoredRun R P) → List ℕ → List Step
steps_along trie keys = map step_of (line (segment_at trie.segments) keys)

-- the steps along several keys are those of the first key's segment, then those along the rest
pub steps_along_more : {R P : Type 0} (trie : TrieOf (StoredRun R P)) (k : ℕ) (ks : List ℕ) → steps_along trie (k ∷ ks) ≡ steps_at trie k ++ steps_along trie ks
steps_along_more trie k ks = map-append step_of (slots_of (segment_at trie.segments k)) (line (segment_at trie.segments) ks)

module _ {R P : Type 0} (E : R → R → Bool) (equal : IsEquivalence E) (is : R → Behaviour P) (alike : (x y : R) → E x y ≡ true → is x ≡ is y)
    (b : Behaviour P) (old new : TrieOf (StoredRun R P)) where
  -- from d, the parts reach what the steps reach from c, and record their events
  record ReplaysAs (c d : Configuration R P) (parts : List (RunPart R P)) (steps : List Step) : Type 0 where
    pub end : SameConfiguration E (parts_end is d parts) (replayed b c steps)
    pub events : parts_events is parts ≡ history b c steps

  no_parts_replay : (c d : Configuration R P) (parts : List (RunPart R P)) (place : ℕ) (steps : List Step) → SameConfiguration E d c → parts ≡ [] → place ≡ 0 → ReplaysAs c d parts (take place steps)
  no_parts_replay c d parts place steps same none e =
      subst (λ n. ReplaysAs c d parts (take n steps)) (sym e) (subst (λ ps. ReplaysAs c d ps []) (sym none) (record { end = same; events = refl }))

  -- a part that counts n steps of its segment
  module _ (c : Configuration R P) (k n : ℕ) (part : RunPart R P) (home : is c.register ≡ b) (fits : RunFits E c (steps_at old k) part.run) (count : part.count ≡ n) where
    own_behaviour : is part.run.entry.register ≡ b
    own_behaviour = alike part.run.entry.register c.register fits.entry.register ∙ home

    counted_steps : take part.count part.run.steps ≡ take n (steps_at old k)
    counted_steps = ap (λ m. take m part.run.steps) count ∙ ap (take n) fits.steps

    part_reaches : SameConfiguration E (part_end is part) (replayed b c (take n (steps_at old k)))
    part_reaches =
        subst (λ x. SameConfiguration E (replayed x part.run.entry (take part.count part.run.steps)) (replayed b c (take n (steps_at old k)))) (sym own_behaviour)
        (subst (λ xs. SameConfiguration E (replayed b part.run.entry xs) (replayed b c (take n (steps_at old k)))) (sym counted_steps)
        (replayed_same E b part.run.entry c (take n (steps_at old k)) fits.entry))

    part_events_are : part_events is part ≡ history b c (take n (steps_at old k))
    part_events_are =
        ap (λ x. history x part.run.entry (take part.count part.run.steps)) own_behaviour ∙ ap (history b part.run.entry) counted_steps
        ∙ history_same E b part.run.entry c (take n (steps_at old k)) fits.entry

  none_reached : (c : Configuration R P) (place : ℕ) (ks : List ℕ) (parts : List (RunPart R P)) (n : ℕ) → place ≡ 0
      → Settles E b old new c place (reached old place ks) parts n → parts ≡ []
  none_reached c place [] parts n e h = h.0
  none_reached c place (k ∷ ks) parts n e h =
      (subst (λ (t : Bool). Settles E b old new c place (cond t [] (k ∷ reached old (place - length (steps_at old k)) ks)) parts n) (ap (λ m. nat_eq m 0) e) h).0

  settled_parts_replay : (c d : Configuration R P) (place : ℕ) (keys : List ℕ) (parts : List (RunPart R P)) (n : ℕ) → is c.register ≡ b → SameConfiguration E d c → counted parts ≡ place
      → Settles E b old new c place (reached old place keys) parts n → ReplaysAs c d parts (take place (steps_along old keys))
  settled_parts_replay c d place [] parts n home same sum h = no_parts_replay c d parts place [] same h.0 (sym sum ∙ ap counted h.0)
  settled_parts_replay c d place (k ∷ ks) parts n home same sum h = by (λ c' d' place' parts' n'. settled_parts_replay c' d' place' ks parts' n') (nat_eq place 0) refl parts sum h
    where
      -- what `settled_parts_replay` states, of the segments after this one
      Later : Type 0
      Later = (c' d' : Configuration R P) (place' : ℕ) (parts' : List (RunPart R P)) (n' : ℕ) → is c'.register ≡ b → SameConfiguration E d' c' → counted parts' ≡ place'
          → Settles E b old new c' place' (reached old place' ks) parts' n' → ReplaysAs c' d' parts' (take place' (steps_along old ks))

      len : ℕ
      len = length (steps_at old k)

      next : Configuration R P
      next = replayed b c (steps_at old k)

      whole_part : (part : RunPart R P) (rest : List (RunPart R P)) → RunFits E c (steps_at old k) part.run → part.count ≡ len → len ≤ place
          → ReplaysAs next (part_end is part) rest (take (place - len) (steps_along old ks)) → ReplaysAs c d (part ∷ rest) (take place (steps_along old (k ∷ ks)))
      whole_part part rest fits count h later =
          let sum_is : place ≡ len + (place - len) = omega (arith, h) in
          let all : take place (steps_along old (k ∷ ks)) ≡ steps_at old k ++ take (place - len) (steps_along old ks) =
          ap (take place) (steps_along_more old k ks) ∙ ap (λ m. take m (steps_at old k ++ steps_along old ks)) sum_is ∙ take-append-add (steps_at old k) (steps_along old ks) (place - len) in
          let every : take len (steps_at old k) ≡ steps_at old k = take_all len (steps_at old k) (omega arith) in
          subst (ReplaysAs c d (part ∷ rest)) (sym all)
          (record {
            end = subst (SameConfiguration E (parts_end is (part_end is part) rest)) (sym (replayed-append b c (steps_at old k) (take (place - len) (steps_along old ks)))) later.end;
            events = ap (λ es. es ++ parts_events is rest) (part_events_are c k len part home fits count ∙ ap (history b c) every)
                ∙ ap (λ es. history b c (steps_at old k) ++ es) later.events ∙ sym (history-append b c (steps_at old k) (take (place - len) (steps_along old ks)));
          })

      only_part : (part : RunPart R P) (rest : List (RunPart R P)) → RunFits E c (steps_at old k) part.run → part.count ≡ place → place < len → rest ≡ []
          → ReplaysAs c d (part ∷ rest) (take place (steps_along old (k ∷ ks)))
      only_part part rest fits count h none =
          let all : take place (steps_along old (k ∷ ks)) ≡ take place (steps_at old k) =
          ap (take place) (steps_along_more old k ks) ∙ take-append-le place (steps_at old k) (steps_along old ks) (omega (arith, h)) in
          subst (ReplaysAs c d (part ∷ rest)) (sym all)
          (subst (λ ps. ReplaysAs c d (part ∷ ps) (take place (steps_at old k))) (sym none)
          (record {
            end = part_reaches c k place part home fits count;
            events = append-nil (part_events is part) ∙ part_events_are c k place part home fits count;
          }))

      at_least_one_part : Later → (part : RunPart R P) (rest : List (RunPart R P)) (m : ℕ) → part.count + counted rest ≡ place
          → Settles E b old new c place (k ∷ reached old (place - len) ks) (part ∷ rest) m → ReplaysAs c d (part ∷ rest) (take place (steps_along old (k ∷ ks)))
      at_least_one_part later part rest m sum h = elim (cases_lt place len) [
        | inl less ↦
            let count : part.count ≡ place = h.3.count ∙ omega (arith, less) in
            only_part part rest h.3.fits count less (none_reached next (place - len) ks rest h.1 (omega (arith, less)) h.4)
        | inr more ↦
            let count : part.count ≡ len = h.3.count ∙ omega (arith, more) in
            let every : take len (steps_at old k) ≡ steps_at old k = take_all len (steps_at old k) (omega arith) in
            whole_part part rest h.3.fits count more
            (later next (part_end is part) (place - len) rest h.1 (ap is (register_kept b c (steps_at old k)) ∙ home)
            (subst (λ xs. SameConfiguration E (part_end is part) (replayed b c xs)) every (part_reaches c k len part home h.3.fits count))
            (omega (arith, sum, count, more)) h.4)
      ]

      by : Later → (t : Bool) → nat_eq place 0 ≡ t → (parts : List (RunPart R P)) → counted parts ≡ place
          → Settles E b old new c place (cond t [] (k ∷ reached old (place - len) ks)) parts n → ReplaysAs c d parts (take place (steps_along old (k ∷ ks)))
      by later true e parts sum h = no_parts_replay c d parts place (steps_along old (k ∷ ks)) same h.0 (eqb-true place 0 e)
      by later false e [] sum h = absurd h
      by later false e (part ∷ rest) sum h = at_least_one_part later part rest n sum h

-- one more part adds the events of its first steps to those of the parts before it
pub events_more : {R P Z : Type 0} (is : R → Behaviour P) (runs : List (Arc (SegmentRun R P) Z × ℕ)) (i : ℕ) (x : Arc (SegmentRun R P) Z × ℕ) → i < length runs → x ≡ get_or runs i x
    → IsTrueRun (is (arc_value x.0).entry.register) (arc_value x.0) → parts_events is (map part_of (take (suc i) runs)) ≡ parts_events is (map part_of (take i runs)) ++ take x.1 (arc_value x.0).events
events_more is [] i x within e run = absurd (omega (arith, within))
events_more {R} {P} {Z} is (y ∷ runs) zero x within e run =
    append-nil (part_events is (part_of y)) ∙ ap (λ (z : Arc (SegmentRun R P) Z × ℕ). part_events is (part_of z)) (sym e)
    ∙ sym (ap (take x.1) run.events ∙ history-take (is (arc_value x.0).entry.register) (arc_value x.0).entry x.1 (arc_value x.0).steps)
events_more is (y ∷ runs) (suc i) x within e run =
    ap (λ events. part_events is (part_of y) ++ events) (events_more is runs i x (omega (arith, within)) e run)
    ∙ sym (append_assoc (part_events is (part_of y)) (parts_events is (map part_of (take i runs))) (take x.1 (arc_value x.0).events))

-- the steps of a named branch are those of the segments with its keys, one after another
pub steps_named : {R P : Type 0} (trie : TrieOf (StoredRun R P)) (name : List ℕ) → steps_in (forest trie) name ≡ map step_of (line (segment_at trie.segments) (keys_named trie name))
steps_named trie name = by (index_of (forest trie).branches name) refl
  where
    by : (o : Option ℕ) → index_of (forest trie).branches name ≡ o → steps_in (forest trie) name ≡ map step_of (line (segment_at trie.segments) (keys_named trie name))
    by None e = rw e refl
    by (Some i) e = rw e (ap (map step_of) (slots_in_on (segment_at trie.segments) trie.branches i))

-- the length of a branch is the number of its steps
pub len_is_step_count : (f : Forest) (name : List ℕ) (len : ℕ) → Some len ≡ len_of f name → len ≡ length (steps_in f name)
len_is_step_count f name len len_of_is = by (index_of f.branches name) refl
  where
    Counts : Option ℕ → Type 0
    Counts o = Some len ≡ option_map (λ i. length (slots_in f.branches i)) o

    by : (o : Option ℕ) → index_of f.branches name ≡ o → len ≡ length (steps_in f name)
    by None e =
        let bad : ◌≡◌ {A = Option ℕ} (Some len) None = subst Counts e len_of_is in
        cc
    by (Some i) e =
        let found : Some len ≡ Some (length (slots_in f.branches i)) = subst Counts e len_of_is in
        let same : len ≡ length (slots_in f.branches i) = cc in
        subst (λ (o : Option ℕ). len ≡ length (unwrap_or (path_by o f) [])) (sym e) (same ∙ sym (length-map (slots_in f.branches i) step_of))

module _ {R P : Type 0} (E : R → R → Bool) (equal : IsEquivalence E) (is : R → Behaviour P) (alike : (x y : R) → E x y ≡ true → is x ≡ is y) where
  -- the parts that are the result of settling a place are as `IsSpotOf` states
  pub spot_of : (old new : Charted R P) (name : List ℕ) (place len : ℕ) (parts : List (RunPart R P)) (n : ℕ) → Some len ≡ len_of (forest old.trie) name
      → old.start ≡ initial_configuration (is old.start.register) old.start.register old.value
      → IsSettled E (is old.start.register) old new name place parts n
      → IsSpotOf is old.start old.value (steps_in (forest old.trie) name) place len parts
  spot_of old new name place len parts n len_of_is begins h =
      let b = is old.start.register in
      let replays = settled_parts_replay E equal is alike b old.trie new.trie old.start old.start place (keys_named old.trie name) parts n refl
      (record { register = equal.refl old.start.register; memory = refl; running = refl; stopped = refl }) h.sum h.settles in
      let branch_steps : List Step = map step_of (line (segment_at old.trie.segments) (keys_named old.trie name)) in
      let steps : branch_steps ≡ steps_in (forest old.trie) name = sym (steps_named old.trie name) in
      let first : without_register old.start ≡ first_configuration b old.value = ap without_register begins in
      record {
        counted = len_is_step_count (forest old.trie) name len len_of_is;
        behaves_alike = alike (parts_end is old.start parts).register (replayed b old.start (take place branch_steps)).register replays.end.register ∙ ap is (register_kept b old.start (take place branch_steps));
        reaches = without_register_same E (parts_end is old.start parts) (replayed b old.start (take place branch_steps)) replays.end ∙ replayed_alone b old.start (take place branch_steps)
            ∙ ap (λ xs. replayed b (without_register old.start) (take place xs)) steps ∙ ap (λ c. replayed b c (take place (steps_in (forest old.trie) name))) first;
        records = replays.events ∙ history_alone b old.start (take place branch_steps) ∙ ap (λ xs. history b (without_register old.start) (take place xs)) steps
            ∙ ap (λ c. history b c (take place (steps_in (forest old.trie) name))) first;
      }
