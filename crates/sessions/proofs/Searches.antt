-- What a search has found after one more place.
use Rattle.std.proofs.Common.{◌≡◌, ℕ, zero, suc, ◌+◌, Bool, true, false, ◌&&◌, ◌||◌, cond, nat_lt, List, [], ◌∷◌, ◌++◌, ◌<◌, length, get_or, drop, drop-cons, Option, Some, None, refl, sym, ap, ◌∙◌, arith, append-nil, reverse}
use Rattle.std.specs.List.{find, filter, list_any, range_with_len}
use Rattle.std.specs.Option.{option_or}
use Rattle.std.proofs.lemmas.List.{reverse-append}
use Rattle.std.proofs.lemmas.List.Elements.{filter-append}
use Rattle.std.proofs.lemmas.List.Folds.{find-append}
use Rattle.std.proofs.lemmas.Bool.{or_parts}
use Rattle.safe_bit.specs.Memory.{Memory}
use Rattle.frames.specs.declared.types.StepEvents.{StepEvents}
use Rattle.pages.specs.declared.breakpoint.Break.{Break}
use Rattle.pages.specs.declared.breakpoint.Break.TheVariants.{Returns, Bit, Chosen, Void, Refused}
use Rattle.frames.specs.declared.types.Event.{Event}
use Rattle.pages.specs.Breaks.{is_met, is_met_by_option, is_met_by_events, is_met_by_memory}
use Rattle.sessions.specs.declared.way.Way.{Way}
use Rattle.sessions.specs.declared.way.Way.TheVariants.{Forth, Back}
use Rattle.sessions.specs.Seeks.{places_with, least_above, greatest_below, next_place}
use Rattle.sessions.specs.Walks.{is_on_bit, is_any_met_by_events, ReportsEvents}

or_regrouped : (x xs y ys : Bool) → ((x || xs) || (y || ys)) ≡ ((x || y) || (xs || ys))
or_regrouped true xs y ys = refl
or_regrouped false true true ys = refl
or_regrouped false true false ys = refl
or_regrouped false false true ys = refl
or_regrouped false false false ys = refl

or_false : (a b : Bool) → b ≡ false → (a || b) ≡ a
or_false true b e = refl
or_false false b e = e

-- the range from a on, with one more number at its end
range_more : (a n : ℕ) → range_with_len a (suc n) ≡ range_with_len a n ++ (a + n) ∷ []
range_more a zero = let e : a ≡ a + 0 = omega arith in ap (λ m. m ∷ []) e
range_more a (suc n) =
    let e : (a + 1) + n ≡ a + suc n = omega arith in
    ap (λ l. a ∷ l) (range_more (a + 1) n ∙ ap (λ m. range_with_len (a + 1) n ++ m ∷ []) e)

module _ (test : ℕ → Bool) where
  -- the places below `place + 1` that pass the test: those below `place`, and `place` if it passes
  pub places_more : (place : ℕ) → places_with test (place + 1) ≡ places_with test place ++ cond (test place) (place ∷ []) []
  places_more place =
      let e : place + 1 ≡ suc place = omega arith in
      let z : 0 + place ≡ place = omega arith in
      ap (places_with test) e ∙ ap (filter test) (range_more 0 place ∙ ap (λ m. range_with_len 0 place ++ m ∷ []) z)
      ∙ filter-append test (range_with_len 0 place) (place ∷ [])

  -- a search of at most one place, and a search from the end of places to which one may be added
  pub find_one : (p : ℕ → Bool) (place : ℕ) (hit : Bool) → find p (cond hit (place ∷ []) []) ≡ cond (hit && p place) (Some place) None
  find_one p place true = refl
  find_one p place false = refl

  pub find_last : (p : ℕ → Bool) (places : List ℕ) (place : ℕ) (hit : Bool)
      → find p (reverse (places ++ cond hit (place ∷ []) [])) ≡ cond (hit && p place) (Some place) (find p (reverse places))
  find_last p places place true = ap (find p) (reverse-append places (place ∷ []))
  find_last p places place false = ap (λ l. find p (reverse l)) (append-nil places)

  -- what a search has found once one more place is searched, forth and back
  pub forth_more : (from place : ℕ) (hit : Bool) (found result : Option ℕ) → test place ≡ hit → found ≡ least_above from (places_with test place)
      → result ≡ option_or found (cond (hit && nat_lt from place) (Some place) None) → result ≡ least_above from (places_with test (place + 1))
  forth_more from place hit found result tested before after =
      after ∙ ap (λ o. option_or o (cond (hit && nat_lt from place) (Some place) None)) before
      ∙ ap (option_or (find (nat_lt from) (places_with test place))) (sym (find_one (nat_lt from) place hit) ∙ ap (λ h. find (nat_lt from) (cond h (place ∷ []) [])) (sym tested))
      ∙ sym (find-append (nat_lt from) (places_with test place) (cond (test place) (place ∷ []) []))
      ∙ ap (find (nat_lt from)) (sym (places_more place))

  pub back_more : (from place : ℕ) (hit : Bool) (found result : Option ℕ) → test place ≡ hit → found ≡ greatest_below from (places_with test place)
      → result ≡ cond (hit && nat_lt place from) (Some place) found → result ≡ greatest_below from (places_with test (place + 1))
  back_more from place hit found result tested before after =
      let below : ℕ → Bool = λ k. nat_lt k from in
      after ∙ ap (cond (hit && below place) (Some place)) before
      ∙ sym (find_last below (places_with test place) place hit)
      ∙ ap (λ h. find below (reverse (places_with test place ++ cond h (place ∷ []) []))) (sym tested)
      ∙ ap (λ l. find below (reverse l)) (sym (places_more place))

  or_none : (o : Option ℕ) → o ≡ option_or o None
  or_none None = refl
  or_none (Some x) = refl

  -- a place at which no break is met leaves the search as it was
  pub no_hit_more : (way : Way) (from place : ℕ) (hit : Bool) (found : Option ℕ) → hit ≡ false → test place ≡ hit → found ≡ next_place way from (places_with test place)
      → found ≡ next_place way from (places_with test (place + 1))
  no_hit_more way from place true found none tested before = cc
  no_hit_more Forth from place false found none tested before = forth_more from place false found found tested before (or_none found)
  no_hit_more Back from place false found none tested before = back_more from place false found found tested before refl

-- without an event no break is met
pub none_met_without_event : (breaks : List Break) → false ≡ list_any (λ break. is_met_by_option break None) breaks
none_met_without_event [] = refl
none_met_without_event (b ∷ bs) = none_met_without_event bs

-- one of the breaks is met by the first event, or one by the second, exactly if one of the breaks
-- is met by either event
pub met_by_either : (first second : Option Event) (breaks : List Break)
    → (list_any (λ break. is_met_by_option break first) breaks || list_any (λ break. is_met_by_option break second) breaks) ≡ list_any (λ break. is_met_by_option break first || is_met_by_option break second) breaks
met_by_either first second [] = refl
met_by_either first second (b ∷ bs) =
    or_regrouped (is_met_by_option b first) (list_any (λ break. is_met_by_option break first) bs) (is_met_by_option b second) (list_any (λ break. is_met_by_option break second) bs)
    ∙ ap (λ rest. (is_met_by_option b first || is_met_by_option b second) || rest) (met_by_either first second bs)

not_met_by_memory : (break : Break) (m : Memory) → is_on_bit break ≡ false → is_met_by_memory break m ≡ false
not_met_by_memory (Returns p) m e = refl
not_met_by_memory (Bit j v) m e = cc
not_met_by_memory Chosen m e = refl
not_met_by_memory Void m e = refl
not_met_by_memory Refused m e = refl

-- if none of the breaks is on a bit, whether one of them is met depends on the events alone
pub met_by_events : (breaks : List Break) (events : StepEvents) (m : Memory) → list_any is_on_bit breaks ≡ false → is_met breaks events m ≡ is_any_met_by_events breaks events
met_by_events [] events m e = refl
met_by_events (break ∷ breaks) events m e =
    let none = or_parts (is_on_bit break) (list_any is_on_bit breaks) e in
    ap (λ b. b || is_met breaks events m) (or_false (is_met_by_events break events) (is_met_by_memory break m) (not_met_by_memory break m none.0))
    ∙ ap (λ b. is_met_by_events break events || b) (met_by_events breaks events m none.1)

-- a test that is right for the events of successive steps (`ReportsEvents`) is right for those of
-- the first step, and for those of the steps after it
pub reports_first : (breaks : List Break) (test : ℕ → Bool) (place : ℕ) (events : StepEvents) (later : List StepEvents) → ReportsEvents breaks test place (events ∷ later)
    → test (place + 1) ≡ is_any_met_by_events breaks events
reports_first breaks test place events later reports =
    let here : place + 1 ≡ (place + 1) + 0 = omega arith in
    ap test here ∙ reports 0 (omega arith)

pub reports_after : (breaks : List Break) (test : ℕ → Bool) (place : ℕ) (events : StepEvents) (later : List StepEvents) → ReportsEvents breaks test place (events ∷ later)
    → ReportsEvents breaks test (place + 1) later
reports_after breaks test place events later reports i within =
    let next : ((place + 1) + 1) + i ≡ (place + 1) + suc i = omega arith in
    ap test next ∙ reports (suc i) (omega (arith, within))

-- t says whether break i is met; none of the breaks before it is (`so_far`)
module _ (breaks : List Break) (events : StepEvents) (store m : Memory) (i : ℕ) (default : Break) (t : Bool)
    (within : i < length breaks) (same : store ≡ m)
    (here : t ≡ (is_met_by_events (get_or breaks i default) events || is_met_by_memory (get_or breaks i default) store))
    (so_far : is_met breaks events m ≡ is_met (drop i breaks) events m) where
  met_from : is_met breaks events m ≡ (t || is_met (drop (i + 1) breaks) events m)
  met_from =
      let one = get_or breaks i default in
      let next : suc i ≡ i + 1 = omega arith in
      so_far ∙ ap (λ l. is_met l events m) (drop-cons breaks i default within)
      ∙ ap (λ k. (is_met_by_events one events || is_met_by_memory one m) || is_met (drop k breaks) events m) next
      ∙ ap (λ b. b || is_met (drop (i + 1) breaks) events m) (sym (here ∙ ap (λ s. is_met_by_events one events || is_met_by_memory one s) same))

  pub met_here : t ≡ true → true ≡ is_met breaks events m
  met_here e = sym (met_from ∙ ap (λ b. b || is_met (drop (i + 1) breaks) events m) e)

  pub met_later : t ≡ false → is_met breaks events m ≡ is_met (drop (i + 1) breaks) events m
  met_later e = met_from ∙ ap (λ b. b || is_met (drop (i + 1) breaks) events m) e
