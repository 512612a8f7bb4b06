-- One step of a replay.
use Rattle.std.proofs.Common.{◌≡◌, ◌∙◌, ℕ, suc, ◌+◌, ◌<◌, ◌≤◌, true, List, [], ◌∷◌, ◌++◌, map, length, drop, take, get_or, drop-cons, sym, ap, subst, arith, append_assoc}
use Rattle.std.proofs.Math.ListN.{drop_of_length-le}
use Rattle.std.proofs.Math.Seq.{take-suc}
use Rattle.std.proofs.lemmas.List.{map-id}
use Rattle.std.proofs.lemmas.List.Elements.{All-head, All-tail}
use Rattle.frames.specs.declared.types.Step.{Step}
use Rattle.frames.specs.declared.types.StepEvents.{StepEvents}
use Rattle.frames.specs.Behaviour.{Behaviour}
use Rattle.frames.specs.Configuration.{Configuration, fits_step, stepped, events_of, replayed, history}
use Rattle.frames.specs.Recorded.{AllFit}

-- the steps of the items from index i on are the step of the item at i, then those from i + 1 on
pub left_at : {S : Type 0} (step_in : S → Step) (items : List S) (i : ℕ) (item : S) → i < length items → item ≡ get_or items i item
    → map step_in (drop i items) ≡ step_in item ∷ map step_in (drop (i + 1) items)
left_at step_in items i item within is =
    let next : suc i ≡ i + 1 = omega arith in
    ap (map step_in) (drop-cons items i item within)
    ∙ ap (λ s. step_in s ∷ map step_in (drop (suc i) items)) (sym is)
    ∙ ap (λ n. step_in item ∷ map step_in (drop n items)) next

-- the steps from index i on are the one at i, then those from i + 1 on
pub next_left : (steps : List Step) (i : ℕ) (step other : Step) → i < length steps → step ≡ get_or steps i other → drop i steps ≡ step ∷ drop (i + 1) steps
next_left steps i step other within is =
    let next : suc i ≡ i + 1 = omega arith in
    drop-cons steps i other within ∙ ap (λ s. s ∷ drop (suc i) steps) (sym is) ∙ ap (λ n. step ∷ drop n steps) next

-- the first i + 1 steps are the first i, and the one at i
pub next_made : (steps : List Step) (i : ℕ) (step other : Step) → i < length steps → step ≡ get_or steps i other → take (i + 1) steps ≡ take i steps ++ step ∷ []
next_made steps i step other within is =
    let next : i + 1 ≡ suc i = omega arith in
    ap (λ n. take n steps) next ∙ take-suc steps i other within ∙ ap (λ s. take i steps ++ s ∷ []) (sym is)

-- after the last item no steps are left
pub none_left : {S : Type 0} (step_in : S → Step) (items : List S) (i : ℕ) → length items ≤ i → map step_in (drop i items) ≡ []
none_left step_in items i past = ap (map step_in) (drop_of_length-le items past)

-- the steps that are left are `step`, then `rest`
module _ (step : Step) (left rest : List Step) (first : left ≡ step ∷ rest) where
  pub first_fits : {P : Type 0} (b : Behaviour P) → AllFit b left → fits_step b step ≡ true
  first_fits b all = All-head (λ s. fits_step b s ≡ true) step rest (subst (AllFit b) first all)

  pub rest_fits : {P : Type 0} (b : Behaviour P) → AllFit b left → AllFit b rest
  rest_fits b all = All-tail (λ s. fits_step b s ≡ true) step rest (subst (AllFit b) first all)

  pub still_all_steps : (steps more : List Step) → more ≡ steps ++ step ∷ [] → more ++ rest ≡ steps ++ left
  still_all_steps steps more is_more = ap (λ l. l ++ rest) is_more ∙ append_assoc steps (step ∷ []) rest ∙ sym (ap (λ l. steps ++ l) first)

-- the steps that are left are `step`, which leads from c to d, then `rest`
module _ {R P : Type 0} (b : Behaviour P) (c d : Configuration R P) (step : Step) (left rest : List Step) (first : left ≡ step ∷ rest) where
  pub step_replayed : d ≡ stepped b c step → replayed b d rest ≡ replayed b c left
  step_replayed after = ap (λ e. replayed b e rest) after ∙ sym (ap (replayed b c) first)

  pub step_reported : d ≡ stepped b c step → (reported more : List StepEvents) (one : StepEvents) → one ≡ events_of b c step → more ≡ reported ++ one ∷ []
      → more ++ history b d rest ≡ reported ++ history b c left
  step_reported after reported more one is is_more =
      ap (λ l. l ++ history b d rest) is_more ∙ append_assoc reported (one ∷ []) (history b d rest)
      ∙ ap (λ e. reported ++ e ∷ history b d rest) is ∙ ap (λ e. reported ++ events_of b c step ∷ history b e rest) after
      ∙ sym (ap (λ l. reported ++ history b c l) first)

-- a replay of the steps `whole` from `entry` has reached `now` with the events `reported`; the
-- steps `left` are still to be made: from `now` they lead to the end of `whole`, with its other
-- events
pub record IsUnderWay {R P : Type 0} (is : R → Behaviour P) (entry now : Configuration R P) (whole left : List Step) (reported : List StepEvents) : Type 0 where
  pub register : now.register ≡ entry.register
  pub fit : AllFit (is entry.register) left
  pub config : replayed (is entry.register) now left ≡ replayed (is entry.register) entry whole
  pub events : reported ++ history (is entry.register) now left ≡ history (is entry.register) entry whole

-- a replay that is under way stays so when c's register makes the next step, from c to d
pub still_under_way : {R P : Type 0} (is : R → Behaviour P) (entry c d : Configuration R P) (step : Step) (whole left rest : List Step) (reported more : List StepEvents) (one : StepEvents)
    → left ≡ step ∷ rest → d ≡ stepped (is c.register) c step → one ≡ events_of (is c.register) c step → more ≡ reported ++ one ∷ []
    → IsUnderWay is entry c whole left reported → IsUnderWay is entry d whole rest more
still_under_way is entry c d step whole left rest reported more one first after events is_more so_far =
    let b = is entry.register in
    let goes : d ≡ stepped b c step = after ∙ ap (λ r. stepped (is r) c step) so_far.register in
    let reports : one ≡ events_of b c step = events ∙ ap (λ r. events_of (is r) c step) so_far.register in
    record {
      register = ap (λ e. e.register) after ∙ so_far.register;
      fit = rest_fits step left rest first b so_far.fit;
      config = step_replayed b c d step left rest first goes ∙ so_far.config;
      events = step_reported b c d step left rest first goes reported more one reports is_more ∙ so_far.events;
    }

-- whatever `give` makes of a configuration and steps, it makes the same of an equal configuration,
-- also if each step is first mapped to itself
pub from_same : {R P T : Type 0} (is : R → Behaviour P) (give : Behaviour P → Configuration R P → List Step → T) (c d : Configuration R P) (steps : List Step) → c ≡ d
    → give (is c.register) c (map (λ s. s) steps) ≡ give (is d.register) d steps
from_same is give c d steps same = ap (λ e. give (is e.register) e (map (λ s. s) steps)) same ∙ ap (give (is d.register) d) (map-id steps)
