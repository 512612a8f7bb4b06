-- No read of a unary number's last bit gives 0. The proof compares the number with a variant that
-- refuses a scan that finds no 1. Up to the first such refusal both do the same, and the variant,
-- which is regular, never refuses.
use Rattle.std.proofs.Common.{◌≡◌, ◌≢◌, ℕ, zero, suc, ◌+◌, ◌-◌, ◌≤◌, ◌==◌, Bool, true, false, true≢false, List, [], ◌∷◌, ◌++◌, Option, Some, None, refl, sym, ap, subst, arith, append_assoc}
use Rattle.std.specs.Prelude.{⊤, ◌||◌, if◌then◌else◌, MatchOption}
use Rattle.std.specs.List.{AllByRecursion, list_any}
use Rattle.std.proofs.lemmas.Bool.{eqb-true, or_parts}
use Rattle.std.proofs.lemmas.List.Elements.{All-nil, All-cons, All-append, All-head, All-tail, All-from_recursion}
use Rattle.safe_bit.specs.Memory.{Memory}
use Rattle.frames.specs.declared.types.Op.{Op}
use Rattle.frames.specs.declared.types.Op.TheVariants as op
use Rattle.frames.specs.declared.types.Event.{Event}
use Rattle.frames.specs.declared.types.Event.TheVariants.{Invoke}
use Rattle.frames.specs.declared.types.Layer.{Layer}
use Rattle.frames.specs.declared.types.Step.{Step}
use Rattle.frames.specs.declared.types.Step.TheVariants as step
use Rattle.frames.specs.declared.types.StepEvents.{StepEvents}
use Rattle.frames.specs.declared.types.Outcome.{Outcome}
use Rattle.frames.specs.declared.types.Outcome.TheVariants.{Value, Written, Spent}
use Rattle.frames.specs.declared.types.Next.{Next}
use Rattle.frames.specs.declared.types.Next.TheVariants.{Pending, Done}
use Rattle.frames.specs.declared.running.Running.{Running}
use Rattle.frames.specs.Behaviour.{Behaviour, Begun, Moved, IsLawful}
use Rattle.frames.specs.Configuration.{in_order, return_of, chosen_of, acted, Acted, acting_unless, events_of, stepped, replayed, history, put_acted, with_stop_mark, running_at, is_stopped, fits_step}
use Rattle.frames.specs.Steps.{process_of}
use Rattle.frames.specs.Flat.{IsReached}
use Rattle.frames.specs.StoredConfiguration.{IsConfiguration}
use Rattle.frames.specs.Recorded.{LoneConfiguration, AllFit, at_index, indexed, first_configuration}
use Rattle.frames.specs.correctness.Regularity.{is_refusal, IsRegular}
use Rattle.frames.specs.laws.Steps.{step_keeps}
use Rattle.frames.proofs.Pending.{first_is_configuration}
use Rattle.layers.specs.declared.nested.Nested.{Nested}
use Rattle.layers.specs.Ended.{Ended, ended_after, ended_by, ended_unless, ended_in}
use Rattle.layers.specs.Nested.{Program, Ends, Table, asked, part_goes, after_part, advance, resume, layered}
use Rattle.layers.specs.Sound.{IsSoundTable, FitsBelow, LayerHolds, LayerReaches}
use Rattle.layers.specs.laws.Layered.{layer_lawful}
use Rattle.layers.specs.laws.Over.{over}
use Rattle.unary_number.specs.declared.task.UnaryTask.{UnaryTask}
use Rattle.unary_number.specs.declared.task.UnaryTask.TheVariants.{Setting, Clearing, Looking}
use Rattle.unary_number.specs.Program.{unary_table_with, unary_table, unary_program, unary_rest, unary_asks, clears_below, looks_above, after_look, UnaryMayBeAt}
use Rattle.unary_number.specs.LastBit.{NoZeroFromLastBit, AlwaysFindsOne}
use Rattle.unary_number.proofs.Kept.{unary_over_regular}

-- an operation isn't refused
abbrev IsNotRefused : {N : Type 0} → Next N → Type 0
IsNotRefused (Done (Spent layer)) = ⊥
IsNotRefused _ = ⊤

-- an event, if there is one, isn't a refusal
abbrev IsNoRefusal : Option Event → Type 0
IsNoRefusal e = MatchOption e ⊤ (λ e. is_refusal e ≡ false)

-- neither of a step's two events is a refusal
abbrev AreNoRefusals : StepEvents → Type 0
AreNoRefusals e = IsNoRefusal e.first × IsNoRefusal e.second

-- an operation isn't refused if its return, if there is one, isn't a refusal
not_refused_from_return : {N : Type 0} (who : ℕ) (next : Next N) → IsNoRefusal (return_of who next) → IsNotRefused next
not_refused_from_return who (Done (Spent layer)) h = absurd (true≢false h)
not_refused_from_return who _ h = tt

-- an operation isn't refused in a step whose events are no refusals
not_refused_from_step : {N : Type 0} (who : ℕ) (event : Option Event) (next : Next N) → AreNoRefusals (in_order event (return_of who next)) → IsNotRefused next
not_refused_from_step who None next h = not_refused_from_return who next h.0
not_refused_from_step who (Some e) next h = not_refused_from_return who next h.1

-- if there is no refusal among an event and the later events, the event isn't a refusal, and there
-- is none later
first_and_later_no_refusals : (index : ℕ) (e : Option Event) (later : List (ℕ × Event)) → list_any (λ e. is_refusal e.1) (at_index index e ++ later) ≡ false
    → IsNoRefusal e × (list_any (λ e. is_refusal e.1) later ≡ false)
first_and_later_no_refusals index None later h = (tt, h)
first_and_later_no_refusals index (Some e) later h = or_parts (is_refusal e) (list_any (λ e. is_refusal e.1) later) h

-- if there is no refusal in a step and in the later steps, its two events are no refusals, and
-- there is none later
step_and_later_no_refusals : (index : ℕ) (e : StepEvents) (later : List StepEvents) → list_any (λ e. is_refusal e.1) (indexed index (e ∷ later)) ≡ false
    → AreNoRefusals e × (list_any (λ e. is_refusal e.1) (indexed (index + 1) later) ≡ false)
step_and_later_no_refusals index e later h =
    let events = subst (λ l. list_any (λ e. is_refusal e.1) l ≡ false) (append_assoc (at_index index e.first) (at_index index e.second) (indexed (index + 1) later)) h in
    let one = first_and_later_no_refusals index e.first (at_index index e.second ++ indexed (index + 1) later) events in
    let two = first_and_later_no_refusals index e.second (indexed (index + 1) later) one.1 in
    ((one.0, two.0), two.1)

module _ {P : Type 0} (b : Behaviour P) (values processes : ℕ) (layer : Layer) (some : 1 ≤ values) where
  -- the tables of the number and of the variant that refuses a scan that finds no 1
  abbrev number_table : Table UnaryTask
  number_table = unary_table values processes

  abbrev variant_table : Table UnaryTask
  variant_table = unary_table_with (Spent layer) values processes

  -- what the number's scan gives that finds no 1
  abbrev last_value : Outcome
  last_value = Value (values - 1)

  -- none of the ended operations on bits is a read that gets 0 from the last bit
  abbrev NoneGivesZero : List (Ended UnaryTask) → Type 0
  NoneGivesZero ends = AllByRecursion (λ e. NoZeroFromLastBit values e.task e.outcome) ends

  -- the number's program k does the same as the variant's program l, and in it no read of the last
  -- bit gives 0
  abbrev DoesAsVariant : Program UnaryTask → Program UnaryTask → Memory → Type 0
  DoesAsVariant k l m = (advance number_table b k m ≡ advance variant_table b l m) × NoneGivesZero (ended_by number_table b k m)

  -- after a task, with the next state of its bit's operation, the number's program k does the same
  -- as the variant's program l, and no read of the last bit gives 0
  abbrev DoesAsVariantAfter : UnaryTask → (Outcome → Program UnaryTask) → (Outcome → Program UnaryTask) → Next P → Memory → Type 0
  DoesAsVariantAfter task k l next m =
      (after_part (λ o n. advance number_table b (k o) n) task next m ≡ after_part (λ o n. advance variant_table b (l o) n) task next m)
      × NoneGivesZero (ended_after (λ o n. ended_by number_table b (k o) n) task next m)

  -- the number and the variant do the same after a write of a bit
  after_write_as_variant : (task : UnaryTask) (k : Program UnaryTask) (next : Next P) (m : Memory) → ((o : Outcome) → NoZeroFromLastBit values task o) → ((n : Memory) → DoesAsVariant k k n) → DoesAsVariantAfter task (λ o. k) (λ o. k) next m
  after_write_as_variant task k (Pending p) m says same = (refl, tt)
  after_write_as_variant task k (Done (Spent l)) m says same = (refl, (says (Spent l), tt))
  after_write_as_variant task k (Done Written) m says same = ((same m).0, (says Written, (same m).1))
  after_write_as_variant task k (Done (Value v)) m says same = ((same m).0, (says (Value v), (same m).1))

  -- the number and the variant do the same in the rest of a write
  clears_as_variant : (x i : ℕ) (m : Memory) → DoesAsVariant (clears_below x i) (clears_below x i) m
  clears_as_variant x zero m = (refl, tt)
  clears_as_variant x (suc i) m =
      after_write_as_variant (Clearing x i) (clears_below x i) (asked b (unary_asks (Clearing x i)) m).next (asked b (unary_asks (Clearing x i)) m).memory (λ o. tt) (λ n. clears_as_variant x i n)

  -- a read that gives 1 doesn't give 0
  one_is_not_zero : {A : Type 0} (v : ℕ) → (v == 1) ≡ true → Value v ≡ Value 0 → A
  one_is_not_zero v one e = absurd (let is : v ≡ 1 = eqb-true v 1 one in let no : v ≡ 0 = cc in omega (arith, is, no))

  -- the number and the variant do the same after a read of a bit, if they do so after a 0, and if
  -- the variant doesn't refuse the scan, as it does after a 0 in the last bit
  after_look_as_variant : (who i left : ℕ) (next : Next P) (m : Memory) → i + left + 1 ≡ values
      → ((n : Memory) → IsNotRefused (advance variant_table b (looks_above (Spent layer) who i left) n).next → DoesAsVariant (looks_above last_value who i left) (looks_above (Spent layer) who i left) n)
      → IsNotRefused (after_part (λ o n. advance variant_table b (after_look i (looks_above (Spent layer) who i left) o) n) (Looking who i left) next m).next
      → DoesAsVariantAfter (Looking who i left) (after_look i (looks_above last_value who i left)) (after_look i (looks_above (Spent layer) who i left)) next m
  after_look_as_variant who i left (Pending p) m all same goes = (refl, tt)
  after_look_as_variant who i left (Done (Spent l)) m all same goes = absurd goes
  after_look_as_variant who i left (Done Written) m all same goes = (refl, ((λ last e. (let n : ⊥ = cc in n)), tt))
  after_look_as_variant who i left (Done (Value v)) m all same goes = by (v == 1) refl goes
    where
      by : (found : Bool) → (v == 1) ≡ found → IsNotRefused (advance variant_table b (if found then Ends (Value i) else looks_above (Spent layer) who i left) m).next
          → (advance number_table b (if found then Ends (Value i) else looks_above last_value who i left) m ≡ advance variant_table b (if found then Ends (Value i) else looks_above (Spent layer) who i left) m)
          × ((i + 1 ≡ values → Value v ≢ Value 0) × NoneGivesZero (ended_by number_table b (if found then Ends (Value i) else looks_above last_value who i left) m))
      by true one goes = (refl, ((λ last e. one_is_not_zero v one e), tt))
      by false other goes =
          let on = same m goes in
          (on.0, ((λ last e. none_left left all last goes), on.1))
        where
          none_left : (left : ℕ) → i + left + 1 ≡ values → i + 1 ≡ values → IsNotRefused (advance variant_table b (looks_above (Spent layer) who i left) m).next → ⊥
          none_left zero all last goes = goes
          none_left (suc n) all last goes = omega (arith, all, last)

  -- the number and the variant do the same in the rest of a scan, if the variant doesn't refuse it
  looks_as_variant : (left who i : ℕ) (m : Memory) → i + left + 1 ≡ values → IsNotRefused (advance variant_table b (looks_above (Spent layer) who i left) m).next
      → DoesAsVariant (looks_above last_value who i left) (looks_above (Spent layer) who i left) m
  looks_as_variant zero who i m all goes = absurd goes
  looks_as_variant (suc left) who i m all goes =
      after_look_as_variant who (suc i) left (asked b (unary_asks (Looking who (suc i) left)) m).next (asked b (unary_asks (Looking who (suc i) left)) m).memory (omega (arith, all)) (λ n. looks_as_variant left who (suc i) n (omega (arith, all))) goes

  -- the number and the variant do the same as an operation begins, if the variant refuses nothing
  begins_as_variant : (who : ℕ) (o : Op) (m : Memory) → IsNotRefused (advance variant_table b (unary_program (Spent layer) values who o) m).next
      → DoesAsVariant (unary_program last_value values who o) (unary_program (Spent layer) values who o) m
  begins_as_variant who (op.Write x) m goes = after_write_as_variant (Setting x) (clears_below x x) (asked b (unary_asks (Setting x)) m).next (asked b (unary_asks (Setting x)) m).memory (λ o. tt) (λ n. clears_as_variant x x n)
  begins_as_variant who op.Read m goes =
      after_look_as_variant who 0 (values - 1) (asked b (unary_asks (Looking who 0 (values - 1))) m).next (asked b (unary_asks (Looking who 0 (values - 1))) m).memory (omega (arith, some))
      (λ n. looks_as_variant (values - 1) who 0 n (omega (arith, some))) goes

  -- the number and the variant do the same as an operation goes on, if the variant refuses nothing
  goes_on_as_variant : (who : ℕ) (o : Op) (task : UnaryTask) (next : Next P) (m : Memory) → UnaryMayBeAt values processes who o task → IsNotRefused (after_part (λ o n. advance variant_table b (unary_rest (Spent layer) task o) n) task next m).next
      → DoesAsVariantAfter task (unary_rest last_value task) (unary_rest (Spent layer) task) next m
  goes_on_as_variant who (op.Write w) (Setting x) next m at_task goes = after_write_as_variant (Setting x) (clears_below x x) next m (λ o. tt) (λ n. clears_as_variant x x n)
  goes_on_as_variant who (op.Write w) (Clearing x i) next m at_task goes = after_write_as_variant (Clearing x i) (clears_below x i) next m (λ o. tt) (λ n. clears_as_variant x i n)
  goes_on_as_variant who op.Read (Looking q i left) next m at_task goes = after_look_as_variant q i left next m at_task.3 (λ n. looks_as_variant left q i n at_task.3) goes
  goes_on_as_variant who _ _ next m at_task goes = absurd at_task

  -- the points at which an operation on the number or on the variant can be pending
  abbrev Point : Type 0
  Point = Nested UnaryTask P

  -- the behaviours of the number and of the variant
  abbrev number : Behaviour Point
  number = layered number_table b

  abbrev variant : Behaviour Point
  variant = layered variant_table b

  module _ (Reaches : ℕ → Op → P → Type 0) where
    -- the variant can reach this pending operation of process p, or p has none
    abbrev IsReachedBy : ℕ → Option (Running Point) → Type 0
    IsReachedBy p running = IsReached (LayerReaches variant_table (UnaryMayBeAt values processes) Reaches) p running

    -- the number and the variant do the same in a step, in which no read of the last bit gives 0
    abbrev DoesAsVariantIn : Bool → Step → Option (Running Point) → Memory → Type 0
    DoesAsVariantIn has_stopped s running m = (acting_unless has_stopped number s running m ≡ acting_unless has_stopped variant s running m) × NoneGivesZero (ended_unless number_table b has_stopped s running m)

    -- the number and the variant do the same in a step, if the variant refuses nothing in it
    acts_as_variant : (s : Step) (has_stopped : Bool) (running : Option (Running Point)) (m : Memory) → IsReachedBy (process_of s) running → AreNoRefusals (acting_unless has_stopped variant s running m).events → DoesAsVariantIn has_stopped s running m
    acts_as_variant s true running m at_task quiet = (refl, tt)
    acts_as_variant (step.Write p v) false None m at_task quiet =
        let o : Op = op.Write v in
        let same = begins_as_variant p o m (not_refused_from_step p (Some (Invoke p o)) (advance variant_table b (unary_program (Spent layer) values p o) m).next quiet) in
        (ap (λ (x : Begun Point). acted p o (Some (Invoke p o)) x.next x.memory) same.0, same.1)
    acts_as_variant (step.Read p) false None m at_task quiet =
        let same = begins_as_variant p op.Read m (not_refused_from_step p (Some (Invoke p op.Read)) (advance variant_table b (unary_program (Spent layer) values p op.Read) m).next quiet) in
        (ap (λ (x : Begun Point). acted p op.Read (Some (Invoke p op.Read)) x.next x.memory) same.0, same.1)
    acts_as_variant (step.Go p c) false (Some x) m at_task quiet =
        let moved : Moved P = part_goes b (unary_asks x.point.task).part x.point.below (c == 1) m in
        let same = goes_on_as_variant p x.op x.point.task moved.next moved.memory at_task.may_be_at (not_refused_from_step p (chosen_of p moved.chosen) (resume variant_table b x.point (c == 1) m).next quiet) in
        (ap (λ (y : Begun Point). acted p x.op (chosen_of p moved.chosen) y.next y.memory) same.0, same.1)
    acts_as_variant _ false _ m at_task quiet = (refl, tt)

    module _ (Holds : Memory → Type 0) (left : UnaryTask → ℕ) (lawful : IsLawful b Holds Reaches) (sound : IsSoundTable variant_table (UnaryMayBeAt values processes) left) (fit : FitsBelow variant_table b) where
      -- c is a configuration of the variant, whose memory and pending operations it can reach
      abbrev IsOfVariant : LoneConfiguration Point → Type 0
      IsOfVariant c = IsConfiguration variant (LayerHolds variant_table b Holds) (LayerReaches variant_table (UnaryMayBeAt values processes) Reaches) c

      -- the number and the variant reach the same configuration by a step in which the variant
      -- refuses nothing, and no read of the last bit gives 0 in it
      step_as_variant : (c : LoneConfiguration Point) (s : Step) → IsOfVariant c → AreNoRefusals (events_of variant c s) → (stepped number c s ≡ stepped variant c s) × NoneGivesZero (ended_in number_table b c s)
      step_as_variant c s well quiet =
          let same = acts_as_variant s (is_stopped (process_of s) c) (running_at (process_of s) c) c.memory (well.reached (process_of s)) quiet in
          (ap (λ (a : Acted Point). put_acted (process_of s) a (with_stop_mark s c)) same.0, same.1)

      -- if the variant refuses nothing in some steps and then in s, no read of the last bit gives 0
      -- in the number's step s
      no_zero_after_steps : (steps : List Step) (s : Step) (index : ℕ) (c : LoneConfiguration Point) → IsOfVariant c → AllFit variant steps → list_any (λ e. is_refusal e.1) (indexed index (history variant c (steps ++ s ∷ []))) ≡ false
          → NoneGivesZero (ended_in number_table b (replayed number c steps) s)
      no_zero_after_steps [] s index c well fits none = (step_as_variant c s well (step_and_later_no_refusals index (events_of variant c s) [] none).0).1
      no_zero_after_steps (x ∷ steps) s index c well fits none =
          let quiet = step_and_later_no_refusals index (events_of variant c x) (history variant (stepped variant c x) (steps ++ s ∷ [])) none in
          let here : fits_step variant x ≡ true = All-head (λ s. fits_step variant s ≡ true) x steps fits in
          let on = no_zero_after_steps steps s (index + 1) (stepped variant c x)
          (step_keeps variant (LayerHolds variant_table b Holds) (LayerReaches variant_table (UnaryMayBeAt values processes) Reaches) (layer_lawful (over lawful sound fit)) c x well here)
          (All-tail (λ s. fits_step variant s ≡ true) x steps fits) quiet.1 in
          subst (λ (d : LoneConfiguration Point). NoneGivesZero (ended_in number_table b (replayed number d steps) s)) (sym (step_as_variant c x well quiet.0).0) on

-- over a regular bit, no scan of the number reads 0 from the last bit
pub always_finds_one : {P : Type 0} (b : Behaviour P) (Holds : Memory → Type 0) (Reaches : ℕ → Op → P → Type 0) (layer : Layer) (values processes : ℕ) (left : UnaryTask → ℕ) → 2 ≤ values → IsLawful b Holds Reaches
    → IsSoundTable (unary_table_with (Spent layer) values processes) (UnaryMayBeAt values processes) left → FitsBelow (unary_table_with (Spent layer) values processes) b → IsRegular b
    → AlwaysFindsOne values processes b
always_finds_one b Holds Reaches layer values processes left two lawful sound fit below value steps s within fits here =
    let refusing = layered (unary_table_with (Spent layer) values processes) b in
    let regular : IsRegular refusing = unary_over_regular b Holds Reaches (Spent layer) values processes left two lawful sound fit below in
    let all : AllFit refusing (steps ++ s ∷ []) = All-append (λ x. fits_step refusing x ≡ true) steps (s ∷ []) fits (All-cons (λ x. fits_step refusing x ≡ true) s [] here (All-nil (λ x. fits_step refusing x ≡ true))) in
    All-from_recursion (λ e. NoZeroFromLastBit values e.task e.outcome) (ended_in (unary_table values processes) b (replayed (layered (unary_table values processes) b) (first_configuration refusing value) steps) s)
    (no_zero_after_steps b values processes layer (omega (arith, two)) Reaches Holds left lawful sound fit steps s 0 (first_configuration refusing value)
    (first_is_configuration refusing (LayerHolds (unary_table_with (Spent layer) values processes) b Holds) (LayerReaches (unary_table_with (Spent layer) values processes) (UnaryMayBeAt values processes) Reaches)
    (layer_lawful (over lawful sound fit)) value within) fits (regular.refuses_none value (steps ++ s ∷ []) within all))
