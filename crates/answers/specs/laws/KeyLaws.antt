-- Keys of states are equal exactly if the states are; and what holds of each state is kept by
-- moves.
use Rattle.std.proofs.Common.{◌≡◌, ℕ, zero, suc, ◌+◌, ◌/◌, ◌%◌, ◌<◌, ◌≤◌, inl, inr, Bool, true, false, List, [], ◌++◌, map, Option, None, Some, refl, sym, ap, subst, ◌∙◌, append_assoc, if◌then◌else◌, arith}
use Rattle.std.specs.Prelude.{◌&&◌, slice_index_or, bytes_eq}
use Rattle.std.specs.Bool.{Decides}
use Rattle.std.specs.Cmp.{IsEquivalence}
use Rattle.std.proofs.lemmas.Bool.{cases_lt}
use Rattle.std.proofs.lemmas.Bool.Decides.{same_from_decides}
use Rattle.std.proofs.lemmas.List.{ext_get_or, length-map, length-set}
use Rattle.std.proofs.lemmas.Option.{none-some, same_Some}
use Rattle.std.proofs.lemmas.Slice.Eq.{bytes_eq-Decides}
use Rattle.safe_bit.specs.Memory.{Memory}
use Rattle.frames.specs.declared.types.Op.{Op}
use Rattle.frames.specs.declared.types.Frame.{Frame}
use Rattle.frames.specs.declared.types.Outcome.{Outcome}
use Rattle.frames.specs.declared.types.Step.{Step}
use Rattle.frames.specs.declared.running.Running.{Running}
use Rattle.frames.specs.Behaviour.{Behaviour, IsLawful}
use Rattle.frames.specs.Configuration.{fits_step, is_enabled}
use Rattle.frames.specs.Steps.{process_of}
use Rattle.frames.specs.Flat.{FramesGivePoint, running_of, stack_of}
use Rattle.frames.specs.laws.Flat.{slot_by_frames}
use Rattle.frames.specs.laws.Steps.{step_keeps}
use Rattle.answers.specs.declared.question.Question.{Question}
use Rattle.answers.specs.Packing.{by_gaps, cell_code, packed, process_numbers, processes_numbers, state_bytes, state_numbers}
use Rattle.answers.specs.States.{StateOf, advanced, moved, moved_if, step_by}
use Rattle.answers.specs.Graphs.{IsStateOf}
use Rattle.answers.specs.laws.Packed.{same_cells, same_list, same_packed, same_process}
use Rattle.answers.specs.laws.StateLaws.{SameState, state_decides, state_eq}

module _ {P : Type 0} (b : Behaviour P) (running run : List (Option (Running P))) (stopped stop : List Bool) (answers given : List (List Outcome)) where
  -- process k has the same frames, stop mark and outcomes in both states
  record IsSameAt (k : ℕ) : Type 0 where
    pub stack : stack_of b (slice_index_or running k None) ≡ stack_of b (slice_index_or run k None)
    pub mark : slice_index_or stopped k false ≡ slice_index_or stop k false
    pub outcomes : slice_index_or answers k [] ≡ slice_index_or given k []

  -- the numbers for `count` processes determine what each of them has
  same_processes : (count p : ℕ) (r s : List ℕ) → processes_numbers b running stopped answers count p ++ r ≡ processes_numbers b run stop given count p ++ s
      → (k : ℕ) → p ≤ k → k < p + count → IsSameAt k
  same_processes zero p r s h k le lt = absurd (omega (arith, le, lt))
  same_processes (suc count) p r s h k le lt =
      let left = processes_numbers b running stopped answers count (p + 1) in
      let right = processes_numbers b run stop given count (p + 1) in
      let q = same_process (stack_of b (slice_index_or running p None)) (stack_of b (slice_index_or run p None)) (slice_index_or stopped p false) (slice_index_or stop p false)
      (slice_index_or answers p []) (slice_index_or given p []) (left ++ r) (right ++ s)
      (sym (append_assoc (process_numbers b running stopped answers p) left r) ∙ (h ∙ append_assoc (process_numbers b run stop given p) right s)) in
      let here : IsSameAt p = record { stack = q.0.0; mark = q.0.1; outcomes = q.1.0 } in
      elim (cases_lt p k) [
        | inl later ↦ same_processes count (p + 1) r s q.1.1 k (omega (arith, later)) (omega (arith, lt))
        | inr now ↦ let e : p ≡ k = omega (arith, now, le) in subst IsSameAt e here
      ]

module _ {R P : Type 0} (b : Behaviour P) (Holds : Memory → Type 0) (Reaches : ℕ → Op → P → Type 0) (lawful : IsLawful b Holds Reaches) (r : R) where
  module _ (point : ℕ → List Frame → Option P) (reports : FramesGivePoint b Reaches point) (E : R → R → Bool) (e : IsEquivalence E) where
    -- states of register r with the same bytes are equal
    same_by_bytes : (x y : StateOf R P) → IsStateOf b Holds Reaches r x → IsStateOf b Holds Reaches r y → state_bytes b x ≡ state_bytes b y → SameState E x y
    same_by_bytes x y kx ky h =
        let cells = x.configuration.memory.cells in
        let cells' = y.configuration.memory.cells in
        let words = x.configuration.memory.words in
        let words' = y.configuration.memory.words in
        let size = lawful.size_holds x.configuration.memory kx.sound.holds in
        let size' = lawful.size_holds y.configuration.memory ky.sound.holds in
        let left = processes_numbers b x.configuration.running x.configuration.stopped x.answers b.processes 0 in
        let right = processes_numbers b y.configuration.running y.configuration.stopped y.answers b.processes 0 in
        let numbers = same_packed _ _ h in
        let c = same_list (map cell_code cells) (map cell_code cells') (by_gaps 0 words ++ left) (by_gaps 0 words' ++ right)
        (length-map cells cell_code ∙ (size.cells ∙ (sym size'.cells ∙ sym (length-map cells' cell_code))))
        (sym (append_assoc (by_gaps 0 (map cell_code cells)) (by_gaps 0 words) left) ∙ (numbers ∙ append_assoc (by_gaps 0 (map cell_code cells')) (by_gaps 0 words') right)) in
        let w = same_list words words' left right (size.words ∙ sym size'.words) c.1 in
        let same : left ++ [] ≡ right ++ [] = ap (λ l. l ++ []) w.1 in
        let at : (k : ℕ) → k < b.processes → IsSameAt b x.configuration.running y.configuration.running x.configuration.stopped y.configuration.stopped x.answers y.answers k
        = λ k lt. same_processes b x.configuration.running y.configuration.running x.configuration.stopped y.configuration.stopped x.answers y.answers b.processes 0 [] [] same k (omega arith) (omega (arith, lt)) in
        record {
          answers = ext_get_or [] x.answers y.answers (kx.each ∙ sym ky.each) (λ k lt. (at k (omega (arith, lt, kx.each))).outcomes);
          configuration = record {
            register = (λ i. E (kx.register i) (ky.register i)) ∙ e.refl r;
            memory = let same_cell = same_cells cells cells' c.0 in λ i. record { cells = same_cell i; words = w.0 i };
            running = ext_get_or None x.configuration.running y.configuration.running (kx.sound.each ∙ sym ky.sound.each)
                (λ k lt. sym (slot_by_frames b Reaches point reports k (slice_index_or x.configuration.running k None) (kx.sound.reached k))
                ∙ (ap (running_of (point k)) (at k (omega (arith, lt, kx.sound.each))).stack ∙ slot_by_frames b Reaches point reports k (slice_index_or y.configuration.running k None) (ky.sound.reached k)));
            stopped = ext_get_or false x.configuration.stopped y.configuration.stopped (kx.sound.each_mark ∙ sym ky.sound.each_mark) (λ k lt. (at k (omega (arith, lt, kx.sound.each_mark))).mark);
          };
        }

    -- equal states have the same bytes
    bytes_alike : (x y : StateOf R P) → SameState E x y → state_bytes b x ≡ state_bytes b y
    bytes_alike x y same =
        let c = same.configuration in
        λ i. packed (state_numbers b (c.memory i) (c.running i) (c.stopped i) (same.answers i))

    module _ (F : P → P → Bool) (d : (p q : P) → Decides (F p q) (p ≡ q)) where
      -- bytes of states are equal exactly if the states are
      same_bytes : (x y : StateOf R P) → IsStateOf b Holds Reaches r x → IsStateOf b Holds Reaches r y
          → bytes_eq (state_bytes b x) (state_bytes b y) ≡ state_eq E F x y
      same_bytes x y kx ky =
          let bytes = bytes_eq-Decides (state_bytes b x) (state_bytes b y) in
          same_from_decides _ _ ((λ h. same_by_bytes x y kx ky (bytes.0 h)), (λ same. bytes.1 (bytes_alike x y same))) (state_decides E F d x y)

  -- `holds_after_move` of register r, by whether the step fits and is enabled; and by the step
  by_test : (x y : StateOf R P) (s : Step) (t u : Bool) → IsStateOf b Holds Reaches r x → fits_step b s ≡ t → (if t && u then Some (advanced b x s) else None) ≡ Some y
      → IsStateOf b Holds Reaches r y
  by_test x y s true true k fits h =
      let next : IsStateOf b Holds Reaches r (advanced b x s) = record {
        register = k.register;
        sound = step_keeps b Holds Reaches lawful x.configuration s k.sound fits;
        each = length-set x.answers (process_of s) _ ∙ k.each;
      } in
      subst (IsStateOf b Holds Reaches r) (same_Some (advanced b x s) y h) next
  by_test x y s true false k fits h = absurd (none-some y h)
  by_test x y s false u k fits h = absurd (none-some y h)

  by_step : (x y : StateOf R P) (o : Option Step) → IsStateOf b Holds Reaches r x → moved_if b x o ≡ Some y → IsStateOf b Holds Reaches r y
  by_step x y None k h = absurd (none-some y h)
  by_step x y (Some s) k h = by_test x y s (fits_step b s) (is_enabled x.configuration s) k refl h

module _ {R P : Type 0} (is : R → Behaviour P) (r : R) (Holds : Memory → Type 0) (Reaches : ℕ → Op → P → Type 0) (lawful : IsLawful (is r) Holds Reaches) where
  -- what holds of a state holds after a move
  pub holds_after_move : (q : Question) (x y : StateOf R P) (l : ℕ) → IsStateOf (is r) Holds Reaches r x → moved (is x.configuration.register) q x l ≡ Some y → IsStateOf (is r) Holds Reaches r y
  holds_after_move q x y l k h =
      by_step (is r) Holds Reaches lawful r x y (step_by q x.answers (l / 4) (l % 4)) k (ap (λ n. moved (is n) q x l) (sym k.register) ∙ h)

  -- keys are equal exactly if states are
  pub same_keys : (point : ℕ → List Frame → Option P) → FramesGivePoint (is r) Reaches point → (E : R → R → Bool) → IsEquivalence E → (F : P → P → Bool) → ((p q : P) → Decides (F p q) (p ≡ q))
      → (x y : StateOf R P) → IsStateOf (is r) Holds Reaches r x → IsStateOf (is r) Holds Reaches r y
      → bytes_eq (state_bytes (is x.configuration.register) x) (state_bytes (is y.configuration.register) y) ≡ state_eq E F x y
  same_keys point reports E e F d x y kx ky =
      (λ i. bytes_eq (state_bytes (is (kx.register i)) x) (state_bytes (is (ky.register i)) y)) ∙ same_bytes (is r) Holds Reaches lawful r point reports E e F d x y kx ky
