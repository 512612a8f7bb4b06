-- A path is turned into the steps of its moves, one after another.
use Rattle.std.proofs.Common.{◌≡◌, true, ℕ, ◌+◌, ◌*◌, ◌/◌, ◌%◌, ◌<◌, List, [], ◌∷◌, ◌++◌, Option, None, Some, length, get_or, drop, slice_get, sym, subst, ◌∙◌, inl, inr, arith}
use Rattle.std.proofs.lemmas.List.{drop_more}
use Rattle.std.proofs.lemmas.Option.{none-some, same_Some, slice_get_cases}
use Rattle.safe_bit.specs.Memory.{Memory}
use Rattle.frames.specs.declared.types.Op.{Op}
use Rattle.frames.specs.declared.types.Step.{Step}
use Rattle.frames.specs.Behaviour.{Behaviour, IsLawful}
use Rattle.frames.specs.Configuration.{fits_step}
use Rattle.breadth_first.specs.declared.mark.Mark.{Mark}
use Rattle.breadth_first.specs.Paths.{LeadsBy}
use Rattle.answers.specs.declared.question.Question.{Question}
use Rattle.answers.specs.States.{StateOf, IsStateOfRun, advanced, first_state, step_by}
use Rattle.answers.specs.Gathered.{IsBuilding}
use Rattle.answers.proofs.Schedules.{labelled_move, run_first, run_moves, step_taken}

-- at each index with a mark there is a state
pub node_at : {X : Type 0} (nodes : List X) (marks : List Mark) (index : ℕ) → index < length marks → length marks ≡ length nodes → (k : X) × (slice_get nodes index ≡ Some k)
node_at nodes marks index lt marked = elim ((slice_get_cases nodes index).1) [
  | inl a ↦ (a.0, a.2)
  | inr n ↦ absurd (omega (arith, lt, marked, n.0))
]

module _ {R P : Type 0} (is : R → Behaviour P) (b : Behaviour P) (q : Question) where
  -- at first no step is made, and the whole path is left
  pub building_first : (r : R) (start end : StateOf R P) (nodes : List (StateOf R P)) (index : ℕ) (path : List Mark) → is r ≡ b → start ≡ first_state b q.value r
      → slice_get nodes 0 ≡ Some (first_state b q.value r) → slice_get nodes index ≡ Some end
      → ((s k : StateOf R P) → slice_get nodes 0 ≡ Some s → slice_get nodes index ≡ Some k → LeadsBy (b.processes * 4) (labelled_move is b q.value q) nodes s path k)
      → IsBuilding is b q end start [] path
  building_first r start end nodes index path e f first stored by =
      subst (λ (s : StateOf R P). IsBuilding is b q end s [] path) (sym f)
      (record { nodes = nodes; run = run_first is b q.value q r e; leads = by (first_state b q.value r) end first stored })

  module _ (end state : StateOf R P) where
    -- the step of the next mark, and the state after it
    pub record IsTaken (steps : List Step) (result : Option Step) (left : List Mark) : Type 0 where
      pub step : Step
      pub given : result ≡ Some step
      pub fits : fits_step (is state.configuration.register) step ≡ true
      pub building : IsBuilding is b q end (advanced (is state.configuration.register) state step) (steps ++ step ∷ []) left

    -- the next mark's label is one of the graph's
    pub label_low : (steps : List Step) (m : Mark) (left : List Mark) → IsBuilding is b q end state steps (m ∷ left) → m.label < b.processes * 4
    label_low steps m left was = was.leads.1.0.1.0

    -- item i of a path is the next mark, if the marks before it are taken
    building_at : (steps : List Step) (path : List Mark) (i : ℕ) (d : Mark) → i < length path → IsBuilding is b q end state steps (drop i path)
        → IsBuilding is b q end state steps (get_or path i d ∷ drop (i + 1) path)
    building_at steps path i d lt was = subst (IsBuilding is b q end state steps) (drop_more path i d lt) was

    -- `label_low` for item i of a path
    pub label_at : (steps : List Step) (path : List Mark) (i : ℕ) (d : Mark) → i < length path → IsBuilding is b q end state steps (drop i path)
        → (get_or path i d).label < b.processes * 4
    label_at steps path i d lt was = label_low steps (get_or path i d) (drop (i + 1) path) (building_at steps path i d lt was)

    module _ (Holds : Memory → Type 0) (Reach : ℕ → Op → P → Type 0) (lawful : IsLawful b Holds Reach) where
      -- the next mark names a step, which fits and leads on
      taken : (steps : List Step) (m : Mark) (left : List Mark) (result : Option Step) → IsBuilding is b q end state steps (m ∷ left)
          → result ≡ step_by q state.answers (m.label / 4) (m.label % 4) → IsTaken steps result left
      taken steps m left result was says =
          let z = was.leads.0 in
          let mv : labelled_move is b q.value q state m.label ≡ Some z = was.leads.1.0.1.1 in
          let t = step_taken is (is state.configuration.register) q.value q state z (step_by q state.answers (m.label / 4) (m.label % 4)) mv in
          let next : IsBuilding is b q end z (steps ++ t.0 ∷ []) left = record {
            nodes = was.nodes;
            run = run_moves is b q.value q Holds Reach lawful steps state z m.label t.0 was.run t.1.0 mv;
            leads = was.leads.1.1;
          } in
          record {
            step = t.0;
            given = says ∙ t.1.0;
            fits = t.1.1.0;
            building = subst (λ (n : StateOf R P). IsBuilding is b q end n (steps ++ t.0 ∷ []) left) (sym t.1.1.1) next;
          }

      -- `taken` for item i of a path
      pub taken_at : (steps : List Step) (path : List Mark) (i : ℕ) (d : Mark) (result : Option Step) → i < length path → IsBuilding is b q end state steps (drop i path)
          → result ≡ step_by q state.answers ((get_or path i d).label / 4) ((get_or path i d).label % 4) → IsTaken steps result (drop (i + 1) path)
      taken_at steps path i d result lt was says = taken steps (get_or path i d) (drop (i + 1) path) result (building_at steps path i d lt was) says

    -- the step that was given, that of the next mark, fits
    pub taken_fits : (steps : List Step) (s : Step) (left : List Mark) (result : Option Step) → IsTaken steps result left → result ≡ Some s → fits_step (is state.configuration.register) s ≡ true
    taken_fits steps s left result t e = subst (λ (n : Step). fits_step (is state.configuration.register) n ≡ true) (same_Some t.step s (sym t.given ∙ e)) t.fits

    -- after the step that was given, one more step is made, and one mark less is left
    pub taken_step : (steps : List Step) (s : Step) (next : StateOf R P) (left : List Mark) (result : Option Step) → IsTaken steps result left → result ≡ Some s
        → next ≡ advanced (is state.configuration.register) state s → IsBuilding is b q end next (steps ++ s ∷ []) left
    taken_step steps s next left result t e f =
        subst (λ (n : StateOf R P). IsBuilding is b q end n (steps ++ s ∷ []) left) (sym f)
        (subst (λ (n : Step). IsBuilding is b q end (advanced (is state.configuration.register) state n) (steps ++ n ∷ []) left) (same_Some t.step s (sym t.given ∙ e)) t.building)

    -- some step was given
    pub none_taken : (steps : List Step) (left : List Mark) (result : Option Step) → IsTaken steps result left → result ≡ None → ⊥
    none_taken steps left result t e = none-some t.step (sym e ∙ t.given)

    -- once no mark is left, the steps lead to `end`
    pub built : (steps : List Step) → IsBuilding is b q end state steps [] → IsStateOfRun is b q.value q steps end
    built steps was = subst (IsStateOfRun is b q.value q steps) (sym was.leads) was.run

    -- and the state they lead to is `end`
    pub built_state : (steps : List Step) → IsBuilding is b q end state steps [] → state ≡ end
    built_state steps was = sym was.leads
