-- The answers of the states that are found, listed one after another.
use Rattle.std.proofs.Common.{◌≡◌, ℕ, zero, suc, ◌+◌, ◌<◌, ◌≤◌, inl, inr, Bool, true, false, ◌||◌, List, [], ◌∷◌, ◌++◌, Some, length, slice_get, refl, sym, ap, subst, ◌∙◌, true≢false, arith}
use Rattle.std.specs.List.{list_any}
use Rattle.std.proofs.lemmas.Bool.{cases_lt}
use Rattle.std.proofs.lemmas.Option.{none-some, same_Some, slice_get_within}
use Rattle.frames.specs.declared.types.Step.{Step}
use Rattle.frames.specs.Behaviour.{Behaviour}
use Rattle.breadth_first.specs.declared.mark.Mark.{Mark}
use Rattle.breadth_first.specs.Paths.{depth_at}
use Rattle.breadth_first.proofs.Items.{kept_by_push, old_or_new, passing_place, pushed_last}
use Rattle.answers.specs.declared.found.Possible.{Possible}
use Rattle.answers.specs.declared.question.Question.{Question}
use Rattle.answers.specs.Questions.{IsScheduleOf, HasAnswers}
use Rattle.answers.specs.Answers.{HasItsSchedule, IsListed, AllAnswered}
use Rattle.answers.specs.Gathered.{IsCovered, IsGathered}
use Rattle.answers.specs.States.{StateOf, AreAllOver}
use Rattle.answers.specs.laws.StateLaws.{answers_eq, answers_decide}
use Rattle.answers.proofs.DoneStates.{IsDiscovered}

-- if no item passes a test, the item at index i fails it
pub fails_at : {X : Type 0} (test : X → Bool) (xs : List X) (i : ℕ) (x : X) → list_any test xs ≡ false → slice_get xs i ≡ Some x → test x ≡ false
fails_at test [] i x h g = absurd (none-some x g)
fails_at test (y ∷ ys) i x h g = by (test y) refl h i g (λ j. fails_at test ys j x)
  where
    by : (b : Bool) → test y ≡ b → (b || list_any test ys) ≡ false → (j : ℕ) → slice_get (y ∷ ys) j ≡ Some x
        → ((k : ℕ) → list_any test ys ≡ false → slice_get ys k ≡ Some x → test x ≡ false) → test x ≡ false
    by true e k j l later = absurd (true≢false k)
    by false e k zero l later = ap test (sym (same_Some y x l)) ∙ e
    by false e k (suc j) l later = later j k l

module _ {R P : Type 0} (b : Behaviour P) (q : Question) (nodes : List (StateOf R P)) (marks : List Mark) where
  -- at first, nothing is listed
  pub gathered_none : IsGathered b q nodes marks 0 []
  gathered_none = record {
    sound = λ i a h. absurd (none-some a h);
    early = λ i a h. absurd (none-some a h);
    covers = λ j k lt. absurd (omega (arith, lt));
    once = λ i j a c h. absurd (none-some a h);
  }

  module _ (sorted : (i j : ℕ) → i ≤ j → j < length nodes → depth_at marks i ≤ depth_at marks j) (at : ℕ) (found : List Possible) (g : IsGathered b q nodes marks at found)
      (k : StateOf R P) (stored : slice_get nodes at ≡ Some k) where
    at_within : at < length nodes
    at_within = slice_get_within nodes at k stored

    -- a state whose answers needn't be listed again
    pub gathered_skip : (AreAllOver b q k → IsCovered found k (depth_at marks at)) → IsGathered b q nodes marks (at + 1) found
    gathered_skip covered = record {
      sound = g.sound;
      early = λ i a h j le lt. g.early i a h j (omega (arith, le)) lt;
      covers = λ j x lt s done. elim (cases_lt j at) [
        | inl low ↦ g.covers j x low s done
        | inr high ↦ last j x (omega (arith, lt, high)) s done
      ];
      once = g.once;
    }
      where
        last : (j : ℕ) (x : StateOf R P) → j ≡ at → slice_get nodes j ≡ Some x → AreAllOver b q x → IsCovered found x (depth_at marks j)
        last j x e s done =
            let same : k ≡ x = same_Some k x (sym stored ∙ (ap (slice_get nodes) (sym e) ∙ s)) in
            subst (λ n. IsCovered found x (depth_at marks n)) (sym e)
            (subst (λ (y : StateOf R P). IsCovered found y (depth_at marks at)) same (covered (subst (AreAllOver b q) (sym same) done)))

    -- a state whose answers are listed already is covered
    pub covered_listed : list_any (λ (a : Possible). answers_eq a.answers.items k.answers) found ≡ true → IsCovered found k (depth_at marks at)
    covered_listed h =
        let p = passing_place (λ (a : Possible). answers_eq a.answers.items k.answers) found h in
        record {
          index = p.0;
          possible = p.1.0;
          stored = p.1.1.0;
          answers = (answers_decide p.1.0.answers.items k.answers).0 p.1.1.1;
          shortest = g.early p.0 p.1.0 p.1.1.0 at (omega arith) at_within;
        }

    module _ (a : Possible) (sound : HasItsSchedule b q a) (answers : a.answers.items ≡ k.answers) (long : length a.steps.items ≡ depth_at marks at)
        (new : list_any (λ (c : Possible). answers_eq c.answers.items k.answers) found ≡ false) where
      -- no list has the new answers already
      differs : (i : ℕ) (c : Possible) → slice_get found i ≡ Some c → c.answers.items ≡ a.answers.items → ⊥
      differs i c h e =
          true≢false (sym ((answers_decide c.answers.items k.answers).1 (e ∙ answers)) ∙ fails_at (λ (c : Possible). answers_eq c.answers.items k.answers) found i c new h)

      -- what is listed stays so
      still_covered : (x : StateOf R P) (d : ℕ) → IsCovered found x d → IsCovered (found ++ a ∷ []) x d
      still_covered x d c = record { index = c.index; possible = c.possible; stored = kept_by_push found a c.index c.possible c.stored; answers = c.answers; shortest = c.shortest }

      -- the answers of state k are listed
      pub gathered_push : IsGathered b q nodes marks (at + 1) (found ++ a ∷ [])
      gathered_push = record {
        sound = λ i c h. elim (old_or_new found a i c h) [ inl p ↦ g.sound i c p | inr r ↦ subst (HasItsSchedule b q) (sym r.1) sound ];
        early = λ i c h j le lt. elim (old_or_new found a i c h) [
          | inl p ↦ g.early i c p j (omega (arith, le)) lt
          | inr r ↦ late c (sym r.1) j (omega (arith, le)) lt
        ];
        covers = λ j x lt s done. elim (cases_lt j at) [
          | inl low ↦ still_covered x (depth_at marks j) (g.covers j x low s done)
          | inr high ↦ last j x (omega (arith, lt, high)) s
        ];
        once = λ i j c d h l e. elim (old_or_new found a i c h) [
          | inl p ↦ elim (old_or_new found a j d l) [
            | inl r ↦ g.once i j c d p r e
            | inr r ↦ absurd (differs i c p (e ∙ ap (λ (n : Possible). n.answers.items) r.1))
          ]
          | inr p ↦ elim (old_or_new found a j d l) [
            | inl r ↦ absurd (differs j d r (sym e ∙ ap (λ (n : Possible). n.answers.items) p.1))
            | inr r ↦ p.0 ∙ sym r.0
          ]
        ];
      }
        where
          late : (c : Possible) → a ≡ c → (j : ℕ) → at ≤ j → j < length nodes → length c.steps.items ≤ depth_at marks j
          late c e j le lt =
              let same : length c.steps.items ≡ length a.steps.items = ap (λ (n : Possible). length n.steps.items) (sym e) in
              let deep = sorted at j le lt in
              omega (arith, same, long, deep)

          last : (j : ℕ) (x : StateOf R P) → j ≡ at → slice_get nodes j ≡ Some x → IsCovered (found ++ a ∷ []) x (depth_at marks j)
          last j x e s =
              let same : k ≡ x = same_Some k x (sym stored ∙ (ap (slice_get nodes) (sym e) ∙ s)) in
              let deep : depth_at marks j ≡ depth_at marks at = ap (depth_at marks) e in
              record {
                index = length found;
                possible = a;
                stored = pushed_last found a;
                answers = answers ∙ ap (λ (y : StateOf R P). y.answers) same;
                shortest = omega (arith, long, deep);
              }

  -- once all states are gathered, all answers are listed
  pub gathered_all : (is : R → Behaviour P) (at : ℕ) (found : List Possible) → IsGathered b q nodes marks at found → length nodes ≤ at
      → ((steps : List Step) → IsScheduleOf b q steps → IsDiscovered is b q nodes marks steps) → AllAnswered b q found
  gathered_all is at found g all discovered = record {
    sound = g.sound;
    complete = λ steps schedule. listed steps (discovered steps schedule);
    once = g.once;
  }
    where
      listed : (steps : List Step) → IsDiscovered is b q nodes marks steps → IsListed b q found steps
      listed steps m =
          let lt = slice_get_within nodes m.index m.state m.stored in
          let c = g.covers m.index m.state (omega (arith, lt, all)) m.stored m.done in
          record {
            index = c.index;
            possible = c.possible;
            stored = c.stored;
            answers = subst (HasAnswers b q.value steps) (sym c.answers) m.answers;
            shortest = omega (arith, c.shortest, m.within);
          }
