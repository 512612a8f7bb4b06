-- A search on the register of a tower finds the tower's answers.
use Rattle.std.proofs.Common.{◌≡◌, List, Result, Ok, Err, IfOk, subst, sym}
use Rattle.frames.specs.Behaviour.{Behaviour}
use Rattle.tower_file.specs.declared.tower.TowerSpec.{TowerSpec}
use Rattle.answers.specs.declared.found.Found.{Found}
use Rattle.answers.specs.declared.found.Unfound.{Unfound}
use Rattle.answers.specs.declared.found.Possible.{Possible}
use Rattle.answers.specs.declared.question.Question.{Question}
use Rattle.answers.specs.Answers.{AllAnswered}
use Rattle.answer_lines.specs.Search.{AreAnswersOn}

-- if a search found all answers for behaviour a, and a is b, that of the register of tower `spec`,
-- it found those on tower t, which is `spec`
pub answered : {P : Type 0} {t spec : TowerSpec} {a b : Behaviour P} (q : Question) (r : Result Found Unfound) → t ≡ spec → a ≡ b → ((found : List Possible) → AllAnswered b q found → AreAnswersOn spec q found)
    → IfOk r (λ f. AllAnswered a q f.possible.items) → IfOk r (λ f. AreAnswersOn t q f.possible.items)
answered {spec = spec} {a = a} {b = b} q r is same all h = subst (λ (t : TowerSpec). IfOk r (λ f. AreAnswersOn t q f.possible.items)) (sym is) (each r (subst (λ (b : Behaviour _). IfOk r (λ f. AllAnswered b q f.possible.items)) same h))
  where
    each : (r : Result Found Unfound) → IfOk r (λ f. AllAnswered b q f.possible.items) → IfOk r (λ f. AreAnswersOn spec q f.possible.items)
    each (Ok f) h = all f.possible.items h
    each (Err e) h = tt
