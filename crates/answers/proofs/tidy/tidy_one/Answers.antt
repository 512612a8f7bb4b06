use Rattle.std.proofs.Common.{◌≡◌, Some, IfSome, length, slice_get, refl, sym, ap, subst, ◌∙◌}
use Rattle.std.proofs.lemmas.Option.{slice_get-get_or}
use Rattle.answers.specs.declared.found.Possible.{Possible}
use Rattle.answers.specs.Answers.{AllAnswered, HasItsSchedule}
use Rattle.answers.proofs.Tidying.{still_all_answered}
use Rattle.answers.proofs.tidy.tidy_one.Goals as goal

pub returns : goal.returns
returns g c =
    let b = g.R.Behaves.behaviour c.args.moves.now.register in
    let q = c.args.moves.now.question.now in
    let items = c.args.found.now.items in
    let a : Possible = c.index.result.now in
    let stored : slice_get items c.args.index ≡ Some a = slice_get-get_or items c.args.index a c.requires.there ∙ ap Some (sym c.index.ensures) in
    subst (AllAnswered b q) (sym (c.put.ensures a stored))
    (still_all_answered b q items c.args.index a (record a { steps = c.in-Some.steps }) stored refl
    (subst (λ r. IfSome r (λ s. length s.items ≡ length a.steps.items)) c.in-Some.is c.in-Ok.ensures.long)
    (subst (λ r. IfSome r (λ s. HasItsSchedule b q (record a { steps = s }))) c.in-Some.is c.in-Ok.ensures.sound)
    c.requires.answered)
