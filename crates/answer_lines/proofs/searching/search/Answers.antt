use Rattle.std.proofs.Common.{subst, sym}
use Rattle.frames.specs.Behaviour.{Behaviour}
use Rattle.towers.specs.Towers.{MatrixPoint}
use Rattle.tower_file.specs.declared.tower.TowerSpec.{TowerSpec}
use Rattle.answers.specs.Questions.{FitsQuestion}
use Rattle.answer_lines.specs.Search.{FitsTower}
use Rattle.answer_lines.proofs.Searched.{answered}
use Rattle.answer_lines.proofs.searching.search.Goals as goal

pub returns-in-Copies-clause-answered : goal.returns-in-Copies-clause-answered
returns-in-Copies-clause-answered c = answered c.args.question.now c.find-in-Copies.result c.in-Copies.is c.copies.ensures (λ found h. h) c.find-in-Copies.ensures.answered

pub returns-in-Regular-clause-answered : goal.returns-in-Regular-clause-answered
returns-in-Regular-clause-answered c = answered c.args.question.now c.find-in-Regular.result c.in-Regular.is c.regular.ensures (λ found h. h) c.find-in-Regular.ensures.answered

pub returns-in-Unary-clause-answered : goal.returns-in-Unary-clause-answered
returns-in-Unary-clause-answered c = answered c.args.question.now c.find-in-Unary.result c.in-Unary.is c.unary.ensures (λ found h. h) c.find-in-Unary.ensures.answered

pub returns-in-Stamped-clause-answered : goal.returns-in-Stamped-clause-answered
returns-in-Stamped-clause-answered c = answered c.args.question.now c.find-in-Stamped.result c.in-Stamped.is c.stamped.ensures (λ found h. h) c.find-in-Stamped.ensures.answered

pub returns-in-Matrix-clause-answered : goal.returns-in-Matrix-clause-answered
returns-in-Matrix-clause-answered c = answered c.args.question.now c.find-in-Matrix.result c.in-Matrix.is c.matrix.ensures (λ found h. h) c.find-in-Matrix.ensures.answered

pub returns-in-Matrix-clause-unfit : goal.returns-in-Matrix-clause-unfit
returns-in-Matrix-clause-unfit c =
    let q = c.args.question.now in
    λ unfit fits.
    let fits_tower = subst (λ (t : TowerSpec). FitsTower t q) c.in-Matrix.is fits in
    let fits_register = subst (λ (b : Behaviour MatrixPoint). FitsQuestion b q) (sym c.matrix.ensures) fits_tower in
    c.find-in-Matrix.ensures.unfit unfit fits_register c.requires.some c.requires.few
