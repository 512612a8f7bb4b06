use Rattle.std.proofs.Common.{◌≡◌, ◌/◌, ◌%◌, true, Some, sym, ap, subst, ◌∙◌, arith, rules}
use Rattle.std.proofs.lemmas.Bool.{and_from, not-true}
use Rattle.std.proofs.lemmas.Bool.Decides.{Decides-eqb}
use Rattle.frames.specs.Configuration.{fits_step, is_enabled}
use Rattle.frames.specs.StoredConfiguration.{IsConfiguration}
use Rattle.answers.specs.States.{has_choice, step_by}
use Rattle.answers.proofs.UnusedChoices.{moved_again}
use Rattle.answers.proofs.moves.MovesGraph.next.Goals.{then-label-eq0, else-label-eq0}
use Rattle.answers.proofs.moves.MovesGraph.next.Goals as goal

pub returns-clause-again : goal.returns-clause-again
returns-clause-again g c e = elim c.if-label-eq0.branch [
  | then-label-eq0 w ↦
      let node = c.args.node.now in
      let r = node.configuration.register in
      let b = g.R.Behaves.behaviour r in
      let q = c.args.self.now.question.now in
      let l = c.args.label in
      let sound = subst (λ n. IsConfiguration (g.R.Behaves.behaviour n) (g.R.Register.Holds n) (g.R.Register.Reaches n) node.configuration) (sym c.requires.holds.register) c.requires.holds.sound in
      let names : step_by q node.answers (l / 4) (l % 4) ≡ Some c.in-Some.step = search rules in
      let fits : fits_step b c.in-Some.step ≡ true = search rules in
      let enabled : is_enabled node.configuration c.in-Some.step ≡ true = search rules in
      let zero : l % 4 ≡ 0 = omega (arith, w.if-label-eq0.true) in
      moved_again b (g.R.Register.Holds r) (g.R.Register.Reaches r) (g.met.R.Register.lawful r) node sound q c.in-Ok.state l c.in-Some.step zero names
      (and_from (fits_step b c.in-Some.step) (is_enabled node.configuration c.in-Some.step) fits enabled)
      c.in-Ok.ensures.state
      (ap (λ events. has_choice events) (sym c.in-Ok.ensures.events) ∙ (sym w.has_choice.ensures ∙ not-true w.has_choice.result (sym w.again-is ∙ e)))
  | else-label-eq0 w ↦
      let zero = (Decides-eqb (c.args.label % 4) 0).0 (sym w.again-is ∙ e) in
      absurd (omega (arith, zero, w.if-label-eq0.false))
]
