use Rattle.std.proofs.Common.{subst}
use Rattle.frames.specs.Behaviour.{Answers}
use Rattle.layers.specs.laws.Nested.{rest_sound}
use Rattle.layers.specs.laws.Over.{over}
use Rattle.layers.specs.laws.Running.{rest_left}
use Rattle.layers.specs.InPlace.{own}
use Rattle.layers.proofs.Runs.{settled_in_store}
use Rattle.layers.proofs.layered.Layered.after.Goals as goal

pub after-requires-clause-answers : goal.after-requires-clause-answers
after-requires-clause-answers g c =
    let r = c.args.self.now in
    subst (λ n. Answers n ((g.L.Rules.table r.layer).asks c.args.task).op c.args.outcome) r.fit.same_values c.requires.answers

pub returns : goal.returns
returns g c =
    let r = c.args.self.now in
    let l = over (g.met.S.Register.lawful r.below) (g.met.L.Construction.sound r.layer) r.fit in
    let who = c.requires.may_be_at.0 in
    let o = c.requires.may_be_at.1.0 in
    let at_task = c.requires.may_be_at.1.1 in
    let sound = rest_sound l who o c.args.task c.args.outcome at_task c.requires.answers c.requires.goes_on in
    let there = settled_in_store l c.args.at who o _ c.args.store.now c.requires.lies sound c.words_at-base.result c.words_at-base.ensures c.after.result c.after.new.store c.after.ensures.continuation c.after.ensures.memory in
    record {
      continuation = there.0;
      memory = there.1;
      fewer = rw there.0 (rest_left l who o c.args.task c.args.outcome (own l.table l.below c.args.at c.args.store.now) at_task c.requires.answers c.requires.goes_on);
    }
