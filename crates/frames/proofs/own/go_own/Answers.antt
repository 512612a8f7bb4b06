use Rattle.std.proofs.Common.{sym, subst, ap, ◌∙◌}
use Rattle.safe_bit.specs.Parts.{origin, with_part}
use Rattle.safe_bit.specs.laws.Parts.{part-whole, with_part-whole}
use Rattle.frames.specs.Flat.{outcome_of, left_frames}
use Rattle.frames.specs.Placed.{placed_bit}
use Rattle.frames.proofs.Stacks.{bit_at_origin}
use Rattle.frames.proofs.own.go_own.Goals as goal

pub returns-clause-arrives : goal.returns-clause-arrives
returns-clause-arrives g c =
    let b = g.R.Behaves.behaviour c.args.register.now in
    let lawful = g.met.R.Register.lawful c.args.register.now in
    let m = c.args.store.now in
    let size = lawful.size_holds m c.requires.holds in
    let whole = part-whole b.size m size in
    λ o p on.
    let lands = c.go_on.ensures.lands o p on in
    let inner = lawful.goes_well c.args.who o p c.args.choice m c.requires.holds on.reached in
    record {
      answer = lands.answer ∙ ap (λ q. outcome_of (b.goes p c.args.choice q).next) whole;
      stack = lands.stack ∙ ap (λ q. left_frames b.frames (b.goes p c.args.choice q).next) whole;
      memory = lands.memory ∙ ap (λ q. with_part origin (b.goes p c.args.choice q).memory m) whole
          ∙ with_part-whole b.size (b.goes p c.args.choice m).memory m (lawful.size_holds _ inner.holds) size;
    }

pub go_on-requires-clause-holds : goal.go_on-requires-clause-holds
go_on-requires-clause-holds g c =
    let size = (g.met.R.Register.lawful c.args.register.now).size_holds c.args.store.now c.requires.holds in
    subst (g.R.Register.Holds c.args.register.now)
    (sym (part-whole (g.R.Behaves.behaviour c.args.register.now).size c.args.store.now size)) c.requires.holds

pub returns-clause-chosen : goal.returns-clause-chosen
returns-clause-chosen g c =
    let b = g.R.Behaves.behaviour c.args.register.now in
    let m = c.args.store.now in
    let size = (g.met.R.Register.lawful c.args.register.now).size_holds m c.requires.holds in
    λ o p on.
    c.go_on.ensures.chosen o p on
    ∙ ap (λ q. placed_bit origin (b.goes p c.args.choice q).chosen) (part-whole b.size m size)
    ∙ bit_at_origin (b.goes p c.args.choice m).chosen
