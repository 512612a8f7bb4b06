use Rattle.std.proofs.Common.{◌≡◌, List, [], ◌++◌, sym, ap, subst, ◌∙◌}
use Rattle.safe_bit.specs.Parts.{origin, with_part}
use Rattle.safe_bit.specs.laws.Parts.{part-whole, with_part-whole}
use Rattle.frames.specs.Flat.{outcome_of, left_frames}
use Rattle.frames.proofs.own.begin_own.Goals as goal

own_frames_alone : {A : Type 0} (left front own same : List A)
    → left ≡ front ++ own → front ≡ [] → own ≡ same → left ≡ same
own_frames_alone left front own same e none is = e ∙ ap (λ s. s ++ own) none ∙ is

pub begin_on-requires-clause-holds : goal.begin_on-requires-clause-holds
begin_on-requires-clause-holds g c =
    let size = (g.met.R.Register.lawful c.args.register.now).size_holds c.args.store.now c.requires.holds in
    subst (g.R.Register.Holds c.args.register.now)
    (sym (part-whole (g.R.Behaves.behaviour c.args.register.now).size c.args.store.now size)) c.requires.holds

pub returns : goal.returns
returns g c =
    let b = g.R.Behaves.behaviour c.args.register.now in
    let lawful = g.met.R.Register.lawful c.args.register.now in
    let m = c.args.store.now in
    let who = c.args.who in
    let op = c.args.op in
    let size = lawful.size_holds m c.requires.holds in
    let whole = part-whole b.size m size in
    let inner = lawful.begins_well who op m c.requires.holds c.requires.fits in
    let lands = c.begin_on.ensures in
    record {
      answer = lands.answer ∙ ap (λ q. outcome_of (b.begins who op q).next) whole;
      stack = own_frames_alone _ _ _ _ lands.stack c.requires.idle
          (ap (λ q. left_frames b.frames (b.begins who op q).next) whole);
      memory = lands.memory ∙ ap (λ q. with_part origin (b.begins who op q).memory m) whole
          ∙ with_part-whole b.size (b.begins who op m).memory m (lawful.size_holds _ inner.holds) size;
    }
