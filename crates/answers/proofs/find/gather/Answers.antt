use Rattle.std.proofs.Common.{◌≡◌, length, refl, sym, subst, ap, ◌∙◌, arith}
use Rattle.std.proofs.lemmas.List.{length-map}
use Rattle.answers.specs.Gathered.{IsGathered}
use Rattle.answers.proofs.DoneStates.{discovered}
use Rattle.answers.proofs.Gathering.{gathered_all, gathered_none}
use Rattle.answers.proofs.find.gather.Goals as goal
use Rattle.answers.proofs.find.gather.Goals.{else-loop-index-test, then-loop-index-test+then-index-len}

pub loop-index-init : goal.loop-index-init
loop-index-init g c s =
    let b = g.R.Behaves.behaviour c.args.moves.now.register in
    let q = c.args.moves.now.question.now in
    let marks = c.args.reached.now.marks.items in
    subst (IsGathered b q s.nodes marks 0) (sym c.new-found.ensures.items) (gathered_none b q s.nodes marks)

pub returns : goal.returns
returns g c =
    let r = c.args.moves.now.register in
    let b = g.R.Behaves.behaviour r in
    let q = c.args.moves.now.question.now in
    let s = c.requires.searched in
    let marks = c.args.reached.now.marks.items in
    let marked : length marks ≡ length s.nodes = s.all.trail.marked in
    let many : length c.args.reached.now.keys.keys ≡ length s.nodes = ap length s.kept.by_key ∙ length-map s.nodes _ in
    gathered_all b q s.nodes marks g.R.Behaves.behaviour c.loop-index.index c.loop-index.found.items (c.loop-index.invariant s)
    (elim c.loop-index-test.branch [ else-loop-index-test w ↦ omega (arith, marked, many) | then-loop-index-test+then-index-len w ↦ omega (arith, marked, many) ])
    (discovered g.R.Behaves.behaviour b q g.R.PartialEq.eq g.R.Pending.PartialEq.eq g.met.R.Register.same_pending (g.R.Register.Holds r) (g.R.Register.Reaches r) (g.met.R.Register.lawful r) r refl
    s.nodes marks s.all)
