use Rattle.std.proofs.Common.{◌≡◌, ◌++◌, ◌∙◌, suc, ◌+◌, ap, sym, subst, map, take, arith}
use Rattle.std.specs.Arc.{arc_value}
use Rattle.checkpoints.specs.Runs.{IsTrueRun}
use Rattle.cutoff.specs.Fitting.{part_of}
use Rattle.views.specs.Spots.{parts_events}
use Rattle.views.proofs.IndexedEvents.{indexed_more}
use Rattle.views.proofs.Spots.{events_more}
use Rattle.views.proofs.spot.history_of.Goals as goal

pub loop-run-preserved : goal.loop-run-preserved
loop-run-preserved g c =
    let is = g.R.Behaves.behaviour in
    let runs = c.args.runs.now in
    let i = c.loop-run.run-index in
    let item = c.loop-run-item.result in
    let run = arc_value item.0 in
    let before = parts_events is (map part_of (take i runs)) in
    let kept : IsTrueRun (is run.entry.register) run = subst (λ r. IsTrueRun (is r.entry.register) r) c.deref.ensures c.events.ensures.kept in
    let walked : c.front-walk.result ≡ take item.1 run.events = c.front-walk.ensures ∙ ap (take item.1) (c.events.ensures.events ∙ ap (λ r. r.events) c.deref.ensures) in
    let next : i + 1 ≡ suc i = omega arith in
    let both : parts_events is (map part_of (take (i + 1) runs)) ≡ before ++ c.front-walk.result =
    ap (λ n. parts_events is (map part_of (take n runs))) next ∙ events_more is runs i item c.loop-run-test.true c.loop-run-item.is kept ∙ ap (λ l. before ++ l) (sym walked) in
    let more = indexed_more c.loop-run.all.items c.push_indexed.new.all.items c.loop-run.index c.in_ok-index.index before c.front-walk.result (parts_events is (map part_of (take (i + 1) runs)))
    c.loop-run.invariant.all c.loop-run.invariant.index c.in_ok-index.ensures.all c.in_ok-index.ensures.following both in
    record { all = more.reported; index = more.following }
