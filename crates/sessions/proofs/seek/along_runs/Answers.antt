use Rattle.std.proofs.Common.{◌≡◌, ◌∙◌, ◌+◌, sym, ap, subst, map, take, arith}
use Rattle.cutoff.specs.Fitting.{counted, part_of}
use Rattle.sessions.specs.Walks.{ReportsPart}
use Rattle.sessions.proofs.Runs.{counted_split, counted_within, reports_at}
use Rattle.sessions.proofs.seek.along_runs.Goals as goal

pub along_run-requires : goal.along_run-requires
along_run-requires g c =
    let runs = c.args.runs.now in
    let i = c.loop-run.run-index in
    omega (arith, counted_split runs i c.loop-run-item.result c.loop-run-test.true c.loop-run-item.is, counted_within runs (i + 1), c.loop-run.invariant.place, c.requires.room)

pub overflow_add-place : goal.overflow_add-place
overflow_add-place g c =
    let runs = c.args.runs.now in
    let i = c.loop-run.run-index in
    omega (arith, counted_split runs i c.loop-run-item.result c.loop-run-test.true c.loop-run-item.is, counted_within runs (i + 1), c.loop-run.invariant.place, c.requires.room)

pub loop-run-preserved : goal.loop-run-preserved
loop-run-preserved g c =
    let runs = c.args.runs.now in
    let i = c.loop-run.run-index in
    let x = c.loop-run-item.result in
    let here : 0 + counted (map part_of (take i runs)) ≡ c.loop-run.place = omega (arith, c.loop-run.invariant.place) in
    record {
      place = ap (λ n. n + x.1) c.loop-run.invariant.place ∙ sym (counted_split runs i x c.loop-run-test.true c.loop-run-item.is);
      found = λ test first reports.
          c.in_ok-found.ensures test
          (subst (λ r. ReportsPart g.R.Behaves.behaviour c.args.search.now.breaks.now test c.loop-run.place (record { run = r; count = x.1 })) (sym c.deref.ensures)
          (subst (λ n. ReportsPart g.R.Behaves.behaviour c.args.search.now.breaks.now test n (part_of x)) here (reports_at g.R.Behaves.behaviour c.args.search.now.breaks.now test 0 runs i x c.loop-run-test.true c.loop-run-item.is reports)))
          (c.loop-run.invariant.found test first reports);
    }
