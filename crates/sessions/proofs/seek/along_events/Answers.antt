use Rattle.std.proofs.Common.{◌≡◌, ◌∙◌, ◌∷◌, sym, ap, subst, length, arith}
use Rattle.sessions.specs.Walks.{ReportsEvents}
use Rattle.sessions.proofs.Searches.{reports_first, reports_after}
use Rattle.sessions.proofs.seek.along_events.Goals as goal

pub loop-reported-preserved : goal.loop-reported-preserved
loop-reported-preserved c =
    let breaks = c.args.search.now.breaks.now in
    let at = c.loop-reported.at in
    let reported = c.in-Some.reported in
    let later = c.next.new.self in
    let front : c.loop-reported.left ≡ reported ∷ later = c.in-Some.ensures.some in
    record {
      place = omega (arith, ap length front, c.loop-reported.invariant.place);
      reports = λ test all. reports_after breaks test at reported later (subst (ReportsEvents breaks test at) front (c.loop-reported.invariant.reports test all));
      finds = λ test all start.
          c.with_place-found.ensures test
          (reports_first breaks test at reported later (subst (ReportsEvents breaks test at) front (c.loop-reported.invariant.reports test all)) ∙ sym c.is_any_met_by_events-hit.ensures)
          (c.loop-reported.invariant.finds test all start);
    }
