use Rattle.std.proofs.Common.{rules}
use Rattle.views.proofs.Slips.{runs_page_is, runs_page_judges}
use Rattle.views.proofs.Strays.{judges_same_register}
use Rattle.views.proofs.slip.events_slip.Goals as goal

pub returns-clause-page : goal.returns-clause-page
returns-clause-page g c =
    let settled = c.in_ok-spot.ensures in
    runs_page_is g.R.PartialEq.eq g.met.R.Eq.laws g.R.Behaves.behaviour g.met.R.Register.alike c.args.chart.now c.settle.new.self c.args.branch c.args.place c.in-Some.len
    c.in_ok-spot.spot.runs c.in_ok-spot.spot.replayed c.in-Some.ensures settled.begins settled.ok c.args.kind

pub returns-clause-look : goal.returns-clause-look
returns-clause-look g c =
    let settled = c.in_ok-spot.ensures in
    let fits = c.lemma_steps_fit.ensures in
    record {
      found = search rules;
      err = search rules;
      judged = search rules;
      judges = runs_page_judges g.R.PartialEq.eq g.met.R.Eq.laws g.R.Behaves.behaviour g.met.R.Register.alike c.args.chart.now c.settle.new.self c.args.branch c.args.place c.in-Some.len
          c.in_ok-spot.spot.runs c.in_ok-spot.spot.replayed c.in-Some.ensures settled.begins settled.ok c.args.kind fits.within fits.fit c.requires;
    }

pub invariant_of-result : goal.invariant_of-result
invariant_of-result g c =
    let settled = c.in_ok-spot.ensures in
    let fits = c.lemma_steps_fit.ensures in
    judges_same_register g.R.Behaves.behaviour c.args.chart.now.start.register c.judged_by-judged.result.value c.judged_by-judged.ensures _
    (runs_page_judges g.R.PartialEq.eq g.met.R.Eq.laws g.R.Behaves.behaviour g.met.R.Register.alike c.args.chart.now c.settle.new.self c.args.branch c.args.place c.in-Some.len
    c.in_ok-spot.spot.runs c.in_ok-spot.spot.replayed c.in-Some.ensures settled.begins settled.ok c.args.kind fits.within fits.fit c.requires)
