use Rattle.std.proofs.Common.{◌∙◌, refl, subst, inl}
use Rattle.schedule_trie.specs.Trie.{forest}
use Rattle.cutoff.specs.Settles.{KeepsOrSettles}
use Rattle.views.proofs.Spots.{len_is_step_count}
use Rattle.sessions.proofs.Runs.{runs_report}
use Rattle.sessions.proofs.seek.settled.Goals as goal

pub returns-in-Ok-clause-reports : goal.returns-in-Ok-clause-reports
returns-in-Ok-clause-reports g c = λ breaks.
    runs_report g.R.PartialEq.eq g.R.Behaves.behaviour g.met.R.Register.alike c.args.chart.now c.settle.new.self c.args.branch.now c.in-Some.len
    c.in-Ok.spot.runs c.in-Ok.spot.replayed breaks (len_is_step_count (forest c.args.chart.now.trie) c.args.branch.now c.in-Some.len c.in-Some.ensures)
    c.in-Ok.ensures.begins c.in-Ok.ensures.ok

pub returns-in-Ok-clause-counts : goal.returns-in-Ok-clause-counts
returns-in-Ok-clause-counts g c =
    c.in-Ok.ensures.ok.sum ∙ len_is_step_count (forest c.args.chart.now.trie) c.args.branch.now c.in-Some.len c.in-Some.ensures

pub returns-in-Ok-clause-keeps : goal.returns-in-Ok-clause-keeps
returns-in-Ok-clause-keeps g c =
    subst (KeepsOrSettles g.R.PartialEq.eq g.R.Behaves.behaviour c.args.chart.now c.settle.new.self c.args.branch.now)
    (len_is_step_count (forest c.args.chart.now.trie) c.args.branch.now c.in-Some.len c.in-Some.ensures) c.in-Ok.ensures.keeps

pub returns-in-Err-clause-keeps : goal.returns-in-Err-clause-keeps
returns-in-Err-clause-keeps g c =
    subst (KeepsOrSettles g.R.PartialEq.eq g.R.Behaves.behaviour c.args.chart.now c.settle.new.self c.args.branch.now)
    (len_is_step_count (forest c.args.chart.now.trie) c.args.branch.now c.in-Some.len c.in-Some.ensures) c.in-Err.ensures.keeps

pub returns-in_default-clause-keeps : goal.returns-in_default-clause-keeps
returns-in_default-clause-keeps g c = record { branches = refl; limits = refl; forest_kept = refl; slots = λ k. refl; runs = λ k. inl refl }
