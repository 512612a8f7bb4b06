use Rattle.std.proofs.Common.{List, subst}
use Rattle.cutoff.specs.Plans.{Planned}
use Rattle.cutoff.specs.FoundFits.{HasDescendedAbove, IsRightAt}
use Rattle.cutoff.proofs.Paths.{above_shared}
use Rattle.cutoff.proofs.FoundFits.{visit_unfit, seen_unfit, visit_below, seen_below}
use Rattle.cutoff.proofs.plan.visit.Goals as goal

pub returns-then-not-above_fits-clause-seen : goal.returns-then-not-above_fits-clause-seen
returns-then-not-above_fits-clause-seen g c =
    let E = g.R.PartialEq.eq in
    let is = g.R.Behaves.behaviour in
    seen_unfit E g.met.R.PartialEq.laws is g.met.R.Register.alike c.args.base.now.trie.now c.args.base.now.start.now c.requires.cut c.args.key (c.requires.cut.shares.above c.args.key) (above_shared c.args.base.now.trie.now c.args.key c.requires.cut)
    c.args.planning.now.jobs.items c.args.planning.now.seen.items c.record_fit.new.seen.items c.requires.seen c.in_ok-record_fit.ensures.here c.in_ok-record_fit.ensures.others
    (subst (λ fits. (old : List (Planned _ _)) × HasDescendedAbove E is c.args.base.now.trie.now c.args.base.now.start.now old c.args.planning.now.jobs.items c.args.key fits) c.if-not-above_fits.true c.requires.arrives)

pub returns-then-not-above_fits-clause-arrives : goal.returns-then-not-above_fits-clause-arrives
returns-then-not-above_fits-clause-arrives g c = λ old comes.
    let E = g.R.PartialEq.eq in
    let is = g.R.Behaves.behaviour in
    visit_unfit E g.met.R.PartialEq.laws is g.met.R.Register.alike c.args.base.now.trie.now c.args.base.now.start.now c.requires.cut c.args.key (c.requires.cut.shares.above c.args.key) (above_shared c.args.base.now.trie.now c.args.key c.requires.cut)
    c.args.planning.now.jobs.items old (subst (HasDescendedAbove E is c.args.base.now.trie.now c.args.base.now.start.now old c.args.planning.now.jobs.items c.args.key) c.if-not-above_fits.true comes)

pub returns-clause-seen : goal.returns-clause-seen
returns-clause-seen g c =
    let E = g.R.PartialEq.eq in
    let is = g.R.Behaves.behaviour in
    let jobs = c.args.planning.now.jobs.items in
    let lacks = subst (IsRightAt E is c.args.base.now.trie.now c.args.base.now.start.now jobs c.args.key) c.requires.new (c.requires.seen c.args.key) in
    seen_below E g.met.R.PartialEq.laws is g.met.R.Register.alike c.args.base.now.trie.now c.args.base.now.start.now c.requires.cut c.args.key c.above-above.result (λ i front back e. c.above-above.ensures.each i front back e)
    jobs c.in_ok-fits.fits c.fits_or_adds_job.new.jobs.items c.in_ok-fits.ensures lacks c.args.planning.now.seen.items c.record_fit-2.new.seen.items c.requires.seen c.in_ok-record_fit-2.ensures.here c.in_ok-record_fit-2.ensures.others
    (subst (λ fits. (old : List (Planned _ _)) × HasDescendedAbove E is c.args.base.now.trie.now c.args.base.now.start.now old jobs c.args.key fits) c.if-not-above_fits.false c.requires.arrives)

pub returns-clause-arrives : goal.returns-clause-arrives
returns-clause-arrives g c = λ old comes.
    let E = g.R.PartialEq.eq in
    let is = g.R.Behaves.behaviour in
    let jobs = c.args.planning.now.jobs.items in
    let lacks = subst (IsRightAt E is c.args.base.now.trie.now c.args.base.now.start.now jobs c.args.key) c.requires.new (c.requires.seen c.args.key) in
    visit_below E g.met.R.PartialEq.laws is g.met.R.Register.alike c.args.base.now.trie.now c.args.base.now.start.now c.requires.cut c.args.key c.above-above.result (λ i front back e. c.above-above.ensures.each i front back e)
    jobs c.in_ok-fits.fits c.fits_or_adds_job.new.jobs.items c.in_ok-fits.ensures lacks old (subst (HasDescendedAbove E is c.args.base.now.trie.now c.args.base.now.start.now old jobs c.args.key) c.if-not-above_fits.false comes)
