use Rattle.std.proofs.Common.{drop}
use Rattle.std.proofs.lemmas.List.{drop_all}
use Rattle.cutoff.proofs.FoundFits.{planning_starts, planning_ends, next_fits, next_unseen, next_above, planning_next}
use Rattle.cutoff.proofs.plan.plan_branch.Goals as goal

pub loop-key-init : goal.loop-key-init
loop-key-init g c =
    planning_starts g.R.PartialEq.eq g.met.R.PartialEq.laws g.R.Behaves.behaviour g.met.R.Register.alike c.args.base.now.trie.now c.args.base.now.start.now c.args.planning.now.jobs.items c.args.index
    c.args.planning.now.seen.items _ c.unseen_keys.new.keys.items c.as_slice-key-items.result.now c.in_ok-fits.fits
    g.met.R.Eq.laws c.requires.seen c.deref.ensures.value c.as_slice-key-items.ensures.value c.in_ok-fits.ensures

pub visit-requires-clause-fits : goal.visit-requires-clause-fits
visit-requires-clause-fits g c =
    next_fits g.R.PartialEq.eq g.met.R.PartialEq.laws g.R.Behaves.behaviour g.met.R.Register.alike c.args.base.now.trie.now c.args.base.now.start.now c.args.planning.now.jobs.items c.args.index
    c.as_slice-key-items.result.now c.loop-key.key-index c.loop-key.fits c.loop-key-test.true c.loop-key.invariant c.requires.known.fits

pub visit-requires-clause-seen : goal.visit-requires-clause-seen
visit-requires-clause-seen g c = c.loop-key.invariant.are_seen

pub visit-requires-clause-new : goal.visit-requires-clause-new
visit-requires-clause-new g c =
    next_unseen g.R.PartialEq.eq g.met.R.PartialEq.laws g.R.Behaves.behaviour g.met.R.Register.alike c.args.base.now.trie.now c.args.base.now.start.now c.args.planning.now.jobs.items c.args.index
    c.as_slice-key-items.result.now c.loop-key.key-index c.loop-key.fits c.loop-key-test.true c.loop-key.invariant

pub visit-requires-clause-arrives : goal.visit-requires-clause-arrives
visit-requires-clause-arrives g c = (
  c.args.planning.now.jobs.items,
  next_above g.R.PartialEq.eq g.met.R.PartialEq.laws g.R.Behaves.behaviour g.met.R.Register.alike c.args.base.now.trie.now c.args.base.now.start.now c.args.planning.now.jobs.items c.args.index
      c.as_slice-key-items.result.now c.loop-key.key-index c.loop-key.fits c.loop-key-test.true c.loop-key.invariant,
)

pub loop-key-preserved : goal.loop-key-preserved
loop-key-preserved g c =
    let comes = next_above g.R.PartialEq.eq g.met.R.PartialEq.laws g.R.Behaves.behaviour g.met.R.Register.alike c.args.base.now.trie.now c.args.base.now.start.now c.args.planning.now.jobs.items c.args.index
    c.as_slice-key-items.result.now c.loop-key.key-index c.loop-key.fits c.loop-key-test.true c.loop-key.invariant in
    planning_next g.R.PartialEq.eq g.met.R.PartialEq.laws g.R.Behaves.behaviour g.met.R.Register.alike c.args.base.now.trie.now c.args.base.now.start.now c.args.planning.now.jobs.items c.args.index
    c.as_slice-key-items.result.now c.loop-key.key-index c.loop-key.fits c.loop-key-test.true c.loop-key.invariant
    c.requires.known.cut c.in_ok-fits-2.ensures.seen c.in_ok-fits-2.ensures.others (c.in_ok-fits-2.ensures.arrives c.args.planning.now.jobs.items comes)

pub returns-clause-seen : goal.returns-clause-seen
returns-clause-seen g c = c.loop-key.invariant.are_seen

pub returns-clause-adds : goal.returns-clause-adds
returns-clause-adds g c =
    planning_ends g.R.PartialEq.eq g.met.R.PartialEq.laws g.R.Behaves.behaviour g.met.R.Register.alike c.args.base.now.trie.now c.args.base.now.start.now c.args.planning.now.jobs.items c.args.index c.loop-key.planning.jobs.items
    c.loop-key.planning.seen.items (drop c.loop-key.key-index c.as_slice-key-items.result.now) c.loop-key.fits (drop_all c.loop-key.key-index c.as_slice-key-items.result.now c.loop-key-test.false) c.loop-key.invariant
