use Rattle.std.proofs.Common.{◌≡◌, ◌≤◌, ◌<◌, length, map, refl, ◌∙◌, arith}
use Rattle.std.proofs.lemmas.List.{length-map}
use Rattle.schedule_trie.specs.Trie.{segment_at, branch_on, keys_in}
use Rattle.cutoff.specs.Plans.{keys_of}
use Rattle.cutoff.proofs.Plans.{plan_adds, plan_on, plan_ends}
use Rattle.cutoff.proofs.FoundFits.{none_seen}
use Rattle.cutoff.proofs.plan.plan_all.Goals as goal

pub plan_branch-requires-clause-seen : goal.plan_branch-requires-clause-seen
plan_branch-requires-clause-seen g c =
    none_seen g.R.PartialEq.eq g.R.Behaves.behaviour c.args.base.now.trie.now c.args.base.now.start.now _ _ c.in_ok-with_capacity.ensures.items c.new.ensures.items

pub loop-other-init : goal.loop-other-init
loop-other-init g c = record {
  jobs = λ all p.
      plan_adds g.R.PartialEq.eq (g.R.Behaves.behaviour c.args.base.now.start.now.register) c.args.base.now.trie.now c.args.base.now.start.now _ _ _ all (keys_in c.args.base.now.trie.now.branches c.args.index) (map keys_of c.args.base.now.trie.now.branches)
      c.new.ensures.items c.in_ok-plan_branch.ensures.adds p;
  seen = c.in_ok-plan_branch.ensures.seen;
}

pub loop-other-preserved : goal.loop-other-preserved
loop-other-preserved g c =
    let count : c.branches-other-end.result ≡ length c.args.base.now.trie.now.branches = c.branches-other-end.ensures.count ∙ length-map c.args.base.now.trie.now.branches (branch_on (segment_at c.args.base.now.trie.now.segments)) in
    let inside : c.loop-other.other < length c.args.base.now.trie.now.branches = omega arith in
    record {
      jobs = λ all p.
          c.loop-other.invariant.jobs all
          (plan_on g.R.PartialEq.eq (g.R.Behaves.behaviour c.args.base.now.start.now.register) c.args.base.now.trie.now c.args.base.now.start.now _ _ all c.loop-other.other _ inside refl c.in_ok-plan_branch-2.ensures.adds p);
      seen = c.in_ok-plan_branch-2.ensures.seen;
    }

pub returns : goal.returns
returns g c =
    let count : c.branches-other-end.result ≡ length c.args.base.now.trie.now.branches = c.branches-other-end.ensures.count ∙ length-map c.args.base.now.trie.now.branches (branch_on (segment_at c.args.base.now.trie.now.segments)) in
    let past : length c.args.base.now.trie.now.branches ≤ c.loop-other.other = omega arith in
    c.loop-other.invariant.jobs c.loop-other.planning.jobs.items
    (plan_ends g.R.PartialEq.eq (g.R.Behaves.behaviour c.args.base.now.start.now.register) c.args.base.now.trie.now c.args.base.now.start.now c.loop-other.planning.jobs.items c.loop-other.other past)
