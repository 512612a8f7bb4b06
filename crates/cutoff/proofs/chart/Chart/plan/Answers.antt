use Rattle.std.proofs.Common.{◌≡◌, [], ◌∷◌, map, Some, IsSome, Ok, refl, sym, ap, subst}
use Rattle.schedule_trie.specs.Forest.{index_of}
use Rattle.schedule_trie.specs.Trie.{forest, keys_in}
use Rattle.cutoff.specs.Charts.{keys_named, keys_at}
use Rattle.cutoff.specs.Plans.{AnswersPlan, Plans, keys_of}
use Rattle.cutoff.proofs.SameBranches.{chart_known}
use Rattle.cutoff.proofs.chart.Chart.plan.Goals as goal

pub plan_all-requires : goal.plan_all-requires
plan_all-requires g c = record {
  known = chart_known g.R.PartialEq.eq g.R.Behaves.behaviour c.self.inside.next _ (record { trie = c.self.inside.trie; start = c.self.inside.start; value = c.self.inside.value }) c.self.invariant;
}

pub returns : goal.returns
returns g c =
    let trie = c.self.inside.trie in
    let found : index_of (forest trie).branches c.args.branch.now ≡ Some c.in-Some.index = sym c.in-Some.ensures.index in
    let keys : keys_in trie.branches c.in-Some.index ≡ keys_named trie c.args.branch.now = sym (ap (λ o. keys_at o trie.branches) found) in
    subst (λ v. AnswersPlan g.R.PartialEq.eq (g.R.Behaves.behaviour v.start.register) v c.args.branch.now (Ok c.in_ok-jobs.jobs)) c.self.view_is
    (record {
      ok = subst (λ ks. Plans g.R.PartialEq.eq (g.R.Behaves.behaviour c.self.inside.start.register) trie c.self.inside.start [] (ks ∷ map keys_of trie.branches) c.in_ok-jobs.jobs.items)
          keys c.in_ok-jobs.ensures;
      found = subst IsSome (sym found) refl;
      err = tt;
    })
