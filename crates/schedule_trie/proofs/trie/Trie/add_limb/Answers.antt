use Rattle.std.proofs.Common.{length, sym, subst, arith, ap}
use Rattle.schedule_trie.specs.changes.Loads.{IsLimbAdded}
use Rattle.schedule_trie.proofs.limbs.LoadSteps.{limb_length_small, length_with_limb, is_limb_added}
use Rattle.schedule_trie.proofs.lengths.LengthsAfter.{branch_count, fork_last}
use Rattle.schedule_trie.proofs.trie.Trie.add_limb.Goals as goal

pub push_all-requires-clause-index : goal.push_all-requires-clause-index
push_all-requires-clause-index g c =
    let was = c.cache_len-index.new.self in
    let more = fork_last was c.fork_at.new.self _ _ _ c.in_ok-fork_at.ensures.ok in
    omega (arith, more, c.branches-index.ensures.count, branch_count was)

pub overflow_add-limb : goal.overflow_add-limb
overflow_add-limb g c =
    let small = limb_length_small c.args.self.now c.args.limb.now c.cache_len-index.ensures.whole c.requires in
    let same = ap length c.as_slice-steps.ensures in
    omega (arith, small, same)

pub set_cached_len-requires-clause-index : goal.set_cached_len-requires-clause-index
set_cached_len-requires-clause-index g c =
    let was = c.cache_len-index.new.self in
    let more = fork_last was c.fork_at.new.self _ _ _ c.in_ok-fork_at.ensures.ok in
    omega (arith, more, c.branches-index.ensures.count, branch_count was, c.in_ok-push_all.ensures.count)

pub set_cached_len-requires-clause-len : goal.set_cached_len-requires-clause-len
set_cached_len-requires-clause-len g c =
    length_with_limb c.args.self.now _ c.fork_at.new.self c.push_all.new.self c.args.limb.now _ c.branches-index.result c.requires c.cache_len-index.ensures.same c.as_slice-steps.ensures
    c.branches-index.ensures.count c.in_ok-fork_at.ensures.ok c.in_ok-push_all.ensures

pub returns : goal.returns
returns g c =
    subst (λ z. IsLimbAdded c.args.self.now z c.args.limb.now) (sym c.set_cached_len.ensures)
    (is_limb_added c.args.self.now _ c.fork_at.new.self c.push_all.new.self c.args.limb.now _ c.branches-index.result c.requires c.cache_len-index.ensures.same c.as_slice-steps.ensures
    c.branches-index.ensures.count c.in_ok-fork_at.ensures.ok c.in_ok-push_all.ensures c.lemma_invariant.ensures.forest)
