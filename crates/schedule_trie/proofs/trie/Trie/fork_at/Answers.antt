use Rattle.std.proofs.Common.{◌≡◌, ◌-◌, Some, length, sym, ap, subst, arith}
use Rattle.std.specs.Result.{OnOk}
use Rattle.schedule_trie.specs.Trie.{segment_at, keys_in, line}
use Rattle.schedule_trie.specs.Climbs.{keys_to}
use Rattle.schedule_trie.specs.changes.Forks.{IsBranchForked}
use Rattle.schedule_trie.proofs.climbs.Climbs.{cells_to, cells_within}
use Rattle.schedule_trie.proofs.forks.ForkEnds.{have_cells, no_keys, all_to}
use Rattle.schedule_trie.proofs.Results.{map_on_ok, always_on_ok}
use Rattle.schedule_trie.proofs.branches.Lines.{slots_in_on}
use Rattle.schedule_trie.proofs.trie.Trie.fork_at.Goals as goal

pub returns-then-count-slots_at-clause-ok : goal.returns-then-count-slots_at-clause-ok
returns-then-count-slots_at-clause-ok g c =
    let now = c.args.self.now in
    let forked = c.fork_after-then-count-slots_at in
    let keys = keys_in now.branches c.args.index in
    let cells = cells_to (segment_at now.segments) keys c.in-Some.key (c.args.place - 1) c.in-Some.offset c.in-Some.ensures.lies in
    let own = ap length c.slots_at.ensures in
    let place : length (line (segment_at now.segments) (keys_to keys (Some c.in-Some.key))) ≡ c.args.place = omega (arith, cells, own) in
    subst (λ n. OnOk forked.result (IsBranchForked now forked.new.self c.args.index n c.args.name)) place forked.ensures.ok

pub returns-then-place-eq0-clause-end : goal.returns-then-place-eq0-clause-end
returns-then-place-eq0-clause-end g c =
    let now = c.args.self.now in
    let all = ap length (slots_in_on (segment_at now.segments) now.branches c.args.index) in
    map_on_ok c.fork_after.result
    (λ change long. change (sym (no_keys (segment_at now.segments) (keys_in now.branches c.args.index) (have_cells now c.lemma_invariant.ensures.whole c.args.index) (omega (arith, all, long, c.if-place-eq0.true)))))
    c.fork_after.ensures.end

pub returns-then-count-slots_at-clause-end : goal.returns-then-count-slots_at-clause-end
returns-then-count-slots_at-clause-end g c =
    let now = c.args.self.now in
    let forked = c.fork_after-then-count-slots_at in
    let all = ap length (slots_in_on (segment_at now.segments) now.branches c.args.index) in
    let own = ap length c.slots_at.ensures in
    map_on_ok forked.result
    (λ change long. change (all_to (segment_at now.segments) (keys_in now.branches c.args.index) (have_cells now c.lemma_invariant.ensures.whole c.args.index) c.in-Some.key (c.args.place - 1) c.in-Some.offset c.in-Some.ensures.lies
    (omega (arith, own, c.if-count-slots_at.true)) (omega (arith, all, long, c.if-place-eq0.false))))
    forked.ensures.end

pub returns-else-count-slots_at-clause-end : goal.returns-else-count-slots_at-clause-end
returns-else-count-slots_at-clause-end g c =
    let now = c.args.self.now in
    let keys = keys_in now.branches c.args.index in
    let all = ap length (slots_in_on (segment_at now.segments) now.branches c.args.index) in
    let own = ap length c.slots_at.ensures in
    let lies = c.in-Some.ensures.lies in
    let inside = lies.within in
    let cells = cells_to (segment_at now.segments) keys c.in-Some.key (c.args.place - 1) c.in-Some.offset lies in
    let within = cells_within (segment_at now.segments) keys (Some c.in-Some.key) c.in-Some.ensures.found.member in
    always_on_ok c.fork_within.result (λ long. absurd (omega (arith, all, own, inside, cells, within, long, c.if-count-slots_at.false, c.if-place-eq0.false)))
