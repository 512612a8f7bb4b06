use Rattle.std.proofs.Common.{◌≡◌, ◌+◌, Some, None, Ok, length, sym, ap, subst, ◌∙◌, arith}
use Rattle.std.specs.Option.{option_map}
use Rattle.schedule_trie.specs.Forest.{IsRefused, len_of}
use Rattle.schedule_trie.specs.Trie.{line, segment_at, keys_in, forest}
use Rattle.cutoff.specs.Fitting.{part_of}
use Rattle.cutoff.specs.Charts.{look}
use Rattle.cutoff.specs.Settles.{IsSettledLast}
use Rattle.cutoff.proofs.SameBranches.{chart_known, seen_begins, all_kept}
use Rattle.cutoff.proofs.LastRuns.{charted_settled, marked_settled, place_found, offset_below, none_settled, last_settled, keeps_named}
use Rattle.cutoff.proofs.NamedBranches.{len_there, look_there}
use Rattle.cutoff.proofs.Refusals.{refused_still, out_of_memory}
use Rattle.cutoff.proofs.chart.Chart.settle_last.Goals as goal

pub returns-then-place-eq0-clause-ok : goal.returns-then-place-eq0-clause-ok
returns-then-place-eq0-clause-ok g c =
    none_settled g.R.PartialEq.eq (g.R.Behaves.behaviour c.args.self.now.start.register) c.args.self.now c.args.branch.now c.args.place c.if-place-eq0.true

pub rest_to-requires-clause-known : goal.rest_to-requires-clause-known
rest_to-requires-clause-known g c =
    chart_known g.R.PartialEq.eq g.R.Behaves.behaviour c.self.inside.next _ (record { trie = c.self.inside.trie; start = c.self.inside.start; value = c.self.inside.value }) c.self.invariant

pub rest_to-requires-clause-there : goal.rest_to-requires-clause-there
rest_to-requires-clause-there g c =
    (c.in_ok-index.index, (place_found c.self.inside.trie c.in_ok-index.index c.args.place c.in-Some.key c.in-Some.offset c.in-Some.ensures.lies c.if-place-eq0.false).there)

pub settle_rest-requires-clause-left : goal.settle_rest-requires-clause-left
settle_rest-requires-clause-left g c =
    let found = c.in_ok-index.ensures in
    let index = c.in_ok-index.index in
    let few : length (line (segment_at c.self.inside.trie.segments) (keys_in c.self.inside.trie.branches index)) ≡ c.in_ok-index.len =
    len_there (g.R.Behaves.behaviour c.self.inside.start.register) c.self.inside.trie c.args.branch.now index c.in_ok-index.len found.index found.long in
    let lies = place_found c.self.inside.trie index c.args.place c.in-Some.key c.in-Some.offset c.in-Some.ensures.lies c.if-place-eq0.false in
    (index, c.in-Some.offset + 1, c.args.place, c.in_ok-rest.ensures index (c.in-Some.offset + 1) c.args.place lies, omega (arith, few))

pub invariant_of-self : goal.invariant_of-self
invariant_of-self g c =
    let index = c.in_ok-index.index in
    let lies = place_found c.self.inside.trie index c.args.place c.in-Some.key c.in-Some.offset c.in-Some.ensures.lies c.if-place-eq0.false in
    let keeps = c.settle_rest.ensures.keeps index (c.in-Some.offset + 1) c.args.place (c.in_ok-rest.ensures index (c.in-Some.offset + 1) c.args.place lies) in
    rw c.or-self-inside.ensures (charted_settled g.R.PartialEq.eq g.R.Behaves.behaviour c.self.inside.next c.settle_rest.new.next c.self.inside.fresh c.self.inside.mark c.peek.result None _ c.settle_rest.new.trie _
    keeps c.settle_rest.ensures.linked c.peek.ensures c.settle_rest.ensures.fresh tt c.self.invariant)

pub invariant_of-self-2 : goal.invariant_of-self-2
invariant_of-self-2 g c =
    let index = c.in_ok-index.index in
    let lies = place_found c.self.inside.trie index c.args.place c.in-Some.key c.in-Some.offset c.in-Some.ensures.lies c.if-place-eq0.false in
    let keeps = c.settle_rest.ensures.keeps index (c.in-Some.offset + 1) c.args.place (c.in_ok-rest.ensures index (c.in-Some.offset + 1) c.args.place lies) in
    let marked = marked_settled g.R.PartialEq.eq g.R.Behaves.behaviour c.self.inside.trie c.settle_rest.new.trie c.self.inside.start c.in-Some.key (c.in-Some.offset + 1) c.in_ok-stored.replayed lies.positive lies.within keeps.branches
    (λ i m place lies. c.in_ok-stored.ensures.settles i m place (c.in_ok-rest.ensures i m place lies)) in
    rw c.or-self-inside.ensures (charted_settled g.R.PartialEq.eq g.R.Behaves.behaviour c.self.inside.next c.settle_rest.new.next c.self.inside.fresh c.self.inside.mark c.peek.result (Some c.in-Some.key) _
    c.settle_rest.new.trie _ keeps c.settle_rest.ensures.linked c.peek.ensures c.settle_rest.ensures.fresh marked c.self.invariant)

pub returns-clause-ok : goal.returns-clause-ok
returns-clause-ok g c =
    let index = c.in_ok-index.index in
    let lies = place_found c.self.inside.trie index c.args.place c.in-Some.key c.in-Some.offset c.in-Some.ensures.lies c.if-place-eq0.false in
    subst (λ v. IsSettledLast g.R.PartialEq.eq (g.R.Behaves.behaviour v.start.register) v (record { trie = c.settle_rest.new.trie; start = c.self.inside.start; value = c.self.inside.value }) c.args.branch.now c.args.place
    (option_map part_of c.into_part-part.result) c.in_ok-stored.replayed) c.self.view_is
    (subst (λ o. IsSettledLast g.R.PartialEq.eq (g.R.Behaves.behaviour c.self.inside.start.register) (record { trie = c.self.inside.trie; start = c.self.inside.start; value = c.self.inside.value })
    (record { trie = c.settle_rest.new.trie; start = c.self.inside.start; value = c.self.inside.value }) c.args.branch.now c.args.place o c.in_ok-stored.replayed) (sym c.into_part-part.ensures)
    (last_settled g.R.PartialEq.eq g.R.Behaves.behaviour _ _ c.args.branch.now c.args.place c.in-Some.key (c.in-Some.offset + 1) index c.in_ok-stored.replayed c.in_ok-stored.stored c.in_ok-index.ensures.index
    (c.in_ok-stored.ensures.settles index (c.in-Some.offset + 1) c.args.place (c.in_ok-rest.ensures index (c.in-Some.offset + 1) c.args.place lies)) c.in_ok-stored.ensures.stored))

pub returns-clause-found : goal.returns-clause-found
returns-clause-found g c =
    let found = c.in_ok-index.ensures in
    let index = c.in_ok-index.index in
    let lies = place_found c.self.inside.trie index c.args.place c.in-Some.key c.in-Some.offset c.in-Some.ensures.lies c.if-place-eq0.false in
    let keeps = c.settle_rest.ensures.keeps index (c.in-Some.offset + 1) c.args.place (c.in_ok-rest.ensures index (c.in-Some.offset + 1) c.args.place lies) in
    let there = look_there (g.R.Behaves.behaviour c.self.inside.start.register) c.self.inside.trie c.args.branch.now index c.in_ok-index.len found.index found.long c.args.place found.within in
    subst (λ v. look (forest v.trie) c.args.branch.now c.args.place ≡ Ok (forest c.settle_rest.new.trie)) c.self.view_is (there ∙ ap Ok (sym keeps.forest_kept))

pub returns-clause-keeps : goal.returns-clause-keeps
returns-clause-keeps g c =
    let index = c.in_ok-index.index in
    let lies = place_found c.self.inside.trie index c.args.place c.in-Some.key c.in-Some.offset c.in-Some.ensures.lies c.if-place-eq0.false in
    let keeps = c.settle_rest.ensures.keeps index (c.in-Some.offset + 1) c.args.place (c.in_ok-rest.ensures index (c.in-Some.offset + 1) c.args.place lies) in
    keeps_named g.R.PartialEq.eq g.R.Behaves.behaviour c.args.self.now c.self.inside.trie c.settle_rest.new.trie c.self.inside.start c.self.inside.value c.self.view_is c.args.branch.now c.args.place index c.in_ok-index.ensures.index keeps

pub returns-in_err-index-clause-err : goal.returns-in_err-index-clause-err
returns-in_err-index-clause-err g c =
    refused_still c.from_residual.result (subst (λ v. IsRefused (look (forest v.trie) c.args.branch.now c.args.place) c.in_err-index.field-0.0) c.self.view_is c.in_err-index.ensures.err) c.from_residual.ensures.1

pub returns-in_err-stored-clause-err : goal.returns-in_err-stored-clause-err
returns-in_err-stored-clause-err g c =
    let found = c.in_ok-index.ensures in
    let there = look_there (g.R.Behaves.behaviour c.self.inside.start.register) c.self.inside.trie c.args.branch.now c.in_ok-index.index c.in_ok-index.len found.index found.long c.args.place found.within in
    out_of_memory c.from_residual-in_err-stored.result (ap (λ v. look (forest v.trie) c.args.branch.now c.args.place) (sym c.self.view_is) ∙ there) c.from_residual-in_err-stored.ensures.1

pub returns-clause-begins : goal.returns-clause-begins
returns-clause-begins g c = seen_begins c.self.view_is g.R.PartialEq.eq g.R.Behaves.behaviour c.self.inside.next c.self.inside.fresh c.self.inside.mark c.self.invariant

pub returns-in_err-stored-clause-begins : goal.returns-in_err-stored-clause-begins
returns-in_err-stored-clause-begins g c = seen_begins c.self.view_is g.R.PartialEq.eq g.R.Behaves.behaviour c.self.inside.next c.self.inside.fresh c.self.inside.mark c.self.invariant

pub returns-then-place-eq0-clause-keeps : goal.returns-then-place-eq0-clause-keeps
returns-then-place-eq0-clause-keeps g c = all_kept c.args.self.now.trie _

pub returns-clause-len : goal.returns-clause-len
returns-clause-len g c = subst (λ v. len_of (forest v.trie) c.args.branch.now ≡ Some c.in_ok-index.len) c.self.view_is c.in_ok-index.ensures.len

pub overflow_cast-offset : goal.overflow_cast-offset
overflow_cast-offset g c = record {
  fits = (offset_below c.self.inside.trie c.in_ok-index.index c.args.place c.in-Some.key c.in-Some.offset _ c.in-Some.ensures.lies c.if-place-eq0.false c.ranges.place.fits).0;
}

pub overflow_add-offset : goal.overflow_add-offset
overflow_add-offset g c = record {
  fits = (offset_below c.self.inside.trie c.in_ok-index.index c.args.place c.in-Some.key c.in-Some.offset _ c.in-Some.ensures.lies c.if-place-eq0.false c.ranges.place.fits).1;
}

pub returns-in_err-index-clause-begins : goal.returns-in_err-index-clause-begins
returns-in_err-index-clause-begins g c = seen_begins c.self.view_is g.R.PartialEq.eq g.R.Behaves.behaviour c.self.inside.next c.self.inside.fresh c.self.inside.mark c.self.invariant

pub returns-then-place-eq0-clause-begins : goal.returns-then-place-eq0-clause-begins
returns-then-place-eq0-clause-begins g c = seen_begins c.self.view_is g.R.PartialEq.eq g.R.Behaves.behaviour c.self.inside.next c.self.inside.fresh c.self.inside.mark c.self.invariant

pub returns-in_err-stored-clause-keeps : goal.returns-in_err-stored-clause-keeps
returns-in_err-stored-clause-keeps g c =
    let index = c.in_ok-index.index in
    let lies = place_found c.self.inside.trie index c.args.place c.in-Some.key c.in-Some.offset c.in-Some.ensures.lies c.if-place-eq0.false in
    let keeps = c.settle_rest.ensures.keeps index (c.in-Some.offset + 1) c.args.place (c.in_ok-rest.ensures index (c.in-Some.offset + 1) c.args.place lies) in
    keeps_named g.R.PartialEq.eq g.R.Behaves.behaviour c.args.self.now c.self.inside.trie c.settle_rest.new.trie c.self.inside.start c.self.inside.value c.self.view_is c.args.branch.now c.args.place index c.in_ok-index.ensures.index keeps

pub returns-in_err-rest-clause-begins : goal.returns-in_err-rest-clause-begins
returns-in_err-rest-clause-begins g c = seen_begins c.self.view_is g.R.PartialEq.eq g.R.Behaves.behaviour c.self.inside.next c.self.inside.fresh c.self.inside.mark c.self.invariant

pub returns-in_err-rest-clause-err : goal.returns-in_err-rest-clause-err
returns-in_err-rest-clause-err g c =
    let found = c.in_ok-index.ensures in
    let there = look_there (g.R.Behaves.behaviour c.self.inside.start.register) c.self.inside.trie c.args.branch.now c.in_ok-index.index c.in_ok-index.len found.index found.long c.args.place found.within in
    out_of_memory c.from_residual-in_err-rest.result (ap (λ v. look (forest v.trie) c.args.branch.now c.args.place) (sym c.self.view_is) ∙ there) c.from_residual-in_err-rest.ensures.1
