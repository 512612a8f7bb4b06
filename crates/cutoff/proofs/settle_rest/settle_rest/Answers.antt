use Rattle.std.proofs.Common.{◌≡◌, ◌+◌, ◌++◌, [], Some, true, drop, get_or, refl, sym, ap, subst, ◌∙◌, arith, append-nil}
use Rattle.cutoff.specs.Prefixes.{RunsHang, note_if_any, exit_or_start}
use Rattle.schedule_trie.specs.Trie.{has, keys_in}
use Rattle.cutoff.proofs.SameBranches.{cut_kept, keeps_still}
use Rattle.cutoff.proofs.RestWalks.{IsRestWalk, rest_walk_starts, rest_walk_past, rest_walk_next, kept_next, noted_next, ends_at, rest_walk_settles, small_next, fits_next}
use Rattle.cutoff.proofs.FreshRuns.{fresh_next}
use Rattle.cutoff.proofs.LeftToSettle.{below_is_listed, hangs_next, kept_settles, early_settles}
use Rattle.cutoff.proofs.settle_rest.settle_rest.Goals as goal

pub loop-segment-init : goal.loop-segment-init
loop-segment-init g c = (
  c.args.rest.now.fitted,
  record {
    noted = sym c.in_ok-above.ensures;
    walks = λ i count place left.
        let trie = c.args.trie.now in
        let start = c.args.start.now in
        let on = rest_walk_starts g.R.PartialEq.eq g.met.R.Eq.laws g.met.R.PartialEq.laws g.R.Behaves.behaviour g.met.R.Register.alike
        trie start c.args.rest.now.fitted (c.args.rest.now.keys.items ++ left.hanging.below) c.args.key count place i c.requires.cut left.rest in (
          on.0,
          subst (λ l. IsRestWalk g.R.PartialEq.eq g.R.Behaves.behaviour trie trie start c.args.key count (keys_in trie.branches i) (l ++ left.hanging.below) on.0 place 0 c.args.rest.now.fitted)
              (sym c.deref-segment-items.ensures.value) on.1,
        );
    kept = λ none. refl;
    linked = c.requires.linked;
    fresh = λ first was. was;
  },
)

pub settle_below-requires-clause-above : goal.settle_below-requires-clause-above
settle_below-requires-clause-above g c = (c.loop-segment.invariant.0, c.loop-segment.invariant.1.noted ∙ sym c.as_ref.ensures.value)

pub settle_below-requires-in-loop-below-clause-above : goal.settle_below-requires-in-loop-below-clause-above
settle_below-requires-in-loop-below-clause-above g c = (c.loop-below.invariant.0, c.loop-below.invariant.1.noted ∙ sym c.as_ref-in-loop-below.ensures.value)

pub settle_below-requires-clause-short : goal.settle_below-requires-clause-short
settle_below-requires-clause-short g c =
    let r = c.requires.left in
    let on = c.loop-segment.invariant.1.walks r.0 r.1 r.2 r.3 in
    small_next g.R.PartialEq.eq g.met.R.Eq.laws g.met.R.PartialEq.laws g.R.Behaves.behaviour g.met.R.Register.alike c.deref-segment-items.result.now c.loop-segment.segment-index _ on.1 c.loop-segment-test.true

pub settle_below-requires-clause-fits : goal.settle_below-requires-clause-fits
settle_below-requires-clause-fits g c =
    let r = c.requires.left in
    let on = c.loop-segment.invariant.1.walks r.0 r.1 r.2 r.3 in
    fits_next g.R.PartialEq.eq g.met.R.Eq.laws g.met.R.PartialEq.laws g.R.Behaves.behaviour g.met.R.Register.alike c.deref-segment-items.result.now c.loop-segment.segment-index _ on.1 c.loop-segment-test.true

pub returns-in_err-stored-clause-keeps : goal.returns-in_err-stored-clause-keeps
returns-in_err-stored-clause-keeps g c = λ i count place left.
    keeps_still g.R.PartialEq.eq (g.R.Behaves.behaviour c.args.start.now.register) c.args.trie.now c.args.start.now _ c.in_err-stored.ensures.unchanged
    (c.loop-segment.invariant.1.walks i count place left).1.walk.keeps

pub overflow_add-replayed : goal.overflow_add-replayed
overflow_add-replayed g c =
    let r = c.requires.left in
    let on = c.loop-segment.invariant.1.walks r.0 r.1 r.2 r.3 in
    let next = rest_walk_next g.R.PartialEq.eq g.met.R.Eq.laws g.met.R.PartialEq.laws g.R.Behaves.behaviour g.met.R.Register.alike c.deref-segment-items.result.now c.loop-segment.segment-index
    r.3.hanging.below on.1 c.loop-segment-test.true (c.loop-segment.invariant.1.noted ∙ sym c.as_ref.ensures.value) c.in_ok-stored.ensures.settled in
    let short = next.walk.short in
    let few = r.4 in
    omega (arith, short, few)

pub loop-segment-preserved : goal.loop-segment-preserved
loop-segment-preserved g c =
    let r = c.requires.left in
    let was = c.loop-segment.invariant.1 in
    let reached = was.noted ∙ sym c.as_ref.ensures.value in (
      Some (get_or c.deref-segment-items.result.now c.loop-segment.segment-index 0),
      record {
        noted = noted_next g.R.PartialEq.eq g.met.R.Eq.laws g.met.R.PartialEq.laws g.R.Behaves.behaviour g.met.R.Register.alike c.deref-segment-items.result.now c.loop-segment.segment-index
            r.3.hanging.below (was.walks r.0 r.1 r.2 r.3).1 c.loop-segment-test.true reached c.in_ok-stored.ensures.settled;
        walks = λ i count place left.
            let on = was.walks i count place left in (
              on.0,
              rest_walk_next g.R.PartialEq.eq g.met.R.Eq.laws g.met.R.PartialEq.laws g.R.Behaves.behaviour g.met.R.Register.alike c.deref-segment-items.result.now c.loop-segment.segment-index
                  left.hanging.below on.1 c.loop-segment-test.true reached c.in_ok-stored.ensures.settled,
            );
        kept = kept_next g.R.PartialEq.eq g.met.R.Eq.laws g.met.R.PartialEq.laws g.R.Behaves.behaviour g.met.R.Register.alike c.deref-segment-items.result.now c.loop-segment.segment-index
            r.3.hanging.below (was.walks r.0 r.1 r.2 r.3).1 c.loop-segment-test.true reached c.in_ok-stored.ensures.settled c.requires.cut;
        linked = c.settle_below.ensures.linked;
        fresh = λ first all.
            fresh_next g.R.PartialEq.eq g.met.R.Eq.laws g.met.R.PartialEq.laws g.R.Behaves.behaviour g.met.R.Register.alike r.0 c.deref-segment-items.result.now c.loop-segment.segment-index
            r.3.hanging.below (was.walks r.0 r.1 r.2 r.3).1 c.loop-segment-test.true reached c.in_ok-stored.ensures.settled c.requires.cut first (was.fresh first all);
      },
    )

pub returns-in_err-copy_at-clause-keeps : goal.returns-in_err-copy_at-clause-keeps
returns-in_err-copy_at-clause-keeps g c = λ i count place left. (c.loop-segment.invariant.1.walks i count place left).1.walk.keeps

pub returns-in_err-copy_at-2-clause-keeps : goal.returns-in_err-copy_at-2-clause-keeps
returns-in_err-copy_at-2-clause-keeps g c = λ i count place left.
    let on = c.loop-below.invariant.1.walks i count place left in
    let next = rest_walk_next g.R.PartialEq.eq g.met.R.Eq.laws g.met.R.PartialEq.laws g.R.Behaves.behaviour g.met.R.Register.alike c.deref-below-items.result.now c.loop-below.below-index
    [] on.1 c.loop-below-test.true (c.loop-below.invariant.1.noted ∙ sym c.as_ref-in-loop-below.ensures.value) c.in_ok-lower.ensures.settled in
    next.walk.keeps

pub returns-then-last-eq0-clause-settles : goal.returns-then-last-eq0-clause-settles
returns-then-last-eq0-clause-settles g c = λ i count place left.
    let on = c.loop-segment.invariant.1.walks i count place left in
    kept_settles g.R.PartialEq.eq g.met.R.Eq.laws g.met.R.PartialEq.laws g.R.Behaves.behaviour g.met.R.Register.alike c.args.trie.now c.loop-segment.trie c.args.start.now c.args.key
    count i place c.loop-segment.replayed on.0 c.args.rest.now.top c.loop-segment.invariant.0 left.hanging
    (rest_walk_past g.R.PartialEq.eq g.met.R.Eq.laws g.met.R.PartialEq.laws g.R.Behaves.behaviour g.met.R.Register.alike c.deref-segment-items.result.now c.loop-segment.segment-index left.hanging.below on.1
    c.loop-segment-test.false)
    (c.loop-segment.invariant.1.kept c.if-last-eq0.true)

pub returns-then-last-eq0-clause-keeps : goal.returns-then-last-eq0-clause-keeps
returns-then-last-eq0-clause-keeps g c = λ i count place left. (c.loop-segment.invariant.1.walks i count place left).1.walk.keeps

pub keys_down_to-requires-clause-there : goal.keys_down_to-requires-clause-there
keys_down_to-requires-clause-there g c =
    let r = c.requires.left in
    let on = c.loop-segment.invariant.1.walks r.0 r.1 r.2 r.3 in
    (r.0, subst (λ s. has c.args.key (keys_in s r.0) ≡ true) (sym on.1.walk.keeps.branches) r.3.rest.lies.there)

pub returns-in_err-hanging-clause-keeps : goal.returns-in_err-hanging-clause-keeps
returns-in_err-hanging-clause-keeps g c = λ i count place left. (c.loop-segment.invariant.1.walks i count place left).1.walk.keeps

pub loop-below-init : goal.loop-below-init
loop-below-init g c =
    let E = g.R.PartialEq.eq in
    let is = g.R.Behaves.behaviour in
    let trie = c.args.trie.now in
    let start = c.args.start.now in
    let following = c.in_ok-hanging.ensures.following in (
      c.loop-segment.invariant.0,
      record {
        noted = c.loop-segment.invariant.1.noted;
        walks = λ i count place left.
            let on = c.loop-segment.invariant.1.walks i count place left in
            let past = rest_walk_past E g.met.R.Eq.laws g.met.R.PartialEq.laws is g.met.R.Register.alike c.deref-segment-items.result.now c.loop-segment.segment-index left.hanging.below on.1
            c.loop-segment-test.false in
            let same = below_is_listed E is trie c.loop-segment.trie c.args.rest.now.top c.args.key i c.in_ok-hanging.field-0-0 c.in_ok-hanging.hanging.items on.1.walk.keeps.branches left.hanging
            left.rest.lies.there following c.in_ok-hanging.ensures.stops in (
              on.0,
              subst (λ l. IsRestWalk E is trie c.loop-segment.trie start c.args.key count (keys_in trie.branches i) l on.0 place c.loop-segment.replayed c.loop-segment.invariant.0)
                  (same ∙ sym c.deref-below-items.ensures.value ∙ sym (append-nil c.deref-below-items.result.now)) past,
            );
        hangs = λ i count place left.
            let on = c.loop-segment.invariant.1.walks i count place left in
            let same = below_is_listed E is trie c.loop-segment.trie c.args.rest.now.top c.args.key i c.in_ok-hanging.field-0-0 c.in_ok-hanging.hanging.items on.1.walk.keeps.branches left.hanging
            left.rest.lies.there following c.in_ok-hanging.ensures.stops in
            (exit_or_start trie start (Some c.args.rest.now.top), subst (RunsHang E is trie (exit_or_start trie start (Some c.args.rest.now.top))) (same ∙ sym c.deref-below-items.ensures.value) (left.hanging.hangs start));
        linked = c.loop-segment.invariant.1.linked;
        fresh = c.loop-segment.invariant.1.fresh;
      },
    )

pub settle_below-requires-in-loop-below-clause-short : goal.settle_below-requires-in-loop-below-clause-short
settle_below-requires-in-loop-below-clause-short g c =
    let r = c.requires.left in
    let on = c.loop-below.invariant.1.walks r.0 r.1 r.2 r.3 in
    small_next g.R.PartialEq.eq g.met.R.Eq.laws g.met.R.PartialEq.laws g.R.Behaves.behaviour g.met.R.Register.alike c.deref-below-items.result.now c.loop-below.below-index [] on.1 c.loop-below-test.true

pub settle_below-requires-in-loop-below-clause-fits : goal.settle_below-requires-in-loop-below-clause-fits
settle_below-requires-in-loop-below-clause-fits g c =
    let r = c.requires.left in
    let on = c.loop-below.invariant.1.walks r.0 r.1 r.2 r.3 in
    fits_next g.R.PartialEq.eq g.met.R.Eq.laws g.met.R.PartialEq.laws g.R.Behaves.behaviour g.met.R.Register.alike c.deref-below-items.result.now c.loop-below.below-index [] on.1 c.loop-below-test.true

pub returns-in_err-lower-clause-keeps : goal.returns-in_err-lower-clause-keeps
returns-in_err-lower-clause-keeps g c = λ i count place left.
    keeps_still g.R.PartialEq.eq (g.R.Behaves.behaviour c.args.start.now.register) c.args.trie.now c.args.start.now _ c.in_err-lower.ensures.unchanged
    (c.loop-below.invariant.1.walks i count place left).1.walk.keeps

pub overflow_add-replayed-in-loop-below : goal.overflow_add-replayed-in-loop-below
overflow_add-replayed-in-loop-below g c =
    let r = c.requires.left in
    let on = c.loop-below.invariant.1.walks r.0 r.1 r.2 r.3 in
    let next = rest_walk_next g.R.PartialEq.eq g.met.R.Eq.laws g.met.R.PartialEq.laws g.R.Behaves.behaviour g.met.R.Register.alike c.deref-below-items.result.now c.loop-below.below-index
    [] on.1 c.loop-below-test.true (c.loop-below.invariant.1.noted ∙ sym c.as_ref-in-loop-below.ensures.value) c.in_ok-lower.ensures.settled in
    let short = next.walk.short in
    let few = r.4 in
    omega (arith, short, few)

pub returns-then-here-eq0-clause-settles : goal.returns-then-here-eq0-clause-settles
returns-then-here-eq0-clause-settles g c = λ i count place left.
    let E = g.R.PartialEq.eq in
    let is = g.R.Behaves.behaviour in
    let keys = c.deref-below-items.result.now in
    let index = c.loop-below.below-index in
    let trie = c.args.trie.now in
    let on = c.loop-below.invariant.1.walks i count place left in
    let new = c.settle_below-in-loop-below.new.trie in
    let next = rest_walk_next E g.met.R.Eq.laws g.met.R.PartialEq.laws is g.met.R.Register.alike keys index [] on.1 c.loop-below-test.true (c.loop-below.invariant.1.noted ∙ sym c.as_ref-in-loop-below.ensures.value) c.in_ok-lower.ensures.settled in
    let kept = kept_next E g.met.R.Eq.laws g.met.R.PartialEq.laws is g.met.R.Register.alike keys index [] on.1 c.loop-below-test.true (c.loop-below.invariant.1.noted ∙ sym c.as_ref-in-loop-below.ensures.value) c.in_ok-lower.ensures.settled c.requires.cut
    c.if-here-eq0.true in
    let hangs = c.loop-below.invariant.1.hangs i count place left in
    let below = hangs_next E is trie hangs.0 keys index c.loop-below-test.true hangs.1 in
    early_settles E g.met.R.Eq.laws g.met.R.PartialEq.laws is g.met.R.Register.alike trie new c.args.start.now c.args.key count i place _ on.0 (get_or keys index 0) hangs.0
    (drop (index + 1) keys) below.0 below.1 next kept

pub returns-then-here-eq0-clause-keeps : goal.returns-then-here-eq0-clause-keeps
returns-then-here-eq0-clause-keeps g c = λ i count place left.
    let on = c.loop-below.invariant.1.walks i count place left in
    let next = rest_walk_next g.R.PartialEq.eq g.met.R.Eq.laws g.met.R.PartialEq.laws g.R.Behaves.behaviour g.met.R.Register.alike c.deref-below-items.result.now c.loop-below.below-index
    [] on.1 c.loop-below-test.true (c.loop-below.invariant.1.noted ∙ sym c.as_ref-in-loop-below.ensures.value) c.in_ok-lower.ensures.settled in
    next.walk.keeps

pub returns-in_err-copy_at-2-clause-fresh : goal.returns-in_err-copy_at-2-clause-fresh
returns-in_err-copy_at-2-clause-fresh g c first all =
    let r = c.requires.left in
    let was = c.loop-below.invariant.1 in
    fresh_next g.R.PartialEq.eq g.met.R.Eq.laws g.met.R.PartialEq.laws g.R.Behaves.behaviour g.met.R.Register.alike r.0 c.deref-below-items.result.now c.loop-below.below-index
    [] (was.walks r.0 r.1 r.2 r.3).1 c.loop-below-test.true (was.noted ∙ sym c.as_ref-in-loop-below.ensures.value) c.in_ok-lower.ensures.settled c.requires.cut first (was.fresh first all)

pub returns-then-here-eq0-clause-fresh : goal.returns-then-here-eq0-clause-fresh
returns-then-here-eq0-clause-fresh g c first all =
    let r = c.requires.left in
    let was = c.loop-below.invariant.1 in
    fresh_next g.R.PartialEq.eq g.met.R.Eq.laws g.met.R.PartialEq.laws g.R.Behaves.behaviour g.met.R.Register.alike r.0 c.deref-below-items.result.now c.loop-below.below-index
    [] (was.walks r.0 r.1 r.2 r.3).1 c.loop-below-test.true (was.noted ∙ sym c.as_ref-in-loop-below.ensures.value) c.in_ok-lower.ensures.settled c.requires.cut first (was.fresh first all)

pub loop-below-preserved : goal.loop-below-preserved
loop-below-preserved g c =
    let r = c.requires.left in
    let was = c.loop-below.invariant.1 in
    let reached = was.noted ∙ sym c.as_ref-in-loop-below.ensures.value in (
      Some (get_or c.deref-below-items.result.now c.loop-below.below-index 0),
      record {
        noted = noted_next g.R.PartialEq.eq g.met.R.Eq.laws g.met.R.PartialEq.laws g.R.Behaves.behaviour g.met.R.Register.alike c.deref-below-items.result.now c.loop-below.below-index
            [] (was.walks r.0 r.1 r.2 r.3).1 c.loop-below-test.true reached c.in_ok-lower.ensures.settled;
        walks = λ i count place left.
            let on = was.walks i count place left in (
              on.0,
              rest_walk_next g.R.PartialEq.eq g.met.R.Eq.laws g.met.R.PartialEq.laws g.R.Behaves.behaviour g.met.R.Register.alike c.deref-below-items.result.now c.loop-below.below-index
                  [] on.1 c.loop-below-test.true reached c.in_ok-lower.ensures.settled,
            );
        hangs = λ i count place left.
            let hangs = was.hangs i count place left in
            let below = hangs_next g.R.PartialEq.eq g.R.Behaves.behaviour c.args.trie.now hangs.0 c.deref-below-items.result.now c.loop-below.below-index c.loop-below-test.true hangs.1 in
            (below.0.stored.run.exit, below.1);
        linked = c.settle_below-in-loop-below.ensures.linked;
        fresh = λ first all.
            fresh_next g.R.PartialEq.eq g.met.R.Eq.laws g.met.R.PartialEq.laws g.R.Behaves.behaviour g.met.R.Register.alike r.0 c.deref-below-items.result.now c.loop-below.below-index
            [] (was.walks r.0 r.1 r.2 r.3).1 c.loop-below-test.true reached c.in_ok-lower.ensures.settled c.requires.cut first (was.fresh first all);
      },
    )

-- the walk has settled the segment `key` last
pub returns-clause-stored : goal.returns-clause-stored
returns-clause-stored g c =
    let r = c.requires.left in
    let on = c.loop-below.invariant.1.walks r.0 r.1 r.2 r.3 in
    let here = ends_at g.R.PartialEq.eq g.R.Behaves.behaviour c.args.trie.now c.loop-below.trie c.args.start.now c.args.key r.1 r.0 r.2 c.loop-below.replayed on.0 c.loop-below.invariant.0
    (rest_walk_past g.R.PartialEq.eq g.met.R.Eq.laws g.met.R.PartialEq.laws g.R.Behaves.behaviour g.met.R.Register.alike c.deref-below-items.result.now c.loop-below.below-index [] on.1 c.loop-below-test.false) in
    sym c.loop-below.invariant.1.noted ∙ ap (note_if_any c.loop-below.trie) here

pub returns-clause-settles : goal.returns-clause-settles
returns-clause-settles g c = λ i count place left.
    let on = c.loop-below.invariant.1.walks i count place left in
    rest_walk_settles g.R.PartialEq.eq g.R.Behaves.behaviour c.args.trie.now c.loop-below.trie c.args.start.now c.args.key count i place c.loop-below.replayed on.0
    c.loop-below.invariant.0
    (rest_walk_past g.R.PartialEq.eq g.met.R.Eq.laws g.met.R.PartialEq.laws g.R.Behaves.behaviour g.met.R.Register.alike c.deref-below-items.result.now c.loop-below.below-index [] on.1
    c.loop-below-test.false)

pub returns-clause-keeps : goal.returns-clause-keeps
returns-clause-keeps g c = λ i count place left. (c.loop-below.invariant.1.walks i count place left).1.walk.keeps

pub keys_down_to-requires-clause-cut : goal.keys_down_to-requires-clause-cut
keys_down_to-requires-clause-cut g c =
    let r = c.requires.left in
    cut_kept c.args.trie.now c.loop-segment.trie _ (c.loop-segment.invariant.1.walks r.0 r.1 r.2 r.3).1.walk.keeps c.requires.cut
