use Rattle.std.proofs.Common.{None, refl, sym, subst, ◌∙◌}
use Rattle.std.specs.Arc.{arc_value}
use Rattle.frames.specs.Recorded.{AllFit, without_register}
use Rattle.checkpoints.specs.Runs.{IsTrueRun}
use Rattle.schedule_trie.proofs.Results.{always_on_err}
use Rattle.cutoff.specs.Fitting.{Fits, steps_at}
use Rattle.cutoff.proofs.Links.{linked_none, linked_equal}
use Rattle.cutoff.proofs.Segments.{segment_taken, stored_again_linked}
use Rattle.cutoff.proofs.Prefixes.{config_linked}
use Rattle.cutoff.proofs.Noted.{noted_still}
use Rattle.cutoff.proofs.settle_rest.settle_below.Goals as goal

pub fitting-requires : goal.fitting-requires
fitting-requires g c = record {
  linked = (
    c.args.next.now,
    (config_linked g.R.PartialEq.eq g.met.R.Eq.laws g.met.R.PartialEq.laws g.R.Behaves.behaviour c.args.trie.now c.args.start.now c.args.next.now c.requires.linked
        c.requires.above.0 _ c.requires.above.1 c.entry_below-number.ensures.kept _ _ c.entry_below-number.ensures.entry c.entry_below-number.ensures.number).0,
  );
}

pub returns-then-keeps_link-clause-settled : goal.returns-then-keeps_link-clause-settled
returns-then-keeps_link-clause-settled g c =
    let trie = c.args.trie.now in
    let s = c.in-Some.stored.now in
    let settled = segment_taken g.R.PartialEq.eq trie trie _ c.args.key s (noted_still trie c.args.key s c.in-Some.ensures.0) s c.in-Some.ensures.0 _
    c.entry_below-number.ensures.entry c.in-Some.ensures.1 refl in
    rw c.in_ok-copy.ensures (settled, c.in-Some.ensures.2)

pub returns-in-Some-clause-settled : goal.returns-in-Some-clause-settled
returns-in-Some-clause-settled g c =
    let trie = c.args.trie.now in
    let s = c.in-Some.stored.now in
    let again = c.in_ok-again.again in
    let settled = segment_taken g.R.PartialEq.eq trie c.set_note.new.self _ c.args.key again c.set_note.ensures s c.in-Some.ensures.0 _
    c.entry_below-number.ensures.entry c.in-Some.ensures.1 c.in_ok-again.ensures.run in
    rw c.in_ok-copy-2.ensures (settled, subst (λ r. IsTrueRun (g.R.Behaves.behaviour r.entry.register) r) (sym c.in_ok-again.ensures.run) c.in-Some.ensures.2)

pub returns-in-Some-clause-linked : goal.returns-in-Some-clause-linked
returns-in-Some-clause-linked g c =
    let E = g.R.PartialEq.eq in
    let start = c.args.start.now in
    let config = c.entry_below-number.result.0.now in
    let came = config_linked E g.met.R.Eq.laws g.met.R.PartialEq.laws g.R.Behaves.behaviour c.args.trie.now start c.args.next.now c.requires.linked
    c.requires.above.0 _ c.requires.above.1 c.entry_below-number.ensures.kept _ _ c.entry_below-number.ensures.entry c.entry_below-number.ensures.number in
    linked_equal E g.met.R.PartialEq.laws config.register start.register c.args.next.now None (without_register start) c.set_note.new.self came.1
    (linked_none E config.register c.args.next.now _ _ (without_register start) c.set_note.new.self
    (stored_again_linked E c.args.trie.now c.set_note.new.self config c.args.key c.in_ok-again.again c.set_note.ensures c.in-Some.stored.now c.in-Some.ensures.0 config refl c.in-Some.ensures.1 c.in_ok-again.ensures.run
    c.args.next.now c.entry_below-number.result.1 came.0 c.in_ok-again.ensures.id c.in_ok-again.ensures.checked c.in_ok-again.ensures.link))

pub returns-clause-settled : goal.returns-clause-settled
returns-clause-settled g c = rw (← c.in_ok-config.ensures) c.in_ok-made.ensures.settled

pub returns-clause-linked : goal.returns-clause-linked
returns-clause-linked g c =
    let E = g.R.PartialEq.eq in
    let start = c.args.start.now in
    let config = arc_value c.in_ok-config.config in
    let came = config_linked E g.met.R.Eq.laws g.met.R.PartialEq.laws g.R.Behaves.behaviour c.args.trie.now start c.args.next.now c.requires.linked
    c.requires.above.0 _ c.requires.above.1 c.entry_below-number.ensures.kept _ _ c.in_ok-config.ensures c.entry_below-number.ensures.number in
    linked_equal E g.met.R.PartialEq.laws config.register start.register c.replay_segment.new.next None (without_register start) c.replay_segment.new.trie came.1
    (linked_none E config.register c.replay_segment.new.next _ _ (without_register start) c.replay_segment.new.trie c.in_ok-made.ensures.linked)

pub returns-in_err-made-clause-unchanged : goal.returns-in_err-made-clause-unchanged
returns-in_err-made-clause-unchanged g c = always_on_err c.from_residual-in_err-made.result _ c.in_err-made.ensures.unchanged.0

pub replay_segment-requires-clause-linked : goal.replay_segment-requires-clause-linked
replay_segment-requires-clause-linked g c =
    let came = config_linked g.R.PartialEq.eq g.met.R.Eq.laws g.met.R.PartialEq.laws g.R.Behaves.behaviour c.args.trie.now c.args.start.now c.args.next.now c.requires.linked
    c.requires.above.0 _ c.requires.above.1 c.entry_below-number.ensures.kept _ _ c.in_ok-config.ensures c.entry_below-number.ensures.number in
    came.0

pub replay_segment-requires-clause-fits : goal.replay_segment-requires-clause-fits
replay_segment-requires-clause-fits g c =
    let came = config_linked g.R.PartialEq.eq g.met.R.Eq.laws g.met.R.PartialEq.laws g.R.Behaves.behaviour c.args.trie.now c.args.start.now c.args.next.now c.requires.linked
    c.requires.above.0 _ c.requires.above.1 c.entry_below-number.ensures.kept _ _ c.in_ok-config.ensures c.entry_below-number.ensures.number in
    subst (λ b. AllFit b (steps_at c.args.trie.now c.args.key)) (sym (g.met.R.Register.alike (arc_value c.in_ok-config.config).register c.args.start.now.register came.1)) c.requires.fits

pub replay_segment-requires-clause-misses : goal.replay_segment-requires-clause-misses
replay_segment-requires-clause-misses g c =
    subst (λ d. Fits g.R.PartialEq.eq c.args.trie.now d c.args.key → ⊥) (c.entry_below-number.ensures.entry ∙ sym c.in_ok-config.ensures) c.in_default.ensures
