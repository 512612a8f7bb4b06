use Rattle.std.proofs.Common.{◌≡◌, ℕ, true, Some, refl, sym, ap, subst, ◌∙◌}
use Rattle.std.specs.Option.{option_copied}
use Rattle.schedule_trie.specs.Trie.{has, keys_in, note_of, segment_at}
use Rattle.schedule_trie.proofs.climbs.Climbs.{IsStepUp, step_up}
use Rattle.cutoff.specs.Prefixes.{IsHung, IsTop}
use Rattle.cutoff.proofs.HungRuns.{hung_here, hung_more}
use Rattle.cutoff.proofs.Keys.{path_once}
use Rattle.cutoff.proofs.prefix.hung_from.Goals as goal

pub returns-in_default-clause-top : goal.returns-in_default-clause-top
returns-in_default-clause-top g c = record {
  noted = sym (ap option_copied c.in_default.is) ∙ c.step_up_from-above.ensures.note;
  each = c.step_up_from-above.ensures.each;
}

pub returns-in_default-clause-hung : goal.returns-in_default-clause-hung
returns-in_default-clause-hung g c = λ i h. hung_here g.R.PartialEq.eq g.R.Behaves.behaviour c.args.trie.now c.args.key i h

pub returns-in_default-above-clause-hung : goal.returns-in_default-above-clause-hung
returns-in_default-above-clause-hung g c = λ i h.
    subst (λ k. IsHung g.R.PartialEq.eq g.R.Behaves.behaviour c.args.trie.now k c.args.key i) (sym c.top_of.ensures.key)
    (hung_here g.R.PartialEq.eq g.R.Behaves.behaviour c.args.trie.now c.args.key i h)

pub loop-init : goal.loop-init
loop-init g c =
    let E = g.R.PartialEq.eq in
    let trie = c.args.trie.now in
    record {
      up = λ i h. subst (IsStepUp (keys_in trie.branches i) c.args.key) c.in-Some-above.is
          (step_up (keys_in trie.branches i) c.args.key c.step_up_from-above.result.1 (path_once trie c.requires.cut i) h (λ front back e. c.step_up_from-above.ensures.each i front back e));
      hung = λ i h. hung_here E g.R.Behaves.behaviour trie c.args.key i h;
      top = subst (IsTop trie c.args.key (Some c.in-Some.stored.now)) c.in-Some-above.is (record {
        noted = sym (ap option_copied c.in-Some.is) ∙ c.step_up_from-above.ensures.note;
        each = c.step_up_from-above.ensures.each;
      });
      stored = record {
        stored = c.in-Some.stored.now;
        noted = sym c.step_up_from-above.ensures.note ∙ ap option_copied c.in-Some.is;
        true_run = c.entry-entry.ensures.kept;
        linked = refl;
      };
    }

pub loop-preserved : goal.loop-preserved
loop-preserved g c =
    let E = g.R.PartialEq.eq in
    let is = g.R.Behaves.behaviour in
    let trie = c.args.trie.now in
    let was = c.loop.invariant in
    let s = c.in-Some-note.stored.now in
    let noted : note_of (segment_at trie.segments c.loop.next) ≡ Some s = sym c.step_up_from-above-in-loop.ensures.note ∙ ap option_copied c.in-Some-note.is in
    let before = c.is_linked_from.ensures.0 c.if-not-is_linked_from.false in
    let links = c.requires.linked in
    let hung : (i : ℕ) → has c.args.key (keys_in trie.branches i) ≡ true → IsHung E is trie c.loop.next c.args.key i =
    λ i h. hung_more E is trie g.met.R.PartialEq.laws c.loop.reached c.loop.next c.args.key i links.1.0 before.0 links.0 (Some c.loop.next) c.loop.lower.now.link s links.1.1 was.stored noted c.entry-entry-in-loop.ensures.kept
    before.1 before.2 refl (was.up i h) (was.hung i h) in
    record {
      up = λ i h. subst (IsStepUp (keys_in trie.branches i) c.loop.next) c.in-Some-above-2.is
          (step_up (keys_in trie.branches i) c.loop.next c.step_up_from-above-in-loop.result.1 (path_once trie c.requires.cut i) (hung i h).there
          (λ front back e. c.step_up_from-above-in-loop.ensures.each i front back e));
      hung = hung;
      top = subst (IsTop trie c.loop.next (Some s)) c.in-Some-above-2.is (record {
        noted = sym noted;
        each = c.step_up_from-above-in-loop.ensures.each;
      });
      stored = record {
        stored = s;
        noted = noted;
        true_run = c.entry-entry-in-loop.ensures.kept;
        linked = refl;
      };
    }

pub returns-in_default-above-2-clause-hung : goal.returns-in_default-above-2-clause-hung
returns-in_default-above-2-clause-hung g c =
    let E = g.R.PartialEq.eq in
    let is = g.R.Behaves.behaviour in
    let trie = c.args.trie.now in
    let was = c.loop.invariant in
    let s = c.in-Some-note.stored.now in
    let noted : note_of (segment_at trie.segments c.loop.next) ≡ Some s = sym c.step_up_from-above-in-loop.ensures.note ∙ ap option_copied c.in-Some-note.is in
    let before = c.is_linked_from.ensures.0 c.if-not-is_linked_from.false in
    let links = c.requires.linked in
    λ i h. subst (λ k. IsHung E is trie k c.args.key i) (sym c.top_of-in_default-above-2.ensures.key)
    (hung_more E is trie g.met.R.PartialEq.laws c.loop.reached c.loop.next c.args.key i links.1.0 before.0 links.0 (Some c.loop.next) c.loop.lower.now.link s links.1.1 was.stored noted c.entry-entry-in-loop.ensures.kept
    before.1 before.2 refl (was.up i h) (was.hung i h))

pub step_up_from-above-requires : goal.step_up_from-above-requires
step_up_from-above-requires g c = c.requires.cut.held c.requires.there.0 c.args.key c.requires.there.1

pub step_up_from-above-requires-in-loop : goal.step_up_from-above-requires-in-loop
step_up_from-above-requires-in-loop g c =
    let i = c.requires.there.0 in
    c.requires.cut.held i c.loop.next (c.loop.invariant.up i c.requires.there.1).reached

pub returns-clause-top : goal.returns-clause-top
returns-clause-top g c = c.loop.invariant.top
