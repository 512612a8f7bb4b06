use Rattle.std.proofs.Common.{ℕ, Some, length, sym, ap, subst, refl, arith}
use Rattle.schedule_trie.specs.Trie.{keys_in}
use Rattle.schedule_trie.specs.Climbs.{keys_to, HasClimbedTo}
use Rattle.schedule_trie.proofs.climbs.Climbs.{IsLast, last_is, step_up}
use Rattle.schedule_trie.proofs.limbs.OwnParts.{climbing_first, climbing_up}
use Rattle.cutoff.specs.Known.{IsKnownDownTo}
use Rattle.cutoff.specs.Prefixes.{RunsToOnAll}
use Rattle.cutoff.specs.FoundFits.{IsKnownAt}
use Rattle.cutoff.proofs.Climbs.{step_up_shorter}
use Rattle.cutoff.proofs.FoundFits.{IsUnseen, known_at, unseen_part}
use Rattle.cutoff.proofs.Keys.{path_once}
use Rattle.cutoff.proofs.plan.unseen_keys.Goals as goal

pub loop-at-init : goal.loop-at-init
loop-at-init g c =
    let keys = keys_in c.args.base.now.trie.now.branches c.args.index in
    let last = subst (IsLast keys) (sym c.last_at-at.ensures) (last_is keys (path_once c.args.base.now.trie.now c.requires.known.cut c.args.index)) in
    rw c.clear.ensures.items (record { climbing = climbing_first (IsUnseen c.args.seen.now) keys c.last_at-at.result last })

pub loop-at-smaller : goal.loop-at-smaller
loop-at-smaller g c =
    let keys = keys_in c.args.base.now.trie.now.branches c.args.index in
    let s = step_up keys c.in-Some.key c.step_up_from-above.result.1 (path_once c.args.base.now.trie.now c.requires.known.cut c.args.index) (subst (HasClimbedTo keys) c.in-Some.is c.loop-at.invariant.climbing.reached)
    (λ front back e. c.step_up_from-above.ensures.each c.args.index front back e) in
    let fewer = step_up_shorter keys c.in-Some.key c.step_up_from-above.result.1 s in
    let at = ap (λ o. length (keys_to keys o)) c.in-Some.is in
    omega (arith, fewer, at)

pub loop-at-preserved : goal.loop-at-preserved
loop-at-preserved g c =
    let keys = keys_in c.args.base.now.trie.now.branches c.args.index in
    let at = c.loop-at.invariant.climbing in
    let s = step_up keys c.in-Some.key c.step_up_from-above.result.1 (path_once c.args.base.now.trie.now c.requires.known.cut c.args.index) (subst (HasClimbedTo keys) c.in-Some.is at.reached)
    (λ front back e. c.step_up_from-above.ensures.each c.args.index front back e) in
    record { climbing = climbing_up (IsUnseen c.args.seen.now) keys c.loop-at.at c.in-Some.key c.step_up_from-above.result.1 c.loop-at.keys.items c.push.new.self.items c.in-Some.is c.in_ok-push.ensures.items at s c.in_default-known_fit.ensures }

pub returns-in-Some-known_fit : goal.returns-in-Some-known_fit
returns-in-Some-known_fit g c =
    let keys = keys_in c.args.base.now.trie.now.branches c.args.index in
    let Marked = λ (k : ℕ). RunsToOnAll g.R.PartialEq.eq g.R.Behaves.behaviour c.args.base.now.trie.now c.args.base.now.start.now (Some k) in
    unseen_part c.args.seen.now keys Marked c.loop-at.at c.loop-at.keys.items c.reverse.new.self.items c.in-Some-known_fit.fits c.loop-at.invariant.climbing
    (subst (λ o. IsKnownAt Marked c.args.seen.now o c.in-Some-known_fit.fits) (sym c.in-Some.is) (known_at Marked c.args.seen.now c.in-Some.key c.is_known_down_to.result c.in-Some-known_fit.fits (λ down. c.requires.known.down c.in-Some.key (subst (IsKnownDownTo c.args.base.now.known c.in-Some.key) c.step_up_from-above.ensures.note (c.is_known_down_to.ensures down))) c.in-Some-known_fit.ensures))
    c.reverse.ensures.items

pub returns : goal.returns
returns g c =
    let keys = keys_in c.args.base.now.trie.now.branches c.args.index in
    let Marked = λ (k : ℕ). RunsToOnAll g.R.PartialEq.eq g.R.Behaves.behaviour c.args.base.now.trie.now c.args.base.now.start.now (Some k) in
    unseen_part c.args.seen.now keys Marked c.loop-at.at c.loop-at.keys.items c.reverse-2.new.self.items _ c.loop-at.invariant.climbing
    (subst (λ o. IsKnownAt Marked c.args.seen.now o _) (sym c.in_default.is) refl) c.reverse-2.ensures.items

pub step_up_from-above-requires : goal.step_up_from-above-requires
step_up_from-above-requires g c =
    c.requires.known.cut.held c.args.index c.in-Some.key (subst (HasClimbedTo (keys_in c.args.base.now.trie.now.branches c.args.index)) c.in-Some.is c.loop-at.invariant.climbing.reached)
