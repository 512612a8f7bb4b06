use Rattle.std.proofs.Common.{ℕ, ◌<◌, sym, ap, ◌∙◌, subst}
use Rattle.turn.specs.Shares.{has_share}
use Rattle.turn.specs.laws.ShareLaws.{number_held}
use Rattle.turn.proofs.Holds.{still_has, list_is_seen_then_unseen, unseen_at_most_one, put_ready, release_ready, still_owns, holding}
use Rattle.turn.proofs.holding.hold.Goals as goal

pub grab-requires-clause-some : goal.grab-requires-clause-some
grab-requires-clause-some g c = (_, (number_held c.args.access.now.me.0.shares c.requires.number.1 c.requires.number.2).1)

pub work-answer-requires : goal.work-answer-requires
work-answer-requires g c = subst (λ (n : ℕ). n < 16) (sym c.requires.number.0) (number_held c.args.access.now.me.0.shares c.requires.number.1 c.requires.number.2).0

pub publish-requires-clause-own : goal.publish-requires-clause-own
publish-requires-clause-own g c =
    let t = c.take-value.ensures in
    still_has g.T.Counted.by g.T.Counted.entries c.args.access.now.me c.grab.new.access.me c.take-value.new.access.me c.take-value.result c.grab.ensures.grabs c.requires.idle.0 t.value t.empty c.args.number
    (ap (has_share c.args.access.now.me.0.shares) c.requires.number.0 ∙ (number_held c.args.access.now.me.0.shares c.requires.number.1 c.requires.number.2).1)

pub publish-requires-clause-added : goal.publish-requires-clause-added
publish-requires-clause-added g c =
    let t = c.take-value.ensures in let adds = c.work-answer.ensures.added in (
      list_is_seen_then_unseen g.T.Counted.by g.T.Counted.entries c.args.access.now.me c.grab.new.access.me c.take-value.new.access.me c.take-value.result c.grab.ensures.grabs c.requires.idle.0 t.value t.empty _ _ adds,
      unseen_at_most_one g.T.Counted.by g.T.Counted.entries c.args.access.now.me c.grab.new.access.me c.take-value.new.access.me c.take-value.result c.grab.ensures.grabs c.requires.idle.0 t.value t.empty _ _ adds,
    )

pub put-requires-clause-published : goal.put-requires-clause-published
put-requires-clause-published g c =
    let t = c.take-value.ensures in
    put_ready g.T.Counted.by g.T.Counted.entries c.args.access.now.me c.grab.new.access.me c.take-value.new.access.me c.take-value.result c.grab.ensures.grabs c.requires.idle.0 t.value t.empty c.work-answer.new.value _ c.work-answer.ensures.added c.publish.new.access.me c.publish.ensures.published

pub release-requires-clause-full : goal.release-requires-clause-full
release-requires-clause-full g c =
    let t = c.take-value.ensures in
    release_ready g.T.Counted.by g.T.Counted.entries c.args.access.now.me c.grab.new.access.me c.take-value.new.access.me c.take-value.result c.grab.ensures.grabs c.requires.idle.0 t.value t.empty c.work-answer.new.value _ c.work-answer.ensures.added c.publish.new.access.me c.publish.ensures.published c.put.new.access.me c.put.ensures.full

pub returns-clause-owns : goal.returns-clause-owns
returns-clause-owns g c =
    let t = c.take-value.ensures in
    still_owns g.T.Counted.by g.T.Counted.entries c.args.access.now.me c.grab.new.access.me c.take-value.new.access.me c.take-value.result c.grab.ensures.grabs c.requires.idle.0 t.value t.empty c.work-answer.new.value _ c.work-answer.ensures.added c.publish.new.access.me c.publish.ensures.published c.put.new.access.me c.put.ensures.full c.release.new.access.me c.release.ensures.released

pub returns-clause-held : goal.returns-clause-held
returns-clause-held g c =
    let t = c.take-value.ensures in
    holding g.T.Counted.by g.T.Counted.entries c.args.access.now.me c.grab.new.access.me c.take-value.new.access.me c.take-value.result c.grab.ensures.grabs c.requires.idle.0 t.value t.empty c.work-answer.new.value _ c.work-answer.ensures.added c.publish.new.access.me c.publish.ensures.published c.put.new.access.me c.put.ensures.full c.release.new.access.me c.release.ensures.released
    (λ before after. g.W.Work.relation c.args.work.now before after c.work-answer.result c.work-answer.new.self) c.requires.number.0 c.work-answer.ensures.kept
