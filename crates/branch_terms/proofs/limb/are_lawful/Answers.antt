use Rattle.std.proofs.Common.{refl, sym, ◌∙◌}
use Rattle.branch_terms.proofs.JudgedLimbs.{rest_decides, unlawful_limb_decides, all_lawful}
use Rattle.branch_terms.proofs.limb.are_lawful.Goals as goal

pub loop-index-init : goal.loop-index-init
loop-index-init c = refl

pub returns-then-not-may_follow : goal.returns-then-not-may_follow
returns-then-not-may_follow c =
    unlawful_limb_decides c.args.limbs.now c.loop-index.index c.index-limbs-index.result c.loop-index-test.true (sym c.index-limbs-index.is) c.loop-index.invariant
    (sym c.may_follow.ensures ∙ c.if-not-may_follow.true)

pub loop-index-preserved : goal.loop-index-preserved
loop-index-preserved c =
    rest_decides c.args.limbs.now c.loop-index.index c.index-limbs-index.result c.loop-index-test.true (sym c.index-limbs-index.is) c.loop-index.invariant
    (sym c.may_follow.ensures ∙ c.if-not-may_follow.false)

pub returns : goal.returns
returns c = all_lawful c.args.limbs.now c.loop-index.index c.loop-index-test.false c.loop-index.invariant
