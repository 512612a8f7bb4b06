use Rattle.std.proofs.Common.{rules, ◌<◌, ◌-◌, slice_set, ap, ◌∙◌, arith}
use Rattle.tower_file.proofs.BenchLimbs.{put_step_by_index}
use Rattle.tower_file.proofs.LimbNames.{same_names}
use Rattle.tower_file.proofs.limbs.put_step.Goals as goal

pub returns-in_ok-push-clause-put : goal.returns-in_ok-push-clause-put
returns-in_ok-push-clause-put c =
    let limbs = c.args.limbs.now.items in
    let limb = c.in-Some.limb.now in
    let some : 0 < c.args.limbs.now.len = search rules in
    let last = c.args.limbs.now.len - 1 in
    ap (λ ss. slice_set limbs last (record { name = limb.name; from = limb.from; shared = limb.shared; steps = ss })) c.in_ok-push.ensures.pushed
    ∙ put_step_by_index limbs last limb c.args.step (omega arith) c.in-Some.ensures.value

pub returns-in_ok-push-clause-names : goal.returns-in_ok-push-clause-names
returns-in_ok-push-clause-names c =
    let some : 0 < c.args.limbs.now.len = search rules in
    same_names c.args.limbs.now.items (c.args.limbs.now.len - 1) c.in-Some.limb.now c.push.new.self (omega arith) c.in-Some.ensures.value
