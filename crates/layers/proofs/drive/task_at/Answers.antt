use Rattle.std.proofs.Common.{◌≡◌, true, false, sym, ap, subst, ◌∙◌}
use Rattle.layers.proofs.drive.task_at.Goals as goal
use Rattle.layers.proofs.drive.task_at.Goals.{else-may_be_at-via-then-may_be_at+else-is, else-may_be_at-via-else-may_be_at}

pub returns-else-may_be_at : goal.returns-else-may_be_at
returns-else-may_be_at g c o task on e =
    let t = g.L.Rules.table c.args.layer.now in
    let MayBeAt = g.L.Construction.MayBeAt c.args.layer.now c.args.who in
    let by_frame = (g.met.L.Construction.sound c.args.layer.now).frame_gives c.args.who o task on in
    let found : c.find-task.result ≡ task = c.find-task.ensures ∙ ap (t.find c.args.who) (sym e) ∙ by_frame.0 in
    let op : o ≡ c.args.frame.op = sym by_frame.1 ∙ ap (λ f. f.op) e in
    let no : false ≡ true = elim c.else-may_be_at.branch [
      | else-may_be_at-via-then-may_be_at+else-is w ↦
          sym w.if-is.false ∙ w.is.ensures.1 (w.frame.ensures ∙ ap t.frame found ∙ e)
      | else-may_be_at-via-else-may_be_at w ↦
          let here = subst (λ o. MayBeAt o c.find-task.result) op (subst (MayBeAt o) (sym found) on) in
          sym w.if-may_be_at.false ∙ c.may_be_at.ensures.1 here
    ] in
    cc
