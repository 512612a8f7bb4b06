use Rattle.std.proofs.Common.{true, slice_set, ◌<◌, length, sym, ap, subst, ◌∙◌, arith}
use Rattle.std.proofs.lemmas.List.{length-map, with_items_is}
use Rattle.frames.specs.declared.types.Event.TheVariants.{Stop}
use Rattle.frames.specs.StoredConfiguration.{IsFlat, stacked_configuration, stacks_of, marks_of}
use Rattle.frames.proofs.Stepped.{marked_flat, mark_gives_effect}
use Rattle.frames.proofs.config.Config.stop.Goals as goal

pub mark_stopped-requires : goal.mark_stopped-requires
mark_stopped-requires g c =
    let ps = c.self.inside.processes.items in
    let lt = subst (λ x. c.args.who < (g.R.Behaves.behaviour x.register).processes) (sym c.self.view_is) c.requires in
    let size = length-map ps (λ p. p.stopped) in
    omega (arith, lt, c.self.invariant.configuration.each_mark, size, ap length c.deref_mut.ensures.value)

pub invariant_of-self : goal.invariant_of-self
invariant_of-self g c =
    let t = c.self.inside in
    let r = t.register in
    let marked = c.mark_stopped.new.processes in
    let lt = subst (λ x. c.args.who < (g.R.Behaves.behaviour x.register).processes) (sym c.self.view_is) c.requires in
    subst (λ ps. IsFlat (g.R.Behaves.behaviour r) (g.R.Register.Holds r) (g.R.Register.Reaches r)
    (stacked_configuration (g.R.Register.point r) r t.store (stacks_of ps) (marks_of ps)) (stacks_of ps))
    (sym (with_items_is t.processes marked (c.mark_stopped.auto.processes ∙ c.deref_mut.ensures.len)))
    (marked_flat (g.met.R.Register.lawful r) (g.met.R.Register.reports r) t.processes.items c.self.invariant
    c.args.who lt marked
    (c.mark_stopped.ensures.stacks ∙ ap stacks_of c.deref_mut.ensures.value)
    (c.mark_stopped.ensures.marks ∙ ap (λ ps. slice_set (marks_of ps) c.args.who true) c.deref_mut.ensures.value))

pub returns : goal.returns
returns g c =
    let t = c.self.inside in
    let r = t.register in
    let marked = c.mark_stopped.new.processes in
    let lt = subst (λ x. c.args.who < (g.R.Behaves.behaviour x.register).processes) (sym c.self.view_is) c.requires in
    rw (← c.self.view_is)
    (record {
      events = c.one_event.ensures;
      after = ap (λ ps. stacked_configuration (g.R.Register.point r) r t.store (stacks_of ps) (marks_of ps))
          (with_items_is t.processes marked (c.mark_stopped.auto.processes ∙ c.deref_mut.ensures.len))
          ∙ mark_gives_effect (g.met.R.Register.lawful r) (g.met.R.Register.reports r) t.processes.items c.self.invariant
          c.args.who lt (Stop c.args.who) marked
          (c.mark_stopped.ensures.stacks ∙ ap stacks_of c.deref_mut.ensures.value)
          (c.mark_stopped.ensures.marks ∙ ap (λ ps. slice_set (marks_of ps) c.args.who true) c.deref_mut.ensures.value);
    })
