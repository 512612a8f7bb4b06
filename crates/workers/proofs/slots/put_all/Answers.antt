use Rattle.std.proofs.Common.{◌≡◌, length, sym, ap, ◌∙◌, arith, length-set}
use Rattle.std.proofs.lemmas.List.{nil_from_length}
use Rattle.std.specs.Vec.Iter.{into_iter_items}
use Rattle.workers.specs.Slots.{with_all}
use Rattle.workers.proofs.FilledSlots.{ran_within, ran_later}
use Rattle.workers.proofs.slots.put_all.Goals as goal

pub put-requires : goal.put-requires
put-requires g c = ran_within _ _ _ c.in-Some.taken c.in-Some.ensures.steps.0 c.loop-taken.invariant.within

pub loop-taken-preserved : goal.loop-taken-preserved
loop-taken-preserved g c =
    let at = c.loop-taken in
    let rest = into_iter_items c.next.new.self in
    let steps = c.in-Some.ensures.steps in
    record {
      later = ap (λ s. with_all s rest) c.put.ensures ∙ ap (with_all at.slots.items) (sym steps.0) ∙ at.invariant.later;
      within = ran_later _ _ _ rest c.in-Some.taken steps.0 (ap length c.put.ensures ∙ length-set at.slots.items _ _) at.invariant.within;
      len = let was = at.invariant.len in let gone = steps.1 in let short = ap length steps.0 in omega arith;
    }

pub returns : goal.returns
returns g c =
    let at = c.loop-taken in
    let none = nil_from_length (into_iter_items at.taken-iterator) (sym at.invariant.len ∙ c.in-None.ensures.steps.0) in
    let all : into_iter_items c.into_iter-taken-iterator.result ≡ c.args.ran.items = c.into_iter-taken-iterator.ensures.into_iter_gives.0 in
    ap (with_all at.slots.items) (sym none) ∙ at.invariant.later ∙ ap (with_all c.args.slots.now.items) all
