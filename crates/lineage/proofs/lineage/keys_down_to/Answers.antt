use Rattle.std.proofs.Common.{ℕ, ◌<◌, List, [], ◌∷◌, ◌++◌, length, subst, sym, ◌∙◌, ap}
use Rattle.std.proofs.lemmas.List.{append_assoc}
use Rattle.lineage.specs.Climbs.{Ends}
use Rattle.lineage.specs.Lineages.{link_at, keys_up}
use Rattle.lineage.proofs.ClimbedPaths.{steps_up, no_climb_from_vacant}
use Rattle.lineage.proofs.lineage.keys_down_to.Goals as goal

pub loop-at-smaller-in-Some-get : goal.loop-at-smaller-in-Some-get
loop-at-smaller-in-Some-get g c =
    subst (λ o. length (keys_up c.args.nodes.now.slots o) < length (keys_up c.args.nodes.now.slots c.loop-at.at)) (sym c.get-at.ensures)
    (steps_up c.args.nodes.now.slots c.loop-at.at c.in-Some.key c.in-Some-get.node.now c.loop-at.invariant.ends c.in-Some.is (sym c.in-Some-get.ensures)).shorter

pub loop-at-preserved-in-Some-get : goal.loop-at-preserved-in-Some-get
loop-at-preserved-in-Some-get g c =
    let s = c.args.nodes.now.slots in
    let u = steps_up s c.loop-at.at c.in-Some.key c.in-Some-get.node.now c.loop-at.invariant.ends c.in-Some.is (sym c.in-Some-get.ensures) in
    let rest = keys_up s c.get-at.result in
    record {
      ends = subst (Ends (link_at s)) (sym c.get-at.ensures) u.ends;
      so_far = ap (λ (x : List ℕ). x ++ rest) c.in_ok-push.ensures.items
          ∙ append_assoc c.loop-at.keys.items (c.in-Some.key ∷ []) rest
          ∙ ap (λ (x : List ℕ). c.loop-at.keys.items ++ x) (ap (λ o. c.in-Some.key ∷ keys_up s o) c.get-at.ensures ∙ sym (u.keys c.in-Some.key c.in-Some.is))
          ∙ c.loop-at.invariant.so_far;
    }

pub loop-at-smaller : goal.loop-at-smaller
loop-at-smaller g c = absurd (no_climb_from_vacant c.args.nodes.now.slots c.loop-at.at c.in-Some.key c.loop-at.invariant.ends c.in-Some.is (sym c.in-None.ensures))

pub loop-at-preserved : goal.loop-at-preserved
loop-at-preserved g c = absurd (no_climb_from_vacant c.args.nodes.now.slots c.loop-at.at c.in-Some.key c.loop-at.invariant.ends c.in-Some.is (sym c.in-None.ensures))
