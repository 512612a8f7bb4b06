use Rattle.std.proofs.Common.{◌<◌, length, refl, sym, ap, subst, arith}
use Rattle.schedule_trie.specs.Trie.{segment_at, slots_of}
use Rattle.schedule_trie.proofs.edits.PushSteps.{is_own_end}
use Rattle.schedule_trie.proofs.trie.Trie.own_end.Goals as goal

pub returns : goal.returns
returns g c =
    let t = c.self.inside in
    let len = ap length c.slots_at.ensures in
    let few : length (slots_of (segment_at c.args.self.now.segments c.in_ok-key.key)) < 128 = omega (arith, len) in
    rw (← c.self.view_is) (is_own_end t c.args.index c.in_ok-key.key c.self.invariant.held (sym c.in_ok-key.ensures) (c.if-not-ends_alone.ensures.yes refl)
    (subst (λ z. length (slots_of (segment_at z.segments c.in_ok-key.key)) < 128) (sym c.self.view_is) few))
