use Rattle.std.proofs.Common.{◌+◌, None, length, ap, ◌∙◌, arith}
use Rattle.std.proofs.lemmas.List.{length_push}
use Rattle.schedule_trie.specs.Marks.{mark_at}
use Rattle.schedule_trie.proofs.limbs.LimbsSaved.{empty_more, no_marks_first}
use Rattle.schedule_trie.proofs.trie.Trie.no_marks.Goals as goal

pub loop-init : goal.loop-init
loop-init g c = record {
  count = ap length c.new-marks.ensures.items;
  empty = λ k. ap (λ l. mark_at l k) c.new-marks.ensures.items;
}

pub loop-preserved : goal.loop-preserved
loop-preserved g c = record {
  count = ap length c.in_ok-push.ensures.items ∙ length_push c.loop.marks.items None ∙ ap (λ n. n + 1) c.loop.invariant.count;
  empty = λ k. ap (λ l. mark_at l k) c.in_ok-push.ensures.items ∙ empty_more c.loop.marks.items c.loop.invariant.empty k;
}

pub returns : goal.returns
returns g c =
    let count = c.loop.invariant.count in
    no_marks_first c.self.inside c.args.self.now c.capacity-end.result c.loop.marks.items c.self.view_is c.capacity-end.ensures (omega (arith, count, c.loop-test.false)) c.loop.invariant.empty
