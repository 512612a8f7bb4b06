use Rattle.std.proofs.Common.{ap, arith}
use Rattle.schedule_trie.proofs.lists.ListParts.{get_or_own}
use Rattle.schedule_trie.proofs.edits.PushedAll.{pushed_none, pushed_more}
use Rattle.schedule_trie.proofs.trie.Trie.push_all.Goals as goal

pub loop-step-init : goal.loop-step-init
loop-step-init g c = record { pushed = pushed_none c.args.self.now c.args.index; made = omega arith; inside = c.requires.index; room = c.requires.room }

pub push_last-requires-clause-index : goal.push_last-requires-clause-index
push_last-requires-clause-index g c =
    let i = c.loop-step.invariant in omega (arith, i.pushed.count, i.inside)

pub push_last-requires-clause-room : goal.push_last-requires-clause-room
push_last-requires-clause-room g c =
    let i = c.loop-step.invariant in
    let limits = ap (λ l. l.cells) i.pushed.limits in omega (arith, i.made, i.room, limits)

pub loop-step-preserved : goal.loop-step-preserved
loop-step-preserved g c =
    let i = c.loop-step.invariant in
    let p = c.in_ok-push_last.ensures.ok in
    record {
      pushed = pushed_more c.args.self.now c.loop-step.self c.push_last.new.self c.args.index c.args.steps.now c.loop-step.step-index _ (omega arith)
          (get_or_own c.args.steps.now c.loop-step.step-index _ (omega arith)) i.pushed p;
      made = let m = p.made in let n = i.made in omega arith;
      inside = i.inside;
      room = i.room;
    }
