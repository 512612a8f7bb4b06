use Rattle.lineage.proofs.Skips.{skipped_more, skipped_later}
use Rattle.lineage.proofs.lineage.take_out.skip_in_nodes.Goals as goal

pub loop-place-preserved : goal.loop-place-preserved
loop-place-preserved g c = record {
  done = skipped_more c.args.nodes.now.slots c.loop-place.nodes.slots c.skip_at.new.nodes.slots c.loop-place.place c.args.key c.args.above c.loop-place.invariant.done c.loop-place.invariant.later
      c.skip_at.ensures.here c.skip_at.ensures.others;
  later = skipped_later c.args.nodes.now.slots c.loop-place.nodes.slots c.skip_at.new.nodes.slots c.loop-place.place c.loop-place.invariant.later c.skip_at.ensures.others;
}
