use Rattle.std.proofs.Common.{◌++◌, ap, ◌∙◌}
use Rattle.words.proofs.Pushed.{texts_more}
use Rattle.tower_file.specs.Spelling.{text_with_end, tower_text}
use Rattle.tower_file.specs.BenchSpelling.{bench_header, limb_text}
use Rattle.tower_file.proofs.bench_writing.print_bench.Goals as goal

pub loop-limb-preserved : goal.loop-limb-preserved
loop-limb-preserved c =
    let front = text_with_end bench_header ++ text_with_end (tower_text c.args.file.now.tower) in
    texts_more limb_text c.as_slice-limb-items.result.now c.loop-limb.limb-index _ front c.loop-limb.out.items c.push_limb.new.out.items c.loop-limb-test.true c.loop-limb.invariant
    (c.in_ok-push_limb.ensures ∙ ap (λ l. c.loop-limb.out.items ++ limb_text l) c.limb-item.is)
