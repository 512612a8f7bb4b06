use Rattle.std.proofs.Common.{◌+◌, ◌<◌, ◌^◌, length, get_or, sym, ap, subst, ◌∙◌, arith}
use Rattle.schedule_trie.specs.Trie.{segment_at}
use Rattle.schedule_trie.proofs.lists.ListParts.{get_or_own}
use Rattle.schedule_trie.proofs.limbs.MarkSteps.{marked_none, cells_fit, key_among, marked_more, marked_all}
use Rattle.schedule_trie.proofs.trie.Trie.mark_all.Goals as goal
use Rattle.schedule_trie.proofs.trie.Trie.mark_all.Given.{Over}

pub loop-key-init : goal.loop-key-init
loop-key-init g c = record { so_far = marked_none (segment_at c.args.self.now.segments) c.args.marks.now.items c.args.keys.now c.args.branch c.args.above }

fits : (g : Over) (c : goal.After-slots_at g) → c.loop-key.cells + length c.slots_at.result.now < 2 ^ 32
fits g c =
    let keys = c.args.keys.now in
    let key = get_or keys c.loop-key.key-index 0 in
    let fit = cells_fit (segment_at c.args.self.now.segments) c.args.marks.now.items keys c.args.branch c.args.above c.loop-key.marks.items c.loop-key.key-index c.loop-key.cells key c.loop-key-test.true
    (get_or_own keys c.loop-key.key-index 0 c.loop-key-test.true) c.loop-key.invariant.so_far.cells_are c.requires.few in
    let same = ap length c.slots_at.ensures in omega (arith, fit, same)

pub overflow_cast-cells : goal.overflow_cast-cells
overflow_cast-cells g c = let fit = fits g c in omega (arith, fit)

pub overflow_add-cells : goal.overflow_add-cells
overflow_add-cells g c = let fit = fits g c in omega (arith, fit)

pub index_mut-requires : goal.index_mut-requires
index_mut-requires g c =
    let keys = c.args.keys.now in
    let key = get_or keys c.loop-key.key-index 0 in
    let among = key_among (segment_at c.args.self.now.segments) c.args.marks.now.items keys c.args.branch c.args.above c.loop-key.marks.items c.loop-key.key-index c.loop-key.cells key c.loop-key-test.true
    (get_or_own keys c.loop-key.key-index 0 c.loop-key-test.true) in
    subst (λ n. key < n) (sym (c.loop-key.marks.ok.0 ∙ c.loop-key.invariant.so_far.count)) (c.requires.places key among)

pub loop-key-preserved : goal.loop-key-preserved
loop-key-preserved g c =
    let keys = c.args.keys.now in
    let key = get_or keys c.loop-key.key-index 0 in
    let among = key_among (segment_at c.args.self.now.segments) c.args.marks.now.items keys c.args.branch c.args.above c.loop-key.marks.items c.loop-key.key-index c.loop-key.cells key c.loop-key-test.true
    (get_or_own keys c.loop-key.key-index 0 c.loop-key-test.true) in
    record {
      so_far = marked_more (segment_at c.args.self.now.segments) c.args.marks.now.items keys c.args.branch c.args.above c.loop-key.marks.items c.loop-key.key-index c.loop-key.cells key c.loop-key-test.true
          (get_or_own keys c.loop-key.key-index 0 c.loop-key-test.true) c.requires.once (c.requires.places key among) c.loop-key.invariant.so_far (length c.slots_at.result.now) (ap length c.slots_at.ensures);
    }

pub returns : goal.returns
returns g c =
    marked_all (segment_at c.args.self.now.segments) c.args.marks.now.items c.args.keys.now c.args.branch c.args.above c.loop-key.marks.items c.loop-key.key-index c.loop-key.cells c.loop-key-test.false
    c.loop-key.invariant.so_far
