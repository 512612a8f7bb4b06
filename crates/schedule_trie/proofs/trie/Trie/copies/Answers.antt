use Rattle.std.proofs.Common.{◌≡◌, ◌+◌, ◌≤◌, length, ap, sym, ◌∙◌, [], subst, slice_index_or, arith}
use Rattle.std.proofs.lemmas.Result.{IfOk-from_err}
use Rattle.branch_terms.specs.Forest.{renumbered}
use Rattle.schedule_trie.specs.Trie.{segment_at, line, slots_of}
use Rattle.schedule_trie.specs.changes.Detaches.{AreCopies}
use Rattle.schedule_trie.proofs.branches.Lines.{slots_in_on}
use Rattle.schedule_trie.proofs.detaches.Renumbered.{copies_more, copies_all, cell_after, cell_below, cell_fits}
use Rattle.schedule_trie.proofs.trie.Trie.copies.Goals as goal
use Rattle.branch_terms.specs.declared.limits.TheConstants.{MOST_CELLS_MADE}

pub loop-key-init : goal.loop-key-init
loop-key-init g c =
    let now = c.args.self.now in
    let at = segment_at now.segments in
    let made : c.self.inside.made ≡ now.made = ap (λ z. z.made) c.self.view_is in
    let most : now.limits.cells ≤ MOST_CELLS_MADE = subst (λ z. z.limits.cells ≤ MOST_CELLS_MADE) c.self.view_is c.self.invariant.held.whole.within.most_cells in
    let len = ap length (slots_in_on at now.branches c.args.index ∙ ap (line at) (sym (c.deref-key-items.ensures.value ∙ c.in_ok-keys.ensures.keys))) in
    record {
      copies = subst (AreCopies at now.made []) (sym c.in_ok-copies.ensures.items) tt;
      cell = omega arith;
      rest = ap (λ n. n + length (line at c.deref-key-items.result.now)) made;
      fits = omega (arith, c.requires);
      keys = (c.deref-key-items.ensures.value ∙ c.in_ok-keys.ensures.keys);
    }

pub renumbered-requires : goal.renumbered-requires
renumbered-requires g c =
    let fits = cell_fits (segment_at c.args.self.now.segments) c.args.self.now.made c.deref-key-items.result.now c.loop-key.key-index c.loop-key.cell c.loop-key-test.true
    c.slots_at-slots.result.now MOST_CELLS_MADE c.slots_at-slots.ensures c.loop-key.invariant.rest c.loop-key.invariant.fits in
    omega (arith, fits)

pub overflow_cast-cell : goal.overflow_cast-cell
overflow_cast-cell g c =
    let fits = cell_fits (segment_at c.args.self.now.segments) c.args.self.now.made c.deref-key-items.result.now c.loop-key.key-index c.loop-key.cell c.loop-key-test.true
    c.slots_at-slots.result.now MOST_CELLS_MADE c.slots_at-slots.ensures c.loop-key.invariant.rest c.loop-key.invariant.fits in
    omega (arith, fits)

pub overflow_add-cell : goal.overflow_add-cell
overflow_add-cell g c =
    let fits = cell_fits (segment_at c.args.self.now.segments) c.args.self.now.made c.deref-key-items.result.now c.loop-key.key-index c.loop-key.cell c.loop-key-test.true
    c.slots_at-slots.result.now MOST_CELLS_MADE c.slots_at-slots.ensures c.loop-key.invariant.rest c.loop-key.invariant.fits in
    omega (arith, fits)

pub loop-key-preserved : goal.loop-key-preserved
loop-key-preserved g c =
    let now = c.args.self.now in
    let at = segment_at now.segments in
    let keys = c.deref-key-items.result.now in
    let i = c.loop-key.key-index in
    let was = c.loop-key.invariant in
    let len : length (slots_of (at (slice_index_or keys i 0))) ≡ length c.slots_at-slots.result.now = sym (ap length c.slots_at-slots.ensures) in
    record {
      copies = copies_more at now.made keys i c.loop-key.cell (omega arith) c.loop-key.copies.items c.push.new.self.items c.in_ok-renumbered.field-0 was.copies was.cell
          (c.in_ok-renumbered.ensures.slots ∙ ap (renumbered c.loop-key.cell) c.slots_at-slots.ensures) c.in_ok-renumbered.ensures.note c.in_ok-push.ensures.items;
      cell = let next = cell_after at now.made keys i c.loop-key.cell (omega arith) was.cell in omega arith;
      rest = let next = cell_below at now.made keys i c.loop-key.cell (omega arith) was.rest in omega arith;
      fits = was.fits;
      keys = was.keys;
    }

pub returns-in_err-renumbered : goal.returns-in_err-renumbered
returns-in_err-renumbered g c = IfOk-from_err _ _ c.from_residual-in_err-renumbered.ensures.0

pub returns-in_err-push : goal.returns-in_err-push
returns-in_err-push g c = IfOk-from_err _ _ c.from_residual-in_err-push.ensures.0

pub returns : goal.returns
returns g c =
    let now = c.args.self.now in
    let was = c.loop-key.invariant in
    subst (λ keys. AreCopies (segment_at now.segments) now.made keys c.loop-key.copies.items) was.keys
    (copies_all (segment_at now.segments) now.made c.deref-key-items.result.now c.loop-key.key-index c.loop-key.copies.items
    c.loop-key-test.false was.copies)
