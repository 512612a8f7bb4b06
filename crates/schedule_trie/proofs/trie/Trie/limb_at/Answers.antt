use Rattle.std.proofs.Common.{◌≡◌, ◌+◌, ◌<◌, length, map, Some, true, sym, ap, subst, ◌∙◌}
use Rattle.branch_terms.specs.Forest.{step_of}
use Rattle.schedule_trie.specs.Trie.{has, keys_in, line, segment_at, Once}
use Rattle.schedule_trie.specs.Marks.{AreMarked, IsOwnPart}
use Rattle.schedule_trie.proofs.limbs.LimbFromMarks.{own_once, own_places, own_few, is_limb, marks_next}
use Rattle.schedule_trie.proofs.trie.Trie.limb_at.Goals as goal

pub mark_all-requires-clause-places : goal.mark_all-requires-clause-places
mark_all-requires-clause-places g c k h =
    own_places c.args.self.now c.own_keys.ensures.whole c.args.index c.args.marks.now.items c.requires.marks c.in_ok-stem.stem c.in_ok-stem.own.items
    (subst (λ l. IsOwnPart l (keys_in c.args.self.now.branches c.args.index) c.in_ok-stem.stem c.in_ok-stem.own.items) c.deref.ensures.value c.in_ok-stem.ensures.own) k
    (subst (λ l. has k l ≡ true) c.deref-3.ensures.value h)

pub mark_all-requires-clause-once : goal.mark_all-requires-clause-once
mark_all-requires-clause-once g c =
    subst Once (sym c.deref-3.ensures.value)
    (own_once c.args.self.now c.own_keys.ensures.whole c.args.index c.args.marks.now.items c.requires.marks c.in_ok-stem.stem c.in_ok-stem.own.items
    (subst (λ l. IsOwnPart l (keys_in c.args.self.now.branches c.args.index) c.in_ok-stem.stem c.in_ok-stem.own.items) c.deref.ensures.value c.in_ok-stem.ensures.own))

pub mark_all-requires-clause-few : goal.mark_all-requires-clause-few
mark_all-requires-clause-few g c =
    subst (λ l. c.in_ok-stem.stem.cells + length (line (segment_at c.args.self.now.segments) l) < 4294967296) (sym c.deref-3.ensures.value)
    (own_few c.args.self.now c.own_keys.ensures.whole c.args.index c.args.marks.now.items c.requires.marks c.in_ok-stem.stem c.in_ok-stem.own.items
    (subst (λ l. IsOwnPart l (keys_in c.args.self.now.branches c.args.index) c.in_ok-stem.stem c.in_ok-stem.own.items) c.deref.ensures.value c.in_ok-stem.ensures.own))

pub returns-clause-limb : goal.returns-clause-limb
returns-clause-limb g c =
    let at = segment_at c.args.self.now.segments in
    let steps = c.new.ensures ∙ c.in_ok-steps.ensures ∙ ap (λ l. map step_of (line at l)) c.deref-2.ensures.value in
    is_limb c.args.self.now c.own_keys.ensures.whole c.args.index c.args.marks.now.items c.requires.marks c.in_ok-stem.stem c.in_ok-stem.own.items
    (subst (λ l. IsOwnPart l (keys_in c.args.self.now.branches c.args.index) c.in_ok-stem.stem c.in_ok-stem.own.items) c.deref.ensures.value c.in_ok-stem.ensures.own)
    c.args.name c.requires.name
    ∙ ap (λ s. Some (record { name = c.args.name; from = c.in_ok-stem.stem.branch; shared = c.in_ok-stem.stem.cells; steps = s })) (sym steps)

pub returns-clause-marks : goal.returns-clause-marks
returns-clause-marks g c =
    let at = segment_at c.args.self.now.segments in
    marks_next c.args.self.now c.own_keys.ensures.whole c.args.index c.args.marks.now.items c.requires.marks c.in_ok-stem.stem c.in_ok-stem.own.items
    (subst (λ l. IsOwnPart l (keys_in c.args.self.now.branches c.args.index) c.in_ok-stem.stem c.in_ok-stem.own.items) c.deref.ensures.value c.in_ok-stem.ensures.own)
    c.mark_all.new.marks.items
    (subst (λ l. AreMarked at c.args.marks.now.items c.mark_all.new.marks.items l c.args.index c.in_ok-stem.stem.cells) c.deref-3.ensures.value c.mark_all.ensures)
