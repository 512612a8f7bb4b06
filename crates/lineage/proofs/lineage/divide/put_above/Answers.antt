use Rattle.std.proofs.Common.{◌≡◌, ◌≢◌, ℕ, Some, None, sym, ◌∙◌, ap, subst, refl, arith, true≢false}
use Rattle.std.specs.Prelude.{is_some, IsSome}
use Rattle.slab.specs.Slab.{Slab, get, slab_len, with_value, ContainsKey, Updates}
use Rattle.slab.proofs.SlabLemmas.{Updates-with_value}
use Rattle.lineage.specs.declared.node.Node.{Node}
use Rattle.lineage.specs.Lineages.{node, node_over, node_under}
use Rattle.lineage.proofs.Counts.{one_if, count_changed}
use Rattle.lineage.proofs.lineage.divide.put_above.Goals as goal

-- a new node is put at `fresh`, and then n replaces the node at `key`; `old` is the slab before,
-- and `mid` the slab between the two changes
module _ {X : Type 0} (old mid : Slab (Node X)) (key fresh : ℕ) (o n : Node X) (there : ContainsKey old key) (vacant : get old fresh ≡ None)
    (updates : Updates old mid fresh (Some o)) where
  apart : key ≢ fresh
  apart same = true≢false (sym there ∙ ap is_some (ap (get old) same ∙ vacant))

  kept : get mid key ≡ get old key
  kept = updates.others key apart

  within : ContainsKey mid key
  within = subst IsSome (sym kept) there

  written : Updates mid (with_value mid key n) key (Some n)
  written = Updates-with_value mid key n within

  others_stay : (k : ℕ) → k ≢ key → k ≢ fresh → get (with_value mid key n) k ≡ get old k
  others_stay k ne nf = written.others k ne ∙ updates.others k nf

  new_there : get (with_value mid key n) fresh ≡ Some o
  new_there = written.others fresh (λ same. apart (sym same)) ∙ updates.changed

  same_len : slab_len (with_value mid key n) ≡ slab_len mid
  same_len =
      let e = count_changed is_some refl key mid.slots (with_value mid key n).slots (λ j ne. ap is_some (written.others j ne)) in
      let before = ap one_if within in
      let after = ap one_if (ap is_some written.changed) in
      omega (arith, e, before, after)

pub returns-clause-fresh : goal.returns-clause-fresh
returns-clause-fresh g c =
    let put = c.insert_reserved-fresh in
    new_there c.args.nodes.now put.new.self c.args.key put.result _ _ c.requires.there put.ensures.was_vacant
    put.ensures.updates
    ∙ sym (ap (node_over c.args.item) c.index.ensures)

pub returns-clause-below : goal.returns-clause-below
returns-clause-below g c =
    let put = c.insert_reserved-fresh in
    let m = c.index_mut.result.now in
    let same = kept c.args.nodes.now put.new.self c.args.key put.result _ m c.requires.there put.ensures.was_vacant put.ensures.updates in
    (written c.args.nodes.now put.new.self c.args.key put.result _ (node m.item c.of.result m.holders) c.requires.there
    put.ensures.was_vacant put.ensures.updates).changed
    ∙ ap (λ a. Some (node m.item a m.holders)) c.of.ensures ∙ sym (ap (node_under put.result) (sym same ∙ c.index_mut.ensures.value))

pub returns-clause-others : goal.returns-clause-others
returns-clause-others g c =
    let put = c.insert_reserved-fresh in
    others_stay c.args.nodes.now put.new.self c.args.key put.result _ _ c.requires.there
    put.ensures.was_vacant put.ensures.updates

pub returns-clause-len : goal.returns-clause-len
returns-clause-len g c =
    let put = c.insert_reserved-fresh in
    same_len c.args.nodes.now put.new.self c.args.key put.result _ _ c.requires.there
    put.ensures.was_vacant put.ensures.updates
    ∙ put.ensures.len
