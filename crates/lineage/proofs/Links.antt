-- What a link to a key, or a node's link, says.
use Rattle.std.proofs.Common.{◌≡◌, ℕ, true, Option, Some, None, refl, sym, ap}
use Rattle.std.proofs.lemmas.Bool.{eqb-true}
use Rattle.lineage.specs.declared.node.Node.{Node}
use Rattle.lineage.specs.Lineages.{is_key, is_above, link_in}

pub is_key_true : (k : ℕ) (o : Option ℕ) → is_key k o ≡ true → o ≡ Some k
is_key_true k None h = absurd (cc)
is_key_true k (Some j) h = ap Some (sym (eqb-true k j h))

pub is_above_true : (k : ℕ) (o : Option (Option ℕ)) → is_above k o ≡ true → o ≡ Some (Some k)
is_above_true k None h = absurd (cc)
is_above_true k (Some next) h = ap Some (is_key_true k next h)

-- what has a link is a node
pub node_from : {X : Type 0} (o : Option (Node X)) (next : Option ℕ) → link_in o ≡ Some next → (n : Node X) × ((o ≡ Some n) × (n.above ≡ next))
node_from None next h = absurd (cc)
node_from (Some n) next h = (n, (refl, (let e : Some n.above ≡ Some next = h in cc)))
