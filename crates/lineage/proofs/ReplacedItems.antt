-- Nodes with another item at a key: links, counts and paths don't change.
use Rattle.std.proofs.Common.{◌≡◌, ◌≢◌, ℕ, List, map, Option, Some, None, refl, sym, ◌∙◌, ap, arith, inl, inr, ◌⊎◌, set}
use Rattle.std.specs.Prelude.{is_some}
use Rattle.std.proofs.lemmas.Bool.{cases_eq}
use Rattle.std.proofs.lemmas.List.{get_or-set_same, get_or-set_other}
use Rattle.lineage.specs.declared.node.Node.{Node}
use Rattle.lineage.specs.Lineages.{tip_at, node, node_at, link_in, link_at, path_to, IsSoundFamily}
use Rattle.lineage.proofs.ClimbedPaths.{link_within}
use Rattle.lineage.proofs.Counts.{count_same}
use Rattle.lineage.proofs.KeptLinks.{climb_stays, path_stays, holders_alike}
use Rattle.lineage.proofs.Maps.{map_on_tips}

-- the item at a key is replaced
module _ {X : Type 0} (s : List (Option (Node X))) (tips : List (Option ℕ)) (key : ℕ) (n : Node X) (item : X) (sound : IsSoundFamily s tips) (there : node_at s key ≡ Some n) where
  abbrev other : Node X
  other = node item n.above n.holders

  abbrev now : List (Option (Node X))
  now = set s key (Some other)

  here : node_at now key ≡ Some other
  here = get_or-set_same s key (Some other) None (link_within s key n.above (ap link_in there))

  others : (k : ℕ) → k ≢ key → node_at now k ≡ node_at s k
  others k ne = get_or-set_other s key k (Some other) None ne

  same_above : (k : ℕ) → (k ≡ key) ⊎ (k ≢ key) → link_at now k ≡ link_at s k
  same_above k (inl same) = ap (link_at now) same ∙ ap link_in here ∙ sym (ap link_in there) ∙ ap (link_at s) (sym same)
  same_above k (inr ne) = ap link_in (others k ne)

  same_some : (k : ℕ) → (k ≡ key) ⊎ (k ≢ key) → is_some (node_at now k) ≡ is_some (node_at s k)
  same_some k (inl same) = ap (λ j. is_some (node_at now j)) same ∙ ap is_some here ∙ sym (ap is_some there) ∙ ap (λ j. is_some (node_at s j)) (sym same)
  same_some k (inr ne) = ap is_some (others k ne)

  was : (k : ℕ) (m : Node X) → node_at now k ≡ Some m → (k ≡ key) ⊎ (k ≢ key) → (o : Node X) × ((node_at s k ≡ Some o) × (m.holders ≡ o.holders))
  was k m e (inl same) =
      let is : Some m ≡ Some other = sym e ∙ ap (node_at now) same ∙ here in
      let node_is : m ≡ other = cc in
      (n, (ap (node_at s) same ∙ there, ap (λ (z : Node X). z.holders) node_is))
  was k m e (inr ne) = (m, (sym (others k ne) ∙ e, refl))

  keeps : (k : ℕ) (next : Option ℕ) → link_at s k ≡ Some next → link_at now k ≡ Some next
  keeps k next e = same_above k (cases_eq k key) ∙ e

  pub replaced_sound : IsSoundFamily now tips
  replaced_sound = record {
    ends = λ i. let e = sound.ends i in record { up = e.up; is = climb_stays s now keeps (tip_at tips i) e.up e.is };
    live = λ k m e.
        let w = was k m e (cases_eq k key) in
        let o = sound.live k w.0 w.1.0 in
        record { path = o.path; up = o.up; is = climb_stays s now keeps (tip_at tips o.path) o.up o.is; on = o.on };
    counted = λ k m e.
        let w = was k m e (cases_eq k key) in
        w.1.1 ∙ sound.counted k w.0 w.1.0 ∙ holders_alike s now tips k (λ j. same_above j (cases_eq j key));
    few = let a = count_same is_some refl s now (λ j. same_some j (cases_eq j key)) in let few = sound.few in omega (arith, a, few);
  }

  pub replaced_paths : map (path_to now) tips ≡ map (path_to s) tips
  replaced_paths = map_on_tips (path_to now) (path_to s) tips (λ i. path_stays s now keeps (tip_at tips i) (sound.ends i))
