-- Names of branches are all different.
use Rattle.std.proofs.Common.{◌≡◌, ℕ, zero, suc, ◌+◌, ◌<◌, false, true, cond, not, nat_eq, nat_lt, List, [], ◌∷◌, length, map, slice_get, position, Option, Some, None, refl, sym, ap, subst, ◌∙◌, arith, lt-ltb}
use Rattle.std.specs.Option.{IfSome}
use Rattle.std.specs.List.{IsDistinct, AllByRecursion, position_or_len}
use Rattle.std.specs.Cmp.Lexicographic.{pointwise, nat_list_eq_equiv}
use Rattle.schedule_trie.specs.declared.trie.Trie.TheInside.{Inside}
use Rattle.branch_terms.specs.Forest.{Branch, name_of, name_in, index_of, AreNamedApart}
use Rattle.schedule_trie.specs.Trie.{forest, segment_at}
use Rattle.schedule_trie.specs.TrieFields.{names_of, trie_of}
use Rattle.schedule_trie.proofs.branches.KeyedBranches.{names_on}

-- if a name differs from each of these names, each of these differs from it
differs : (name other : List ℕ) (names : List (List ℕ)) (i : ℕ) → AllByRecursion (λ n. pointwise nat_eq name n ≡ false) names → slice_get names i ≡ Some other
    → pointwise nat_eq other name ≡ false
differs name other [] i all e = cc
differs name other (n ∷ names) zero all e =
    let same : n ≡ other = cc in
    nat_list_eq_equiv.symm other name ∙ subst (λ m. pointwise nat_eq name m ≡ false) same all.0
differs name other (n ∷ names) (suc i) all e = differs name other names i all.1 e

-- the first index of a name, in names that are all different, is its own
first_index : (name : List ℕ) (names : List (List ℕ)) (i : ℕ) → IsDistinct (pointwise nat_eq) names → slice_get names i ≡ Some name
    → (position_or_len (pointwise nat_eq name) names ≡ i) × (i < length names)
unfolding IsDistinct
first_index name [] i apart e = cc
first_index name (n ∷ names) zero apart e =
    let same : n ≡ name = cc in
    let is : pointwise nat_eq name n ≡ true = subst (λ m. pointwise nat_eq name m ≡ true) (sym same) (nat_list_eq_equiv.refl name) in
    (ap (λ b. cond (not b) (1 + position_or_len (pointwise nat_eq name) names) 0) is, omega arith)
first_index name (n ∷ names) (suc i) apart e =
    let rest = first_index name names i apart.1 e in (
      ap (λ b. cond (not b) (1 + position_or_len (pointwise nat_eq name) names) 0) (differs n name names i apart.0 e) ∙ ap (λ k. 1 + k) rest.0 ∙ omega arith,
      omega (arith, rest.1),
    )

named_apart : (names : List (List ℕ)) → IsDistinct (pointwise nat_eq) names → (i : ℕ) → IfSome (slice_get names i) (λ name. position (pointwise nat_eq name) names ≡ Some i)
named_apart names apart i = by (slice_get names i) refl
  where
    by : (o : Option (List ℕ)) → slice_get names i ≡ o → IfSome o (λ name. position (pointwise nat_eq name) names ≡ Some i)
    by None e = tt
    by (Some name) e =
        let place = first_index name names i apart e in
        ap (λ k. cond (nat_lt k (length names)) (Some k) None) place.0 ∙ ap (λ b. cond b (Some i) None) (lt-ltb i _ place.1)

-- the name of the branch at an index is found at that index
pub found_apart : (bs : List Branch) (i : ℕ) (name : List ℕ) → AreNamedApart bs → name_in bs i ≡ Some name → index_of bs name ≡ Some i
found_apart bs i name apart e = by (name_in bs i) e (apart i)
  where
    by : (o : Option (List ℕ)) → o ≡ Some name → IfSome o (λ n. index_of bs n ≡ Some i) → index_of bs name ≡ Some i
    by None h g = absurd (cc)
    by (Some n) h g = let same : n ≡ name = cc in subst (λ m. index_of bs m ≡ Some i) same g

pub branches_apart : {T : Type 0} (t : Inside T) → IsDistinct (pointwise nat_eq) (names_of t) → AreNamedApart (forest (trie_of t)).branches
branches_apart t unique =
    named_apart (map name_of (forest (trie_of t)).branches) (subst (IsDistinct (pointwise nat_eq)) (sym (names_on (segment_at (trie_of t).segments) (names_of t) t.segments.paths)) unique)
