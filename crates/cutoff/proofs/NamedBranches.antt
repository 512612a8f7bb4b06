-- The named branch of a chart: its keys, its length, and a look at one of its places.
use Rattle.std.proofs.Common.{◌≡◌, ℕ, ◌≤◌, false, nat_lt, cond, length, map, Option, Some, None, Ok, Err, sym, ap, subst, ◌∙◌, arith, List}
use Rattle.std.proofs.lemmas.Bool.Decides.{nat_tests}
use Rattle.frames.specs.Behaviour.{Behaviour}
use Rattle.frames.specs.Recorded.{AllFit}
use Rattle.schedule_trie.specs.declared.refusal.Refusal.TheVariants.{NoPlace}
use Rattle.schedule_trie.specs.Forest.{Forest, slots_in, step_of, index_of, on_found}
use Rattle.schedule_trie.specs.Trie.{TrieOf, segment_at, line, forest, keys_in}
use Rattle.schedule_trie.proofs.branches.Lines.{slots_in_on}
use Rattle.cutoff.specs.Fitting.{StoredRun}
use Rattle.cutoff.specs.Charts.{StepsFit, keys_at, keys_named, looked_at, look}

-- the named branch, by its index in the order the branches were made
module _ {R P : Type 0} (b : Behaviour P) (trie : TrieOf (StoredRun R P)) (name : List ℕ) (index len : ℕ) (at : index_of (forest trie).branches name ≡ Some index)
    (long : len ≡ length (slots_in (forest trie).branches index)) where
  line_there : slots_in (forest trie).branches index ≡ line (segment_at trie.segments) (keys_in trie.branches index)
  line_there = slots_in_on (segment_at trie.segments) trie.branches index

  pub len_there : length (line (segment_at trie.segments) (keys_in trie.branches index)) ≡ len
  len_there = ap length (sym line_there) ∙ sym long

  pub fits_there : StepsFit b (forest trie) → AllFit b (map step_of (line (segment_at trie.segments) (keys_in trie.branches index)))
  fits_there fits = subst (λ l. AllFit b (map step_of l)) line_there (fits index)

  pub keys_there : keys_named trie name ≡ keys_in trie.branches index
  keys_there = ap (λ o. keys_at o trie.branches) at

  pub look_there : (place : ℕ) → place ≤ len → look (forest trie) name place ≡ Ok (forest trie)
  look_there place within =
      ap (λ o. on_found o (looked_at (forest trie) place)) at
      ∙ ap (λ t. cond t (Err NoPlace) (Ok (forest trie))) (not_short (length (slots_in (forest trie).branches index)) (sym long))
    where
      not_short : (n : ℕ) → n ≡ len → nat_lt n place ≡ false
      not_short n e = grind (arith, nat_tests)

-- a branch that has a place to look at is there
pub look_found : (f g : Forest) (name : List ℕ) (place : ℕ) → look f name place ≡ Ok g → ◌≡◌ {A = Option ℕ} None (index_of f.branches name) → ⊥
look_found f g name place ok none = let e : on_found None (looked_at f place) ≡ Ok g = ap (λ o. on_found o (looked_at f place)) none ∙ ok in cc
