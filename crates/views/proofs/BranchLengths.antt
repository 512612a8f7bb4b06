-- How long branches are.
use Rattle.std.proofs.Common.{◌≡◌, ℕ, zero, suc, ◌+◌, List, [], ◌∷◌, ◌++◌, length, take, map, slice_get, Some, refl, sym, ap, ◌∙◌, arith}
use Rattle.std.specs.Option.{option_map}
use Rattle.schedule_trie.specs.Forest.{Branch, slots_in, name_in, index_of, AreNamedApart}
use Rattle.schedule_trie.proofs.branches.NamesApart.{found_apart}
use Rattle.pages.specs.declared.page.branches.BranchLength.{BranchLength}
use Rattle.pages.specs.page.Branches.{name_and_length}

-- there is a branch at index i, with this name and this length
record IsBranchAt (branches : List Branch) (i : ℕ) (name : List ℕ) (len : ℕ) : Type 0 where
  pub here : Branch
  pub at : slice_get branches i ≡ Some here
  pub named : here.name ≡ name
  pub counted : length here.slots ≡ len

-- at an index that has a name, there is a branch with that name
branch_with_name : (branches : List Branch) (i : ℕ) (name : List ℕ) → name_in branches i ≡ Some name → (b : Branch) × (slice_get branches i ≡ Some b) × (b.name ≡ name) × (slots_in branches i ≡ b.slots)
branch_with_name [] i name e = cc
branch_with_name (b ∷ bs) zero name e = (b, refl, cc, refl)
branch_with_name (b ∷ bs) (suc i) name e = branch_with_name bs i name e

branch_at : (branches : List Branch) (i : ℕ) (name : List ℕ) (len : ℕ) → AreNamedApart branches → Some name ≡ name_in branches i
    → Some len ≡ option_map (λ j. length (slots_in branches j)) (index_of branches name) → IsBranchAt branches i name len
branch_at branches i name len apart named counts =
    let b = branch_with_name branches i name (sym named) in
    let found = found_apart branches i name apart (sym named) in
    let counted : Some len ≡ Some (length (slots_in branches i)) = counts ∙ ap (option_map (λ j. length (slots_in branches j))) found in
    let same : len ≡ length (slots_in branches i) = cc in
    record { here = b.0; at = b.1; named = b.2; counted = sym (same ∙ ap length b.3) }

abbrev branch_length : List ℕ → ℕ → BranchLength
branch_length name len = record { name = name; len = len }

pub branch_length_is : (branches : List Branch) (i : ℕ) (name : List ℕ) (len : ℕ) → AreNamedApart branches → Some name ≡ name_in branches i
    → Some len ≡ option_map (λ j. length (slots_in branches j)) (index_of branches name)
    → (b : Branch) × (slice_get branches i ≡ Some b) × (branch_length name len ≡ name_and_length b)
branch_length_is branches i name len apart named counts =
    let b = branch_at branches i name len apart named counts in
    (b.here, b.at, λ j. branch_length (sym b.named j) (sym b.counted j))

-- one more branch adds its name and length to those of the branches before it
take_more : (branches : List Branch) (i : ℕ) (b : Branch) → slice_get branches i ≡ Some b → map name_and_length (take (suc i) branches) ≡ map name_and_length (take i branches) ++ name_and_length b ∷ []
take_more [] i b e = cc
take_more (c ∷ cs) zero b e =
    let same : c ≡ b = cc in
    ap (λ d. name_and_length d ∷ []) same
take_more (c ∷ cs) (suc i) b e = ap (λ l. name_and_length c ∷ l) (take_more cs i b e)

pub lengths_more : (branches : List Branch) (i : ℕ) (old new : List BranchLength) (here : BranchLength) → old ≡ map name_and_length (take i branches) → new ≡ old ++ here ∷ []
    → (b : Branch) × (slice_get branches i ≡ Some b) × (here ≡ name_and_length b) → new ≡ map name_and_length (take (i + 1) branches)
lengths_more branches i old new here so_far h b =
    let next : suc i ≡ i + 1 = omega arith in
    h ∙ ap (λ l. l ++ here ∷ []) so_far ∙ ap (λ l. map name_and_length (take i branches) ++ l ∷ []) b.2
    ∙ sym (take_more branches i b.0 b.1) ∙ ap (λ n. map name_and_length (take n branches)) next
