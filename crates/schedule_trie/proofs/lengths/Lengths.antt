-- Lengths cached with branches.
use Rattle.std.proofs.Common.{◌≡◌, ℕ, zero, suc, Bool, List, [], ◌∷◌, ◌++◌, length, Option, Some, None, slice_get, refl, sym, ap, subst, ◌∙◌, arith}
use Rattle.std.specs.Option.{IfSome}
use Rattle.std.specs.List.{remove}
use Rattle.std.specs.Map.{keys_of}
use Rattle.indexmap.specs.IndexMap.{insert_entry, set_value_at}
use Rattle.branch_terms.specs.declared.slot.Slot.{Slot}
use Rattle.schedule_trie.specs.declared.trie.Trie.TheInside.{Inside}
use Rattle.branch_terms.specs.Forest.{Branch, everywhere, only_in, slots_in}
use Rattle.schedule_trie.specs.Trie.{IsWhole}
use Rattle.schedule_trie.specs.TrieFields.{segments_of, keyed_branches, names_of, trie_of, AreLengths, IsWholeWithPaths}
use Rattle.schedule_trie.specs.NamedLengths.{cached_in}

-- a cached length, if there is one, is the given one
abbrev IsRight : Option ℕ → ℕ → Type 0
IsRight kept len = IfSome kept (λ n. n ≡ len)

-- no contract sees cached lengths
module _ {T : Type 0} (t u : Inside T) (names : names_of u ≡ names_of t) (segments : u.segments ≡ t.segments) (made : u.made ≡ t.made) (limits : u.limits ≡ t.limits) where
  pub relength_seen : trie_of u ≡ trie_of t
  relength_seen = λ i. record { branches = keyed_branches (names i) (segments i).paths; segments = segments_of (segments i).items; made = made i; limits = limits i }

  pub relength_held : IsWholeWithPaths t → IsWholeWithPaths u
  relength_held held = record { whole = subst IsWhole (sym relength_seen) held.whole; paths = ap (λ s. length s.paths) segments ∙ held.paths ∙ sym (ap length names) }

pub names_set : {V : Type 0} (entries : List (List ℕ × V)) (index : ℕ) (len : V) → keys_of (set_value_at entries index len) ≡ keys_of entries
names_set [] index len = refl
names_set (e ∷ es) zero len = refl
names_set (e ∷ es) (suc index) len = ap (λ l. e.0 ∷ l) (names_set es index len)

pub count_set : {V : Type 0} (entries : List (List ℕ × V)) (index : ℕ) (len : V) → length (set_value_at entries index len) ≡ length entries
count_set [] index len = refl
count_set (e ∷ es) zero len = refl
count_set (e ∷ es) (suc index) len = ap suc (count_set es index len)

pub cached_is : (entries : List (List ℕ × Option ℕ)) (branches : List Branch) (index len : ℕ) → AreLengths entries branches → Some len ≡ cached_in (slice_get entries index)
    → len ≡ length (slots_in branches index)
cached_is entries branches index len h e = subst (λ o. IsRight o (length (slots_in branches index))) (sym e) (h index)

-- `AreLengths` holds if no length is cached
pub none_cached : (entries : List (List ℕ × Option ℕ)) (branches : List Branch) → ((i : ℕ) → cached_in (slice_get entries i) ≡ None) → AreLengths entries branches
none_cached entries branches none i = subst (λ o. IsRight o (length (slots_in branches i))) (sym (none i)) tt

-- cached lengths stay right if no branch's length changes
pub same_lengths : (entries : List (List ℕ × Option ℕ)) (old new : List Branch) → ((i : ℕ) → length (slots_in new i) ≡ length (slots_in old i)) → AreLengths entries old → AreLengths entries new
same_lengths entries old new same h i = subst (λ n. IsRight (cached_in (slice_get entries i)) n) (sym (same i)) (h i)

pub length-everywhere : (g : List Slot → List Slot) → ((slots : List Slot) → length (g slots) ≡ length slots) → (branches : List Branch) (i : ℕ)
    → length (slots_in (everywhere g branches) i) ≡ length (slots_in branches i)
length-everywhere g same [] i = refl
length-everywhere g same (b ∷ bs) zero = same b.slots
length-everywhere g same (b ∷ bs) (suc i) = length-everywhere g same bs i

pub length-only_in : (g : List Slot → List Slot) → ((slots : List Slot) → length (g slots) ≡ length slots) → (branches : List Branch) (index i : ℕ)
    → length (slots_in (only_in index g branches) i) ≡ length (slots_in branches i)
length-only_in g same [] index i = refl
length-only_in g same (b ∷ bs) zero zero = same b.slots
length-only_in g same (b ∷ bs) zero (suc i) = refl
length-only_in g same (b ∷ bs) (suc index) zero = refl
length-only_in g same (b ∷ bs) (suc index) (suc i) = length-only_in g same bs index i

-- cached lengths stay right when the length of the branch at an index is cached
pub one_cached : (entries : List (List ℕ × Option ℕ)) (branches : List Branch) (index len : ℕ) → len ≡ length (slots_in branches index) → AreLengths entries branches
    → AreLengths (set_value_at entries index (Some len)) branches
one_cached [] bs index len e h i = h i
one_cached (x ∷ xs) [] zero len e h zero = e
one_cached (x ∷ xs) [] zero len e h (suc i) = h (suc i)
one_cached (x ∷ xs) [] (suc index) len e h zero = h 0
one_cached (x ∷ xs) [] (suc index) len e h (suc i) = one_cached xs [] index len e (λ j. h (suc j)) i
one_cached (x ∷ xs) (b ∷ bs) zero len e h zero = e
one_cached (x ∷ xs) (b ∷ bs) zero len e h (suc i) = h (suc i)
one_cached (x ∷ xs) (b ∷ bs) (suc index) len e h zero = h 0
one_cached (x ∷ xs) (b ∷ bs) (suc index) len e h (suc i) = one_cached xs bs index len e (λ j. h (suc j)) i

-- cached lengths stay right when the branch at an index gets other cells, and its length is cleared
pub one_forgotten : (g : List Slot → List Slot) (entries : List (List ℕ × Option ℕ)) (branches : List Branch) (index : ℕ) → AreLengths entries branches
    → AreLengths (set_value_at entries index None) (only_in index g branches)
one_forgotten g [] bs index h i = tt
one_forgotten g (x ∷ xs) [] zero h zero = tt
one_forgotten g (x ∷ xs) [] zero h (suc i) = h (suc i)
one_forgotten g (x ∷ xs) [] (suc index) h zero = h 0
one_forgotten g (x ∷ xs) [] (suc index) h (suc i) = one_forgotten g xs [] index (λ j. h (suc j)) i
one_forgotten g (x ∷ xs) (b ∷ bs) zero h zero = tt
one_forgotten g (x ∷ xs) (b ∷ bs) zero h (suc i) = h (suc i)
one_forgotten g (x ∷ xs) (b ∷ bs) (suc index) h zero = h 0
one_forgotten g (x ∷ xs) (b ∷ bs) (suc index) h (suc i) = one_forgotten g xs bs index (λ j. h (suc j)) i

-- cached lengths stay right when a branch is removed
pub lengths_left : (entries : List (List ℕ × Option ℕ)) (branches : List Branch) (index : ℕ) → AreLengths entries branches → AreLengths (remove entries index) (remove branches index)
lengths_left [] bs zero h i = tt
lengths_left [] bs (suc index) h i = tt
lengths_left (x ∷ xs) [] zero h i = h (suc i)
lengths_left (x ∷ xs) [] (suc index) h zero = h 0
lengths_left (x ∷ xs) [] (suc index) h (suc i) = subst (λ bs. AreLengths (remove xs index) bs) (remove-nil index) (lengths_left xs [] index (λ j. h (suc j))) i
  where
    remove-nil : (index : ℕ) → remove {X = Branch} [] index ≡ []
    remove-nil zero = refl
    remove-nil (suc index) = refl
lengths_left (x ∷ xs) (b ∷ bs) zero h i = h (suc i)
lengths_left (x ∷ xs) (b ∷ bs) (suc index) h zero = h 0
lengths_left (x ∷ xs) (b ∷ bs) (suc index) h (suc i) = lengths_left xs bs index (λ j. h (suc j)) i

-- cached lengths stay right when a branch is added last, with no cached length
pub lengths_more : (entries : List (List ℕ × Option ℕ)) (branches : List Branch) (name : List ℕ) (b : Branch) → length entries ≡ length branches → AreLengths entries branches
    → AreLengths (entries ++ (name, None) ∷ []) (branches ++ b ∷ [])
lengths_more [] [] name b e h zero = tt
lengths_more [] [] name b e h (suc i) = tt
lengths_more [] (c ∷ cs) name b e h i = absurd (omega arith)
lengths_more (x ∷ xs) [] name b e h i = absurd (omega arith)
lengths_more (x ∷ xs) (c ∷ cs) name b e h zero = h 0
lengths_more (x ∷ xs) (c ∷ cs) name b e h (suc i) = lengths_more xs cs name b (omega arith) (λ j. h (suc j)) i

-- cached lengths are right when the first branch is added
pub first_lengths : (eq : List ℕ → List ℕ → Bool) (es entries : List (List ℕ × Option ℕ)) (name : List ℕ) (branches : List Branch) → es ≡ [] → entries ≡ insert_entry eq es name None
    → AreLengths entries branches
first_lengths eq es entries name branches empty is =
    none_cached entries branches (λ i. ap (λ l. cached_in (slice_get l i)) (is ∙ ap (λ l. insert_entry eq l name None) empty) ∙ none i)
  where
    none : (i : ℕ) → cached_in (slice_get ((name, None) ∷ []) i) ≡ None
    none zero = refl
    none (suc i) = refl
