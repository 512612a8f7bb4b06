-- Cached lengths, each of an edition.
use Rattle.std.proofs.Common.{◌≡◌, ℕ, zero, suc, ◌+◌, ◌<◌, ◌≤◌, Bool, true, false, nat_eq, List, [], ◌∷◌, length, Option, Some, None, slice_get, refl, ap, if◌then◌else◌, arith, eqb-true}
use Rattle.std.specs.Option.{IfSome, option_map}
use Rattle.std.specs.List.{remove}
use Rattle.std.specs.Map.{keys_of}
use Rattle.std.specs.Cmp.Lexicographic.{pointwise}
use Rattle.indexmap.specs.IndexMap.{insert_entry, set_value_at}
use Rattle.schedule_trie.specs.declared.branch_list.Cached.{Cached}
use Rattle.schedule_trie.specs.NamedLengths.{cached_in}
use Rattle.schedule_trie.specs.Editions.{known_in, lengths_in, unknown, AreEarlier}

pub names_known : (edition : ℕ) (es : List (List ℕ × Cached)) → keys_of (lengths_in edition es) ≡ keys_of es
names_known edition [] = refl
names_known edition (e ∷ es) = ap (λ l. e.0 ∷ l) (names_known edition es)

pub count_known : (edition : ℕ) (es : List (List ℕ × Cached)) → length (lengths_in edition es) ≡ length es
count_known edition [] = refl
count_known edition (e ∷ es) = ap suc (count_known edition es)

pub name_known : (edition : ℕ) (es : List (List ℕ × Cached)) (i : ℕ) → option_map (λ e. e.0) (slice_get (lengths_in edition es) i) ≡ option_map (λ e. e.0) (slice_get es i)
name_known edition [] i = refl
name_known edition (e ∷ es) zero = refl
name_known edition (e ∷ es) (suc i) = name_known edition es i

-- the length in an entry, if there is an entry and the length is known in this edition
abbrev pub known_at : ℕ → Option (List ℕ × Cached) → Option ℕ
known_at edition None = None
known_at edition (Some e) = known_in edition e.1

pub cached_known : (edition : ℕ) (es : List (List ℕ × Cached)) (i : ℕ) → cached_in (slice_get (lengths_in edition es) i) ≡ known_at edition (slice_get es i)
cached_known edition [] i = refl
cached_known edition (e ∷ es) zero = refl
cached_known edition (e ∷ es) (suc i) = cached_known edition es i

pub set_known : (edition : ℕ) (es : List (List ℕ × Cached)) (index : ℕ) (v : Cached) → lengths_in edition (set_value_at es index v) ≡ set_value_at (lengths_in edition es) index (known_in edition v)
set_known edition [] index v = refl
set_known edition (e ∷ es) zero v = refl
set_known edition (e ∷ es) (suc index) v = ap (λ l. (e.0, known_in edition e.1) ∷ l) (set_known edition es index v)

pub remove_known : (edition : ℕ) (es : List (List ℕ × Cached)) (index : ℕ) → lengths_in edition (remove es index) ≡ remove (lengths_in edition es) index
remove_known edition [] zero = refl
remove_known edition [] (suc index) = refl
remove_known edition (e ∷ es) zero = refl
remove_known edition (e ∷ es) (suc index) = ap (λ l. (e.0, known_in edition e.1) ∷ l) (remove_known edition es index)

-- a length that was cached before an edition isn't known in it
pub not_known : (edition : ℕ) (v : Cached) → v.edition < edition → known_in edition v ≡ None
not_known edition v less = by (nat_eq v.edition edition) refl
  where
    by : (b : Bool) → nat_eq v.edition edition ≡ b → (if b then Some v.cells else None) ≡ None
    by true same = let eq = eqb-true v.edition edition same in absurd (omega (arith, eq, less))
    by false other = refl

abbrev pub same_name : List ℕ → List ℕ → Bool
same_name = pointwise nat_eq

pub insert_known : (edition : ℕ) → 0 < edition → (es : List (List ℕ × Cached)) (name : List ℕ)
    → lengths_in edition (insert_entry same_name es name unknown) ≡ insert_entry same_name (lengths_in edition es) name None
insert_known edition some [] name = ap (λ o. (name, o) ∷ []) (not_known edition unknown some)
insert_known edition some (e ∷ es) name = by (same_name name e.0) (insert_known edition some es name)
  where
    by : (b : Bool) → lengths_in edition (insert_entry same_name es name unknown) ≡ insert_entry same_name (lengths_in edition es) name None
        → lengths_in edition (if b then (e.0, unknown) ∷ es else e ∷ insert_entry same_name es name unknown)
        ≡ (if b then (e.0, None) ∷ lengths_in edition es else (e.0, known_in edition e.1) ∷ insert_entry same_name (lengths_in edition es) name None)
    by true rest = ap (λ o. (e.0, o) ∷ lengths_in edition es) (not_known edition unknown some)
    by false rest = ap (λ l. (e.0, known_in edition e.1) ∷ l) rest

pub set_earlier : (edition : ℕ) (es : List (List ℕ × Cached)) (index : ℕ) (v : Cached) → v.edition < edition → AreEarlier edition es → AreEarlier edition (set_value_at es index v)
set_earlier edition [] index v less h i = h i
set_earlier edition (e ∷ es) zero v less h zero = less
set_earlier edition (e ∷ es) zero v less h (suc i) = h (suc i)
set_earlier edition (e ∷ es) (suc index) v less h zero = h 0
set_earlier edition (e ∷ es) (suc index) v less h (suc i) = set_earlier edition es index v less (λ j. h (suc j)) i

pub insert_earlier : (edition : ℕ) → 0 < edition → (es : List (List ℕ × Cached)) (name : List ℕ) → AreEarlier edition es → AreEarlier edition (insert_entry same_name es name unknown)
insert_earlier edition some [] name h zero = some
insert_earlier edition some [] name h (suc i) = tt
insert_earlier edition some (e ∷ es) name h i = by (same_name name e.0) (insert_earlier edition some es name (λ k. h (suc k))) i
  where
    by : (b : Bool) → AreEarlier edition (insert_entry same_name es name unknown) → AreEarlier edition (if b then (e.0, unknown) ∷ es else e ∷ insert_entry same_name es name unknown)
    by true rest zero = some
    by true rest (suc j) = h (suc j)
    by false rest zero = h 0
    by false rest (suc j) = rest j

pub remove_earlier : (edition : ℕ) (es : List (List ℕ × Cached)) (index : ℕ) → AreEarlier edition es → AreEarlier edition (remove es index)
remove_earlier edition [] zero h i = tt
remove_earlier edition [] (suc index) h i = tt
remove_earlier edition (e ∷ es) zero h i = h (suc i)
remove_earlier edition (e ∷ es) (suc index) h zero = h 0
remove_earlier edition (e ∷ es) (suc index) h (suc i) = remove_earlier edition es index (λ j. h (suc j)) i

-- in a new edition no length is known
pub forgotten : (edition : ℕ) (es : List (List ℕ × Cached)) → AreEarlier edition es → (i : ℕ) → cached_in (slice_get (lengths_in edition es) i) ≡ None
forgotten edition [] h i = refl
forgotten edition (e ∷ es) h zero = not_known edition e.1 (h 0)
forgotten edition (e ∷ es) h (suc i) = forgotten edition es (λ j. h (suc j)) i

-- lengths cached before an edition were also cached before each later one
pub AreEarlier-weaker : (edition more : ℕ) (es : List (List ℕ × Cached)) → edition ≤ more → AreEarlier edition es → AreEarlier more es
AreEarlier-weaker edition more [] less h i = tt
AreEarlier-weaker edition more (e ∷ es) less h zero = let first : e.1.edition < edition = h 0 in omega (arith, less, first)
AreEarlier-weaker edition more (e ∷ es) less h (suc i) = AreEarlier-weaker edition more es less (λ j. h (suc j)) i

-- after the next cached length becomes `unknown`, all up to it have an edition below 1
pub one_more_unknown : (es : List (List ℕ × Cached)) (index : ℕ) → ((i : ℕ) → i < index → IfSome (slice_get es i) (λ e. e.1.edition < 1))
    → (i : ℕ) → i < index + 1 → IfSome (slice_get (set_value_at es index unknown) i) (λ e. e.1.edition < 1)
one_more_unknown [] index h i less = tt
one_more_unknown (e ∷ es) zero h zero less = omega arith
one_more_unknown (e ∷ es) zero h (suc i) less = absurd (omega arith)
one_more_unknown (e ∷ es) (suc index) h zero less = h 0 (omega arith)
one_more_unknown (e ∷ es) (suc index) h (suc i) less = one_more_unknown es index (λ j l. h (suc j) (omega arith)) i (omega arith)

pub all_unknown : (es : List (List ℕ × Cached)) (count : ℕ) → length es ≤ count → ((i : ℕ) → i < count → IfSome (slice_get es i) (λ e. e.1.edition < 1)) → AreEarlier 1 es
all_unknown [] count few h i = tt
all_unknown (e ∷ es) count few h zero = h 0 (omega arith)
all_unknown (e ∷ es) zero few h (suc i) = absurd (omega arith)
all_unknown (e ∷ es) (suc count) few h (suc i) = all_unknown es count (omega arith) (λ j l. h (suc j) (omega arith)) i
