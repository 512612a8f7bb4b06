-- Lemmas about sets of a turn's 16 shares. A set is a list of marks: mark i is true exactly if
-- share i is in the set.
use Rattle.std.proofs.Common.{◌≡◌, ℕ, ◌+◌, ◌<◌, ◌≤◌, Bool, true, false, not, ◌&&◌, ◌||◌, ◌⊎◌, inl, inr, List, length, get_or, set, refl, sym, ap, ◌∙◌, arith, length-set, get_or-set_same, get_or-set_other}
use Rattle.std.proofs.lemmas.List.FromFn.{fill_by_all, get_or-map-range_with_len, length-map-range_with_len}
use mathlib.Core.Logic.{dite}
use native.Mathlib.Decide.{ℕ_discrete, dec_le}
use lib.ListN.{get_or-replicate}
use Rattle.std.proofs.Common.{zero, suc, [], ◌∷◌}
use Rattle.std.proofs.lemmas.List.{get_or_past, length-replicate}
use Rattle.turn.specs.Shares.{has_share, shares_where, every_share, no_share, shares_without, together, count, rank, chair_number, next_least}
use Rattle.std.specs.Prelude.{nat_lt, nat_le, cond, take, unwrap_or, Some, None}
use Rattle.std.specs.List.{position_or_len}
use Rattle.std.proofs.lemmas.List.Sums.{sum_by-cons}
use Rattle.std.proofs.Common.{lt-ltb, le-leb}
use Rattle.std.proofs.lemmas.Bool.{or_cases}

-- there are 16 marks, and for each k below n, mark k is what the test gives for k
pub record MarkedBelow (test : ℕ → Bool) (n : ℕ) (marks : List Bool) : Type 0 where
  pub long : length marks ≡ 16
  pub each : (k : ℕ) → k < n → has_share marks k ≡ test k

-- of 16 marks, those below mark 0 (there are none) agree with any test
pub marked_none : (test : ℕ → Bool) (marks : List Bool) → length marks ≡ 16 → MarkedBelow test 0 marks
marked_none test marks long = record { long = long; each = λ k h. absurd (omega arith) }

-- if the marks below mark n agree with a test, and mark n is set to what the test gives for n, then
-- the marks below mark n + 1 agree with the test
pub marked_more : (test : ℕ → Bool) (n : ℕ) (marks : List Bool) (mark : Bool) → MarkedBelow test n marks → n < 16 → mark ≡ test n → MarkedBelow test (n + 1) (set marks n mark)
marked_more test n marks mark below inside is = let long = below.long in record {
  long = length-set marks n mark ∙ long;
  each = λ k h. dite (ℕ_discrete k n) (λ e. let within : n < length marks = omega arith in ap (λ (j : ℕ). get_or (set marks n mark) j false) e ∙ (get_or-set_same marks n mark false within ∙ (is ∙ ap test (sym e))))
      (λ other. get_or-set_other marks n k mark false other ∙ below.each k (omega arith));
}

-- if all 16 marks agree with a test, they are the set of the shares that pass the test
pub marked_all : (test : ℕ → Bool) (n : ℕ) (marks : List Bool) → MarkedBelow test n marks → 16 ≤ n → marks ≡ shares_where test
unfolding shares_where
marked_all test n marks below all = fill_by_all test marks 16 false below.long (λ k h. below.each k (omega arith))

-- a share below 16 is in the set of the shares that pass a test exactly if it passes the test
pub has_where : (test : ℕ → Bool) (i : ℕ) → i < 16 → has_share (shares_where test) i ≡ test i
unfolding shares_where
has_where test i inside = get_or-map-range_with_len test 0 16 i i false inside (omega arith)

-- the set of the shares that pass a test is a list of 16 marks, one for each share
pub length_where : (test : ℕ → Bool) → length (shares_where test) ≡ 16
unfolding shares_where
length_where test = length-map-range_with_len test 0 16

-- a share in a set of 16 marks is below 16
pub below_16 : (marks : List Bool) → length marks ≡ 16 → (share : ℕ) → has_share marks share ≡ true → share < 16
below_16 marks long share held = dite (dec_lt share) (λ l. l) (λ past. absurd (let gone : has_share marks share ≡ false = get_or_past marks share false (omega arith) in cc))
  where
    dec_lt : (n : ℕ) → Dec (n < 16)
    dec_lt n = dec_le (suc n) 16

-- a share in the set of the shares that pass a test is below 16
pub below_where : (test : ℕ → Bool) (share : ℕ) → has_share (shares_where test) share ≡ true → share < 16
below_where test = below_16 (shares_where test) (length_where test)

-- a share in the set of all shares is below 16
pub below_every : (share : ℕ) → has_share every_share share ≡ true → share < 16
below_every = below_16 every_share (length-replicate 16 true)

-- no share is in the empty set
pub none_held : (share : ℕ) → has_share no_share share ≡ true → ⊥
none_held share held = at (below_16 no_share (length-replicate 16 false) share held)
  where
    at : share < 16 → ⊥
    at l = let gone : has_share no_share share ≡ false = get_or-replicate 16 share false false l in cc

module _ (shares others : List Bool) where
  -- a share in the difference of two sets is in the first set, and isn't in the second
  pub has_without : (share : ℕ) → has_share (shares_without shares others) share ≡ true → (has_share shares share ≡ true) × (has_share others share ≡ false)
  has_without share held = both (has_share shares share) (has_share others share) (sym (has_where _ share (below_where _ share held)) ∙ held)
    where
      both : (a b : Bool) → (a && not b) ≡ true → (a ≡ true) × (b ≡ false)
      both true true e = absurd (cc)
      both true false e = (refl, refl)
      both false b e = absurd (cc)

  -- a share below 16 that is neither in the difference of two sets nor in the second set isn't in
  -- the first
  pub not_without : (share : ℕ) → share < 16 → has_share (shares_without shares others) share ≡ false → has_share others share ≡ false → has_share shares share ≡ false
  not_without share inside gone kept = left_is_false (has_share shares share) (has_share others share) kept (sym (has_where _ share inside) ∙ gone)
    where
      left_is_false : (a b : Bool) → b ≡ false → (a && not b) ≡ false → a ≡ false
      left_is_false true true e f = absurd (cc)
      left_is_false true false e f = absurd (cc)
      left_is_false false b e f = refl

  -- a share in the union of two sets is in one of them
  pub has_together : (share : ℕ) → has_share (together shares others) share ≡ true → (has_share shares share ≡ true) ⊎ (has_share others share ≡ true)
  has_together share held = or_cases (has_share shares share) (has_share others share) (sym (has_where _ share (below_where _ share held)) ∙ held)

  -- a share below 16 that isn't in the union of two sets is in neither
  pub not_together : (share : ℕ) → share < 16 → has_share (together shares others) share ≡ false → (has_share shares share ≡ false) × (has_share others share ≡ false)
  not_together share inside gone = both_are_false (has_share shares share) (has_share others share) (sym (has_where _ share inside) ∙ gone)
    where
      both_are_false : (a b : Bool) → (a || b) ≡ false → (a ≡ false) × (b ≡ false)
      both_are_false true b e = absurd (cc)
      both_are_false false true e = absurd (cc)
      both_are_false false false e = (refl, refl)

count_true : (xs : List Bool) → count (true ∷ xs) ≡ 1 + count xs
count_true xs = sum_by-cons (λ held. cond held 1 0) true xs

count_false : (xs : List Bool) → count (false ∷ xs) ≡ 0 + count xs
count_false xs = sum_by-cons (λ held. cond held 1 0) false xs

-- for each n less than the number of shares in a set, there is a share in the set with exactly n
-- lesser shares in the set
pub of_rank : (shares : List Bool) (n : ℕ) → n < count shares → (share : ℕ) × (has_share shares share ≡ true) × (rank shares share ≡ n)
of_rank [] n l = absurd (omega arith)
of_rank (true ∷ xs) zero l = (0, refl, refl)
of_rank (true ∷ xs) (suc n) l = let r = of_rank xs n (omega (arith, count_true xs)) in (suc r.0, r.1, (let e = r.2 in omega (arith, count_true (take r.0 xs))))
of_rank (false ∷ xs) n l = let r = of_rank xs n (omega (arith, count_false xs)) in (suc r.0, r.1, (let e = r.2 in omega (arith, count_false (take r.0 xs))))

first_held : (shares : List Bool) → 0 < count shares → (position_or_len (λ held. held) shares < length shares) × (has_share shares (position_or_len (λ held. held) shares) ≡ true)
first_held [] l = absurd (omega arith)
first_held (true ∷ xs) l = (omega arith, refl)
first_held (false ∷ xs) l = let r = first_held xs (omega (arith, count_false xs)) in let n : ℕ = position_or_len (λ held. held) xs in let e : 1 + n ≡ suc n = omega arith in
    (omega arith, ap (λ (k : ℕ). has_share (false ∷ xs) k) e ∙ r.1)

-- the number of a set that isn't empty, its least share, is below 16 and is in the set
pub number_held : (shares : List Bool) → length shares ≡ 16 → 0 < count shares → (chair_number shares < 16) × (has_share shares (chair_number shares) ≡ true)
number_held shares long some = let first = first_held shares some in let n : ℕ = position_or_len (λ held. held) shares in
    let is : chair_number shares ≡ n = ap (λ b. unwrap_or (cond b (Some n) None) 16) (lt-ltb n (length shares) first.0) in
    (omega arith, ap (has_share shares) is ∙ first.1)

-- each share that a split of n shares gives away was in the set that is split
pub given_inside : (n : ℕ) (shares : List Bool) (share : ℕ) → has_share (next_least n shares) share ≡ true → has_share shares share ≡ true
given_inside n shares share held = front (has_share shares share) _ _ (sym (has_where _ share (below_where _ share held)) ∙ held)
  where
    front : (a b c : Bool) → (a && b && c) ≡ true → a ≡ true
    front true b c e = refl
    front false b c e = absurd (cc)

-- if 0 < n, and a set has more than n shares, a split of n shares gives away at least one
pub given_some : (n : ℕ) (shares : List Bool) → length shares ≡ 16 → 0 < n → n < count shares → (share : ℕ) × (has_share (next_least n shares) share ≡ true)
given_some n shares long some less = let r = of_rank shares 1 (omega arith) in
    (r.0, has_where _ r.0 (below_16 shares long r.0 r.1) ∙ (λ i. r.1 i && nat_lt 0 (r.2 i) && nat_le (r.2 i) n) ∙ ap (λ b. true && true && b) (le-leb 1 n (omega arith)))

-- if a set has more than n shares, a split of n shares leaves at least one
pub kept_some : (n : ℕ) (shares : List Bool) → length shares ≡ 16 → n < count shares → (share : ℕ) × (has_share (shares_without shares (next_least n shares)) share ≡ true)
kept_some n shares long less = let r = of_rank shares 0 (omega arith) in let below = below_16 shares long r.0 r.1 in
    let not_given : has_share (next_least n shares) r.0 ≡ false = has_where _ r.0 below ∙ (λ i. r.1 i && nat_lt 0 (r.2 i) && nat_le (r.2 i) n) in
    (r.0, has_where _ r.0 below ∙ (λ i. r.1 i && not (not_given i)))

-- a set that has this share isn't empty: it has more than 0 shares
pub count_some : (shares : List Bool) (share : ℕ) → has_share shares share ≡ true → 0 < count shares
count_some [] share held = absurd (cc)
count_some (true ∷ xs) share held = omega (arith, count_true xs)
count_some (false ∷ xs) zero held = absurd (cc)
count_some (false ∷ xs) (suc share) held = let r = count_some xs share held in omega (arith, count_false xs)

-- if a set has this share, which is below 16, then its union with any other set has some share
pub together_some : (shares others : List Bool) (share : ℕ) → share < 16 → has_share shares share ≡ true → (one : ℕ) × (has_share (together shares others) one ≡ true)
together_some shares others share inside held = (share, has_where _ share inside ∙ ap (λ b. b || has_share others share) held)
