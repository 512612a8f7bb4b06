-- Laws of windows of lists: how they are read and replaced.
use Rattle.std.proofs.Common.{◌≡◌, ℕ, ◌+◌, ◌-◌, ◌<◌, ◌≤◌, ◌⊎◌, List, ◌++◌, length, take, drop, set, get_or, sym, ap, ◌∙◌, arith, inl, inr, length-take, length-drop, length-append, add_assoc, append-nil}
use Rattle.std.proofs.lemmas.List.{places, same_lists, take-take, drop-drop, drop-take, get_or-take, get_or-drop, length-set, get_or-set_same, get_or-set_other, take_all, drop_all}
use Rattle.std.proofs.lemmas.Bool.{cases_lt, cases_eq}
use Rattle.std.proofs.Common.{suc, [], ◌∷◌, add-zero, append_assoc}
use Rattle.std.proofs.lemmas.List.{set_split, take_at, drop_at, take-append-drop, take-append-le, drop-append-le}
use Rattle.safe_bit.specs.Windows.{splice, window}

-- P k holds if it holds in each of three cases: index k is before a window, in it, or after it
by_window : (i n k : ℕ) (P : ℕ → Type 0) → (k < i → P k) → ((m : ℕ) → k ≡ i + m → m < n → P k) → (i + n ≤ k → P k) → P k
by_window i n k P before inside after =
    elim (cases_lt k i) [
      | inl lt ↦ before lt
      | inr ge ↦ elim (cases_lt k (i + n)) [ inl lt ↦ inside (k - i) (omega arith) (omega arith) | inr past ↦ after past ]
    ]

module _ {A : Type 0} where
  pub length-window : (i n : ℕ) (xs : List A) → i + n ≤ length xs → length (window i n xs) ≡ n
  length-window i n xs h = grind (arith, length-take, length-drop)

  pub length-splice : (i : ℕ) (ys xs : List A) → i + length ys ≤ length xs → length (splice i ys xs) ≡ length xs
  length-splice i ys xs h = grind (arith, length-take, length-drop, length-append)

  pub get_or-window : (i n : ℕ) (xs : List A) (k : ℕ) (d : A) → k < n → get_or (window i n xs) k d ≡ get_or xs (i + k) d
  get_or-window i n xs k d h = get_or-take n (drop i xs) k d h ∙ get_or-drop i xs k d

  pub get_or-splice_before : (i : ℕ) (ys xs : List A) (k : ℕ) (d : A) → i + length ys ≤ length xs → k < i → get_or (splice i ys xs) k d ≡ get_or xs k d
  get_or-splice_before i ys xs k d h lt = grind (arith, places)

  pub get_or-splice_inside : (i : ℕ) (ys xs : List A) (k : ℕ) (d : A) → i + length ys ≤ length xs → k < length ys → get_or (splice i ys xs) (i + k) d ≡ get_or ys k d
  get_or-splice_inside i ys xs k d h lt = grind (arith, places)

  pub get_or-splice_after : (i : ℕ) (ys xs : List A) (k : ℕ) (d : A) → i + length ys ≤ length xs → i + length ys ≤ k → get_or (splice i ys xs) k d ≡ get_or xs k d
  get_or-splice_after i ys xs k d h lt = grind (arith, places)

  -- a window of a window is a window of the whole list
  pub window-window : (i n j k : ℕ) (xs : List A) → j + k ≤ n → window j k (window i n xs) ≡ window (i + j) k xs
  window-window i n j k xs h =
      ap (take k) (ap (λ m. drop j (take m (drop i xs))) (split_at j n (omega arith)) ∙ drop-take j (n - j) (drop i xs))
      ∙ take-take k (n - j) (drop j (drop i xs)) (omega arith) ∙ ap (take k) (drop-drop j i xs)
    where
      split_at : (a b : ℕ) → a ≤ b → b ≡ a + (b - a)
      split_at a b l = omega arith

  -- reading a window that was put in gives that window back
  pub window-splice : (i : ℕ) (ys xs : List A) → i + length ys ≤ length xs → window i (length ys) (splice i ys xs) ≡ ys
  window-splice i ys xs h =
      same_lists _ _ (length-window i (length ys) (splice i ys xs) (rw (length-splice i ys xs h) h))
      (λ k d lt. let lt' : k < length ys = rw (length-window i (length ys) (splice i ys xs) (rw (length-splice i ys xs h) h)) at lt in
      get_or-window i (length ys) (splice i ys xs) k d lt' ∙ get_or-splice_inside i ys xs k d h lt')

  -- a window that doesn't overlap the replaced one stays as it was
  pub window-splice_apart : (i j n : ℕ) (ys xs : List A) → i + length ys ≤ length xs → j + n ≤ length xs → (i + length ys ≤ j) ⊎ (j + n ≤ i)
      → window j n (splice i ys xs) ≡ window j n xs
  window-splice_apart i j n ys xs h h' apart =
      same_lists _ _ (length-window j n (splice i ys xs) (rw (length-splice i ys xs h) h') ∙ sym (length-window j n xs h'))
      (λ k d lt. let lt' : k < n = rw (length-window j n (splice i ys xs) (rw (length-splice i ys xs h) h')) at lt in
      get_or-window j n (splice i ys xs) k d lt'
      ∙ elim apart as (λ _. get_or (splice i ys xs) (j + k) d ≡ get_or xs (j + k) d) [
        | inl after ↦ get_or-splice_after i ys xs (j + k) d h (omega arith)
        | inr before ↦ get_or-splice_before i ys xs (j + k) d h (omega arith)
      ]
      ∙ sym (get_or-window j n xs k d lt'))

  -- the second of two windows put in at the same place replaces the first
  pub splice-splice : (i : ℕ) (ys zs xs : List A) → i + length zs ≤ length xs → length ys ≡ length zs → splice i ys (splice i zs xs) ≡ splice i ys xs
  splice-splice i ys zs xs h e =
      let hy : i + length ys ≤ length xs = omega arith in
      let lz = length-splice i zs xs h in
      let hy' : i + length ys ≤ length (splice i zs xs) = omega arith in
      same_lists _ _ (length-splice i ys (splice i zs xs) hy' ∙ lz ∙ sym (length-splice i ys xs hy))
      (λ k d lt. by_window i (length ys) k (λ _. get_or (splice i ys (splice i zs xs)) k d ≡ get_or (splice i ys xs) k d)
      (λ before. get_or-splice_before i ys (splice i zs xs) k d hy' before ∙ get_or-splice_before i zs xs k d h before ∙ sym (get_or-splice_before i ys xs k d hy before))
      (λ m at_m less. rw at_m (get_or-splice_inside i ys (splice i zs xs) m d hy' less ∙ sym (get_or-splice_inside i ys xs m d hy less)))
      (λ after. get_or-splice_after i ys (splice i zs xs) k d hy' after ∙ get_or-splice_after i zs xs k d h (omega arith) ∙ sym (get_or-splice_after i ys xs k d hy after)))

  -- two lists are equal if they agree before a window, in it, and after it
  same_by_window : (i n : ℕ) (xs ys : List A) → length xs ≡ length ys
      → ((k : ℕ) (d : A) → k < i → get_or xs k d ≡ get_or ys k d)
      → ((k : ℕ) (d : A) → k < n → get_or xs (i + k) d ≡ get_or ys (i + k) d)
      → ((k : ℕ) (d : A) → i + n ≤ k → get_or xs k d ≡ get_or ys k d)
      → xs ≡ ys
  same_by_window i n xs ys e before inside after =
      same_lists xs ys e (λ (k : ℕ) (d : A) (_ : k < length xs). by_window i n k (λ m. get_or xs m d ≡ get_or ys m d)
      (λ lt. before k d lt)
      (λ m at_m lt. rw at_m (inside m d lt))
      (λ past. after k d past))

  -- replacing a window of a window, and putting the outer window back, is the same as replacing
  -- the inner window in the whole list
  pub splice-window : (i n j : ℕ) (ys xs : List A) → i + n ≤ length xs → j + length ys ≤ n
      → splice i (splice j ys (window i n xs)) xs ≡ splice (i + j) ys xs
  splice-window i n j ys xs h inner =
      let lw = length-window i n xs h in
      let hj : j + length ys ≤ length (window i n xs) = omega arith in
      let ls = length-splice j ys (window i n xs) hj in
      let hs : i + length (splice j ys (window i n xs)) ≤ length xs = omega arith in
      let hij : i + j + length ys ≤ length xs = omega arith in
      same_by_window i n (splice i (splice j ys (window i n xs)) xs) (splice (i + j) ys xs)
      (length-splice i (splice j ys (window i n xs)) xs hs ∙ sym (length-splice (i + j) ys xs hij))
      (λ k d before. get_or-splice_before i (splice j ys (window i n xs)) xs k d hs before ∙ sym (get_or-splice_before (i + j) ys xs k d hij (omega arith)))
      (λ m d less. get_or-splice_inside i (splice j ys (window i n xs)) xs m d hs (omega arith) ∙ inside m d less hj hij)
      (λ k d after. get_or-splice_after i (splice j ys (window i n xs)) xs k d hs (omega arith) ∙ sym (get_or-splice_after (i + j) ys xs k d hij (omega arith)))
    where
      inside : (m : ℕ) (d : A) → m < n → j + length ys ≤ length (window i n xs) → i + j + length ys ≤ length xs
          → get_or (splice j ys (window i n xs)) m d ≡ get_or (splice (i + j) ys xs) (i + m) d
      inside m d less hj hij =
          by_window j (length ys) m (λ q. get_or (splice j ys (window i n xs)) q d ≡ get_or (splice (i + j) ys xs) (i + q) d)
          (λ before. get_or-splice_before j ys (window i n xs) m d hj before ∙ get_or-window i n xs m d less ∙ sym (get_or-splice_before (i + j) ys xs (i + m) d hij (omega arith)))
          (λ p at_p below. rw at_p (get_or-splice_inside j ys (window i n xs) p d hj below
          ∙ sym (ap (λ q. get_or (splice (i + j) ys xs) q d) (sym (add_assoc i j p)) ∙ get_or-splice_inside (i + j) ys xs p d hij below)))
          (λ after. get_or-splice_after j ys (window i n xs) m d hj after ∙ get_or-window i n xs m d less ∙ sym (get_or-splice_after (i + j) ys xs (i + m) d hij (omega arith)))

  -- setting an item of a window, and putting the window back, is the same as setting the item in
  -- the list
  pub set-window : (i n j : ℕ) (x : A) (xs : List A) → i + n ≤ length xs → j < n → set xs (i + j) x ≡ splice i (set (window i n xs) j x) xs
  set-window i n j x xs h less =
      let lw = length-window i n xs h in
      let ls = length-set (window i n xs) j x in
      let hs : i + length (set (window i n xs) j x) ≤ length xs = omega arith in
      same_by_window i n (set xs (i + j) x) (splice i (set (window i n xs) j x) xs)
      (length-set xs (i + j) x ∙ sym (length-splice i (set (window i n xs) j x) xs hs))
      (λ k d before. get_or-set_other xs (i + j) k x d (omega arith) ∙ sym (get_or-splice_before i (set (window i n xs) j x) xs k d hs before))
      (λ m d below. inside m d below ∙ sym (get_or-splice_inside i (set (window i n xs) j x) xs m d hs (omega arith)))
      (λ k d after. get_or-set_other xs (i + j) k x d (omega arith) ∙ sym (get_or-splice_after i (set (window i n xs) j x) xs k d hs (omega arith)))
    where
      inside : (m : ℕ) (d : A) → m < n → get_or (set xs (i + j) x) (i + m) d ≡ get_or (set (window i n xs) j x) m d
      inside m d below =
          let lw = length-window i n xs h in
          elim (cases_eq m j) as (λ _. get_or (set xs (i + j) x) (i + m) d ≡ get_or (set (window i n xs) j x) m d) [
            | inl same ↦ rw same (get_or-set_same xs (i + j) x d (omega arith) ∙ sym (get_or-set_same (window i n xs) j x d (omega arith)))
            | inr other ↦ get_or-set_other xs (i + j) (i + m) x d (omega arith)
                ∙ sym (get_or-set_other (window i n xs) j m x d other ∙ get_or-window i n xs m d below)
          ]

  -- putting a window back unchanged changes nothing
  pub splice-own : (i n : ℕ) (xs : List A) → i + n ≤ length xs → splice i (window i n xs) xs ≡ xs
  splice-own i n xs h =
      let lw = length-window i n xs h in
      let hs : i + length (window i n xs) ≤ length xs = omega arith in
      same_by_window i n (splice i (window i n xs) xs) xs (length-splice i (window i n xs) xs hs)
      (λ k d before. get_or-splice_before i (window i n xs) xs k d hs before)
      (λ m d below. get_or-splice_inside i (window i n xs) xs m d hs (omega arith) ∙ get_or-window i n xs m d below)
      (λ k d after. get_or-splice_after i (window i n xs) xs k d hs (omega arith))

  -- the window from index 0 that is as long as the list is the whole list
  pub window-whole : (n : ℕ) (xs : List A) → length xs ≡ n → window 0 n xs ≡ xs
  window-whole n xs e = take_all n xs (omega arith)

  pub splice-whole : (ys xs : List A) → length ys ≡ length xs → splice 0 ys xs ≡ ys
  splice-whole ys xs e = rw (drop_all (0 + length ys) xs (omega arith)) (append-nil ys)

-- a window stays as it was if an item after it is set
pub window-set_after : {A : Type 0} (i n k : ℕ) (x : A) (xs : List A) → i + n ≤ length xs → i + n ≤ k → window i n (set xs k x) ≡ window i n xs
window-set_after i n k x xs h is_after =
    let l = length-set xs k x in
    let h' : i + n ≤ length (set xs k x) = omega arith in
    same_lists (window i n (set xs k x)) (window i n xs) (length-window i n (set xs k x) h' ∙ sym (length-window i n xs h))
    (λ q d lt. let lt' : q < n = rw (length-window i n (set xs k x) h') at lt in
    get_or-window i n (set xs k x) q d lt' ∙ get_or-set_other xs k (i + q) x d (omega arith) ∙ sym (get_or-window i n xs q d lt'))

-- a window of xs is also a window of xs ++ ys
pub window-append : {A : Type 0} (i n : ℕ) (xs ys : List A) → i + n ≤ length xs → window i n (xs ++ ys) ≡ window i n xs
window-append i n xs ys h =
    ap (take n) (drop-append-le i xs ys (omega arith)) ∙ take-append-le n (drop i xs) ys (omega (arith, length-drop i xs))

module _ {A : Type 0} where
  -- putting in one window and then another right after it is the same as putting in both, joined
  pub splice-after : (i n : ℕ) (ys zs xs : List A) → length ys ≡ n → i + length ys ≤ length xs → splice (i + n) zs (splice i ys xs) ≡ splice i (ys ++ zs) xs
  splice-after i n ys zs xs e fit =
      let front : length (take i xs ++ ys) ≡ i + n = omega (arith, length-append (take i xs) ys, length-take i xs) in
      let tail : drop (i + n + length zs) (take i xs ++ ys ++ drop (i + length ys) xs) ≡ drop (i + length (ys ++ zs)) xs =
      sym (drop-drop (length zs) (i + n) (take i xs ++ ys ++ drop (i + length ys) xs))
      ∙ ap (drop (length zs)) (drop_at (take i xs ++ ys) (drop (i + length ys) xs) (i + n) front)
      ∙ drop-drop (length zs) (i + length ys) xs
      ∙ ap (λ q. drop q xs) (let l = length-append ys zs in omega arith) in
      ap (λ q. q ++ zs ++ drop (i + n + length zs) (take i xs ++ ys ++ drop (i + length ys) xs)) (take_at (take i xs ++ ys) (drop (i + length ys) xs) (i + n) front)
      ∙ ap (λ q. take i xs ++ ys ++ zs ++ q) tail
      ∙ ap (λ q. q ++ drop (i + length (ys ++ zs)) xs) (append_assoc (take i xs) ys zs)

  -- setting the item right after a window that was put in makes the window one item longer
  pub set-after : (i n : ℕ) (x : A) (ys xs : List A) → length ys ≡ n → i + n < length xs → set (splice i ys xs) (i + n) x ≡ splice i (ys ++ x ∷ []) xs
  set-after i n x ys xs e fit =
      let l = length-splice i ys xs (omega arith) in
      let lt : i + n < length (splice i ys xs) = omega arith in
      set_split (splice i ys xs) (i + n) x lt
      ∙ one (take (i + n) (splice i ys xs)) (splice i ys xs) (i + n)
      ∙ splice-after i n ys (x ∷ []) xs e (omega arith)
    where
      one : (front whole : List A) (k : ℕ) → front ++ x ∷ drop (suc k) whole ≡ front ++ x ∷ [] ++ drop (k + 1) whole
      one front whole k = ap (λ q. front ++ x ∷ drop q whole) {x = suc k} (let e : suc k ≡ k + 1 = omega arith in e) ∙ sym (append_assoc front (x ∷ []) (drop (k + 1) whole))

  -- putting an empty list in at an index changes nothing
  pub splice-nothing : (i : ℕ) (xs : List A) → splice i [] xs ≡ xs
  splice-nothing i xs = ap (λ q. take i xs ++ [] ++ drop q xs) (add-zero i) ∙ joined (take i xs) (drop i xs) ∙ back i xs
    where
      joined : (us vs : List A) → us ++ [] ++ vs ≡ us ++ vs
      joined us vs = ap (λ q. q ++ vs) (append-nil us)

      back : (k : ℕ) (zs : List A) → take k zs ++ drop k zs ≡ zs
      back k zs = take-append-drop k zs
