-- Packing loses nothing: equal numbers and bytes are those of equal lists.
use Rattle.std.proofs.Common.{◌≡◌, ℕ, zero, suc, ◌+◌, ◌*◌, ◌/◌, ◌%◌, ◌<◌, Bool, true, false, List, [], ◌∷◌, ◌++◌, length, map, replicate, Option, None, Some, refl, sym, ap, ◌∙◌, append_assoc, add-one, if◌then◌else◌, arith}
use Rattle.std.specs.Prelude.{◌==◌, nat_lt}
use Rattle.std.proofs.lemmas.Bool.{ltb-true}
use Rattle.std.proofs.lemmas.Bool.Decides.{Decides-eqb}
use Rattle.safe_bit.specs.declared.Cell.{Cell}
use Rattle.frames.specs.declared.types.Op.{Op}
use Rattle.frames.specs.declared.types.Op.TheVariants as op
use Rattle.frames.specs.declared.types.Frame.{Frame}
use Rattle.frames.specs.declared.types.FrameLayer.{FrameLayer}
use Rattle.frames.specs.declared.types.FrameLayer.TheVariants as layers
use Rattle.frames.specs.declared.types.Layer.TheVariants as spent
use Rattle.frames.specs.declared.types.Outcome.{Outcome}
use Rattle.frames.specs.declared.types.Outcome.TheVariants.{Value, Written, Spent}
use Rattle.answers.specs.Packing.{half_bytes, number_bytes, packed, by_gaps, cell_code, op_code, layer_code, name_numbers, frame_numbers, frames_numbers, outcome_code, stack_numbers, outcomes_numbers}

-- equal lists that aren't empty have equal first items and equal rests
cons_parts : {X : Type 0} {x y : X} {xs ys : List X} → x ∷ xs ≡ y ∷ ys → (x ≡ y) × (xs ≡ ys)
cons_parts h = (cc, cc)

-- numbers with equal remainders and quotients by 256 are equal
same_by_256 : (n m : ℕ) → n % 256 ≡ m % 256 → n / 256 ≡ m / 256 → n ≡ m
same_by_256 n m a b = omega (arith, a, b)

-- numbers with equal lower and upper halves are equal
same_by_halves : (n m : ℕ) → n % 4294967296 ≡ m % 4294967296 → n / 4294967296 ≡ m / 4294967296 → n ≡ m
same_by_halves n m a b = omega (arith, a, b)

-- four bytes determine half a number, and eight a number, whatever follows them
same_half : (n m : ℕ) (r s : List ℕ) → half_bytes n ++ r ≡ half_bytes m ++ s → (n ≡ m) × (r ≡ s)
same_half n m r s h =
    let a = cons_parts h in
    let b = cons_parts a.1 in
    let c = cons_parts b.1 in
    let d = cons_parts c.1 in
    (same_by_256 n m a.0 (same_by_256 (n / 256) (m / 256) b.0 (same_by_256 (n / 256 / 256) (m / 256 / 256) c.0 d.0)), d.1)

same_halves : (n m : ℕ) (r s : List ℕ) → (half_bytes (n % 4294967296) ++ half_bytes (n / 4294967296)) ++ r ≡ (half_bytes (m % 4294967296) ++ half_bytes (m / 4294967296)) ++ s
    → (n ≡ m) × (r ≡ s)
same_halves n m r s h =
    let a = same_half (n % 4294967296) (m % 4294967296) (half_bytes (n / 4294967296) ++ r) (half_bytes (m / 4294967296) ++ s) h in
    let b = same_half (n / 4294967296) (m / 4294967296) r s a.1 in
    (same_by_halves n m a.0 b.0, b.1)

-- the bytes of number n, given whether one byte is enough (t) and whether two are (u)
abbrev bytes_by : Bool → Bool → ℕ → List ℕ
bytes_by t u n = if t then n ∷ [] else if u then (192 + n / 256) ∷ n % 256 ∷ [] else 255 ∷ half_bytes (n % 4294967296) ++ half_bytes (n / 4294967296)

-- the bytes of a number determine it, whatever follows them; first by how many bytes there are
same_by_tests : (t u v w : Bool) (n m : ℕ) (r s : List ℕ) → nat_lt n 192 ≡ t → nat_lt n 16128 ≡ u → nat_lt m 192 ≡ v → nat_lt m 16128 ≡ w
    → bytes_by t u n ++ r ≡ bytes_by v w m ++ s → (n ≡ m) × (r ≡ s)
same_by_tests true u true w n m r s a b c d h = cons_parts h
same_by_tests true u false true n m r s a b c d h = let e = cons_parts h in let low = ltb-true n 192 a in absurd (omega (arith, e.0, low))
same_by_tests true u false false n m r s a b c d h = let e = cons_parts h in let low = ltb-true n 192 a in absurd (omega (arith, e.0, low))
same_by_tests false true true w n m r s a b c d h = let e = cons_parts h in let low = ltb-true m 192 c in absurd (omega (arith, e.0, low))
same_by_tests false true false true n m r s a b c d h =
    let e = cons_parts h in
    let f = cons_parts e.1 in
    let high : n / 256 ≡ m / 256 = omega (arith, e.0) in
    (same_by_256 n m f.0 high, f.1)
same_by_tests false true false false n m r s a b c d h = let e = cons_parts h in let low = ltb-true n 16128 b in absurd (omega (arith, e.0, low))
same_by_tests false false true w n m r s a b c d h = let e = cons_parts h in let low = ltb-true m 192 c in absurd (omega (arith, e.0, low))
same_by_tests false false false true n m r s a b c d h = let e = cons_parts h in let low = ltb-true m 16128 d in absurd (omega (arith, e.0, low))
same_by_tests false false false false n m r s a b c d h = same_halves n m r s (cons_parts h).1

same_number : (n m : ℕ) (r s : List ℕ) → number_bytes n ++ r ≡ number_bytes m ++ s → (n ≡ m) × (r ≡ s)
same_number n m r s h = same_by_tests (nat_lt n 192) (nat_lt n 16128) (nat_lt m 192) (nat_lt m 16128) n m r s refl refl refl refl h

-- a list with an item isn't empty, and so a number has bytes
cons_is_not_nil : {X : Type 0} {x : X} {xs : List X} → x ∷ xs ≡ [] → ⊥
cons_is_not_nil {X} {x} {xs} h = let e : length (x ∷ xs) ≡ 0 = ap length h in omega (arith, e)

bytes_are_not_nil : (t u : Bool) (n : ℕ) (r : List ℕ) → bytes_by t u n ++ r ≡ [] → ⊥
bytes_are_not_nil true u n r h = cons_is_not_nil h
bytes_are_not_nil false true n r h = cons_is_not_nil h
bytes_are_not_nil false false n r h = cons_is_not_nil h

-- numbers with the same bytes are the same
pub same_packed : (ns ms : List ℕ) → packed ns ≡ packed ms → ns ≡ ms
same_packed [] [] h = refl
same_packed [] (m ∷ ms) h = absurd (bytes_are_not_nil (nat_lt m 192) (nat_lt m 16128) m (packed ms) (sym h))
same_packed (n ∷ ns) [] h = absurd (bytes_are_not_nil (nat_lt n 192) (nat_lt n 16128) n (packed ns) h)
same_packed (n ∷ ns) (m ∷ ms) h = let p = same_number n m (packed ns) (packed ms) h in λ i. p.0 i ∷ same_packed ns ms p.1 i

-- one more zero before n zeros gives the same list as one after them
zero_past_zeros : (n : ℕ) (xs : List ℕ) → replicate (suc n) 0 ++ xs ≡ replicate n 0 ++ 0 ∷ xs
zero_past_zeros zero xs = refl
zero_past_zeros (suc n) xs = ap (λ l. 0 ∷ l) (zero_past_zeros n xs)

-- `zero_past_zeros`, with `+ 1` for `suc`
zeros_before : (n : ℕ) (xs : List ℕ) → replicate (n + 1) 0 ++ xs ≡ replicate n 0 ++ 0 ∷ xs
zeros_before n xs = ap (λ k. replicate k 0 ++ xs) (add-one n) ∙ zero_past_zeros n xs

-- the numbers for x ∷ xs after n zeros, given whether x is 0 (t) and whether it is 1 (u)
abbrev gaps_by : Bool → Bool → ℕ → ℕ → List ℕ → List ℕ
gaps_by t u n x xs = if t then by_gaps (n + 1) xs else if u then 2 * n ∷ by_gaps 0 xs else (2 * n + 1) ∷ x ∷ by_gaps 0 xs

-- n zeros before xs are the same list as m zeros before ys, and r is s
abbrev AreSame : List ℕ → List ℕ → ℕ → ℕ → List ℕ → List ℕ → Type 0
AreSame xs ys n m r s = (replicate n 0 ++ xs ≡ replicate m 0 ++ ys) × (r ≡ s)

-- a first item that is 0 is one more zero before the others
more_zeros_right : (xs ys : List ℕ) (y n m : ℕ) (r s : List ℕ) → y ≡ 0 → AreSame xs ys n (m + 1) r s → AreSame xs (y ∷ ys) n m r s
more_zeros_right xs ys y n m r s e h = (h.0 ∙ (zeros_before m ys ∙ (λ i. replicate m 0 ++ sym e i ∷ ys)), h.1)

more_zeros_left : (xs ys : List ℕ) (x n m : ℕ) (r s : List ℕ) → x ≡ 0 → AreSame xs ys (n + 1) m r s → AreSame (x ∷ xs) ys n m r s
more_zeros_left xs ys x n m r s e h = ((λ i. replicate n 0 ++ e i ∷ xs) ∙ (sym (zeros_before n xs) ∙ h.0), h.1)

-- what the tests of `by_gaps` show
zero_by_test : (x : ℕ) → (x == 0) ≡ true → x ≡ 0
zero_by_test x h = (Decides-eqb x 0).0 h

one_by_test : (x : ℕ) → (x == 1) ≡ true → x ≡ 1
one_by_test x h = (Decides-eqb x 1).0 h

-- if the numbers for two lists are the same, the lists are: `same_gaps`, if the first has n zeros
-- alone
same_gaps_nil : (ys : List ℕ) (n m : ℕ) (r s : List ℕ) → n ≡ m + length ys → 2 * n ∷ r ≡ by_gaps m ys ++ s → AreSame [] ys n m r s
same_gaps_nil [] n m r s len h = let p = cons_parts h in let e : n ≡ m = omega (arith, p.0) in ((λ i. replicate (e i) 0 ++ []), p.1)
same_gaps_nil (y ∷ ys) n m r s len h = by (y == 0) (y == 1) refl h (λ k g. same_gaps_nil ys n (m + 1) r s k g)
  where
    -- by whether y is 0, so that it is a zero more before ys, or 1, or greater
    by : (t u : Bool) → (y == 0) ≡ t → 2 * n ∷ r ≡ gaps_by t u m y ys ++ s
        → (n ≡ m + 1 + length ys → 2 * n ∷ r ≡ by_gaps (m + 1) ys ++ s → AreSame [] ys n (m + 1) r s) → AreSame [] (y ∷ ys) n m r s
    by true u e g later = more_zeros_right [] ys y n m r s (zero_by_test y e) (later (omega (arith, len)) g)
    by false true e g later = let p = cons_parts g in absurd (omega (arith, p.0, len))
    by false false e g later = let p = cons_parts g in absurd (omega (arith, p.0, len))

-- `same_gaps`, if the first list has a 1 after n zeros
same_gaps_one : (x : ℕ) (xs : List ℕ) → x ≡ 1 → ((ys : List ℕ) (n m : ℕ) (r s : List ℕ) → n + length xs ≡ m + length ys → by_gaps n xs ++ r ≡ by_gaps m ys ++ s → AreSame xs ys n m r s)
    → (ys : List ℕ) (n m : ℕ) (r s : List ℕ) → n + length (x ∷ xs) ≡ m + length ys → gaps_by false true n x xs ++ r ≡ by_gaps m ys ++ s → AreSame (x ∷ xs) ys n m r s
same_gaps_one x xs is rest [] n m r s len h = let p = cons_parts h in absurd (omega (arith, p.0, len))
same_gaps_one x xs is rest (y ∷ ys) n m r s len h = by (y == 0) (y == 1) refl refl h (λ k g. same_gaps_one x xs is rest ys n (m + 1) r s k g)
  where
    by : (t u : Bool) → (y == 0) ≡ t → (y == 1) ≡ u → gaps_by false true n x xs ++ r ≡ gaps_by t u m y ys ++ s
        → (n + length (x ∷ xs) ≡ m + 1 + length ys → gaps_by false true n x xs ++ r ≡ by_gaps (m + 1) ys ++ s → AreSame (x ∷ xs) ys n (m + 1) r s)
        → AreSame (x ∷ xs) (y ∷ ys) n m r s
    by true u e f g later = more_zeros_right (x ∷ xs) ys y n m r s (zero_by_test y e) (later (omega (arith, len)) g)
    by false true e f g later =
        let p = cons_parts g in
        let k : n ≡ m = omega (arith, p.0) in
        let q = rest ys 0 0 r s (omega (arith, len, k)) p.1 in
        ((λ i. replicate (k i) 0 ++ (is ∙ sym (one_by_test y f)) i ∷ q.0 i), q.1)
    by false false e f g later = let p = cons_parts g in absurd (omega (arith, p.0))

-- `same_gaps`, if the first list has 2 or more after n zeros
same_gaps_greater : (x : ℕ) (xs : List ℕ) → ((ys : List ℕ) (n m : ℕ) (r s : List ℕ) → n + length xs ≡ m + length ys → by_gaps n xs ++ r ≡ by_gaps m ys ++ s → AreSame xs ys n m r s)
    → (ys : List ℕ) (n m : ℕ) (r s : List ℕ) → n + length (x ∷ xs) ≡ m + length ys → gaps_by false false n x xs ++ r ≡ by_gaps m ys ++ s → AreSame (x ∷ xs) ys n m r s
same_gaps_greater x xs rest [] n m r s len h = let p = cons_parts h in absurd (omega (arith, p.0, len))
same_gaps_greater x xs rest (y ∷ ys) n m r s len h = by (y == 0) (y == 1) refl h (λ k g. same_gaps_greater x xs rest ys n (m + 1) r s k g)
  where
    by : (t u : Bool) → (y == 0) ≡ t → gaps_by false false n x xs ++ r ≡ gaps_by t u m y ys ++ s
        → (n + length (x ∷ xs) ≡ m + 1 + length ys → gaps_by false false n x xs ++ r ≡ by_gaps (m + 1) ys ++ s → AreSame (x ∷ xs) ys n (m + 1) r s)
        → AreSame (x ∷ xs) (y ∷ ys) n m r s
    by true u e g later = more_zeros_right (x ∷ xs) ys y n m r s (zero_by_test y e) (later (omega (arith, len)) g)
    by false true e g later = let p = cons_parts g in absurd (omega (arith, p.0))
    by false false e g later =
        let p = cons_parts g in
        let k : n ≡ m = omega (arith, p.0) in
        let d = cons_parts p.1 in
        let q = rest ys 0 0 r s (omega (arith, len, k)) d.1 in
        ((λ i. replicate (k i) 0 ++ d.0 i ∷ q.0 i), q.1)

-- if the numbers for n zeros and then xs, and for m zeros and then ys, are the same, the lists are,
-- whatever follows
same_gaps : (xs ys : List ℕ) (n m : ℕ) (r s : List ℕ) → n + length xs ≡ m + length ys → by_gaps n xs ++ r ≡ by_gaps m ys ++ s → AreSame xs ys n m r s
same_gaps [] ys n m r s len h = same_gaps_nil ys n m r s (omega (arith, len)) h
same_gaps (x ∷ xs) ys n m r s len h = by (x == 0) (x == 1) refl refl h (λ zs k l t u. same_gaps xs zs k l t u)
  where
    by : (t u : Bool) → (x == 0) ≡ t → (x == 1) ≡ u → gaps_by t u n x xs ++ r ≡ by_gaps m ys ++ s
        → ((zs : List ℕ) (k l : ℕ) (t u : List ℕ) → k + length xs ≡ l + length zs → by_gaps k xs ++ t ≡ by_gaps l zs ++ u → AreSame xs zs k l t u)
        → AreSame (x ∷ xs) ys n m r s
    by true u e f g rest = more_zeros_left xs ys x n m r s (zero_by_test x e) (rest ys (n + 1) m r s (omega (arith, len)) g)
    by false true e f g rest = same_gaps_one x xs (one_by_test x f) rest ys n m r s len g
    by false false e f g rest = same_gaps_greater x xs rest ys n m r s len g

-- lists with the same numbers, and as long, are the same, whatever follows
pub same_list : (xs ys r s : List ℕ) → length xs ≡ length ys → by_gaps 0 xs ++ r ≡ by_gaps 0 ys ++ s → (xs ≡ ys) × (r ≡ s)
same_list xs ys r s len h = same_gaps xs ys 0 0 r s (ap (λ n. 0 + n) len) h

-- the value that is being written to a cell, given half its number in `writing_code`
abbrev writing_of : ℕ → Option Bool
writing_of n = if n == 0 then None else if n == 1 then Some false else Some true

-- the cell with this number
abbrev cell_of : ℕ → Cell
cell_of n = record { value = n % 2 == 1; writing = writing_of (n / 2 % 4); reading = n / 8 % 2 == 1; hit = n / 16 == 1 }

-- a cell's number gives the cell again
abbrev IsDecoded : Cell → Type 0
IsDecoded c = cell_of (cell_code c) ≡ c

-- what holds of three bits in each of the eight cases holds of any three bits
by_three_bits : (A : Bool → Bool → Bool → Type 0) → A false false false → A false false true → A false true false → A false true true
    → A true false false → A true false true → A true true false → A true true true → (x y z : Bool) → A x y z
by_three_bits A a b c d e f g h false false false = a
by_three_bits A a b c d e f g h false false true = b
by_three_bits A a b c d e f g h false true false = c
by_three_bits A a b c d e f g h false true true = d
by_three_bits A a b c d e f g h true false false = e
by_three_bits A a b c d e f g h true false true = f
by_three_bits A a b c d e f g h true true false = g
by_three_bits A a b c d e f g h true true true = h

-- each cell's number gives the cell again: by the value that is being written, then by the others
decoded_by : (w : Option Bool) (v r h : Bool) → IsDecoded (record { value = v; writing = w; reading = r; hit = h })
decoded_by None = by_three_bits (λ v r h. IsDecoded (record { value = v; writing = None; reading = r; hit = h })) refl refl refl refl refl refl refl refl
decoded_by (Some false) = by_three_bits (λ v r h. IsDecoded (record { value = v; writing = Some false; reading = r; hit = h })) refl refl refl refl refl refl refl refl
decoded_by (Some true) = by_three_bits (λ v r h. IsDecoded (record { value = v; writing = Some true; reading = r; hit = h })) refl refl refl refl refl refl refl refl

decoded : (c : Cell) → IsDecoded c
decoded c = decoded_by c.writing c.value c.reading c.hit

-- cells with the same numbers are the same
pub same_cells : (xs ys : List Cell) → map cell_code xs ≡ map cell_code ys → xs ≡ ys
same_cells [] [] h = refl
same_cells [] (y ∷ ys) h = cc
same_cells (x ∷ xs) [] h = cc
same_cells (x ∷ xs) (y ∷ ys) h =
    let p = cons_parts h in
    let e : x ≡ y = sym (decoded x) ∙ (ap cell_of p.0 ∙ decoded y) in
    λ i. e i ∷ same_cells xs ys p.1 i

-- operations with the same number are equal
same_op : (a b : Op) → op_code a ≡ op_code b → a ≡ b
same_op op.Read op.Read h = refl
same_op op.Read (op.Write w) h = absurd (omega (arith, h))
same_op (op.Write v) op.Read h = absurd (omega (arith, h))
same_op (op.Write v) (op.Write w) h = let e : v ≡ w = omega (arith, h) in ap op.Write e

-- a layer's number is below 8, the factor of the operation's
layer_low : (a : FrameLayer) → layer_code a < 8
layer_low layers.Safe = omega arith
layer_low layers.Copies = omega arith
layer_low layers.Regular = omega arith
layer_low layers.Unary = omega arith
layer_low layers.Stamped = omega arith
layer_low layers.MatrixRead = omega arith
layer_low layers.MatrixWrite = omega arith
layer_low (layers.Named n) = omega arith

-- layers with the same numbers and letters are the same
same_layer : (a b : FrameLayer) (r s : List ℕ) → layer_code a ≡ layer_code b → name_numbers a ++ r ≡ name_numbers b ++ s → (a ≡ b) × (r ≡ s)
same_layer layers.Safe layers.Safe r s e h = (refl, h)
same_layer layers.Copies layers.Copies r s e h = (refl, h)
same_layer layers.Regular layers.Regular r s e h = (refl, h)
same_layer layers.Unary layers.Unary r s e h = (refl, h)
same_layer layers.Stamped layers.Stamped r s e h = (refl, h)
same_layer layers.MatrixRead layers.MatrixRead r s e h = (refl, h)
same_layer layers.MatrixWrite layers.MatrixWrite r s e h = (refl, h)
same_layer (layers.Named a) (layers.Named b) r s e h =
    let p = cons_parts h in
    let q = cons_parts p.1 in
    let t = cons_parts q.1 in
    ((λ i. layers.Named (record { 0 = p.0 i; 1 = q.0 i; 2 = t.0 i })), t.1)
same_layer _ _ r s e h = absurd (omega (arith, e))

-- frames with the same numbers are the same
same_frame : (f g : Frame) (r s : List ℕ) → frame_numbers f ++ r ≡ frame_numbers g ++ s → (f ≡ g) × (r ≡ s)
same_frame f g r s h =
    let p = cons_parts h in
    let q = cons_parts p.1 in
    let t = cons_parts q.1 in
    let low = layer_low f.layer in
    let low' = layer_low g.layer in
    let head = p.0 in
    let codes : layer_code f.layer ≡ layer_code g.layer = omega (arith, head, low, low') in
    let ops : op_code f.op ≡ op_code g.op = omega (arith, head, codes) in
    let l = same_layer f.layer g.layer r s codes t.1 in
    ((λ i. record { layer = l.0 i; op = same_op f.op g.op ops i; i = q.0 i; x = t.0 i }), l.1)

-- stacks that are as long and have the same numbers are the same
same_frames : (fs gs : List Frame) (r s : List ℕ) → length fs ≡ length gs → frames_numbers fs ++ r ≡ frames_numbers gs ++ s → (fs ≡ gs) × (r ≡ s)
same_frames [] [] r s len h = (refl, h)
same_frames [] (g ∷ gs) r s len h = absurd (omega (arith, len))
same_frames (f ∷ fs) [] r s len h = absurd (omega (arith, len))
same_frames (f ∷ fs) (g ∷ gs) r s len h =
    let p = same_frame f g (frames_numbers fs ++ r) (frames_numbers gs ++ s)
    (sym (append_assoc (frame_numbers f) (frames_numbers fs) r) ∙ (h ∙ append_assoc (frame_numbers g) (frames_numbers gs) s)) in
    let q = same_frames fs gs r s (omega (arith, len)) p.1 in
    ((λ i. p.0 i ∷ q.0 i), q.1)

-- outcomes with the same number are equal
same_outcome : (a b : Outcome) → outcome_code a ≡ outcome_code b → a ≡ b
same_outcome Written Written h = refl
same_outcome Written (Spent spent.Stamped) h = absurd (omega (arith, h))
same_outcome Written (Spent spent.Matrix) h = absurd (omega (arith, h))
same_outcome Written (Value w) h = absurd (omega (arith, h))
same_outcome (Spent spent.Stamped) Written h = absurd (omega (arith, h))
same_outcome (Spent spent.Stamped) (Spent spent.Stamped) h = refl
same_outcome (Spent spent.Stamped) (Spent spent.Matrix) h = absurd (omega (arith, h))
same_outcome (Spent spent.Stamped) (Value w) h = absurd (omega (arith, h))
same_outcome (Spent spent.Matrix) Written h = absurd (omega (arith, h))
same_outcome (Spent spent.Matrix) (Spent spent.Stamped) h = absurd (omega (arith, h))
same_outcome (Spent spent.Matrix) (Spent spent.Matrix) h = refl
same_outcome (Spent spent.Matrix) (Value w) h = absurd (omega (arith, h))
same_outcome (Value v) Written h = absurd (omega (arith, h))
same_outcome (Value v) (Spent spent.Stamped) h = absurd (omega (arith, h))
same_outcome (Value v) (Spent spent.Matrix) h = absurd (omega (arith, h))
same_outcome (Value v) (Value w) h = let e : v ≡ w = omega (arith, h) in ap Value e

-- lists of outcomes that are as long and have the same numbers are the same
same_outcomes : (os us : List Outcome) (r s : List ℕ) → length os ≡ length us → map outcome_code os ++ r ≡ map outcome_code us ++ s → (os ≡ us) × (r ≡ s)
same_outcomes [] [] r s len h = (refl, h)
same_outcomes [] (u ∷ us) r s len h = absurd (omega (arith, len))
same_outcomes (o ∷ os) [] r s len h = absurd (omega (arith, len))
same_outcomes (o ∷ os) (u ∷ us) r s len h =
    let p = cons_parts h in
    let q = same_outcomes os us r s (omega (arith, len)) p.1 in
    ((λ i. same_outcome o u p.0 i ∷ q.0 i), q.1)

-- a number for a stack's length and a stop mark determines both
same_stop : (t u : Bool) (n m : ℕ) → 2 * n + (if t then 1 else 0) ≡ 2 * m + (if u then 1 else 0) → (n ≡ m) × (t ≡ u)
same_stop true true n m h = (omega (arith, h), refl)
same_stop true false n m h = absurd (omega (arith, h))
same_stop false true n m h = absurd (omega (arith, h))
same_stop false false n m h = (omega (arith, h), refl)

-- a process's numbers determine its frames, its stop mark and its outcomes
pub same_process : (fs gs : List Frame) (t u : Bool) (os us : List Outcome) (r s : List ℕ)
    → (stack_numbers fs t ++ outcomes_numbers os) ++ r ≡ (stack_numbers gs u ++ outcomes_numbers us) ++ s
    → ((fs ≡ gs) × (t ≡ u)) × ((os ≡ us) × (r ≡ s))
same_process fs gs t u os us r s h =
    let p = cons_parts h in
    let e = same_stop t u (length fs) (length gs) p.0 in
    let f = same_frames fs gs (outcomes_numbers os ++ r) (outcomes_numbers us ++ s) e.0
    (sym (append_assoc (frames_numbers fs) (outcomes_numbers os) r) ∙ (p.1 ∙ append_assoc (frames_numbers gs) (outcomes_numbers us) s)) in
    let q = cons_parts f.1 in
    ((f.0, e.1), same_outcomes os us r s q.0 q.1)
