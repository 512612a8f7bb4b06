-- Branches with a common cell have the same cells up to it.
use Rattle.std.proofs.Common.{◌≡◌, ℕ, zero, suc, ◌+◌, ◌-◌, ◌<◌, ◌≤◌, Bool, true, false, nat_lt, List, [], ◌∷◌, ◌++◌, length, map, take, slice_get, Option, Some, None, refl, sym, ap, subst, ◌∙◌, true≢false, arith, append_assoc}
use Rattle.std.specs.Option.{IfSome}
use Rattle.std.proofs.lemmas.List.{take-append-le}
use Rattle.std.proofs.lemmas.Bool.Decides.{nat_tests}
use Rattle.std.proofs.Math.Seq.{take-append-add, take-append_seam}
use Rattle.std.specs.Cmp.Lexicographic.{pointwise}
use Rattle.std.specs.List.{IsDistinct}
use Rattle.std.specs.Prelude.{nat_eq}
use Rattle.lineage.specs.Family.{last_of}
use Rattle.branch_terms.specs.declared.slot.Slot.{Slot}
use Rattle.schedule_trie.specs.declared.trie.Trie.TheInside.{Inside}
use Rattle.branch_terms.specs.Forest.{cell_of, slots_in, ShareUpTo, IsForest}
use Rattle.schedule_trie.specs.Trie.{SegmentOf, KeyedBranch, forest, segment_at, slots_of, line, branches_on, keys_in, has_cell, Once, Linked, IsSoundTrie}
use Rattle.schedule_trie.specs.TrieFields.{names_of, trie_of, IsWholeWithPaths}
use Rattle.schedule_trie.proofs.branches.Lines.{slots_in_on, once_at, given_at}
use Rattle.schedule_trie.proofs.segments.Changes.{has_cell_get}
use Rattle.schedule_trie.proofs.lists.KeyIndices.{one_index, before_index}
use Rattle.schedule_trie.proofs.branches.NamesApart.{branches_apart}
use Rattle.schedule_trie.proofs.lists.LastKeys.{empty_from_no_last, last_of-parts}
use Rattle.branch_terms.proofs.Lists.{slice_get_left, slice_get_right}
use Rattle.schedule_trie.proofs.lists.ListParts.{take-suc_some}

-- paths with a common key have the same keys before it
pub same_before : (above : ℕ → Option ℕ) (xs ys : List ℕ) (n k : ℕ) → Linked above None xs → Linked above None ys → slice_get xs n ≡ Some k
    → slice_get ys n ≡ Some k → take n xs ≡ take n ys
same_before above xs ys zero k a b e f = refl
same_before above xs ys (suc n) k a b e f =
    let p = before_index above None xs n k a e in
    let q = before_index above None ys n k b f in
    let both : Some p.0 ≡ Some q.0 = sym p.2 ∙ q.2 in
    let same : p.0 ≡ q.0 = cc in
    let there : slice_get ys n ≡ Some p.0 = q.1 ∙ ap Some (sym same) in
    take-suc_some xs n p.0 p.1 ∙ ap (λ l. l ++ p.0 ∷ []) (same_before above xs ys n p.0 a b p.1 there) ∙ sym (take-suc_some ys n p.0 there)

-- the keys before a common key are the same
pub same_front : (above : ℕ → Option ℕ) (f b g d : List ℕ) (k : ℕ) → Linked above None (f ++ k ∷ b) → Linked above None (g ++ k ∷ d) → f ≡ g
same_front above f b g d k lf lg =
    let n = one_index above (f ++ k ∷ b) (g ++ k ∷ d) (length f) (length g) k lf lg (here f b) (here g d) in
    let same = same_before above (f ++ k ∷ b) (g ++ k ∷ d) (length f) k lf lg (here f b) (ap (slice_get (g ++ k ∷ d)) n ∙ here g d) in
    sym (take-append_seam f (k ∷ b)) ∙ same ∙ ap (λ m. take m (g ++ k ∷ d)) n ∙ take-append_seam g (k ∷ d)
  where
    here : (xs ys : List ℕ) → slice_get (xs ++ k ∷ ys) (length xs) ≡ Some k
    here [] ys = refl
    here (x ∷ xs) ys = here xs ys

-- paths with the same last key are the same
pub same_path : (above : ℕ → Option ℕ) (xs ys : List ℕ) (last : Option ℕ) → Linked above None xs → Linked above None ys → last_of xs ≡ last → last_of ys ≡ last → xs ≡ ys
same_path above xs ys None lx ly ex ey = empty_from_no_last xs ex ∙ sym (empty_from_no_last ys ey)
same_path above xs ys (Some k) lx ly ex ey =
    let p = last_of-parts xs k ex in
    let q = last_of-parts ys k ey in
    let front = same_front above p.0 [] q.0 [] k (subst (Linked above None) p.1 lx) (subst (Linked above None) q.1 ly) in
    p.1 ∙ ap (λ l. l ++ k ∷ []) front ∙ sym q.1

-- a cell has only one offset in a segment
one_offset : (slots : List Slot) (m n : ℕ) (s t : Slot) → Once (map cell_of slots) → slice_get slots m ≡ Some s → slice_get slots n ≡ Some t
    → s.cell ≡ t.cell → m ≡ n
one_offset [] m n s t once e f same = absurd (cc)
one_offset (z ∷ zs) zero zero s t once e f same = refl
one_offset (z ∷ zs) zero (suc n) s t once e f same =
    let first : z ≡ s = cc in
    let cells : t.cell ≡ z.cell = sym same ∙ ap cell_of (sym first) in
    absurd (true≢false (sym (subst (λ x. has_cell x zs ≡ true) cells (has_cell_get zs n t f)) ∙ once.0))
one_offset (z ∷ zs) (suc m) zero s t once e f same =
    let first : z ≡ t = cc in
    let cells : s.cell ≡ z.cell = same ∙ ap cell_of (sym first) in
    absurd (true≢false (sym (subst (λ x. has_cell x zs ≡ true) cells (has_cell_get zs m s e)) ∙ once.0))
one_offset (z ∷ zs) (suc m) (suc n) s t once e f same = ap suc (one_offset zs m n s t once.1 e f same)

module _ {T : Type 0} (at : ℕ → Option (SegmentOf T)) where
  -- the segment and the offset of the cell at a place of a line, and what precedes it
  pub record LiesIn (keys : List ℕ) (place : ℕ) (s : Slot) : Type 0 where
    pub count : ℕ
    pub key : ℕ
    pub offset : ℕ
    pub there : slice_get keys count ≡ Some key
    pub cell : slice_get (slots_of (at key)) offset ≡ Some s
    pub before : take (suc place) (line at keys) ≡ line at (take count keys) ++ take (suc offset) (slots_of (at key))

  lies_in : (keys : List ℕ) (place : ℕ) (s : Slot) → slice_get (line at keys) place ≡ Some s → LiesIn keys place s
  lies_in [] place s e = absurd (cc)
  lies_in (k ∷ ks) place s e = by (nat_lt place (length (slots_of (at k)))) refl (lies_in ks)
    where
      by : (b : Bool) → nat_lt place (length (slots_of (at k))) ≡ b
          → ((p : ℕ) (t : Slot) → slice_get (line at ks) p ≡ Some t → LiesIn ks p t) → LiesIn (k ∷ ks) place s
      by true f rest =
          let inside : place < length (slots_of (at k)) = grind (arith, nat_tests) in
          record {
            count = 0;
            key = k;
            offset = place;
            there = refl;
            cell = sym (slice_get_left (slots_of (at k)) (line at ks) place inside) ∙ e;
            before = take-append-le (suc place) (slots_of (at k)) (line at ks) inside;
          }
      by false f rest =
          let is_after : length (slots_of (at k)) ≤ place = grind (arith, nat_tests) in
          let sum : length (slots_of (at k)) + (place - length (slots_of (at k))) ≡ place = omega arith in
          let more : length (slots_of (at k)) + suc (place - length (slots_of (at k))) ≡ suc place = omega arith in
          let p = rest (place - length (slots_of (at k))) s (sym (slice_get_right (slots_of (at k)) (line at ks) place (place - length (slots_of (at k))) sum) ∙ e) in
          record {
            count = suc p.count;
            key = p.key;
            offset = p.offset;
            there = p.there;
            cell = p.cell;
            before = ap (λ n. take n (slots_of (at k) ++ line at ks)) (sym more) ∙ take-append-add (slots_of (at k)) (line at ks) (suc (place - length (slots_of (at k))))
                ∙ ap (λ l. slots_of (at k) ++ l) p.before
                ∙ sym (append_assoc (slots_of (at k)) (line at (take p.count ks)) (take (suc p.offset) (slots_of (at p.key))));
          }

  module _ (branches : List KeyedBranch) (made : ℕ) (sound : IsSoundTrie at branches made) where
    lies_on : (i k : ℕ) (s : Slot) → slice_get (slots_in (branches_on at branches) i) k ≡ Some s → LiesIn (keys_in branches i) k s
    lies_on i k s e = lies_in (keys_in branches i) k s (ap (λ l. slice_get l k) (sym (slots_in_on at branches i)) ∙ e)

    pub shared_up_to : ShareUpTo (branches_on at branches)
    shared_up_to i j k l s t e f same =
        let p = lies_on i k s e in
        let q = lies_on j l t f in
        let one : p.key ≡ q.key =
        sound.apart p.key q.key s.cell (has_cell_get (slots_of (at p.key)) p.offset s p.cell)
        (subst (λ x. has_cell x (slots_of (at q.key)) ≡ true) (sym same) (has_cell_get (slots_of (at q.key)) q.offset t q.cell)) in
        let q_there : slice_get (keys_in branches j) q.count ≡ Some p.key = q.there ∙ ap Some (sym one) in
        let q_cell : slice_get (slots_of (at p.key)) q.offset ≡ Some t = ap (λ x. slice_get (slots_of (at x)) q.offset) one ∙ q.cell in
        let counts : p.count ≡ q.count =
        one_index sound.shares.above (keys_in branches i) (keys_in branches j) p.count q.count p.key (sound.shares.linked i) (sound.shares.linked j) p.there q_there in
        let offsets : p.offset ≡ q.offset =
        one_offset (slots_of (at p.key)) p.offset q.offset s t (once_at at made sound.segments sound.apart p.key) p.cell q_cell same in
        let paths : take p.count (keys_in branches i) ≡ take q.count (keys_in branches j) =
        same_before sound.shares.above (keys_in branches i) (keys_in branches j) p.count p.key (sound.shares.linked i) (sound.shares.linked j) p.there
        (ap (slice_get (keys_in branches j)) counts ∙ q_there)
        ∙ ap (λ n. take n (keys_in branches j)) counts in
        ap (take (suc k)) (slots_in_on at branches i) ∙ p.before
        ∙ ap (λ z. line at z ++ take (suc p.offset) (slots_of (at p.key))) paths
        ∙ ap (λ n. line at (take q.count (keys_in branches j)) ++ take (suc n) (slots_of (at p.key))) offsets
        ∙ ap (λ x. line at (take q.count (keys_in branches j)) ++ take (suc q.offset) (slots_of (at x))) one
        ∙ sym q.before ∙ ap (take (suc l)) (sym (slots_in_on at branches j))

    pub all_given : (i k : ℕ) → IfSome (slice_get (slots_in (branches_on at branches) i) k) (λ s. s.cell < made)
    all_given i k = by (slice_get (slots_in (branches_on at branches) i) k) refl
      where
        by : (o : Option Slot) → slice_get (slots_in (branches_on at branches) i) k ≡ o → IfSome o (λ s. s.cell < made)
        by None e = tt
        by (Some s) e = let p = lies_on i k s e in given_at at made sound.segments sound.apart p.key s.cell (has_cell_get (slots_of (at p.key)) p.offset s p.cell)

-- a trie's forest satisfies `IsForest`, if no two of its names are equal
pub is_forest : {T : Type 0} (t : Inside T) → IsWholeWithPaths t → IsDistinct (pointwise nat_eq) (names_of t) → IsForest (forest (trie_of t))
is_forest t held unique = record {
  apart = branches_apart t unique;
  shared = shared_up_to (segment_at (trie_of t).segments) (trie_of t).branches t.made held.whole.sound;
  given = all_given (segment_at (trie_of t).segments) (trie_of t).branches t.made held.whole.sound;
}
