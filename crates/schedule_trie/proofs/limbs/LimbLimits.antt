-- The numbers of branches and of cells in a trie's limbs are within the trie's limits.
use Rattle.std.proofs.Common.{◌≡◌, ℕ, zero, suc, ◌+◌, ◌<◌, ◌≤◌, List, [], ◌∷◌, ◌++◌, length, refl, ap, arith}
use Rattle.std.proofs.lemmas.List.{length-append, length-map}
use Rattle.std.proofs.lemmas.List.Elements.{All-nil, All-cons}
use Rattle.std.proofs.lemmas.List.Sums.{prefix_len-le-length}
use Rattle.branch_terms.specs.declared.limits.Limits.{Limits}
use Rattle.branch_terms.specs.declared.slot.Slot.{Slot}
use Rattle.branch_terms.specs.Forest.{Branch, cell_in, slots_in}
use Rattle.schedule_trie.specs.Trie.{TrieOf, forest, segment_at, branch_on, IsWhole}
use Rattle.branch_terms.specs.Limbs.{FitLimits, holds, is_in_branches, shared_with, first_with, limb_of, limbs_after, limbs}
use Rattle.schedule_trie.proofs.branches.Lines.{slots_in_on, sound_short}
use Rattle.schedule_trie.proofs.lists.Searches.{position_or_len-short}

first-within : (earlier : List Branch) (slots : List Slot) (k most : ℕ) → length earlier < most → first_with earlier slots k < most
first-within earlier slots zero most few = omega arith
first-within earlier slots (suc k) most few = let less = position_or_len-short (holds (cell_in slots k)) earlier in omega arith

after-within : (limits : Limits) (earlier bs : List Branch) → length earlier + length bs ≤ limits.branches
    → ((i : ℕ) → length (slots_in bs i) ≤ limits.cells) → FitLimits limits (limbs_after earlier bs)
after-within limits earlier [] few short = All-nil (λ l. (l.from < limits.branches) × (l.shared ≤ limits.cells))
after-within limits earlier (b ∷ bs) few short =
    let less = prefix_len-le-length (is_in_branches earlier) b.slots in
    let here = short 0 in
    let more = length-append earlier (b ∷ []) in
    All-cons (λ l. (l.from < limits.branches) × (l.shared ≤ limits.cells)) (limb_of earlier b) (limbs_after (earlier ++ b ∷ []) bs)
    (first-within earlier b.slots (shared_with earlier b.slots) limits.branches (omega arith), omega arith)
    (after-within limits (earlier ++ b ∷ []) bs (omega arith) (λ i. short (suc i)))

pub limbs_within : {T : Type 0} (c : TrieOf T) → IsWhole c → FitLimits c.limits (limbs (forest c))
limbs_within c whole =
    let count = length-map c.branches (branch_on (segment_at c.segments)) in
    let fit = whole.within.branches_fit in
    after-within c.limits [] (forest c).branches (omega arith) short
  where
    short : (i : ℕ) → length (slots_in (forest c).branches i) ≤ c.limits.cells
    short i =
        let most = sound_short (segment_at c.segments) c.branches c.made whole.sound i in
        let same = ap length (slots_in_on (segment_at c.segments) c.branches i) in
        let cells = whole.within.cells in omega arith
