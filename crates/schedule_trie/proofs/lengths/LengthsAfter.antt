-- The length of a branch after an edit.
use Rattle.std.proofs.Common.{◌≡◌, ℕ, zero, suc, ◌+◌, ◌<◌, ◌≤◌, Bool, true, false, nat_eq, cond, List, [], ◌∷◌, ◌++◌, length, map, take, slice_get, Some, refl, sym, ap, subst, ◌∙◌, arith, eq-eqb, true≢false}
use Rattle.std.specs.List.{remove}
use Rattle.std.proofs.lemmas.List.{length-map, length_push, length-take-le}
use Rattle.std.proofs.lemmas.List.Edits.{length-insert, length-remove}
use Rattle.schedule_steps.specs.declared.types.Step.{Step}
use Rattle.branch_terms.specs.declared.slot.Slot.{Slot}
use Rattle.branch_terms.specs.Forest.{Branch, branch, cell_of, cell_in, changed, everywhere, only_in, put_before, put_last, slot, slots_in, without}
use Rattle.schedule_trie.specs.Trie.{TrieOf, forest, segment_at, slots_of, branch_on, keys_in, Once, SpotHasCellAt, IsWhole, IsInserted, IsRemoved}
use Rattle.schedule_trie.specs.changes.Forks.{IsBranchForked}
use Rattle.schedule_trie.proofs.edits.Insertion.{inserted-at}
use Rattle.branch_terms.proofs.LimbLists.{slots_in-last}
use Rattle.schedule_trie.proofs.branches.Lines.{line_once, slots_in_on, sound_short}
use Rattle.schedule_trie.proofs.lists.NoRepeats.{Once-from_linked}
use Rattle.schedule_trie.proofs.edits.Removals.{without-at}
use Rattle.branch_terms.proofs.Lists.{cell_in_at, slice_get_some}
use Rattle.std.proofs.lemmas.Option.{slice_get_within}

slots_everywhere : (g : List Slot → List Slot) (branches : List Branch) (i : ℕ) → i < length branches → slots_in (everywhere g branches) i ≡ g (slots_in branches i)
slots_everywhere g [] i h = absurd (omega arith)
slots_everywhere g (b ∷ bs) zero h = refl
slots_everywhere g (b ∷ bs) (suc i) h = slots_everywhere g bs i (omega arith)

slots_only : (g : List Slot → List Slot) (branches : List Branch) (i : ℕ) → i < length branches → slots_in (only_in i g branches) i ≡ g (slots_in branches i)
slots_only g [] i h = absurd (omega arith)
slots_only g (b ∷ bs) zero h = refl
slots_only g (b ∷ bs) (suc i) h = slots_only g bs i (omega arith)

count_only : (g : List Slot → List Slot) (branches : List Branch) (i : ℕ) → length (only_in i g branches) ≡ length branches
count_only g [] i = refl
count_only g (b ∷ bs) zero = refl
count_only g (b ∷ bs) (suc i) = ap suc (count_only g bs i)

module _ {T : Type 0} (c : TrieOf T) (whole : IsWhole c) (index : ℕ) where
  pub cells_once : Once (map cell_of (slots_in (forest c).branches index))
  cells_once =
      subst (λ l. Once (map cell_of l)) (sym (slots_in_on (segment_at c.segments) c.branches index))
      (line_once (segment_at c.segments) c.made whole.sound.segments whole.sound.apart (keys_in c.branches index)
      (Once-from_linked whole.sound.shares.above (keys_in c.branches index) (whole.sound.shares.linked index)))

  pub cells_few : length (slots_in (forest c).branches index) ≤ c.made
  cells_few = subst (λ l. length l ≤ c.made) (sym (slots_in_on (segment_at c.segments) c.branches index)) (sound_short (segment_at c.segments) c.branches c.made whole.sound index)

pub branch_count : {T : Type 0} (c : TrieOf T) → length (forest c).branches ≡ length c.branches
branch_count c = length-map c.branches (branch_on (segment_at c.segments))

-- a place at which a cell is found is inside the branch
pub place_inside : {T : Type 0} (c : TrieOf T) (index place : ℕ) (spot : ℕ × ℕ) → SpotHasCellAt (segment_at c.segments) (keys_in c.branches index) place spot
    → place < length (slots_in (forest c).branches index)
place_inside c index place spot cell_there =
    let p = slice_get_some (slots_of (segment_at c.segments spot.0)) spot.1 cell_there.within in
    slice_get_within (slots_in (forest c).branches index) place p.0
    (ap (λ l. slice_get l place) (slots_in_on (segment_at c.segments) c.branches index) ∙ sym cell_there.same ∙ p.1)

module _ {T : Type 0} (old new : TrieOf T) (whole : IsWhole old) (index : ℕ) (inside : index < length old.branches) where
  abbrev slots : List Slot
  slots = slots_in (forest old).branches index

  within : index < length (forest old).branches
  within = subst (λ n. index < n) (sym (branch_count old)) inside

  -- after an insert the branch has one cell more
  pub longer : (place : ℕ) (step : Step) → IsInserted old new index place step → place ≤ length slots → length slots + 1 ≡ length (slots_in (forest new).branches index)
  longer place step is_step fits = sym (ap (λ f. length (slots_in f.branches index)) is_step.forest_is ∙ by (nat_eq place (length slots)) refl)
    where
      by : (b : Bool) → nat_eq place (length slots) ≡ b
          → length (slots_in (cond b (only_in index (put_last (slot old.made step)) (forest old).branches) (everywhere (put_before (cell_in slots place) (slot old.made step)) (forest old).branches)) index) ≡ length slots + 1
      by true e = ap length (slots_only (put_last (slot old.made step)) (forest old).branches index within) ∙ length_push slots (slot old.made step)
      by false e =
          let other : place ≡ length slots → ⊥ = (λ f. true≢false (sym (eq-eqb place (length slots) f) ∙ e)) in
          let p = slice_get_some slots place (less place (length slots) fits other) in
          ap length (slots_everywhere (put_before (cell_in slots place) (slot old.made step)) (forest old).branches index within)
          ∙ ap (λ x. length (put_before x (slot old.made step) slots)) (cell_in_at slots place p.0 p.1)
          ∙ ap length (sym (inserted-at slots place p.0 (slot old.made step) (cells_once old whole index) p.1))
          ∙ length-insert slots place (slot old.made step) fits
        where
          less : (a b : ℕ) → a ≤ b → (a ≡ b → ⊥) → a < b
          less a b le ne = omega (arith, le, ne)

  pub inside_after_insert : (place : ℕ) (step : Step) → IsInserted old new index place step → index < length new.branches
  inside_after_insert place step is_step =
      let same : length (forest new).branches ≡ length (forest old).branches = ap (λ f. length f.branches) is_step.forest_is ∙ by (nat_eq place (length slots)) in
      omega (arith, same, within, branch_count new)
    where
      by : (b : Bool)
          → length (cond b (only_in index (put_last (slot old.made step)) (forest old).branches) (everywhere (put_before (cell_in slots place) (slot old.made step)) (forest old).branches))
          ≡ length (forest old).branches
      by true = count_only (put_last (slot old.made step)) (forest old).branches index
      by false = length-map (forest old).branches (changed (put_before (cell_in slots place) (slot old.made step)))

  pub inside_after_removal : (key offset : ℕ) → offset < length (slots_of (segment_at old.segments key)) → IsRemoved old new key offset → index < length new.branches
  inside_after_removal key offset inside_key is_step =
      let p = slice_get_some (slots_of (segment_at old.segments key)) offset inside_key in
      let same : length (forest new).branches ≡ length (forest old).branches = ap length (is_step.everywhere_gone p.0 p.1) ∙ length-map (forest old).branches (changed (without p.0.cell)) in
      omega (arith, same, within, branch_count new)

  -- after a removal it has one cell less
  pub shorter : (place key offset : ℕ) → SpotHasCellAt (segment_at old.segments) (keys_in old.branches index) place (key, offset) → IsRemoved old new key offset
      → place < length slots → length slots ≡ length (slots_in (forest new).branches index) + 1
  shorter place key offset cell_there is_step less =
      let p = slice_get_some (slots_of (segment_at old.segments key)) offset cell_there.within in
      let there : slice_get slots place ≡ Some p.0 =
      ap (λ l. slice_get l place) (slots_in_on (segment_at old.segments) old.branches index) ∙ sym cell_there.same ∙ p.1 in
      let rest : slots_in (forest new).branches index ≡ remove slots place =
      ap (λ l. slots_in l index) (is_step.everywhere_gone p.0 p.1) ∙ slots_everywhere (without p.0.cell) (forest old).branches index within
      ∙ sym (without-at slots place p.0 (cells_once old whole index) there) in
      let one = length-remove slots place less in
      let same = ap length rest in
      omega (arith, one, same)

-- a fork is the last branch, and its length is the place of the fork
module _ {T : Type 0} (old new : TrieOf T) (index place : ℕ) (name : List ℕ) (is_step : IsBranchForked old new index place name) where
  abbrev last : Branch
  last = branch name (take place (slots_in (forest old).branches index))

  pub fork_last : length old.branches < length new.branches
  fork_last =
      let more = ap length is_step.branches ∙ length_push (forest old).branches last in
      omega (arith, more, branch_count old, branch_count new)

  pub fork_len : place ≤ length (slots_in (forest old).branches index) → place ≡ length (slots_in (forest new).branches (length old.branches))
  fork_len fits =
      sym (ap (λ l. length (slots_in l (length old.branches))) is_step.branches
      ∙ ap (λ n. length (slots_in ((forest old).branches ++ last ∷ []) n)) (sym (branch_count old))
      ∙ ap length (slots_in-last (forest old).branches last)
      ∙ length-take-le place (slots_in (forest old).branches index) fits)
