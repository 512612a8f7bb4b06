-- Reading limbs line by line, as a loop does.
use Rattle.std.proofs.Common.{◌≡◌, ℕ, ◌+◌, true, false, List, [], ◌∷◌, ◌++◌, Some, Bool, cond, Result, Ok, Err, refl, sym, ap, ◌∙◌, true≢false, append_assoc}
use Rattle.std.specs.Prelude.{IsOk, codes}
use Rattle.std.specs.List.{join_with_byte}
use Rattle.std.specs.Result.{IsErr, IsErrAnd}
use Rattle.branch_terms.specs.declared.limb.Limb.{Limb}
use Rattle.tower_file.specs.declared.tower.TowerSpec.{TowerSpec}
use Rattle.tower_file.specs.declared.fault.FaultKind.TheVariants.{Memory}
use Rattle.tower_file.specs.declared.fault.FileFault.{FileFault}
use Rattle.tower_file.specs.Faults.{Fails, Gives, MemoryOnlyIf}
use Rattle.tower_file.specs.Benches.{are_lawful}
use Rattle.tower_file.specs.Spelling.{text_with_end}
use Rattle.tower_file.specs.BenchSpelling.{SpellsLimbs}
use Rattle.tower_file.specs.Reading.{◌>>=◌}
use Rattle.tower_file.specs.BenchReading.{then_branch, then_step, then_line, limbs_at_end, limbs_of}
use Rattle.words.specs.Words.{words, next, after_next, is_end}
use Rattle.words.specs.Steps.{step_of_words}
use Rattle.words.proofs.Steps.{first_word_is_no_other}
use Rattle.frames.specs.declared.types.Step.{Step}
use Rattle.tower_file.proofs.PassedFaults.{ok_value, passes_fault_on, memory_only}
use Rattle.tower_file.proofs.BenchLimbs.{limbs_text}
use Rattle.tower_file.proofs.BenchSound.{line_adds}
use Rattle.words.proofs.NextSteps.{joined_next}

-- of the lines `all`, these limbs have been read so far; `ls`, the lines from line n on, are left
pub record IsSoFar (t : TowerSpec) (all : List (List ℕ)) (n : ℕ) (limbs : List Limb) (ls : List (List ℕ)) : Type 0 where
  pub read : limbs_of t n limbs ls ≡ limbs_of t 3 [] all
  pub spelled : limbs_text limbs ++ join_with_byte 10 ls ≡ join_with_byte 10 all
  pub lawful : are_lawful t limbs ≡ true

-- the next line has its line end, and more is left after it
module _ {t : TowerSpec} {all : List (List ℕ)} {n : ℕ} {limbs : List Limb} {ls : List (List ℕ)} (so_far : IsSoFar t all n limbs ls) (whole : is_end (after_next ls) ≡ false) where
  -- the limbs, by what the next line adds
  limbs_by_line : (xs : List (List ℕ)) → is_end (after_next xs) ≡ false
      → limbs_of t n limbs xs ≡ (then_line t n limbs (next xs) >>= λ more. limbs_of t (n + 1) more (after_next xs))
  unfolding limbs_of
  limbs_by_line [] h = absurd (true≢false h)
  limbs_by_line (x ∷ []) h = absurd (true≢false h)
  limbs_by_line (x ∷ y ∷ xs) h = refl

  -- all limbs, by the result of the next line
  limbs_after_line : (r : Result (List Limb) FileFault) → then_line t n limbs (next ls) ≡ r → limbs_of t 3 [] all ≡ (r >>= λ more. limbs_of t (n + 1) more (after_next ls))
  limbs_after_line r e = sym so_far.read ∙ limbs_by_line ls whole ∙ ap (λ (r : Result (List Limb) FileFault). r >>= λ x. limbs_of t (n + 1) x (after_next ls)) e

  -- the text of the limbs, and the lines that are left, are still all lines
  text_after_line : (more : List Limb) → then_line t n limbs (next ls) ≡ Ok more → limbs_text more ++ join_with_byte 10 (after_next ls) ≡ join_with_byte 10 all
  text_after_line more e =
      let said : List ℕ = next ls in
      let rest : List ℕ = join_with_byte 10 (after_next ls) in
      let regroup : (limbs_text limbs ++ text_with_end said) ++ rest ≡ limbs_text limbs ++ (said ++ 10 ∷ rest) = simp append_assoc in
      ap (λ x. x ++ rest) (line_adds t n limbs said more e).spelled ∙ regroup ∙ ap (λ x. limbs_text limbs ++ x) (sym (joined_next ls whole)) ∙ so_far.spelled

  -- once the next line is read
  pub so_far_after_line : (more : List Limb) (left : List (List ℕ)) → then_line t n limbs (next ls) ≡ Ok more → left ≡ after_next ls → IsSoFar t all (n + 1) more left
  so_far_after_line more left e same = record {
    read = ap (limbs_of t (n + 1) more) same ∙ sym (limbs_after_line (Ok more) e);
    spelled = ap (λ xs. limbs_text more ++ join_with_byte 10 xs) same ∙ text_after_line more e;
    lawful = (line_adds t n limbs (next ls) more e).lawful so_far.lawful;
  }

  -- the limbs read up to the end of this line are spelled by a prefix of the lines
  spells_limbs : (more : List Limb) → then_line t n limbs (next ls) ≡ Ok more → SpellsLimbs t all
  spells_limbs more e =
      let g = line_adds t n limbs (next ls) more e in
      record {
        limbs = more;
        rest = join_with_byte 10 (after_next ls);
        nonempty = g.nonempty;
        lawful = g.lawful so_far.lawful;
        parts = sym (text_after_line more e);
      }

  -- r, the result of a call that reads this line, is the fault e
  module _ {X : Type 0} (r : Result X FileFault) (e : FileFault) (Is : FileFault → Type 0) (failed : IsErr r) (is : IsErrAnd r Is) (same : (x : FileFault) → Is x → x ≡ e) where
    -- the call has the result that the definitions give for all lines
    pub fault_on_line : (view : X → List Limb) (part : Result (List Limb) FileFault) → then_line t n limbs (next ls) ≡ part → Fails e.kind e part → Gives view r (limbs_of t 3 [] all)
    fault_on_line view part said h = passes_fault_on r e Is failed is same view part (limbs_of t 3 [] all) h (λ f. limbs_after_line (Err e) (said ∙ f))

    -- the call reports Memory only if limbs are spelled up to the end of this line
    pub memory_on_line : (part : Result (List Limb) FileFault) → then_line t n limbs (next ls) ≡ part → (e.kind ≡ Memory → IsOk part) → MemoryOnlyIf r (SpellsLimbs t all)
    memory_on_line part said h = memory_only r e Is failed is same (SpellsLimbs t all) (λ k. let more = ok_value part (h k) in spells_limbs more.0 (said ∙ more.1))

-- after the last line end, the limbs are those that `limbs_at_end` gives for the text that is left
pub at_end : (t : TowerSpec) (n : ℕ) (limbs : List Limb) (ls : List (List ℕ)) → is_end (after_next ls) ≡ true → limbs_of t n limbs ls ≡ limbs_at_end n limbs (next ls)
unfolding limbs_of
at_end t n limbs [] h = refl
at_end t n limbs (x ∷ []) h = refl
at_end t n limbs (x ∷ y ∷ xs) h = absurd (true≢false (sym h))

-- a line that spells a step is read by `then_step`, since its first word isn't `branch`
pub then_line_of_step : (t : TowerSpec) (n : ℕ) (limbs : List Limb) (line : List ℕ) (s : Step) → step_of_words (words line) ≡ Some s → then_line t n limbs line ≡ then_step t n limbs line
then_line_of_step t n limbs line s h =
    ap (λ (b : Bool). cond b (then_branch n limbs (after_next (words line))) (then_step t n limbs line)) (first_word_is_no_other (words line) s (codes "branch") refl refl refl refl h)
