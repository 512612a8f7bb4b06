-- What bytes are read as: a bench file, or the first fault in them.
use Rattle.std.specs.Prelude.{ℕ, Bool, ◌+◌, ◌==◌, ◌&&◌, ◌||◌, not, List, [], ◌∷◌, ◌++◌, Result, Ok, Err, length, if◌then◌else◌}
use Rattle.std.specs.Option.{ok_or}
use Rattle.frames.specs.declared.types.Step.{Step}
use Rattle.branch_terms.specs.declared.limb.Limb.{Limb}
use Rattle.branch_terms.specs.Limbs.{is_new_name, may_share}
use Rattle.tower_file.specs.declared.tower.TowerSpec.{TowerSpec}
use Rattle.tower_file.specs.declared.fault.FaultKind.{FaultKind}
use Rattle.tower_file.specs.declared.fault.FaultKind.TheVariants.{BadHeader, BadStep, BadBranch, Tangled}
use Rattle.tower_file.specs.declared.fault.FileFault.{FileFault}
use Rattle.tower_file.specs.declared.version.Version.TheVariants.{Two}
use Rattle.tower_file.specs.Faults.{fault}
use Rattle.tower_file.specs.Benches.{Bench, bench_of, has_limbs}
use Rattle.tower_file.specs.BenchSpelling.{bench_header}
use Rattle.tower_file.specs.Lines.{fitting_step, is_branch, branch_of}
use Rattle.tower_file.specs.Reading.{◌>>=◌, has_header, first_foreign, tower_of, reading_from}
use Rattle.words.specs.Words.{lines, words, after_next}

-- the name of a limb's branch
abbrev pub limb_name : Limb → List ℕ
limb_name l = l.name

-- a limb with one more step at its end
abbrev pub limb_with_step : Limb → Step → Limb
limb_with_step l s = record { name = l.name; from = l.from; shared = l.shared; steps = l.steps ++ s ∷ [] }

-- these limbs with one more step at the end of the last limb; no limbs if there are none
abbrev pub put_step : List Limb → Step → List Limb
put_step [] s = []
put_step (l ∷ []) s = limb_with_step l s ∷ []
put_step (l ∷ k ∷ ls) s = l ∷ put_step (k ∷ ls) s

-- these limbs with l, the limb of line n, added at the end. Line n has the fault BadBranch if l's
-- name has the wrong form or is the name of an earlier limb, or else Tangled if l's `from` and
-- `shared` don't satisfy `may_share`.
abbrev pub put_limb : ℕ → List Limb → Limb → Result (List Limb) FileFault
put_limb n limbs l =
    if not (is_new_name limbs l.name) then Err (fault BadBranch n)
    else (if may_share limbs l then Ok (limbs ++ l ∷ []) else Err (fault Tangled n))

-- these limbs with the limb of line n added at the end, given that line's words after `branch`.
-- Line n has the fault BadBranch if the words aren't those of a branch, or else the fault that
-- `put_limb` gives, if any.
abbrev pub then_branch : ℕ → List Limb → List (List ℕ) → Result (List Limb) FileFault
then_branch n limbs ws = ok_or (branch_of ws) (fault BadBranch n) >>= put_limb n limbs

-- these limbs with the step of line n added to the last limb. Line n has the fault BadBranch if
-- there is no limb, or else BadStep if the line doesn't spell a step that fits the tower.
abbrev pub then_step : TowerSpec → ℕ → List Limb → List ℕ → Result (List Limb) FileFault
then_step t n limbs line =
    if has_limbs limbs then (ok_or (fitting_step Two t line) (fault BadStep n) >>= λ s. Ok (put_step limbs s))
    else Err (fault BadBranch n)

-- these limbs with line n added: a branch if the line's first word is `branch`, and otherwise a
-- step of the last limb; or the fault of that line
abbrev pub then_line : TowerSpec → ℕ → List Limb → List ℕ → Result (List Limb) FileFault
then_line t n limbs line = if is_branch line then then_branch n limbs (after_next (words line)) else then_step t n limbs line

-- the kind of fault of a line that follows these limbs and has no line end: BadBranch if its first
-- word is `branch` or there is no limb, and otherwise BadStep
abbrev pub cut_line : List Limb → List ℕ → FaultKind
cut_line limbs line = if is_branch line || not (has_limbs limbs) then BadBranch else BadStep

-- these limbs, when no line with a line end is left. There must be at least one limb, and `rest`,
-- the text after the last line end, must be empty; otherwise there is a fault on line n, whose text
-- is `rest`.
abbrev pub limbs_at_end : ℕ → List Limb → List ℕ → Result (List Limb) FileFault
limbs_at_end n limbs rest = if length rest == 0 && has_limbs limbs then Ok limbs else Err (fault (cut_line limbs rest) n)

-- these limbs with the branches and the steps of line n and later lines added; or the first fault
-- of those lines. At the end there must be at least one limb, and no text after the last line end.
unfoldable pub limbs_of : TowerSpec → ℕ → List Limb → List (List ℕ) → Result (List Limb) FileFault
limbs_of t n limbs [] = limbs_at_end n limbs []
limbs_of t n limbs (rest ∷ []) = limbs_at_end n limbs rest
limbs_of t n limbs (line ∷ other ∷ others) = then_line t n limbs line >>= λ more. limbs_of t (n + 1) more (other ∷ others)

-- whether bytes are read as a bench file: their first line is a bench file's header and has a line
-- end
abbrev pub is_bench : List ℕ → Bool
is_bench bytes = has_header bench_header (lines bytes)

-- the bench file that these lines spell, or their first fault; whether all bytes are allowed is not
-- tested here
abbrev pub bench_of_lines : List (List ℕ) → Result Bench FileFault
bench_of_lines ls =
    if has_header bench_header ls
    then (tower_of (after_next ls) >>= λ t. limbs_of t 3 [] (after_next (after_next ls)) >>= λ limbs. Ok (bench_of t limbs))
    else Err (fault BadHeader 1)

-- what bytes are read as: a bench file, or the first fault in them
abbrev pub bench_reading : List ℕ → Result Bench FileFault
bench_reading bytes = reading_from bench_of_lines (first_foreign bytes) bytes
