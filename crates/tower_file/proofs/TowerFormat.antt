-- The format of tower files, and what the lines of one give that are read.
use Rattle.std.proofs.Common.{◌≡◌, ℕ, List, ◌∷◌, Option, Some, None, Result, Ok, sym, ap, ◌∙◌, arith}
use Rattle.std.specs.Option.{ok_or}
use Rattle.frames.specs.declared.types.Step.{Step}
use Rattle.tower_file.specs.declared.fault.FaultKind.TheVariants.{BadHeader}
use Rattle.tower_file.specs.declared.fault.FileFault.{FileFault}
use Rattle.tower_file.specs.declared.tower.TowerSpec.{TowerSpec}
use Rattle.tower_file.specs.declared.version.Version.{Version}
use Rattle.tower_file.specs.Faults.{fault}
use Rattle.tower_file.specs.Files.{file_of}
use Rattle.tower_file.specs.Spelling.{Spells, SpellsSteps}
use Rattle.tower_file.specs.Reading.{◌>>=◌, first_foreign, version_of, tower_of, steps_of, HasSomeStep, file_of_lines, reading_from}
use Rattle.words.specs.Words.{lines, after_next}
use Rattle.tower_file.proofs.Formats.{IsFormat, reading_is}
use Rattle.tower_file.proofs.Sound.{file_is}
use Rattle.tower_file.proofs.ReadBack.{reading_again}

-- the lines of a tower file are read exactly as they are spelled
pub tower_format : IsFormat Spells file_of_lines
tower_format = record { sound = file_is; reads_back = reading_again }

-- bytes without a foreign byte, of which at least one step is read, spell a tower file with steps
pub spells_steps : (bytes : List ℕ) (v : Version) (t : TowerSpec) (left : List (List ℕ)) → first_foreign bytes ≡ None → version_of (lines bytes) ≡ Some v → tower_of (after_next (lines bytes)) ≡ Ok t
    → left ≡ after_next (after_next (lines bytes)) → HasSomeStep (steps_of v t 3 left) → SpellsSteps bytes
spells_steps bytes v t left plain version tower same h =
    let ls = lines bytes in
    let following = after_next (after_next ls) in
    record {
      file = file_of v t (h.0 ∷ h.1);
      spells = reading_is tower_format bytes (file_of v t (h.0 ∷ h.1))
          (ap (λ (o : Option ℕ). reading_from file_of_lines o bytes) plain
          ∙ ap (λ (o : Option Version). ok_or o (fault BadHeader 1) >>= λ w. tower_of (after_next ls) >>= λ u. steps_of w u 3 following >>= λ ss. Ok (file_of w u ss)) version
          ∙ ap (λ (r : Result TowerSpec FileFault). r >>= λ u. steps_of v u 3 following >>= λ ss. Ok (file_of v u ss)) tower
          ∙ ap (λ (r : Result (List Step) FileFault). r >>= λ ss. Ok (file_of v t ss)) (ap (steps_of v t 3) (sym same) ∙ h.2));
      has_steps = omega arith;
    }
