-- The format of bench files, and what the lines of one give that are read.
use Rattle.std.proofs.Common.{◌≡◌, ℕ, true, List, [], ◌++◌, None, Ok, refl, sym, ap, ◌∙◌, append_assoc}
use Rattle.std.specs.Prelude.{◌&&◌}
use Rattle.std.specs.List.{join_with_byte}
use Rattle.std.proofs.lemmas.Bool.{and_from}
use Rattle.std.proofs.lemmas.List.Splits.{join_with_byte-slice_split}
use Rattle.branch_terms.specs.declared.limb.Limb.{Limb}
use Rattle.tower_file.specs.declared.tower.TowerSpec.{TowerSpec}
use Rattle.tower_file.specs.Towers.{is_lawful_tower}
use Rattle.tower_file.specs.Benches.{IsLawfulBench, bench_of, has_limbs, are_lawful}
use Rattle.tower_file.specs.Spelling.{text_with_end, tower_text}
use Rattle.tower_file.specs.BenchSpelling.{bench_header, bench_spelling, SpellsBench, SpellsLimbs, SpellsFront}
use Rattle.tower_file.specs.Reading.{has_header, first_foreign, tower_of}
use Rattle.tower_file.specs.BenchReading.{limbs_of, bench_of_lines}
use Rattle.words.specs.Words.{lines, after_next}
use Rattle.tower_file.proofs.BenchLimbs.{limbs_text}
use Rattle.tower_file.proofs.BenchSound.{limbs_are, first_two_lines, bench_is}
use Rattle.tower_file.proofs.Formats.{IsFormat}
use Rattle.tower_file.proofs.BenchReadBack.{bench_reading_again}

-- the lines of a bench file are read exactly as they are spelled
pub bench_format : IsFormat SpellsBench bench_of_lines
bench_format = record { sound = bench_is; reads_back = bench_reading_again }

-- a lawful tower, and limbs that were read, are a lawful bench
pub read_bench_is_lawful : (t : TowerSpec) (n : ℕ) (left : List (List ℕ)) (limbs : List Limb) → is_lawful_tower t ≡ true → limbs_of t n [] left ≡ Ok limbs → IsLawfulBench (bench_of t limbs)
read_bench_is_lawful t n left limbs lawful read =
    let a = limbs_are t n [] left limbs read in
    and_from (is_lawful_tower t && has_limbs limbs) (are_lawful t limbs) (and_from (is_lawful_tower t) (has_limbs limbs) lawful a.nonempty) (a.lawful refl)

-- if the first two lines are right, and the lines after them begin with the spelling of limbs, a
-- prefix of the bytes spells a bench file
pub spells_front : (bytes : List ℕ) (t : TowerSpec) (left : List (List ℕ)) → first_foreign bytes ≡ None → has_header bench_header (lines bytes) ≡ true → tower_of (after_next (lines bytes)) ≡ Ok t
    → left ≡ after_next (after_next (lines bytes)) → SpellsLimbs t left → SpellsFront bytes
spells_front bytes t left plain header tower same s =
    let a = first_two_lines (lines bytes) t header tower in
    let before : List ℕ = text_with_end bench_header ++ text_with_end (tower_text t) in
    record {
      front = bench_spelling (bench_of t s.limbs);
      rest = s.rest;
      bench = bench_of t s.limbs;
      spells = record {
        lawful = and_from (is_lawful_tower t && has_limbs s.limbs) (are_lawful t s.limbs) (and_from (is_lawful_tower t) (has_limbs s.limbs) a.lawful s.nonempty) s.lawful;
        spelled = refl;
      };
      parts = sym (join_with_byte-slice_split 10 bytes) ∙ a.spelled (limbs_text s.limbs ++ s.rest) (ap (join_with_byte 10) (sym same) ∙ s.parts)
          ∙ sym (append_assoc before (limbs_text s.limbs) s.rest);
      plain = plain;
    }
