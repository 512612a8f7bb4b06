-- Bytes that spell a tower file are read as that file.
use Rattle.std.proofs.Common.{◌≡◌, ℕ, ◌+◌, ◌^◌, ◌<◌, ◌≤◌, true, false, cond, not, nat_lt, List, [], ◌∷◌, ◌++◌, length, Option, Some, None, Result, Ok, refl, ap, ◌∙◌, append_assoc, arith}
use Rattle.std.specs.Prelude.{codes}
use Rattle.std.specs.Option.{ok_or, option_and_then}
use Rattle.std.specs.List.{list_all, prefix_len}
use Rattle.std.proofs.lemmas.Bool.{and_parts, and_from, ltb-true, le-ltb}
use Rattle.std.proofs.lemmas.Bool.Decides.{nat_tests}
use Rattle.frames.specs.declared.types.Op.{Op}
use Rattle.frames.specs.declared.types.Op.TheVariants as op
use Rattle.frames.specs.declared.types.Step.{Step}
use Rattle.frames.specs.declared.types.Step.TheVariants as step
use Rattle.frames.specs.laws.OneWriter.{nobody_else, no_other_value}
use Rattle.tower_file.specs.declared.tower.TowerSpec.{TowerSpec}
use Rattle.tower_file.specs.declared.tower.TowerSpec.TheVariants.{Safe, Copies, Regular, Unary, Stamped, Matrix}
use Rattle.tower_file.specs.declared.fault.FaultKind.TheVariants.{BadHeader, BadStep}
use Rattle.tower_file.specs.declared.fault.FileFault.{FileFault}
use Rattle.tower_file.specs.Faults.{fault}
use Rattle.tower_file.specs.Towers.{values_of, processes_of, is_lawful_tower, suits, fits}
use Rattle.tower_file.specs.declared.version.Version.{Version}
use Rattle.tower_file.specs.declared.version.Version.TheVariants.{One, Two}
use Rattle.frames.specs.declared.limits.TheConstants.{MOST_PROCESSES, MOST_VALUES}
use Rattle.tower_file.specs.Versions.{header, has_step, may_have}
use Rattle.tower_file.specs.Files.{File, IsLawfulFile, file_of}
use Rattle.words.specs.Words.{words, lines, is_end}
use Rattle.words.specs.Steps.{step_text, HasShortNumbers}
use Rattle.tower_file.specs.Lines.{fitting_step}
use Rattle.tower_file.specs.Spelling.{text_with_end, tower_text, schedule_text, spelling, Spells}
use Rattle.tower_file.specs.Reading.{◌>>=◌, is_file_byte, first_foreign, version_of, second_line, tower_of, steps_of, file_of_lines, reading_from, file_reading}
use Rattle.words.proofs.Numbers.{number-decimal}
use Rattle.words.proofs.Texts.{all_weaker, all_append, is_printable, word_with_numbers_printable, words-word_with_numbers}
use Rattle.words.proofs.Steps.{step_again, step_printable}
use Rattle.tower_file.proofs.Texts.{printable_is_file_byte, lines-line}

-- ---- the numbers of lawful files have at most 9 digits

-- tower t has at most MOST_VALUES values and MOST_PROCESSES processes
pub record IsWithinBounds (t : TowerSpec) : Type 0 where
  pub values : values_of t ≤ MOST_VALUES
  pub processes : processes_of t ≤ MOST_PROCESSES

-- a lawful tower is within these bounds
pub within_bounds : (t : TowerSpec) → is_lawful_tower t ≡ true → IsWithinBounds t
within_bounds (Safe init) h = record { values = omega arith; processes = omega arith }
within_bounds (Copies readers init) h = record { values = omega arith; processes = grind (arith, nat_tests) }
within_bounds (Regular readers init) h = record { values = omega arith; processes = grind (arith, nat_tests) }
within_bounds (Unary values readers init) h = record { values = grind (arith, nat_tests); processes = grind (arith, nat_tests) }
within_bounds (Stamped values last) h = record { values = grind (arith, nat_tests); processes = omega arith }
within_bounds (Matrix processes values last_tag last_stamp) h = record { values = grind (arith, nat_tests); processes = grind (arith, nat_tests) }

-- an operation suits only processes that the tower has, and values that it has
process_below : (t : TowerSpec) (who : ℕ) (o : Op) → suits t who o ≡ true → who < processes_of t
process_below (Safe init) who o h = nobody_else 2 2 who o h
process_below (Copies readers init) who o h = nobody_else 2 (readers + 1) who o h
process_below (Regular readers init) who o h = nobody_else 2 (readers + 1) who o h
process_below (Unary values readers init) who o h = nobody_else values (readers + 1) who o h
process_below (Stamped values last) who o h = nobody_else values 2 who o h
process_below (Matrix processes values last_tag last_stamp) who (op.Write v) h = grind (arith, nat_tests)
process_below (Matrix processes values last_tag last_stamp) who op.Read h = grind (arith, nat_tests)

value_below : (t : TowerSpec) (who v : ℕ) → suits t who (op.Write v) ≡ true → v < values_of t
value_below (Safe init) who v h = no_other_value 2 2 who v h
value_below (Copies readers init) who v h = no_other_value 2 (readers + 1) who v h
value_below (Regular readers init) who v h = no_other_value 2 (readers + 1) who v h
value_below (Unary values readers init) who v h = no_other_value values (readers + 1) who v h
value_below (Stamped values last) who v h = no_other_value values 2 who v h
value_below (Matrix processes values last_tag last_stamp) who v h = grind (arith, nat_tests)

-- ---- the tower's line

-- a tower's line is printable
pub tower_printable : (t : TowerSpec) → is_lawful_tower t ≡ true → list_all is_printable (tower_text t) ≡ true
tower_printable (Safe init) h =
    let a : init < 10 ^ 9 = grind (arith, nat_tests) in
    word_with_numbers_printable (codes "safe") (init ∷ []) refl (a, tt)
tower_printable (Copies readers init) h =
    let a : readers < 10 ^ 9 = grind (arith, nat_tests) in
    let b : init < 10 ^ 9 = grind (arith, nat_tests) in
    word_with_numbers_printable (codes "copies") (readers ∷ init ∷ []) refl (a, (b, tt))
tower_printable (Regular readers init) h =
    let a : readers < 10 ^ 9 = grind (arith, nat_tests) in
    let b : init < 10 ^ 9 = grind (arith, nat_tests) in
    word_with_numbers_printable (codes "regular") (readers ∷ init ∷ []) refl (a, (b, tt))
tower_printable (Unary values readers init) h =
    let a : values < 10 ^ 9 = grind (arith, nat_tests) in
    let b : readers < 10 ^ 9 = grind (arith, nat_tests) in
    let c : init < 10 ^ 9 = grind (arith, nat_tests) in
    word_with_numbers_printable (codes "unary") (values ∷ readers ∷ init ∷ []) refl (a, (b, (c, tt)))
tower_printable (Stamped values last) h =
    let a : values < 10 ^ 9 = grind (arith, nat_tests) in
    let b : last < 10 ^ 9 = grind (arith, nat_tests) in
    word_with_numbers_printable (codes "stamped") (values ∷ last ∷ []) refl (a, (b, tt))
tower_printable (Matrix processes values last_tag last_stamp) h =
    let a : processes < 10 ^ 9 = grind (arith, nat_tests) in
    let b : values < 10 ^ 9 = grind (arith, nat_tests) in
    let c : last_tag < 10 ^ 9 = grind (arith, nat_tests) in
    let d : last_stamp < 10 ^ 9 = grind (arith, nat_tests) in
    word_with_numbers_printable (codes "matrix") (processes ∷ values ∷ last_tag ∷ last_stamp ∷ []) refl (a, (b, (c, (d, tt))))

-- the words of a tower's line are read as the tower
tower_again : (t : TowerSpec) → is_lawful_tower t ≡ true → second_line false (words (tower_text t)) ≡ Ok t
tower_again (Safe init) h =
    let a : init < 10 ^ 9 = grind (arith, nat_tests) in
    ap (second_line false) (words-word_with_numbers (codes "safe") (init ∷ []) refl (a, tt))
    ∙ rw (number-decimal init a, h) refl
tower_again (Copies readers init) h =
    let a : readers < 10 ^ 9 = grind (arith, nat_tests) in
    let b : init < 10 ^ 9 = grind (arith, nat_tests) in
    ap (second_line false) (words-word_with_numbers (codes "copies") (readers ∷ init ∷ []) refl (a, (b, tt)))
    ∙ rw (number-decimal readers a, number-decimal init b, h) refl
tower_again (Regular readers init) h =
    let a : readers < 10 ^ 9 = grind (arith, nat_tests) in
    let b : init < 10 ^ 9 = grind (arith, nat_tests) in
    ap (second_line false) (words-word_with_numbers (codes "regular") (readers ∷ init ∷ []) refl (a, (b, tt)))
    ∙ rw (number-decimal readers a, number-decimal init b, h) refl
tower_again (Unary values readers init) h =
    let a : values < 10 ^ 9 = grind (arith, nat_tests) in
    let b : readers < 10 ^ 9 = grind (arith, nat_tests) in
    let c : init < 10 ^ 9 = grind (arith, nat_tests) in
    ap (second_line false) (words-word_with_numbers (codes "unary") (values ∷ readers ∷ init ∷ []) refl (a, (b, (c, tt))))
    ∙ rw (number-decimal values a, number-decimal readers b, number-decimal init c, h) refl
tower_again (Stamped values last) h =
    let a : values < 10 ^ 9 = grind (arith, nat_tests) in
    let b : last < 10 ^ 9 = grind (arith, nat_tests) in
    ap (second_line false) (words-word_with_numbers (codes "stamped") (values ∷ last ∷ []) refl (a, (b, tt)))
    ∙ rw (number-decimal values a, number-decimal last b, h) refl
tower_again (Matrix processes values last_tag last_stamp) h =
    let a : processes < 10 ^ 9 = grind (arith, nat_tests) in
    let b : values < 10 ^ 9 = grind (arith, nat_tests) in
    let c : last_tag < 10 ^ 9 = grind (arith, nat_tests) in
    let d : last_stamp < 10 ^ 9 = grind (arith, nat_tests) in
    ap (second_line false) (words-word_with_numbers (codes "matrix") (processes ∷ values ∷ last_tag ∷ last_stamp ∷ []) refl (a, (b, (c, (d, tt)))))
    ∙ rw (number-decimal processes a, number-decimal values b, number-decimal last_tag c, number-decimal last_stamp d, h) refl

-- ---- the steps

-- the numbers of a fitting step have at most 9 digits
pub fitting_step_short : (t : TowerSpec) (s : Step) → IsWithinBounds t → fits t s ≡ true → HasShortNumbers s
fitting_step_short t (step.Write p v) small h = (omega (arith, small.processes, process_below t p (op.Write v) h), omega (arith, small.values, value_below t p v h))
fitting_step_short t (step.Read p) small h = omega (arith, small.processes, process_below t p op.Read h)
fitting_step_short t (step.Go p c) small h =
    let g = and_parts (nat_lt p (processes_of t)) (nat_lt c 2) h in
    (omega (arith, small.processes, ltb-true p (processes_of t) g.0), omega (arith, ltb-true c 2 g.1))
fitting_step_short t (step.Stop p) small h = omega (arith, small.processes, ltb-true p (processes_of t) h)

-- a step that a file may have fits its tower
fits_tower : (v : Version) (t : TowerSpec) (s : Step) → may_have v t s ≡ true → fits t s ≡ true
fits_tower v t s h = (and_parts (has_step v s) (fits t s) h).1

-- steps that a file may have fit its tower
pub steps_fit : (v : Version) (t : TowerSpec) (ss : List Step) → list_all (may_have v t) ss ≡ true → list_all (fits t) ss ≡ true
steps_fit v t [] h = refl
steps_fit v t (s ∷ ss) h =
    let a = and_parts (may_have v t s) (list_all (may_have v t) ss) h in
    and_from (fits t s) (list_all (fits t) ss) (fits_tower v t s a.0) (steps_fit v t ss a.1)

-- the line of a step that a file may have is read as it
pub fitting_again : (v : Version) (t : TowerSpec) (s : Step) → IsWithinBounds t → may_have v t s ≡ true → fitting_step v t (step_text s) ≡ Some s
fitting_again v t s small h =
    ap (λ (o : Option Step). option_and_then (λ x. cond (may_have v t x) (Some x) None) o) (step_again s (fitting_step_short t s small (fits_tower v t s h))) ∙ ap (λ b. cond b (Some s) None) h

-- the lines of steps, and the empty text after the last line end
abbrev step_lines : List Step → List (List ℕ)
step_lines [] = [] ∷ []
step_lines (s ∷ ss) = step_text s ∷ step_lines ss

step_lines_nonempty : (ss : List Step) → is_end (step_lines ss) ≡ false
step_lines_nonempty [] = refl
step_lines_nonempty (s ∷ ss) = refl

-- a line that isn't the last is read, and then the others
steps_more : (v : Version) (t : TowerSpec) (n : ℕ) (l : List ℕ) (ls : List (List ℕ)) → is_end ls ≡ false
    → steps_of v t n (l ∷ ls) ≡ (ok_or (fitting_step v t l) (fault BadStep n) >>= λ s. steps_of v t (n + 1) ls >>= λ ss. Ok (s ∷ ss))
unfolding steps_of
steps_more v t n l [] h = absurd cc
steps_more v t n l (k ∷ ls) h = refl

-- the lines of steps are read as these
steps_again : (v : Version) (t : TowerSpec) (n : ℕ) (ss : List Step) → IsWithinBounds t → list_all (may_have v t) ss ≡ true → steps_of v t n (step_lines ss) ≡ Ok ss
unfolding steps_of
steps_again v t n [] small h = refl
steps_again v t n (s ∷ ss) small h =
    let a = and_parts (may_have v t s) (list_all (may_have v t) ss) h in
    steps_more v t n (step_text s) (step_lines ss) (step_lines_nonempty ss)
    ∙ ap (λ (o : Option Step). ok_or o (fault BadStep n) >>= λ x. steps_of v t (n + 1) (step_lines ss) >>= λ xs. Ok (x ∷ xs)) (fitting_again v t s small a.0)
    ∙ ap (λ (r : Result (List Step) FileFault). r >>= λ xs. Ok (s ∷ xs)) (steps_again v t (n + 1) ss small a.1)

-- the bytes of steps are cut into their lines
lines-steps : (v : Version) (t : TowerSpec) (ss : List Step) → IsWithinBounds t → list_all (may_have v t) ss ≡ true → lines (schedule_text ss) ≡ step_lines ss
lines-steps v t [] small h = refl
lines-steps v t (s ∷ ss) small h =
    let a = and_parts (may_have v t s) (list_all (may_have v t) ss) h in
    lines-line (step_text s) (schedule_text ss) (step_printable s (fitting_step_short t s small (fits_tower v t s a.0))) ∙ ap (λ ls. step_text s ∷ ls) (lines-steps v t ss small a.1)

-- ---- no byte is foreign

-- a printable line and its line end have no foreign byte
pub line_plain : (xs : List ℕ) → list_all is_printable xs ≡ true → list_all is_file_byte (text_with_end xs) ≡ true
line_plain xs h = all_append is_file_byte xs (10 ∷ []) (all_weaker is_printable is_file_byte printable_is_file_byte xs h) refl

-- no byte of the steps is foreign
steps_plain : (v : Version) (t : TowerSpec) (ss : List Step) → IsWithinBounds t → list_all (may_have v t) ss ≡ true → list_all is_file_byte (schedule_text ss) ≡ true
steps_plain v t [] small h = refl
steps_plain v t (s ∷ ss) small h =
    let a = and_parts (may_have v t s) (list_all (may_have v t) ss) h in
    all_append is_file_byte (text_with_end (step_text s)) (schedule_text ss) (line_plain (step_text s) (step_printable s (fitting_step_short t s small (fits_tower v t s a.0)))) (steps_plain v t ss small a.1)

-- if no byte is foreign, all bytes are before the first foreign one
prefix_is_all : (xs : List ℕ) → list_all is_file_byte xs ≡ true → prefix_len (λ x. not (not (is_file_byte x))) xs ≡ length xs
prefix_is_all [] h = refl
prefix_is_all (x ∷ xs) h =
    let a = and_parts (is_file_byte x) (list_all is_file_byte xs) h in
    let rest = prefix_is_all xs a.1 in
    ap (λ b. cond (not (not b)) (1 + prefix_len (λ y. not (not (is_file_byte y))) xs) 0) a.0 ∙ omega (arith, rest)

-- if each byte may be in a file, none is foreign
pub none_foreign : (xs : List ℕ) → list_all is_file_byte xs ≡ true → first_foreign xs ≡ None
none_foreign xs h =
    let n : ℕ = prefix_len (λ x. not (not (is_file_byte x))) xs in
    ap (λ b. cond b (Some n) None) (le-ltb n (length xs) (omega (arith, prefix_is_all xs h)))

-- ---- files

-- a tower's line, with its line end, is read as the tower
pub tower_of_lines : (t : TowerSpec) (ls : List (List ℕ)) → is_end ls ≡ false → is_lawful_tower t ≡ true → tower_of (tower_text t ∷ ls) ≡ Ok t
tower_of_lines t ls more h = ap (λ b. second_line b (words (tower_text t))) more ∙ tower_again t h

header_printable : (v : Version) → list_all is_printable (header v) ≡ true
header_printable One = refl
header_printable Two = refl

-- a version's header is read as the version
version_again : (v : Version) (l : List ℕ) (ls : List (List ℕ)) → version_of (header v ∷ l ∷ ls) ≡ Some v
version_again One l ls = refl
version_again Two l ls = refl

-- the bytes of a tower file are cut into its lines
lines-spelling : (f : File) → IsLawfulFile f → lines (spelling f) ≡ header f.version ∷ tower_text f.tower ∷ step_lines f.steps
lines-spelling f lawful =
    let a = and_parts (is_lawful_tower f.tower) (list_all (may_have f.version f.tower) f.steps) lawful in
    let small = within_bounds f.tower a.0 in
    ap lines (append_assoc (text_with_end (header f.version)) (text_with_end (tower_text f.tower)) (schedule_text f.steps))
    ∙ lines-line (header f.version) (text_with_end (tower_text f.tower) ++ schedule_text f.steps) (header_printable f.version)
    ∙ ap (λ ls. header f.version ∷ ls) (lines-line (tower_text f.tower) (schedule_text f.steps) (tower_printable f.tower a.0))
    ∙ ap (λ ls. header f.version ∷ tower_text f.tower ∷ ls) (lines-steps f.version f.tower f.steps small a.1)

-- no byte of a tower file is foreign
spelling_plain : (f : File) → IsLawfulFile f → list_all is_file_byte (spelling f) ≡ true
spelling_plain f lawful =
    let a = and_parts (is_lawful_tower f.tower) (list_all (may_have f.version f.tower) f.steps) lawful in
    all_append is_file_byte (text_with_end (header f.version) ++ text_with_end (tower_text f.tower)) (schedule_text f.steps)
    (all_append is_file_byte (text_with_end (header f.version)) (text_with_end (tower_text f.tower)) (line_plain (header f.version) (header_printable f.version)) (line_plain (tower_text f.tower) (tower_printable f.tower a.0)))
    (steps_plain f.version f.tower f.steps (within_bounds f.tower a.0) a.1)

-- the lines of a tower file are read as it
file_again : (f : File) → IsLawfulFile f → file_of_lines (header f.version ∷ tower_text f.tower ∷ step_lines f.steps) ≡ Ok f
file_again f lawful =
    let a = and_parts (is_lawful_tower f.tower) (list_all (may_have f.version f.tower) f.steps) lawful in
    let rest : List (List ℕ) = step_lines f.steps in
    ap (λ (o : Option Version). ok_or o (fault BadHeader 1) >>= λ v. tower_of (tower_text f.tower ∷ rest) >>= λ t. steps_of v t 3 rest >>= λ ss. Ok (file_of v t ss)) (version_again f.version (tower_text f.tower) rest)
    ∙ ap (λ (r : Result TowerSpec FileFault). r >>= λ t. steps_of f.version t 3 rest >>= λ ss. Ok (file_of f.version t ss)) (tower_of_lines f.tower (step_lines f.steps) (step_lines_nonempty f.steps) a.0)
    ∙ ap (λ (r : Result (List Step) FileFault). r >>= λ ss. Ok (file_of f.version f.tower ss)) (steps_again f.version f.tower 3 f.steps (within_bounds f.tower a.0) a.1)

-- the bytes of a tower file are read as it
reading-spelling : (f : File) → IsLawfulFile f → file_reading (spelling f) ≡ Ok f
reading-spelling f lawful =
    ap (λ o. reading_from file_of_lines o (spelling f)) (none_foreign (spelling f) (spelling_plain f lawful))
    ∙ ap file_of_lines (lines-spelling f lawful)
    ∙ file_again f lawful

-- bytes that spell a tower file are read as it
pub reading_again : (bytes : List ℕ) (f : File) → Spells bytes f → file_reading bytes ≡ Ok f
reading_again bytes f s = ap file_reading s.spelled ∙ reading-spelling f s.lawful
