-- What bytes are read as: a tower file, or the first fault in them.
use Rattle.std.specs.Prelude.{◌≡◌, ◌≢◌, ℕ, ◌+◌, List, [], ◌∷◌, Option, Some, None, Result, Ok, Err, Bool, ◌==◌, ◌&&◌, ◌||◌, not, nat_le, length, take, position, count_by, if◌then◌else◌, IfOk, IfErr}
use Rattle.std.specs.Option.{ok_or}
use Rattle.std.specs.Str.{bytes_eq}
use Rattle.frames.specs.declared.types.Step.{Step}
use Rattle.tower_file.specs.declared.tower.TowerSpec.{TowerSpec}
use Rattle.tower_file.specs.declared.line.TowerName.{TowerName}
use Rattle.tower_file.specs.declared.fault.FaultKind.TheVariants.{NotAscii, BadHeader, UnknownTower, BadField, BadStep, BadSize, Memory}
use Rattle.tower_file.specs.declared.fault.FileFault.{FileFault}
use Rattle.tower_file.specs.Faults.{fault, Gives}
use Rattle.tower_file.specs.declared.version.Version.{Version}
use Rattle.tower_file.specs.declared.version.Version.TheVariants.{One, Two}
use Rattle.tower_file.specs.Towers.{is_lawful_tower}
use Rattle.tower_file.specs.Versions.{header}
use Rattle.tower_file.specs.Files.{File, file_of}
use Rattle.words.specs.Words.{lines, words, next, after_next, is_end}
use Rattle.tower_file.specs.Lines.{tower_name, tower_of_numbers, fitting_step}

-- the result of f on the value of a reading; or, if the reading is a fault, that fault
infixl 10 ◌>>=◌
abbrev pub ◌>>=◌ : {A B : Type 0} → Result A FileFault → (A → Result B FileFault) → Result B FileFault
(Ok x) >>= f = f x
(Err e) >>= f = Err e

-- whether a file may have this byte: a line end, or one of 0x20 to 0x7E
abbrev pub is_file_byte : ℕ → Bool
is_file_byte b = b == 10 || (nat_le 32 b && nat_le b 126)

-- the index of the first foreign byte, which is one that no file may have; `None` if no byte is
-- foreign
abbrev pub first_foreign : List ℕ → Option ℕ
first_foreign bytes = position (λ b. not (is_file_byte b)) bytes

-- the number, counted from 1, of the line that has the byte at index k: one more than the number of
-- line ends before that byte
abbrev pub line_at : ℕ → List ℕ → ℕ
line_at k bytes = count_by (λ b. b == 10) (take k bytes) + 1

-- whether the first line is this header and has a line end
abbrev pub has_header : List ℕ → List (List ℕ) → Bool
has_header text ls = not (is_end (after_next ls)) && bytes_eq (next ls) text

-- the version whose header is the first line; `None` if that line is no header or has no line end
abbrev pub version_of : List (List ℕ) → Option Version
version_of ls =
    if has_header (header One) ls then Some One
    else (if has_header (header Two) ls then Some Two
    else None)

-- the tower; or, if it isn't lawful, BadSize on line 2
abbrev pub checked_tower : TowerSpec → Result TowerSpec FileFault
checked_tower t = if is_lawful_tower t then Ok t else Err (fault BadSize 2)

-- the tower of this kind with these words of line 2 as its numbers. The fault is BadField if the
-- line is cut (has no line end) or the words aren't exactly the tower's numbers, or else BadSize if
-- the tower isn't lawful.
abbrev pub tower_of_fields : Bool → List (List ℕ) → TowerName → Result TowerSpec FileFault
tower_of_fields is_cut ws name = if is_cut then Err (fault BadField 2) else (ok_or (tower_of_numbers name ws) (fault BadField 2) >>= checked_tower)

-- the tower of the second line, given that line's words and whether it has no line end (`is_cut`);
-- or the line's fault: UnknownTower, BadField or BadSize
abbrev pub second_line : Bool → List (List ℕ) → Result TowerSpec FileFault
second_line is_cut ws = ok_or (tower_name (next ws)) (fault UnknownTower 2) >>= tower_of_fields is_cut (after_next ws)

-- the tower of a file, given the lines from the second on; or the fault of the second line
abbrev pub tower_of : List (List ℕ) → Result TowerSpec FileFault
tower_of ls = second_line (is_end (after_next ls)) (words (next ls))

-- the step of line n, the first of these lines; `None` if line n is the empty text after the last
-- line end; BadStep if line n is other text without a line end, or isn't a step that this file may
-- have
abbrev pub next_step : Version → TowerSpec → ℕ → List (List ℕ) → Result (Option Step) FileFault
next_step v t n ls =
    if is_end (after_next ls) then (if length (next ls) == 0 then Ok None else Err (fault BadStep n))
    else (ok_or (fitting_step v t (next ls)) (fault BadStep n) >>= λ s. Ok (Some s))

-- the steps of these lines, the first of which is line n; or BadStep on the first line that has no
-- line end or isn't a step that this file may have. The empty text after the last line end isn't a
-- fault.
unfoldable pub steps_of : Version → TowerSpec → ℕ → List (List ℕ) → Result (List Step) FileFault
steps_of v t n [] = Ok []
steps_of v t n (rest ∷ []) = if length rest == 0 then Ok [] else Err (fault BadStep n)
steps_of v t n (line ∷ other ∷ others) = do
  s ← ok_or (fitting_step v t line) (fault BadStep n)
  ss ← steps_of v t (n + 1) (other ∷ others)
  Ok (s ∷ ss)

-- the tower file that these lines spell, or their first fault; whether all bytes are allowed is not
-- tested here
abbrev pub file_of_lines : List (List ℕ) → Result File FileFault
file_of_lines ls = do
  v ← ok_or (version_of ls) (fault BadHeader 1)
  t ← tower_of (after_next ls)
  ss ← steps_of v t 3 (after_next (after_next ls))
  Ok (file_of v t ss)

-- what bytes are read as, given the index of their first foreign byte: NotAscii on the line of that
-- byte, if there is such a byte; otherwise what `of_lines` gives for the bytes' lines
abbrev pub reading_from : {Y : Type 0} → (List (List ℕ) → Result Y FileFault) → Option ℕ → List ℕ → Result Y FileFault
reading_from of_lines (Some k) bytes = Err (fault NotAscii (line_at k bytes))
reading_from of_lines None bytes = of_lines (lines bytes)

-- the first fault of the bytes, given the index of their first foreign byte and e, the fault of
-- their lines: NotAscii on the line of the foreign byte; or e, if no byte is foreign
abbrev pub first_fault : Option ℕ → List ℕ → FileFault → FileFault
first_fault (Some k) bytes e = fault NotAscii (line_at k bytes)
first_fault None bytes e = e

-- the result of reading the bytes' lines. But if that result is a fault, and some byte is foreign,
-- the fault is replaced by NotAscii on the line of the first foreign byte.
abbrev pub foreign_first : {Y : Type 0} → List ℕ → Result Y FileFault → Result Y FileFault
foreign_first bytes (Ok y) = Ok y
foreign_first bytes (Err e) = Err (first_fault (first_foreign bytes) bytes e)

-- Unless memory ran out, a parser's result for these bytes is the file that they spell, or their
-- first fault if they spell no file.
pub record Parses {X F : Type 0} (view : X → F) (Spells : List ℕ → F → Type 0) (of_lines : List (List ℕ) → Result F FileFault) (bytes : List ℕ) (result : Result X FileFault) : Type 0 where
  pub found : IfOk result (λ x. Spells bytes (view x))
  pub only : (f : F) → Spells bytes f → Gives view result (Ok f)
  pub exact : Gives view result (reading_from of_lines (first_foreign bytes) bytes)
  pub no_file : IfErr result (λ e. e.kind ≢ Memory → (f : F) → Spells bytes f → ⊥)

-- what bytes are read as: a tower file, or the first fault in them
abbrev pub file_reading : List ℕ → Result File FileFault
file_reading bytes = reading_from file_of_lines (first_foreign bytes) bytes

-- the steps were read without a fault, and there is at least one, so that memory is needed
abbrev pub HasSomeStep : Result (List Step) FileFault → Type 0
HasSomeStep read = (s : Step) × (ss : List Step) × (read ≡ Ok (s ∷ ss))
