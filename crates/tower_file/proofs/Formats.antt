-- Formats of files: what follows for the bytes if a format's lines are read exactly as they are
-- spelled.
use Rattle.std.proofs.Common.{◌≡◌, ◌≢◌, ℕ, List, Option, Some, None, Result, Ok, Err, refl, sym, ◌∙◌, subst}
use Rattle.std.specs.Prelude.{IfOk, IfErr}
use Rattle.std.specs.List.{join_with_byte}
use Rattle.std.proofs.lemmas.List.Splits.{join_with_byte-slice_split}
use Rattle.tower_file.specs.declared.fault.FaultKind.{FaultKind}
use Rattle.tower_file.specs.declared.fault.FaultKind.TheVariants.{NotAscii, BadHeader, UnknownTower, BadField, BadStep, BadSize, BadBranch, Tangled, Memory}
use Rattle.tower_file.specs.declared.fault.FileFault.{FileFault}
use Rattle.tower_file.specs.Faults.{Fails, Gives, MemoryOnlyIf}
use Rattle.tower_file.specs.Reading.{first_foreign, reading_from, first_fault, foreign_first, Parses}
use Rattle.words.specs.Words.{lines}

-- If lines are read as a file, they spell it; and bytes that spell a file are read as that file.
pub record IsFormat {F : Type 0} (Spells : List ℕ → F → Type 0) (of_lines : List (List ℕ) → Result F FileFault) : Type 0 where
  pub sound : (ls : List (List ℕ)) (f : F) → of_lines ls ≡ Ok f → Spells (join_with_byte 10 ls) f
  pub reads_back : (bytes : List ℕ) (f : F) → Spells bytes f → reading_from of_lines (first_foreign bytes) bytes ≡ Ok f

-- the definitions don't give both a file and a fault other than Memory
no_fault : {F : Type 0} (k : FaultKind) (e : FileFault) (f : F) → Fails k e (let r : Result F FileFault = Ok f in r) → k ≢ Memory → ⊥
no_fault NotAscii e f given other = cc
no_fault BadHeader e f given other = cc
no_fault UnknownTower e f given other = cc
no_fault BadField e f given other = cc
no_fault BadStep e f given other = cc
no_fault BadSize e f given other = cc
no_fault BadBranch e f given other = cc
no_fault Tangled e f given other = cc
no_fault Memory e f given other = other refl

module _ {F : Type 0} {Spells : List ℕ → F → Type 0} {of_lines : List (List ℕ) → Result F FileFault} (format : IsFormat Spells of_lines) where
  -- `reading_is`, by the first foreign byte, if there is one
  reading_from_is : (o : Option ℕ) (bytes : List ℕ) (f : F) → reading_from of_lines o bytes ≡ Ok f → Spells bytes f
  reading_from_is (Some k) bytes f h = absurd cc
  reading_from_is None bytes f h = subst (λ (x : List ℕ). Spells x f) (join_with_byte-slice_split 10 bytes) (format.sound (lines bytes) f h)

  -- if bytes are read as a file, they spell it
  pub reading_is : (bytes : List ℕ) (f : F) → reading_from of_lines (first_foreign bytes) bytes ≡ Ok f → Spells bytes f
  reading_is bytes f h = reading_from_is (first_foreign bytes) bytes f h

  -- no bytes spell two files
  pub one_file : (bytes : List ℕ) (f g : F) → Spells bytes f → Spells bytes g → f ≡ g
  one_file bytes f g s u = let both = sym (format.reads_back bytes f s) ∙ format.reads_back bytes g u in cc

  module _ {X : Type 0} (view : X → F) where
    -- if r is what the definitions give for the bytes' lines, then `foreign_first bytes r` is what
    -- they give for the bytes
    reading_of : (bytes : List ℕ) (r : Result X FileFault) → Gives view r (of_lines (lines bytes))
        → Gives view (foreign_first bytes r) (reading_from of_lines (first_foreign bytes) bytes)
    reading_of bytes (Ok x) h = format.reads_back bytes (view x) (reading_from_is None bytes (view x) h)
    reading_of bytes (Err e) h = by (first_foreign bytes)
      where
        by : (o : Option ℕ) → Fails (first_fault o bytes e).kind (first_fault o bytes e) (reading_from of_lines o bytes)
        by (Some k) = refl
        by None = h

    -- the three clauses of `Parses` that follow from `exact`
    found : (bytes : List ℕ) (r : Result X FileFault) → Gives view r (reading_from of_lines (first_foreign bytes) bytes) → IfOk r (λ x. Spells bytes (view x))
    found bytes (Ok x) given = reading_is bytes (view x) given
    found bytes (Err e) given = tt

    only : (bytes : List ℕ) (r : Result X FileFault) → Gives view r (reading_from of_lines (first_foreign bytes) bytes) → (f : F) → Spells bytes f → Gives view r (Ok f)
    only bytes r given f s = subst (λ (read : Result F FileFault). Gives view r read) (format.reads_back bytes f s) given

    spells_none : (bytes : List ℕ) (r : Result X FileFault) → Gives view r (reading_from of_lines (first_foreign bytes) bytes)
        → IfErr r (λ e. e.kind ≢ Memory → (f : F) → Spells bytes f → ⊥)
    spells_none bytes (Ok x) given = tt
    spells_none bytes (Err e) given = λ other f s. no_fault e.kind e f (only bytes (Err e) given f s) other

    -- a call that reads the lines, and then puts foreign bytes first, parses the bytes
    pub parses : (bytes : List ℕ) (r whole : Result X FileFault) → Gives view r (of_lines (lines bytes)) → whole ≡ foreign_first bytes r → Parses view Spells of_lines bytes whole
    parses bytes r whole given same =
        let exact = subst (λ (w : Result X FileFault). Gives view w (reading_from of_lines (first_foreign bytes) bytes)) (sym same) (reading_of bytes r given) in
        record { found = found bytes whole exact; only = only bytes whole exact; exact = exact; no_file = spells_none bytes whole exact }

-- P holds if `first_fault` gives Memory, given that P holds if e is Memory and no byte
-- is foreign
memory_if_first_fault : (bytes : List ℕ) (P : Type 0) (e : FileFault) (o : Option ℕ) → first_foreign bytes ≡ o → (e.kind ≡ Memory → first_foreign bytes ≡ None → P)
    → (first_fault o bytes e).kind ≡ Memory → P
memory_if_first_fault bytes P e (Some k) foreign h memory = absurd cc
memory_if_first_fault bytes P e None foreign h memory = h memory foreign

module _ {F : Type 0} (bytes : List ℕ) (P : Type 0) where
  -- Memory is reported of bytes only if it is of their lines, and no byte is foreign
  memory_of_lines : (r : Result F FileFault) → MemoryOnlyIf r (first_foreign bytes ≡ None → P) → MemoryOnlyIf (foreign_first bytes r) P
  memory_of_lines (Ok f) h = tt
  memory_of_lines (Err e) h = memory_if_first_fault bytes P e (first_foreign bytes) refl h

  -- `memory_of_lines`, for a result that is `foreign_first`'s
  pub plain_memory : (r whole : Result F FileFault) → MemoryOnlyIf r (first_foreign bytes ≡ None → P) → whole ≡ foreign_first bytes r → MemoryOnlyIf whole P
  plain_memory r whole known same = subst (λ (w : Result F FileFault). MemoryOnlyIf w P) (sym same) (memory_of_lines r known)
