-- The faults: each has a number and a name.
use Rattle.std.specs.Prelude.{◌≡◌, ℕ, List, ◌∷◌, ◌++◌, Result, Ok, Err, IfErr, codes}
use Rattle.std.specs.Fmt.{decimal}
use Rattle.tower_file.specs.declared.fault.FaultKind.{FaultKind}
use Rattle.tower_file.specs.declared.fault.FaultKind.TheVariants.{NotAscii, BadHeader, UnknownTower, BadField, BadStep, BadSize, BadBranch, Tangled, Memory}
use Rattle.tower_file.specs.declared.fault.FileFault.{FileFault}

-- a fault's number, and its name, which is spelled like the variant
abbrev pub fault_number_and_name : FaultKind → ℕ × List ℕ
fault_number_and_name NotAscii = (10, codes "NotAscii")
fault_number_and_name BadHeader = (11, codes "BadHeader")
fault_number_and_name UnknownTower = (12, codes "UnknownTower")
fault_number_and_name BadField = (13, codes "BadField")
fault_number_and_name BadStep = (14, codes "BadStep")
fault_number_and_name BadSize = (15, codes "BadSize")
fault_number_and_name BadBranch = (16, codes "BadBranch")
fault_number_and_name Tangled = (17, codes "Tangled")
fault_number_and_name Memory = (40, codes "Memory")

-- a fault's number
abbrev pub fault_number : FaultKind → ℕ
fault_number kind = (fault_number_and_name kind).0

-- a fault's name
abbrev pub fault_name : FaultKind → List ℕ
fault_name kind = (fault_number_and_name kind).1

-- what a kind of fault prints: its number, a space and its name
abbrev pub kind_display : FaultKind → List ℕ
kind_display kind = decimal (fault_number kind) ++ 32 ∷ fault_name kind

-- what a file's fault prints: the word `line`, the line's number, a colon, and the kind
abbrev pub fault_display : FileFault → List ℕ
fault_display e = codes "line " ++ decimal e.line ++ codes ": " ++ kind_display e.kind

-- the fault of this kind on this line
abbrev pub fault : FaultKind → ℕ → FileFault
fault kind line = record { kind = kind; line = line }

-- the fault that memory ran out, which is on line 0
abbrev pub out_of_memory : FileFault
out_of_memory = fault Memory 0

-- A call ends with the fault e, whose kind is given. If the kind is Memory, e is `out_of_memory`;
-- otherwise `read`, the result that the definitions give, is also the fault e.
abbrev pub Fails : {Y : Type 0} → FaultKind → FileFault → Result Y FileFault → Type 0
Fails Memory e read = e ≡ out_of_memory
Fails _ e read = read ≡ Err e

-- A call's result is the one that the definitions give, which is `read`, unless memory ran out. If
-- the call returns x, then `read` is `view x`: the definitions' form of x.
abbrev pub Gives : {X Y : Type 0} → (X → Y) → Result X FileFault → Result Y FileFault → Type 0
Gives view (Ok x) read = read ≡ Ok (view x)
Gives view (Err e) read = Fails e.kind e read

-- A call with this result reports Memory only if P holds.
abbrev pub MemoryOnlyIf : {X : Type 0} → Result X FileFault → Type 0 → Type 0
MemoryOnlyIf result P = IfErr result (λ e. e.kind ≡ Memory → P)
