-- The lists of operations of a question that is being read, one for each process, in vectors.
use Rattle.std.proofs.Common.{◌≡◌, ℕ, List, set}
use Rattle.std.specs.Global.{Vec}
use Rattle.std.proofs.lemmas.List.{map-set}
use Rattle.frames.specs.declared.types.Op.{Op}
use Rattle.question_file.specs.Asked.{lists_of}

-- replacing vector p replaces list p
pub put_list : (all : List (Vec Op)) (p : ℕ) (v : Vec Op) → lists_of (set all p v) ≡ set (lists_of all) p v.items
put_list all p v = map-set (λ (w : Vec Op). w.items) all p v
