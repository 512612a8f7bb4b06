-- Examples: commands on a forest, and a file's limbs and their forest, computed by the definitions.
use Rattle.std.specs.Prelude.{ℕ, List, [], ◌∷◌, Result, Ok, Err, codes, ◌≡◌, refl, true, false}
use Rattle.schedule_steps.specs.declared.types.Step.{Step}
use Rattle.schedule_steps.specs.declared.types.Step.TheVariants.{Read, Write, Go}
use Rattle.branch_terms.specs.declared.limb.Limb.{Limb}
use Rattle.branch_terms.specs.declared.limits.Limits.{Limits}
use Rattle.branch_terms.specs.declared.refusal.Refusal.{Refusal}
use Rattle.branch_terms.specs.declared.refusal.Refusal.TheVariants.{Full, TooManyBranches}
use Rattle.branch_terms.specs.Forest.{Forest, branch, slot, opening_forest, insert, remove_cell, fork, detach, replace_step, drop_branch}
use Rattle.branch_terms.specs.Limbs.{limbs, forest_of, are_lawful_after, loaded}

abbrev and_then : Result Forest Refusal → (Forest → Result Forest Refusal) → Result Forest Refusal
and_then (Ok f) command = command f
and_then (Err e) command = Err e

abbrev plenty : Limits
plenty = record { cells = 65536; branches = 64; log = 1024 }

abbrev four_cells : Limits
four_cells = record { cells = 4; branches = 64; log = 1024 }

abbrev pub main : List ℕ
main = codes "main"

abbrev pub a : List ℕ
a = codes "a"

abbrev pub read : Step
read = Read 1

abbrev pub go : Step
go = Go 1 0

abbrev write : Step
write = Write 0 1

-- an insert in a shared prefix appears in both branches
shared-insert : and_then (fork plenty (opening_forest (read ∷ go ∷ go ∷ [])) main 3 a) (λ f. insert plenty f main 1 write)
    ≡ Ok (record {
      branches = branch main (slot 0 read ∷ slot 3 write ∷ slot 1 go ∷ slot 2 go ∷ [])
          ∷ branch a (slot 0 read ∷ slot 3 write ∷ slot 1 go ∷ slot 2 go ∷ []) ∷ [];
      made = 4;
    })
shared-insert = refl

-- an insert at a branch's end is in that branch alone
parent-end : and_then (fork plenty (opening_forest (read ∷ go ∷ go ∷ [])) main 3 a) (λ f. insert plenty f main 3 read)
    ≡ Ok (record {
      branches = branch main (slot 0 read ∷ slot 1 go ∷ slot 2 go ∷ slot 3 read ∷ [])
          ∷ branch a (slot 0 read ∷ slot 1 go ∷ slot 2 go ∷ []) ∷ [];
      made = 4;
    })
parent-end = refl

-- the number of a removed cell isn't used again
remove-insert : and_then (remove_cell (opening_forest (write ∷ go ∷ go ∷ [])) main 1) (λ f. insert plenty f main 1 go)
    ≡ Ok (record { branches = branch main (slot 0 write ∷ slot 3 go ∷ slot 2 go ∷ []) ∷ []; made = 4 })
remove-insert = refl

-- a detach makes new cells, which may exceed the limit: 2 new, with 4 made and a limit of 4
cells-full : and_then (fork four_cells (opening_forest (read ∷ read ∷ read ∷ read ∷ [])) main 2 a) (λ f. detach four_cells f a) ≡ Err Full
cells-full = refl

-- an insert of a fifth cell exceeds the limit of 4
fifth-cell : insert four_cells (opening_forest (read ∷ read ∷ read ∷ read ∷ [])) main 0 read ≡ Err Full
fifth-cell = refl

-- a detached branch has its own cells, so that a replace in another branch doesn't change it
detach-replace : and_then (and_then (fork plenty (opening_forest (read ∷ go ∷ [])) main 2 a) (λ f. detach plenty f a)) (λ f. replace_step f main 1 (Go 1 1))
    ≡ Ok (record {
      branches = branch main (slot 0 read ∷ slot 1 (Go 1 1) ∷ []) ∷ branch a (slot 2 read ∷ slot 3 go ∷ []) ∷ [];
      made = 4;
    })
detach-replace = refl

abbrev limb : List ℕ → ℕ → ℕ → List Step → Limb
limb name from shared steps = record { name = name; from = from; shared = shared; steps = steps }

abbrev three_limbs : List Limb
three_limbs = limb (codes "main") 0 0 (Read 1 ∷ Write 0 1 ∷ []) ∷ limb (codes "a") 0 1 (Go 1 0 ∷ []) ∷ limb (codes "b") 1 2 (Go 1 1 ∷ []) ∷ []

abbrev then_limbs : Result Forest Refusal → List Limb
then_limbs (Ok f) = limbs f
then_limbs (Err e) = []

lawful : are_lawful_after [] three_limbs ≡ true
lawful = refl

limbs_of_own_forest : limbs (forest_of three_limbs) ≡ three_limbs
limbs_of_own_forest = refl

inserted : then_limbs (insert plenty (forest_of three_limbs) (codes "a") 1 (Write 0 0))
    ≡ limb (codes "main") 0 0 (Read 1 ∷ Write 0 1 ∷ []) ∷ limb (codes "a") 0 1 (Write 0 0 ∷ Go 1 0 ∷ []) ∷ limb (codes "b") 1 3 (Go 1 1 ∷ []) ∷ []
inserted = refl

dropped : then_limbs (and_then (insert plenty (forest_of three_limbs) (codes "a") 1 (Write 0 0)) (λ f. drop_branch f (codes "a")))
    ≡ limb (codes "main") 0 0 (Read 1 ∷ Write 0 1 ∷ []) ∷ limb (codes "b") 0 1 (Write 0 0 ∷ Go 1 0 ∷ Go 1 1 ∷ []) ∷ []
dropped = refl

abbrev with_third_limb : List ℕ → ℕ → ℕ → List Limb
with_third_limb name from shared =
    limb (codes "main") 0 0 (Read 1 ∷ Write 0 1 ∷ []) ∷ limb (codes "a") 0 1 (Go 1 0 ∷ []) ∷ limb name from shared (Go 1 1 ∷ []) ∷ []

last_shared_not_own : are_lawful_after [] (with_third_limb (codes "b") 1 1) ≡ false
last_shared_not_own = refl

shares_too_many : are_lawful_after [] (with_third_limb (codes "b") 0 3) ≡ false
shares_too_many = refl

same_name : are_lawful_after [] (with_third_limb (codes "a") 1 2) ≡ false
same_name = refl

three_cells : loaded (record { cells = 3; branches = 64; log = 1 }) three_limbs ≡ Err Full
three_cells = refl

two_branches : loaded (record { cells = 4; branches = 2; log = 1 }) three_limbs ≡ Err TooManyBranches
two_branches = refl
