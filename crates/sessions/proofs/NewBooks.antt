-- The opening of a new book, whose branch has given steps, or whose branches given limbs describe.
use Rattle.std.proofs.Common.{◌≡◌, ◌≤◌, Bool, true, false, cond, nat_lt, ℕ, List, length, Ok, Err, refl, sym, subst, arith}
use Rattle.std.proofs.lemmas.Bool.Decides.{nat_tests}
use Rattle.frames.specs.Behaviour.{Behaviour}
use Rattle.frames.specs.declared.types.Step.{Step}
use Rattle.schedule_trie.specs.declared.limb.Limb.{Limb}
use Rattle.schedule_trie.specs.declared.limits.Limits.{Limits}
use Rattle.schedule_trie.specs.declared.refusal.Refusal.TheVariants.{Full, TooManyBranches}
use Rattle.branch_terms.specs.Forest.{Forest, opened}
use Rattle.branch_terms.specs.Forest as forests
use Rattle.schedule_trie.specs.Trie.{forest}
use Rattle.branch_terms.proofs.LimbsAgain.{forest_made}
use Rattle.cutoff.specs.Charts.{Charted}
use Rattle.branch_terms.specs.Limbs.{own_cell_count, forest_of, loaded}
use Rattle.sessions.specs.World.{opening}
use Rattle.sessions.specs.Books.{opening_over}

-- limbs that are loaded give the branches that they describe, with no more cells than the limit
pub loaded_is : (limits : Limits) (ls : List Limb) (f : Forest) → loaded limits ls ≡ Ok f → (f ≡ forest_of ls) × (f.made ≤ limits.cells)
loaded_is limits ls f e = by (nat_lt limits.cells (own_cell_count ls)) refl (nat_lt limits.branches (length ls)) e
  where
    by : (full : Bool) → nat_lt limits.cells (own_cell_count ls) ≡ full → (many : Bool) → cond full (Err Full) (cond many (Err TooManyBranches) (Ok (forest_of ls))) ≡ Ok f
        → (f ≡ forest_of ls) × (f.made ≤ limits.cells)
    by true t many h = absurd (cc)
    by false t true h = absurd (cc)
    by false t false h =
        let same : forest_of ls ≡ f = cc in
        let few : own_cell_count ls ≤ limits.cells = grind (arith, nat_tests) in
        (sym same, subst (λ g. g.made ≤ limits.cells) same (subst (λ n. n ≤ limits.cells) (sym (forest_made ls)) few))

-- a branch that is opened with steps is the only one, and has these steps
pub opened_is : (limits : Limits) (steps : List Step) (f : Forest) → opened limits steps ≡ Ok f → f ≡ forests.opening_forest steps
opened_is limits steps f e = by (nat_lt limits.cells (length steps)) e
  where
    by : (full : Bool) → cond full (Err Full) (Ok (forests.opening_forest steps)) ≡ Ok f → f ≡ forests.opening_forest steps
    by true h = absurd (cc)
    by false h = cc

-- the opening over a chart is that of its register, value and branches
pub opening_over_is : {R P : Type 0} (is : R → Behaviour P) (chart : Charted R P) (register : R) (value : ℕ) (limits : Limits)
    (f : Forest) → chart.start.register ≡ register → chart.value ≡ value → forest chart.trie ≡ f
    → opening_over is chart limits ≡ opening (is register) value limits f
opening_over_is is chart register value limits f same_register same_value same =
    λ i. opening (is (same_register i)) (same_value i) limits (same i)
