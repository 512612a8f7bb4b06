-- The result of an insert that isn't refused.
use Rattle.std.proofs.Common.{◌≡◌, ℕ, ◌<◌, ◌≤◌, List, length, Some, Ok, Err, cond, sym, ap, ◌∙◌}
use Rattle.std.proofs.lemmas.Bool.{le-ltb, lt-leb}
use Rattle.schedule_steps.specs.declared.types.Step.{Step}
use Rattle.branch_terms.specs.declared.limits.Limits.{Limits}
use Rattle.branch_terms.specs.declared.refusal.Refusal.TheVariants.{NoPlace, Full}
use Rattle.branch_terms.specs.Forest.{Forest, index_of, slots_in, on_found, insert, insert_at, inserted}

pub insert_ok : (limits : Limits) (f new : Forest) (name : List ℕ) (place : ℕ) (step : Step) (i : ℕ) → index_of f.branches name ≡ Some i
    → place ≤ length (slots_in f.branches i) → f.made < limits.cells → new ≡ inserted f i place step → insert limits f name place step ≡ Ok new
insert_ok limits f new name place step i found fits room same =
    ap (λ o. on_found o (insert_at limits f place step)) found
    ∙ (λ j. cond (le-ltb (length (slots_in f.branches i)) place fits j) (Err NoPlace) (cond (lt-leb limits.cells f.made room j) (Err Full) (Ok (sym same j))))
