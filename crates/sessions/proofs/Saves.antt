-- The limbs of a book are what is saved of its world.
use Rattle.std.proofs.Common.{◌≡◌, ◌<◌, ℕ, List, length, Result, Ok, Err, IfOk}
use Rattle.frames.specs.Behaviour.{Behaviour}
use Rattle.schedule_trie.specs.declared.limb.Limb.{Limb}
use Rattle.schedule_trie.specs.Trie.{forest}
use Rattle.branch_terms.specs.Limbs.{FitLimits, AreLawfulLimbs, limbs}
use Rattle.cutoff.specs.Charts.{LimbsFit}
use Rattle.sessions.specs.Books.{stored, world_of}
use Rattle.sessions.specs.declared.workspace.Workspace.{Workspace}
use Rattle.sessions.specs.Saves.{IsSaved}

-- a chart's limbs are what is saved of its world
pub limbs_are_saved : {R P A E : Type 0} (is : R → Behaviour P) (s : Workspace R P) (n : ℕ) (items : A → List Limb) (result : Result A E)
    → IfOk result (λ r. items r ≡ limbs (forest s.chart.trie)) → IfOk result (λ r. AreLawfulLimbs (items r)) → IfOk result (λ r. 0 < length (items r))
    → IfOk result (λ r. FitLimits s.chart.trie.limits (items r)) → IfOk result (λ r. LimbsFit (is s.chart.start.register) (items r))
    → IfOk result (λ r. IsSaved (world_of is (stored s n)) (items r))
limbs_are_saved is s n items (Ok r) same lawful some within fit = record { same = same; lawful = lawful; some = some; fit = fit; within = within }
limbs_are_saved is s n items (Err e) same lawful some within fit = tt
