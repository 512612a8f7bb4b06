-- What is known of stored runs without a look at them.
use Rattle.std.specs.Prelude.{ℕ, ◌≡◌, ◌⊎◌, ◌≤◌, Bool, Option, Some}
use Rattle.frames.specs.Behaviour.{Behaviour}
use Rattle.frames.specs.Configuration.{Configuration}
use Rattle.schedule_trie.specs.Trie.{TrieOf, IsCut, forest, note_of, segment_at}
use Rattle.cutoff.specs.declared.known.Known.{Known}
use Rattle.cutoff.specs.Charts.{StepsFit}
use Rattle.cutoff.specs.Fitting.{StoredRun}
use Rattle.cutoff.specs.Links.{AreLinked, run_checked}
use Rattle.cutoff.specs.Prefixes.{RunsToOnAll}

-- the segment k, in which `stored` is stored, is marked, or its run was last found to fit with the
-- number `known.fresh` or a greater one
abbrev pub IsKnownDownTo : {R P : Type 0} → Known → ℕ → Option (StoredRun R P) → Type 0
IsKnownDownTo known k stored = (known.mark ≡ Some k) ⊎ ((a : ℕ) × (b : ℕ) × (run_checked stored ≡ Some a) × (known.fresh ≡ Some b) × (b ≤ a))

-- what a walk along the branches of `trie` needs: stored runs are linked, branches are cut into
-- segments, their steps fit the register, and stored runs fit down to each segment to which `known`
-- says that they do
pub record AreKnown {R P : Type 0} (E : R → R → Bool) (is : R → Behaviour P) (trie : TrieOf (StoredRun R P)) (start : Configuration R P) (known : Known) : Type 0 where
  pub linked : AreLinked E start trie
  pub cut : IsCut trie
  pub fits : StepsFit (is start.register) (forest trie)
  pub down : (k : ℕ) → IsKnownDownTo known k (note_of (segment_at trie.segments k)) → RunsToOnAll E is trie start (Some k)
