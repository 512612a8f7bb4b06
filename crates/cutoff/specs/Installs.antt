-- The result of an install.
use Rattle.std.specs.Prelude.{ℕ, ◌≡◌, Bool, None, IsSome}
use Rattle.frames.specs.Behaviour.{Behaviour}
use Rattle.checkpoints.specs.Runs.{SegmentRun}
use Rattle.schedule_trie.specs.Trie.{segment_at}
use Rattle.cutoff.specs.declared.install.Installation.{Installation}
use Rattle.cutoff.specs.declared.install.Installation.TheVariants.{Installed, Stale, Gone}
use Rattle.cutoff.specs.Charts.{Charted}
use Rattle.cutoff.specs.Plans.{CanInstall, CannotInstall, IsInstalled}

-- the result of an install of `run` in the segment `key`: Gone if there is no such segment;
-- Installed if the run fits and stored runs fit all segments above; else Stale; only Installed
-- changes the chart
abbrev pub Installs : {R P : Type 0} → (R → R → Bool) → Behaviour P → Charted R P → Charted R P → ℕ → SegmentRun R P → Installation → Type 0
Installs E b old new key run Gone = (segment_at old.trie.segments key ≡ None) × (new ≡ old)
Installs E b old new key run Stale = IsSome (segment_at old.trie.segments key) × CannotInstall E b old key run × (new ≡ old)
Installs E b old new key run Installed = IsSome (segment_at old.trie.segments key) × CanInstall E b old key run × IsInstalled old new key run
