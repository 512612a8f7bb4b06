-- A workspace whose chart changes but keeps its branches.
use Rattle.std.proofs.Common.{◌≡◌, ℕ, Bool, ap, ◌∙◌}
use Rattle.frames.specs.Behaviour.{Behaviour}
use Rattle.checkpoints.specs.Runs.{SegmentRun}
use Rattle.schedule_trie.specs.Trie.{forest}
use Rattle.cutoff.specs.declared.install.Installation.{Installation}
use Rattle.cutoff.specs.declared.install.Installation.TheVariants.{Installed, Stale, Gone}
use Rattle.cutoff.specs.Charts.{Charted}
use Rattle.cutoff.specs.Installs.{Installs}
use Rattle.views.specs.Looks.{IsChartKept}
use Rattle.sessions.specs.Books.{stored, world_of}
use Rattle.sessions.specs.declared.workspace.Workspace.{Workspace}

module _ {R P : Type 0} where
  kept_if_same : (old new : Charted R P) → new ≡ old → IsChartKept old new
  kept_if_same old new same = record {
    branches = ap (λ c. forest c.trie) same;
    limits = ap (λ c. c.trie.limits) same;
    start = ap (λ c. c.start) same;
    value = ap (λ c. c.value) same;
  }

  -- an install keeps the branches, whatever it answers
  pub install_kept : (E : R → R → Bool) (b : Behaviour P) (old new : Charted R P) (key : ℕ) (run : SegmentRun R P)
      (r : Installation) → Installs E b old new key run r → IsChartKept old new
  install_kept E b old new key run Gone h = kept_if_same old new h.1
  install_kept E b old new key run Stale h = kept_if_same old new h.2
  install_kept E b old new key run Installed h =
      let noted = h.2.noted.3 in
      let checked = h.2.noted.4 in
      record { branches = checked.unchanged ∙ noted.unchanged; limits = checked.limits ∙ noted.limits; start = h.2.start; value = h.2.value }

  -- a change that keeps the chart, as `IsChartKept` says, changes nothing that commands see
  pub kept_world : (is : R → Behaviour P) (s : Workspace R P) (new : Charted R P) (n : ℕ) → IsChartKept s.chart new
      → world_of is (stored (record s { chart = new }) n) ≡ world_of is (stored s n)
  kept_world is s new n kept = λ i. record {
    tower = is (kept.start i).register;
    value = kept.value i;
    limits = kept.limits i;
    forest = kept.branches i;
    cursors = s.cursors;
    breaks = s.breaks.items;
    edits = s.edits;
    logged = n;
  }
