use Rattle.std.proofs.Common.{◌≡◌, ◌+◌, ℕ, Bool, map, take}
use Rattle.cutoff.specs.Fitting.{counted, part_of}
use Rattle.pages.specs.Breaks.{is_met}
use Rattle.sessions.specs.Seeks.{next_place, no_events, places_with}
use Rattle.sessions.specs.Walks.{ReportsParts}
use Rattle.sessions.proofs.seek.along_runs.Given as goal

abbrev pub invariant-loop-run : goal.invariant-loop-run
invariant-loop-run g l = record {
  place : l.place ≡ counted (map part_of (take l.run-index l.runs));
  found : (test : ℕ → Bool) → test 0 ≡ is_met l.search.breaks.now no_events l.first.memory → ReportsParts g.R.Behaves.behaviour l.search.breaks.now test 0 (map part_of l.runs)
      → l.found ≡ next_place l.search.way l.search.from (places_with test (l.place + 1));
}
