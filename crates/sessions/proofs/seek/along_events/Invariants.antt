use Rattle.std.proofs.Common.{◌≡◌, ◌+◌, ℕ, Bool, length}
use Rattle.sessions.specs.Seeks.{next_place, places_with}
use Rattle.sessions.specs.Walks.{ReportsEvents}
use Rattle.sessions.proofs.seek.along_events.Given as goal

abbrev pub invariant-loop-reported : goal.invariant-loop-reported
invariant-loop-reported l = record {
  place : l.at + length l.left ≡ l.initial.at + length l.initial.left;
  reports : (test : ℕ → Bool) → ReportsEvents l.search.breaks.now test l.initial.at l.initial.left → ReportsEvents l.search.breaks.now test l.at l.left;
  finds : (test : ℕ → Bool) → ReportsEvents l.search.breaks.now test l.initial.at l.initial.left
      → l.initial.found ≡ next_place l.search.way l.search.from (places_with test (l.initial.at + 1))
      → l.found ≡ next_place l.search.way l.search.from (places_with test (l.at + 1));
}

abbrev pub decreases-loop-reported : goal.decreases-loop-reported
decreases-loop-reported l = length l.left
