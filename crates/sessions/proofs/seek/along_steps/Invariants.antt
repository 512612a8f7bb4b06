use Rattle.std.proofs.Common.{◌≡◌, ◌<◌, ◌+◌, ℕ, Bool, length, take, slice_index_or}
use Rattle.frames.specs.Configuration.{history, replayed}
use Rattle.pages.specs.Breaks.{is_met}
use Rattle.sessions.specs.Seeks.{next_place, no_events, places_with}
use Rattle.sessions.proofs.seek.along_steps.Given as goal

abbrev pub invariant-loop-i : goal.invariant-loop-i
invariant-loop-i g l =
    let b = g.R.Behaves.behaviour l.fn.config.register in
    record {
      config : l.config ≡ replayed b l.fn.config (take l.i l.steps);
      found : (test : ℕ → Bool)
          → ((i : ℕ) → i < length l.steps → test ((l.place + 1) + i) ≡ is_met l.search.breaks.now (slice_index_or (history b l.fn.config l.steps) i no_events) (replayed b l.fn.config (take (i + 1) l.steps)).memory)
          → l.fn.found ≡ next_place l.search.way l.search.from (places_with test (l.place + 1))
          → l.found ≡ next_place l.search.way l.search.from (places_with test ((l.place + l.i) + 1));
    }
