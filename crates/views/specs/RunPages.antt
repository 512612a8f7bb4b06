-- Pages that are made from runs, which are replayed segments.
use Rattle.std.specs.Prelude.{ℕ, List, Option, Some, None}
use Rattle.std.specs.declared.alloc.Global.{Global}
use Rattle.std.specs.declared.sync.Arc.{Arc}
use Rattle.checkpoints.specs.Runs.{SegmentRun}
use Rattle.frames.specs.Behaviour.{Behaviour}
use Rattle.frames.specs.Configuration.{Configuration}
use Rattle.frames.specs.Recorded.{indexed}
use Rattle.cutoff.specs.Fitting.{RunPart, part_of}
use Rattle.pages.specs.declared.query.ConfigKind.{ConfigKind}
use Rattle.pages.specs.declared.query.EventsKind.{EventsKind}
use Rattle.pages.specs.declared.page.head.Head.{Head}
use Rattle.pages.specs.declared.page.Page.{Page}
use Rattle.views.specs.declared.slip.content.Content.{Content}
use Rattle.views.specs.declared.slip.content.Content.TheVariants.{Initial, Last, Runs, Ready}
use Rattle.pages.specs.Pages.{config_page, events_page}
use Rattle.views.specs.Spots.{part_end, parts_end, parts_events}

module _ {R P : Type 0} (is : R → Behaviour P) where
  -- the page, of a given kind, of the configuration that a part of a run reaches
  abbrev pub part_page : ConfigKind → Head → RunPart R P → Page
  part_page kind head part = config_page (is (part_end is part).register) kind head (part_end is part)

  -- the page, of a given kind, of the configuration that the last of these parts of runs reaches
  -- (`first` if there are none)
  abbrev pub last_page : ConfigKind → Head → Configuration R P → List (RunPart R P) → Page
  last_page kind head first parts = config_page (is (parts_end is first parts).register) kind head (parts_end is first parts)

  -- the page, of a given kind, of the events that these parts of runs record
  abbrev pub runs_page : EventsKind → Head → List (RunPart R P) → Page
  runs_page kind head parts = events_page kind head (indexed 0 (parts_events is parts))

  -- the page that is made from what a slip holds
  abbrev pub content_page : Content R P → Page
  content_page (Initial kind head c) = config_page (is c.register) kind head c
  content_page (Last kind head run count) = part_page kind head (part_of (run, count))
  content_page (Runs kind head runs) = runs_page kind head runs
  content_page (Ready page) = page

-- what a slip holds for a page of a configuration: the last run up to the place, with how many of
-- its steps precede the place; or, if there is no run, the configuration `first`
abbrev pub config_content : {R P : Type 0} → ConfigKind → Head → Configuration R P → Option (Arc (SegmentRun R P) Global × ℕ) → Content R P
config_content kind head first None = Initial kind head first
config_content kind head first (Some part) = Last kind head part.0 part.1
