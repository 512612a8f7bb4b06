use Rattle.std.proofs.Common.{◌∙◌, sym, ap}
use Rattle.std.specs.List.{list_any}
use Rattle.pages.specs.Breaks.{is_met_by_option}
use Rattle.sessions.proofs.Searches.{none_met_without_event}
use Rattle.sessions.proofs.seek.is_any_met_by_option.Goals as goal

pub returns-in-None : goal.returns-in-None
returns-in-None c = none_met_without_event c.args.breaks.now ∙ ap (λ e. list_any (λ break. is_met_by_option break e) c.args.breaks.now) (sym c.in-None.is)
