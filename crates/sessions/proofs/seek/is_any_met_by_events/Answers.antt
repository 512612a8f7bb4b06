use Rattle.std.proofs.Common.{◌∙◌, ◌||◌, sym, ap}
use Rattle.std.specs.List.{list_any}
use Rattle.pages.specs.Breaks.{is_met_by_option}
use Rattle.sessions.proofs.Searches.{met_by_either}
use Rattle.sessions.proofs.seek.is_any_met_by_events.Goals as goal

pub returns-then-is_any_met_by_option : goal.returns-then-is_any_met_by_option
returns-then-is_any_met_by_option c =
    let second = list_any (λ break. is_met_by_option break c.args.events.second) c.args.breaks.now in
    c.if-is_any_met_by_option.true ∙ sym (ap (λ first. first || second) (sym c.is_any_met_by_option.ensures ∙ c.if-is_any_met_by_option.true)) ∙ met_by_either c.args.events.first c.args.events.second c.args.breaks.now

pub returns-else-is_any_met_by_option : goal.returns-else-is_any_met_by_option
returns-else-is_any_met_by_option c =
    let second = list_any (λ break. is_met_by_option break c.args.events.second) c.args.breaks.now in
    c.is_any_met_by_option-else-is_any_met_by_option.ensures ∙ sym (ap (λ first. first || second) (sym c.is_any_met_by_option.ensures ∙ c.if-is_any_met_by_option.false)) ∙ met_by_either c.args.events.first c.args.events.second c.args.breaks.now
