use Rattle.std.proofs.Common.{rules, not}
use Rattle.std.proofs.lemmas.Fn.{filter_same}
use Rattle.sessions.specs.BreakLists.{is_same}
use Rattle.sessions.proofs.breaks.Breaks.remove.Goals as goal

pub returns : goal.returns
returns c =
    rw (← c.self.view_is)
    (filter_same _ (λ other. not (is_same c.args.gone other)) _ (λ x b f' k. search rules) _ _ c.retain.ensures.filtered)
