use Rattle.std.proofs.Common.{sym, subst}
use Rattle.sessions.specs.Logs.{IsLegal}
use Rattle.sessions.proofs.book.Book.into_log.Goals as goal

pub returns-clause-legal : goal.returns-clause-legal
returns-clause-legal g c =
    rw (← c.self.view_is) (subst (IsLegal _) (sym c.new.ensures) c.self.invariant.held.legal)
