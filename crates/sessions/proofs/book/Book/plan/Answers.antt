use Rattle.sessions.proofs.book.Book.plan.Goals as goal

pub returns : goal.returns
returns g c = rw (← c.self.view_is) c.plan.ensures
