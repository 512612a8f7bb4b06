use Rattle.std.proofs.Common.{rules}
use Rattle.sessions.specs.Books.{opening_over}
use Rattle.sessions.proofs.book.Book.over.Goals as goal

pub returns : goal.returns
returns g c = record {
  world = search rules;
  opening = λ i. opening_over g.R.Behaves.behaviour (c.of-first.ensures i) (c.requires.same_limits i);
  log = search rules;
}
