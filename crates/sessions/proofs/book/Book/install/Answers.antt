use Rattle.std.proofs.Common.{length, refl}
use Rattle.std.specs.Arc.{arc_value}
use Rattle.sessions.specs.Books.{book_of}
use Rattle.sessions.proofs.Books.{book_same, same_opening}
use Rattle.sessions.proofs.KeptBranches.{install_kept, kept_world}
use Rattle.sessions.proofs.book.Book.install.Goals as goal

pub returns-clause-installs : goal.returns-clause-installs
returns-clause-installs g c = rw (← c.self.view_is) c.install.ensures

pub returns-clause-kept : goal.returns-clause-kept
returns-clause-kept g c =
    let i = c.self.inside in
    let is = g.R.Behaves.behaviour in
    let world = kept_world is i.workspace c.install.new.self (length i.log.items)
    (install_kept g.R.PartialEq.eq (is i.workspace.chart.start.register) i.workspace.chart c.install.new.self c.args.key (arc_value c.args.run)
    c.install.result c.install.ensures) in
    rw (← c.self.view_is) (record {
      world = world;
      opening = same_opening is (book_of i.first.value i.workspace i.log) (book_of i.first.value (record i.workspace { chart = c.install.new.self }) i.log) refl world;
      log = refl;
    })

pub invariant_of-self : goal.invariant_of-self
invariant_of-self g c =
    let i = c.self.inside in
    let is = g.R.Behaves.behaviour in
    book_same is (book_of i.first.value i.workspace i.log) (book_of i.first.value (record i.workspace { chart = c.install.new.self }) i.log) refl
    (kept_world is i.workspace c.install.new.self (length i.log.items)
    (install_kept g.R.PartialEq.eq (is i.workspace.chart.start.register) i.workspace.chart c.install.new.self c.args.key (arc_value c.args.run)
    c.install.result c.install.ensures)) i.log_limit refl c.self.invariant
