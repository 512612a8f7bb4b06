use Rattle.std.proofs.Common.{◌≡◌, Some, Ok, OnOk, IfOk, IfErr, length, refl, subst}
use Rattle.schedule_trie.specs.Forest.{IsRefused}
use Rattle.pages.specs.Strays.{IsRegularOrAtomic}
use Rattle.sessions.specs.Books.{book_of, stored, world_of}
use Rattle.sessions.specs.Looks.{looked_in, shown_in}
use Rattle.sessions.proofs.Books.{book_same, same_opening}
use Rattle.sessions.proofs.KeptBranches.{kept_world}
use Rattle.sessions.proofs.Looks.{others_at_branch, shown_at_branch, looked_at_branch}
use Rattle.sessions.proofs.SameStart.{same_tower}
use Rattle.sessions.proofs.book.Book.look.Goals as goal

pub returns-in_default-clause-page : goal.returns-in_default-clause-page
returns-in_default-clause-page g c =
    let i = c.self.inside in
    let w = world_of g.R.Behaves.behaviour (stored i.workspace (length i.log.items)) in
    let page = subst (λ p. IfOk c.at.result (λ slip. Some slip.page ≡ p)) (shown_at_branch w c.args.query (others_at_branch c.args.query c.in_default.not-Branches c.in_default.not-Cursor)) c.at.ensures.page in
    rw (← c.self.view_is) (subst (λ w. IfOk c.at.result (λ slip. Some slip.page ≡ shown_in w c.args.query)) c.self.invariant.held.after page)

pub returns-in_default-clause-err : goal.returns-in_default-clause-err
returns-in_default-clause-err g c =
    let i = c.self.inside in
    let w = world_of g.R.Behaves.behaviour (stored i.workspace (length i.log.items)) in
    let err = subst (λ r. IfErr c.at.result (IsRefused r)) (looked_at_branch w c.args.query (others_at_branch c.args.query c.in_default.not-Branches c.in_default.not-Cursor)) c.at.ensures.err in
    rw (← c.self.view_is) (subst (λ w. IfErr c.at.result (IsRefused (looked_in w c.args.query))) c.self.invariant.held.after err)

pub returns-in_default-clause-found : goal.returns-in_default-clause-found
returns-in_default-clause-found g c =
    let i = c.self.inside in
    let w = world_of g.R.Behaves.behaviour (stored i.workspace (length i.log.items)) in
    let found = subst (λ r. OnOk c.at.result (r ≡ Ok w.forest)) (looked_at_branch w c.args.query (others_at_branch c.args.query c.in_default.not-Branches c.in_default.not-Cursor)) c.at.ensures.found in
    rw (← c.self.view_is) (subst (λ w. OnOk c.at.result (looked_in w c.args.query ≡ Ok w.forest)) c.self.invariant.held.after found)

pub returns-in_default-clause-never_stray : goal.returns-in_default-clause-never_stray
returns-in_default-clause-never_stray g c =
    rw (← c.self.view_is) (λ lawful. c.at.ensures.never_stray (subst IsRegularOrAtomic (same_tower g.R.Behaves.behaviour _ c.self.invariant.held) lawful))

pub returns-in_default-clause-kept : goal.returns-in_default-clause-kept
returns-in_default-clause-kept g c =
    let i = c.self.inside in
    let world = kept_world g.R.Behaves.behaviour i.workspace c.at.new.chart (length i.log.items) c.at.ensures.kept in
    rw (← c.self.view_is) (record {
      world = world;
      opening = same_opening g.R.Behaves.behaviour (book_of i.first.value i.workspace i.log) (book_of i.first.value (record i.workspace { chart = c.at.new.chart }) i.log) refl world;
      log = refl;
    })

pub invariant_of-self : goal.invariant_of-self
invariant_of-self g c =
    let i = c.self.inside in
    book_same g.R.Behaves.behaviour (book_of i.first.value i.workspace i.log) (book_of i.first.value (record i.workspace { chart = c.at.new.chart }) i.log) refl
    (kept_world g.R.Behaves.behaviour i.workspace c.at.new.chart (length i.log.items) c.at.ensures.kept) i.log_limit refl c.self.invariant

pub at-requires : goal.at-requires
at-requires g c = others_at_branch c.args.query c.in_default.not-Branches c.in_default.not-Cursor
