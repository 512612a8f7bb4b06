use Rattle.std.proofs.Common.{rules, ℕ, ◌≡◌, Bool, List, length, ap, ◌∙◌}
use Rattle.atomic_table.specs.Table.{Me}
use Rattle.atomic_table.specs.declared.shared.Seat.{Seat}
use Rattle.turn.specs.declared.view.View.{View}
use Rattle.turn.specs.Shares.{has_share, chair_number}
use Rattle.turn.specs.laws.ShareLaws.{number_held}
use Rattle.turn.specs.Histories.{joined}
use Rattle.turn.proofs.Calls.{joined_chair, joined_with_news}
use Rattle.turn.proofs.chair.Chair.take_in.Goals as goal

pub join-requires-clause-some : goal.join-requires-clause-some
join-requires-clause-some g c =
    let mine = number_held c.args.self.now.shares.marks (search rules) c.args.self.now.some in
    let theirs = number_held c.args.other.shares.marks (search rules) c.args.other.some in
    let n : ℕ = chair_number c.args.self.now.shares.marks in let k : ℕ = chair_number c.args.other.shares.marks in (
      (n, ap (λ (l : List Bool). has_share l n) c.args.self.now.marked ∙ mine.1),
      (k, ap (λ (p : Seat _ (View _)). has_share p.me.0.shares k) c.into_access.ensures ∙ (ap (λ (l : List Bool). has_share l k) c.args.other.marked ∙ theirs.1)),
    )

pub invariant_of-self : goal.invariant_of-self
invariant_of-self g c =
    let chair = c.args.self.now in let other = c.args.other in
    let sixteen : length c.args.self.now.shares.marks ≡ 16 = search rules in
    let theirs = ap (λ (p : Seat _ (View _)). p.me.0.shares) c.into_access.ensures ∙ other.marked in
    let is = joined_chair g.T.Counted.by g.T.Counted.entries c.args.self.now.access.me c.into_access.result.me c.join.new.access.me c.news.new.access.me c.args.self.now.shares.marks c.args.other.shares.marks c.together-together.result.marks _
    chair.marked chair.idle theirs sixteen chair.some c.together-together.ensures c.join.ensures.joined c.news.ensures.reports in
    record { marked = is.0; idle = is.1; some = is.2; owns = is.3 }

pub returns-clause-joined : goal.returns-clause-joined
returns-clause-joined g c =
    let is = ap (λ (m : Me _ (View _)). m.0) c.join.ensures.joined ∙ ap (λ (p : Seat _ (View _)). joined c.args.self.now.access.me.0 p.me.0) c.into_access.ensures in
    joined_with_news g.T.Counted.by g.T.Counted.entries c.args.self.now.access.me.0 c.args.other.access.me.0 c.join.new.access.me c.news.new.access.me _ is c.news.ensures.reports
