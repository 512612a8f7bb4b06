use Rattle.std.proofs.Common.{rules, length, ◌≡◌}
use Rattle.turn.proofs.Calls.{inside_marks, kept_chair, handed_chair}
use Rattle.turn.proofs.chair.Chair.give.Goals as goal

pub split-access-requires-clause-own : goal.split-access-requires-clause-own
split-access-requires-clause-own g c = inside_marks g.T.Counted.by g.T.Counted.entries c.args.self.now.access.me c.args.self.now.shares.marks _ c.args.shares c.args.self.now.marked c.next_least-given.ensures

pub invariant_of-self : goal.invariant_of-self
invariant_of-self g c =
    let chair = c.args.self.now in
    let sixteen : length c.args.self.now.shares.marks ≡ 16 = search rules in
    let is = kept_chair g.T.Counted.by g.T.Counted.entries c.args.self.now.access.me c.split-access.new.access.me c.args.self.now.shares.marks c.next_least-given.result.marks c.without-left.result.marks c.args.shares
    chair.marked chair.idle chair.owns sixteen c.requires.fewer c.next_least-given.ensures c.without-left.ensures c.split-access.ensures.kept in
    record { marked = is.0; idle = is.1; some = is.2; owns = is.3 }

pub invariant_of-result : goal.invariant_of-result
invariant_of-result g c =
    let chair = c.args.self.now in
    let sixteen : length c.args.self.now.shares.marks ≡ 16 = search rules in
    let is = handed_chair g.T.Counted.by g.T.Counted.entries c.args.self.now.access.me c.split-access.result.me c.args.self.now.shares.marks c.next_least-given.result.marks c.args.shares
    chair.marked chair.idle.1 chair.owns sixteen c.requires.some c.requires.fewer c.next_least-given.ensures c.split-access.ensures.given.1 in
    record { marked = is.0; idle = is.1; some = is.2; owns = is.3 }
