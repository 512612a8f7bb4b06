use Rattle.std.proofs.Common.{◌∙◌, true}
use Rattle.sessions.proofs.Searches.{forth_more, back_more, no_hit_more}
use Rattle.sessions.proofs.seek.Search.with_place.Goals as goal

pub returns-in-Forth : goal.returns-in-Forth
returns-in-Forth c = rw c.in-Forth.is
    (λ test tested before. forth_more test c.args.self.now.from c.args.place true c.args.found c.first_hit.result (tested ∙ c.if-not-hit.false) before c.first_hit.ensures)

pub returns-in-Back : goal.returns-in-Back
returns-in-Back c = rw c.in-Back.is
    (λ test tested before. back_more test c.args.self.now.from c.args.place true c.args.found c.last_hit.result (tested ∙ c.if-not-hit.false) before c.last_hit.ensures)

pub returns-then-not-hit : goal.returns-then-not-hit
returns-then-not-hit c test tested before = no_hit_more test c.args.self.now.way c.args.self.now.from c.args.place c.args.hit c.args.found c.if-not-hit.true tested before
