-- a search from the end finds the read that the last invocation noted
use Rattle.std.proofs.Common.{rules, ap, ◌∙◌}
use Rattle.std.specs.Prelude.{◌==◌, reverse}
use Rattle.std.specs.List.{find}
use borrow.Author.Tests.{tests}
use Rattle.std.proofs.lemmas.Iterator.Search.{find_from_yields_List}
use Rattle.std.proofs.lemmas.Iterator.Adapters.{YieldsList-from_rev_slice}
use Rattle.frames.specs.declared.verdict.Reading.{Reading}
use Rattle.frames.specs.correctness.Verdicts as spec
use Rattle.pages.proofs.verdict.Known.last_read.Goals as goal

pub returns : goal.returns
returns c =
    let found = find_from_yields_List (λ (r : Reading). r.process == c.args.process) _ _ c.find.result c.find.ensures.ran
    (YieldsList-from_rev_slice c.self.inside.reads.items (cc (c.iter.ensures.rest, c.rev-backward.ensures.source, c.deref.ensures.value)))
    (λ x b q k. search (rules, tests)) in
    c.copied.ensures ∙ found ∙ ap (λ (k : spec.Known). find (λ r. r.process == c.args.process) (reverse k.reads)) c.self.view_is
