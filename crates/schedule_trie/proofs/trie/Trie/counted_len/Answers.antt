use Rattle.std.proofs.Common.{length, ap, ◌∙◌, sym}
use Rattle.schedule_trie.specs.Trie.{segment_at, line}
use Rattle.schedule_trie.proofs.climbs.ClimbSteps.{path_last}
use Rattle.schedule_trie.proofs.branches.Lines.{slots_in_on}
use Rattle.schedule_trie.proofs.trie.Trie.counted_len.Goals as goal

pub len_to-requires : goal.len_to-requires
len_to-requires g c = (path_last c.self.inside c.args.self.now c.self.view_is c.self.invariant.held c.args.index c.tip.result c.tip.ensures).reached

pub returns-in-None : goal.returns-in-None
returns-in-None g c =
    let now = c.args.self.now in
    c.len_to.ensures
    ∙ ap (λ l. length (line (segment_at now.segments) l)) (path_last c.self.inside now c.self.view_is c.self.invariant.held c.args.index c.tip.result c.tip.ensures).all
    ∙ ap length (sym (slots_in_on (segment_at now.segments) now.branches c.args.index))
