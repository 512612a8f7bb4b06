use Rattle.std.proofs.Common.{sym, ap, ◌∙◌}
use Rattle.schedule_trie.specs.Trie.{segment_at, keys_in}
use Rattle.schedule_trie.specs.TrieFields.{trie_of}
use Rattle.schedule_trie.proofs.branches.Lines.{keys_are}
use Rattle.schedule_trie.proofs.climbs.KeysAbove.{above_is, lacked_none}
use Rattle.schedule_trie.proofs.segments.StepSet.{none_there}
use Rattle.schedule_trie.proofs.trie.Trie.above.Goals as goal

pub returns-clause-first : goal.returns-clause-first
returns-clause-first g c =
    let t = c.self.inside in
    let held = c.self.invariant.held in
    rw (← c.self.view_is) (above_is (trie_of t).branches c.args.key c.above.result
    (λ i front back e. c.above.ensures.each i front back (sym (keys_are t held i) ∙ e))
    (λ lacks. c.above.ensures.none (none_there t c.args.key (lacked_none (segment_at (trie_of t).segments c.args.key) (trie_of t).branches c.args.key (held.whole.sound.live c.args.key) lacks))))

pub returns-clause-each : goal.returns-clause-each
returns-clause-each g c i front back e =
    let t = c.self.inside in
    c.above.ensures.each i front back (sym (keys_are t c.self.invariant.held i) ∙ ap (λ z. keys_in z.branches i) c.self.view_is ∙ e)
