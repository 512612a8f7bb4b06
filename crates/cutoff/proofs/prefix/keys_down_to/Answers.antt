use Rattle.std.proofs.Common.{reverse, subst, sym, ap}
use Rattle.cutoff.specs.Prefixes.{AreKeysAfter}
use Rattle.cutoff.proofs.prefix.keys_down_to.Goals as goal

pub returns-clause-following : goal.returns-clause-following
returns-clause-following g c =
    subst (λ l. AreKeysAfter c.args.trie.now c.args.last l c.args.stop c.in_ok-at.at c.reverse.new.self.items) (ap reverse c.new-keys.ensures.items)
    (subst (AreKeysAfter c.args.trie.now c.args.last (reverse c.new-keys.result.items) c.args.stop c.in_ok-at.at) (sym c.reverse.ensures.items) c.in_ok-at.ensures.following)
