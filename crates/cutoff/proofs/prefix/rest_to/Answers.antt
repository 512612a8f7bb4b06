use Rattle.std.proofs.Common.{Some, [], sym, subst, append-nil}
use Rattle.schedule_trie.specs.Trie.{keys_in}
use Rattle.schedule_trie.specs.Climbs.{keys_up_to}
use Rattle.cutoff.specs.Prefixes.{AreKeysAfter}
use Rattle.cutoff.proofs.LeftToSettle.{left_to_settle}
use Rattle.cutoff.proofs.prefix.rest_to.Goals as goal

pub known_prefix-requires-clause-there : goal.known_prefix-requires-clause-there
known_prefix-requires-clause-there g c =
    let there = c.requires.there in
    (there.0, (c.hung_from-first.ensures.hung there.0 there.1).there)

pub returns : goal.returns
returns g c =
    let trie = c.args.trie.now in
    let top = c.hung_from-first.result.key in
    let fitted = c.in_ok-fitted.fitted in
    left_to_settle g.R.PartialEq.eq g.met.R.Eq.laws g.R.Behaves.behaviour trie c.args.start.now top c.args.key fitted fitted c.reverse.new.self.items
    c.hung_from-first.ensures.hung c.in_ok-fitted.ensures.known (Some top) [] (λ i h. (h, sym (append-nil (keys_up_to top (keys_in trie.branches i)))))
    (subst (AreKeysAfter trie (Some top) [] fitted fitted) (sym c.reverse.ensures.items) c.in_ok-fitted.ensures.following) c.requires.known.fits
