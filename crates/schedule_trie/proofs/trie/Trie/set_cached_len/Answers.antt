use Rattle.std.proofs.Common.{◌≡◌, Some, length, refl, sym, ap, subst, ◌∙◌}
use Rattle.std.specs.Map.{keys_of}
use Rattle.branch_terms.specs.Forest.{slots_in}
use Rattle.schedule_trie.specs.Trie.{forest}
use Rattle.schedule_trie.specs.TrieFields.{trie_of}
use Rattle.schedule_trie.proofs.lengths.Lengths.{names_set, relength_seen, one_cached}
use Rattle.schedule_trie.proofs.lengths.LengthSteps.{entry_within, right_lengths_kept}
use Rattle.schedule_trie.proofs.trie.Trie.set_cached_len.Goals as goal

pub set_cached_len-requires : goal.set_cached_len-requires
set_cached_len-requires g c = entry_within c.self.inside c.args.self.now c.args.index c.self.view_is c.requires.index

pub invariant_of-self : goal.invariant_of-self
invariant_of-self g c =
    let t = c.self.inside in
    let names = ap keys_of c.set_cached_len.ensures ∙ names_set t.branches.entries c.args.index (Some c.args.len) in
    let len = subst (λ z. c.args.len ≡ length (slots_in (forest z).branches c.args.index)) (sym c.self.view_is) c.requires.len in
    right_lengths_kept t (record t { branches = c.set_cached_len.new.self; last_cached = c.args.index }) names refl refl refl _ c.self.invariant.held c.self.invariant.names
    (one_cached t.branches.entries (forest (trie_of t)).branches c.args.index c.args.len len c.self.invariant.lengths) c.set_cached_len.ensures

pub returns : goal.returns
returns g c =
    let t = c.self.inside in
    let names = ap keys_of c.set_cached_len.ensures ∙ names_set t.branches.entries c.args.index (Some c.args.len) in
    relength_seen t (record t { branches = c.set_cached_len.new.self; last_cached = c.args.index }) names refl refl refl ∙ c.self.view_is
