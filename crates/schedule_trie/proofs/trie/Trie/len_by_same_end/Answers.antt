use Rattle.std.proofs.Common.{◌≡◌, length, sym, subst, ◌∙◌}
use Rattle.std.specs.Option.{IfSome}
use Rattle.branch_terms.specs.Forest.{slots_in}
use Rattle.schedule_trie.specs.Trie.{forest}
use Rattle.schedule_trie.proofs.lengths.LengthSteps.{same_len}
use Rattle.branch_terms.proofs.Lists.{option_eq-true}
use Rattle.schedule_trie.proofs.trie.Trie.len_by_same_end.Goals as goal

pub returns-then-eq : goal.returns-then-eq
returns-then-eq g c =
    let t = c.self.inside in
    subst (λ z. IfSome c.cached_len.result (λ len. len ≡ length (slots_in (forest z).branches c.args.index))) c.self.view_is
    (same_len t t.last_cached c.args.index c.cached_len.result c.self.invariant.held c.self.invariant.lengths (sym c.last.ensures ∙ option_eq-true c.last.result c.last-2.result (sym c.if-eq.ensures) ∙ c.last-2.ensures) c.cached_len.ensures)
