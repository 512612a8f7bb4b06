use Rattle.std.proofs.Common.{◌+◌, ◌≤◌, Ok, Err, length, cond, sym, ap, subst, ◌∙◌, arith}
use Rattle.std.proofs.lemmas.Bool.{le-ltb}
use Rattle.branch_terms.specs.declared.refusal.Refusal.TheVariants.{Full}
use Rattle.schedule_trie.specs.changes.Detaches.{IsDetached}
use Rattle.schedule_trie.specs.Trie.{forest}
use Rattle.branch_terms.specs.Forest.{detach_at, on_found, slots_in}
use Rattle.schedule_trie.proofs.trie.Trie.detach.Goals as goal

pub returns-clause-ok : goal.returns-clause-ok
returns-clause-ok g c =
    let now = c.args.self.now in
    let view = c.self.view_is ∙ c.cache_len.ensures.same in
    let change = subst (λ z. IsDetached z c.detach_at.new.self c.in-Some.index) c.cache_len.ensures.same c.in_ok-detach_at.ensures.ok in
    let fits : now.made + length (slots_in (forest now).branches c.in-Some.index) ≤ now.limits.cells =
    omega (arith, ap (λ z. z.limits.cells) view, ap (λ z. z.made) view, c.if-cache_len-self.false, c.cache_len.ensures.len, c.cache_len.ensures.whole.within.cells) in
    record {
      forest = ap (λ o. on_found o (detach_at now.limits (forest now))) (sym c.in-Some.ensures.index)
          ∙ (λ i. cond (le-ltb now.limits.cells (now.made + length (slots_in (forest now).branches c.in-Some.index)) fits i) (Err Full)
          (Ok (record { branches = sym change.branches i; made = sym change.made i })));
      notes = change.notes;
      cut = change.cut;
      limits = change.limits;
    }
