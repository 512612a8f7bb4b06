use Rattle.std.proofs.Common.{◌≡◌, map, ap, ◌∙◌, sym}
use Rattle.std.proofs.lemmas.Result.{IfOk-weaker}
use Rattle.branch_terms.specs.Forest.{step_of, slots_in}
use Rattle.schedule_trie.specs.Trie.{segment_at, forest, line}
use Rattle.schedule_trie.proofs.branches.Lines.{slots_in_on}
use Rattle.schedule_trie.proofs.trie.Trie.steps_at.Goals as goal

pub returns : goal.returns
returns g c =
    let now = c.args.self.now in
    IfOk-weaker c.steps_of.result (λ steps. steps.items ≡ map step_of (line (segment_at now.segments) c.deref.result.now)) (λ steps. steps.items ≡ map step_of (slots_in (forest now).branches c.args.index))
    (λ steps e. e ∙ ap (λ ks. map step_of (line (segment_at now.segments) ks)) (c.deref.ensures.value ∙ c.in_ok-keys.ensures.keys)
    ∙ ap (map step_of) (sym (slots_in_on (segment_at now.segments) now.branches c.args.index))) c.steps_of.ensures
