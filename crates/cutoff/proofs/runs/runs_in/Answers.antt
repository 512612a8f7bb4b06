use Rattle.std.proofs.Common.{◌≡◌, Some, length, get_or, inl, inr, refl, sym, ap, ◌∙◌}
use Rattle.std.specs.Prelude.{min}
use Rattle.std.specs.Arc.{arc_value}
use Rattle.std.specs.Option.{option_map}
use Rattle.cutoff.specs.Fitting.{bare_run, run_at}
use Rattle.cutoff.proofs.Parts.{read_next, read_past, read_missing}
use Rattle.cutoff.proofs.runs.runs_in.Goals as goal
use Rattle.cutoff.proofs.runs.runs_in.Goals.{else-loop-key-test, then-loop-key-test+then-rest-eq0, then-loop-key-test+else-rest-eq0+in_default}

pub loop-key-init : goal.loop-key-init
loop-key-init g c = rw c.new-runs.ensures.items refl

pub loop-key-preserved : goal.loop-key-preserved
loop-key-preserved g c =
    let run = arc_value c.in_ok-run.run' in
    let key = get_or c.args.keys.now c.loop-key.key-index 0 in
    let kept : run ≡ c.in-Some.stored.now.run = c.in_ok-run.ensures ∙ c.run.ensures in
    let stored : run_at c.args.trie.now key ≡ Some run = ap (option_map bare_run) (sym c.in-Some.ensures) ∙ ap Some (sym kept) in
    let len : length c.steps.result.now ≡ length run.steps = ap length (c.steps.ensures.steps ∙ ap (λ r. r.steps) c.deref.ensures) in
    read_next c.args.trie.now c.args.keys.now c.loop-key.key-index c.loop-key.rest c.loop-key.runs.items _ c.loop-key.invariant c.push.new.self.items (c.in_ok-run.run', c.min-count.result) c.loop-key-test.true
    c.if-rest-eq0.false stored (c.min-count.ensures ∙ ap (min c.loop-key.rest) len) c.in_ok-push.ensures.items

pub returns : goal.returns
returns g c =
    c.new-parts.ensures
    ∙ elim c.loop-key-test.branch [
      | else-loop-key-test w ↦ read_past c.args.trie.now c.args.keys.now c.loop-key.key-index c.loop-key.rest c.loop-key.runs.items _ c.loop-key.invariant (inl w.loop-key-test.false)
      | then-loop-key-test+then-rest-eq0 w ↦ read_past c.args.trie.now c.args.keys.now c.loop-key.key-index c.loop-key.rest c.loop-key.runs.items _ c.loop-key.invariant (inr w.if-rest-eq0.true)
      | then-loop-key-test+else-rest-eq0+in_default w ↦
          read_missing c.args.trie.now c.args.keys.now c.loop-key.key-index c.loop-key.rest c.loop-key.runs.items _ c.loop-key.invariant w.loop-key-test.true (ap (option_map bare_run) (sym w.in_default.ensures))
    ]
