use Rattle.std.proofs.Common.{refl}
use Rattle.schedule_trie.specs.Trie.{forest}
use Rattle.schedule_trie.specs.Edits.{edit_in}
use Rattle.schedule_trie.proofs.Results.{always_on_ok}
use Rattle.sessions.specs.declared.cursor.Shift.TheVariants.{Up, Down}
use Rattle.sessions.proofs.UnmovedCursors.{unmoved}
use Rattle.sessions.proofs.workspace.edits.change_and_move.Goals as goal

pub returns-in-Insert-2-clause-moved : goal.returns-in-Insert-2-clause-moved
returns-in-Insert-2-clause-moved g c =
    always_on_ok c.insert.result
    (unmoved (edit_in c.args.edit.now) c.in-Insert.branch.now c.in-Insert.place Up c.args.cursors.now (λ f old. rw c.in-Insert.is refl) c.if-any_after.ensures (forest c.args.chart.now.trie))

pub returns-in-Remove-2-clause-moved : goal.returns-in-Remove-2-clause-moved
returns-in-Remove-2-clause-moved g c =
    always_on_ok c.remove.result
    (unmoved (edit_in c.args.edit.now) c.in-Remove.branch.now c.in-Remove.place Down c.args.cursors.now (λ f old. rw c.in-Remove.is refl) c.if-any_after-2.ensures (forest c.args.chart.now.trie))
