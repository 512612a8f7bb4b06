use Rattle.schedule_trie.specs.Edits.{edit_in}
use Rattle.sessions.proofs.EditAnswers.{done_edit, not_held_up, undone_edit}
use Rattle.sessions.proofs.workspace.Workspace.edit.Goals as goal

pub returns : goal.returns
returns g c = λ n who command is_edit.
    let done = c.in_ok-change_and_move in
    let free = not_held_up _ done.field-0 done.ensures.held_up in
    done_edit g.R.Behaves.behaviour n c.args.self.now c.change_and_move.new.chart c.change_and_move.new.cursors (edit_in c.args.edit.now) who command is_edit done.field-0 free (done.ensures.chart free) done.ensures.moved

pub returns-in_err-change_and_move : goal.returns-in_err-change_and_move
returns-in_err-change_and_move g c = λ n who command is_edit.
    let gone = c.in_err-change_and_move in
    undone_edit g.R.Behaves.behaviour n c.args.self.now c.change_and_move.new.chart c.change_and_move.new.cursors (edit_in c.args.edit.now) who
    command is_edit c.from_residual.result _ _ c.from_residual.ensures.1 (λ x h. h) gone.ensures.held_up gone.ensures.chart gone.ensures.kept
