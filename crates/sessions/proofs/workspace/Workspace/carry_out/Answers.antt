use Rattle.std.proofs.Common.{ap, ◌∙◌}
use Rattle.std.specs.Option.{option_map}
use Rattle.schedule_trie.specs.Edits.{edit_in}
use Rattle.sessions.proofs.workspace.Workspace.carry_out.Goals as goal

pub returns-in-Some : goal.returns-in-Some
returns-in-Some g c = λ n. c.edit.ensures n c.args.who c.args.command.now (c.requires.edit ∙ ap (option_map edit_in) c.in-Some.is)

pub returns-in-Join : goal.returns-in-Join
returns-in-Join g c = λ n. rw c.in-Join.is (c.join.ensures n)

pub returns-in-Leave : goal.returns-in-Leave
returns-in-Leave g c = λ n. rw c.in-Leave.is (c.leave.ensures n)

pub returns-in-Go : goal.returns-in-Go
returns-in-Go g c = λ n. rw c.in-Go.is (c.go.ensures n)

pub returns-in-Seek : goal.returns-in-Seek
returns-in-Seek g c = λ n. rw c.in-Seek.is (c.seek.ensures n)

pub returns-in-Back : goal.returns-in-Back
returns-in-Back g c = λ n. rw c.in-Back.is (c.seek-in-Back.ensures n)

pub returns-in-Break : goal.returns-in-Break
returns-in-Break g c = λ n. rw c.in-Break.is (c.set_break.ensures n)

pub returns-in-Clear : goal.returns-in-Clear
returns-in-Clear g c = λ n. rw c.in-Clear.is (c.clear_break.ensures n)
