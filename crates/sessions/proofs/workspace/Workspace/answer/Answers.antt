use Rattle.std.proofs.Common.{◌∙◌, sym}
use Rattle.sessions.specs.Books.{stored, world_of}
use Rattle.sessions.proofs.CommandAnswers.{carried_out_result, session_exists_and_step_fits, early_refused_result, none_if_never_some, none_if_memory, late_refused_result, late_decides}
use Rattle.sessions.proofs.workspace.Workspace.answer.Goals as goal

pub returns-in-Some : goal.returns-in-Some
returns-in-Some g c = λ n room.
    early_refused_result c.args.who c.args.if_at c.args.command.now (world_of g.R.Behaves.behaviour (stored c.args.self.now n)) room c.in-Some.refusal
    (c.in-Some.ensures n c.args.command.now c.parts_of_command-session.ensures.session c.parts_of_command-session.ensures.step)

pub carry_out-requires-clause-session : goal.carry_out-requires-clause-session
carry_out-requires-clause-session g c =
    let early = none_if_never_some c.early_refusal.result c.in_default.not-Some ∙ c.early_refusal.ensures 0 c.args.command.now c.parts_of_command-session.ensures.session c.parts_of_command-session.ensures.step in
    (session_exists_and_step_fits c.args.who c.args.if_at c.args.command.now (world_of g.R.Behaves.behaviour (stored c.args.self.now 0)) (sym early)).0

pub carry_out-requires-clause-fits : goal.carry_out-requires-clause-fits
carry_out-requires-clause-fits g c =
    let early = none_if_never_some c.early_refusal.result c.in_default.not-Some ∙ c.early_refusal.ensures 0 c.args.command.now c.parts_of_command-session.ensures.session c.parts_of_command-session.ensures.step in
    (session_exists_and_step_fits c.args.who c.args.if_at c.args.command.now (world_of g.R.Behaves.behaviour (stored c.args.self.now 0)) (sym early)).1

pub returns-in-Ok : goal.returns-in-Ok
returns-in-Ok g c = λ n room.
    let w = world_of g.R.Behaves.behaviour (stored c.args.self.now n) in
    let early = none_if_never_some c.early_refusal.result c.in_default.not-Some ∙ c.early_refusal.ensures n c.args.command.now c.parts_of_command-session.ensures.session c.parts_of_command-session.ensures.step in
    let done = c.in-Ok.ensures n in
    carried_out_result c.args.who c.args.if_at c.args.command.now w room _ c.in-Ok.reply (late_decides c.args.who c.args.if_at c.args.command.now w room early ∙ done.not_refused) done.leaves done.replies

pub returns-in-Memory : goal.returns-in-Memory
returns-in-Memory g c = λ n room.
    let w = world_of g.R.Behaves.behaviour (stored c.args.self.now n) in
    let early = none_if_never_some c.early_refusal.result c.in_default.not-Some ∙ c.early_refusal.ensures n c.args.command.now c.parts_of_command-session.ensures.session c.parts_of_command-session.ensures.step in
    let undone = c.in-Err.ensures n in
    (none_if_memory c.args.who c.args.if_at c.args.command.now w room early c.in-Err.refusal c.in-Memory.is undone.why, undone.same)

pub returns-in_default-refusal : goal.returns-in_default-refusal
returns-in_default-refusal g c = λ n room.
    let w = world_of g.R.Behaves.behaviour (stored c.args.self.now n) in
    let early = none_if_never_some c.early_refusal.result c.in_default.not-Some ∙ c.early_refusal.ensures n c.args.command.now c.parts_of_command-session.ensures.session c.parts_of_command-session.ensures.step in
    let undone = c.in-Err.ensures n in
    late_refused_result c.args.who c.args.if_at c.args.command.now w room early c.in-Err.refusal c.in_default-refusal.not-Memory undone.why _ undone.same
