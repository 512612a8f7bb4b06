-- Words of five bytes or more. Shorter ones need no answer here.
use Rattle.std.proofs.Common.{rules, arith}
use Rattle.std.specs.Prelude.{codes}
use Rattle.script.proofs.Verbs.{verb_from_reads}
use Rattle.script.proofs.verb.verb_of.Goals as goal

pub returns-in-steps : goal.returns-in-steps
returns-in-steps c = verb_from_reads c.args.word.now (codes "steps") (omega arith) (search rules)

pub returns-in-state : goal.returns-in-state
returns-in-state c = verb_from_reads c.args.word.now (codes "state") (omega arith) (search rules)

pub returns-in-break : goal.returns-in-break
returns-in-break c = verb_from_reads c.args.word.now (codes "break") (omega arith) (search rules)

pub returns-in-clear : goal.returns-in-clear
returns-in-clear c = verb_from_reads c.args.word.now (codes "clear") (omega arith) (search rules)

pub returns-in-leave : goal.returns-in-leave
returns-in-leave c = verb_from_reads c.args.word.now (codes "leave") (omega arith) (search rules)

pub returns-in-cursor : goal.returns-in-cursor
returns-in-cursor c = verb_from_reads c.args.word.now (codes "cursor") (omega arith) (search rules)

pub returns-in-insert : goal.returns-in-insert
returns-in-insert c = verb_from_reads c.args.word.now (codes "insert") (omega arith) (search rules)

pub returns-in-remove : goal.returns-in-remove
returns-in-remove c = verb_from_reads c.args.word.now (codes "remove") (omega arith) (search rules)

pub returns-in-detach : goal.returns-in-detach
returns-in-detach c = verb_from_reads c.args.word.now (codes "detach") (omega arith) (search rules)

pub returns-in-process : goal.returns-in-process
returns-in-process c = verb_from_reads c.args.word.now (codes "process") (omega arith) (search rules)

pub returns-in-pending : goal.returns-in-pending
returns-in-pending c = verb_from_reads c.args.word.now (codes "pending") (omega arith) (search rules)

pub returns-in-history : goal.returns-in-history
returns-in-history c = verb_from_reads c.args.word.now (codes "history") (omega arith) (search rules)

pub returns-in-verdict : goal.returns-in-verdict
returns-in-verdict c = verb_from_reads c.args.word.now (codes "verdict") (omega arith) (search rules)

pub returns-in-replace : goal.returns-in-replace
returns-in-replace c = verb_from_reads c.args.word.now (codes "replace") (omega arith) (search rules)

pub returns-in-branches : goal.returns-in-branches
returns-in-branches c = verb_from_reads c.args.word.now (codes "branches") (omega arith) (search rules)
