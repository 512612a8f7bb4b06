use Rattle.std.proofs.Common.{ap, map}
use Rattle.std.specs.String.{string_bytes}
use Rattle.command_line.proofs.Parses.{branches, cells, fault_explained, number_always_given, runs_without_words, says, simple_and_free, workers}
use Rattle.command_line.specs.declared.invocation.Invocation.TheVariants.{Run}
use Rattle.command_line.proofs.invocation.parse_words.Goals as goal

pub returns-in-Err : goal.returns-in-Err
returns-in-Err c =
    let words = map string_bytes c.args.words.now in
    let asked = fault_explained c.in-Ok.command words c.in-Err.error c.invocation_of.result c.in-Ok.ensures (c.in-Err.ensures.kinds (simple_and_free c.in-Ok.command c.in-Ok.ensures)) c.invocation_of.ensures in
    record { asked = asked; bare = λ none. runs_without_words words c.invocation_of.result (ap (map string_bytes) none) asked }

pub unreachable-requires : goal.unreachable-requires
unreachable-requires c =
    let parse = c.in-Ok-try_get_matches_from in
    number_always_given c.in-Ok.command parse.matches c.in-Ok.ensures parse.ensures.parsed workers c.in_default-get_one.ensures.value

pub unreachable-requires-in_default-get_one-2 : goal.unreachable-requires-in_default-get_one-2
unreachable-requires-in_default-get_one-2 c =
    let parse = c.in-Ok-try_get_matches_from in
    number_always_given c.in-Ok.command parse.matches c.in-Ok.ensures parse.ensures.parsed cells c.in_default-get_one-2.ensures.value

pub unreachable-requires-in_default-get_one-3 : goal.unreachable-requires-in_default-get_one-3
unreachable-requires-in_default-get_one-3 c =
    let parse = c.in-Ok-try_get_matches_from in
    number_always_given c.in-Ok.command parse.matches c.in-Ok.ensures parse.ensures.parsed branches c.in_default-get_one-3.ensures.value

pub returns : goal.returns
returns c =
    let words = map string_bytes c.args.words.now in
    let parse = c.in-Ok-try_get_matches_from in
    let run = Run c.get_str.result (record { workers = c.in-Some.workers; cells = c.in-Some-get_one.cells; branches = c.in-Some-get_one-2.branches }) c.get_str-2.result in
    let asked = says c.in-Ok.command parse.matches c.in-Ok.ensures parse.ensures.parsed
    words _ _ c.in-Some.workers c.in-Some-get_one.cells c.in-Some-get_one-2.branches parse.ensures.matches (parse.ensures.kinds (simple_and_free c.in-Ok.command c.in-Ok.ensures)) c.get_str.ensures c.get_str-2.ensures
    c.in-Some.ensures.value c.in-Some-get_one.ensures.value c.in-Some-get_one-2.ensures.value in
    record { asked = asked; bare = λ none. runs_without_words words run (ap (map string_bytes) none) asked }
