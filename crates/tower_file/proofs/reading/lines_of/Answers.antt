use Rattle.std.proofs.Common.{rules, ◌≡◌, ◌<◌, ◌^◌, length}
use Rattle.words.specs.Words.{lines}
use Rattle.words.proofs.Splits.{few_lines}
use Rattle.tower_file.proofs.reading.lines_of.Goals as goal

pub returns-clause-few : goal.returns-clause-few
returns-clause-few c =
    let all : c.new.result ≡ lines c.args.bytes.now = search rules in
    let small : length c.args.bytes.now < 2 ^ 63 = search rules in
    few_lines c.args.bytes.now c.new.result all small
