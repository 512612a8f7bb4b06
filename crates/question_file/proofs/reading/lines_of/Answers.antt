use Rattle.std.proofs.Common.{rules, ◌≡◌, ◌==◌, ◌∙◌, ◌<◌, ◌^◌, length, ap}
use Rattle.words.specs.Words.{lines, is_end}
use Rattle.words.proofs.Splits.{few_lines, split_nonempty}
use Rattle.question_file.proofs.reading.lines_of.Goals as goal

pub returns-clause-few : goal.returns-clause-few
returns-clause-few c =
    let all : c.new.result ≡ lines c.args.bytes.now = search rules in
    let small : length c.args.bytes.now < 2 ^ 63 = search rules in
    few_lines c.args.bytes.now c.new.result all small

pub returns-clause-some : goal.returns-clause-some
returns-clause-some c =
    let all : c.new.result ≡ lines c.args.bytes.now = search rules in
    ap is_end all ∙ split_nonempty (λ b. b == 10) c.args.bytes.now
