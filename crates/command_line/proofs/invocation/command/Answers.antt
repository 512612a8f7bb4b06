use Rattle.std.proofs.Common.{ap, ap₂, true, false, ◌≡◌, ◌∙◌, ℕ}
use Rattle.std.proofs.lemmas.Result.{IfOk-weaker}
use Rattle.clap.specs.Words.{Rule, Text, app_of, new_app, rule_of, with_rule}
use Rattle.clap.specs.Simple.{app_of_fields, on_top}
use Rattle.std.specs.Prelude.{pos}
use Rattle.clap.specs.declared.builder.arg.Arg.{Arg}
use Rattle.clap.specs.declared.builder.value_parser.ValueParser.{ValueParser}
use Rattle.clap.specs.declared.builder.value_parser.ValueParser.TheVariants as value_parser
use Rattle.branch_terms.specs.declared.limits.TheConstants.{MOST_CELLS_MADE}
use Rattle.command_line.specs.CommandLine.{branches_rule, cells_rule, file_rule, number_rule, option_rule, workers_rule}
use Rattle.command_line.proofs.invocation.command.Goals as goal

-- an option whose parser is a range has the rule of a number
numbered : (id : Text) (least most : ℕ) (default : Text) (parser : ValueParser) (option : Rule) → option ≡ option_rule id parser default
    → parser ≡ value_parser.Signed (pos least) (pos most) → option ≡ number_rule id least most default
numbered id least most default parser option is range = is ∙ ap (λ number. option_rule id number default) range

-- an option isn't global if an equal one isn't
not_global : {option like : Arg} → option ≡ like → like.global ≡ false → option.global ≡ false
not_global same own = ap (λ (a : Arg). a.global) same ∙ own

pub returns : goal.returns
returns c =
    let file_is : rule_of c.help-file.result ≡ file_rule = ap rule_of c.help-file.ensures ∙ c.new.ensures.rule in
    let workers_parser : c.range.result ≡ value_parser.Signed (pos 0) (pos 4) =
    rw (c.value_parser.ensures, c.new-2.ensures.start, c.new-2.ensures.end) at c.range.ensures in
    let cells_parser : c.range-2.result ≡ value_parser.Signed (pos 1) (pos MOST_CELLS_MADE) =
    rw (c.value_parser-2.ensures, c.new-3.ensures.start, c.new-3.ensures.end) at c.range-2.ensures in
    let branches_parser : c.range-3.result ≡ value_parser.Signed (pos 1) (pos 1024) =
    rw (c.value_parser-3.ensures, c.new-4.ensures.start, c.new-4.ensures.end) at c.range-3.ensures in
    let workers_are : rule_of c.help-workers.result ≡ workers_rule = ap rule_of c.help-workers.ensures ∙ numbered _ 0 4 _ _ _ c.number_option.ensures.rule workers_parser in
    let cells_are : rule_of c.help-cells.result ≡ cells_rule = ap rule_of c.help-cells.ensures ∙ numbered _ 1 MOST_CELLS_MADE _ _ _ c.number_option-2.ensures.rule cells_parser in
    let branches_are : rule_of c.help-branches.result ≡ branches_rule = ap rule_of c.help-branches.ensures ∙ numbered _ 1 1024 _ _ _ c.number_option-3.ensures.rule branches_parser in
    let described : app_of c.about.result ≡ app_of c.new-5.result = ap app_of_fields c.about.ensures ∙ ap app_of_fields c.before_help.ensures in
    let bare : app_of c.no_binary_name.result ≡ on_top (λ s. record s { no_binary_name = true }) (app_of c.about.result) =
    ap app_of_fields c.no_binary_name.ensures in
    let first : app_of c.no_binary_name.result ≡ on_top (λ s. record s { no_binary_name = true }) (new_app _) =
    bare ∙ ap (on_top (λ s. record s { no_binary_name = true })) (described ∙ c.new-5.ensures.app) in
    let with_file = c.in_ok-arg.ensures.shape (not_global c.help-file.ensures c.new.ensures.optional.1) ∙ ap₂ with_rule first file_is in
    let with_workers = c.in_ok-arg-2.ensures.shape (not_global c.help-workers.ensures c.number_option.ensures.own) ∙ ap₂ with_rule with_file workers_are in
    let with_cells = c.in_ok-arg-3.ensures.shape (not_global c.help-cells.ensures c.number_option-2.ensures.own) ∙ ap₂ with_rule with_workers cells_are in
    let with_branches = c.in_ok-arg-4.ensures.shape (not_global c.help-branches.ensures c.number_option-3.ensures.own) ∙ ap₂ with_rule with_cells branches_are in
    IfOk-weaker c.arg-5.result _ _ (λ r h. h.shape (not_global c.help-save.ensures c.path_option.ensures.own) ∙ ap₂ with_rule with_branches (ap rule_of c.help-save.ensures ∙ c.path_option.ensures.rule)) c.arg-5.ensures
