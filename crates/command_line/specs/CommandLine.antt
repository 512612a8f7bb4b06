-- What the words after the program's name ask for: `[FILE] [--workers N] [--cells N] [--branches N]
-- [--save PATH]`.
use Rattle.std.specs.Prelude.{◌≡◌, ◌≢◌, ℕ, List, [], ◌∷◌, Option, Some, true, codes, pos, ⊤, option_map}
use Rattle.std.specs.Option.{option_map_or}
use Rattle.std.specs.Str.Parse.{digits_value, without_leading_plus}
use Rattle.clap.specs.Words.{App, IsAmong, Kinds, Rule, Text, fault_of, first_of, matches_of, new_app, new_rule, one_of, with_rule}
use Rattle.clap.specs.Simple.{on_top}
use Rattle.clap.specs.declared.error.kind.ErrorKind.{ErrorKind}
use Rattle.clap.specs.declared.builder.action.ArgAction.TheVariants.{Set}
use Rattle.clap.specs.declared.error.kind.ErrorKind.TheVariants.{DisplayHelp, OutOfMemory}
use Rattle.clap.specs.declared.builder.value_parser.ValueParser.{ValueParser}
use Rattle.clap.specs.declared.builder.value_parser.ValueParser.TheVariants as value_parser
use Rattle.branch_terms.specs.declared.limits.TheConstants.{MOST_CELLS_MADE}
use Rattle.command_line.specs.Ranges.{AreOptionsInRange}
use Rattle.command_line.specs.declared.options.Options.{Options}
use Rattle.command_line.specs.declared.invocation.Invocation.{Invocation}
use Rattle.command_line.specs.declared.invocation.Invocation.TheVariants.{Run, Help, Refused, Memory}

-- the rule for FILE, a word that belongs to no option
abbrev pub file_rule : Rule
file_rule = new_rule (codes "FILE")

-- the rule for the option with the name `id`: its value is what `parser` reads, and is `default` if
-- the option isn't used
abbrev pub option_rule : Text → ValueParser → Text → Rule
option_rule id parser default = record (new_rule id) {
  long = Some id;
  action = Some Set;
  value_names = 1;
  defaults = default ∷ [];
  parser = Some parser;
}

-- the rule for the option with the name `id`: its value is a number from `least` to `most`, and is
-- `default` if the option isn't used
abbrev pub number_rule : Text → ℕ → ℕ → Text → Rule
number_rule id least most default = option_rule id (value_parser.Signed (pos least) (pos most)) default

-- the rule for the option --workers: a number from 0 to 4, by default 0
abbrev pub workers_rule : Rule
workers_rule = number_rule (codes "workers") 0 4 (codes "0")

-- the rule for the option --cells: a number from 1 to 2^28, by default 65536
abbrev pub cells_rule : Rule
cells_rule = number_rule (codes "cells") 1 MOST_CELLS_MADE (codes "65536")

-- the rule for the option --branches: a number from 1 to 1,024, by default 64
abbrev pub branches_rule : Rule
branches_rule = number_rule (codes "branches") 1 1024 (codes "64")

-- the rule for the option with the name `id`: its value is a path
abbrev pub path_rule : Text → Rule
path_rule id = record (new_rule id) {
  long = Some id;
  action = Some Set;
  value_names = 1;
}

-- the rule for the option --save: a path
abbrev pub save_rule : Rule
save_rule = path_rule (codes "save")

-- the rules for the words after the program's name: FILE and the four options
abbrev pub program : App
program = with_rule (with_rule (with_rule (with_rule (with_rule
    (on_top (λ s. record s { no_binary_name = true }) (new_app (codes "towerbench"))) file_rule) workers_rule) cells_rule) branches_rule) save_rule

-- the kinds of error that reading these words may give; none if the words are accepted
abbrev pub faults_of : List Text → Kinds
faults_of words = fault_of program words

-- the FILE that the words name; `None` if they name none
abbrev pub file_word : List Text → Option Text
file_word words = first_of (codes "FILE") (matches_of program words)

-- the PATH that the words give with --save; `None` if they give none
abbrev pub save_path : List Text → Option Text
save_path words = first_of (codes "save") (matches_of program words)

-- the value of the option with the name `id`, which takes a number: the number that the words give,
-- or the option's default if they give none
abbrev pub option_number : Text → List Text → ℕ
option_number id words = option_map_or (λ t. digits_value 10 (without_leading_plus t)) (one_of id (matches_of program words)) 0

-- the options that the words give; those that they don't give have their defaults
abbrev pub options_of : List Text → Options
options_of words = record {
  workers = option_number (codes "workers") words;
  cells = option_number (codes "cells") words;
  branches = option_number (codes "branches") words;
}

-- The words are accepted. `options` are the options that the words give, and the defaults of those
-- that they don't give; each is in its range. `file` is the FILE that the words name, or `None` if
-- they name none. `save` is the PATH that the words give with --save, or `None` if they give none.
pub record Says (words : List Text) (file : Option Text) (options : Options) (save : Option Text) : Type 0 where
  pub taken : faults_of words ≡ []
  pub file_is : file ≡ file_word words
  pub options_are : options ≡ options_of words
  pub save_is : save ≡ save_path words
  pub limits : AreOptionsInRange options

-- The words ask for the help, and nothing before that request is wrong.
abbrev pub AsksHelp : List Text → Type 0
AsksHelp words = IsAmong DisplayHelp (faults_of words)

-- The words have a fault whose kind isn't DisplayHelp. (DisplayHelp is the kind of a request for
-- the help.)
abbrev pub IsWrong : List Text → Type 0
IsWrong words = (k : ErrorKind) × IsAmong k (faults_of words) × (k ≢ DisplayHelp)

-- an outcome that suits words that gave an error of kind k: the help if k is DisplayHelp; a refusal
-- if k is neither DisplayHelp nor OutOfMemory; or, for any k, Memory
abbrev pub Explains : ErrorKind → Invocation → Type 0
Explains k (Run file options save) = ⊥
Explains k (Help text) = k ≡ DisplayHelp
Explains k (Refused text) = (k ≢ DisplayHelp) × (k ≢ OutOfMemory)
Explains k Memory = ⊤

-- The outcome suits the words. A run suits words that are accepted, if the run's FILE, options and
-- PATH are those that the words give, and each option is in its range. The help suits words that
-- ask for it. A refusal suits words that are wrong. Memory, the outcome if memory ran out, suits
-- all words.
abbrev pub IsAskedBy : List Text → Invocation → Type 0
IsAskedBy words (Run file options save) = Says words (option_map (λ p. p.now) file) options (option_map (λ p. p.now) save)
IsAskedBy words (Help text) = AsksHelp words
IsAskedBy words (Refused text) = IsWrong words
IsAskedBy words Memory = ⊤

-- the outcome is a run of the program with this FILE, these options and this PATH; or it is Memory
abbrev pub IsRunOrMemory : Option Text → Options → Option Text → Invocation → Type 0
IsRunOrMemory file options save (Run f o s) = (option_map (λ p. p.now) f ≡ file) × (o ≡ options) × (option_map (λ p. p.now) s ≡ save)
IsRunOrMemory file options save (Help text) = ⊥
IsRunOrMemory file options save (Refused text) = ⊥
IsRunOrMemory file options save Memory = ⊤

-- the options of a run if the words give none
abbrev pub default_options : Options
default_options = record { workers = 0; cells = 65536; branches = 64 }
