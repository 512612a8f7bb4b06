-- What the words after the program's name ask for.
use Rattle.std.specs.Prelude.{◌≡◌, ℕ, ◌||◌, ◌&&◌, ◌==◌, not, Bool, true, false, List, [], ◌∷◌, codes}
use Rattle.std.specs.Str.{bytes_eq}
use Rattle.towerbench_answers.specs.declared.ending.AnswersEnding.{AnswersEnding}
use Rattle.towerbench_answers.specs.declared.ending.AnswersEnding.TheVariants.{Done, Refused, Faulted}
use Rattle.towerbench_answers.specs.declared.invocation.AnswersInvocation.{AnswersInvocation}
use Rattle.towerbench_answers.specs.declared.invocation.AnswersInvocation.TheVariants.{File, Help, Nothing}

-- whether a word asks for the help
abbrev pub is_help : List ℕ → Bool
is_help word = bytes_eq word (codes "--help") || bytes_eq word (codes "-h")

-- whether a word begins with `-`
abbrev pub is_option : List ℕ → Bool
is_option [] = false
is_option (b ∷ bs) = b == 45

-- A single word asks for this: `--help` and `-h` ask for the help; any other word that begins with
-- `-` asks for nothing that the program does; any other word is the path of a question file.
abbrev pub IsAnswersInvocationOfWord : List ℕ → AnswersInvocation → Type 0
IsAnswersInvocationOfWord word (File path) = (path.now ≡ word) × (is_option word ≡ false)
IsAnswersInvocationOfWord word Help = is_help word ≡ true
IsAnswersInvocationOfWord word Nothing = (is_option word && not (is_help word)) ≡ true

-- The words ask for this: no words, for the help; a single word, for what
-- `IsAnswersInvocationOfWord` says; several words, for nothing that the program does.
abbrev pub IsAnswersInvocation : List (List ℕ) → AnswersInvocation → Type 0
IsAnswersInvocation [] invocation = invocation ≡ Help
IsAnswersInvocation (word ∷ []) invocation = IsAnswersInvocationOfWord word invocation
IsAnswersInvocation (word ∷ other ∷ others) invocation = invocation ≡ Nothing

-- whether the words are refused, since they ask for nothing that the program does
abbrev pub are_refused : List (List ℕ) → Bool
are_refused [] = false
are_refused (word ∷ []) = is_option word && not (is_help word)
are_refused (word ∷ other ∷ others) = true

-- whether nothing is asked for
abbrev pub is_nothing : AnswersInvocation → Bool
is_nothing Nothing = true
is_nothing Help = false
is_nothing (File path) = false

-- whether the program ends in this way because its words are refused
abbrev pub ends_refused : AnswersEnding → Bool
ends_refused Refused = true
ends_refused Done = false
ends_refused (Faulted e) = false

-- the program's exit status: 0 if it is done, 2 if the words are refused, 1 after a fault
abbrev pub answers_status : AnswersEnding → ℕ
answers_status Done = 0
answers_status Refused = 2
answers_status (Faulted e) = 1
