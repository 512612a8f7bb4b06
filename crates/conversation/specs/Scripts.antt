-- A script, its lines, and the answers to them. How one line is answered is a parameter, `define`.
use Rattle.std.specs.Prelude.{ℕ, ◌+◌, ◌++◌, ◌==◌, ◌≡◌, ⊤, Bool, List, [], ◌∷◌, Result, Ok}
use Rattle.std.specs.Global.{Vec}
use denote.Ref.{Bor, MutBor}
use Rattle.std.specs.declared.alloc.AllocError.{AllocError}
use Rattle.std.specs.List.{slice_split, fold}

-- the result of answering one line: the world that the line leaves, and its answer in bytes
pub record Answered (W : Type 0) : Type 0 where
  pub world : W
  pub text : List ℕ

-- how one line is answered, given whether the line was refused memory (whether memory ran out for
-- what the line asks for), the line's number, its bytes, and the world that it finds
abbrev pub LineAnswering : Type 0 → Type 0
LineAnswering W = Bool → ℕ → List ℕ → W → Answered W

-- for each line's number, whether that line was refused memory
abbrev pub RefusedMemory : Type 0
RefusedMemory = ℕ → Bool

-- whether a byte is a line end, which is an LF
abbrev pub is_line_end : ℕ → Bool
is_line_end b = b == 10

-- the lines of a script: the parts between its line ends; the last line is what follows the last
-- line end, and may be empty
abbrev pub lines_of : List ℕ → List (List ℕ)
lines_of script = slice_split is_line_end script

-- all of these lines but the last
abbrev pub all_but_last : List (List ℕ) → List (List ℕ)
all_but_last [] = []
all_but_last (line ∷ []) = []
all_but_last (line ∷ next ∷ lines) = line ∷ all_but_last (next ∷ lines)

-- the whole lines of a text: those that end with an LF
abbrev pub whole_lines : List ℕ → List (List ℕ)
whole_lines text = all_but_last (lines_of text)

-- how far a script is answered: the world after some lines, how many lines there were, and the
-- answers to them
pub record ScriptProgress (W : Type 0) : Type 0 where
  pub world : W
  pub lines : ℕ
  pub text : List ℕ

-- the progress before the first line, in the world w
abbrev pub beginning : {W : Type 0} → W → ScriptProgress W
beginning w = record { world = w; lines = 0; text = [] }

-- the progress p after one more line, given the world that this line left and its answer
abbrev pub further : {W : Type 0} → ScriptProgress W → Answered W → ScriptProgress W
further p answered = record { world = answered.world; lines = p.lines + 1; text = p.text ++ answered.text }

-- the progress p after the next line, which is answered as `define` says; `refused` says whether
-- the line was refused memory
abbrev pub next_line : {W : Type 0} → LineAnswering W → RefusedMemory → ScriptProgress W → List ℕ → ScriptProgress W
next_line define refused p line = further p (define (refused (p.lines + 1)) (p.lines + 1) line p.world)

-- the progress after these lines, from the opening world `start`; `refused` says which lines were
-- refused memory
abbrev pub after_lines : {W : Type 0} → LineAnswering W → W → List (List ℕ) → RefusedMemory → ScriptProgress W
after_lines define start lines refused = fold (next_line define refused) (beginning start) lines

-- the answers to these lines, one after another, from the opening world `start`; `refused` says
-- which lines were refused memory
abbrev pub answers_to : {W : Type 0} → LineAnswering W → W → List (List ℕ) → RefusedMemory → List ℕ
answers_to define start lines refused = (after_lines define start lines refused).text

-- a line was answered as `define` says, perhaps as one that was refused memory: the answer's text
-- was added to `before`, which gives `after`, and the line turned the world `old` into `new`
pub record IsLineAnswer {W : Type 0} (define : LineAnswering W) (number : ℕ) (line : List ℕ) (old new : W) (before after : List ℕ) : Type 0 where
  pub memory : Bool
  pub text : List ℕ
  pub answered : define memory number line old ≡ record { world = new; text = text }
  pub added : after ≡ before ++ text

-- What the closure that answers lines has to do. Suppose that nobody else changes what lines see,
-- and that a call returns Ok. Then the call has answered its line as `define` says, either for a
-- line that was refused memory or for one that wasn't: it has added the answer's text to `out`, and
-- left the world that `define` gives. After the call, too, nobody else changes what lines see.
abbrev pub AnswersBy : {A W : Type 0} → (A → Type 0) → LineAnswering W → (A → W) → (MutBor A → ℕ → Bor (List ℕ) → MutBor (Vec ℕ) → Result ⊤ AllocError → MutBor A → MutBor (Vec ℕ) → Type 0) → Type 0
AnswersBy {A} alone define world post = (state : MutBor A) (number : ℕ) (line : Bor (List ℕ)) (out : MutBor (Vec ℕ)) (left : MutBor A) (added : MutBor (Vec ℕ)) → post state number line out (Ok tt) left added
    → alone state.now → IsLineAnswer define number line.now (world state.now) (world left.now) out.now.items added.now.items × alone left.now
