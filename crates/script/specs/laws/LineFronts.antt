-- Only the front of each line, its first `KEPT_BYTES` bytes, is kept in memory. These laws say that
-- the front and the whole line are read and answered alike.
use Rattle.std.proofs.Common.{◌≡◌, ℕ, ◌<◌, Bool, cond, ◌&&◌, ◌==◌, List, [], ◌∷◌, length, take, refl, sym, ap, ◌∙◌, arith, inl, inr}
use Rattle.std.proofs.lemmas.List.{take_all, length-take}
use Rattle.std.proofs.lemmas.Bool.{cases_lt, lt-leb}
use Rattle.std.specs.List.{list_all}
use Rattle.conversation.specs.declared.limits.TheConstants.{KEPT_BYTES}
use Rattle.words.specs.Words.{words}
use Rattle.script.specs.declared.call.Line.TheVariants as line
use Rattle.script.specs.Lines.{call_line, call_or_bad, call_of, read_line, is_call_byte}
use Rattle.sessions.specs.World.{World}
use Rattle.script.specs.Answers.{answer_line, answer_to}

call_line_long : (text : List ℕ) → 255 < length text → call_line text ≡ line.Bad
call_line_long text h = ap (λ b. cond (b && list_all is_call_byte text) (call_or_bad (call_of (words text))) line.Bad) (lt-leb (length text) 255 h)

call_line-front : (b : ℕ) (bs : List ℕ) → call_line (b ∷ take 255 bs) ≡ call_line (b ∷ bs)
call_line-front b bs = elim (cases_lt (length bs) 255) [
  | inl short ↦ ap (λ xs. call_line (b ∷ xs)) (take_all 255 bs (omega arith))
  | inr long ↦ call_line_long (b ∷ take 255 bs) (omega (arith, length-take 255 bs)) ∙ sym (call_line_long (b ∷ bs) (omega arith))
]

-- `read_line` gives the same result for the front of a line as for the whole line
pub read_line-front : (text : List ℕ) → read_line (take KEPT_BYTES text) ≡ read_line text
read_line-front [] = refl
read_line-front (b ∷ bs) = ap (λ l. cond (b == 35) line.Blank l) (call_line-front b bs)

-- `answer_line` gives the same result for the front of a line as for the whole line
pub answer_line-front : {P : Type 0} (memory : Bool) (n : ℕ) (text : List ℕ) (w : World P) → answer_line memory n (take KEPT_BYTES text) w ≡ answer_line memory n text w
answer_line-front memory n text w = ap (λ l. answer_to memory n l w) (read_line-front text)
