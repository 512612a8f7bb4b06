-- Definitions that claim that something exists: an example of each, and a near miss.
use Rattle.std.proofs.Common.{ℕ, zero, suc, ◌≡◌, ◌+◌, false, List, [], ◌∷◌, ◌++◌, Some, length, drop, take, slice_index_or, ap, refl, sym, ◌∙◌, append-nil, arith}
use Rattle.conversation.specs.declared.fault.StreamFault.TheVariants.{Read, Memory}
use Rattle.conversation.specs.Streams.{streams}
use Rattle.conversation.specs.Scripts.{LineAnswering, RefusedMemory, lines_of, whole_lines, IsLineAnswer}
use Rattle.conversation.specs.Conversations.{Answering, IsPrefix, WrotePrefix, IsAnswered, WentOut, EndsWithFault}

abbrev first : List ℕ → ℕ
first list = slice_index_or list 0 5

-- lines are answered by the number of lines, whether memory was refused or not
abbrev counting : Answering
counting lines refused = length lines ∷ []

abbrev none_refused : RefusedMemory
none_refused number = false

-- a line is answered by its number, and adds one to the world
abbrev numbering : LineAnswering ℕ
numbering memory number line w = record { world = w + 1; text = number ∷ [] }

-- the one line `a`, and its end
abbrev one_line : List ℕ
one_line = 97 ∷ 10 ∷ []

-- `a` is the front of `ab`
IsPrefix-holds : IsPrefix (97 ∷ []) (97 ∷ 98 ∷ [])
IsPrefix-holds = (98 ∷ [], refl)

-- `b` is not a front of `ab`
IsPrefix-fails : IsPrefix (98 ∷ []) (97 ∷ 98 ∷ []) → ⊥
IsPrefix-fails h = let e : 97 ≡ 98 = ap first h.1 in omega (arith, e)

-- the front `a` of `ab` was written, after what was there
WrotePrefix-holds : WrotePrefix (Some (9 ∷ [])) (Some (9 ∷ 97 ∷ [])) (97 ∷ 98 ∷ [])
WrotePrefix-holds = (97 ∷ [], (98 ∷ [], refl), refl)

-- only the `b` of `ab` was written
WrotePrefix-fails : WrotePrefix (Some (9 ∷ [])) (Some (9 ∷ 98 ∷ [])) (97 ∷ 98 ∷ []) → ⊥
WrotePrefix-fails h =
    let front : 98 ∷ [] ≡ h.0 = ap (drop 1) h.2 in
    let e : 97 ≡ 98 = ap first (h.1.1 ∙ ap (λ front. front ++ h.1.0) (sym front)) in omega (arith, e)

-- `a` and a line end are read to the end: two lines, of which the last is empty
IsAnswered-holds : IsAnswered counting (streams (Some one_line) (Some [])) (streams (Some []) (Some (2 ∷ [])))
IsAnswered-holds = record { script = one_line; refused = none_refused; read = refl; ended = refl; short = omega arith; wrote = refl }

-- one of the lines wasn't answered
IsAnswered-fails : IsAnswered counting (streams (Some one_line) (Some [])) (streams (Some []) (Some (1 ∷ []))) → ⊥
IsAnswered-fails h =
    let script : one_line ≡ h.script = h.read ∙ append-nil h.script in
    let lines : 2 ≡ length (lines_of h.script) = ap (λ s. length (lines_of s)) script in
    let wrote : 1 ≡ length (lines_of h.script) = ap first h.wrote in omega (arith, lines, wrote)

-- out of memory, after the one whole line was answered
WentOut-holds : WentOut Memory counting none_refused one_line (Some []) (1 ∷ [])
WentOut-holds = (1, refl)

-- two lines can't have been answered, since the last line has no end
WentOut-fails : WentOut Memory counting none_refused one_line (Some []) (2 ∷ []) → ⊥
WentOut-fails h = by h.0 (ap first h.1)
  where
    by : (count : ℕ) → 2 ≡ first (counting (take count (whole_lines one_line)) none_refused) → ⊥
    by zero e = omega (arith, e)
    by (suc zero) e = omega (arith, e)
    by (suc (suc count)) e = let two_is : 2 ≡ 1 = e in omega (arith, two_is)

-- a read failed after `a`, a line end and `b`: the whole line was answered
EndsWithFault-holds : EndsWithFault counting Read (streams (Some (97 ∷ 10 ∷ 98 ∷ [])) (Some [])) (streams (Some []) (Some (1 ∷ [])))
EndsWithFault-holds =
    record { seen = 97 ∷ 10 ∷ 98 ∷ []; refused = none_refused; text = 1 ∷ []; read = refl; few = omega arith; wrote = refl; went = refl }

-- the line that has no end was answered as well
EndsWithFault-fails : EndsWithFault counting Read (streams (Some (97 ∷ 10 ∷ 98 ∷ [])) (Some [])) (streams (Some []) (Some (2 ∷ []))) → ⊥
EndsWithFault-fails h =
    let seen : 97 ∷ 10 ∷ 98 ∷ [] ≡ h.seen = h.read ∙ append-nil h.seen in
    let lines : 1 ≡ length (whole_lines h.seen) = ap (λ s. length (whole_lines s)) seen in
    let wrote : 2 ≡ length (whole_lines h.seen) = ap first (h.wrote ∙ h.went) in omega (arith, lines, wrote)

-- line 4 is answered by its number, after what was there, and leaves the next world
IsLineAnswer-holds : IsLineAnswer numbering 4 one_line 0 1 (9 ∷ []) (9 ∷ 4 ∷ [])
IsLineAnswer-holds = record { memory = false; text = 4 ∷ []; answered = refl; added = refl }

-- the world stayed as it was
IsLineAnswer-fails : IsLineAnswer numbering 4 one_line 0 0 (9 ∷ []) (9 ∷ 4 ∷ []) → ⊥
IsLineAnswer-fails h = let e : 1 ≡ 0 = ap (λ answered. answered.world) h.answered in omega (arith, e)
