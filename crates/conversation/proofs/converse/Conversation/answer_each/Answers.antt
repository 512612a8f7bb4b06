use Rattle.std.proofs.Common.{◌≡◌, ◌++◌, ◌∷◌, ◌+◌, ◌≤◌, [], ℕ, List, length, refl, sym, ap, subst, ◌∙◌, arith, append_assoc, append-nil}
use Rattle.std.specs.Prelude.{⊤, OnOk, Result, Ok, Err}
use Rattle.std.specs.declared.alloc.AllocError.{AllocError}
use Rattle.std.proofs.lemmas.List.{length-append}
use Rattle.std.proofs.lemmas.Result.{on_ok_weaker}
use Rattle.conversation.specs.Pieces.{HasAnswered, kept_with}
use Rattle.conversation.proofs.AnsweredLines.{no_line_answered, answered_line, line_answer_append}
use Rattle.conversation.proofs.converse.Conversation.answer_each.Goals as goal

-- the bytes `before` and `rest` are `before`, the first line of `rest`, its line end, and `later`
cut_first_line : (before rest line later : List ℕ) → rest ≡ line ++ 10 ∷ later → before ++ rest ≡ ((before ++ line) ++ 10 ∷ []) ++ later
cut_first_line before rest line later e =
    ap (λ xs. before ++ xs) e ∙ sym (append_assoc before line (10 ∷ later)) ∙ sym (append_assoc (before ++ line) (10 ∷ []) later)

-- what follows the first line's end is shorter than the whole text
shorter : (rest line later : List ℕ) → rest ≡ line ++ 10 ∷ later → length later + 1 ≤ length rest
shorter rest line later e = omega (arith, ap length e, length-append line (10 ∷ later))

pub lines-init : goal.lines-init
lines-init g c =
    let A = g.A.Answers in
    let old = c.args.self.now in
    record {
      few = omega arith;
      reported = λ alone. (
        alone,
        (
          [],
          refl,
          λ start seen front t.
              subst (λ xs. HasAnswered A.define start xs (A.world c.args.state.now) old.lines old.line.items (front ++ old.out.items))
              (sym (append-nil seen)) t,
        ),
      );
    }

pub answer_line-requires-clause-few : goal.answer_line-requires-clause-few
answer_line-requires-clause-few g c =
    let less = shorter c.lines.rest.now c.in-Some.end.now c.in-Some.following.now c.in-Some.ensures.1 in
    omega (arith, c.requires.few, c.lines.invariant.few, less)

pub returns-in_err-answer_line-clause-lines : goal.returns-in_err-answer_line-clause-lines
returns-in_err-answer_line-clause-lines g c =
    let less = shorter c.lines.rest.now c.in-Some.end.now c.in-Some.following.now c.in-Some.ensures.1 in
    omega (arith, c.lines.invariant.few, less, c.answer_line.ensures.lines)

pub lines-smaller : goal.lines-smaller
lines-smaller g c = omega (arith, shorter c.lines.rest.now c.in-Some.end.now c.in-Some.following.now c.in-Some.ensures.1)

pub lines-preserved : goal.lines-preserved
lines-preserved g c =
    let A = g.A.Answers in
    let line = c.in-Some.end.now in
    let cut = c.in-Some.ensures.1 in
    record {
      few = omega (arith, c.lines.invariant.few, shorter c.lines.rest.now line c.in-Some.following.now cut, c.answer_line.ensures.lines);
      reported = λ alone.
          let still = c.lines.invariant.reported alone in
          let so_far = still.1 in (
            c.in_ok-answer_line.ensures.alone still.0,
            (
              (so_far.0 ++ line) ++ 10 ∷ [],
              so_far.1 ∙ cut_first_line so_far.0 c.lines.rest.now line c.in-Some.following.now cut,
              λ start seen front t.
                  let before = so_far.2 start seen front t in
                  let whole = kept_with c.lines.self.line.items line in
                  let kept = no_line_answered A.define start (seen ++ so_far.0) (A.world c.lines.state) c.lines.self.lines c.lines.self.line.items (front ++ c.lines.self.out.items) before
                  line c.lines.self.lines whole (front ++ c.lines.self.out.items) c.in-Some.ensures.0 refl refl refl in
                  subst (λ xs. HasAnswered A.define start xs (A.world c.answer_line.new.state) c.answer_line.new.self.lines c.answer_line.new.self.line.items (front ++ c.answer_line.new.self.out.items))
                  (ap (λ xs. xs ++ 10 ∷ []) (append_assoc seen so_far.0 line) ∙ append_assoc seen (so_far.0 ++ line) (10 ∷ []))
                  (answered_line A.define g.A.Answers.reads_front start ((seen ++ so_far.0) ++ line) (A.world c.lines.state) c.lines.self.lines whole (front ++ c.lines.self.out.items) kept
                  (A.world c.answer_line.new.state) c.answer_line.new.self.lines c.answer_line.new.self.line.items (front ++ c.answer_line.new.self.out.items)
                  (line_answer_append A.define _ _ _ _ _ _ front (c.in_ok-answer_line.ensures.answer still.0)) c.in_ok-answer_line.ensures.counted c.in_ok-answer_line.ensures.line),
            ),
          );
    }

pub returns-clause-reported : goal.returns-clause-reported
returns-clause-reported g c = λ alone.
    let A = g.A.Answers in
    let so_far = (c.lines.invariant.reported alone).1 in
    on_ok_weaker c.keep.result
    (λ kept start seen front t.
    subst (λ xs. HasAnswered A.define start xs (A.world c.lines.state) c.keep.new.self.lines c.keep.new.self.line.items (front ++ c.keep.new.self.out.items))
    (append_assoc seen so_far.0 c.lines.rest.now ∙ ap (λ xs. seen ++ xs) (sym so_far.1))
    (no_line_answered A.define start (seen ++ so_far.0) (A.world c.lines.state) c.lines.self.lines c.lines.self.line.items (front ++ c.lines.self.out.items) (so_far.2 start seen front t)
    c.lines.rest.now c.keep.new.self.lines c.keep.new.self.line.items (front ++ c.keep.new.self.out.items) (rw c.in_default.is at c.first_line.ensures) c.keep.ensures.lines kept (ap (λ out. front ++ out.items) c.keep.ensures.out)))
    c.keep.ensures.line

-- what holds in any case holds if this result is `Ok`
always_on_ok : (r : Result ⊤ AllocError) (P : Type 0) → P → OnOk r P
always_on_ok (Ok done) P p = p
always_on_ok (Err e) P p = tt

pub returns-clause-alone : goal.returns-clause-alone
returns-clause-alone g c = λ alone. always_on_ok c.keep.result _ (c.lines.invariant.reported alone).0
