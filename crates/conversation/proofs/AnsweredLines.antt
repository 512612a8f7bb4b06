-- Which lines of a script were answered, as its bytes are read.
use Rattle.std.proofs.Common.{◌≡◌, ℕ, ◌+◌, ◌<◌, ◌≤◌, Bool, true, false, cond, nat_eq, List, [], ◌∷◌, ◌++◌, length, take, refl, sym, ap, ◌∙◌, arith, append_assoc, append-nil, eq-eqb}
use Rattle.std.proofs.lemmas.Bool.Decides.{nat_tests}
use Rattle.std.specs.List.{fold}
use Rattle.std.proofs.lemmas.List.Sums.{fold_push}
use Rattle.conversation.specs.Scripts.{LineAnswering, RefusedMemory, ScriptProgress, beginning, further, next_line, after_lines, answers_to, lines_of, all_but_last, whole_lines, is_line_end, IsLineAnswer}
use Rattle.conversation.specs.Pieces.{HasAnswered, HasNoEnd, kept_with}
use Rattle.conversation.proofs.Splits.{split-push, split-push_cut, split-append}
use Rattle.conversation.proofs.Fronts.{front_more}
use Rattle.conversation.specs.declared.limits.TheConstants.{KEPT_BYTES}

-- which lines were refused memory: line n exactly if `memory`, and the others as `refused` says
abbrev with_refusal : RefusedMemory → ℕ → Bool → RefusedMemory
with_refusal refused n memory k = cond (nat_eq k n) memory (refused k)

-- line n was refused memory exactly if `memory`, and the lines before it as `refused` says
with_refusal_here : (refused : RefusedMemory) (n : ℕ) (memory : Bool) → with_refusal refused n memory n ≡ memory
with_refusal_here refused n memory = ap (λ b. cond b memory (refused n)) (eq-eqb n n refl)

with_refusal_before : (refused : RefusedMemory) (n : ℕ) (memory : Bool) (k : ℕ) → k < n → refused k ≡ with_refusal refused n memory k
with_refusal_before refused n memory k h = ap (λ b. cond b memory (refused k)) (sym (other k n h))
  where
    other : (i j : ℕ) → i < j → nat_eq i j ≡ false
    other i j l = grind (arith, nat_tests)

-- ---- the whole lines of a text

-- all lines but the last of `whole ++ rest ∷ []` are `whole`
all_but_last-append : (whole : List (List ℕ)) (rest : List ℕ) → all_but_last (whole ++ rest ∷ []) ≡ whole
all_but_last-append [] rest = refl
all_but_last-append (line ∷ []) rest = refl
all_but_last-append (line ∷ next ∷ lines) rest = ap (λ (ls : List (List ℕ)). line ∷ ls) (all_but_last-append (next ∷ lines) rest)

-- the lines `ls` begin with the lines `whole`, and there is at least one more
record BeginsWithLines (whole ls : List (List ℕ)) : Type 0 where
  pub next : List ℕ
  pub others : List (List ℕ)
  pub same : ls ≡ whole ++ next ∷ others

-- if a text has these whole lines and a last one, a longer text begins with the same whole lines
begins_with_whole : (seen more : List ℕ) (whole : List (List ℕ)) (rest : List ℕ) → lines_of seen ≡ whole ++ rest ∷ [] → BeginsWithLines whole (lines_of (seen ++ more))
begins_with_whole seen [] whole rest e = record { next = rest; others = []; same = ap lines_of (append-nil seen) ∙ e }
begins_with_whole seen (b ∷ more) whole rest e = step (is_line_end b) refl (λ w r cut. begins_with_whole (seen ++ b ∷ []) more w r cut)
  where
    joined : lines_of (seen ++ b ∷ more) ≡ lines_of ((seen ++ b ∷ []) ++ more)
    joined = ap lines_of (sym (append_assoc seen (b ∷ []) more))

    step : (t : Bool) → is_line_end b ≡ t
        → ((w : List (List ℕ)) (r : List ℕ) → lines_of (seen ++ b ∷ []) ≡ w ++ r ∷ [] → BeginsWithLines w (lines_of ((seen ++ b ∷ []) ++ more)))
        → BeginsWithLines whole (lines_of (seen ++ b ∷ more))
    step true h later =
        let cut : lines_of (seen ++ b ∷ []) ≡ (whole ++ rest ∷ []) ++ [] ∷ [] = split-push_cut is_line_end seen b h ∙ ap (λ ls. ls ++ [] ∷ []) e in
        let on = later (whole ++ rest ∷ []) [] cut in
        record { next = rest; others = on.next ∷ on.others; same = joined ∙ on.same ∙ append_assoc whole (rest ∷ []) (on.next ∷ on.others) }
    step false h later =
        let on = later whole (rest ++ b ∷ []) (split-push is_line_end seen b whole rest h e) in
        record { next = on.next; others = on.others; same = joined ∙ on.same }

-- if the lines of a text are `whole` and at least one more, its first whole lines are `whole`
first_lines : (whole : List (List ℕ)) (next : List ℕ) (others : List (List ℕ)) → take (length whole) (all_but_last (whole ++ next ∷ others)) ≡ whole
first_lines [] next others = refl
first_lines (line ∷ []) next others = refl
first_lines (line ∷ more ∷ whole) next others = ap (λ (ls : List (List ℕ)). line ∷ ls) (first_lines (more ∷ whole) next others)

module _ {W : Type 0} (define : LineAnswering W) where
  -- what answering these lines gives doesn't depend on whether other lines were refused memory
  same_refusals : (old new : RefusedMemory) (lines : List (List ℕ)) (p : ScriptProgress W) → ((k : ℕ) → k ≤ p.lines + length lines → old k ≡ new k)
      → fold (next_line define old) p lines ≡ fold (next_line define new) p lines
  same_refusals old new [] p h = refl
  same_refusals old new (line ∷ lines) p h =
      same_refusals old new lines (next_line define old p line) (λ k le. h k (omega arith))
      ∙ ap (λ memory. fold (next_line define new) (further p (define memory (p.lines + 1) line p.world)) lines) (h (p.lines + 1) (omega arith))

  -- each line that is answered counts as one
  count_lines : (refused : RefusedMemory) (lines : List (List ℕ)) (p : ScriptProgress W) → (fold (next_line define refused) p lines).lines ≡ p.lines + length lines
  count_lines refused [] p = omega arith
  count_lines refused (line ∷ lines) p = omega (arith, count_lines refused lines (next_line define refused p line))

  module _ (start : W) where
    module _ (seen : List ℕ) (world : W) (lines : ℕ) (line text : List ℕ) where
      pub answered_start : seen ≡ [] → world ≡ start → lines ≡ 0 → line ≡ [] → text ≡ [] → HasAnswered define start seen world lines line text
      answered_start s w n l t = record {
        refused = λ _. false;
        whole = [];
        rest = [];
        cut = ap lines_of s;
        kept = l;
        same_world = w;
        same_lines = n;
        same_text = t;
      }

      module _ (t : HasAnswered define start seen world lines line text) where
        -- the answers so far are those to the whole lines seen
        pub answered_whole : text ≡ answers_to define start (whole_lines seen) t.refused
        answered_whole = t.same_text ∙ ap (λ ls. answers_to define start ls t.refused) (sym (ap all_but_last t.cut ∙ all_but_last-append t.whole t.rest))

        -- the answers so far are also those to the first whole lines of any longer text that is
        -- seen later
        pub answered_first : (more : List ℕ) → text ≡ answers_to define start (take (length t.whole) (whole_lines (seen ++ more))) t.refused
        answered_first more =
            let on = begins_with_whole seen more t.whole t.rest t.cut in
            t.same_text ∙ ap (λ ls. answers_to define start ls t.refused) (sym (ap (λ ls. take (length t.whole) (all_but_last ls)) on.same ∙ first_lines t.whole on.next on.others))

        -- after more bytes in which no line ends, nothing more is answered
        pub no_line_answered : (bytes : List ℕ) (new_lines : ℕ) (new_line new_text : List ℕ) → HasNoEnd bytes
            → new_lines ≡ lines → new_line ≡ kept_with line bytes → new_text ≡ text → HasAnswered define start (seen ++ bytes) world new_lines new_line new_text
        no_line_answered bytes new_lines new_line new_text h n l same = record {
          refused = t.refused;
          whole = t.whole;
          rest = t.rest ++ bytes;
          cut = split-append is_line_end seen bytes t.whole t.rest h t.cut;
          kept = l ∙ front_more line t.rest bytes t.kept;
          same_world = t.same_world;
          same_lines = n ∙ t.same_lines;
          same_text = same ∙ t.same_text;
        }

-- all lines are answered, the last one too
pub record HasAnsweredAll {W : Type 0} (define : LineAnswering W) (start : W) (script : List ℕ) (world : W) (lines : ℕ) (text : List ℕ) : Type 0 where
  pub refused : RefusedMemory
  pub same_world : world ≡ (after_lines define start (lines_of script) refused).world
  pub same_lines : lines ≡ (after_lines define start (lines_of script) refused).lines
  pub same_text : text ≡ answers_to define start (lines_of script) refused

module _ {W : Type 0} (define : LineAnswering W) (front : (memory : Bool) (number : ℕ) (line : List ℕ) (w : W) → define memory number (take KEPT_BYTES line) w ≡ define memory number line w)
    (start : W) (seen : List ℕ) (world : W) (lines : ℕ) (line text : List ℕ) (t : HasAnswered define start seen world lines line text) where
  -- once the last line is answered too, all lines are
  pub answered_all : (new_world : W) (new_text : List ℕ) → IsLineAnswer define (lines + 1) line world new_world text new_text → HasAnsweredAll define start seen new_world (lines + 1) new_text
  answered_all new_world new_text a = record {
    refused = new_refusals;
    same_world = ap (λ q. q.world) (sym all_lines);
    same_lines = ap (λ q. q.lines) (sym all_lines);
    same_text = a.added ∙ ap (λ xs. xs ++ a.text) t.same_text ∙ ap (λ q. q.text) (sym all_lines);
  }
    where
      p : ScriptProgress W
      p = after_lines define start t.whole t.refused

      new_refusals : RefusedMemory
      new_refusals = with_refusal t.refused (lines + 1) a.memory

      counted : p.lines ≡ length t.whole
      counted = omega (arith, count_lines define t.refused t.whole (beginning start))

      same_before : after_lines define start t.whole new_refusals ≡ p
      same_before = sym (same_refusals define t.refused new_refusals t.whole (beginning start)
          (λ k le. with_refusal_before t.refused (lines + 1) a.memory k (omega (arith, counted, t.same_lines))))

      answered : define (new_refusals (p.lines + 1)) (p.lines + 1) t.rest p.world ≡ record { world = new_world; text = a.text }
      answered =
          ap (λ n. define (new_refusals (n + 1)) (n + 1) t.rest p.world) (sym t.same_lines)
          ∙ ap (λ m. define m (lines + 1) t.rest p.world) (with_refusal_here t.refused (lines + 1) a.memory)
          ∙ ap (λ w. define a.memory (lines + 1) t.rest w) (sym t.same_world)
          ∙ sym (front a.memory (lines + 1) t.rest world)
          ∙ ap (λ l. define a.memory (lines + 1) l world) (sym t.kept)
          ∙ a.answered

      all_lines : after_lines define start (lines_of seen) new_refusals ≡ record { world = new_world; lines = lines + 1; text = p.text ++ a.text }
      all_lines =
          ap (λ ls. after_lines define start ls new_refusals) t.cut
          ∙ fold_push (next_line define new_refusals) (beginning start) t.whole t.rest
          ∙ ap (λ q. next_line define new_refusals q t.rest) same_before
          ∙ ap (further p) answered
          ∙ ap (λ n. record { world = new_world; lines = n + 1; text = p.text ++ a.text }) (sym t.same_lines)

  -- once the line that was kept ends, and is answered, the bytes up to its end are answered
  pub answered_line : (new_world : W) (new_lines : ℕ) (new_line new_text : List ℕ) → IsLineAnswer define (lines + 1) line world new_world text new_text
      → new_lines ≡ lines + 1 → new_line ≡ [] → HasAnswered define start (seen ++ 10 ∷ []) new_world new_lines new_line new_text
  answered_line new_world new_lines new_line new_text a n l =
      let all = answered_all new_world new_text a in
      record {
        refused = all.refused;
        whole = lines_of seen;
        rest = [];
        cut = split-push_cut is_line_end seen 10 refl;
        kept = l;
        same_world = all.same_world;
        same_lines = n ∙ all.same_lines;
        same_text = all.same_text;
      }

-- an answer that was added to one text was also added to a longer text which ends with it
pub line_answer_append : {W : Type 0} (define : LineAnswering W) (number : ℕ) (line : List ℕ) (old new : W) (before after front : List ℕ)
    → IsLineAnswer define number line old new before after → IsLineAnswer define number line old new (front ++ before) (front ++ after)
line_answer_append define number line old new before after front a =
    record { memory = a.memory; text = a.text; answered = a.answered; added = ap (λ xs. front ++ xs) a.added ∙ sym (append_assoc front before a.text) }
