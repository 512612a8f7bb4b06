-- Reading is sound: words that are read as a call are that call's words. X_shows says so of the
-- words that X reads.
use Rattle.std.proofs.Common.{◌≡◌, ◌==◌, ℕ, true, cond, List, [], ◌∷◌, Option, Some, None, refl, sym, ap, ◌∙◌, subst}
use Rattle.std.specs.Prelude.{codes}
use Rattle.std.specs.Fmt.{decimal}
use Rattle.std.specs.Option.{option_map, option_and_then}
use Rattle.std.specs.Str.{bytes_eq}
use Rattle.std.proofs.lemmas.Bool.{eqb-true}
use Rattle.std.proofs.lemmas.Option.{cond_some, same_Some}
use Rattle.frames.specs.declared.types.Step.{Step}
use Rattle.frames.specs.declared.types.Step.TheVariants as step
use Rattle.pages.specs.declared.breakpoint.Break.{Break}
use Rattle.pages.specs.declared.breakpoint.Break.TheVariants as break
use Rattle.pages.specs.declared.query.Query.{Query}
use Rattle.pages.specs.declared.query.Query.TheVariants.{State, Process, Bits, Pending, History, Verdict, Branches, Cursor, Steps}
use Rattle.sessions.specs.declared.command.Command.{Command}
use Rattle.sessions.specs.declared.command.Command.TheVariants as command
use Rattle.words.specs.Words.{next, after_next, is_end}
use Rattle.words.specs.Numbers.{number, one_number, two_numbers}
use Rattle.words.specs.Steps.{step_of_words}
use Rattle.words.proofs.Options.{some_then}
use Rattle.script.specs.declared.verb.Verb.{Verb}
use Rattle.script.specs.declared.verb.Verb.TheVariants as verb
use Rattle.script.specs.declared.verb.LookVerb.{LookVerb}
use Rattle.script.specs.declared.verb.LookVerb.TheVariants as look
use Rattle.script.specs.declared.verb.CommandVerb.{CommandVerb}
use Rattle.script.specs.declared.verb.CommandVerb.TheVariants as command_verb
use Rattle.script.specs.declared.call.Request.{Request}
use Rattle.script.specs.declared.call.Request.TheVariants.{Act, Look, Fill}
use Rattle.script.specs.declared.call.Call.{Call}
use Rattle.script.specs.Lines.{branch_word, only_branch, branch_and_place, place_in, place_and_rest, one_word_break, break_of, verb_of, look_of, command_of, guarded_by, guarded, request_by, request_of, call_of}
use Rattle.script.specs.Spelling.{Word, step_words, break_words, place_words, command_words, query_words, request_words, call_words, IsOwn}
use Rattle.script.specs.Spelling.{Text, Number, Guard}
use Rattle.script.proofs.Verbs.{verb_text, word_is_verb_text}
use Rattle.script.proofs.Shapes.{call_with, is_small, Shows, one_more_shown, first_shown, none_shown, keyword_shown, first_word, either, when_some, mapped_to, if_no_more_to, some_to, number_shows, branch_word_shows, one_number_shows, two_numbers_shows}

only_branch_shows : (ws : List (List ℕ)) (b : List ℕ) → only_branch ws ≡ Some b → Shows ws (Text b ∷ [])
only_branch_shows ws b h =
    let a = first_word branch_word (λ x. cond (is_end (after_next ws)) (Some x) None) ws b refl h in
    let e = cond_some (is_end (after_next ws)) a.1 b a.4 in
    let s = branch_word_shows a.0 a.1 a.3 in
    subst (λ (x : List ℕ). Shows ws (Text x ∷ [])) e.1 (first_shown ws a.0 (Text a.1) [] a.2 s.0 s.1 (none_shown (after_next ws) e.0))

branch_and_place_shows : (ws : List (List ℕ)) (p : List ℕ × ℕ) → branch_and_place ws ≡ Some p → Shows ws (place_words p.0 p.1)
branch_and_place_shows ws p h =
    let a = first_word branch_word (λ b. option_and_then (λ k. Some (b, k)) (one_number (after_next ws))) ws p refl h in
    let k = some_then (one_number (after_next ws)) (λ k. Some (a.1, k)) p a.4 in
    let s = branch_word_shows a.0 a.1 a.3 in
    subst (λ (q : List ℕ × ℕ). Shows ws (place_words q.0 q.1)) (same_Some (a.1, k.0) p k.2)
    (first_shown ws a.0 (Text a.1) (Number k.0 ∷ []) a.2 s.0 s.1 (one_number_shows (after_next ws) k.0 k.1))

-- if `read` reads words of this shape, `place_and_rest read` reads a branch's name, a place, and
-- then words of this shape
module _ {A : Type 0} (read : List (List ℕ) → Option A) (shape : A → List Word) (reads : (ws : List (List ℕ)) (x : A) → read ws ≡ Some x → Shows ws (shape x)) where
  place_and_rest_shows : (ws : List (List ℕ)) (p : List ℕ × ℕ × A) → place_and_rest read ws ≡ Some p → Shows ws (Text p.0 ∷ Number p.1 ∷ shape p.2)
  place_and_rest_shows ws p h =
      let left = after_next (after_next ws) in
      let q = some_then (place_in ws) (λ q. option_and_then (λ x. Some (q.0, q.1, x)) (read left)) p h in
      let a = first_word branch_word (λ b. option_and_then (λ k. Some (b, k)) (number (next (after_next ws)))) ws q.0 refl q.1 in
      let k = first_word number (λ k. Some (a.1, k)) (after_next ws) q.0 refl a.4 in
      let x = some_then (read left) (λ x. Some (q.0.0, q.0.1, x)) p q.2 in
      let s = branch_word_shows a.0 a.1 a.3 in
      let t = number_shows k.0 k.1 k.3 in
      let words_of : List ℕ × ℕ × A → List Word = λ r. Text r.0 ∷ Number r.1 ∷ shape r.2 in
      let shown : Shows ws (words_of (a.1, k.1, x.0)) =
      first_shown ws a.0 (Text a.1) (Number k.1 ∷ shape x.0) a.2 s.0 s.1 (first_shown (after_next ws) k.0 (Number k.1) (shape x.0) k.2 t.0 t.1 (reads left x.0 x.1)) in
      subst (λ r. Shows ws (words_of r)) (ap (λ (place : List ℕ × ℕ). (place.0, place.1, x.0)) (same_Some (a.1, k.1) q.0 k.4) ∙ same_Some (q.0.0, q.0.1, x.0) p x.2) shown

step_of_words_shows : (ws : List (List ℕ)) (s : Step) → step_of_words ws ≡ Some s → Shows ws (step_words s)
step_of_words_shows ws s h =
    let P : Step → Type 0 = λ x. Shows ws (step_words x) in
    either {P = P s} (bytes_eq (next ws) (codes "w")) (option_map (λ (n : ℕ × ℕ). step.Write n.0 n.1) (two_numbers (after_next ws))) _ s
    (λ b. mapped_to P (λ (n : ℕ × ℕ). step.Write n.0 n.1) (two_numbers (after_next ws)) s (λ n e. keyword_shown ws (codes "w") (Number n.0 ∷ Number n.1 ∷ []) refl b (two_numbers_shows (after_next ws) n e)))
    (either {P = P s} (bytes_eq (next ws) (codes "r")) (option_map (λ (p : ℕ). step.Read p) (one_number (after_next ws))) _ s
    (λ b. mapped_to P (λ (p : ℕ). step.Read p) (one_number (after_next ws)) s (λ p e. keyword_shown ws (codes "r") (Number p ∷ []) refl b (one_number_shows (after_next ws) p e)))
    (either {P = P s} (bytes_eq (next ws) (codes "g")) (option_map (λ (n : ℕ × ℕ). step.Go n.0 n.1) (two_numbers (after_next ws))) _ s
    (λ b. mapped_to P (λ (n : ℕ × ℕ). step.Go n.0 n.1) (two_numbers (after_next ws)) s (λ n e. keyword_shown ws (codes "g") (Number n.0 ∷ Number n.1 ∷ []) refl b (two_numbers_shows (after_next ws) n e)))
    (either {P = P s} (bytes_eq (next ws) (codes "x")) (option_map (λ (p : ℕ). step.Stop p) (one_number (after_next ws))) None s
    (λ b. mapped_to P (λ (p : ℕ). step.Stop p) (one_number (after_next ws)) s (λ p e. keyword_shown ws (codes "x") (Number p ∷ []) refl b (one_number_shows (after_next ws) p e)))
    (λ e. absurd cc)))) h

one_word_break_shows : (ws : List (List ℕ)) (br : Break) → is_end (after_next ws) ≡ true → one_word_break (next ws) ≡ Some br → Shows ws (break_words br)
one_word_break_shows ws br ended h =
    let P : Break → Type 0 = λ x. Shows ws (break_words x) in
    let none = none_shown (after_next ws) ended in
    either {P = P br} (bytes_eq (next ws) (codes "chosen")) (Some break.Chosen) _ br (λ b. some_to P break.Chosen br (keyword_shown ws (codes "chosen") [] refl b none))
    (either {P = P br} (bytes_eq (next ws) (codes "void")) (Some break.Void) _ br (λ b. some_to P break.Void br (keyword_shown ws (codes "void") [] refl b none))
    (either {P = P br} (bytes_eq (next ws) (codes "refused")) (Some break.Refused) None br (λ b. some_to P break.Refused br (keyword_shown ws (codes "refused") [] refl b none))
    (λ e. absurd cc))) h

break_of_shows : (ws : List (List ℕ)) (br : Break) → break_of ws ≡ Some br → Shows ws (break_words br)
break_of_shows ws br h =
    let P : Break → Type 0 = λ x. Shows ws (break_words x) in
    either {P = P br} (bytes_eq (next ws) (codes "returns")) (option_map break.Returns (one_number (after_next ws))) _ br
    (λ b. mapped_to P break.Returns (one_number (after_next ws)) br (λ p e. keyword_shown ws (codes "returns") (Number p ∷ []) refl b (one_number_shows (after_next ws) p e)))
    (either {P = P br} (bytes_eq (next ws) (codes "bit")) (option_map (λ (n : ℕ × ℕ). break.Bit n.0 n.1) (two_numbers (after_next ws))) (cond (is_end (after_next ws)) (one_word_break (next ws)) None) br
    (λ b. mapped_to P (λ (n : ℕ × ℕ). break.Bit n.0 n.1) (two_numbers (after_next ws)) br (λ n e. keyword_shown ws (codes "bit") (Number n.0 ∷ Number n.1 ∷ []) refl b (two_numbers_shows (after_next ws) n e)))
    (λ e. let a = when_some (is_end (after_next ws)) (one_word_break (next ws)) br e in one_word_break_shows ws br a.0 a.1)) h

-- ---- the words after a first word

module _ (ws : List (List ℕ)) where
  abbrev left : List (List ℕ)
  left = after_next ws

  -- the words ws are those of this command
  abbrev IsCommandShown : Command → Type 0
  IsCommandShown c = Shows ws (command_words c)

  command_shows : (v : CommandVerb) (c : Command) → bytes_eq (next ws) (verb_text (verb.Command v)) ≡ true → command_of v left ≡ Some c → IsCommandShown c
  command_shows command_verb.Join c b h = if_no_more_to IsCommandShown command.Join c left (λ e. keyword_shown ws (codes "join") [] refl b (none_shown left e)) h
  command_shows command_verb.Leave c b h = if_no_more_to IsCommandShown command.Leave c left (λ e. keyword_shown ws (codes "leave") [] refl b (none_shown left e)) h
  command_shows command_verb.Seek c b h = if_no_more_to IsCommandShown command.Seek c left (λ e. keyword_shown ws (codes "seek") [] refl b (none_shown left e)) h
  command_shows command_verb.Back c b h = if_no_more_to IsCommandShown command.Back c left (λ e. keyword_shown ws (codes "back") [] refl b (none_shown left e)) h
  command_shows command_verb.Go c b h = mapped_to IsCommandShown (λ (p : List ℕ × ℕ). command.Go p.0 p.1) (branch_and_place left) c (λ a e. keyword_shown ws (codes "go") (place_words a.0 a.1) refl b (branch_and_place_shows left a e)) h
  command_shows command_verb.Break c b h = mapped_to IsCommandShown command.Break (break_of left) c (λ a e. keyword_shown ws (codes "break") (break_words a) refl b (break_of_shows left a e)) h
  command_shows command_verb.Clear c b h = mapped_to IsCommandShown command.Clear (break_of left) c (λ a e. keyword_shown ws (codes "clear") (break_words a) refl b (break_of_shows left a e)) h
  command_shows command_verb.Insert c b h = mapped_to IsCommandShown (λ (p : List ℕ × ℕ × Step). command.Insert p.0 p.1 p.2) (place_and_rest step_of_words left) c (λ a e. keyword_shown ws (codes "insert") (Text a.0 ∷ Number a.1 ∷ step_words a.2) refl b (place_and_rest_shows step_of_words step_words step_of_words_shows left a e)) h
  command_shows command_verb.Remove c b h = mapped_to IsCommandShown (λ (p : List ℕ × ℕ). command.Remove p.0 p.1) (branch_and_place left) c (λ a e. keyword_shown ws (codes "remove") (place_words a.0 a.1) refl b (branch_and_place_shows left a e)) h
  command_shows command_verb.Replace c b h = mapped_to IsCommandShown (λ (p : List ℕ × ℕ × Step). command.Replace p.0 p.1 p.2) (place_and_rest step_of_words left) c (λ a e. keyword_shown ws (codes "replace") (Text a.0 ∷ Number a.1 ∷ step_words a.2) refl b (place_and_rest_shows step_of_words step_words step_of_words_shows left a e)) h
  command_shows command_verb.Fork c b h = mapped_to IsCommandShown (λ (p : List ℕ × ℕ × List ℕ). command.Fork p.0 p.1 p.2) (place_and_rest only_branch left) c (λ a e. keyword_shown ws (codes "fork") (Text a.0 ∷ Number a.1 ∷ Text a.2 ∷ []) refl b (place_and_rest_shows only_branch (λ name. Text name ∷ []) only_branch_shows left a e)) h
  command_shows command_verb.Detach c b h = mapped_to IsCommandShown command.Detach (only_branch left) c (λ a e. keyword_shown ws (codes "detach") (Text a ∷ []) refl b (only_branch_shows left a e)) h
  command_shows command_verb.Drop c b h = mapped_to IsCommandShown command.Drop (only_branch left) c (λ a e. keyword_shown ws (codes "drop") (Text a ∷ []) refl b (only_branch_shows left a e)) h

  -- the words ws are those of this look, and a cursor that it shows is the session's own
  abbrev IsLookShown : ℕ → Query → Type 0
  IsLookShown session q = Shows ws (query_words q) × IsOwn session (Look q)

  look_shows : (session : ℕ) (v : LookVerb) (q : Query) → bytes_eq (next ws) (verb_text (verb.Look v)) ≡ true → look_of session v left ≡ Some q → IsLookShown session q
  look_shows session look.Branches q b h = if_no_more_to (IsLookShown session) Branches q left (λ e. (keyword_shown ws (codes "branches") [] refl b (none_shown left e), tt)) h
  look_shows session look.Cursor q b h = if_no_more_to (IsLookShown session) (Cursor session) q left (λ e. (keyword_shown ws (codes "cursor") [] refl b (none_shown left e), refl)) h
  look_shows session look.Steps q b h = mapped_to (IsLookShown session) Steps (only_branch left) q (λ a e. (keyword_shown ws (codes "steps") (Text a ∷ []) refl b (only_branch_shows left a e), tt)) h
  look_shows session look.Process q b h = mapped_to (IsLookShown session) (λ (p : List ℕ × ℕ × ℕ). Process p.0 p.1 p.2) (place_and_rest one_number left) q (λ a e. (keyword_shown ws (codes "process") (Text a.0 ∷ Number a.1 ∷ Number a.2 ∷ []) refl b (place_and_rest_shows one_number (λ p. Number p ∷ []) one_number_shows left a e), tt)) h
  look_shows session look.State q b h = mapped_to (IsLookShown session) (λ (p : List ℕ × ℕ). State p.0 p.1) (branch_and_place left) q (λ a e. (keyword_shown ws (codes "state") (place_words a.0 a.1) refl b (branch_and_place_shows left a e), tt)) h
  look_shows session look.Pending q b h = mapped_to (IsLookShown session) (λ (p : List ℕ × ℕ). Pending p.0 p.1) (branch_and_place left) q (λ a e. (keyword_shown ws (codes "pending") (place_words a.0 a.1) refl b (branch_and_place_shows left a e), tt)) h
  look_shows session look.Bits q b h = mapped_to (IsLookShown session) (λ (p : List ℕ × ℕ). Bits p.0 p.1) (branch_and_place left) q (λ a e. (keyword_shown ws (codes "bits") (place_words a.0 a.1) refl b (branch_and_place_shows left a e), tt)) h
  look_shows session look.History q b h = mapped_to (IsLookShown session) (λ (p : List ℕ × ℕ). History p.0 p.1) (branch_and_place left) q (λ a e. (keyword_shown ws (codes "history") (place_words a.0 a.1) refl b (branch_and_place_shows left a e), tt)) h
  look_shows session look.Verdict q b h = mapped_to (IsLookShown session) (λ (p : List ℕ × ℕ). Verdict p.0 p.1) (branch_and_place left) q (λ a e. (keyword_shown ws (codes "verdict") (place_words a.0 a.1) refl b (branch_and_place_shows left a e), tt)) h

-- ---- calls

-- the words ws are those of this request, and a cursor that it shows is the session's own
abbrev IsShown : ℕ → List (List ℕ) → Request → Type 0
IsShown session ws r = Shows ws (request_words r) × IsOwn session r

guarded_by_shows : (session edits : ℕ) (guard : List ℕ) (ws : List (List ℕ)) (r : Request) (o : Option Verb) → guard ≡ decimal edits → is_small (Guard edits) ≡ true
    → verb_of (next ws) ≡ o → guarded_by edits o (after_next ws) ≡ Some r → IsShown session ((64 ∷ guard) ∷ ws) r
guarded_by_shows session edits guard ws r (Some (verb.Command v)) same small e h =
    mapped_to (IsShown session ((64 ∷ guard) ∷ ws)) (Act (Some edits)) (command_of v (after_next ws)) r
    (λ c f. (one_more_shown (64 ∷ guard) ws (Guard edits) (command_words c) (ap (λ (d : List ℕ). 64 ∷ d) same) small (command_shows ws v c (word_is_verb_text (next ws) (verb.Command v) e) f), tt)) h
guarded_by_shows session edits guard ws r (Some (verb.Look v)) same small e h = absurd cc
guarded_by_shows session edits guard ws r (Some verb.Fill) same small e h = absurd cc
guarded_by_shows session edits guard ws r None same small e h = absurd cc

guarded_shows : (session : ℕ) (ws : List (List ℕ)) (r : Request) → guarded (next ws) (after_next ws) ≡ Some r → IsShown session ws r
guarded_shows session [] r h = absurd cc
guarded_shows session ([] ∷ ws) r h = absurd cc
guarded_shows session ((b ∷ bs) ∷ ws) r h =
    let by : ℕ → Option Request = λ edits. guarded_by edits (verb_of (next ws)) (after_next ws) in
    let t = when_some (b == 64) (option_and_then by (number bs)) r h in
    let a = some_then (number bs) by r t.1 in
    let s = number_shows bs a.0 a.1 in
    subst (λ (x : ℕ). IsShown session ((x ∷ bs) ∷ ws) r) (sym (eqb-true b 64 t.0)) (guarded_by_shows session a.0 bs ws r (verb_of (next ws)) s.0 s.1 refl a.2)

request_shows : (session : ℕ) (ws : List (List ℕ)) (r : Request) → request_of session (next ws) (after_next ws) ≡ Some r → IsShown session ws r
request_shows session ws r h = by (verb_of (next ws)) refl h
  where
    by : (o : Option Verb) → verb_of (next ws) ≡ o → request_by session (next ws) o (after_next ws) ≡ Some r → IsShown session ws r
    by None e k = guarded_shows session ws r k
    by (Some (verb.Look v)) e k = mapped_to (IsShown session ws) Look (look_of session v (after_next ws)) r (λ q f. look_shows ws session v q (word_is_verb_text (next ws) (verb.Look v) e) f) k
    by (Some verb.Fill) e k =
        mapped_to (IsShown session ws) Fill (only_branch (after_next ws)) r (λ a f. (keyword_shown ws (codes "fill") (Text a ∷ []) refl (word_is_verb_text (next ws) verb.Fill e) (only_branch_shows (after_next ws) a f), tt)) k
    by (Some (verb.Command v)) e k = mapped_to (IsShown session ws) (Act None) (command_of v (after_next ws)) r (λ c f. (command_shows ws v c (word_is_verb_text (next ws) (verb.Command v) e) f, tt)) k

pub call_shows : (ws : List (List ℕ)) (c : Call) → call_of ws ≡ Some c → Shows ws (call_words c) × IsOwn c.session c.request
call_shows ws c h =
    let left = after_next ws in
    let a = first_word number (λ s. option_and_then (λ r. Some (call_with s r)) (request_of s (next left) (after_next left))) ws c refl h in
    let r = some_then (request_of a.1 (next left) (after_next left)) (λ r. Some (call_with a.1 r)) c a.4 in
    let s = number_shows a.0 a.1 a.3 in
    let shows = request_shows a.1 left r.0 r.1 in
    subst (λ (x : Call). Shows ws (call_words x) × IsOwn x.session x.request) (same_Some (call_with a.1 r.0) c r.2)
    (first_shown ws a.0 (Number a.1) (request_words r.0) a.2 s.0 s.1 shows.0, shows.1)
