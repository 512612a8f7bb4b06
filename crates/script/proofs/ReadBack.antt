-- The words of a sound call are read as that call. X_again says that X is read back from its words.
use Rattle.std.proofs.Common.{◌≡◌, ◌==◌, ℕ, ◌≤◌, ◌^◌, true, false, cond, ◌&&◌, nat_le, List, [], ◌∷◌, length, map, Option, Some, None, refl, sym, ap, ◌∙◌, arith}
use Rattle.std.specs.Prelude.{codes}
use Rattle.std.specs.Fmt.{decimal}
use Rattle.std.specs.Option.{option_map, option_and_then}
use Rattle.std.specs.List.{list_all}
use Rattle.std.proofs.lemmas.Bool.{and_parts, ltb-true}
use Rattle.std.proofs.lemmas.Bool.Decides.{nat_tests}
use Rattle.frames.specs.declared.types.Step.{Step}
use Rattle.frames.specs.declared.types.Step.TheVariants as step
use Rattle.pages.specs.declared.breakpoint.Break.{Break}
use Rattle.pages.specs.declared.breakpoint.Break.TheVariants as break
use Rattle.pages.specs.declared.query.Query.{Query}
use Rattle.pages.specs.declared.query.Query.TheVariants.{State, Process, Bits, Pending, History, Verdict, Branches, Cursor, Steps}
use Rattle.sessions.specs.declared.command.Command.{Command}
use Rattle.sessions.specs.declared.command.Command.TheVariants as command
use Rattle.words.specs.Words.{next, after_next}
use Rattle.words.specs.Numbers.{number, one_number, two_numbers}
use Rattle.words.specs.Steps.{step_of_words}
use Rattle.words.proofs.Numbers.{number-decimal}
use Rattle.script.specs.declared.verb.Verb.{Verb}
use Rattle.script.specs.declared.verb.Verb.TheVariants as verb
use Rattle.script.specs.declared.verb.LookVerb.{LookVerb}
use Rattle.script.specs.declared.verb.LookVerb.TheVariants as look
use Rattle.script.specs.declared.verb.CommandVerb.{CommandVerb}
use Rattle.script.specs.declared.verb.CommandVerb.TheVariants as command_verb
use Rattle.script.specs.declared.call.Request.{Request}
use Rattle.script.specs.declared.call.Request.TheVariants.{Act, Look, Fill}
use Rattle.script.specs.declared.call.Call.{Call}
use Rattle.script.specs.Lines.{branch_word, only_branch, branch_and_place, place_and_rest, break_of, verb_of, look_of, command_of, guarded_by, guarded, request_by, request_of, call_of}
use Rattle.script.specs.Spelling.{Word, spelled, step_words, break_words, place_words, command_words, query_words, request_words, call_words, is_visible, is_sound, IsOwn}
use Rattle.script.proofs.Shapes.{call_with}
use Rattle.script.specs.Spelling.{Text, Number, Guard}

abbrev AreSound : List Word → Type 0
AreSound shape = list_all is_sound shape ≡ true

sound_parts : (x : Word) (xs : List Word) → AreSound (x ∷ xs) → (is_sound x ≡ true) × AreSound xs
sound_parts x xs h = and_parts (is_sound x) (list_all is_sound xs) h

pub number_again : (n : ℕ) → is_sound (Number n) ≡ true → number (decimal n) ≡ Some n
number_again n h = number-decimal n (ltb-true n (10 ^ 9) h)

not_zero : (n : ℕ) → nat_le 1 n ≡ true → (n == 0) ≡ false
not_zero n h = grind (arith, nat_tests)

branch_word_again : (b : List ℕ) → is_sound (Text b) ≡ true → branch_word b ≡ Some b
branch_word_again b h =
    let a = and_parts (nat_le 1 (length b) && nat_le (length b) 16) (list_all is_visible b) h in
    let c = and_parts (nat_le 1 (length b)) (nat_le (length b) 16) a.0 in
    ap (λ t. cond t None (cond (nat_le (length b) 16) (Some b) None)) (not_zero (length b) c.0) ∙ ap (λ t. cond t (Some b) None) c.1

-- ---- the words after a command's first word

one_number_again : (n : ℕ) → AreSound (Number n ∷ []) → one_number (decimal n ∷ []) ≡ Some n
one_number_again n h = rw (number_again n (sound_parts (Number n) [] h).0) refl

two_numbers_again : (m n : ℕ) → AreSound (Number m ∷ Number n ∷ []) → two_numbers (decimal m ∷ decimal n ∷ []) ≡ Some (m, n)
two_numbers_again m n h =
    let a = sound_parts (Number m) (Number n ∷ []) h in
    rw (number_again m a.0, number_again n (sound_parts (Number n) [] a.1).0) refl

only_branch_again : (b : List ℕ) → AreSound (Text b ∷ []) → only_branch (b ∷ []) ≡ Some b
only_branch_again b h = ap (λ (o : Option (List ℕ)). option_and_then (λ (x : List ℕ). Some x) o) (branch_word_again b (sound_parts (Text b) [] h).0)

module _ (b : List ℕ) (k : ℕ) where
  branch_and_place_again : AreSound (place_words b k) → branch_and_place (b ∷ decimal k ∷ []) ≡ Some (b, k)
  branch_and_place_again h =
      let a = sound_parts (Text b) (Number k ∷ []) h in
      ap (option_and_then (λ (x : List ℕ). option_and_then (λ (n : ℕ). Some (x, n)) (one_number (decimal k ∷ [])))) (branch_word_again b a.0)
      ∙ ap (option_and_then (λ (n : ℕ). Some (b, n))) (one_number_again k a.1)

  place_and_rest_again : {A : Type 0} (read : List (List ℕ) → Option A) (shape : List Word) (x : A) → (AreSound shape → read (map spelled shape) ≡ Some x)
      → AreSound (Text b ∷ Number k ∷ shape) → place_and_rest read (b ∷ decimal k ∷ map spelled shape) ≡ Some (b, k, x)
  place_and_rest_again {A} read shape x again h =
      let a = sound_parts (Text b) (Number k ∷ shape) h in
      let c = sound_parts (Number k) shape a.1 in
      let ws = map spelled shape in
      let with_item : List ℕ × ℕ → Option (List ℕ × ℕ × A) = λ p. option_and_then (λ (y : A). Some (p.0, p.1, y)) (read ws) in
      ap (λ (o : Option (List ℕ)). option_and_then with_item (option_and_then (λ (w : List ℕ). option_and_then (λ (n : ℕ). Some (w, n)) (number (decimal k))) o)) (branch_word_again b a.0)
      ∙ ap (λ (o : Option ℕ). option_and_then with_item (option_and_then (λ (n : ℕ). Some (b, n)) o)) (number_again k c.0)
      ∙ ap (option_and_then (λ (y : A). Some (b, k, y))) (again c.1)

step_again : (s : Step) → AreSound (step_words s) → step_of_words (map spelled (step_words s)) ≡ Some s
step_again (step.Write p v) h = ap (option_map (λ (n : ℕ × ℕ). step.Write n.0 n.1)) (two_numbers_again p v (sound_parts (Text (codes "w")) (Number p ∷ Number v ∷ []) h).1)
step_again (step.Read p) h = ap (option_map (λ (n : ℕ). step.Read n)) (one_number_again p (sound_parts (Text (codes "r")) (Number p ∷ []) h).1)
step_again (step.Go p c) h = ap (option_map (λ (n : ℕ × ℕ). step.Go n.0 n.1)) (two_numbers_again p c (sound_parts (Text (codes "g")) (Number p ∷ Number c ∷ []) h).1)
step_again (step.Stop p) h = ap (option_map (λ (n : ℕ). step.Stop n)) (one_number_again p (sound_parts (Text (codes "x")) (Number p ∷ []) h).1)

break_again : (br : Break) → AreSound (break_words br) → break_of (map spelled (break_words br)) ≡ Some br
break_again (break.Returns p) h = ap (option_map break.Returns) (one_number_again p (sound_parts (Text (codes "returns")) (Number p ∷ []) h).1)
break_again (break.Bit j v) h = ap (option_map (λ (n : ℕ × ℕ). break.Bit n.0 n.1)) (two_numbers_again j v (sound_parts (Text (codes "bit")) (Number j ∷ Number v ∷ []) h).1)
break_again break.Chosen h = refl
break_again break.Void h = refl
break_again break.Refused h = refl

-- ---- commands and looks

-- a command's first word selects the verb by which the words after it are read as the command
command_again : (c : Command) → AreSound (command_words c)
    → (v : CommandVerb) × (verb_of (next (map spelled (command_words c))) ≡ Some (verb.Command v)) × (command_of v (after_next (map spelled (command_words c))) ≡ Some c)
command_again command.Join h = (command_verb.Join, refl, refl)
command_again command.Leave h = (command_verb.Leave, refl, refl)
command_again (command.Insert b k s) h = (command_verb.Insert, refl, ap (option_map (λ (p : List ℕ × ℕ × Step). command.Insert p.0 p.1 p.2)) (place_and_rest_again b k step_of_words (step_words s) s (step_again s) (sound_parts (Text (codes "insert")) (Text b ∷ Number k ∷ step_words s) h).1))
command_again (command.Remove b k) h = (command_verb.Remove, refl, ap (option_map (λ (p : List ℕ × ℕ). command.Remove p.0 p.1)) (branch_and_place_again b k (sound_parts (Text (codes "remove")) (place_words b k) h).1))
command_again (command.Replace b k s) h = (command_verb.Replace, refl, ap (option_map (λ (p : List ℕ × ℕ × Step). command.Replace p.0 p.1 p.2)) (place_and_rest_again b k step_of_words (step_words s) s (step_again s) (sound_parts (Text (codes "replace")) (Text b ∷ Number k ∷ step_words s) h).1))
command_again (command.Fork b k name) h = (command_verb.Fork, refl, ap (option_map (λ (p : List ℕ × ℕ × List ℕ). command.Fork p.0 p.1 p.2)) (place_and_rest_again b k only_branch (Text name ∷ []) name (only_branch_again name) (sound_parts (Text (codes "fork")) (Text b ∷ Number k ∷ Text name ∷ []) h).1))
command_again (command.Detach b) h = (command_verb.Detach, refl, ap (option_map command.Detach) (only_branch_again b (sound_parts (Text (codes "detach")) (Text b ∷ []) h).1))
command_again (command.Drop b) h = (command_verb.Drop, refl, ap (option_map command.Drop) (only_branch_again b (sound_parts (Text (codes "drop")) (Text b ∷ []) h).1))
command_again (command.Go b k) h = (command_verb.Go, refl, ap (option_map (λ (p : List ℕ × ℕ). command.Go p.0 p.1)) (branch_and_place_again b k (sound_parts (Text (codes "go")) (place_words b k) h).1))
command_again command.Seek h = (command_verb.Seek, refl, refl)
command_again command.Back h = (command_verb.Back, refl, refl)
command_again (command.Break br) h = (command_verb.Break, refl, ap (option_map command.Break) (break_again br (sound_parts (Text (codes "break")) (break_words br) h).1))
command_again (command.Clear br) h = (command_verb.Clear, refl, ap (option_map command.Clear) (break_again br (sound_parts (Text (codes "clear")) (break_words br) h).1))

look_again : (session : ℕ) (q : Query) → IsOwn session (Look q) → AreSound (query_words q)
    → (v : LookVerb) × (verb_of (next (map spelled (query_words q))) ≡ Some (verb.Look v)) × (look_of session v (after_next (map spelled (query_words q))) ≡ Some q)
look_again session (State b k) own h = (look.State, refl, ap (option_map (λ (p : List ℕ × ℕ). State p.0 p.1)) (branch_and_place_again b k (sound_parts (Text (codes "state")) (place_words b k) h).1))
look_again session (Process b k p) own h = (look.Process, refl, ap (option_map (λ (p : List ℕ × ℕ × ℕ). Process p.0 p.1 p.2)) (place_and_rest_again b k one_number (Number p ∷ []) p (one_number_again p) (sound_parts (Text (codes "process")) (Text b ∷ Number k ∷ Number p ∷ []) h).1))
look_again session (Bits b k) own h = (look.Bits, refl, ap (option_map (λ (p : List ℕ × ℕ). Bits p.0 p.1)) (branch_and_place_again b k (sound_parts (Text (codes "bits")) (place_words b k) h).1))
look_again session (Pending b k) own h = (look.Pending, refl, ap (option_map (λ (p : List ℕ × ℕ). Pending p.0 p.1)) (branch_and_place_again b k (sound_parts (Text (codes "pending")) (place_words b k) h).1))
look_again session (History b k) own h = (look.History, refl, ap (option_map (λ (p : List ℕ × ℕ). History p.0 p.1)) (branch_and_place_again b k (sound_parts (Text (codes "history")) (place_words b k) h).1))
look_again session (Verdict b k) own h = (look.Verdict, refl, ap (option_map (λ (p : List ℕ × ℕ). Verdict p.0 p.1)) (branch_and_place_again b k (sound_parts (Text (codes "verdict")) (place_words b k) h).1))
look_again session Branches own h = (look.Branches, refl, refl)
look_again session (Cursor who) own h = (look.Cursor, refl, ap (λ (s : ℕ). Some (Cursor s)) (sym own))
look_again session (Steps b) own h = (look.Steps, refl, ap (option_map Steps) (only_branch_again b (sound_parts (Text (codes "steps")) (Text b ∷ []) h).1))

request_again : (session : ℕ) (r : Request) → IsOwn session r → AreSound (request_words r)
    → request_of session (next (map spelled (request_words r))) (after_next (map spelled (request_words r))) ≡ Some r
request_again session (Act None c) own h =
    let a = command_again c h in
    let ws = map spelled (command_words c) in
    ap (λ (o : Option Verb). request_by session (next ws) o (after_next ws)) a.1 ∙ ap (option_map (Act None)) a.2
request_again session (Act (Some edits) c) own h =
    let a = sound_parts (Guard edits) (command_words c) h in
    let b = command_again c a.1 in
    let ws = map spelled (command_words c) in
    let guard : request_of session (64 ∷ decimal edits) ws ≡ guarded (64 ∷ decimal edits) ws = refl in
    guard
    ∙ ap (option_and_then (λ (n : ℕ). guarded_by n (verb_of (next ws)) (after_next ws))) (number_again edits a.0)
    ∙ ap (λ (o : Option Verb). guarded_by edits o (after_next ws)) b.1
    ∙ ap (option_map (Act (Some edits))) b.2
request_again session (Look q) own h =
    let a = look_again session q own h in
    let ws = map spelled (query_words q) in
    ap (λ (o : Option Verb). request_by session (next ws) o (after_next ws)) a.1 ∙ ap (option_map Look) a.2
request_again session (Fill b) own h = ap (option_map Fill) (only_branch_again b (sound_parts (Text (codes "fill")) (Text b ∷ []) h).1)

pub call_again : (c : Call) → IsOwn c.session c.request → list_all is_sound (call_words c) ≡ true → call_of (map spelled (call_words c)) ≡ Some c
call_again c own h =
    let a = sound_parts (Number c.session) (request_words c.request) h in
    let ws = map spelled (request_words c.request) in
    ap (option_and_then (λ (s : ℕ). option_and_then (λ (r : Request). Some (call_with s r)) (request_of s (next ws) (after_next ws)))) (number_again c.session a.0)
    ∙ ap (option_and_then (λ (r : Request). Some (call_with c.session r))) (request_again c.session c.request own a.1)

-- ---- how many words there are

few_step_words : (s : Step) → length (step_words s) ≤ 3
few_step_words (step.Write p v) = omega arith
few_step_words (step.Read p) = omega arith
few_step_words (step.Go p c) = omega arith
few_step_words (step.Stop p) = omega arith

few_break_words : (br : Break) → length (break_words br) ≤ 3
few_break_words (break.Returns p) = omega arith
few_break_words (break.Bit j v) = omega arith
few_break_words break.Chosen = omega arith
few_break_words break.Void = omega arith
few_break_words break.Refused = omega arith

few_command_words : (c : Command) → length (command_words c) ≤ 6
few_command_words command.Join = omega arith
few_command_words command.Leave = omega arith
few_command_words (command.Insert b k s) = omega (arith, few_step_words s)
few_command_words (command.Remove b k) = omega arith
few_command_words (command.Replace b k s) = omega (arith, few_step_words s)
few_command_words (command.Fork b k name) = omega arith
few_command_words (command.Detach b) = omega arith
few_command_words (command.Drop b) = omega arith
few_command_words (command.Go b k) = omega arith
few_command_words command.Seek = omega arith
few_command_words command.Back = omega arith
few_command_words (command.Break br) = omega (arith, few_break_words br)
few_command_words (command.Clear br) = omega (arith, few_break_words br)

few_query_words : (q : Query) → length (query_words q) ≤ 6
few_query_words (State b k) = omega arith
few_query_words (Process b k p) = omega arith
few_query_words (Bits b k) = omega arith
few_query_words (Pending b k) = omega arith
few_query_words (History b k) = omega arith
few_query_words (Verdict b k) = omega arith
few_query_words Branches = omega arith
few_query_words (Cursor who) = omega arith
few_query_words (Steps b) = omega arith

few_request_words : (r : Request) → length (request_words r) ≤ 7
few_request_words (Act None c) = omega (arith, few_command_words c)
few_request_words (Act (Some edits) c) = omega (arith, few_command_words c)
few_request_words (Look q) = omega (arith, few_query_words q)
few_request_words (Fill b) = omega arith

pub few_call_words : (c : Call) → length (call_words c) ≤ 8
few_call_words c = omega (arith, few_request_words c.request)
