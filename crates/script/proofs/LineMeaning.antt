-- A line is read as what it says.
use Rattle.std.proofs.Common.{◌≡◌, ◌==◌, ℕ, Bool, true, false, cond, ◌&&◌, nat_le, List, [], ◌∷◌, length, map, Option, Some, None, refl, sym, ap, ◌∙◌, subst, arith}
use Rattle.std.specs.Fmt.{decimal}
use Rattle.std.specs.List.{list_all, join_with_byte}
use Rattle.std.proofs.lemmas.Bool.{and_parts, and_from, eqb-true, eq-eqb, le-leb}
use Rattle.std.proofs.lemmas.List.Splits.{join_with_byte-slice_split}
use Rattle.words.specs.Words.{words}
use Rattle.script.specs.declared.call.Call.{Call}
use Rattle.script.specs.declared.call.Line.{Line}
use Rattle.script.specs.declared.call.Line.TheVariants as line
use Rattle.script.specs.Lines.{call_of, is_call_byte, call_or_bad, call_line, read_line}
use Rattle.script.specs.Spelling.{Number, spelled, call_words, request_words, call_text, is_sound, SpellsCall, IsBlankLine, LineSays}
use Rattle.script.proofs.Sound.{call_shows}
use Rattle.script.proofs.ReadBack.{number_again, call_again, few_call_words}
use Rattle.script.proofs.Bytes.{are_visible, visible_words, sound_words, sound_visible, words-join, call_bytes-join, short-join, IsNotBlank, number_is_not_blank}

-- ---- what is read is said

call_is_read : (o : Option Call) (c : Call) → call_or_bad o ≡ line.Call c → o ≡ Some c
call_is_read None c h = absurd cc
call_is_read (Some x) c h = cc

call_line_is : (text : List ℕ) (c : Call) → call_line text ≡ line.Call c → SpellsCall text c
call_line_is text c h = by (nat_le (length text) 255 && list_all is_call_byte text) refl h
  where
    by : (t : Bool) → (nat_le (length text) 255 && list_all is_call_byte text) ≡ t → cond t (call_or_bad (call_of (words text))) line.Bad ≡ line.Call c → SpellsCall text c
    by false e k = absurd cc
    by true e k =
        let call_bytes = (and_parts (nat_le (length text) 255) (list_all is_call_byte text) e).1 in
        let shows = call_shows (words text) c (call_is_read (call_of (words text)) c k) in
        record {
          own = shows.1;
          sound = sound_words (call_words c) shows.0.small (subst (λ (ws : List (List ℕ)). are_visible ws ≡ true) shows.0.same (visible_words text call_bytes));
          text_is = sym (join_with_byte-slice_split 32 text) ∙ ap (join_with_byte 32) shows.0.same;
        }

-- ---- what is said is read

call_line_again : (c : Call) (text : List ℕ) → SpellsCall text c → call_line text ≡ line.Call c
call_line_again c text s =
    let ws = map spelled (request_words c.request) in
    let visible = sound_visible (call_words c) s.sound in
    let short : nat_le (length (call_text c)) 255 ≡ true = le-leb (length (call_text c)) 255 (omega (arith, short-join (Number c.session) (request_words c.request) s.sound, few_call_words c)) in
    let good : (nat_le (length (call_text c)) 255 && list_all is_call_byte (call_text c)) ≡ true =
    and_from (nat_le (length (call_text c)) 255) (list_all is_call_byte (call_text c)) short (call_bytes-join (decimal c.session) ws visible) in
    ap call_line s.text_is
    ∙ ap (λ t. cond t (call_or_bad (call_of (words (call_text c)))) line.Bad) good
    ∙ ap (λ ws. call_or_bad (call_of ws)) (words-join (decimal c.session) ws visible)
    ∙ ap call_or_bad (call_again c s.own s.sound)

call_is_not_blank : (c : Call) (text : List ℕ) → SpellsCall text c → IsNotBlank text
call_is_not_blank c text s =
    subst (λ (x : List ℕ). IsNotBlank x) (sym s.text_is)
    (number_is_not_blank (decimal c.session) (map spelled (request_words c.request)) c.session (number_again c.session (and_parts (is_sound (Number c.session)) (list_all is_sound (request_words c.request)) s.sound).0))

reads_call : (c : Call) (text : List ℕ) → SpellsCall text c → read_line text ≡ line.Call c
reads_call c text s =
    let f = call_is_not_blank c text s in
    ap read_line f.same
    ∙ ap (λ t. cond t line.Blank (call_line (f.first ∷ f.others))) f.no_hash
    ∙ ap call_line (sym f.same)
    ∙ call_line_again c text s

-- ---- both

reads_blank : (text : List ℕ) → IsBlankLine text → read_line text ≡ line.Blank
reads_blank [] h = refl
reads_blank (b ∷ bs) h = ap (λ t. cond t line.Blank (call_line (b ∷ bs))) (eq-eqb b 35 h)

bad_is_said : (text : List ℕ) → read_line text ≡ line.Bad → LineSays text line.Bad
bad_is_said text h = (
  λ blank. let clash : line.Bad ≡ line.Blank = sym h ∙ reads_blank text blank in absurd cc,
  λ c s. let clash : line.Bad ≡ line.Call c = sym h ∙ reads_call c text s in absurd cc,
)

not_blank : (text : List ℕ) → call_line text ≡ line.Blank → ⊥
not_blank text h = by (nat_le (length text) 255 && list_all is_call_byte text) h
  where
    other : (o : Option Call) → call_or_bad o ≡ line.Blank → ⊥
    other None k = absurd cc
    other (Some c) k = absurd cc

    by : (t : Bool) → cond t (call_or_bad (call_of (words text))) line.Bad ≡ line.Blank → ⊥
    by true k = other (call_of (words text)) k
    by false k = absurd cc

blank_is_said : (text : List ℕ) → read_line text ≡ line.Blank → IsBlankLine text
blank_is_said [] h = tt
blank_is_said (b ∷ bs) h = by (b == 35) refl h
  where
    by : (t : Bool) → (b == 35) ≡ t → cond t line.Blank (call_line (b ∷ bs)) ≡ line.Blank → b ≡ 35
    by true e k = eqb-true b 35 e
    by false e k = absurd (not_blank (b ∷ bs) k)

call_is_said : (text : List ℕ) (c : Call) → read_line text ≡ line.Call c → SpellsCall text c
call_is_said [] c h = absurd cc
call_is_said (b ∷ bs) c h = by (b == 35) h
  where
    by : (t : Bool) → cond t line.Blank (call_line (b ∷ bs)) ≡ line.Call c → SpellsCall (b ∷ bs) c
    by true k = absurd cc
    by false k = call_line_is (b ∷ bs) c k

pub says_what_is_read : (text : List ℕ) (l : Line) → read_line text ≡ l → LineSays text l
says_what_is_read text line.Blank h = blank_is_said text h
says_what_is_read text line.Bad h = bad_is_said text h
says_what_is_read text (line.Call c) h = call_is_said text c h

pub reads_what_is_said : (text : List ℕ) (l : Line) → LineSays text l → read_line text ≡ l
reads_what_is_said text line.Blank h = reads_blank text h
reads_what_is_said text (line.Call c) h = reads_call c text h
reads_what_is_said text line.Bad h = by (read_line text) refl
  where
    by : (l : Line) → read_line text ≡ l → l ≡ line.Bad
    by line.Blank e = absurd (h.0 (blank_is_said text e))
    by line.Bad e = refl
    by (line.Call c) e = absurd (h.1 c (call_is_said text c e))
