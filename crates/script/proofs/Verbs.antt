-- The first words of requests: a verb's own word, and no other, selects it.
use Rattle.std.proofs.Common.{◌≡◌, ℕ, Bool, true, List, [], ◌∷◌, length, Some, sym, ap, subst, refl}
use Rattle.std.specs.Prelude.{codes}
use Rattle.std.specs.List.{list_all}
use Rattle.std.specs.Str.{bytes_eq}
use Rattle.std.proofs.lemmas.Bool.{and_parts}
use Rattle.std.proofs.lemmas.Option.{same_Some}
use Rattle.std.proofs.lemmas.Slice.Eq.{HasBytesAt, text_from_reads}
use Rattle.words.proofs.NumberWords.{same_word}
use Rattle.script.specs.declared.verb.Verb.{Verb}
use Rattle.script.specs.declared.verb.Verb.TheVariants as verb
use Rattle.script.specs.declared.verb.LookVerb.TheVariants as look
use Rattle.script.specs.declared.verb.CommandVerb.TheVariants as command_verb
use Rattle.script.specs.Lines.{verb_words, verb_in, verb_of}
use Rattle.script.proofs.Shapes.{either}

-- a word with the bytes of a first word selects what that first word selects
pub verb_from_reads : (word first : List ℕ) → length word ≡ length first → HasBytesAt word 0 first → verb_of first ≡ verb_of word
verb_from_reads word first same bytes = ap verb_of (sym (text_from_reads word first same bytes))

-- the word that selects a verb
abbrev pub verb_text : Verb → List ℕ
verb_text (verb.Look look.Branches) = codes "branches"
verb_text (verb.Look look.Cursor) = codes "cursor"
verb_text (verb.Look look.Steps) = codes "steps"
verb_text (verb.Look look.Process) = codes "process"
verb_text (verb.Look look.State) = codes "state"
verb_text (verb.Look look.Pending) = codes "pending"
verb_text (verb.Look look.Bits) = codes "bits"
verb_text (verb.Look look.History) = codes "history"
verb_text (verb.Look look.Verdict) = codes "verdict"
verb_text verb.Fill = codes "fill"
verb_text (verb.Command command_verb.Join) = codes "join"
verb_text (verb.Command command_verb.Leave) = codes "leave"
verb_text (verb.Command command_verb.Seek) = codes "seek"
verb_text (verb.Command command_verb.Back) = codes "back"
verb_text (verb.Command command_verb.Go) = codes "go"
verb_text (verb.Command command_verb.Break) = codes "break"
verb_text (verb.Command command_verb.Clear) = codes "clear"
verb_text (verb.Command command_verb.Insert) = codes "insert"
verb_text (verb.Command command_verb.Remove) = codes "remove"
verb_text (verb.Command command_verb.Replace) = codes "replace"
verb_text (verb.Command command_verb.Fork) = codes "fork"
verb_text (verb.Command command_verb.Detach) = codes "detach"
verb_text (verb.Command command_verb.Drop) = codes "drop"

-- whether a row has the word that selects its verb
abbrev is_own_row : List ℕ × Verb → Bool
is_own_row row = bytes_eq row.0 (verb_text row.1)

word_is_verb_text_in : (rows : List (List ℕ × Verb)) (word : List ℕ) (v : Verb) → list_all is_own_row rows ≡ true → verb_in rows word ≡ Some v → bytes_eq word (verb_text v) ≡ true
word_is_verb_text_in [] word v all h = absurd cc
word_is_verb_text_in (row ∷ rows) word v all h =
    let a = and_parts (is_own_row row) (list_all is_own_row rows) all in
    either (bytes_eq word row.0) (Some row.1) (verb_in rows word) v
    (λ b e. subst (λ (x : Verb). bytes_eq word (verb_text x) ≡ true) (same_Some row.1 v e) (subst (λ (t : List ℕ). bytes_eq word t ≡ true) (same_word row.0 (verb_text row.1) a.0) b))
    (word_is_verb_text_in rows word v a.1) h

-- only a verb's own word selects it
pub word_is_verb_text : (word : List ℕ) (v : Verb) → verb_of word ≡ Some v → bytes_eq word (verb_text v) ≡ true
word_is_verb_text word v h = word_is_verb_text_in verb_words word v refl h
