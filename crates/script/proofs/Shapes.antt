-- Words of a given shape: each is spelled as the shape has it, and is within its size.
use Rattle.std.proofs.Common.{◌≡◌, ◌==◌, ℕ, ◌^◌, Bool, true, false, cond, ◌&&◌, nat_le, nat_lt, List, [], ◌∷◌, length, map, Option, Some, None, refl, sym, ap, ◌∙◌, subst, arith}
use Rattle.std.specs.Option.{option_map, option_and_then}
use Rattle.std.specs.List.{list_all}
use Rattle.std.specs.Str.{bytes_eq}
use Rattle.std.proofs.lemmas.Bool.{and_from, lt-ltb}
use Rattle.std.proofs.lemmas.Bool.Decides.{nat_tests}
use Rattle.std.proofs.lemmas.Option.{cond_some, same_Some}
use Rattle.words.specs.Words.{next, after_next, is_end}
use Rattle.words.specs.Numbers.{number, one_number, two_numbers}
use Rattle.words.proofs.Numbers.{decimal-number}
use Rattle.words.proofs.Options.{some_then, some_mapped}
use Rattle.words.proofs.NumberWords.{same_word}
use Rattle.script.specs.declared.call.Request.{Request}
use Rattle.script.specs.declared.call.Call.{Call}
use Rattle.script.specs.Lines.{branch_word, if_no_more}
use Rattle.script.specs.Spelling.{Word, spelled}
use Rattle.script.specs.Spelling.{Text, Number, Guard}

-- the call of this request by this session
abbrev pub call_with : ℕ → Request → Call
call_with session request = record { session = session; request = request }

-- whether a text has 1 to 16 bytes, or a number or a guard has at most 9 digits
abbrev pub is_small : Word → Bool
is_small (Text t) = nat_le 1 (length t) && nat_le (length t) 16
is_small (Number n) = nat_lt n (10 ^ 9)
is_small (Guard n) = nat_lt n (10 ^ 9)

-- the words ws are spelled as this shape has them, and each is within its size
pub record Shows (ws : List (List ℕ)) (shape : List Word) : Type 0 where
  pub same : ws ≡ map spelled shape
  pub small : list_all is_small shape ≡ true

-- a word of the shape x before words of the shape xs
pub one_more_shown : (w : List ℕ) (ws : List (List ℕ)) (x : Word) (xs : List Word) → w ≡ spelled x → is_small x ≡ true → Shows ws xs → Shows (w ∷ ws) (x ∷ xs)
one_more_shown w ws x xs e s h = record {
  same = ap (λ v. v ∷ ws) e ∙ ap (λ vs. spelled x ∷ vs) h.same;
  small = and_from (is_small x) (list_all is_small xs) s h.small;
}

-- the same, if the words are known by their first and by what follows it
pub first_shown : (ws : List (List ℕ)) (w : List ℕ) (x : Word) (xs : List Word) → ws ≡ w ∷ after_next ws → w ≡ spelled x → is_small x ≡ true → Shows (after_next ws) xs → Shows ws (x ∷ xs)
first_shown ws w x xs e f s h = subst (λ (vs : List (List ℕ)). Shows vs (x ∷ xs)) (sym e) (one_more_shown w (after_next ws) x xs f s h)

-- no words are left
pub none_shown : (ws : List (List ℕ)) → is_end ws ≡ true → Shows ws []
none_shown [] h = record { same = refl; small = refl }
none_shown (w ∷ ws) h = absurd cc

-- if the first word is the text v, and the others have this shape, all have v and then this shape
pub keyword_shown : (ws : List (List ℕ)) (v : List ℕ) (shape : List Word) → is_small (Text v) ≡ true → bytes_eq (next ws) v ≡ true → Shows (after_next ws) shape → Shows ws (Text v ∷ shape)
keyword_shown [] v shape s e h =
    let bad : is_small (Text []) ≡ true = subst (λ (x : List ℕ). is_small (Text x) ≡ true) (sym (same_word [] v e)) s in
    absurd cc
keyword_shown (w ∷ ws) v shape s e h = one_more_shown w ws (Text v) shape (same_word w v e) s h

-- ---- what was read, and how

-- a reading that succeeds has read a first word, and then the rest
pub first_word : {A B : Type 0} (read : List ℕ → Option A) (f : A → Option B) (ws : List (List ℕ)) (y : B) → read [] ≡ None → option_and_then f (read (next ws)) ≡ Some y
    → (w : List ℕ) × (x : A) × (ws ≡ w ∷ after_next ws) × (read w ≡ Some x) × (f x ≡ Some y)
first_word {A} read f [] y none h =
    let a = some_then (read []) f y h in
    let clash : (let o : Option A = None in o) ≡ Some a.0 = sym none ∙ a.1 in
    absurd cc
first_word read f (w ∷ ws) y none h =
    let a = some_then (read w) f y h in
    (w, a.0, refl, a.1, a.2)

-- `cond b x y` has c: P follows from x if the test b holds, and from y
pub either : {A P : Type 0} (b : Bool) (x y : Option A) (c : A) → (b ≡ true → x ≡ Some c → P) → (y ≡ Some c → P) → cond b x y ≡ Some c → P
either true x y c f g h = f refl h
either false x y c f g h = g h

-- `cond b o None` has c: so the test b holds, and o has c
pub when_some : {A : Type 0} (b : Bool) (o : Option A) (c : A) → cond b o None ≡ Some c → (b ≡ true) × (o ≡ Some c)
when_some true o c h = (refl, h)
when_some false o c h = absurd cc

-- P holds for what `option_map f sub` reads if it holds for f of all that `sub` reads
pub mapped_to : {A B : Type 0} (P : B → Type 0) (f : A → B) (sub : Option A) (c : B) → ((a : A) → sub ≡ Some a → P (f a)) → option_map f sub ≡ Some c → P c
mapped_to P f sub c h k =
    let a = some_mapped f sub c k in
    subst P a.2 (h a.0 a.1)

-- P holds for what `if_no_more it ws` reads if it holds for `it` once no words are left
pub if_no_more_to : {A : Type 0} (P : A → Type 0) (it c : A) (ws : List (List ℕ)) → (is_end ws ≡ true → P it) → if_no_more it ws ≡ Some c → P c
if_no_more_to P it c ws h k =
    let a = cond_some (is_end ws) it c k in
    subst P a.1 (h a.0)

-- P holds for what `Some it` reads if it holds for `it`
pub some_to : {A : Type 0} (P : A → Type 0) (it c : A) → P it → (let o : Option A = Some it in o) ≡ Some c → P c
some_to P it c h k = subst P (same_Some it c k) h

-- ---- numbers and names

at_least_one : (n : ℕ) → (n == 0) ≡ false → nat_le 1 n ≡ true
at_least_one n h = grind (arith, nat_tests)

pub number_shows : (w : List ℕ) (n : ℕ) → number w ≡ Some n → (w ≡ spelled (Number n)) × (is_small (Number n) ≡ true)
number_shows w n h =
    let d = decimal-number w n h in
    (d.1, lt-ltb n (10 ^ 9) d.0)

pub branch_word_shows : (w b : List ℕ) → branch_word w ≡ Some b → (w ≡ spelled (Text b)) × (is_small (Text b) ≡ true)
branch_word_shows w b h = by (length w == 0) refl h
  where
    by : (t : Bool) → (length w == 0) ≡ t → cond t None (cond (nat_le (length w) 16) (Some w) None) ≡ Some b → (w ≡ spelled (Text b)) × (is_small (Text b) ≡ true)
    by true e k = absurd cc
    by false e k =
        let a = cond_some (nat_le (length w) 16) w b k in
        (a.1, subst (λ (x : List ℕ). is_small (Text x) ≡ true) a.1 (and_from (nat_le 1 (length w)) (nat_le (length w) 16) (at_least_one (length w) e) a.0))

pub one_number_shows : (ws : List (List ℕ)) (n : ℕ) → one_number ws ≡ Some n → Shows ws (Number n ∷ [])
one_number_shows ws n h =
    let a = first_word number (λ x. cond (is_end (after_next ws)) (Some x) None) ws n refl h in
    let e = cond_some (is_end (after_next ws)) a.1 n a.4 in
    let s = number_shows a.0 a.1 a.3 in
    subst (λ x. Shows ws (Number x ∷ [])) e.1 (first_shown ws a.0 (Number a.1) [] a.2 s.0 s.1 (none_shown (after_next ws) e.0))

pub two_numbers_shows : (ws : List (List ℕ)) (n : ℕ × ℕ) → two_numbers ws ≡ Some n → Shows ws (Number n.0 ∷ Number n.1 ∷ [])
two_numbers_shows ws n h =
    let a = first_word number (λ x. option_and_then (λ y. Some (x, y)) (one_number (after_next ws))) ws n refl h in
    let b = some_then (one_number (after_next ws)) (λ y. Some (a.1, y)) n a.4 in
    let s = number_shows a.0 a.1 a.3 in
    subst (λ (m : ℕ × ℕ). Shows ws (Number m.0 ∷ Number m.1 ∷ [])) (same_Some (a.1, b.0) n b.2)
    (first_shown ws a.0 (Number a.1) (Number b.0 ∷ []) a.2 s.0 s.1 (one_number_shows (after_next ws) b.0 b.1))
