-- Bytes that spell a bench file are read as that file.
use Rattle.std.proofs.Common.{◌≡◌, ℕ, ◌+◌, ◌<◌, ◌^◌, ◌≤◌, true, false, cond, not, ◌&&◌, ◌||◌, nat_lt, nat_le, List, [], ◌∷◌, ◌++◌, length, map, Option, Some, Result, Ok, Err, refl, sym, ap, ◌∙◌, subst, true≢false, append_assoc, append-nil, arith}
use Rattle.std.specs.Prelude.{codes}
use Rattle.std.specs.Option.{ok_or}
use Rattle.std.specs.List.{list_all, flat_map}
use Rattle.std.specs.Str.{bytes_eq}
use Rattle.std.specs.Fmt.{decimal}
use Rattle.std.proofs.lemmas.Bool.{and_parts, and_from, ltb-true}
use Rattle.std.proofs.lemmas.Bool.Decides.{nat_tests}
use Rattle.frames.specs.declared.types.Step.{Step}
use Rattle.frames.specs.declared.types.Step.TheVariants as step
use Rattle.branch_terms.specs.declared.limb.Limb.{Limb}
use Rattle.branch_terms.specs.Names.{is_letter, is_letter_or_digit, is_well_formed}
use Rattle.branch_terms.specs.Limbs.{is_name, is_new_name, may_share, are_lawful_after}
use Rattle.tower_file.specs.declared.tower.TowerSpec.{TowerSpec}
use Rattle.tower_file.specs.declared.fault.FaultKind.TheVariants.{BadBranch, BadStep, Tangled}
use Rattle.tower_file.specs.declared.fault.FileFault.{FileFault}
use Rattle.tower_file.specs.declared.version.Version.TheVariants.{Two}
use Rattle.tower_file.specs.Faults.{fault}
use Rattle.tower_file.specs.Towers.{is_lawful_tower, fits}
use Rattle.tower_file.specs.Benches.{Bench, IsLawfulBench, bench_of, has_limbs, is_fitting, are_lawful}
use Rattle.tower_file.specs.Lines.{fitting_step, is_branch, branch_of}
use Rattle.tower_file.specs.Spelling.{text_with_end, tower_text}
use Rattle.tower_file.specs.BenchSpelling.{bench_header, branch_text, limb_text, bench_spelling, SpellsBench}
use Rattle.tower_file.specs.Reading.{◌>>=◌, is_file_byte, reading_from}
use Rattle.tower_file.specs.BenchReading.{limb_with_step, put_step, put_limb, then_branch, then_step, then_line, cut_line, limbs_of, bench_of_lines, bench_reading}
use Rattle.words.specs.Words.{words, lines, next, after_next, is_end, word_with_numbers}
use Rattle.words.specs.Numbers.{two_numbers}
use Rattle.words.specs.Steps.{step_text, HasShortNumbers}
use Rattle.words.proofs.Numbers.{number-decimal}
use Rattle.words.proofs.Texts.{is_not, is_printable, all_weaker, all_append, word_with_numbers_printable, words-word_with_numbers, cut_at}
use Rattle.tower_file.proofs.Texts.{lines-line}
use Rattle.words.proofs.Steps.{step_printable}
use Rattle.tower_file.proofs.ReadBack.{IsWithinBounds, within_bounds, tower_printable, fitting_step_short, fitting_again, line_plain, none_foreign, tower_of_lines}
use Rattle.tower_file.proofs.BenchLimbs.{step_line, limbs_text, put_step-last, put_limb_nonempty}

-- ---- the bytes of names

-- a byte of a name is from `0` to `z`
name_byte : (b : ℕ) → is_letter_or_digit b ≡ true → (48 ≤ b) × (b ≤ 122)
name_byte b h = (grind (arith, nat_tests), grind (arith, nat_tests))

name_printable : (b : ℕ) → is_letter_or_digit b ≡ true → is_printable b ≡ true
name_printable b h = let r = name_byte b h in grind (arith, nat_tests, r)

name_not_space : (b : ℕ) → is_letter_or_digit b ≡ true → is_not 32 b ≡ true
name_not_space b h = let r = name_byte b h in grind (arith, nat_tests, r)

-- a well-formed name has letters and digits alone
name_bytes : (name : List ℕ) → is_well_formed name ≡ true → list_all is_letter_or_digit name ≡ true
name_bytes [] h = absurd (true≢false (sym h))
name_bytes (b ∷ bs) h =
    let a = and_parts (is_letter b) (list_all is_letter_or_digit bs) h in
    and_from (is_letter_or_digit b) (list_all is_letter_or_digit bs) (ap (λ c. c || (nat_le 48 b && nat_le b 57)) a.0) a.1

-- limb l has a line that is read back: its name has at most 16 bytes, all lower-case letters or
-- digits, and its numbers have at most 9 digits
record IsSpellable (l : Limb) : Type 0 where
  pub short_name : nat_le (length l.name) 16 ≡ true
  pub bytes : list_all is_letter_or_digit l.name ≡ true
  pub from : l.from < 10 ^ 9
  pub shared : l.shared < 10 ^ 9

-- a limb with a name's form, and that fits, has a line that is read back
spellable : (t : TowerSpec) (l : Limb) → is_name l.name ≡ true → is_fitting t l ≡ true → IsSpellable l
spellable t l name fit =
    let a = and_parts (nat_le (length l.name) 16) (is_well_formed l.name) name in
    let b = and_parts (nat_lt l.from (10 ^ 9) && nat_lt l.shared (10 ^ 9)) (list_all (fits t) l.steps) fit in
    let c = and_parts (nat_lt l.from (10 ^ 9)) (nat_lt l.shared (10 ^ 9)) b.0 in
    record { short_name = a.0; bytes = name_bytes l.name a.1; from = ltb-true l.from (10 ^ 9) c.0; shared = ltb-true l.shared (10 ^ 9) c.1 }

branch_printable : (l : Limb) → IsSpellable l → list_all is_printable (branch_text l) ≡ true
branch_printable l w =
    let from = w.from in
    let shared = w.shared in
    all_append is_printable (codes "branch") (32 ∷ word_with_numbers l.name (l.from ∷ l.shared ∷ [])) refl
    (word_with_numbers_printable l.name (l.from ∷ l.shared ∷ []) (all_weaker is_letter_or_digit is_printable name_printable l.name w.bytes) (from, (shared, tt)))

-- ---- a branch's line

-- the words of a branch's line
branch_words : (l : Limb) → IsSpellable l → words (branch_text l) ≡ codes "branch" ∷ l.name ∷ map decimal (l.from ∷ l.shared ∷ [])
branch_words l w =
    let from = w.from in
    let shared = w.shared in
    cut_at 32 (codes "branch") (word_with_numbers l.name (l.from ∷ l.shared ∷ [])) refl
    ∙ ap (λ ws. codes "branch" ∷ ws) (words-word_with_numbers l.name (l.from ∷ l.shared ∷ []) (all_weaker is_letter_or_digit (is_not 32) name_not_space l.name w.bytes) (from, (shared, tt)))

-- a limb before its steps are read
abbrev bare : Limb → Limb
bare l = record { name = l.name; from = l.from; shared = l.shared; steps = [] }

-- two numbers' decimal forms are read as these
numbers_again : (m n : ℕ) → m < 10 ^ 9 → n < 10 ^ 9 → two_numbers (map decimal (m ∷ n ∷ [])) ≡ Some (m, n)
numbers_again m n a b = rw (number-decimal m a, number-decimal n b) refl

-- the words after `branch` are read as the limb, without its steps
branch_again : (l : Limb) → IsSpellable l → branch_of (l.name ∷ map decimal (l.from ∷ l.shared ∷ [])) ≡ Some (bare l)
branch_again l w = rw (w.short_name, numbers_again l.from l.shared w.from w.shared) refl

-- the line of a branch is read as its limb, which is added
branch_line_again : (n : ℕ) (e : List Limb) (l : Limb) → IsSpellable l → is_new_name e l.name ≡ true → may_share e l ≡ true → then_branch n e (after_next (words (branch_text l))) ≡ Ok (e ++ bare l ∷ [])
branch_line_again n e l w new may =
    ap (λ ws. then_branch n e (after_next ws)) (branch_words l w)
    ∙ ap (λ o. ok_or o (fault BadBranch n) >>= put_limb n e) (branch_again l w)
    ∙ ap (λ b. cond (not b) (Err (fault BadBranch n)) (cond (may_share e l) (Ok (e ++ bare l ∷ [])) (Err (fault Tangled n)))) new
    ∙ ap (λ b. cond b (Ok (e ++ bare l ∷ [])) (Err (fault Tangled n))) may

-- `branch_line_again`, as `then_line` takes the line
limb_line_again : (t : TowerSpec) (n : ℕ) (e : List Limb) (l : Limb) → IsSpellable l → is_new_name e l.name ≡ true → may_share e l ≡ true
    → then_line t n e (branch_text l) ≡ Ok (e ++ bare l ∷ [])
limb_line_again t n e l w new may =
    let first : is_branch (branch_text l) ≡ true = ap (λ ws. bytes_eq (next ws) (codes "branch")) (branch_words l w) in
    ap (λ b. cond b (then_branch n e (after_next (words (branch_text l)))) (then_step t n e (branch_text l))) first ∙ branch_line_again n e l w new may

-- ---- a step's line

-- a step's line doesn't begin with `branch`
step_not_branch : (s : Step) → HasShortNumbers s → is_branch (step_text s) ≡ false
step_not_branch (step.Write p v) h = ap (λ ws. bytes_eq (next ws) (codes "branch")) (words-word_with_numbers (codes "w") (p ∷ v ∷ []) refl (h.0, (h.1, tt)))
step_not_branch (step.Read p) h = ap (λ ws. bytes_eq (next ws) (codes "branch")) (words-word_with_numbers (codes "r") (p ∷ []) refl (h, tt))
step_not_branch (step.Go p c) h = ap (λ ws. bytes_eq (next ws) (codes "branch")) (words-word_with_numbers (codes "g") (p ∷ c ∷ []) refl (h.0, (h.1, tt)))
step_not_branch (step.Stop p) h = ap (λ ws. bytes_eq (next ws) (codes "branch")) (words-word_with_numbers (codes "x") (p ∷ []) refl (h, tt))

-- a step's line is read as the step, which is added to the last limb
step_line_again : (t : TowerSpec) (n : ℕ) (e : List Limb) (l : Limb) (s : Step) → IsWithinBounds t → fits t s ≡ true
    → then_line t n (e ++ l ∷ []) (step_text s) ≡ Ok (e ++ limb_with_step l s ∷ [])
step_line_again t n e l s small fit =
    let limbs = e ++ l ∷ [] in
    ap (λ b. cond b (then_branch n limbs (after_next (words (step_text s)))) (then_step t n limbs (step_text s))) (step_not_branch s (fitting_step_short t s small fit))
    ∙ ap (λ b. cond b (ok_or (fitting_step Two t (step_text s)) (fault BadStep n) >>= λ x. Ok (put_step limbs x)) (Err (fault BadBranch n))) (put_limb_nonempty e l)
    ∙ ap (λ (o : Option Step). ok_or o (fault BadStep n) >>= λ x. Ok (put_step limbs x)) (fitting_again Two t s small fit)
    ∙ ap (λ (x : List Limb). Ok x) (put_step-last e l s)

-- ---- the lines of limbs, and the empty text after the last line end

-- the lines of steps, and then these lines
abbrev pub steps_before : List Step → List (List ℕ) → List (List ℕ)
steps_before [] rest = rest
steps_before (s ∷ ss) rest = step_text s ∷ steps_before ss rest

-- the lines of limbs, and the empty text after the last line end
abbrev pub limb_lines : List Limb → List (List ℕ)
limb_lines [] = [] ∷ []
limb_lines (l ∷ ls) = branch_text l ∷ steps_before l.steps (limb_lines ls)

steps_before_nonempty : (ss : List Step) (rest : List (List ℕ)) → is_end rest ≡ false → is_end (steps_before ss rest) ≡ false
steps_before_nonempty [] rest h = h
steps_before_nonempty (s ∷ ss) rest h = refl

limb_lines_nonempty : (ls : List Limb) → is_end (limb_lines ls) ≡ false
limb_lines_nonempty [] = refl
limb_lines_nonempty (l ∷ ls) = refl

-- a line that isn't the last is read, and then the others
limbs_more : (t : TowerSpec) (n : ℕ) (e : List Limb) (l : List ℕ) (ls : List (List ℕ)) → is_end ls ≡ false
    → limbs_of t n e (l ∷ ls) ≡ (then_line t n e l >>= λ more. limbs_of t (n + 1) more ls)
unfolding limbs_of
limbs_more t n e l [] h = absurd (true≢false h)
limbs_more t n e l (k ∷ ls) h = refl

-- after the limbs e, these lines give the limbs `all`, whatever the number of the first line is
abbrev AreRead : TowerSpec → List Limb → List (List ℕ) → List Limb → Type 0
AreRead t e ls all = (n : ℕ) → limbs_of t n e ls ≡ Ok all

-- one more line before lines that are read
next_again : (t : TowerSpec) (e : List Limb) (l : List ℕ) (ls : List (List ℕ)) (more all : List Limb) → is_end ls ≡ false → ((n : ℕ) → then_line t n e l ≡ Ok more)
    → AreRead t more ls all → AreRead t e (l ∷ ls) all
next_again t e l ls more all followed first others =
    λ n. limbs_more t n e l ls followed ∙ ap (λ (r : Result (List Limb) FileFault). r >>= λ x. limbs_of t (n + 1) x ls) (first n) ∙ others (n + 1)

-- a limb with more steps at its end
abbrev with_steps : Limb → List Step → Limb
with_steps l ss = record { name = l.name; from = l.from; shared = l.shared; steps = l.steps ++ ss }

-- the lines of steps are read as the steps of the last limb
limb_steps_again : (t : TowerSpec) (e : List Limb) (l : Limb) (ss : List Step) (rest : List (List ℕ)) (all : List Limb) → IsWithinBounds t → list_all (fits t) ss ≡ true → is_end rest ≡ false
    → AreRead t (e ++ with_steps l ss ∷ []) rest all → AreRead t (e ++ l ∷ []) (steps_before ss rest) all
limb_steps_again t e l [] rest all small fit followed read =
    let same : with_steps l [] ≡ l = ap (λ ss. record { name = l.name; from = l.from; shared = l.shared; steps = ss }) (append-nil l.steps) in
    subst (λ x. AreRead t (e ++ x ∷ []) rest all) same read
limb_steps_again t e l (s ∷ ss) rest all small fit followed read =
    let a = and_parts (fits t s) (list_all (fits t) ss) fit in
    let same : with_steps l (s ∷ ss) ≡ with_steps (limb_with_step l s) ss =
    ap (λ xs. record { name = l.name; from = l.from; shared = l.shared; steps = xs }) (sym (append_assoc l.steps (s ∷ []) ss)) in
    next_again t (e ++ l ∷ []) (step_text s) (steps_before ss rest) (e ++ limb_with_step l s ∷ []) all (steps_before_nonempty ss rest followed) (λ n. step_line_again t n e l s small a.0)
    (limb_steps_again t e (limb_with_step l s) ss rest all small a.1 followed (subst (λ x. AreRead t (e ++ x ∷ []) rest all) same read))

-- the empty text after the last line end ends the limbs
ended_again : (t : TowerSpec) (e : List Limb) → has_limbs e ≡ true → AreRead t e ([] ∷ []) e
unfolding limbs_of
ended_again t e some = λ n. ap (λ b. cond b (Ok e) (Err (fault (cut_line e []) n))) some

-- a bench file on tower t can have limb l after the limbs e, and the limbs ls after l
record IsNext (t : TowerSpec) (e : List Limb) (l : Limb) (ls : List Limb) : Type 0 where
  pub spellable : IsSpellable l
  pub new : is_new_name e l.name ≡ true
  pub may : may_share e l ≡ true
  pub fit : list_all (fits t) l.steps ≡ true
  pub later : are_lawful_after (e ++ l ∷ []) ls ≡ true
  pub others : list_all (is_fitting t) ls ≡ true

-- the parts of `IsNext`, from what makes limbs lawful
next_limb : (t : TowerSpec) (e : List Limb) (l : Limb) (ls : List Limb) → are_lawful_after e (l ∷ ls) ≡ true → list_all (is_fitting t) (l ∷ ls) ≡ true → IsNext t e l ls
next_limb t e l ls lawful fit =
    let a = and_parts (is_new_name e l.name) (may_share e l && are_lawful_after (e ++ l ∷ []) ls) lawful in
    let b = and_parts (may_share e l) (are_lawful_after (e ++ l ∷ []) ls) a.1 in
    let c = and_parts (is_fitting t l) (list_all (is_fitting t) ls) fit in
    let d = and_parts (nat_lt l.from (10 ^ 9) && nat_lt l.shared (10 ^ 9)) (list_all (fits t) l.steps) c.0 in
    record { spellable = spellable t l (name_of_new e l.name a.0) c.0; new = a.0; may = b.0; fit = d.1; later = b.1; others = c.1 }
  where
    name_of_new : (e : List Limb) (name : List ℕ) → is_new_name e name ≡ true → is_name name ≡ true
    name_of_new e name h = (and_parts (is_name name) _ h).0

-- the lines of limbs are read as these limbs
limbs_again : (t : TowerSpec) (e ls : List Limb) → IsWithinBounds t → are_lawful_after e ls ≡ true → list_all (is_fitting t) ls ≡ true → has_limbs (e ++ ls) ≡ true → AreRead t e (limb_lines ls) (e ++ ls)
limbs_again t e [] small lawful fit some =
    let same : e ++ [] ≡ e = append-nil e in
    subst (λ x. AreRead t e ([] ∷ []) x) (sym same) (ended_again t e (subst (λ x. has_limbs x ≡ true) same some))
limbs_again t e (l ∷ ls) small lawful fit some =
    let h = next_limb t e l ls lawful fit in
    let same : (e ++ l ∷ []) ++ ls ≡ e ++ l ∷ ls = append_assoc e (l ∷ []) ls in
    let others : AreRead t (e ++ l ∷ []) (limb_lines ls) (e ++ l ∷ ls) =
    subst (AreRead t (e ++ l ∷ []) (limb_lines ls)) same
    (limbs_again t (e ++ l ∷ []) ls small h.later h.others (subst (λ x. has_limbs x ≡ true) (sym same) some)) in
    next_again t e (branch_text l) (steps_before l.steps (limb_lines ls)) (e ++ bare l ∷ []) (e ++ l ∷ ls) (steps_before_nonempty l.steps (limb_lines ls) (limb_lines_nonempty ls))
    (λ n. limb_line_again t n e l h.spellable h.new h.may)
    (limb_steps_again t e (bare l) l.steps (limb_lines ls) (e ++ l ∷ ls) small h.fit (limb_lines_nonempty ls) others)

-- ---- the bytes of limbs

-- bytes that begin with steps' lines are cut into these lines, and those of the rest
lines-limb_steps : (t : TowerSpec) (ss : List Step) (rest : List ℕ) → IsWithinBounds t → list_all (fits t) ss ≡ true → lines (flat_map step_line ss ++ rest) ≡ steps_before ss (lines rest)
lines-limb_steps t [] rest small fit = refl
lines-limb_steps t (s ∷ ss) rest small fit =
    let a = and_parts (fits t s) (list_all (fits t) ss) fit in
    ap lines (append_assoc (step_line s) (flat_map step_line ss) rest)
    ∙ lines-line (step_text s) (flat_map step_line ss ++ rest) (step_printable s (fitting_step_short t s small a.0))
    ∙ ap (λ ls. step_text s ∷ ls) (lines-limb_steps t ss rest small a.1)

-- the bytes of limbs are cut into their lines
lines-limbs : (t : TowerSpec) (e ls : List Limb) → IsWithinBounds t → are_lawful_after e ls ≡ true → list_all (is_fitting t) ls ≡ true → lines (limbs_text ls) ≡ limb_lines ls
lines-limbs t e [] small lawful fit = refl
lines-limbs t e (l ∷ ls) small lawful fit =
    let h = next_limb t e l ls lawful fit in
    let regroup : limb_text l ++ limbs_text ls ≡ text_with_end (branch_text l) ++ (flat_map step_line l.steps ++ limbs_text ls) =
    append_assoc (text_with_end (branch_text l)) (flat_map step_line l.steps) (limbs_text ls) in
    ap lines regroup
    ∙ lines-line (branch_text l) (flat_map step_line l.steps ++ limbs_text ls) (branch_printable l h.spellable)
    ∙ ap (λ xs. branch_text l ∷ xs) (lines-limb_steps t l.steps (limbs_text ls) small h.fit ∙ ap (steps_before l.steps) (lines-limbs t (e ++ l ∷ []) ls small h.later h.others))

-- no byte of the steps is foreign
limb_steps_plain : (t : TowerSpec) (ss : List Step) → IsWithinBounds t → list_all (fits t) ss ≡ true → list_all is_file_byte (flat_map step_line ss) ≡ true
limb_steps_plain t [] small fit = refl
limb_steps_plain t (s ∷ ss) small fit =
    let a = and_parts (fits t s) (list_all (fits t) ss) fit in
    all_append is_file_byte (step_line s) (flat_map step_line ss) (line_plain (step_text s) (step_printable s (fitting_step_short t s small a.0))) (limb_steps_plain t ss small a.1)

-- no byte of the limbs is foreign
limbs_plain : (t : TowerSpec) (e ls : List Limb) → IsWithinBounds t → are_lawful_after e ls ≡ true → list_all (is_fitting t) ls ≡ true → list_all is_file_byte (limbs_text ls) ≡ true
limbs_plain t e [] small lawful fit = refl
limbs_plain t e (l ∷ ls) small lawful fit =
    let h = next_limb t e l ls lawful fit in
    all_append is_file_byte (limb_text l) (limbs_text ls)
    (all_append is_file_byte (text_with_end (branch_text l)) (flat_map step_line l.steps) (line_plain (branch_text l) (branch_printable l h.spellable)) (limb_steps_plain t l.steps small h.fit))
    (limbs_plain t (e ++ l ∷ []) ls small h.later h.others)

-- ---- files

-- what makes the bench b lawful, part by part
record HasLawfulParts (b : Bench) : Type 0 where
  pub tower : is_lawful_tower b.tower ≡ true
  pub nonempty : has_limbs b.limbs ≡ true
  pub after : are_lawful_after [] b.limbs ≡ true
  pub fit : list_all (is_fitting b.tower) b.limbs ≡ true

lawful_parts : (b : Bench) → IsLawfulBench b → HasLawfulParts b
lawful_parts b h =
    let a = and_parts (is_lawful_tower b.tower && has_limbs b.limbs) (are_lawful b.tower b.limbs) h in
    let c = and_parts (is_lawful_tower b.tower) (has_limbs b.limbs) a.0 in
    let d = and_parts (are_lawful_after [] b.limbs) (list_all (is_fitting b.tower) b.limbs) a.1 in
    record { tower = c.0; nonempty = c.1; after = d.0; fit = d.1 }

-- the bytes of a bench file are cut into its lines
lines-bench : (b : Bench) → HasLawfulParts b → lines (bench_spelling b) ≡ bench_header ∷ tower_text b.tower ∷ limb_lines b.limbs
lines-bench b h =
    ap lines (append_assoc (text_with_end bench_header) (text_with_end (tower_text b.tower)) (limbs_text b.limbs))
    ∙ lines-line bench_header (text_with_end (tower_text b.tower) ++ limbs_text b.limbs) refl
    ∙ ap (λ ls. bench_header ∷ ls) (lines-line (tower_text b.tower) (limbs_text b.limbs) (tower_printable b.tower h.tower))
    ∙ ap (λ ls. bench_header ∷ tower_text b.tower ∷ ls) (lines-limbs b.tower [] b.limbs (within_bounds b.tower h.tower) h.after h.fit)

-- no byte of a bench file is foreign
bench_plain : (b : Bench) → HasLawfulParts b → list_all is_file_byte (bench_spelling b) ≡ true
bench_plain b h =
    all_append is_file_byte (text_with_end bench_header ++ text_with_end (tower_text b.tower)) (limbs_text b.limbs)
    (all_append is_file_byte (text_with_end bench_header) (text_with_end (tower_text b.tower)) refl (line_plain (tower_text b.tower) (tower_printable b.tower h.tower)))
    (limbs_plain b.tower [] b.limbs (within_bounds b.tower h.tower) h.after h.fit)

-- the lines of a bench file are read as it
bench_again : (b : Bench) → HasLawfulParts b → bench_of_lines (bench_header ∷ tower_text b.tower ∷ limb_lines b.limbs) ≡ Ok b
bench_again b h =
    let rest : List (List ℕ) = limb_lines b.limbs in
    ap (λ (r : Result TowerSpec FileFault). r >>= λ t. limbs_of t 3 [] rest >>= λ limbs. Ok (bench_of t limbs)) (tower_of_lines b.tower rest (limb_lines_nonempty b.limbs) h.tower)
    ∙ ap (λ (r : Result (List Limb) FileFault). r >>= λ limbs. Ok (bench_of b.tower limbs)) (limbs_again b.tower [] b.limbs (within_bounds b.tower h.tower) h.after h.fit h.nonempty 3)

-- the bytes of a bench file are read as it
reading-bench_spelling : (b : Bench) → IsLawfulBench b → bench_reading (bench_spelling b) ≡ Ok b
reading-bench_spelling b lawful =
    let h = lawful_parts b lawful in
    ap (λ o. reading_from bench_of_lines o (bench_spelling b)) (none_foreign (bench_spelling b) (bench_plain b h))
    ∙ ap bench_of_lines (lines-bench b h)
    ∙ bench_again b h

-- bytes that spell a bench file are read as it
pub bench_reading_again : (bytes : List ℕ) (b : Bench) → SpellsBench bytes b → bench_reading bytes ≡ Ok b
bench_reading_again bytes b s = ap bench_reading s.spelled ∙ reading-bench_spelling b s.lawful
