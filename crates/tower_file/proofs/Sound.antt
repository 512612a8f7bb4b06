-- Bytes that are read as a tower file spell that file.
use Rattle.std.proofs.Common.{◌≡◌, ℕ, ◌+◌, Bool, true, false, cond, not, ◌==◌, List, [], ◌∷◌, ◌++◌, length, Option, Some, None, Ok, refl, sym, ap, ◌∙◌, subst, append_assoc}
use Rattle.std.specs.Prelude.{codes}
use Rattle.std.specs.Option.{ok_or}
use Rattle.std.specs.List.{list_all, flat_map, join_with_byte}
use Rattle.std.specs.Str.{bytes_eq}
use Rattle.std.proofs.lemmas.Bool.{and_parts, and_from, eqb-true, false≢true}
use Rattle.std.proofs.lemmas.Option.{cond_some, same_Some}
use Rattle.std.proofs.lemmas.List.{nil_from_length}
use Rattle.std.proofs.lemmas.List.Splits.{join_with_byte-slice_split}
use Rattle.frames.specs.declared.types.Step.{Step}
use Rattle.tower_file.specs.declared.tower.TowerSpec.{TowerSpec}
use Rattle.tower_file.specs.declared.tower.TowerSpec.TheVariants as tower
use Rattle.tower_file.specs.declared.line.TowerName.{TowerName}
use Rattle.tower_file.specs.declared.line.TowerName.TheVariants.{Safe, Copies, Regular, Unary, Stamped, Matrix}
use Rattle.tower_file.specs.declared.fault.FaultKind.TheVariants.{BadHeader, UnknownTower, BadField, BadStep, BadSize}
use Rattle.tower_file.specs.Faults.{fault}
use Rattle.tower_file.specs.declared.version.Version.{Version}
use Rattle.tower_file.specs.declared.version.Version.TheVariants.{One, Two}
use Rattle.tower_file.specs.Towers.{is_lawful_tower}
use Rattle.tower_file.specs.Versions.{header, may_have}
use Rattle.tower_file.specs.Files.{File, file_of}
use Rattle.words.specs.Words.{words, next, after_next, is_end}
use Rattle.words.specs.Numbers.{one_number, two_numbers, three_numbers, four_numbers}
use Rattle.words.specs.Steps.{step_of_words, step_text}
use Rattle.tower_file.specs.Lines.{tower_name, tower_of_numbers, fitting_step}
use Rattle.tower_file.specs.Spelling.{text_with_end, tower_text, spelling, Spells}
use Rattle.tower_file.specs.Reading.{◌>>=◌, has_header, version_of, checked_tower, tower_of_fields, second_line, tower_of, steps_of, file_of_lines}
use Rattle.words.proofs.Options.{some_then, some_mapped}
use Rattle.words.proofs.NumberWords.{one_number_is, two_numbers_are, three_numbers_are, four_numbers_are, word_and_numbers_joined, same_word}
use Rattle.words.proofs.Steps.{step_is}
use Rattle.tower_file.proofs.Readings.{bind_ok, ok_or_ok, when_ok, unless_ok, ok_is}

-- ---- the tower's line

-- the first of several values whose test is passed: P holds of it, if P holds of each that passes
choose : {A : Type 0} (P : A → Type 0) (b : Bool) (x k : A) (o : Option A) → (b ≡ true → P x) → (o ≡ Some k → P k) → cond b (Some x) o ≡ Some k → P k
choose P true x k o f g h = subst P (same_Some x k h) (f refl)
choose P false x k o f g h = g h

-- a tower's name and its numbers, separated by spaces, are the tower's line
fields_are : (w : List ℕ) (ws : List (List ℕ)) (k : TowerName) (t : TowerSpec) → tower_name w ≡ Some k → tower_of_numbers k ws ≡ Some t → join_with_byte 32 (w ∷ ws) ≡ tower_text t
fields_are w ws k t h =
    let P : TowerName → Type 0 = λ n. tower_of_numbers n ws ≡ Some t → join_with_byte 32 (w ∷ ws) ≡ tower_text t in
    choose P (bytes_eq w (codes "safe")) Safe k _
    (λ e f. let a = some_mapped (λ n. tower.Safe n) (one_number ws) t f in
    word_and_numbers_joined w (codes "safe") ws (a.0 ∷ []) (same_word w (codes "safe") e) (one_number_is ws a.0 a.1) ∙ ap tower_text a.2)
    (choose P (bytes_eq w (codes "copies")) Copies k _
    (λ e f. let a = some_mapped (λ n. tower.Copies n.0 n.1) (two_numbers ws) t f in
    word_and_numbers_joined w (codes "copies") ws (a.0.0 ∷ a.0.1 ∷ []) (same_word w (codes "copies") e) (two_numbers_are ws a.0 a.1) ∙ ap tower_text a.2)
    (choose P (bytes_eq w (codes "regular")) Regular k _
    (λ e f. let a = some_mapped (λ n. tower.Regular n.0 n.1) (two_numbers ws) t f in
    word_and_numbers_joined w (codes "regular") ws (a.0.0 ∷ a.0.1 ∷ []) (same_word w (codes "regular") e) (two_numbers_are ws a.0 a.1) ∙ ap tower_text a.2)
    (choose P (bytes_eq w (codes "unary")) Unary k _
    (λ e f. let a = some_mapped (λ n. tower.Unary n.0 n.1 n.2) (three_numbers ws) t f in
    word_and_numbers_joined w (codes "unary") ws (a.0.0 ∷ a.0.1 ∷ a.0.2 ∷ []) (same_word w (codes "unary") e) (three_numbers_are ws a.0 a.1) ∙ ap tower_text a.2)
    (choose P (bytes_eq w (codes "stamped")) Stamped k _
    (λ e f. let a = some_mapped (λ n. tower.Stamped n.0 n.1) (two_numbers ws) t f in
    word_and_numbers_joined w (codes "stamped") ws (a.0.0 ∷ a.0.1 ∷ []) (same_word w (codes "stamped") e) (two_numbers_are ws a.0 a.1) ∙ ap tower_text a.2)
    (choose P (bytes_eq w (codes "matrix")) Matrix k None
    (λ e f. let a = some_mapped (λ n. tower.Matrix n.0 n.1 n.2 n.3) (four_numbers ws) t f in
    word_and_numbers_joined w (codes "matrix") ws (a.0.0 ∷ a.0.1 ∷ a.0.2 ∷ a.0.3 ∷ []) (same_word w (codes "matrix") e) (four_numbers_are ws a.0 a.1) ∙ ap tower_text a.2)
    (λ e. absurd cc)))))) h

-- the second line has its line end, and is the line of a lawful tower
pub record IsTowerLine (is_cut : Bool) (line : List ℕ) (t : TowerSpec) : Type 0 where
  pub whole : is_cut ≡ false
  pub spelled : line ≡ tower_text t
  pub lawful : is_lawful_tower t ≡ true

-- a second line that is read as a tower is the tower's
second_line_is : (is_cut : Bool) (ws : List (List ℕ)) (t : TowerSpec) → second_line is_cut ws ≡ Ok t → IsTowerLine is_cut (join_with_byte 32 ws) t
second_line_is is_cut [] t h = absurd cc
second_line_is is_cut (w ∷ ws) t h =
    let a = bind_ok (ok_or (tower_name w) (fault UnknownTower 2)) (tower_of_fields is_cut ws) t h in
    let b = unless_ok is_cut (ok_or (tower_of_numbers a.0 ws) (fault BadField 2) >>= checked_tower) (fault BadField 2) t a.2 in
    let c = bind_ok (ok_or (tower_of_numbers a.0 ws) (fault BadField 2)) checked_tower t b.1 in
    let d = when_ok (is_lawful_tower c.0) (Ok c.0) (fault BadSize 2) t c.2 in
    let same = ok_is c.0 t d.1 in
    let name = ok_or_ok (tower_name w) (fault UnknownTower 2) a.0 a.1 in
    record {
      whole = b.0;
      spelled = fields_are w ws a.0 c.0 name (ok_or_ok (tower_of_numbers a.0 ws) (fault BadField 2) c.0 c.1) ∙ ap tower_text same;
      lawful = ap is_lawful_tower (sym same) ∙ d.0;
    }

-- ---- the steps

-- a line that is read as a fitting step is that step's text
pub fitting_is : (v : Version) (t : TowerSpec) (l : List ℕ) (s : Step) → fitting_step v t l ≡ Some s → (l ≡ step_text s) × (may_have v t s ≡ true)
fitting_is v t l s h =
    let a = some_then (step_of_words (words l)) (λ x. cond (may_have v t x) (Some x) None) s h in
    let b = cond_some (may_have v t a.0) a.0 s a.2 in
    (sym (join_with_byte-slice_split 32 l) ∙ step_is (words l) a.0 a.1 ∙ ap step_text b.1, ap (may_have v t) (sym b.1) ∙ b.0)

-- these bytes are the lines of these steps, and a file of this version may have each step
pub record AreSteps (v : Version) (t : TowerSpec) (bytes : List ℕ) (ss : List Step) : Type 0 where
  pub spelled : bytes ≡ flat_map (λ s. text_with_end (step_text s)) ss
  pub fit : list_all (may_have v t) ss ≡ true

-- lines that are read as steps are the lines of these steps
pub steps_are : (v : Version) (t : TowerSpec) (n : ℕ) (ls : List (List ℕ)) (ss : List Step) → steps_of v t n ls ≡ Ok ss → AreSteps v t (join_with_byte 10 ls) ss
unfolding steps_of
steps_are v t n [] ss h =
    subst (λ (xs : List Step). AreSteps v t [] xs) (ok_is [] ss h) (record { spelled = refl; fit = refl })
steps_are v t n (l ∷ []) ss h =
    let a = when_ok (length l == 0) (Ok []) (fault BadStep n) ss h in
    subst (λ (xs : List Step). AreSteps v t l xs) (ok_is [] ss a.1) (record { spelled = nil_from_length l (eqb-true (length l) 0 a.0); fit = refl })
steps_are v t n (l ∷ k ∷ ls) ss h =
    let a = bind_ok (ok_or (fitting_step v t l) (fault BadStep n)) (λ s. steps_of v t (n + 1) (k ∷ ls) >>= λ xs. Ok (s ∷ xs)) ss h in
    let b = bind_ok (steps_of v t (n + 1) (k ∷ ls)) (λ xs. Ok (a.0 ∷ xs)) ss a.2 in
    let first = fitting_is v t l a.0 (ok_or_ok (fitting_step v t l) (fault BadStep n) a.0 a.1) in
    let others = steps_are v t (n + 1) (k ∷ ls) b.0 b.1 in
    let more = flat_map (λ s. text_with_end (step_text s)) b.0 in
    let spelled : (l ++ 10 ∷ join_with_byte 10 (k ∷ ls)) ≡ text_with_end (step_text a.0) ++ more =
    ap (λ x. x ++ 10 ∷ join_with_byte 10 (k ∷ ls)) first.0 ∙ ap (λ x. step_text a.0 ++ 10 ∷ x) others.spelled ∙ sym (append_assoc (step_text a.0) (10 ∷ []) more) in
    subst (λ (xs : List Step). AreSteps v t (l ++ 10 ∷ join_with_byte 10 (k ∷ ls)) xs) (ok_is (a.0 ∷ b.0) ss b.2)
    (record { spelled = spelled; fit = and_from (may_have v t a.0) (list_all (may_have v t) b.0) first.1 others.fit })

-- ---- files

-- a first line that is a header is this header, and has its line end
pub header_is : (text : List ℕ) (ls : List (List ℕ)) → has_header text ls ≡ true → (next ls ≡ text) × (is_end (after_next ls) ≡ false)
header_is text ls h =
    let a = and_parts (not (is_end (after_next ls))) (bytes_eq (next ls) text) h in
    (same_word (next ls) text a.1, is_false (is_end (after_next ls)) a.0)
  where
    is_false : (b : Bool) → not b ≡ true → b ≡ false
    is_false true e = absurd cc
    is_false false e = refl

-- a first line that is read as a version is the version's header, and has its line end
version_is : (ls : List (List ℕ)) (v : Version) → version_of ls ≡ Some v → (next ls ≡ header v) × (is_end (after_next ls) ≡ false)
version_is ls v h =
    let P : Version → Type 0 = λ x. (next ls ≡ header x) × (is_end (after_next ls) ≡ false) in
    choose P (has_header (header One) ls) One v _ (header_is (header One) ls)
    (choose P (has_header (header Two) ls) Two v None (header_is (header Two) ls) (λ e. absurd cc)) h

-- lines that are read as a tower begin with the tower's line
pub tower_line : (ls : List (List ℕ)) (t : TowerSpec) → tower_of ls ≡ Ok t → IsTowerLine (is_end (after_next ls)) (next ls) t
tower_line ls t h =
    let c = second_line_is (is_end (after_next ls)) (words (next ls)) t h in
    record { whole = c.whole; spelled = sym (join_with_byte-slice_split 32 (next ls)) ∙ c.spelled; lawful = c.lawful }

-- two lines, joined with more bytes, have a line end each
pub two_lines_and_more : (h t others : List ℕ) → h ++ 10 ∷ (t ++ 10 ∷ others) ≡ text_with_end h ++ text_with_end t ++ others
two_lines_and_more h t others = simp append_assoc

-- lines that begin with a version's header and a tower's line, and then are those of steps, are the
-- spelling of a file
whole_file : (ls : List (List ℕ)) (v : Version) (t : TowerSpec) (ss : List Step) → next ls ≡ header v → is_end (after_next ls) ≡ false
    → IsTowerLine (is_end (after_next (after_next ls))) (next (after_next ls)) t
    → AreSteps v t (join_with_byte 10 (after_next (after_next ls))) ss → join_with_byte 10 ls ≡ spelling (file_of v t ss)
whole_file [] v t ss e more tower steps = absurd cc
whole_file (l ∷ []) v t ss e more tower steps = absurd cc
whole_file (l ∷ k ∷ []) v t ss e more tower steps = absurd (false≢true (sym tower.whole))
whole_file (l ∷ k ∷ r ∷ rs) v t ss e more tower steps =
    ap (λ x. x ++ 10 ∷ (k ++ 10 ∷ join_with_byte 10 (r ∷ rs))) e
    ∙ ap (λ x. header v ++ 10 ∷ (x ++ 10 ∷ join_with_byte 10 (r ∷ rs))) tower.spelled
    ∙ ap (λ x. header v ++ 10 ∷ (tower_text t ++ 10 ∷ x)) steps.spelled
    ∙ two_lines_and_more (header v) (tower_text t) (flat_map (λ s. text_with_end (step_text s)) ss)

-- lines that are read as a file spell it
pub file_is : (ls : List (List ℕ)) (f : File) → file_of_lines ls ≡ Ok f → Spells (join_with_byte 10 ls) f
file_is ls f h =
    let d = bind_ok (ok_or (version_of ls) (fault BadHeader 1)) (λ v. tower_of (after_next ls) >>= λ t. steps_of v t 3 (after_next (after_next ls)) >>= λ ss. Ok (file_of v t ss)) f h in
    let v = d.0 in
    let a = bind_ok (tower_of (after_next ls)) (λ t. steps_of v t 3 (after_next (after_next ls)) >>= λ ss. Ok (file_of v t ss)) f d.2 in
    let b = bind_ok (steps_of v a.0 3 (after_next (after_next ls))) (λ ss. Ok (file_of v a.0 ss)) f a.2 in
    let first = version_is ls v (ok_or_ok (version_of ls) (fault BadHeader 1) v d.1) in
    let tower = tower_line (after_next ls) a.0 a.1 in
    let steps = steps_are v a.0 3 (after_next (after_next ls)) b.0 b.1 in
    subst (λ (g : File). Spells (join_with_byte 10 ls) g) (ok_is (file_of v a.0 b.0) f b.2)
    (record {
      lawful = and_from (is_lawful_tower a.0) (list_all (may_have v a.0) b.0) tower.lawful steps.fit;
      spelled = whole_file ls v a.0 b.0 first.0 first.1 tower steps;
    })
