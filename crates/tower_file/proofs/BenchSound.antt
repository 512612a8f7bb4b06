-- Bytes that are read as a bench file spell that file.
use Rattle.std.proofs.Common.{◌≡◌, ℕ, ◌+◌, ◌<◌, ◌^◌, Bool, true, false, cond, not, ◌&&◌, ◌==◌, nat_lt, nat_le, List, [], ◌∷◌, ◌++◌, length, Some, Ok, Err, refl, sym, ap, ◌∙◌, subst, true≢false, append_assoc, append-nil, arith}
use Rattle.std.specs.Prelude.{codes}
use Rattle.std.specs.Option.{ok_or, option_and_then}
use Rattle.std.specs.List.{join_with_byte}
use Rattle.std.proofs.lemmas.Bool.{and_parts, and_from, eqb-true, lt-ltb}
use Rattle.std.proofs.lemmas.Option.{cond_some, same_Some}
use Rattle.std.proofs.lemmas.List.{nil_from_length}
use Rattle.std.proofs.lemmas.List.Splits.{join_with_byte-slice_split}
use Rattle.branch_terms.specs.declared.limb.Limb.{Limb}
use Rattle.branch_terms.specs.Names as names
use Rattle.branch_terms.specs.Limbs.{is_new_name, may_share}
use Rattle.tower_file.specs.declared.tower.TowerSpec.{TowerSpec}
use Rattle.tower_file.specs.declared.fault.FaultKind.TheVariants.{BadHeader, BadBranch, BadStep, Tangled}
use Rattle.tower_file.specs.declared.version.Version.TheVariants.{Two}
use Rattle.tower_file.specs.Faults.{fault}
use Rattle.tower_file.specs.Towers.{is_lawful_tower}
use Rattle.tower_file.specs.Benches.{Bench, bench_of, has_limbs, is_fitting, are_lawful}
use Rattle.tower_file.specs.Lines.{fitting_step, is_branch, branch_of}
use Rattle.tower_file.specs.Spelling.{text_with_end, tower_text}
use Rattle.tower_file.specs.BenchSpelling.{bench_header, branch_text, SpellsBench}
use Rattle.tower_file.specs.Reading.{◌>>=◌, has_header, tower_of}
use Rattle.tower_file.specs.BenchReading.{put_step, put_limb, then_branch, then_step, then_line, cut_line, limbs_at_end, limbs_of, bench_of_lines}
use Rattle.words.specs.Words.{words, next, after_next, is_end, word_with_numbers}
use Rattle.words.specs.Numbers.{two_numbers}
use Rattle.words.proofs.Options.{some_then}
use Rattle.words.proofs.NumberWords.{two_numbers_are, two_numbers_short, word_and_numbers_joined, same_word}
use Rattle.tower_file.proofs.Readings.{bind_ok, ok_or_ok, when_ok, unless_ok, ok_is}
use Rattle.tower_file.proofs.Sound.{fitting_is, IsTowerLine, tower_line, header_is, two_lines_and_more}
use Rattle.tower_file.proofs.BenchLimbs.{limbs_text, put_step_text, put_limb_text, put_step_nonempty, put_limb_nonempty, put_step_lawful, put_limb_lawful}

-- ---- a line

-- these are the words after `branch` in the line of limb l's branch, and l has no steps yet
record IsBranch (ws : List (List ℕ)) (l : Limb) : Type 0 where
  pub spelled : join_with_byte 32 ws ≡ word_with_numbers l.name (l.from ∷ l.shared ∷ [])
  pub nonempty : 0 < length ws
  pub fit : (t : TowerSpec) → is_fitting t l ≡ true
  pub no_steps : l.steps ≡ []

-- words that are read as a limb are those of its branch
branch_is : (ws : List (List ℕ)) (l : Limb) → branch_of ws ≡ Some l → IsBranch ws l
branch_is [] l h = absurd cc
branch_is (w ∷ ws) l h =
    let a = some_then (names.name_of_bytes w) (λ x. option_and_then (λ n. Some (record { name = x; from = n.0; shared = n.1; steps = [] })) (two_numbers ws)) l h in
    let b = some_then (two_numbers ws) (λ n. Some (record { name = a.0; from = n.0; shared = n.1; steps = [] })) l a.2 in
    let name = cond_some (nat_le (length w) 16) w a.0 a.1 in
    let small = two_numbers_short ws b.0 b.1 in
    let from : nat_lt b.0.0 (10 ^ 9) ≡ true = lt-ltb b.0.0 (10 ^ 9) small.0 in
    let shared : nat_lt b.0.1 (10 ^ 9) ≡ true = lt-ltb b.0.1 (10 ^ 9) small.1 in
    subst (IsBranch (w ∷ ws)) (same_Some (record { name = a.0; from = b.0.0; shared = b.0.1; steps = [] }) l b.2)
    (record {
      spelled = word_and_numbers_joined w a.0 ws (b.0.0 ∷ b.0.1 ∷ []) name.1 (two_numbers_are ws b.0 b.1);
      nonempty = omega arith;
      fit = λ t. and_from (nat_lt b.0.0 (10 ^ 9) && nat_lt b.0.1 (10 ^ 9)) true (and_from (nat_lt b.0.0 (10 ^ 9)) (nat_lt b.0.1 (10 ^ 9)) from shared) refl;
      no_steps = refl;
    })

-- a line that begins with `branch` and then has the words of a limb's branch is the branch's line
branch_line : (ws : List (List ℕ)) (l : Limb) → next ws ≡ codes "branch" → IsBranch (after_next ws) l → join_with_byte 32 ws ≡ branch_text l
branch_line [] l first h = absurd cc
branch_line (w ∷ []) l first h = absurd (omega (arith, h.nonempty))
branch_line (w ∷ v ∷ vs) l first h = ap (λ x. x ++ 32 ∷ join_with_byte 32 (v ∷ vs)) first ∙ ap (λ x. codes "branch" ++ 32 ∷ x) h.spelled

-- a line adds a branch or a step to these limbs, which gives `more`
pub record AddsLine (t : TowerSpec) (limbs : List Limb) (line : List ℕ) (more : List Limb) : Type 0 where
  pub spelled : limbs_text more ≡ limbs_text limbs ++ text_with_end line
  pub nonempty : has_limbs more ≡ true
  pub lawful : are_lawful t limbs ≡ true → are_lawful t more ≡ true

-- a line that is read as a branch's adds the branch
branch_adds : (t : TowerSpec) (n : ℕ) (limbs : List Limb) (line : List ℕ) (more : List Limb) → is_branch line ≡ true
    → then_branch n limbs (after_next (words line)) ≡ Ok more → AddsLine t limbs line more
branch_adds t n limbs line more first h =
    let ws = words line in
    let a = bind_ok (ok_or (branch_of (after_next ws)) (fault BadBranch n)) (put_limb n limbs) more h in
    let l = a.0 in
    let is = branch_is (after_next ws) l (ok_or_ok (branch_of (after_next ws)) (fault BadBranch n) l a.1) in
    let b = unless_ok (not (is_new_name limbs l.name)) (cond (may_share limbs l) (Ok (limbs ++ l ∷ [])) (Err (fault Tangled n))) (fault BadBranch n) more a.2 in
    let c = when_ok (may_share limbs l) (Ok (limbs ++ l ∷ [])) (fault Tangled n) more b.1 in
    let spelled : line ≡ branch_text l = sym (join_with_byte-slice_split 32 line) ∙ branch_line ws l (same_word (next ws) (codes "branch") first) is in
    subst (AddsLine t limbs line) (ok_is (limbs ++ l ∷ []) more c.1)
    (record {
      spelled = put_limb_text limbs l is.no_steps ∙ ap (λ x. limbs_text limbs ++ text_with_end x) (sym spelled);
      nonempty = put_limb_nonempty limbs l;
      lawful = put_limb_lawful t limbs l (is_true (is_new_name limbs l.name) b.0) c.0 (is.fit t);
    })
  where
    is_true : (b : Bool) → not b ≡ false → b ≡ true
    is_true true e = refl
    is_true false e = absurd (true≢false e)

-- a line that is read as a step's adds the step
step_adds : (t : TowerSpec) (n : ℕ) (limbs : List Limb) (line : List ℕ) (more : List Limb) → then_step t n limbs line ≡ Ok more → AddsLine t limbs line more
step_adds t n limbs line more h =
    let a = when_ok (has_limbs limbs) (ok_or (fitting_step Two t line) (fault BadStep n) >>= λ s. Ok (put_step limbs s)) (fault BadBranch n) more h in
    let b = bind_ok (ok_or (fitting_step Two t line) (fault BadStep n)) (λ s. Ok (put_step limbs s)) more a.1 in
    let s = b.0 in
    let is = fitting_is Two t line s (ok_or_ok (fitting_step Two t line) (fault BadStep n) s b.1) in
    subst (AddsLine t limbs line) (ok_is (put_step limbs s) more b.2)
    (record {
      spelled = put_step_text limbs s a.0 ∙ ap (λ x. limbs_text limbs ++ text_with_end x) (sym is.0);
      nonempty = put_step_nonempty limbs s a.0;
      lawful = put_step_lawful t limbs s is.1;
    })

-- a line that is read adds one or the other
pub line_adds : (t : TowerSpec) (n : ℕ) (limbs : List Limb) (line : List ℕ) (more : List Limb) → then_line t n limbs line ≡ Ok more → AddsLine t limbs line more
line_adds t n limbs line more h = by (is_branch line) refl h
  where
    by : (b : Bool) → is_branch line ≡ b → cond b (then_branch n limbs (after_next (words line))) (then_step t n limbs line) ≡ Ok more → AddsLine t limbs line more
    by true first g = branch_adds t n limbs line more first g
    by false first g = step_adds t n limbs line more g

-- ---- all lines

-- these lines add branches and steps to these limbs, which gives `all`
pub record AreLimbs (t : TowerSpec) (limbs : List Limb) (said : List ℕ) (all : List Limb) : Type 0 where
  pub spelled : limbs_text limbs ++ said ≡ limbs_text all
  pub nonempty : has_limbs all ≡ true
  pub lawful : are_lawful t limbs ≡ true → are_lawful t all ≡ true

-- once all lines with line ends are read, the limbs are all
ended_is : (t : TowerSpec) (n : ℕ) (limbs : List Limb) (rest : List ℕ) (all : List Limb) → limbs_at_end n limbs rest ≡ Ok all → AreLimbs t limbs rest all
ended_is t n limbs rest all h =
    let a = when_ok ((length rest == 0) && has_limbs limbs) (Ok limbs) (fault (cut_line limbs rest) n) all h in
    let b = and_parts (length rest == 0) (has_limbs limbs) a.0 in
    subst (AreLimbs t limbs rest) (ok_is limbs all a.1)
    (record {
      spelled = ap (λ x. limbs_text limbs ++ x) (nil_from_length rest (eqb-true (length rest) 0 b.0)) ∙ append-nil (limbs_text limbs);
      nonempty = b.1;
      lawful = λ l. l;
    })

-- lines that are read are those of the branches and steps that they add
pub limbs_are : (t : TowerSpec) (n : ℕ) (limbs : List Limb) (ls : List (List ℕ)) (all : List Limb) → limbs_of t n limbs ls ≡ Ok all
    → AreLimbs t limbs (join_with_byte 10 ls) all
unfolding limbs_of
limbs_are t n limbs [] all h = ended_is t n limbs [] all h
limbs_are t n limbs (l ∷ []) all h = ended_is t n limbs l all h
limbs_are t n limbs (l ∷ k ∷ ls) all h =
    let a = bind_ok (then_line t n limbs l) (λ more. limbs_of t (n + 1) more (k ∷ ls)) all h in
    let first = line_adds t n limbs l a.0 a.1 in
    let others = limbs_are t (n + 1) a.0 (k ∷ ls) all a.2 in
    let rest : List ℕ = join_with_byte 10 (k ∷ ls) in
    let regroup : limbs_text limbs ++ (l ++ 10 ∷ rest) ≡ (limbs_text limbs ++ text_with_end l) ++ rest = simp append_assoc in
    record {
      spelled = regroup ∙ ap (λ x. x ++ rest) (sym first.spelled) ∙ others.spelled;
      nonempty = others.nonempty;
      lawful = λ g. others.lawful (first.lawful g);
    }

-- ---- files

-- lines that begin with the header and the tower's line are, joined, these two and what follows
whole_bench : (ls : List (List ℕ)) (t : TowerSpec) (following : List ℕ) → next ls ≡ bench_header → is_end (after_next ls) ≡ false
    → IsTowerLine (is_end (after_next (after_next ls))) (next (after_next ls)) t → join_with_byte 10 (after_next (after_next ls)) ≡ following
    → join_with_byte 10 ls ≡ text_with_end bench_header ++ text_with_end (tower_text t) ++ following
whole_bench [] t following e more tower same = absurd cc
whole_bench (l ∷ []) t following e more tower same = absurd cc
whole_bench (l ∷ k ∷ []) t following e more tower same = absurd (true≢false tower.whole)
whole_bench (l ∷ k ∷ r ∷ rs) t following e more tower same =
    ap (λ x. x ++ 10 ∷ (k ++ 10 ∷ join_with_byte 10 (r ∷ rs))) e
    ∙ ap (λ x. bench_header ++ 10 ∷ (x ++ 10 ∷ join_with_byte 10 (r ∷ rs))) tower.spelled
    ∙ ap (λ x. bench_header ++ 10 ∷ (tower_text t ++ 10 ∷ x)) same
    ∙ two_lines_and_more bench_header (tower_text t) following

-- the first two lines of a bench file: its header, and the line of a lawful tower
pub record HasFirstTwoLines (ls : List (List ℕ)) (t : TowerSpec) : Type 0 where
  pub lawful : is_lawful_tower t ≡ true
  pub spelled : (following : List ℕ) → join_with_byte 10 (after_next (after_next ls)) ≡ following → join_with_byte 10 ls ≡ text_with_end bench_header ++ text_with_end (tower_text t) ++ following

-- lines whose first two are read as the header and a tower begin with their lines
pub first_two_lines : (ls : List (List ℕ)) (t : TowerSpec) → has_header bench_header ls ≡ true → tower_of (after_next ls) ≡ Ok t → HasFirstTwoLines ls t
first_two_lines ls t header tower =
    let first = header_is bench_header ls header in
    let second = tower_line (after_next ls) t tower in
    record { lawful = second.lawful; spelled = λ following same. whole_bench ls t following first.0 first.1 second same }

-- lines that are read as a bench file spell it
pub bench_is : (ls : List (List ℕ)) (b : Bench) → bench_of_lines ls ≡ Ok b → SpellsBench (join_with_byte 10 ls) b
bench_is ls b h =
    let a = when_ok (has_header bench_header ls) (tower_of (after_next ls) >>= λ t. limbs_of t 3 [] (after_next (after_next ls)) >>= λ limbs. Ok (bench_of t limbs)) (fault BadHeader 1) b h in
    let c = bind_ok (tower_of (after_next ls)) (λ t. limbs_of t 3 [] (after_next (after_next ls)) >>= λ limbs. Ok (bench_of t limbs)) b a.1 in
    let t = c.0 in
    let d = bind_ok (limbs_of t 3 [] (after_next (after_next ls))) (λ limbs. Ok (bench_of t limbs)) b c.2 in
    let limbs = d.0 in
    let front = first_two_lines ls t a.0 c.1 in
    let following = limbs_are t 3 [] (after_next (after_next ls)) limbs d.1 in
    subst (SpellsBench (join_with_byte 10 ls)) (ok_is (bench_of t limbs) b d.2)
    (record {
      lawful = and_from (is_lawful_tower t && has_limbs limbs) (are_lawful t limbs) (and_from (is_lawful_tower t) (has_limbs limbs) front.lawful following.nonempty) (following.lawful refl);
      spelled = front.spelled (limbs_text limbs) following.spelled;
    })
