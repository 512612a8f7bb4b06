-- Limbs to which a step or a branch is added: the text that is added, and that the limbs stay
-- lawful.
use Rattle.std.proofs.Common.{◌≡◌, ℕ, zero, suc, ◌^◌, Bool, true, ◌&&◌, nat_lt, List, [], ◌∷◌, ◌++◌, length, slice_index_or, slice_set, refl, sym, ap, subst, ◌∙◌, true≢false, arith, append_assoc, append-nil}
use Rattle.std.specs.List.{list_all, flat_map}
use Rattle.std.proofs.lemmas.Bool.{and_parts, and_from}
use Rattle.std.proofs.lemmas.List.Concat.{flat_map-append}
use Rattle.std.proofs.lemmas.List.Folds.{list_all-append}
use Rattle.frames.specs.declared.types.Step.{Step}
use Rattle.branch_terms.specs.declared.limb.Limb.{Limb}
use Rattle.branch_terms.specs.Limbs.{is_new_name, may_share, are_lawful_after}
use Rattle.tower_file.specs.declared.tower.TowerSpec.{TowerSpec}
use Rattle.tower_file.specs.Towers.{fits}
use Rattle.tower_file.specs.Benches.{has_limbs, is_fitting, are_lawful}
use Rattle.tower_file.specs.Spelling.{text_with_end}
use Rattle.tower_file.specs.BenchSpelling.{branch_text, limb_text}
use Rattle.tower_file.specs.BenchReading.{limb_with_step, put_step}
use Rattle.words.specs.Steps.{step_text}

-- the line of a step, with its line end
abbrev pub step_line : Step → List ℕ
step_line s = text_with_end (step_text s)

-- the lines of limbs
abbrev pub limbs_text : List Limb → List ℕ
limbs_text limbs = flat_map limb_text limbs

-- `put_step` adds the step to l, if l is the limb with the last index
pub put_step_by_index : (ls : List Limb) (n : ℕ) (l : Limb) (s : Step) → suc n ≡ length ls → l ≡ slice_index_or ls n l → slice_set ls n (limb_with_step l s) ≡ put_step ls s
put_step_by_index [] n l s e same = absurd (omega arith)
put_step_by_index (k ∷ []) zero l s e same = ap (λ z. limb_with_step z s ∷ []) same
put_step_by_index (k ∷ []) (suc n) l s e same = absurd (omega arith)
put_step_by_index (k ∷ m ∷ ls) zero l s e same = absurd (omega arith)
put_step_by_index (k ∷ m ∷ ls) (suc n) l s e same = ap (λ z. k ∷ z) (put_step_by_index (m ∷ ls) n l s (omega arith) same)

-- after `ls ++ l ∷ []`, `put_step` adds the step to l
pub put_step-last : (ls : List Limb) (l : Limb) (s : Step) → put_step (ls ++ l ∷ []) s ≡ ls ++ limb_with_step l s ∷ []
put_step-last [] l s = refl
put_step-last (k ∷ []) l s = refl
put_step-last (k ∷ m ∷ ls) l s = ap (λ z. k ∷ z) (put_step-last (m ∷ ls) l s)

-- ---- there is a limb

pub put_step_nonempty : (ls : List Limb) (s : Step) → has_limbs ls ≡ true → has_limbs (put_step ls s) ≡ true
put_step_nonempty [] s h = h
put_step_nonempty (l ∷ []) s h = refl
put_step_nonempty (l ∷ k ∷ ls) s h = refl

pub put_limb_nonempty : (ls : List Limb) (l : Limb) → has_limbs (ls ++ l ∷ []) ≡ true
put_limb_nonempty [] l = refl
put_limb_nonempty (k ∷ ls) l = refl

-- ---- their text

-- a limb with one more step has one more line
with_step_text : (l : Limb) (s : Step) → limb_text (limb_with_step l s) ≡ limb_text l ++ step_line s
with_step_text l s =
    ap (λ x. text_with_end (branch_text l) ++ x) (flat_map-append step_line l.steps (s ∷ []) ∙ ap (λ x. flat_map step_line l.steps ++ x) (append-nil (step_line s)))
    ∙ sym (append_assoc (text_with_end (branch_text l)) (flat_map step_line l.steps) (step_line s))

pub put_step_text : (ls : List Limb) (s : Step) → has_limbs ls ≡ true → limbs_text (put_step ls s) ≡ limbs_text ls ++ step_line s
put_step_text [] s h = absurd (true≢false (sym h))
put_step_text (l ∷ []) s h = append-nil (limb_text (limb_with_step l s)) ∙ with_step_text l s ∙ ap (λ x. x ++ step_line s) (sym (append-nil (limb_text l)))
put_step_text (l ∷ k ∷ ls) s h = ap (λ x. limb_text l ++ x) (put_step_text (k ∷ ls) s refl) ∙ sym (append_assoc (limb_text l) (limbs_text (k ∷ ls)) (step_line s))

pub put_limb_text : (ls : List Limb) (l : Limb) → l.steps ≡ [] → limbs_text (ls ++ l ∷ []) ≡ limbs_text ls ++ text_with_end (branch_text l)
put_limb_text ls l none =
    flat_map-append limb_text ls (l ∷ [])
    ∙ ap (λ x. limbs_text ls ++ x) (append-nil (limb_text l) ∙ ap (λ ss. text_with_end (branch_text l) ++ flat_map step_line ss) none ∙ append-nil (text_with_end (branch_text l)))

-- ---- limbs stay lawful

-- a step changes no name, and nothing that is shared
put_step_lawful_after : (e ls : List Limb) (s : Step) → are_lawful_after e (put_step ls s) ≡ are_lawful_after e ls
put_step_lawful_after e [] s = refl
put_step_lawful_after e (l ∷ []) s = refl
put_step_lawful_after e (l ∷ k ∷ ls) s = ap (λ b. is_new_name e l.name && (may_share e l && b)) (put_step_lawful_after (e ++ l ∷ []) (k ∷ ls) s)

-- a limb with a new name that may share what it does
put_limb_lawful_after : (e ls : List Limb) (l : Limb) → are_lawful_after e ls ≡ true → is_new_name (e ++ ls) l.name ≡ true → may_share (e ++ ls) l ≡ true
    → are_lawful_after e (ls ++ l ∷ []) ≡ true
put_limb_lawful_after e [] l h new may =
    and_from (is_new_name e l.name) (may_share e l && true) (subst (λ x. is_new_name x l.name ≡ true) (append-nil e) new)
    (and_from (may_share e l) true (subst (λ x. may_share x l ≡ true) (append-nil e) may) refl)
put_limb_lawful_after e (k ∷ ls) l h new may =
    let a = and_parts (is_new_name e k.name) (may_share e k && are_lawful_after (e ++ k ∷ []) ls) h in
    let b = and_parts (may_share e k) (are_lawful_after (e ++ k ∷ []) ls) a.1 in
    let same = sym (append_assoc e (k ∷ []) ls) in
    and_from (is_new_name e k.name) (may_share e k && are_lawful_after (e ++ k ∷ []) (ls ++ l ∷ [])) a.0
    (and_from (may_share e k) (are_lawful_after (e ++ k ∷ []) (ls ++ l ∷ [])) b.0
    (put_limb_lawful_after (e ++ k ∷ []) ls l b.1 (subst (λ x. is_new_name x l.name ≡ true) same new) (subst (λ x. may_share x l ≡ true) same may)))

-- whether the limb's `from` and `shared` have at most 9 digits
abbrev has_short_numbers : Limb → Bool
has_short_numbers l = nat_lt l.from (10 ^ 9) && nat_lt l.shared (10 ^ 9)

-- limbs that fit still do with one more fitting step
put_step_fit : (t : TowerSpec) (ls : List Limb) (s : Step) → list_all (is_fitting t) ls ≡ true → fits t s ≡ true → list_all (is_fitting t) (put_step ls s) ≡ true
put_step_fit t [] s h fit = refl
put_step_fit t (l ∷ []) s h fit =
    let a = and_parts (is_fitting t l) true h in
    let b = and_parts (has_short_numbers l) (list_all (fits t) l.steps) a.0 in
    let steps = list_all-append (fits t) l.steps (s ∷ []) ∙ and_from (list_all (fits t) l.steps) (fits t s && true) b.1 (and_from (fits t s) true fit refl) in
    and_from (is_fitting t (limb_with_step l s)) true (and_from (has_short_numbers l) (list_all (fits t) (l.steps ++ s ∷ [])) b.0 steps) refl
put_step_fit t (l ∷ k ∷ ls) s h fit =
    let a = and_parts (is_fitting t l) (list_all (is_fitting t) (k ∷ ls)) h in
    and_from (is_fitting t l) (list_all (is_fitting t) (put_step (k ∷ ls) s)) a.0 (put_step_fit t (k ∷ ls) s a.1 fit)

pub put_step_lawful : (t : TowerSpec) (ls : List Limb) (s : Step) → fits t s ≡ true → are_lawful t ls ≡ true → are_lawful t (put_step ls s) ≡ true
put_step_lawful t ls s fit h =
    let a = and_parts (are_lawful_after [] ls) (list_all (is_fitting t) ls) h in
    and_from (are_lawful_after [] (put_step ls s)) (list_all (is_fitting t) (put_step ls s)) (put_step_lawful_after [] ls s ∙ a.0) (put_step_fit t ls s a.1 fit)

pub put_limb_lawful : (t : TowerSpec) (ls : List Limb) (l : Limb) → is_new_name ls l.name ≡ true → may_share ls l ≡ true → is_fitting t l ≡ true → are_lawful t ls ≡ true
    → are_lawful t (ls ++ l ∷ []) ≡ true
put_limb_lawful t ls l new may fit h =
    let a = and_parts (are_lawful_after [] ls) (list_all (is_fitting t) ls) h in
    and_from (are_lawful_after [] (ls ++ l ∷ [])) (list_all (is_fitting t) (ls ++ l ∷ [])) (put_limb_lawful_after [] ls l a.0 new may)
    (list_all-append (is_fitting t) ls (l ∷ []) ∙ and_from (list_all (is_fitting t) ls) (is_fitting t l && true) a.1 (and_from (is_fitting t l) true fit refl))
