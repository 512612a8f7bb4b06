-- Limbs and their names.
use Rattle.std.proofs.Common.{◌≡◌, ℕ, zero, suc, ◌≤◌, Bool, true, false, cond, not, ◌||◌, nat_eq, List, [], ◌∷◌, ◌++◌, length, map, slice_index_or, slice_set, refl, sym, ap, ◌∙◌, arith}
use Rattle.std.specs.List.{list_any}
use Rattle.std.specs.Cmp.Lexicographic.{pointwise}
use Rattle.std.proofs.lemmas.Bool.{and_parts, not-true}
use Rattle.std.proofs.lemmas.List.{map-append}
use Rattle.frames.specs.declared.types.Step.{Step}
use Rattle.branch_terms.specs.declared.limb.Limb.{Limb}
use Rattle.branch_terms.specs.Names.{is_well_formed}
use Rattle.branch_terms.specs.Limbs.{is_name, has_name, is_new_name}
use Rattle.branch_terms.proofs.JudgedLimbs.{new_if_free}
use Rattle.tower_file.specs.BenchReading.{limb_name}

-- a name is among the names of limbs exactly if a limb has it
any_name : (name : List ℕ) (ls : List Limb) → list_any (pointwise nat_eq name) (map limb_name ls) ≡ list_any (has_name name) ls
any_name name [] = refl
any_name name (l ∷ ls) = ap (λ b. has_name name l || b) (any_name name ls)

-- a well-formed name is new exactly if a search among the names of all limbs doesn't find it
pub new_name_is : (ls : List Limb) (keys : List (List ℕ)) (name : List ℕ) (found : Bool) → keys ≡ map limb_name ls → length name ≤ 16 → is_well_formed name ≡ true
    → found ≡ list_any (pointwise nat_eq name) keys → not found ≡ is_new_name ls name
new_name_is ls keys name found named short formed looked =
    new_if_free ls name found short formed (looked ∙ ap (list_any (pointwise nat_eq name)) named ∙ any_name name ls)

-- after a limb with a new name is added, the set has the names of all limbs
pub names_after_push : (ls : List Limb) (keys more : List (List ℕ)) (l : Limb) (items : List Limb) → keys ≡ map limb_name ls → is_new_name ls l.name ≡ true
    → more ≡ cond (list_any (pointwise nat_eq l.name) keys) keys (keys ++ l.name ∷ []) → items ≡ ls ++ l ∷ [] → more ≡ map limb_name items
names_after_push ls keys more l items named new put grown =
    let none : list_any (pointwise nat_eq l.name) keys ≡ false =
    ap (list_any (pointwise nat_eq l.name)) named ∙ any_name l.name ls ∙ not-true (list_any (has_name l.name) ls) (and_parts (is_name l.name) (not (list_any (has_name l.name) ls)) new).1 in
    put ∙ ap (λ b. cond b keys (keys ++ l.name ∷ [])) none ∙ ap (λ ks. ks ++ l.name ∷ []) named
    ∙ sym (map-append limb_name ls (l ∷ [])) ∙ ap (map limb_name) (sym grown)

-- the names stay the same if limb l, at index n, gets other steps
pub same_names : (ls : List Limb) (n : ℕ) (l : Limb) (ss : List Step) → suc n ≡ length ls → l ≡ slice_index_or ls n l
    → map limb_name (slice_set ls n (record { name = l.name; from = l.from; shared = l.shared; steps = ss })) ≡ map limb_name ls
same_names [] n l ss e same = absurd (omega arith)
same_names (k ∷ ls) zero l ss e same = ap (λ z. limb_name z ∷ map limb_name ls) same
same_names (k ∷ ls) (suc n) l ss e same = ap (λ z. limb_name k ∷ z) (same_names ls n l ss (omega arith) same)
