-- Limbs judged one after the other.
use Rattle.std.proofs.Common.{◌≡◌, ℕ, ◌+◌, ◌<◌, ◌≤◌, Bool, true, false, not, ◌&&◌, List, [], ◌∷◌, ◌++◌, length, take, drop, get_or, refl, sym, ap, ◌∙◌}
use Rattle.std.specs.List.{list_any}
use Rattle.std.proofs.lemmas.Bool.{le-leb}
use Rattle.std.proofs.lemmas.List.{take_more, drop_more, drop_all}
use Rattle.branch_terms.specs.declared.limb.Limb.{Limb}
use Rattle.branch_terms.specs.Names.{is_well_formed}
use Rattle.branch_terms.specs.Limbs.{is_name, has_name, is_new_name, may_share, are_lawful_after}

-- a well-formed name of at most 16 bytes is new exactly if no limb has it
pub new_if_free : (ls : List Limb) (name : List ℕ) (taken : Bool) → length name ≤ 16 → is_well_formed name ≡ true → taken ≡ list_any (has_name name) ls
    → not taken ≡ is_new_name ls name
new_if_free ls name taken short formed is =
    let form : is_name name ≡ true = ap (λ b. b && is_well_formed name) (le-leb (length name) 16 short) ∙ formed in
    ap not is ∙ sym (ap (λ b. b && not (list_any (has_name name) ls)) form)

-- Limb l is at index i of a list. If l may not follow the limbs before it, the list isn't lawful;
-- if l may, the limbs after it decide.
module _ (ls : List Limb) (i : ℕ) (l : Limb) (less : i < length ls) (at : get_or ls i l ≡ l) where
  lawful_from_limb : are_lawful_after (take i ls) (drop i ls) ≡ (is_new_name (take i ls) l.name && (may_share (take i ls) l && are_lawful_after (take (i + 1) ls) (drop (i + 1) ls)))
  lawful_from_limb =
      ap (are_lawful_after (take i ls)) (drop_more ls i l less ∙ ap (λ x. x ∷ drop (i + 1) ls) at)
      ∙ ap (λ earlier. is_new_name (take i ls) l.name && (may_share (take i ls) l && are_lawful_after earlier (drop (i + 1) ls)))
      (sym (take_more ls i l less ∙ ap (λ x. take i ls ++ x ∷ []) at))

  and_of_true : (new may later : Bool) → (new && may) ≡ true → (new && (may && later)) ≡ later
  and_of_true true true later h = refl
  and_of_true true false later h = cc
  and_of_true false may later h = cc

  and_of_false : (new may later : Bool) → (new && may) ≡ false → (new && (may && later)) ≡ false
  and_of_false true true later h = cc
  and_of_false true false later h = refl
  and_of_false false may later h = refl

  -- if l may follow, the limbs after it decide whether all limbs are lawful
  pub rest_decides : are_lawful_after (take i ls) (drop i ls) ≡ are_lawful_after [] ls → (is_new_name (take i ls) l.name && may_share (take i ls) l) ≡ true
      → are_lawful_after (take (i + 1) ls) (drop (i + 1) ls) ≡ are_lawful_after [] ls
  rest_decides whole follows = sym (and_of_true (is_new_name (take i ls) l.name) (may_share (take i ls) l) (are_lawful_after (take (i + 1) ls) (drop (i + 1) ls)) follows) ∙ sym lawful_from_limb ∙ whole

  -- if l may not follow, not all limbs are lawful
  pub unlawful_limb_decides : are_lawful_after (take i ls) (drop i ls) ≡ are_lawful_after [] ls → (is_new_name (take i ls) l.name && may_share (take i ls) l) ≡ false
      → false ≡ are_lawful_after [] ls
  unlawful_limb_decides whole follows = sym (and_of_false (is_new_name (take i ls) l.name) (may_share (take i ls) l) (are_lawful_after (take (i + 1) ls) (drop (i + 1) ls)) follows) ∙ sym lawful_from_limb ∙ whole

-- if the limbs from index i on decide whether all are lawful, and there are none, all are lawful
pub all_lawful : (ls : List Limb) (i : ℕ) → length ls ≤ i → are_lawful_after (take i ls) (drop i ls) ≡ are_lawful_after [] ls → true ≡ are_lawful_after [] ls
all_lawful ls i end whole = sym (ap (are_lawful_after (take i ls)) (drop_all i ls end)) ∙ whole
