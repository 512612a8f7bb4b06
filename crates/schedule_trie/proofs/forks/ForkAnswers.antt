-- The results of a fork.
use Rattle.std.proofs.Common.{◌≡◌, ℕ, suc, ◌+◌, ◌<◌, ◌≤◌, Bool, true, false, not, ◌||◌, cond, nat_lt, nat_le, nat_eq, List, [], ◌∷◌, ◌++◌, length, map, take, position, Option, Some, None, is_some, Result, Ok, Err, IsOk, refl, sym, ap, subst, ◌∙◌, arith, inr, true≢false, if◌then◌else◌}
use Rattle.std.specs.List.{list_any, position_or_len}
use Rattle.std.specs.Cmp.Lexicographic.{pointwise}
use Rattle.std.proofs.lemmas.Bool.Decides.{nat_tests}
use Rattle.std.proofs.lemmas.Bool.{lt-ltb, le-ltb, le-leb, lt-leb}
use Rattle.branch_terms.specs.declared.limits.Limits.{Limits}
use Rattle.branch_terms.specs.declared.refusal.Refusal.{Refusal}
use Rattle.branch_terms.specs.declared.refusal.Refusal.TheVariants.{NameTaken, BadName, NoPlace, TooManyBranches, Memory}
use Rattle.branch_terms.specs.Names.{is_well_formed}
use Rattle.branch_terms.specs.Forest.{Forest, branch, name_of, index_of, slots_in, on_found, fork, fork_at, IsRefused}

nat_lt-more : (a b : ℕ) → nat_lt (1 + a) (suc b) ≡ nat_lt a b
nat_lt-more a b = grind (arith, nat_tests)

-- a search finds an item exactly if some item passes the test
pub any_or_none : {X : Type 0} (test : X → Bool) (xs : List X) → nat_lt (position_or_len test xs) (length xs) ≡ list_any test xs
any_or_none test [] = refl
any_or_none test (x ∷ xs) = by (test x) (any_or_none test xs)
  where
    by : (b : Bool) → nat_lt (position_or_len test xs) (length xs) ≡ list_any test xs
        → nat_lt (cond (not b) (1 + position_or_len test xs) 0) (suc (length xs)) ≡ (b || list_any test xs)
    by true rest = lt-ltb 0 (suc (length xs)) (omega arith)
    by false rest = nat_lt-more (position_or_len test xs) (length xs) ∙ rest

pub none_from_is_some : {X : Type 0} (o : Option X) → is_some o ≡ false → o ≡ None
none_from_is_some None h = refl
none_from_is_some (Some x) h = absurd (true≢false h)

is_some-cond : {X : Type 0} (b : Bool) (x : X) → is_some (cond b (Some x) None) ≡ b
is_some-cond true x = refl
is_some-cond false x = refl

any_found : {X : Type 0} (test : X → Bool) (xs : List X) → list_any test xs ≡ is_some (position test xs)
any_found test xs =
    sym (any_or_none test xs) ∙ sym (is_some-cond (nat_lt (position_or_len test xs) (length xs)) (position_or_len test xs))

module _ (limits : Limits) (f : Forest) (name new : List ℕ) (place i : ℕ) (found : index_of f.branches name ≡ Some i) where
  abbrev forked : Forest
  forked = record { branches = f.branches ++ branch new (take place (slots_in f.branches i)) ∷ []; made = f.made }

  abbrev answer : Bool → Bool → Bool → Bool → Result Forest Refusal
  answer taken formed too_far full =
      if taken then Err NameTaken
      else (if not formed then Err BadName
      else (if too_far then Err NoPlace
      else (if full then Err TooManyBranches
      else Ok forked)))

  answered : fork limits f name place new
      ≡ answer (is_some (index_of f.branches new)) (is_well_formed new) (nat_lt (length (slots_in f.branches i)) place) (nat_le limits.branches (length f.branches))
  answered =
      ap (λ o. on_found o (fork_at limits f place new)) found
      ∙ ap (λ b. answer b (is_well_formed new) (nat_lt (length (slots_in f.branches i)) place) (nat_le limits.branches (length f.branches)))
      (any_found (pointwise nat_eq new) (map name_of f.branches))

  pub name_taken : is_some (index_of f.branches new) ≡ true → fork limits f name place new ≡ Err NameTaken
  name_taken e =
      answered
      ∙ ap (λ b. answer b (is_well_formed new) (nat_lt (length (slots_in f.branches i)) place) (nat_le limits.branches (length f.branches))) e

  module _ (free : is_some (index_of f.branches new) ≡ false) where
    pub bad_name : is_well_formed new ≡ false → fork limits f name place new ≡ Err BadName
    bad_name e =
        answered
        ∙ (λ j. answer (free j) (e j) (nat_lt (length (slots_in f.branches i)) place) (nat_le limits.branches (length f.branches)))

    module _ (formed : is_well_formed new ≡ true) where
      pub no_place : length (slots_in f.branches i) < place → fork limits f name place new ≡ Err NoPlace
      no_place h =
          answered
          ∙ (λ j. answer (free j) (formed j) (lt-ltb (length (slots_in f.branches i)) place h j) (nat_le limits.branches (length f.branches)))

      module _ (fits : place ≤ length (slots_in f.branches i)) where
        pub too_many : limits.branches ≤ length f.branches → fork limits f name place new ≡ Err TooManyBranches
        too_many h =
            answered
            ∙ (λ j. answer (free j) (formed j) (le-ltb (length (slots_in f.branches i)) place fits j) (le-leb limits.branches (length f.branches) h j))

        pub fork_ok : length f.branches < limits.branches → fork limits f name place new ≡ Ok forked
        fork_ok h =
            answered
            ∙ (λ j. answer (free j) (formed j) (le-ltb (length (slots_in f.branches i)) place fits j) (lt-leb limits.branches (length f.branches) h j))

        pub memory_alone : length f.branches < limits.branches → IsRefused (fork limits f name place new) Memory
        memory_alone h = inr (refl, subst IsOk (sym (fork_ok h)) refl)
