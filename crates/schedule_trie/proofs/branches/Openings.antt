-- A new trie, which has one branch and no cells.
use Rattle.std.proofs.Common.{◌≡◌, ℕ, zero, suc, Bool, List, [], ◌∷◌, ◌++◌, length, map, Option, None, refl, sym, ap, subst, ◌∙◌, true≢false, arith}
use Rattle.std.specs.Map.{keys_of}
use Rattle.indexmap.specs.IndexMap.{insert_entry}
use Rattle.lineage.specs.Family.{Family, IsForked}
use Rattle.branch_terms.specs.declared.limits.Limits.{Limits}
use Rattle.schedule_trie.specs.declared.trie.Trie.TheInside.{Inside}
use Rattle.branch_terms.specs.Forest.{lone_branch}
use Rattle.schedule_trie.specs.Trie.{TrieOf, keyed_branch, keys_in, has, Linked, IsWhole, IsCut, AreLimits, forest}
use Rattle.schedule_trie.specs.TrieFields.{segment_of, keyed_branches, names_of, trie_of, IsWholeWithPaths}
use Rattle.schedule_trie.proofs.lists.LastKeys.{empty_from_no_last}
use Rattle.schedule_trie.proofs.segments.StepSet.{cut_from_sound}

-- adding a name to none gives one
pub one_name : (eq : List ℕ → List ℕ → Bool) (es more : List (List ℕ × Option ℕ)) (name : List ℕ) (v : Option ℕ) → es ≡ [] → more ≡ insert_entry eq es name v
    → keys_of more ≡ name ∷ []
one_name eq es more name v empty entries = ap keys_of entries ∙ ap (λ l. keys_of (insert_entry eq l name v)) empty

-- forking an empty path when there is none gives one
pub one_path : {X : Type 0} (old new : Family X) → old.paths ≡ [] → IsForked old new None → new.paths ≡ [] ∷ []
one_path old new none forked = forked.paths ∙ ap (λ l. l ++ forked.path ∷ []) none ∙ ap (λ p. p ∷ []) (empty_from_no_last forked.path forked.last)

keys_in-lone : (name : List ℕ) (i : ℕ) → keys_in (keyed_branch name [] ∷ []) i ≡ []
keys_in-lone name zero = refl
keys_in-lone name (suc i) = refl

module _ {T : Type 0} (limits : Limits) (are : AreLimits limits) (name : List ℕ) where
  abbrev first : TrieOf T
  first = record { branches = keyed_branch name [] ∷ []; segments = []; made = 0; limits = limits }

  first_whole : IsWhole first
  first_whole = record {
    sound = record {
      held = λ i k h. absurd (true≢false (sym h ∙ ap (has k) (keys_in-lone name i)));
      segments = λ k. tt;
      apart = λ j k x a b. absurd (true≢false (sym a));
      live = λ k h. absurd (true≢false (sym h));
      shares = record { above = λ k. None; linked = λ i. subst (Linked (λ k. None) None) (sym (keys_in-lone name i)) tt };
    };
    within = record {
      cells = omega arith;
      branches_fit = omega (arith, are.some_branches);
      some = omega arith;
      most_cells = are.most_cells;
      most_branches = are.most_branches;
    };
  }

  pub first_held : (t : Inside T) → names_of t ≡ name ∷ [] → t.segments.paths ≡ [] ∷ [] → t.segments.items ≡ [] → t.made ≡ 0 → t.limits ≡ limits → IsWholeWithPaths t
  first_held t names paths items made same =
      let e : trie_of t ≡ first = λ i. record { branches = keyed_branches (names i) (paths i); segments = map segment_of (items i); made = made i; limits = same i } in
      let many : length t.segments.paths ≡ length (names_of t) = ap length paths ∙ sym (ap length names) in
      record { whole = subst IsWhole (sym e) first_whole; paths = many }

  pub first_forest : (t : Inside T) → names_of t ≡ name ∷ [] → t.segments.paths ≡ [] ∷ [] → t.segments.items ≡ [] → t.made ≡ 0 → forest (trie_of t) ≡ lone_branch name []
  first_forest t names paths items made = λ i. forest (record { branches = keyed_branches (names i) (paths i); segments = map segment_of (items i); made = made i; limits = t.limits })

  pub first_cut : (t : Inside T) → names_of t ≡ name ∷ [] → t.segments.paths ≡ [] ∷ [] → t.segments.items ≡ [] → t.made ≡ 0 → t.limits ≡ limits → IsCut (trie_of t)
  first_cut t names paths items made same = cut_from_sound (trie_of t) t.made (first_held t names paths items made same).whole.sound
