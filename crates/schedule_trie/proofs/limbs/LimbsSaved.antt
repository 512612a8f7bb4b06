-- Limbs one by one, and marks before the first.
use Rattle.std.proofs.Common.{◌≡◌, ℕ, zero, suc, ◌+◌, ◌<◌, ◌≤◌, Bool, true, false, nat_lt, List, [], ◌∷◌, ◌++◌, length, Option, Some, None, IsSome, refl, sym, ap, subst, arith}
use Rattle.std.specs.Option.{IfSome}
use Rattle.std.proofs.lemmas.Bool.Decides.{nat_tests}
use Rattle.lineage.specs.Family.{item_at}
use Rattle.schedule_trie.specs.declared.mark.Mark.{Mark}
use Rattle.schedule_trie.specs.declared.trie.Trie.TheInside.{Inside}
use Rattle.branch_terms.specs.Forest.{Forest, Branch}
use Rattle.schedule_trie.specs.Trie.{TrieOf, segment_at}
use Rattle.schedule_trie.specs.TrieFields.{trie_of}
use Rattle.branch_terms.specs.Limbs.{limbs_after, limbs}
use Rattle.schedule_trie.specs.Marks.{mark_at, IsMark, MarksFirst}
use Rattle.schedule_trie.proofs.segments.StepSet.{item_there}

length-limbs_after : (earlier bs : List Branch) → length (limbs_after earlier bs) ≡ length bs
length-limbs_after earlier [] = refl
length-limbs_after earlier (b ∷ bs) = ap suc (length-limbs_after (earlier ++ b ∷ []) bs)

pub length-limbs : (f : Forest) → length (limbs f) ≡ length f.branches
length-limbs f = length-limbs_after [] f.branches

-- a list without marks is still without marks after None is added
pub empty_more : (marks : List (Option Mark)) → ((k : ℕ) → mark_at marks k ≡ None) → (k : ℕ) → mark_at (marks ++ None ∷ []) k ≡ None
empty_more [] h zero = refl
empty_more [] h (suc k) = refl
empty_more (m ∷ marks) h zero = h 0
empty_more (m ∷ marks) h (suc k) = empty_more marks (λ j. h (suc j)) k

-- a list with no marks, and with a place for each key, has the right marks before the first branch
pub no_marks_first : {T : Type 0} (t : Inside T) (c : TrieOf T) (room : ℕ) (marks : List (Option Mark)) → trie_of t ≡ c
    → ((k : ℕ) → room ≤ k → item_at t.segments k ≡ None) → room ≤ length marks → ((k : ℕ) → mark_at marks k ≡ None) → MarksFirst c 0 marks
no_marks_first t c room marks view past long empty =
    subst (λ z. MarksFirst z 0 marks) view
    (record {
      places = λ k h. place k (item_there t k h) (nat_lt k room) refl;
      right = λ k. subst (λ o. IfSome o (IsMark (segment_at (trie_of t).segments) (trie_of t).branches 0 k)) (sym (empty k)) tt;
      none = λ j k e less. absurd (omega arith);
    })
  where
    place : (k : ℕ) → IsSome (item_at t.segments k) → (b : Bool) → nat_lt k room ≡ b → k < length marks
    place k there true e = let inside : k < room = grind (arith, nat_tests) in omega arith
    place k there false e =
        let beyond : room ≤ k = grind (arith, nat_tests) in
        absurd (none_some (item_at t.segments k) (past k beyond) there)
      where
        none_some : {X : Type 0} (o : Option X) → o ≡ None → IsSome o → ⊥
        none_some None e h = cc
        none_some (Some x) e h = cc
