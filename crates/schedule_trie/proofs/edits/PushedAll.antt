-- Adding steps at the end, one by one.
use Rattle.std.proofs.Common.{◌≡◌, ℕ, zero, suc, ◌+◌, ◌<◌, List, [], ◌∷◌, ◌++◌, length, take, get_or, refl, sym, ap, ◌∙◌, arith, append_assoc, append-nil}
use Rattle.std.proofs.lemmas.List.{length-append, take_more}
use Rattle.schedule_steps.specs.declared.types.Step.{Step}
use Rattle.branch_terms.specs.declared.slot.Slot.{Slot}
use Rattle.branch_terms.specs.Forest.{Branch, branch, slot, numbered, only_in, put_last, put_all}
use Rattle.schedule_trie.specs.Trie.{TrieOf, forest, IsPushed, ArePushed}
use Rattle.schedule_trie.proofs.segments.Notes.{blank_kept}

numbered-last : (n : ℕ) (xs : List Step) (s : Step) → numbered n (xs ++ s ∷ []) ≡ numbered n xs ++ slot (n + length xs) s ∷ []
numbered-last n [] s = ap (λ k. slot k s ∷ []) (omega arith)
numbered-last n (x ∷ xs) s = ap (λ l. slot n x ∷ l) (numbered-last (suc n) xs s ∙ ap (λ k. numbered (suc n) xs ++ slot k s ∷ []) (omega arith))

only_none : (bs : List Branch) (i : ℕ) → bs ≡ only_in i (put_all []) bs
only_none [] i = refl
only_none (b ∷ bs) zero = ap (λ l. branch b.name l ∷ bs) (sym (append-nil b.slots))
only_none (b ∷ bs) (suc i) = ap (λ l. b ∷ l) (only_none bs i)

only_twice : (f g h : List Slot → List Slot) → ((l : List Slot) → g (f l) ≡ h l) → (bs : List Branch) (i : ℕ) → only_in i g (only_in i f bs) ≡ only_in i h bs
only_twice f g h same [] i = refl
only_twice f g h same (b ∷ bs) zero = ap (λ l. branch b.name l ∷ bs) (same b.slots)
only_twice f g h same (b ∷ bs) (suc i) = ap (λ l. b ∷ l) (only_twice f g h same bs i)

module _ {T : Type 0} where
  pub pushed_none : (c : TrieOf T) (index : ℕ) → ArePushed c c index []
  pushed_none c index = record {
    branches = only_none (forest c).branches index;
    made = omega arith;
    count = refl;
    limits = refl;
    blank = λ b. b;
    cut = λ k. k;
  }

  pushed_one : (a b d : TrieOf T) (index : ℕ) (steps : List Step) (s : Step) → ArePushed a b index steps → IsPushed b d index s → ArePushed a d index (steps ++ s ∷ [])
  pushed_one a b d index steps s p q = record {
    branches = q.branches ∙ ap (only_in index (put_last (slot b.made s))) p.branches
        ∙ only_twice (put_all (numbered a.made steps)) (put_last (slot b.made s)) (put_all (numbered a.made (steps ++ s ∷ []))) both (forest a).branches index;
    made = let m = p.made in let n = q.made in let l = length-append steps (s ∷ []) in omega arith;
    count = q.count ∙ p.count;
    limits = q.limits ∙ p.limits;
    blank = λ blank. blank_kept b d q.notes.notes (p.blank blank);
    cut = λ k. q.cut;
  }
    where
      both : (l : List Slot) → put_last (slot b.made s) (put_all (numbered a.made steps) l) ≡ put_all (numbered a.made (steps ++ s ∷ [])) l
      both l =
          append_assoc l (numbered a.made steps) (slot b.made s ∷ [])
          ∙ ap (λ n. l ++ (numbered a.made steps ++ slot n s ∷ [])) p.made
          ∙ ap (λ x. l ++ x) (sym (numbered-last a.made steps s))

  pub pushed_more : (a b d : TrieOf T) (index : ℕ) (steps : List Step) (i : ℕ) (s : Step) → i < length steps → get_or steps i s ≡ s
      → ArePushed a b index (take i steps) → IsPushed b d index s → ArePushed a d index (take (i + 1) steps)
  pushed_more a b d index steps i s less at p q =
      let more : take (i + 1) steps ≡ take i steps ++ s ∷ [] = take_more steps i s less ∙ ap (λ z. take i steps ++ z ∷ []) at in
      rw more (pushed_one a b d index (take i steps) s p q)
