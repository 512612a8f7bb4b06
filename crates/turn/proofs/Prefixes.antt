-- Lists that begin others, and the entries under one share.
use Rattle.std.proofs.Common.{◌≡◌, ◌≢◌, ℕ, ◌+◌, ◌<◌, ◌≤◌, eqb, Bool, true, false, cond, List, [], ◌∷◌, ◌++◌, length, refl, sym, ap, ◌∙◌, arith, append_assoc, append-nil, length-append, eq-eqb, ne_eqb}
use Rattle.std.proofs.lemmas.List.{append_cancel_left}
use Rattle.std.proofs.lemmas.List.Elements.{filter-append, All-head}
use Rattle.std.specs.Prelude.{filter}
use mathlib.Core.Logic.{dite}
use native.Mathlib.Decide.{ℕ_discrete}
use Rattle.turn.specs.Entries.{AtMostOne}
use Rattle.turn.specs.Histories.{StartsWith, under}
use Rattle.turn.specs.Rule.{ByChairs}

module _ {E : Type 0} where
  -- of two prefixes of one list, the shorter is a prefix of the other
  pub shorter_is_prefix : (list front back : List E) → StartsWith list front → StartsWith list back → length front ≤ length back → StartsWith back front
  shorter_is_prefix list [] back f b le = (back, refl)
  shorter_is_prefix list (x ∷ xs) [] f b le = absurd (omega arith)
  shorter_is_prefix [] (x ∷ xs) (y ∷ ys) f b le = absurd (omega (arith, ap length f.1))
  shorter_is_prefix (z ∷ list) (x ∷ xs) (y ∷ ys) f b le =
      let g = shorter_is_prefix list xs ys (f.0, tail_same f.1) (b.0, tail_same b.1) (omega arith) in
      (g.0, λ k. head_same (f.1 ∙ sym b.1) k ∷ g.1 k)
    where
      tail_same : {p q : E} {ps qs : List E} → p ∷ ps ≡ q ∷ qs → ps ≡ qs
      tail_same e = cc

      head_same : {p q : E} {ps qs : List E} → p ∷ ps ≡ q ∷ qs → p ≡ q
      head_same e = cc

  -- a prefix of a list is also a prefix of the list with entries added at its end
  pub starts_more : (list front added : List E) → StartsWith list front → StartsWith (list ++ added) front
  starts_more list front added s = (s.0 ++ added, sym (append_assoc front s.0 added) ∙ ap (λ xs. xs ++ added) s.1)

module _ {E : Type 0} (by : E → ℕ) where
  pub under_append : (share : ℕ) (xs ys : List E) → under by share (xs ++ ys) ≡ under by share xs ++ under by share ys
  under_append share xs ys = filter-append (λ e. eqb (by e) share) xs ys

  -- if a prefix has all entries of every share, and the rest was made by chairs, the rest is empty
  pub nothing_new : (list front rest : List E) → front ++ rest ≡ list → ByChairs by rest → ((share : ℕ) → share < 16 → under by share front ≡ under by share list) → rest ≡ []
  nothing_new list front [] is chairs same = refl
  nothing_new list front (x ∷ xs) is chairs same =
      let mine = same (by x) (All-head (λ e. by e < 16) x xs chairs) in
      let here : under by (by x) (x ∷ xs) ≡ x ∷ under by (by x) xs = ap (λ b. cond b (x ∷ under by (by x) xs) (under by (by x) xs)) (eq-eqb (by x) (by x) refl) in
      let all : under by (by x) front ++ (x ∷ under by (by x) xs) ≡ under by (by x) front ++ [] =
      ap (λ l. under by (by x) front ++ l) (sym here) ∙ (sym (under_append (by x) front (x ∷ xs)) ∙ (ap (under by (by x)) is ∙ (sym mine ∙ sym (append-nil (under by (by x) front))))) in
      absurd (omega (arith, ap length (append_cancel_left (under by (by x) front) (x ∷ under by (by x) xs) [] all)))

  -- if a prefix of a list has all of a share's entries, so does every prefix that isn't shorter
  pub still_all : (share : ℕ) (list front back : List E) → StartsWith list front → StartsWith list back → length front ≤ length back → under by share front ≡ under by share list
      → under by share back ≡ under by share list
  still_all share list front back f b le same =
      let m = shorter_is_prefix list front back f b le in
      let u = under by share in
      let whole : front ++ (m.0 ++ b.0) ≡ list = sym (append_assoc front m.0 b.0) ∙ (ap (λ l. l ++ b.0) m.1 ∙ b.1) in
      let none_left : u (m.0 ++ b.0) ≡ [] = append_cancel_left (u front) (u (m.0 ++ b.0)) [] (sym (under_append share front (m.0 ++ b.0)) ∙ (ap u whole ∙ (sym same ∙ sym (append-nil (u front))))) in
      let short : length (u m.0) + length (u b.0) ≡ 0 = sym (length-append (u m.0) (u b.0)) ∙ (ap length (sym (under_append share m.0 b.0)) ∙ ap length none_left) in
      let nothing : u b.0 ≡ [] = empty (u b.0) (omega arith) in
      sym (append-nil (u back)) ∙ (ap (λ l. u back ++ l) (sym nothing) ∙ (sym (under_append share back b.0) ∙ ap u b.1))
    where
      empty : (xs : List E) → length xs ≡ 0 → xs ≡ []
      empty [] e = refl
      empty (x ∷ xs) e = absurd (omega arith)

  -- an entry by another chair isn't under the share, whether it is kept or not
  skip_other : (b : Bool) (share : ℕ) (x : E) (xs : List E) → by x ≢ share → under by share (cond b (x ∷ xs) xs) ≡ under by share xs
  skip_other true share x xs other = ap (λ t. cond t (x ∷ under by share xs) (under by share xs)) (ne_eqb (by x) share other)
  skip_other false share x xs other = refl

  -- if the entries under shares that pass the test p are kept, a share that passes keeps all of its
  -- entries
  pub under_kept : (p : ℕ → Bool) (share : ℕ) (xs : List E) → p share ≡ true → under by share (filter (λ e. p (by e)) xs) ≡ under by share xs
  under_kept p share [] held = refl
  under_kept p share (x ∷ xs) held = dite (ℕ_discrete (by x) share)
      (λ is. let F = filter (λ e. p (by e)) xs in
      ap (λ b. under by share (cond b (x ∷ F) F)) (ap p is ∙ held)
      ∙ (ap (λ t. cond t (x ∷ under by share F) (under by share F)) (eq-eqb (by x) share is)
      ∙ (ap (λ l. x ∷ l) (under_kept p share xs held) ∙ ap (λ t. cond t (x ∷ under by share xs) (under by share xs)) (sym (eq-eqb (by x) share is)))))
      (λ other. skip_other (p (by x)) share x (filter (λ e. p (by e)) xs) other
      ∙ (under_kept p share xs held ∙ ap (λ t. cond t (x ∷ under by share xs) (under by share xs)) (sym (ne_eqb (by x) share other))))

  -- if the entries under shares that pass the test p are kept, a share that fails has none left
  pub under_dropped : (p : ℕ → Bool) (share : ℕ) (xs : List E) → p share ≡ false → under by share (filter (λ e. p (by e)) xs) ≡ []
  under_dropped p share [] gone = refl
  under_dropped p share (x ∷ xs) gone = dite (ℕ_discrete (by x) share)
      (λ is. let F = filter (λ e. p (by e)) xs in ap (λ b. under by share (cond b (x ∷ F) F)) (ap p is ∙ gone) ∙ under_dropped p share xs gone)
      (λ other. skip_other (p (by x)) share x (filter (λ e. p (by e)) xs) other ∙ under_dropped p share xs gone)

  -- if at most one entry was added, under the number n, no share but n gets an entry
  pub added_elsewhere : (n share : ℕ) (added : List E) → AtMostOne by n added → n ≢ share → under by share added ≡ []
  added_elsewhere n share added one other = Rattle.std.proofs.Common.⊎_elim (λ (e : added ≡ []). ap (under by share) e)
      (λ (t : (x : E) × (added ≡ x ∷ []) × (by x ≡ n)). ap (under by share) t.1 ∙ skip_other true share t.0 [] (λ is. other (sym t.2 ∙ is))) one
