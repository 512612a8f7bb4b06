-- Lines that are pushed one after another.
use Rattle.std.proofs.Common.{◌≡◌, ◌∙◌, ℕ, ◌+◌, ◌<◌, ◌≤◌, List, [], ◌∷◌, ◌++◌, length, get_or, drop, refl, sym, ap, append_assoc}
use Rattle.std.specs.List.{flat_map}
use Rattle.std.proofs.lemmas.List.{append-nil, drop_all, drop_more}
use Rattle.pages.specs.Lines.{numbered_lines}

-- If the text so far and the lines not yet pushed are the whole text, then this also holds after
-- one more line; after all lines, the text so far is the whole text.
pub lines_more : {X : Type 0} (line : ℕ → X → List ℕ) (xs : List X) (i : ℕ) (d : X) (now new whole : List ℕ)
    → i < length xs → now ++ numbered_lines line i (drop i xs) ≡ whole → new ≡ now ++ line i (get_or xs i d)
    → new ++ numbered_lines line (i + 1) (drop (i + 1) xs) ≡ whole
lines_more line xs i d now new whole here so_far h =
    let later = numbered_lines line (i + 1) (drop (i + 1) xs) in
    ap (λ l. l ++ later) h ∙ append_assoc now (line i (get_or xs i d)) later
    ∙ ap (λ l. now ++ numbered_lines line i l) (sym (drop_more xs i d here)) ∙ so_far

pub lines_all : {X : Type 0} (line : ℕ → X → List ℕ) (xs : List X) (i : ℕ) (now whole : List ℕ) → length xs ≤ i
    → now ++ numbered_lines line i (drop i xs) ≡ whole → now ≡ whole
lines_all line xs i now whole done so_far =
    sym (append-nil now) ∙ ap (λ l. now ++ numbered_lines line i l) (sym (drop_all i xs done)) ∙ so_far

-- lines that don't show their items' numbers
pub unnumbered : {X : Type 0} (line : X → List ℕ) (i : ℕ) (xs : List X) → numbered_lines (λ k x. line x) i xs ≡ flat_map line xs
unnumbered line i [] = refl
unnumbered line i (x ∷ xs) = ap (λ l. line x ++ l) (unnumbered line (i + 1) xs)

-- a text of a head and, below it, a line for each item
pub below_head : {X : Type 0} (line : X → List ℕ) (head : List X → List ℕ) (xs ys : List X) (old headed new : List ℕ) → xs ≡ ys → headed ≡ old ++ head xs
    → new ≡ headed ++ numbered_lines (λ k x. line x) 0 xs → new ≡ old ++ (head ys ++ flat_map line ys)
below_head line head xs ys old headed new same first rest =
    let lines = numbered_lines (λ k x. line x) 0 xs in
    rest ∙ ap (λ l. l ++ lines) first ∙ append_assoc old (head xs) lines ∙ ap (λ l. old ++ (head xs ++ l)) (unnumbered line 0 xs)
    ∙ ap (λ l. old ++ (head l ++ flat_map line l)) same
