-- Definitions that claim that something exists: an example of each, and a near miss.
use Rattle.std.proofs.Common.{ℕ, ◌≡◌, Bool, true, false, true≢false, List, [], ◌∷◌, ◌++◌, replicate, slice_index_or, ap, refl, sym, ◌∙◌, inr, ⊎_elim, arith}
use Rattle.turn.specs.declared.view.View.{View}
use Rattle.turn.specs.Entries.{AtMostOne}
use Rattle.turn.specs.Histories.{StartsWith, joined, with_news, IsJoined, Holding}

-- an entry is the number of the chair that made it
abbrev by : ℕ → ℕ
by e = e

abbrev first : List ℕ → ℕ
first list = slice_index_or list 0 5

abbrev share_0 : List Bool
share_0 = true ∷ replicate 15 false

abbrev share_1 : List Bool
share_1 = false ∷ true ∷ replicate 14 false

-- the view of a chair that has these shares and these calls, and has seen this list
abbrev having : List Bool → List ℕ → List ℕ → View ℕ
having shares calls seen = record { shares = shares; calls = calls; seen = seen; reported = 0; holds = false; met = ([], []) }

-- chair 3 adds one entry of its own
AtMostOne-holds : AtMostOne by 3 (3 ∷ [])
AtMostOne-holds = inr (3, refl, refl)

-- chair 3 adds one entry, but under the number of chair 4
AtMostOne-fails : AtMostOne by 3 (4 ∷ []) → ⊥
AtMostOne-fails h =
    ⊎_elim
    (λ none. let e : 4 ≡ 5 = ap first none in omega (arith, e))
    (λ one. let e : 4 ≡ one.0 = ap first one.1 in omega (arith, e, one.2))
    h

-- 1, 2 begins with 1
StartsWith-holds : StartsWith {E = ℕ} (1 ∷ 2 ∷ []) (1 ∷ [])
StartsWith-holds = (2 ∷ [], refl)

-- 1, 2 doesn't begin with 2
StartsWith-fails : StartsWith {E = ℕ} (1 ∷ 2 ∷ []) (2 ∷ []) → ⊥
StartsWith-fails h = let e : 2 ≡ 1 = ap first h.1 in omega (arith, e)

-- two chairs that have seen 0 and 0, 1 are joined into one that has seen 0, 1 and has read the
-- length 3
IsJoined-holds : IsJoined (having share_0 (0 ∷ []) (0 ∷ [])) (having share_1 (1 ∷ []) (0 ∷ 1 ∷ []))
    (with_news (joined (having share_0 (0 ∷ []) (0 ∷ [])) (having share_1 (1 ∷ []) (0 ∷ 1 ∷ []))) 3)
IsJoined-holds = (3, refl, omega arith, omega arith, (1 ∷ [], refl), ([], refl))

-- two chairs that have seen 0 and 1, 1 can't be joined, since no list begins with both
IsJoined-fails : IsJoined (having share_0 (0 ∷ []) (0 ∷ [])) (having share_1 (1 ∷ 1 ∷ []) (1 ∷ 1 ∷ []))
    (with_news (joined (having share_0 (0 ∷ []) (0 ∷ [])) (having share_1 (1 ∷ 1 ∷ []) (1 ∷ 1 ∷ []))) 3) → ⊥
IsJoined-fails h = let e : 0 ≡ 1 = ap first h.4.1 in omega (arith, e)

-- one entry of chair 0 is added at the end of a list
abbrev GrowsByOne : List ℕ → List ℕ → Type 0
GrowsByOne before after = after ≡ before ++ 0 ∷ []

-- the chair of share 0 had seen 0, found 0, 2, and added an entry of its own
Holding-holds : Holding by GrowsByOne (having share_0 (0 ∷ []) (0 ∷ [])) (having share_0 (0 ∷ 0 ∷ []) (0 ∷ 2 ∷ 0 ∷ []))
Holding-holds = (0 ∷ 2 ∷ [], 0 ∷ [], (2 ∷ [], refl), omega arith, inr (0, refl, refl), refl, refl, λ all. absurd (true≢false (sym (all 1 (omega arith)))))

-- the chair of share 0 added an entry of share 1
Holding-fails : Holding by GrowsByOne (having share_0 [] []) (having share_0 (1 ∷ []) (1 ∷ [])) → ⊥
Holding-fails h =
    let added : 1 ∷ [] ≡ h.1 = ap (λ v. v.calls) h.5 in AtMostOne-share_1 h.1 added h.4
  where
    AtMostOne-share_1 : (added : List ℕ) → 1 ∷ [] ≡ added → AtMostOne by 0 added → ⊥
    AtMostOne-share_1 added is h =
        ⊎_elim
        (λ none. let e : 1 ≡ 5 = ap first (is ∙ none) in omega (arith, e))
        (λ one. let e : 1 ≡ one.0 = ap first (is ∙ one.1) in omega (arith, e, one.2))
        h

-- the work of chair 3 adds one entry of its own to the list
work-holds : (added : List ℕ) × (1 ∷ 3 ∷ [] ≡ (1 ∷ []) ++ added) × AtMostOne by 3 added
work-holds = (3 ∷ [], refl, inr (3, refl, refl))

-- the work of chair 3 also changes an entry that was there
work-fails : (added : List ℕ) × (2 ∷ 3 ∷ [] ≡ (1 ∷ []) ++ added) × AtMostOne by 3 added → ⊥
work-fails h = let e : 2 ≡ 1 = ap first h.1 in omega (arith, e)
