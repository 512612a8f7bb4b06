-- Early cutoff. Suppose that stored runs fitted some segments, which an edit left unchanged. If
-- replay after the edit reaches, right above them, the configuration that it reached there before,
-- these runs still fit, and none of the segments' steps are replayed.
use Rattle.std.specs.Prelude.{ℕ, ◌≡◌, Bool, true, List, [], ◌∷◌, ◌++◌, length, take}
use Rattle.frames.specs.Behaviour.{Behaviour}
use Rattle.frames.specs.Configuration.{Configuration, replayed}
use Rattle.schedule_trie.specs.Trie.{TrieOf, has, segment_at}
use Rattle.cutoff.specs.Fitting.{StoredRun, RunPart, Fits, steps_at}
use Rattle.cutoff.specs.Settles.{Settles}

module _ {R P : Type 0} where
  -- the segments at these keys have the same cells and stored runs in `now` as in `was`
  abbrev pub AreKept : TrieOf (StoredRun R P) → TrieOf (StoredRun R P) → List ℕ → Type 0
  AreKept was now keys = (k : ℕ) → has k keys ≡ true → segment_at now.segments k ≡ segment_at was.segments k

  module _ (b : Behaviour P) (trie : TrieOf (StoredRun R P)) where
    -- the configuration that replay of these segments reaches, if the first of them begins at c
    abbrev pub replayed_through : Configuration R P → List ℕ → Configuration R P
    replayed_through c [] = c
    replayed_through c (k ∷ ks) = replayed_through (replayed b c (steps_at trie k)) ks

    -- stored runs fit all these segments, if the first of them begins at c
    abbrev pub AreFitted : (R → R → Bool) → Configuration R P → List ℕ → Type 0
    AreFitted E c [] = Unit {0}
    AreFitted E c (k ∷ ks) = Fits E trie c k × AreFitted E (replayed b c (steps_at trie k)) ks

-- Suppose that stored runs fitted the segments `below`, of which the first began at c; that these
-- segments still have the same cells and runs; and that replay of the segments `above` reaches c.
-- Then a settle along `above` and then `below` replays only steps of `above`.
abbrev pub StopsEarly : {R P : Type 0} → (R → R → Bool) → Behaviour P → Type 0
StopsEarly {R} {P} E b =
    (was old new : TrieOf (StoredRun R P)) (start c : Configuration R P) (place : ℕ) (above below : List ℕ) (parts : List (RunPart R P)) (n : ℕ)
    → AreKept was old below → AreFitted b was E c below → replayed_through b old start above ≡ c
    → Settles E b old new start place (above ++ below) parts n → Settles E b old new start place above (take (length above) parts) n
