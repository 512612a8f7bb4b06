use Rattle.std.proofs.Common.{◌≡◌, [], ◌∷◌}
use Rattle.safe_bit.specs.Windows.{splice}
use Rattle.layers.specs.Nested.{gathered}
use Rattle.layers.proofs.layered.Layered.init_words.Given as goal

-- the own words before this one are set, and nothing else has changed
abbrev pub invariant-loop-word : goal.invariant-loop-word
invariant-loop-word g l =
    l.store ≡ record l.initial.store { words = splice l.base (gathered (λ k. (g.L.Rules.table l.self.layer).first_word l.value k ∷ []) l.word) l.initial.store.words }
