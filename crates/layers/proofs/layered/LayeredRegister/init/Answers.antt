use Rattle.std.proofs.Common.{◌+◌, ap, ◌∙◌, [], ◌∷◌}
use Rattle.safe_bit.specs.Memory.{Memory}
use Rattle.safe_bit.specs.Windows.{splice}
use Rattle.layers.specs.Nested.{gathered, own_words_start}
use Rattle.layers.specs.laws.Initial.{words_after_parts}
use Rattle.layers.specs.laws.Over.{over}
use Rattle.layers.proofs.layered.LayeredRegister.init.Goals as goal

pub returns : goal.returns
returns g c =
    let l = over (g.met.S.Register.lawful c.args.self.now.below) (g.met.L.Construction.sound c.args.self.now.layer) c.args.self.now.fit in
    let t = g.L.Rules.table c.args.self.now.layer in
    let b = g.S.Behaves.behaviour c.args.self.now.below in
    let W = gathered (λ k. t.first_word c.args.value k ∷ []) t.words in
    c.init_words.ensures
    ∙ ap (λ base. record c.init_parts.new.store { words = splice base W c.init_parts.new.store.words }) c.words_at-base.ensures
    ∙ ap (λ (s : Memory). record s { words = splice (c.args.at.word + own_words_start t b.size) W s.words }) c.init_parts.ensures
    ∙ words_after_parts l c.args.value c.requires.value c.args.at c.args.store.now c.requires.inside
