use Rattle.std.proofs.Common.{◌≡◌, ◌<◌, ◌+◌, suc, length, sym, ap, subst, ◌∙◌, refl, arith, mul-one, [], ◌∷◌}
use Rattle.safe_bit.specs.Memory.{with_word}
use Rattle.safe_bit.specs.Windows.{splice}
use Rattle.safe_bit.specs.laws.Parts.{same_memory}
use Rattle.safe_bit.specs.laws.Windows.{length-splice, splice-nothing}
use Rattle.layers.specs.Nested.{gathered}
use Rattle.layers.specs.laws.Gathered.{length-gathered}
use Rattle.layers.specs.laws.Initial.{next_word}
use Rattle.layers.proofs.layered.Layered.init_words.Goals as goal

pub loop-word-preserved : goal.loop-word-preserved
loop-word-preserved g c =
    let t = g.L.Rules.table c.args.self.now.layer in
    let w = t.first_word c.args.value in
    let k = c.loop-word.word in
    let base = c.args.base in
    let words = c.args.store.now.words in
    let after : suc k ≡ k + 1 = omega arith in
    let lt : base + k < length words = omega arith in
    c.set_word.ensures
    ∙ ap (λ x. with_word (base + k) x c.loop-word.store) c.first_word.ensures
    ∙ ap (with_word (base + k) (w k)) c.loop-word.invariant
    ∙ same_memory _ _ refl (next_word w base k words lt ∙ ap (λ n. splice base (gathered (λ q. w q ∷ []) n) words) after)

pub loop-word-init : goal.loop-word-init
loop-word-init g c =
    same_memory _ _ refl (sym (splice-nothing c.args.base c.args.store.now.words))

pub set_word-requires : goal.set_word-requires
set_word-requires g c =
    let t = g.L.Rules.table c.args.self.now.layer in
    let words = c.args.store.now.words in
    let k = c.loop-word.word in
    let w = t.first_word c.args.value in
    let set = gathered (λ q. w q ∷ []) k in
    let few : k < t.words = subst (λ n. k < n) c.shape-word-end.ensures.words c.loop-word-test.true in
    let long : length set ≡ k = length-gathered (λ q. w q ∷ []) 1 k (λ q lt. refl) ∙ mul-one k in
    let same : length (splice c.args.base set words) ≡ length words =
    length-splice c.args.base set words (omega (arith, long, few, c.requires.inside)) in
    let there : length c.loop-word.store.words ≡ length words = ap (λ s. length s.words) c.loop-word.invariant ∙ same in
    omega (arith, there, few, c.requires.inside)
