use Rattle.safe_bit.specs.laws.Parts.{IsPlaced-inside}
use Rattle.layers.specs.Driver.{behaviour}
use Rattle.layers.proofs.layered.Layered.lemma_placed.Goals as goal

pub returns : goal.returns
returns g c = IsPlaced-inside c.args.at (behaviour c.args.self.now).size c.args.store.now c.lemma_numbered.ensures c.requires.inside
