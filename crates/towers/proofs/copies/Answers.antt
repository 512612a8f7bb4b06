use Rattle.towers.proofs.copies.Goals as goal

pub returns : goal.returns
returns c = rw c.unwrap.ensures at c.new.ensures.built
