use Rattle.towers.proofs.laws.stamped_is_atomic.Goals as goal

pub returns-clause-never_stray : goal.returns-clause-never_stray
returns-clause-never_stray c = c.never_stray.ensures.atomic c.atomic.ensures
