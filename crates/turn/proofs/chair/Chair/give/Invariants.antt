use Rattle.turn.proofs.chair.Chair.give.Given as goal

abbrev pub ghosts-split : goal.ghosts-split
ghosts-split g a = record { given = a.given.now.marks }
