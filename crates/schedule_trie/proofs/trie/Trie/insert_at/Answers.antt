use Rattle.std.proofs.Common.{arith}
use Rattle.schedule_trie.proofs.edits.InsertSteps.{inserted_before, inserted_last}
use Rattle.schedule_trie.proofs.Results.{map_on_ok}
use Rattle.schedule_trie.proofs.trie.Trie.insert_at.Goals as goal

pub returns-in-Some-clause-ok : goal.returns-in-Some-clause-ok
returns-in-Some-clause-ok g c =
    map_on_ok c.put_before.result
    (inserted_before c.args.self.now c.put_before.new.self c.args.index c.args.place c.in-Some.key c.in-Some.offset c.args.step c.in-Some.ensures.found c.lemma_invariant.ensures.whole.sound)
    c.put_before.ensures.ok

pub returns-in-None-clause-ok : goal.returns-in-None-clause-ok
returns-in-None-clause-ok g c =
    map_on_ok c.push_last.result
    (inserted_last c.args.self.now c.push_last.new.self c.args.index c.args.place c.args.step (omega (arith, c.requires.place, c.in-None.ensures.none)))
    c.push_last.ensures.ok
