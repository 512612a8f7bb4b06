use Rattle.std.proofs.Common.{refl, sym, subst, ◌∙◌, []}
use Rattle.schedule_trie.specs.TrieFields.{AreNames}
use Rattle.schedule_trie.proofs.branches.NamesKept.{names_more}
use Rattle.schedule_trie.proofs.branches.Openings.{one_name, one_path, first_held, first_forest, first_cut}
use Rattle.schedule_trie.proofs.lengths.Lengths.{first_lengths}
use Rattle.schedule_trie.proofs.trie.Trie.with_empty_branch.Goals as goal

pub invariant_of-result : goal.invariant_of-result
invariant_of-result g c =
    record {
      held = first_held c.args.limits c.requires.limits c.args.name (record { segments = c.fork.new.self; branches = c.insert.new.self; made = 0; limits = c.args.limits; last_cached = 0; scratch = c.new-scratch.result })
          (one_name _ c.new-branches.result.entries c.insert.new.self.entries c.args.name _ c.new-branches.ensures.empty c.in_ok-insert.ensures.entries)
          (one_path c.new-segments.result c.fork.new.self c.new-segments.ensures.paths c.in_ok-fork.ensures.ok)
          (c.in_ok-fork.ensures.ok.items ∙ c.new-segments.ensures.items) refl refl;
      lengths = first_lengths _ c.new-branches.result.entries c.insert.new.self.entries c.args.name _ c.new-branches.ensures.empty c.in_ok-insert.ensures.entries;
      names = subst AreNames (sym (one_name _ c.new-branches.result.entries c.insert.new.self.entries c.args.name _ c.new-branches.ensures.empty c.in_ok-insert.ensures.entries))
          (names_more [] c.args.name refl c.requires.name);
    }

pub returns-clause-cut : goal.returns-clause-cut
returns-clause-cut g c =
    first_cut c.args.limits c.requires.limits c.args.name (record { segments = c.fork.new.self; branches = c.insert.new.self; made = 0; limits = c.args.limits; last_cached = 0; scratch = c.new-scratch.result })
    (one_name _ c.new-branches.result.entries c.insert.new.self.entries c.args.name _ c.new-branches.ensures.empty c.in_ok-insert.ensures.entries)
    (one_path c.new-segments.result c.fork.new.self c.new-segments.ensures.paths c.in_ok-fork.ensures.ok)
    (c.in_ok-fork.ensures.ok.items ∙ c.new-segments.ensures.items) refl refl

pub returns-clause-forest : goal.returns-clause-forest
returns-clause-forest g c =
    first_forest c.args.limits c.requires.limits c.args.name (record { segments = c.fork.new.self; branches = c.insert.new.self; made = 0; limits = c.args.limits; last_cached = 0; scratch = c.new-scratch.result })
    (one_name _ c.new-branches.result.entries c.insert.new.self.entries c.args.name _ c.new-branches.ensures.empty c.in_ok-insert.ensures.entries)
    (one_path c.new-segments.result c.fork.new.self c.new-segments.ensures.paths c.in_ok-fork.ensures.ok)
    (c.in_ok-fork.ensures.ok.items ∙ c.new-segments.ensures.items) refl
