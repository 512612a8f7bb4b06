use Rattle.schedule_trie.specs.Trie.{forest}
use Rattle.schedule_trie.specs.TrieFields.{trie_of, AreLengths, AreNames}
use Rattle.std.specs.Map.{keys_of}
use Rattle.schedule_trie.proofs.branches.NamesKept.{names_left}
use Rattle.std.proofs.Common.{◌<◌, length, refl, sym, subst}
use Rattle.schedule_trie.proofs.branches.Lines.{path_within}
use Rattle.schedule_trie.proofs.detaches.Drops.{drop_held, is_dropped}
use Rattle.schedule_trie.proofs.lengths.LengthSteps.{dropped_lengths}
use Rattle.schedule_trie.proofs.trie.Trie.drop_at.Goals as goal

pub drop_path-requires : goal.drop_path-requires
drop_path-requires g c =
    path_within c.self.inside c.self.invariant.held c.args.index (subst (λ z. c.args.index < length z.branches) (sym c.self.view_is) c.requires.index)

pub invariant_of-self : goal.invariant_of-self
invariant_of-self g c =
    let t = c.self.inside in
    let u = record t { segments = c.drop_path.new.self; branches = c.shift_remove_index.new.self } in
    let index_in = subst (λ z. c.args.index < length z.branches) (sym c.self.view_is) c.requires.index in
    let several = subst (λ z. 1 < length z.branches) (sym c.self.view_is) c.requires.several in
    record {
      held = drop_held t u c.args.index c.self.invariant.held index_in several
          c.shift_remove_index.ensures.entries c.drop_path.ensures.paths c.drop_path.ensures.items refl refl;
      lengths = subst (λ es. AreLengths es (forest (trie_of u)).branches) (sym c.shift_remove_index.ensures.entries)
          (dropped_lengths (trie_of t) (trie_of u) t.branches.entries c.self.invariant.lengths c.args.index
          (is_dropped t u c.args.index c.self.invariant.held index_in several
          c.shift_remove_index.ensures.entries c.drop_path.ensures.paths c.drop_path.ensures.items refl refl));
      names = subst (λ es. AreNames (keys_of es)) (sym c.shift_remove_index.ensures.entries) (names_left t.branches.entries c.args.index c.self.invariant.names);
    }

pub returns : goal.returns
returns g c =
    let t = c.self.inside in
    let u = record t { segments = c.drop_path.new.self; branches = c.shift_remove_index.new.self } in
    let index_in = subst (λ z. c.args.index < length z.branches) (sym c.self.view_is) c.requires.index in
    let several = subst (λ z. 1 < length z.branches) (sym c.self.view_is) c.requires.several in
    rw (← c.self.view_is)
    (is_dropped t u c.args.index c.self.invariant.held index_in several
    c.shift_remove_index.ensures.entries c.drop_path.ensures.paths c.drop_path.ensures.items refl refl)
