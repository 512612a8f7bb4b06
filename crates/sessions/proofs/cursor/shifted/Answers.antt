use Rattle.std.proofs.Common.{◌≡◌, ◌∙◌, ◌<◌, ◌+◌, ◌++◌, ◌∷◌, [], ℕ, List, length, get_or, sym, ap, map, take, arith}
use Rattle.std.proofs.lemmas.List.{length-set, map_more, take_all, take_more_set}
use Rattle.std.specs.Prelude.{slice_set}
use Rattle.std.specs.Option.{option_map}
use Rattle.schedule_trie.specs.Trie.{forest}
use Rattle.sessions.specs.Cursors as spec
use Rattle.sessions.proofs.cursor.shifted.Goals as goal

-- the first i items of ys are those of xs, mapped by f; with item i set to y, the first i + 1 are
maps_more : {X Y : Type 0} (f : X → Y) (xs : List X) (ys : List Y) (i : ℕ) (x : X) (y : Y) → take i ys ≡ map f (take i xs)
    → y ≡ f x → x ≡ get_or xs i x → i < length ys → i < length xs → take (i + 1) (slice_set ys i y) ≡ map f (take (i + 1) xs)
maps_more f xs ys i x y front one here short long =
    take_more_set ys i y short ∙ (λ k. front k ++ (one ∙ ap f here) k ∷ []) ∙ sym (map_more f xs i x long)

pub returns : goal.returns
returns g c =
    let one = option_map (spec.shifted c.args.shift (forest c.args.chart.now.trie) c.args.branch.now c.args.place) in
    sym (take_all c.loop-i.i c.loop-i.moved (omega arith)) ∙ c.loop-i.invariant.front ∙ ap (map one) (take_all c.loop-i.i c.args.cursors.now (omega arith))

pub loop-i-preserved : goal.loop-i-preserved
loop-i-preserved g c =
    let l = c.loop-i in
    record {
      long = length-set l.moved l.i c.shifted_one.result ∙ l.invariant.long;
      front = maps_more (option_map (spec.shifted c.args.shift (forest c.args.chart.now.trie) c.args.branch.now c.args.place))
          c.args.cursors.now l.moved l.i c.index-cursors-i.result c.shifted_one.result l.invariant.front c.shifted_one.ensures
          c.index-cursors-i.is (omega (arith, l.invariant.long, c.loop-i-test.true)) (omega (arith, c.requires.sessions, c.loop-i-test.true));
    }
