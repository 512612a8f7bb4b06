use Rattle.std.proofs.Common.{◌≡◌, ◌++◌, ◌∷◌, List, [], ℕ, true, Some, reverse, inl, refl, sym, ap, subst, ◌∙◌, append_assoc}
use Rattle.std.proofs.lemmas.List.{reverse-append}
use Rattle.std.proofs.lemmas.Result.{IfOk-weaker}
use Rattle.schedule_trie.specs.Trie.{has, keys_in}
use Rattle.schedule_trie.specs.Climbs.{keys_to, keys_up_to}
use Rattle.schedule_trie.proofs.climbs.Climbs.{step_up}
use Rattle.cutoff.specs.Prefixes.{AreKeysAfter}
use Rattle.cutoff.proofs.Keys.{path_once}
use Rattle.cutoff.proofs.prefix.pass.Goals as goal

-- moving `bottom` from the end of the keys above to the start of those below keeps the order
order_kept : (up below keys new : List ℕ) (bottom : ℕ) → keys ≡ up ++ bottom ∷ [] → new ≡ below ++ bottom ∷ [] → keys ++ reverse below ≡ up ++ reverse new
order_kept up below keys new bottom is pushed =
    ap (λ l. l ++ reverse below) is ∙ append_assoc up (bottom ∷ []) (reverse below) ∙ ap (λ l. up ++ l) (sym (ap reverse pushed ∙ reverse-append below (bottom ∷ [])))

pub returns-then-top-bottom-clause-following : goal.returns-then-top-bottom-clause-following
returns-then-top-bottom-clause-following g c = (
  inl refl,
  λ i h.
      let keys = keys_in c.args.trie.now.branches i in
      let same : c.args.top.now.key ≡ c.args.bottom = c.if-top-bottom.true in
      let there = subst (λ k. has k keys ≡ true) (sym same) h in
      let step = step_up keys c.args.top.now.key c.args.top.now.above (path_once c.args.trie.now c.requires.cut i) there (λ front back e. c.requires.top.each i front back e) in (
        step.reached,
        order_kept (keys_to keys c.args.top.now.above) c.args.keys.now.items (keys_up_to c.args.bottom keys) c.push.new.self.items c.args.bottom
            (subst (λ k. keys_up_to k keys ≡ keys_to keys c.args.top.now.above ++ k ∷ []) same step.is) c.in_ok-push.ensures.items,
      ),
)

pub climb_keys-requires-clause-there : goal.climb_keys-requires-clause-there
climb_keys-requires-clause-there g c =
    let i = c.requires.there.0 in
    let step = step_up (keys_in c.args.trie.now.branches i) c.args.bottom c.above.result (path_once c.args.trie.now c.requires.cut i) c.requires.there.1 (λ front back e. c.above.ensures.each i front back e) in
    (i, step.reached)

pub returns-clause-following : goal.returns-clause-following
returns-clause-following g c =
    let trie = c.args.trie.now in
    let pushed = c.push.new.self.items in
    let new = reverse c.climb_keys.new.keys.items in
    IfOk-weaker c.climb_keys.result (λ up. AreKeysAfter trie c.above.result (reverse pushed) c.args.top.now.above up new) (λ up. AreKeysAfter trie (Some c.args.bottom) (reverse c.args.keys.now.items) up up new) (λ up following. (
      inl refl,
      λ i h.
          let keys = keys_in trie.branches i in
          let step = step_up keys c.args.bottom c.above.result (path_once trie c.requires.cut i) h (λ front back e. c.above.ensures.each i front back e) in
          let passed = following.1 i step.reached in
          (passed.0, order_kept (keys_to keys c.above.result) c.args.keys.now.items (keys_up_to c.args.bottom keys) pushed c.args.bottom step.is c.in_ok-push.ensures.items ∙ passed.1),
    )) c.climb_keys.ensures.following
