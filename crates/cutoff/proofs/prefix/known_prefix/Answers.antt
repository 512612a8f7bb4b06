use Rattle.std.proofs.Common.{◌≡◌, ◌++◌, ℕ, Bool, true, Option, Some, None, length, reverse, inl, refl, sym, ap, subst, ◌∙◌, arith, append-nil}
use Rattle.std.specs.Prelude.{MatchOption}
use Rattle.std.specs.Cmp.{IsPartialEquivalence}
use Rattle.std.specs.Option.{option_copied}
use Rattle.std.proofs.lemmas.List.{length-append, length-reverse}
use Rattle.checkpoints.specs.Runs.{IsTrueRun}
use Rattle.frames.specs.Behaviour.{Behaviour}
use Rattle.frames.specs.Configuration.{Configuration}
use Rattle.frames.specs.Equality.{SameConfiguration}
use Rattle.schedule_trie.specs.Trie.{TrieOf, has, keys_in}
use Rattle.schedule_trie.specs.Climbs.{keys_to, keys_up_to, HasClimbedTo}
use Rattle.schedule_trie.proofs.climbs.Climbs.{step_up}
use Rattle.cutoff.specs.declared.known.Known.{Known}
use Rattle.cutoff.specs.Fitting.{StoredRun}
use Rattle.cutoff.specs.Known.{IsKnownDownTo, AreKnown}
use Rattle.cutoff.specs.Prefixes.{RunsDown, RunsToOnAll, IsTop}
use Rattle.cutoff.proofs.Climbs.{keys_to_few, keys_up_to_some}
use Rattle.cutoff.proofs.Fits.{stored-from_stored_in}
use Rattle.cutoff.proofs.HungRuns.{hung_here}
use Rattle.cutoff.proofs.LeftToSettle.{known_bottom}
use Rattle.cutoff.proofs.Prefixes.{runs_to_next, none_known}
use Rattle.cutoff.proofs.Keys.{path_once}
use Rattle.cutoff.proofs.prefix.known_prefix.Given.{Over}
use Rattle.cutoff.proofs.prefix.known_prefix.Goals as goal
use Rattle.cutoff.proofs.prefix.known_prefix.Goals.{then-is_known_down_to-via-then-is_known_down_to, then-is_known_down_to-via-else-is_known_down_to+then-begins_at}

pub loop-init : goal.loop-init
loop-init g c = record {
  there = λ i h. h;
  hung = λ i h. hung_here g.R.PartialEq.eq g.R.Behaves.behaviour c.args.trie.now c.args.first.key i h;
  path = λ i h.
      let keys = keys_up_to c.args.first.key (keys_in c.args.trie.now.branches i) in
      subst (λ l. keys ≡ keys ++ reverse l) (sym c.new-keys.ensures.items) (sym (append-nil keys));
  short = omega arith;
  top = c.requires.top;
}

-- runs fit down to a segment that is the first of its branches if its run begins at the start
first_down : {R P : Type 0} (E : R → R → Bool) (per : IsPartialEquivalence E) (is : R → Behaviour P) (alike : (x y : R) → E x y ≡ true → is x ≡ is y) (trie : TrieOf (StoredRun R P)) (start : Configuration R P) (known : Known)
    → AreKnown E is trie start known → (top : ℕ) (o : Option (StoredRun R P)) (above : Option ℕ) → IsTop trie top o above → above ≡ None
    → MatchOption o ⊥ (λ s. SameConfiguration E s.run.entry start × IsTrueRun (is s.run.entry.register) s.run) → RunsToOnAll E is trie start (Some top)
first_down E per is alike trie start known all_known top None above t none m = absurd m
first_down E per is alike trie start known all_known top (Some s) above t none m = λ i h.
    let keys = keys_in trie.branches i in
    let linked = all_known.linked.1 in
    let step = step_up keys top above (path_once trie all_known.cut i) h (λ front back e. t.each i front back e) in
    runs_to_next E per is alike trie top s (sym t.noted) m.1 (stored-from_stored_in E start.register linked.exits trie top s (linked.each top) (sym t.noted)).covers start keys above step
    (subst (λ o. RunsDown E is trie (is start.register) start (keys_to keys o) s.run.entry) (sym none) m.0)

-- runs fit down to the segment at which the last climb ended
down_to_top : (g : Over) (c : goal.Joined-then-is_known_down_to g) → RunsToOnAll g.R.PartialEq.eq g.R.Behaves.behaviour c.args.trie.now c.args.start.now (Some c.loop.top.key)
down_to_top g c =
    let top = c.loop.top.key in
    let E = g.R.PartialEq.eq in
    let is = g.R.Behaves.behaviour in
    let trie = c.args.trie.now in
    let start = c.args.start.now in
    elim c.then-is_known_down_to.branch [
      | then-is_known_down_to-via-then-is_known_down_to w ↦ c.requires.known.down top (subst (IsKnownDownTo c.args.known.now top) c.loop.invariant.top.noted (c.is_known_down_to.ensures w.if-is_known_down_to.true))
      | then-is_known_down_to-via-else-is_known_down_to+then-begins_at w ↦
          let first = w.begins_at.ensures w.if-begins_at.true in
          first_down E g.met.R.PartialEq.laws is g.met.R.Register.alike trie start c.args.known.now c.requires.known top (option_copied c.loop.top.stored) c.loop.top.above c.loop.invariant.top first.0 first.1
    ]

pub returns-then-is_known_down_to-clause-known : goal.returns-then-is_known_down_to-clause-known
returns-then-is_known_down_to-clause-known g c =
    known_bottom g.R.PartialEq.eq g.met.R.PartialEq.laws g.R.Behaves.behaviour g.met.R.Register.alike c.args.trie.now c.args.start.now c.args.first.key c.loop.top.key c.loop.bottom c.loop.invariant.there c.loop.invariant.hung
    (down_to_top g c)

-- the next segment, right above the one at which the climb ended, is on each branch with `first`
next_there : (g : Over) (c : goal.After-hung_from-top g) (i : ℕ) → has c.args.first.key (keys_in c.args.trie.now.branches i) ≡ true → has c.in-Some.next (keys_in c.args.trie.now.branches i) ≡ true
next_there g c i h =
    subst (HasClimbedTo (keys_in c.args.trie.now.branches i)) c.in-Some.is (c.in_ok-next.ensures.following.1 i (c.loop.invariant.there i h)).0

pub loop-preserved : goal.loop-preserved
loop-preserved g c = record {
  there = next_there g c;
  hung = λ i h. c.hung_from-top.ensures.hung i (next_there g c i h);
  path = λ i h.
      let keys = keys_in c.args.trie.now.branches i in
      subst (λ o. keys_up_to c.args.first.key keys ≡ keys_to keys o ++ reverse c.pass.new.keys.items) c.in-Some.is
      (c.loop.invariant.path i h ∙ (c.in_ok-next.ensures.following.1 i (c.loop.invariant.there i h)).1);
  short = let more = c.in_ok-next.ensures.more in let old = c.loop.invariant.short in omega (arith, more, old);
  top = c.hung_from-top.ensures.top;
}

pub pass-requires-clause-there : goal.pass-requires-clause-there
pass-requires-clause-there g c = (c.requires.there.0, c.loop.invariant.there c.requires.there.0 c.requires.there.1)

pub hung_from-top-requires-clause-there : goal.hung_from-top-requires-clause-there
hung_from-top-requires-clause-there g c =
    let i = c.requires.there.0 in
    (i, subst (HasClimbedTo (keys_in c.args.trie.now.branches i)) c.in-Some.is (c.in_ok-next.ensures.following.1 i (c.loop.invariant.there i c.requires.there.1)).0)

pub returns-in_default-clause-known : goal.returns-in_default-clause-known
returns-in_default-clause-known g c = none_known g.R.PartialEq.eq g.met.R.Eq.laws g.R.Behaves.behaviour c.args.trie.now c.args.start.now c.args.first.key

pub returns-in_default-clause-following : goal.returns-in_default-clause-following
returns-in_default-clause-following g c = (
  inl refl,
  λ i h.
      let keys = keys_in c.args.trie.now.branches i in (
        tt,
        append-nil (keys_up_to c.args.first.key keys) ∙ subst (λ o. keys_up_to c.args.first.key keys ≡ keys_to keys o ++ reverse c.pass.new.keys.items) c.in_default.is
            (c.loop.invariant.path i h ∙ (c.in_ok-next.ensures.following.1 i (c.loop.invariant.there i h)).1),
      ),
)

pub unreachable-requires : goal.unreachable-requires
unreachable-requires g c =
    let i = c.requires.there.0 in
    let h = c.requires.there.1 in
    let keys = keys_in c.args.trie.now.branches i in
    let all = ap length (c.loop.invariant.path i h) ∙ length-append (keys_up_to c.loop.bottom keys) (reverse c.loop.keys.items) in
    let passed = length-reverse c.loop.keys.items in
    let some = keys_up_to_some keys c.loop.bottom (c.loop.invariant.there i h) in
    let few = keys_to_few keys (Some c.args.first.key) h in
    let made = c.made-end.ensures.few i in
    let short = c.loop.invariant.short in
    let end = c.loop-test.false in
    omega (arith, all, passed, some, few, made, short, end)
