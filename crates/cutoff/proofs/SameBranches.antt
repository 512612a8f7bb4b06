-- A chart whose stored runs changed, but not its forest.
use Rattle.std.proofs.Common.{◌≡◌, ℕ, ◌<◌, ◌≤◌, Bool, true, List, length, map, Option, Some, None, IsSome, inl, inr, refl, sym, ap, subst}
use Rattle.std.specs.Option.{option_map, IfSome}
use Rattle.frames.specs.Behaviour.{Behaviour}
use Rattle.frames.specs.Configuration.{Configuration, initial_configuration}
use Rattle.frames.specs.Recorded.{without_register}
use Rattle.schedule_trie.specs.declared.slot.Slot.{Slot}
use Rattle.schedule_trie.specs.Trie.{TrieOf, SegmentOf, segment_at, note_of, forest, has, keys_in, SharesAbove, IsCut}
use Rattle.cutoff.specs.Fitting.{StoredRun, KeepsRuns}
use Rattle.cutoff.specs.Settles.{GetsRun}
use Rattle.cutoff.specs.Links.{IsLinked}
use Rattle.cutoff.specs.Prefixes.{RunsToOnAll, AreFresh}
use Rattle.cutoff.specs.Known.{AreKnown, IsKnownDownTo}
use Rattle.cutoff.specs.declared.known.Known.{Known}
use Rattle.cutoff.specs.Charts.{Charted, IsCharted, StepsFit}

-- if the cells at a key are the same, a segment is there if one was, and Q holds of its cells if it
-- did
module _ {T : Type 0} (Q : List Slot → Type 0) where
  there_still : (o p : Option (SegmentOf T)) → option_map (λ x. x.slots) p ≡ option_map (λ x. x.slots) o → IsSome o → IsSome p
  there_still o None e h = cc_there o e h
    where
      cc_there : (o : Option (SegmentOf T)) → ◌≡◌ {A = Option (List Slot)} None (option_map (λ x. x.slots) o) → IsSome o → IsSome {T = SegmentOf T} None
      cc_there None e h = h
      cc_there (Some q) e h = cc
  there_still o (Some q) e h = refl

  slots_still : (o p : Option (SegmentOf T)) → option_map (λ x. x.slots) p ≡ option_map (λ x. x.slots) o → IfSome o (λ x. Q x.slots) → IfSome p (λ x. Q x.slots)
  slots_still o None e h = tt
  slots_still None (Some q) e h = cc
  slots_still (Some r) (Some q) e h = let same : q.slots ≡ r.slots = cc in subst Q (sym same) h

-- branches stay cut into segments if only stored runs change
pub cut_kept : {R P : Type 0} (old new : TrieOf (StoredRun R P)) (Missed : ℕ → Type 0) → KeepsRuns old new Missed → IsCut old → IsCut new
cut_kept old new Missed kept trie = record {
  held = λ i k h. there_still (λ s. Unit {0}) (segment_at old.segments k) (segment_at new.segments k) (kept.slots k) (trie.held i k (subst (λ s. has k (keys_in s i) ≡ true) kept.branches h));
  sizes = λ k. slots_still (λ s. (0 < length s) × (length s ≤ 128)) (segment_at old.segments k) (segment_at new.segments k) (kept.slots k) (trie.sizes k);
  live = λ k h. let was = trie.live k (there_still (λ s. Unit {0}) (segment_at new.segments k) (segment_at old.segments k) (sym (kept.slots k)) h) in
      (was.0, subst (λ s. has k (keys_in s was.0) ≡ true) (sym kept.branches) was.1);
  shares = subst SharesAbove (sym kept.branches) trie.shares;
}

-- a chart with nothing marked keeps its invariant if only stored runs change, and stay linked
pub charted_kept : {R P : Type 0} (E : R → R → Bool) (is : R → Behaviour P) (next after : ℕ) (fresh mark : Option ℕ) (c : Charted R P) (new : TrieOf (StoredRun R P)) (Missed : ℕ → Type 0)
    → KeepsRuns c.trie new Missed → IsLinked E c.start.register after None (without_register c.start) new → IsCharted E is next fresh mark c
    → IsCharted E is after None None (record { trie = new; start = c.start; value = c.value })
charted_kept E is next after fresh mark c new Missed kept linked was = record {
  within = was.within;
  begins = was.begins;
  fits = subst (StepsFit (is c.start.register)) (sym kept.forest_kept) was.fits;
  cut = cut_kept c.trie new Missed kept was.cut;
  linked = linked;
  marked = tt;
  fresh_marked = tt;
}

-- the invariant holds with another mark and other fresh runs, if stored runs fit down to these
pub charted_marked : {R P : Type 0} (E : R → R → Bool) (is : R → Behaviour P) (next : ℕ) (fresh mark first other : Option ℕ) (c : Charted R P) → AreFresh E is c.trie c.start first
    → RunsToOnAll E is c.trie c.start other → IsCharted E is next fresh mark c → IsCharted E is next first other c
charted_marked E is next fresh mark first other c all_marked marked was = record {
  within = was.within;
  begins = was.begins;
  fits = was.fits;
  cut = was.cut;
  linked = was.linked;
  marked = marked;
  fresh_marked = all_marked;
}

-- what a chart's mark and numbers say of its stored runs
pub chart_known : {R P : Type 0} (E : R → R → Bool) (is : R → Behaviour P) (next : ℕ) (known : Known) (c : Charted R P) → IsCharted E is next known.fresh known.mark c → AreKnown E is c.trie c.start known
chart_known E is next known c was = record { linked = (next, was.linked); cut = was.cut; fits = was.fits; down = by }
  where
    by : (k : ℕ) → IsKnownDownTo known k (note_of (segment_at c.trie.segments k)) → RunsToOnAll E is c.trie c.start (Some k)
    by k (inl here) = subst (RunsToOnAll E is c.trie c.start) here was.marked
    by k (inr late) = subst (AreFresh E is c.trie c.start) late.3 was.fresh_marked k late.0 late.2 late.4

-- a trie that equals `trie` keeps and gets the runs that `trie` does
pub keeps_still : {R P : Type 0} (E : R → R → Bool) (b : Behaviour P) (old : TrieOf (StoredRun R P)) (start : Configuration R P) (ks : List ℕ) {trie new : TrieOf (StoredRun R P)} → new ≡ trie
    → KeepsRuns old trie (GetsRun E b old trie start ks) → KeepsRuns old new (GetsRun E b old new start ks)
keeps_still E b old start ks same = subst (λ t. KeepsRuns old t (GetsRun E b old t start ks)) (sym same)

-- a chart as its contract sees it, and its fields
module _ {R P : Type 0} {v w : Charted R P} (seen : v ≡ w) where
  pub seen_begins : (E : R → R → Bool) (is : R → Behaviour P) (next : ℕ) (fresh mark : Option ℕ) → IsCharted E is next fresh mark v
      → w.start ≡ initial_configuration (is w.start.register) w.start.register w.value
  seen_begins E is next fresh mark was = subst (λ (c : Charted R P). c.start ≡ initial_configuration (is c.start.register) c.start.register c.value) seen was.begins

-- a trie that doesn't change keeps its runs
pub all_kept : {R P : Type 0} (trie : TrieOf (StoredRun R P)) (Gets : ℕ → Type 0) → KeepsRuns trie trie Gets
all_kept trie Gets = record { branches = refl; limits = refl; forest_kept = refl; slots = λ k. refl; runs = λ k. inl refl }
