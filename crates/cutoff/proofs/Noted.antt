-- What is in a segment after a note is set there. The note is a stored run, or of any type.
use Rattle.std.proofs.Common.{◌≡◌, ℕ, true, Option, Some, None, IsSome, refl, sym, ap, true≢false}
use Rattle.std.specs.Option.{option_map}
use Rattle.schedule_trie.specs.Trie.{TrieOf, SegmentOf, segment, segment_at, slots_of, note_of, with_note, IsNoted}
use Rattle.cutoff.specs.Fitting.{StoredRun, bare_run}

-- a segment whose note is set to s has the note s, and the cells that it had
pub noted_at : {T : Type 0} (s : T) (o p : Option (SegmentOf T)) → p ≡ option_map (with_note (Some s)) o → IsSome o → note_of p ≡ Some s
noted_at s None p e h = absurd (true≢false (sym h))
noted_at s (Some q) p e h = ap note_of e

pub noted_cells : {T : Type 0} (s : T) (o p : Option (SegmentOf T)) → p ≡ option_map (with_note (Some s)) o → slots_of p ≡ slots_of o
noted_cells s None p e = ap slots_of e
noted_cells s (Some q) p e = ap slots_of e

-- setting a note that is there already changes nothing
pub noted_still : {T : Type 0} (c : TrieOf T) (k : ℕ) (s : T) → note_of (segment_at c.segments k) ≡ Some s → IsNoted c c k (Some s)
noted_still c k s e = record { here = by (segment_at c.segments k) e; others = λ j ne. refl; branches = refl; limits = refl; unchanged = refl }
  where
    by : (o : Option (SegmentOf _)) → note_of o ≡ Some s → o ≡ option_map (with_note (Some s)) o
    by None h = cc
    by (Some p) h = λ i. Some (segment p.slots (h i))

-- if the run s is stored in a segment, s's run is stored there
pub noted_run : {R P : Type 0} (s : StoredRun R P) (o : Option (SegmentOf (StoredRun R P))) → IsSome o → option_map bare_run (note_of (option_map (with_note (Some s)) o)) ≡ Some s.run
noted_run s None h = absurd (true≢false (sym h))
noted_run s (Some p) h = refl

-- a segment in which a run is stored keeps its cells
pub noted_slots : {R P : Type 0} (s : StoredRun R P) (o : Option (SegmentOf (StoredRun R P)))
    → option_map (λ p. p.slots) (option_map (with_note (Some s)) o) ≡ option_map (λ p. p.slots) o
noted_slots s None = refl
noted_slots s (Some p) = refl
