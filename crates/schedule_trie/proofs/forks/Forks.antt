-- A new last branch that shares the first segments of another.
use Rattle.std.proofs.Common.{◌≡◌, ℕ, zero, suc, ◌+◌, ◌<◌, true, ◌||◌, List, [], ◌∷◌, ◌++◌, length, take, drop, Option, Some, None, refl, sym, ap, subst, ◌∙◌, true≢false, arith, inl, inr}
use Rattle.std.proofs.lemmas.List.{length-append, map-append, take-append-drop}
use Rattle.std.proofs.Math.Seq.{take-append_seam}
use Rattle.branch_terms.specs.Forest.{branch, index_of, slots_in}
use Rattle.schedule_trie.specs.Trie.{TrieOf, SegmentOf, KeyedBranch, keyed_branch, segment_at, line, forest, branch_on, branches_on, keys_in, has, note_of, Linked, IsSoundTrie, IsWhole, KeepsNotesExcept, IsParted}
use Rattle.schedule_trie.specs.changes.Forks.{IsBranchForked}
use Rattle.schedule_trie.proofs.lists.NoRepeats.{has-append}
use Rattle.schedule_trie.proofs.branches.Lines.{slots_in_on}
use Rattle.schedule_trie.proofs.edits.Pushes.{line-append}
use Rattle.schedule_trie.proofs.segments.StepSet.{cut_from_sound}
use Rattle.schedule_trie.proofs.segments.TouchedSegments.{none_parted}
use Rattle.schedule_trie.proofs.branches.KeyedBranches.{keys_in-last}

has-keys_in : (branches more : List KeyedBranch) (i k : ℕ) → has k (keys_in branches i) ≡ true → has k (keys_in (branches ++ more) i) ≡ true
has-keys_in [] more i k h = absurd (true≢false (sym h))
has-keys_in (t ∷ ts) more zero k h = h
has-keys_in (t ∷ ts) more (suc i) k h = has-keys_in ts more i k h

-- the first n keys of a linked path are linked
pub linked_front : (above : ℕ → Option ℕ) (up : Option ℕ) (n : ℕ) (ks : List ℕ) → Linked above up ks → Linked above up (take n ks)
linked_front above up zero ks l = tt
linked_front above up (suc n) [] l = tt
linked_front above up (suc n) (k ∷ ks) l = (l.0, linked_front above (Some k) n ks l.1)

pub has_from_take : (n k : ℕ) (ks : List ℕ) → has k (take n ks) ≡ true → has k ks ≡ true
has_from_take n k ks h = ap (has k) (sym (take-append-drop n ks)) ∙ has-append k (take n ks) (drop n ks) ∙ ap (λ b. b || has k (drop n ks)) h

module _ {T : Type 0} where
  branches_on-append : (at : ℕ → Option (SegmentOf T)) (a b : List KeyedBranch) → branches_on at (a ++ b) ≡ branches_on at a ++ branches_on at b
  branches_on-append at a b = map-append (branch_on at) a b

  -- the cells at the first n keys of a path are the first cells of the path's line
  pub line_front : (at : ℕ → Option (SegmentOf T)) (n : ℕ) (ks : List ℕ) → line at (take n ks) ≡ take (length (line at (take n ks))) (line at ks)
  line_front at n ks =
      sym (take-append_seam (line at (take n ks)) (line at (drop n ks)))
      ∙ ap (take (length (line at (take n ks)))) (sym (line-append at (take n ks) (drop n ks)) ∙ ap (line at) (take-append-drop n ks))

-- a branch of this name is added last, with the first keys of the branch at an index
abbrev pub with_front : {T : Type 0} → TrieOf T → List ℕ → ℕ → ℕ → TrieOf T
with_front c name index count = record c { branches = c.branches ++ keyed_branch name (take count (keys_in c.branches index)) ∷ [] }

module _ {T : Type 0} (c : TrieOf T) (name : List ℕ) (index count : ℕ) (whole : IsWhole c) (room : length c.branches < c.limits.branches) where
  abbrev front : List ℕ
  front = take count (keys_in c.branches index)

  abbrev after : TrieOf T
  after = with_front c name index count

  count_more : length after.branches ≡ length c.branches + 1
  count_more = length-append c.branches (keyed_branch name front ∷ [])

  sound : IsSoundTrie (segment_at c.segments) after.branches c.made
  sound = record {
    held = λ i k h. elim (keys_in-last c.branches (keyed_branch name front) i) [
      | inl e ↦ whole.sound.held i k (subst (λ l. has k l ≡ true) e h)
      | inr e ↦ whole.sound.held index k (has_from_take count k (keys_in c.branches index) (subst (λ l. has k l ≡ true) e h))
    ];
    segments = whole.sound.segments;
    apart = whole.sound.apart;
    live = λ k h. let p = whole.sound.live k h in (p.0, has-keys_in c.branches (keyed_branch name front ∷ []) p.0 k p.1);
    shares = record {
      above = whole.sound.shares.above;
      linked = λ i. elim (keys_in-last c.branches (keyed_branch name front) i) [
        | inl e ↦ subst (Linked whole.sound.shares.above None) (sym e) (whole.sound.shares.linked i)
        | inr e ↦ subst (Linked whole.sound.shares.above None) (sym e) (linked_front whole.sound.shares.above None count (keys_in c.branches index) (whole.sound.shares.linked index))
      ];
    };
  }

  pub front_whole : IsWhole after
  front_whole = record {
    sound = sound;
    within = record {
      cells = whole.within.cells;
      branches_fit = omega (arith, count_more);
      some = omega (arith, count_more);
      most_cells = whole.within.most_cells;
      most_branches = whole.within.most_branches;
    };
  }

  front_branches : (place : ℕ) → length (line (segment_at c.segments) front) ≡ place
      → (forest after).branches ≡ (forest c).branches ++ branch name (take place (slots_in (forest c).branches index)) ∷ []
  front_branches place e =
      branches_on-append (segment_at c.segments) c.branches (keyed_branch name front ∷ [])
      ∙ ap (λ l. (forest c).branches ++ branch name l ∷ [])
      (line_front (segment_at c.segments) count (keys_in c.branches index)
      ∙ ap (λ n. take n (line (segment_at c.segments) (keys_in c.branches index))) e
      ∙ ap (take place) (sym (slots_in_on (segment_at c.segments) c.branches index)))

  -- no segment has cells on both sides of the fork's place, and no note is lost
  front_notes : (place : ℕ) → length (line (segment_at c.segments) front) ≡ place → (source : List ℕ) → index_of (forest c).branches source ≡ Some index
      → KeepsNotesExcept c after (IsParted c source place)
  front_notes place e source found = record {
    notes = record { touched = None; kept = λ k ne h. inl refl; cleared = λ k e. absurd (cc); fresh = λ k h. ap note_of h };
    each = λ k h. absurd (none_parted c source index place count whole found e k h);
    only = λ k e. absurd (cc);
  }

  pub front_forked : (place : ℕ) → length (line (segment_at c.segments) front) ≡ place → IsBranchForked c after index place name
  front_forked place e = record {
    branches = front_branches place e;
    made = refl;
    limits = refl;
    notes = front_notes place e;
    cut = cut_from_sound after c.made sound;
  }
