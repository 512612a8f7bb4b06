-- The runs stored down a branch, read one after the other.
use Rattle.std.proofs.Common.{◌≡◌, ◌⊎◌, ℕ, suc, ◌+◌, ◌-◌, ◌<◌, ◌≤◌, Bool, true, false, nat_eq, cond, List, [], ◌∷◌, ◌++◌, length, map, drop, get_or, Option, Some, None, inl, inr, refl, sym, ap, subst, ◌∙◌, arith, append_assoc, append-nil}
use Rattle.std.specs.Prelude.{min}
use Rattle.std.specs.Arc.{arc_value}
use Rattle.std.specs.declared.sync.Arc.{Arc}
use Rattle.std.proofs.lemmas.Bool.{eqb-true}
use Rattle.std.proofs.Math.Seq.{drop-cons}
use Rattle.std.proofs.lemmas.List.{drop_all}
use Rattle.frames.specs.Behaviour.{Behaviour}
use Rattle.frames.specs.Configuration.{Configuration, replayed}
use Rattle.checkpoints.specs.Runs.{SegmentRun}
use Rattle.schedule_trie.specs.Forest.{index_of}
use Rattle.schedule_trie.specs.Trie.{TrieOf, forest, keys_in}
use Rattle.cutoff.specs.Fitting.{StoredRun, RunPart, KeepsRuns, steps_at, run_at, reached, part_of, parts_of}
use Rattle.cutoff.specs.Settles.{Settles, IsSettled, IsSettledLast}
use Rattle.cutoff.specs.Charts.{Charted, keys_at, keys_named}
use Rattle.cutoff.proofs.Walks.{part, part_last}

module _ {R P : Type 0} where
  parts_none : (runs : List (Option (SegmentRun R P))) → parts_of 0 runs ≡ []
  parts_none [] = refl
  parts_none (None ∷ runs) = refl
  parts_none (Some run ∷ runs) = refl

  parts_next : (place : ℕ) (run : SegmentRun R P) (runs : List (Option (SegmentRun R P))) → nat_eq place 0 ≡ false
      → parts_of place (Some run ∷ runs) ≡ part run (min place (length run.steps)) ∷ parts_of (place - min place (length run.steps)) runs
  parts_next place run runs some = ap (λ t. cond t [] (part run (min place (length run.steps)) ∷ parts_of (place - min place (length run.steps)) runs)) some

  -- if `parts` are those that a settle returns, they are the runs that it leaves stored
  abbrev ReadsAs : (R → R → Bool) → Behaviour P → TrieOf (StoredRun R P) → TrieOf (StoredRun R P) → Configuration R P → ℕ → List ℕ → List (RunPart R P) → ℕ → Type 0
  ReadsAs E b old new c place keys parts n = Settles E b old new c place (reached old place keys) parts n → parts ≡ parts_of place (map (run_at new) keys)

  pub settled_parts : (E : R → R → Bool) (b : Behaviour P) (old new : TrieOf (StoredRun R P)) (c : Configuration R P) (place : ℕ) (keys : List ℕ) (parts : List (RunPart R P)) (n : ℕ)
      → ReadsAs E b old new c place keys parts n
  settled_parts E b old new c place [] parts n s = s.0
  settled_parts E b old new c place (k ∷ ks) parts n s =
      let next = replayed b c (steps_at old k) in
      let left = place - length (steps_at old k) in
      by (λ (qs : List (RunPart R P)) (m : ℕ). settled_parts E b old new next left ks qs m) (nat_eq place 0) refl
    where
      some : ((qs : List (RunPart R P)) (m : ℕ) → ReadsAs E b old new (replayed b c (steps_at old k)) (place - length (steps_at old k)) ks qs m) → nat_eq place 0 ≡ false → (qs : List (RunPart R P)) → Settles E b old new c place (k ∷ reached old (place - length (steps_at old k)) ks) qs n
          → qs ≡ parts_of place (map (run_at new) (k ∷ ks))
      some on e [] t = absurd t
      some on e (q ∷ qs) t =
          let here = t.3 in
          let len : length q.run.steps ≡ length (steps_at old k) = ap length here.fits.steps in
          let less : place - length (steps_at old k) ≡ place - min place (length q.run.steps) = omega arith in
          let count : q.count ≡ min place (length q.run.steps) = here.count ∙ ap (min place) (sym len) in
          let rest : qs ≡ parts_of (place - length (steps_at old k)) (map (run_at new) ks) = on qs t.1 t.4 in
          ap (λ m. part q.run m ∷ qs) count ∙ ap (λ l. part q.run (min place (length q.run.steps)) ∷ l) (rest ∙ ap (λ m. parts_of m (map (run_at new) ks)) less)
          ∙ sym (ap (λ o. parts_of place (o ∷ map (run_at new) ks)) here.stored ∙ parts_next place q.run (map (run_at new) ks) e)

      by : ((qs : List (RunPart R P)) (m : ℕ) → ReadsAs E b old new (replayed b c (steps_at old k)) (place - length (steps_at old k)) ks qs m) → (t : Bool) → nat_eq place 0 ≡ t → parts ≡ parts_of place (map (run_at new) (k ∷ ks))
      by on true e =
          let none = subst (λ l. Settles E b old new c place l parts n) (ap (λ t. cond t [] (k ∷ reached old (place - length (steps_at old k)) ks)) e) s in
          none.0 ∙ sym (ap (λ m. parts_of m (map (run_at new) (k ∷ ks))) (eqb-true place 0 e) ∙ parts_none (map (run_at new) (k ∷ ks)))
      by on false e = some on e parts (subst (λ l. Settles E b old new c place l parts n) (ap (λ t. cond t [] (k ∷ reached old (place - length (steps_at old k)) ks)) e) s)

-- the runs at the keys before `index` are read: they are `runs`; the first `rest` steps of the
-- others are still to be read
module _ {R P Z : Type 0} (trie : TrieOf (StoredRun R P)) (keys : List ℕ) (index rest : ℕ) (runs : List (Arc (SegmentRun R P) Z × ℕ)) (all : List (RunPart R P))
    (was : all ≡ map part_of runs ++ parts_of rest (map (run_at trie) (drop index keys))) where
  split_at_index : index < length keys → drop index keys ≡ get_or keys index 0 ∷ drop (index + 1) keys
  split_at_index h = let step : suc index ≡ index + 1 = omega arith in drop-cons keys index 0 h ∙ ap (λ j. get_or keys index 0 ∷ drop j keys) step

  pub read_next : (items : List (Arc (SegmentRun R P) Z × ℕ)) (x : Arc (SegmentRun R P) Z × ℕ) → index < length keys → (rest ≡ 0 → ⊥) → run_at trie (get_or keys index 0) ≡ Some (arc_value x.0)
      → x.1 ≡ min rest (length (arc_value x.0).steps) → items ≡ runs ++ x ∷ [] → all ≡ map part_of items ++ parts_of (rest - x.1) (map (run_at trie) (drop (index + 1) keys))
  read_next items x h wanted stored count pushed =
      let run = arc_value x.0 in
      let left = map (run_at trie) (drop (index + 1) keys) in
      let here : parts_of rest (map (run_at trie) (drop index keys)) ≡ part run x.1 ∷ parts_of (rest - x.1) left =
      ap (λ l. parts_of rest (map (run_at trie) l)) (split_at_index h) ∙ ap (λ o. parts_of rest (o ∷ left)) stored ∙ parts_next rest run left (not_zero (nat_eq rest 0) refl) ∙ ap (λ m. part run m ∷ parts_of (rest - m) left) (sym count) in
      was ∙ ap (λ l. map part_of runs ++ l) here ∙ sym (append_assoc (map part_of runs) (part run x.1 ∷ []) (parts_of (rest - x.1) left))
      ∙ ap (λ l. l ++ parts_of (rest - x.1) left) (sym (ap (map part_of) pushed ∙ part_last runs x))
    where
      not_zero : (t : Bool) → nat_eq rest 0 ≡ t → nat_eq rest 0 ≡ false
      not_zero true e = absurd (wanted (eqb-true rest 0 e))
      not_zero false e = e

  read_ends : parts_of rest (map (run_at trie) (drop index keys)) ≡ [] → map part_of runs ≡ all
  read_ends none = sym (was ∙ ap (λ l. map part_of runs ++ l) none ∙ append-nil (map part_of runs))

  pub read_past : (length keys ≤ index) ⊎ (rest ≡ 0) → map part_of runs ≡ all
  read_past (inl past) = read_ends (ap (λ l. parts_of rest (map (run_at trie) l)) (drop_all index keys past))
  read_past (inr none) = read_ends (ap (λ m. parts_of m (map (run_at trie) (drop index keys))) none ∙ parts_none (map (run_at trie) (drop index keys)))

  pub read_missing : index < length keys → run_at trie (get_or keys index 0) ≡ None → map part_of runs ≡ all
  read_missing h missing = read_ends (ap (λ l. parts_of rest (map (run_at trie) l)) (split_at_index h) ∙ ap (λ o. parts_of rest (o ∷ map (run_at trie) (drop (index + 1) keys))) missing)

-- the runs read after a settle of the named branch's first `place` cells
pub read_settled : {R P : Type 0} (E : R → R → Bool) (b : Behaviour P) (old new : Charted R P) (Missed : ℕ → Type 0) (trie : TrieOf (StoredRun R P)) (start : Configuration R P) (value : ℕ)
    → ◌≡◌ {A = Charted R P} (record { trie = trie; start = start; value = value }) new → KeepsRuns old.trie new.trie Missed → (name : List ℕ) (place index : ℕ) (keys : List ℕ) (runs : List (RunPart R P)) (last : Option (RunPart R P)) (n : ℕ)
    → index_of (forest trie).branches name ≡ Some index → keys ≡ keys_in trie.branches index → runs ≡ parts_of place (map (run_at trie) keys) → IsSettledLast E b old new name place last n
    → IsSettled E b old new name place runs n
read_settled {R} {P} E b old new Missed trie start value seen keeps name place index keys runs last n found along read s =
    let named : keys_named old.trie name ≡ keys =
    ap (λ f. keys_at (index_of f.branches name) old.trie.branches) (sym keeps.forest_kept) ∙ ap (λ l. keys_at (index_of (forest new.trie).branches name) l) (sym keeps.branches)
    ∙ ap (λ (c : Charted R P). keys_named c.trie name) (sym seen) ∙ ap (λ o. keys_at o trie.branches) found ∙ sym along in
    let same : s.0 ≡ runs =
    settled_parts E b old.trie new.trie old.start place (keys_named old.trie name) s.0 n s.1.settles ∙ ap (λ ks. parts_of place (map (run_at new.trie) ks)) named
    ∙ ap (λ (c : Charted R P). parts_of place (map (run_at c.trie) keys)) (sym seen) ∙ sym read in
    subst (λ p. IsSettled E b old new name place p n) same s.1
