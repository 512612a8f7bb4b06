-- A division, in terms of the fields.
use Rattle.std.proofs.Common.{◌≡◌, ℕ, List, [], Some, None, IsSome, set, sym, ap, subst, ◌∙◌, true≢false}
use Rattle.std.proofs.lemmas.List.{get_or-set_same, get_or-set_other}
use Rattle.lineage.specs.Family.{Family, item_at, IsAdded}
use Rattle.branch_terms.specs.declared.slot.Slot.{Slot}
use Rattle.schedule_trie.specs.declared.segment.Segment.{Segment}
use Rattle.schedule_trie.specs.declared.trie.Trie.TheInside.{Inside}
use Rattle.schedule_trie.specs.Trie.{segment, segment_at}
use Rattle.schedule_trie.specs.TrieFields.{segment_of, trie_of}
use Rattle.schedule_trie.proofs.segments.StepSet.{segment_seen, key_within}
use Rattle.schedule_trie.proofs.segments.Division.{Divides}

-- an existing item still exists after one is added
pub still_there : {X : Type 0} (old new : Family X) (key fresh : ℕ) (x : X) → IsAdded old new fresh x → IsSome (item_at old key) → IsSome (item_at new key)
still_there old new key fresh x added h =
    subst IsSome (sym (added.others key (λ e. true≢false (sym (subst IsSome (ap (item_at old) e ∙ added.was_vacant) h))))) h

-- a new segment is put above one, which then has only the cells below the cut
module _ {T : Type 0} (t d : Inside T) (mid : Family (Segment T)) (key fresh : ℕ) (above v w : Segment T) (below : List Slot)
    (was : IsSome (segment_at (trie_of t).segments key)) (added : IsAdded t.segments mid fresh above) (there : item_at mid key ≡ Some v)
    (after : d.segments.items ≡ set mid.items key (Some w)) (items : w.slots.items ≡ below) (note : w.note ≡ None) where
  apart : fresh ≡ key → ⊥
  apart e = let none : None ≡ segment_at (trie_of t).segments key = sym (ap segment_of added.was_vacant) ∙ sym (segment_seen t fresh) ∙ ap (segment_at (trie_of t).segments) e in absurd (cc)

  here : item_at d.segments key ≡ Some w
  here = ap (λ l. item_at (record { items = l; paths = [] }) key) after ∙ get_or-set_same mid.items key (Some w) None (key_within mid.items key v there)

  other : (j : ℕ) → (j ≡ key → ⊥) → item_at d.segments j ≡ item_at mid j
  other j ne = ap (λ l. item_at (record { items = l; paths = [] }) j) after ∙ get_or-set_other mid.items key j (Some w) None ne

  pub divides_from : Divides (segment_at (trie_of t).segments) (segment_at (trie_of d).segments) key fresh (segment above.slots.items above.note) (segment below None)
  divides_from = record {
    was = was;
    vacant = segment_seen t fresh ∙ ap segment_of added.was_vacant;
    upper = segment_seen d fresh ∙ ap segment_of (other fresh apart ∙ added.here);
    lower = segment_seen d key ∙ ap segment_of here ∙ (λ i. Some (segment (items i) (note i)));
    others = λ j n m. segment_seen d j ∙ ap segment_of (other j n ∙ added.others j m) ∙ sym (segment_seen t j);
  }
