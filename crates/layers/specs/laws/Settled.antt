-- Laws of programs that run to their next task or end, in a store and in the layer's memory there.
use Rattle.std.proofs.Common.{◌≡◌, ℕ, ◌+◌, ◌<◌, ◌≤◌, length, get_or, set, refl, sym, ap, subst, ◌∙◌, inl, inr, arith, length-set, add_assoc}
use Rattle.std.proofs.lemmas.Bool.{cases_eq}
use Rattle.std.proofs.lemmas.List.{get_or-set_same, get_or-set_other}
use Rattle.safe_bit.specs.declared.Place.{Place}
use Rattle.safe_bit.specs.Memory.{Memory, word_at, with_word}
use Rattle.safe_bit.specs.Parts.{HasSize, LiesIn, part, with_part}
use Rattle.safe_bit.specs.laws.Parts.{HasSize-part, HasSize-with_word, LiesIn-with_part, part-with_part, with_part-with_part, with_part-own, word_at-part, with_word-part}
use Rattle.frames.specs.declared.types.Outcome.{Outcome}
use Rattle.frames.specs.Behaviour.{Behaviour}
use Rattle.layers.specs.Nested.{Program, Ends, Asks, Reads, Sets, Table, own_words_start, asked, after_part, advance}
use Rattle.layers.specs.Sound.{IsSound, Falls, WordsHold, LayerHolds}
use Rattle.layers.specs.laws.Nested.{holds_with_word}
use Rattle.layers.specs.Settled.{ContinuationIsSound, run_on, settled, tasks_left}
use Rattle.layers.specs.laws.Over.{LayerOver}

-- if all of the layer's own words are in range, they still are after own word i is set to a value
-- in range
pub words_hold_set : {Task : Type 0} (t : Table Task) (base i x : ℕ) (m : Memory) → base + t.words ≤ length m.words → i < t.words → x < t.bound i
    → WordsHold t base m → WordsHold t base (with_word (base + i) x m)
words_hold_set t base i x m fit lt low h k few = elim (cases_eq k i) as (λ _. get_or (set m.words (base + i) x) (base + k) 0 < t.bound k) [
  | inl same ↦ rw (same, get_or-set_same m.words (base + i) x 0 (omega arith)) low
  | inr other ↦ rw (get_or-set_other m.words (base + i) (base + k) x 0 (λ e. other (omega arith))) (h k few)
]

module _ {Task : Type 0} (t : Table Task) (MayBeAt : Task → Type 0) (Answer : Outcome → Type 0) where
  -- a sound program runs to a task that `MayBeAt` allows, or to an end that `Answer` allows
  pub settled_is_reached : (base : ℕ) (p : Program Task) (m : Memory) → IsSound t MayBeAt Answer p → base + t.words ≤ length m.words → WordsHold t base m
      → ContinuationIsSound MayBeAt Answer (settled base p m).continuation
  settled_is_reached base (Ends o) m sound fit h = sound
  settled_is_reached base (Asks task k) m sound fit h = sound.0
  settled_is_reached base (Reads i k) m sound fit h = settled_is_reached base (k (word_at (base + i) m)) m (sound.1 _ (h i sound.0)) fit h
  settled_is_reached base (Sets i x k) m sound fit h =
      settled_is_reached base k (with_word (base + i) x m) sound.1.1 (omega (arith, length-set m.words (base + i) x)) (words_hold_set t base i x m fit sound.0 sound.1.0 h)

  pub settled_falls : (left : Task → ℕ) (base n : ℕ) (p : Program Task) (m : Memory) → Falls left n p → tasks_left left (settled base p m).continuation ≤ n
  settled_falls left base n (Ends o) m f = omega arith
  settled_falls left base n (Asks task k) m f = omega arith
  settled_falls left base n (Reads i k) m f = settled_falls left base n (k (word_at (base + i) m)) m (f _)
  settled_falls left base n (Sets i x k) m f = settled_falls left base n k (with_word (base + i) x m) f

  -- running a program until it waits for a bit action or ends has the same effect as running it to
  -- its next task or end, and then running on from this
  pub advance_settled : {P : Type 0} (b : Behaviour P) (p : Program Task) (m : Memory) → IsSound t MayBeAt Answer p
      → own_words_start t b.size + t.words ≤ length m.words → WordsHold t (own_words_start t b.size) m
      → advance t b p m ≡ run_on t b (settled (own_words_start t b.size) p m).continuation (settled (own_words_start t b.size) p m).memory
  advance_settled b (Ends o) m sound fit h = refl
  advance_settled b (Asks task k) m sound fit h =
      λ i. after_part (λ o n. advance t b (sound.1 o i) n) task (asked b (t.asks task) m).next (asked b (t.asks task) m).memory
  advance_settled b (Reads i k) m sound fit h = advance_settled b (k (word_at (own_words_start t b.size + i) m)) m (sound.1 _ (h i sound.0)) fit h
  advance_settled b (Sets i x k) m sound fit h =
      advance_settled b k (with_word (own_words_start t b.size + i) x m) sound.1.1 (omega (arith, length-set m.words (own_words_start t b.size + i) x))
      (words_hold_set t (own_words_start t b.size) i x m fit sound.0 sound.1.0 h)

  -- whether a sound program runs in a store or in the layer's memory that lies there, it reaches
  -- the same next task or end, and changes that memory in the same way, but nothing else in the
  -- store
  pub settled_in_place : (at size : Place) (own : ℕ) (p : Program Task) (m : Memory) → IsSound t MayBeAt Answer p → LiesIn at size m → own + t.words ≤ size.word
      → WordsHold t own (part at size m)
      → ((settled (at.word + own) p m).continuation ≡ (settled own p (part at size m)).continuation)
      × ((settled (at.word + own) p m).memory ≡ with_part at (settled own p (part at size m)).memory m)
      × (HasSize size (settled own p (part at size m)).memory)
  settled_in_place at size own (Ends o) m sound lies fit h = (refl, sym (with_part-own at size m lies), HasSize-part at size m lies)
  settled_in_place at size own (Asks task k) m sound lies fit h = (refl, sym (with_part-own at size m lies), HasSize-part at size m lies)
  settled_in_place at size own (Reads i k) m sound lies fit h =
      let e : word_at (at.word + own + i) m ≡ word_at (own + i) (part at size m) = ap (λ q. word_at q m) (add_assoc at.word own i) ∙ sym (word_at-part at size (own + i) m (omega (arith, sound.0))) in
      let there = settled_in_place at size own (k (word_at (own + i) (part at size m))) m (sound.1 _ (h i sound.0)) lies fit h in
      subst (λ x. ((settled (at.word + own) (k x) m).continuation ≡ (settled own (k (word_at (own + i) (part at size m))) (part at size m)).continuation)
      × ((settled (at.word + own) (k x) m).memory ≡ with_part at (settled own (k (word_at (own + i) (part at size m))) (part at size m)).memory m)
      × (HasSize size (settled own (k (word_at (own + i) (part at size m))) (part at size m)).memory)) (sym e) there
  settled_in_place at size own (Sets i x k) m sound lies fit h =
      let inner = with_word (own + i) x (part at size m) in
      let z = HasSize-with_word size (own + i) x (part at size m) (HasSize-part at size m lies) in
      let e : with_word (at.word + own + i) x m ≡ with_part at inner m = ap (λ q. with_word q x m) (add_assoc at.word own i) ∙ with_word-part at size (own + i) x m lies (omega (arith, sound.0)) in
      let there = settled_in_place at size own k (with_part at inner m) sound.1.1 (LiesIn-with_part at size at size inner m z lies lies) fit
      (subst (WordsHold t own) (sym (part-with_part at size inner m z lies)) (words_hold_set t own i x (part at size m) (let l = (HasSize-part at size m lies).words in omega arith) sound.0 sound.1.0 h)) in
      let at_inner : part at size (with_part at inner m) ≡ inner = part-with_part at size inner m z lies in
      let there' = subst (λ q. ((settled (at.word + own) k (with_part at inner m)).continuation ≡ (settled own k q).continuation)
      × ((settled (at.word + own) k (with_part at inner m)).memory ≡ with_part at (settled own k q).memory (with_part at inner m))
      × (HasSize size (settled own k q).memory)) at_inner there in
      subst (λ q. ((settled (at.word + own) k q).continuation ≡ (settled own k inner).continuation)
      × ((settled (at.word + own) k q).memory ≡ with_part at (settled own k inner).memory m)
      × (HasSize size (settled own k inner).memory)) (sym e)
      (there'.0, there'.1 ∙ with_part-with_part at size (settled own k inner).memory inner m there'.2 z lies, there'.2)

-- the layer's memory still satisfies `LayerHolds` after a sound program has run to its next task or
-- end
pub settled_holds : {Task P : Type 0} (l : LayerOver Task P)
    (MayBeAt : Task → Type 0) (Answer : Outcome → Type 0) (p : Program Task) (m : Memory) → IsSound l.table MayBeAt Answer p → LayerHolds l.table l.below l.Holds m
    → LayerHolds l.table l.below l.Holds (settled (own_words_start l.table l.below.size) p m).memory
settled_holds l MayBeAt Answer (Ends o) m sound h = h
settled_holds l MayBeAt Answer (Asks task k) m sound h = h
settled_holds l MayBeAt Answer (Reads i k) m sound h =
    settled_holds l MayBeAt Answer (k (word_at (own_words_start l.table l.below.size + i) m)) m (sound.1 _ (h.words i sound.0)) h
settled_holds l MayBeAt Answer (Sets i x k) m sound h =
    settled_holds l MayBeAt Answer k (with_word (own_words_start l.table l.below.size + i) x m) sound.1.1 (holds_with_word l i x m sound.0 sound.1.0 h)
