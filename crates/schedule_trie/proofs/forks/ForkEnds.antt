-- A fork of all cells of a branch: it has all of the branch's segments.
use Rattle.std.proofs.Common.{◌≡◌, ℕ, ◌+◌, ◌<◌, true, List, [], ◌∷◌, ◌++◌, length, Option, Some, refl, sym, ap, ◌∙◌, arith, append_assoc}
use Rattle.std.proofs.lemmas.List.{length-append}
use Rattle.schedule_trie.specs.Trie.{TrieOf, SegmentOf, segment_at, slots_of, line, keys_in, has, SpotIsAt, IsWhole}
use Rattle.schedule_trie.specs.Climbs.{keys_up_to, keys_to}
use Rattle.schedule_trie.proofs.lists.NoRepeats.{has-head, has-in}
use Rattle.schedule_trie.proofs.climbs.Climbs.{up_to-here}
use Rattle.schedule_trie.proofs.edits.Pushes.{line-append}
use Rattle.schedule_trie.proofs.segments.TouchedSegments.{some_slots}

module _ {T : Type 0} (at : ℕ → Option (SegmentOf T)) where
  -- each of these segments has a cell
  abbrev pub HaveCells : List ℕ → Type 0
  HaveCells keys = (k : ℕ) → has k keys ≡ true → 0 < length (slots_of (at k))

  pub no_keys : (keys : List ℕ) → HaveCells keys → length (line at keys) ≡ 0 → keys ≡ []
  no_keys [] some e = refl
  no_keys (k ∷ ks) some e =
      let one = some k (has-head k ks) in
      let sum = length-append (slots_of (at k)) (line at ks) in
      absurd (omega (arith, one, sum, e))

  -- if the last cell of the branch is in a key's segment, the keys down to that key are all keys
  pub all_to : (keys : List ℕ) → HaveCells keys → (key place offset : ℕ) → SpotIsAt at keys place (key, offset) → offset + 1 ≡ length (slots_of (at key)) → place + 1 ≡ length (line at keys)
      → keys_to keys (Some key) ≡ keys
  all_to keys some key place offset l here e = by l.back l.is
    where
      by : (back : List ℕ) → keys ≡ l.front ++ key ∷ back → keys_up_to key keys ≡ keys
      by [] is = ap (keys_up_to key) is ∙ up_to-here key l.front [] l.first ∙ sym is
      by (b ∷ bs) is =
          let one = some b (ap (has b) (is ∙ sym (append_assoc l.front (key ∷ []) (b ∷ bs))) ∙ has-in b (l.front ++ key ∷ []) bs) in
          let whole = ap (λ ks. length (line at ks)) is ∙ ap length (line-append at l.front (key ∷ b ∷ bs)) ∙ length-append (line at l.front) (line at (key ∷ b ∷ bs)) in
          let own = length-append (slots_of (at key)) (line at (b ∷ bs)) in
          let next = length-append (slots_of (at b)) (line at bs) in
          let before = l.before in
          absurd (omega (arith, one, whole, own, next, before, here, e))

pub have_cells : {T : Type 0} (c : TrieOf T) → IsWhole c → (index : ℕ) → HaveCells (segment_at c.segments) (keys_in c.branches index)
have_cells c whole index k h = some_slots c.made (segment_at c.segments k) (whole.sound.held index k h) (whole.sound.segments k)
