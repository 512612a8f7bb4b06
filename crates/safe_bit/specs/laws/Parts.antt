-- Laws of parts of memories: how they are read and replaced.
use Rattle.std.proofs.Common.{◌≡◌, ℕ, ◌+◌, ◌<◌, ◌≤◌, length, set, sym, ap, ◌∙◌, arith, length-set}
use Rattle.safe_bit.specs.declared.Cell.{Cell}
use Rattle.safe_bit.specs.declared.Place.{Place}
use Rattle.safe_bit.specs.Memory.{Memory, cell_at, word_at, on_cell, with_word, no_cell, IsNumbered}
use Rattle.safe_bit.specs.Windows.{window, splice}
use Rattle.safe_bit.specs.laws.Windows.{length-window, length-splice, window-window, window-splice, window-splice_apart, splice-splice, splice-window, set-window, splice-own, window-whole, splice-whole, get_or-window}
use Rattle.safe_bit.specs.Parts.{Apart, HasSize, IsPlaced, LiesIn, Within, place_after, origin, part, with_part}

pub same_memory : (m n : Memory) → m.cells ≡ n.cells → m.words ≡ n.words → m ≡ n
same_memory m n c w = λ i. record { cells = c i; words = w i }

pub HasSize-part : (at size : Place) (m : Memory) → LiesIn at size m → HasSize size (part at size m)
HasSize-part at size m h = record { cells = length-window at.cell size.cell m.cells h.cells; words = length-window at.word size.word m.words h.words }

fits_cells : (at s : Place) (inner m : Memory) → HasSize s inner → LiesIn at s m → at.cell + length inner.cells ≤ length m.cells
fits_cells at s inner m z h = omega (arith, z.cells, h.cells)

fits_words : (at s : Place) (inner m : Memory) → HasSize s inner → LiesIn at s m → at.word + length inner.words ≤ length m.words
fits_words at s inner m z h = omega (arith, z.words, h.words)

-- replacing a part keeps the size of the memory
pub HasSize-with_part : (at s t : Place) (inner m : Memory) → HasSize s inner → LiesIn at s m → HasSize t m → HasSize t (with_part at inner m)
HasSize-with_part at s t inner m z h k = record {
  cells = length-splice at.cell inner.cells m.cells (fits_cells at s inner m z h) ∙ k.cells;
  words = length-splice at.word inner.words m.words (fits_words at s inner m z h) ∙ k.words;
}

pub LiesIn-with_part : (at s b t : Place) (inner m : Memory) → HasSize s inner → LiesIn at s m → LiesIn b t m → LiesIn b t (with_part at inner m)
LiesIn-with_part at s b t inner m z h k =
    let c = length-splice at.cell inner.cells m.cells (fits_cells at s inner m z h) in
    let w = length-splice at.word inner.words m.words (fits_words at s inner m z h) in
    record { cells = rw c k.cells; words = rw w k.words }

pub LiesIn-part : (at size q s : Place) (m : Memory) → LiesIn at size m → Within q s size → LiesIn q s (part at size m)
LiesIn-part at size q s m h w = record {
  cells = omega (arith, length-window at.cell size.cell m.cells h.cells, w.cells);
  words = omega (arith, length-window at.word size.word m.words h.words, w.words);
}

pub LiesIn-place_after : (at size q s : Place) (m : Memory) → LiesIn at size m → Within q s size → LiesIn (place_after at q) s m
LiesIn-place_after at size q s m h w = record { cells = omega (arith, h.cells, w.cells); words = omega (arith, h.words, w.words) }

pub LiesIn-whole : (size : Place) (m : Memory) → HasSize size m → LiesIn origin size m
LiesIn-whole size m z = record { cells = omega (arith, z.cells); words = omega (arith, z.words) }

pub LiesIn-of_size : (size q s : Place) (m : Memory) → HasSize size m → Within q s size → LiesIn q s m
LiesIn-of_size size q s m z w = record { cells = omega (arith, z.cells, w.cells); words = omega (arith, z.words, w.words) }

-- if a memory has fewer than 2^32 cells and fewer than 2^32 words, each part of it ends below 2^32
pub IsPlaced-inside : (at size : Place) (m : Memory) → IsNumbered m → LiesIn at size m → IsPlaced at size
IsPlaced-inside at size m n h = record { cells = omega (arith, n.cells, h.cells); words = omega (arith, n.words, h.words) }

pub IsPlaced-place_after : (at size q s : Place) → IsPlaced at size → Within q s size → IsPlaced (place_after at q) s
IsPlaced-place_after at size q s h w = record { cells = omega (arith, h.cells, w.cells); words = omega (arith, h.words, w.words) }

-- a part of a part is also a part of the whole memory
pub part-part : (at size q s : Place) (m : Memory) → Within q s size → part q s (part at size m) ≡ part (place_after at q) s m
part-part at size q s m w = same_memory _ _
    (window-window at.cell size.cell q.cell s.cell m.cells w.cells)
    (window-window at.word size.word q.word s.word m.words w.words)

-- reading a part that was put in gives that part back
pub part-with_part : (at s : Place) (inner m : Memory) → HasSize s inner → LiesIn at s m → part at s (with_part at inner m) ≡ inner
part-with_part at s inner m z h = same_memory _ _
    (ap (λ n. window at.cell n (splice at.cell inner.cells m.cells)) (sym z.cells) ∙ window-splice at.cell inner.cells m.cells (fits_cells at s inner m z h))
    (ap (λ n. window at.word n (splice at.word inner.words m.words)) (sym z.words) ∙ window-splice at.word inner.words m.words (fits_words at s inner m z h))

-- the second of two parts put in at the same place replaces the first
pub with_part-with_part : (at s : Place) (later inner m : Memory) → HasSize s later → HasSize s inner → LiesIn at s m
    → with_part at later (with_part at inner m) ≡ with_part at later m
with_part-with_part at s later inner m y z h = same_memory _ _
    (splice-splice at.cell later.cells inner.cells m.cells (fits_cells at s inner m z h) (y.cells ∙ sym z.cells))
    (splice-splice at.word later.words inner.words m.words (fits_words at s inner m z h) (y.words ∙ sym z.words))

-- replacing a part of a part, and putting the outer part back, is the same as replacing the inner
-- part in the whole memory
pub with_part-part : (at size q s : Place) (inner m : Memory) → HasSize s inner → LiesIn at size m → Within q s size
    → with_part at (with_part q inner (part at size m)) m ≡ with_part (place_after at q) inner m
with_part-part at size q s inner m z h w = same_memory _ _
    (splice-window at.cell size.cell q.cell inner.cells m.cells h.cells (omega (arith, z.cells, w.cells)))
    (splice-window at.word size.word q.word inner.words m.words h.words (omega (arith, z.words, w.words)))

-- putting a part back unchanged changes nothing
pub with_part-own : (at size : Place) (m : Memory) → LiesIn at size m → with_part at (part at size m) m ≡ m
with_part-own at size m h = same_memory _ _ (splice-own at.cell size.cell m.cells h.cells) (splice-own at.word size.word m.words h.words)

-- a part that doesn't overlap the replaced one stays as it was
pub part-with_part_apart : (a s b t : Place) (inner m : Memory) → HasSize s inner → LiesIn a s m → LiesIn b t m → Apart a s b t
    → part b t (with_part a inner m) ≡ part b t m
part-with_part_apart a s b t inner m z h k apart = same_memory _ _
    (window-splice_apart a.cell b.cell t.cell inner.cells m.cells (fits_cells a s inner m z h) k.cells (rw z.cells apart.cells))
    (window-splice_apart a.word b.word t.word inner.words m.words (fits_words a s inner m z h) k.words (rw z.words apart.words))

-- the part at the origin that has the size of the whole memory is the whole memory
pub part-whole : (size : Place) (m : Memory) → HasSize size m → part origin size m ≡ m
part-whole size m z = same_memory _ _ (window-whole size.cell m.cells z.cells) (window-whole size.word m.words z.words)

pub with_part-whole : (size : Place) (inner m : Memory) → HasSize size inner → HasSize size m → with_part origin inner m ≡ inner
with_part-whole size inner m y z = same_memory _ _
    (splice-whole inner.cells m.cells (y.cells ∙ sym z.cells))
    (splice-whole inner.words m.words (y.words ∙ sym z.words))

-- cell i of a part at place `at` is cell `at.cell` + i of the whole memory
pub cell_at-part : (at size : Place) (i : ℕ) (m : Memory) → i < size.cell → cell_at i (part at size m) ≡ cell_at (at.cell + i) m
cell_at-part at size i m lt = get_or-window at.cell size.cell m.cells i no_cell lt

-- word i of a part at place `at` is word `at.word` + i of the whole memory
pub word_at-part : (at size : Place) (i : ℕ) (m : Memory) → i < size.word → word_at i (part at size m) ≡ word_at (at.word + i) m
word_at-part at size i m lt = get_or-window at.word size.word m.words i 0 lt

-- changing a cell of a part, and putting the part back, is the same as changing it in the memory
pub on_cell-part : (at size : Place) (i : ℕ) (f : Cell → Cell) (m : Memory) → LiesIn at size m → i < size.cell
    → on_cell (at.cell + i) f m ≡ with_part at (on_cell i f (part at size m)) m
on_cell-part at size i f m h lt = same_memory _ _
    (ap (λ c. set m.cells (at.cell + i) (f c)) (sym (cell_at-part at size i m lt)) ∙ set-window at.cell size.cell i (f (cell_at i (part at size m))) m.cells h.cells lt)
    (sym (splice-own at.word size.word m.words h.words))

-- setting a word of a part, and putting the part back, is the same as setting it in the memory
pub with_word-part : (at size : Place) (i x : ℕ) (m : Memory) → LiesIn at size m → i < size.word
    → with_word (at.word + i) x m ≡ with_part at (with_word i x (part at size m)) m
with_word-part at size i x m h lt = same_memory _ _
    (sym (splice-own at.cell size.cell m.cells h.cells))
    (set-window at.word size.word i x m.words h.words lt)

pub HasSize-on_cell : (size : Place) (i : ℕ) (f : Cell → Cell) (m : Memory) → HasSize size m → HasSize size (on_cell i f m)
HasSize-on_cell size i f m z = record { cells = length-set m.cells i (f (cell_at i m)) ∙ z.cells; words = z.words }

pub HasSize-with_word : (size : Place) (i x : ℕ) (m : Memory) → HasSize size m → HasSize size (with_word i x m)
HasSize-with_word size i x m z = record { cells = z.cells; words = length-set m.words i x ∙ z.words }
