-- The phase that each process of a matrix is in, and what holds of its row, its column and its
-- codes.
use Rattle.std.proofs.Common.{◌≡◌, ℕ, ◌+◌, ◌*◌, ◌<◌, ◌≤◌, ◌==◌, max, Bool, true, false, List, Option, Some, None, IsTrue, inl, inr, refl, sym, ap, subst, ◌∙◌, arith}
use Rattle.std.specs.Prelude.{◌⊎◌, ⊤, nat_lt, if◌then◌else◌, length}
use Rattle.std.proofs.lemmas.Bool.{cases_eq, cases_lt}
use Rattle.frames.specs.declared.types.Op.{Op}
use Rattle.frames.specs.declared.types.Op.TheVariants.{Read, Write}
use Rattle.frames.proofs.Seen.{Seen, among}
use Rattle.matrix.proofs.Codes.{writer_of}
use Rattle.matrix.proofs.CodedHistory.{Coded, IsKnownCode}

-- A process rests; or it is about to read part j of its column, or reads it, and has found g to be
-- the greatest code so far; or it is about to write x to part j of its row, or writes it.
pub data Phase : Type 0 where
  Rests : Phase
  WillRead : Op → ℕ → ℕ → Phase
  IsReading : Op → ℕ → ℕ → Phase
  WillWrite : Op → ℕ → ℕ → Phase
  IsWriting : Op → ℕ → ℕ → Phase

-- what was last written to part b of the row of a process in this phase, which last wrote h to its
-- whole row
abbrev pub row_last : ℕ → Phase → ℕ → ℕ
row_last h (WillWrite o j x) b = if nat_lt b j then x else h
row_last h (IsWriting o j x) b = if nat_lt b j then x else h
row_last h Rests b = h
row_last h (WillRead o j g) b = h
row_last h (IsReading o j g) b = h

-- what is being written to part b of the row of a process in this phase
abbrev pub row_writing : Phase → ℕ → Option ℕ
row_writing (IsWriting o j x) b = if b == j then Some x else None
row_writing Rests b = None
row_writing (WillRead o j g) b = None
row_writing (IsReading o j g) b = None
row_writing (WillWrite o j x) b = None

-- how many writes have been invoked on part b of the row of a process in this phase, if m had been
-- on each part before its operation
abbrev pub row_count : ℕ → Phase → ℕ → ℕ
row_count m (WillWrite o j x) b = if nat_lt b j then m + 1 else m
row_count m (IsWriting o j x) b = if nat_lt b (j + 1) then m + 1 else m
row_count m Rests b = m
row_count m (WillRead o j g) b = m
row_count m (IsReading o j g) b = m

-- s is what part b of the row of a process in this phase shows
abbrev pub PartShows : ℕ → ℕ → Phase → ℕ → Seen → Type 0
PartShows h m x b s = (s.last ≡ row_last h x b) × ((s.writing ≡ row_writing x b) × (length (s.overlaps 0) ≡ row_count m x b))

-- a process in this phase is writing this code to its row
abbrev pub WritesCode : Phase → ℕ → Type 0
WritesCode (WillWrite o j x) y = x ≡ y
WritesCode (IsWriting o j x) y = x ≡ y
WritesCode Rests y = ⊥
WritesCode (WillRead o j g) y = ⊥
WritesCode (IsReading o j g) y = ⊥

-- p's operation o is pending: if it is a write of v, p is in that write, which has no code yet;
-- otherwise p is in no write
abbrev pub HasNoCode : Coded → ℕ → Op → Type 0
HasNoCode c p (Write v) = (c.code p (c.count p) ≡ None) × (c.value p ≡ v) × (c.writing p ≡ true)
HasNoCode c p Read = c.writing p ≡ false

-- p's operation o is pending: if it is a write, p is in a write that has taken code x; otherwise p
-- is in no write
abbrev pub HasTakenCode : Coded → ℕ → Op → ℕ → Type 0
HasTakenCode c p (Write v) x = (c.code p (c.count p) ≡ Some x) × (c.writing p ≡ true)
HasTakenCode c p Read x = c.writing p ≡ false

-- what process p knows from its column's first j parts, if g is their greatest code
pub record KnowsColumn (n : ℕ) (c : Coded) (p : ℕ) (o : Op) (j g : ℕ) : Type 0 where
  pub own : c.held_at_start p p ≡ c.held p
  pub witness : (a : ℕ) × ((a < n) × (c.floor p ≤ c.held_at_start p a))
  pub at_least : (a : ℕ) → a < j → c.held_at_start p a ≤ g
  pub greatest_known : ((j ≡ 0) × (g ≡ 0)) ⊎ IsKnownCode c g
  pub free : HasNoCode c p o

-- the read of part j of p's column may give no code below what the part's writer held when p's
-- operation began
pub record ReadsPart (n : ℕ) (c : Coded) (p j : ℕ) (s : Seen) : Type 0 where
  pub part : j < n
  pub fresh : (c.held_at_start p j ≤ s.fresh 1) × IsKnownCode c (s.fresh 1)
  pub overlaps : (y : ℕ) → IsTrue (among y (s.overlaps 1)) → (c.held_at_start p j ≤ y) × IsKnownCode c y

-- p may write x to its row: x is known, no lower than what p holds and than its floor, and the row
-- takes one more write
pub record WritesRow (c : Coded) (p : ℕ) (o : Op) (x : ℕ) : Type 0 where
  pub held : c.held p ≤ x
  pub floor : c.floor p ≤ x
  pub known : IsKnownCode c x
  pub took : HasTakenCode c p o x
  pub room : c.limit (c.rows p) ≡ true

-- what holds of process p's operation in this phase
abbrev pub HoldsInPhase : ℕ → Coded → ℕ → (ℕ → Seen) → Phase → Type 0
HoldsInPhase n c p parts Rests = ⊤
HoldsInPhase n c p parts (WillRead o j g) = KnowsColumn n c p o j g
HoldsInPhase n c p parts (IsReading o j g) = KnowsColumn n c p o j g × ReadsPart n c p j (parts (j * n + p))
HoldsInPhase n c p parts (WillWrite o j x) = WritesRow c p o x
HoldsInPhase n c p parts (IsWriting o j x) = WritesRow c p o x

-- the matrix's invariant
pub record Invariant (n V : ℕ) (c : Coded) (f : ℕ → Phase) (parts : ℕ → Seen) : Type 0 where
  pub row : (a b : ℕ) → a < n → b < n → PartShows (c.held a) (c.rows a) (f a) b (parts (a * n + b))
  pub top : (a : ℕ) × ((a < n) × (c.top ≤ c.held a))
  pub known : (a : ℕ) → a < n → IsKnownCode c (c.held a)
  pub taken : (q k x : ℕ) → c.code q k ≡ Some x → (q < n) × ((writer_of n V x ≡ q) × ((x ≤ c.held q) ⊎ WritesCode (f q) x))
  pub below : (q a : ℕ) → a < n → c.held_at_start q a ≤ c.held a
  pub later : (q k : ℕ) → c.count q < k → c.code q k ≡ None
  pub works : (p : ℕ) → p < n → HoldsInPhase n c p parts (f p)

-- what others do from c to d leaves what process q relies on: what is known of q itself is the
-- same, no process holds a lower code, and known codes stay known
pub record StaysFor (n q : ℕ) (c d : Coded) : Type 0 where
  pub held : (a : ℕ) → a < n → c.held a ≤ d.held a
  pub own : c.held q ≡ d.held q
  pub held_at_start : (a : ℕ) → c.held_at_start q a ≡ d.held_at_start q a
  pub floor : c.floor q ≡ d.floor q
  pub value : c.value q ≡ d.value q
  pub count : c.count q ≡ d.count q
  pub code : (k : ℕ) → c.code q k ≡ d.code q k
  pub writing : c.writing q ≡ d.writing q
  pub limit : c.limit ≡ d.limit
  pub rows : c.rows q ≡ d.rows q
  pub known : (x : ℕ) → IsKnownCode c x → IsKnownCode d x

-- if nothing changes, what process q relies on stays
pub stays_for_same : (n q : ℕ) (c : Coded) → StaysFor n q c c
stays_for_same n q c = record { held = λ a la. omega arith; own = refl; held_at_start = λ a. refl; floor = refl; value = refl; count = refl; code = λ k. refl; writing = refl; limit = refl; rows = refl; known = λ x k. k }

-- the code of q's current write, if it has one, stays
pub current_code_stays : (n q : ℕ) (c d : Coded) → StaysFor n q c d → c.code q (c.count q) ≡ d.code q (d.count q)
current_code_stays n q c d l = l.code (c.count q) ∙ ap (d.code q) l.count

-- from s to t, q's read of part a of its column keeps its fresh value, and further writes that
-- overlap it are of known codes, no lower than what process a held when q's operation began
pub record OverlapsGrow (c : Coded) (q a : ℕ) (s t : Seen) : Type 0 where
  pub fresh : s.fresh 1 ≡ t.fresh 1
  pub overlaps : (y : ℕ) → IsTrue (among y (t.overlaps 1)) → IsTrue (among y (s.overlaps 1)) ⊎ ((c.held_at_start q a ≤ y) × IsKnownCode c y)

-- no further writes overlap a read if the part shows the same
pub overlaps_same : (c : Coded) (q a : ℕ) (s : Seen) → OverlapsGrow c q a s s
overlaps_same c q a s = record { fresh = refl; overlaps = λ y m. inl m }

-- what q knows of its column stays known
knows_column_later : (n q : ℕ) (c d : Coded) (o : Op) (j g : ℕ) → q < n → StaysFor n q c d → KnowsColumn n c q o j g → KnowsColumn n d q o j g
knows_column_later n q c d o j g lq l h = record {
  own = sym (l.held_at_start q) ∙ h.own ∙ l.own;
  witness =
      (let w = h.witness in let e : c.held_at_start q w.0 ≡ d.held_at_start q w.0 = l.held_at_start w.0 in let r : c.floor q ≤ c.held_at_start q w.0 = w.1.1 in
      (w.0, (w.1.0, omega (arith, e, r, l.floor))));
  at_least = λ a la. (let e : c.held_at_start q a ≡ d.held_at_start q a = l.held_at_start a in let r : c.held_at_start q a ≤ g = h.at_least a la in omega (arith, e, r));
  greatest_known = elim (h.greatest_known) [ inl e ↦ inl e | inr k ↦ inr (l.known g k) ];
  free = still_free o h.free;
}
  where
    still_free : (o : Op) → HasNoCode c q o → HasNoCode d q o
    still_free (Write v) h = (sym (current_code_stays n q c d l) ∙ h.0, sym l.value ∙ h.1, sym l.writing ∙ h.2)
    still_free Read h = sym l.writing ∙ h

-- what q's read of a part may give stays so
reads_part_later : (n q : ℕ) (c d : Coded) (j : ℕ) (s t : Seen) → StaysFor n q c d → OverlapsGrow d q j s t → ReadsPart n c q j s → ReadsPart n d q j t
reads_part_later n q c d j s t l m h = record {
  part = h.part;
  fresh = (let e : c.held_at_start q j ≡ d.held_at_start q j = l.held_at_start j in let r : c.held_at_start q j ≤ s.fresh 1 = h.fresh.0 in
      (omega (arith, e, r, m.fresh), subst (IsKnownCode d) m.fresh (l.known (s.fresh 1) h.fresh.1)));
  overlaps = λ y i. elim (m.overlaps y i) [
    | inl o ↦ (let e : c.held_at_start q j ≡ d.held_at_start q j = l.held_at_start j in let r : c.held_at_start q j ≤ y = (h.overlaps y o).0 in (omega (arith, e, r), l.known y (h.overlaps y o).1))
    | inr k ↦ k
  ];
}

-- what q may write to its row, it still may
writes_row_later : (n q : ℕ) (c d : Coded) (o : Op) (x : ℕ) → StaysFor n q c d → WritesRow c q o x → WritesRow d q o x
writes_row_later n q c d o x l h = record {
  held = (let r : c.held q ≤ x = h.held in omega (arith, r, l.own));
  floor = (let r : c.floor q ≤ x = h.floor in omega (arith, r, l.floor));
  known = l.known x h.known;
  took = takes o h.took;
  room = sym (λ i. l.limit i (l.rows i)) ∙ h.room;
}
  where
    takes : (o : Op) → HasTakenCode c q o x → HasTakenCode d q o x
    takes (Write v) h = (sym (current_code_stays n q c d l) ∙ h.0, sym l.writing ∙ h.1)
    takes Read h = sym l.writing ∙ h

-- what holds of process q still holds after a step of another process
pub holds_in_phase_later : (n q : ℕ) (c d : Coded) (parts to : ℕ → Seen) → q < n → StaysFor n q c d → ((a : ℕ) → a < n → OverlapsGrow d q a (parts (a * n + q)) (to (a * n + q)))
    → (x : Phase) → HoldsInPhase n c q parts x → HoldsInPhase n d q to x
holds_in_phase_later n q c d parts to lq l m Rests h = tt
holds_in_phase_later n q c d parts to lq l m (WillRead o j g) h = knows_column_later n q c d o j g lq l h
holds_in_phase_later n q c d parts to lq l m (IsReading o j g) h =
    (knows_column_later n q c d o j g lq l h.0, reads_part_later n q c d j (parts (j * n + q)) (to (j * n + q)) l (m j h.1.part) h.1)
holds_in_phase_later n q c d parts to lq l m (WillWrite o j x) h = writes_row_later n q c d o x l h
holds_in_phase_later n q c d parts to lq l m (IsWriting o j x) h = writes_row_later n q c d o x l h
