-- Two safe bits are a safe register of four values.
use Rattle.std.proofs.Common.{◌≡◌, ℕ, Bool, true, false, Option, Some, None, ◌≤◌, ◌+◌, ◌-◌, ◌*◌, refl, sym, ap, ◌∙◌, subst, arith, List, []}
use Rattle.std.specs.List.{AllByRecursion}
use Rattle.std.specs.Prelude.{nat_le, if◌then◌else◌}
use Rattle.std.proofs.lemmas.Bool.Decides.{nat_tests}
use Rattle.safe_bit.specs.Memory.{Memory}
use Rattle.frames.specs.declared.types.Op.{Op}
use Rattle.frames.specs.declared.types.Op.TheVariants.{Read, Write}
use Rattle.frames.specs.declared.types.Outcome.{Outcome}
use Rattle.frames.specs.declared.types.Outcome.TheVariants.{Value, Written, Spent}
use Rattle.frames.specs.declared.types.Event.{Event}
use Rattle.frames.specs.declared.types.Event.TheVariants.{Invoke, Got, Wrote}
use Rattle.frames.specs.Behaviour.{Behaviour, IsLawful, Answers}
use Rattle.frames.specs.Configuration.{in_order, chosen_of}
use Rattle.frames.specs.OneWriter.{one_writer}
use Rattle.frames.specs.laws.OneWriter as writer
use Rattle.frames.specs.correctness.Regularity.{in_progress, IsSafe}
use Rattle.frames.proofs.Seen.{Seen, opening, sees, got, now_last, IsFreshAlone, end_event}
use Rattle.frames.proofs.KnownAndSeen.{fresh_alike}
use Rattle.frames.proofs.VerdictFacts.{none_in_progress, is_fresh, fresh_value}
use Rattle.frames.proofs.Pointwise.{put, put_same, put_other, put_zero, put_all}
use Rattle.layers.specs.Nested.{Ends, Table, layered}
use Rattle.layers.specs.Sound.{IsNotSpent, IsSoundTable, FitsBelow}
use Rattle.layers.specs.laws.Over.{over}
use Rattle.layers.proofs.Law.{TaskInProgress, View, Watch, Runs, IsKept, IsUser}
use Rattle.layers.proofs.LayerLaw.{IsGoodStep, good_begun, good_gone, good_passes, layer_promises}
use Rattle.own_register.specs.declared.task.TwoBitsTask.{TwoBitsTask}
use Rattle.own_register.specs.declared.task.TwoBitsTask.TheVariants.{WriteHigh, WriteLow, ReadHigh, ReadLow}
use Rattle.own_register.specs.Program.{high_of, low_of, with_bit, write_low, read_low, two_bits_program, two_bits_rest, two_bits_table, TwoBitsMayBeAt}

-- what a history shows of a register's writes: the value written last, and the one being written
pub record Writes : Type 0 where
  pub last : ℕ
  pub writing : Option ℕ

-- what a history shows of one process's last read: the value fresh at its invocation, and the
-- values of the writes that overlap it
pub record Reader : Type 0 where
  pub fresh : ℕ
  pub overlaps : List ℕ

-- of what a history shows, what it shows of the register's writes
abbrev pub writes : Seen → Writes
writes s = record { last = s.last; writing = s.writing }

-- of what a history shows, what it shows of process r's last read
abbrev pub reader : ℕ → Seen → Reader
reader r s = record { fresh = s.fresh r; overlaps = s.overlaps r }

-- no write is in progress, and the bits are those of the value written last
pub record Still (own high low : Writes) : Type 0 where
  pub writing : own.writing ≡ None
  pub high_last : high.last ≡ high_of own.last
  pub low_last : low.last ≡ low_of own.last
  pub high_idle : high.writing ≡ None
  pub low_idle : low.writing ≡ None

-- a write of v is writing the high bit
pub record InHigh (v : ℕ) (own high low : Writes) : Type 0 where
  pub writing : own.writing ≡ Some v
  pub here : high.writing ≡ Some (high_of v)
  pub low_idle : low.writing ≡ None

-- a write of v has written the high bit, and of the low bit it is writing `now`
pub record InLow (v : ℕ) (now : Option ℕ) (own high low : Writes) : Type 0 where
  pub writing : own.writing ≡ Some v
  pub high_last : high.last ≡ high_of v
  pub high_idle : high.writing ≡ None
  pub here : low.writing ≡ now

-- what each task of the writer says of the writes of the register, of the high bit and of the low
-- bit
abbrev pub WriterIn : TwoBitsTask → Writes → Writes → Writes → Type 0
WriterIn (WriteHigh v) own high low = InHigh v own high low
WriterIn (WriteLow v) own high low = InLow v (Some (low_of v)) own high low
WriterIn (ReadHigh who) own high low = ⊥
WriterIn (ReadLow who x) own high low = ⊥

-- what the writer's task says of the register's and of the two bits' writes
abbrev pub WriterSays : Option (TaskInProgress TwoBitsTask) → Writes → Writes → Writes → Type 0
WriterSays None own high low = Still own high low
WriterSays (Some n) own high low = WriterIn n.task own high low

-- no write has been in progress since the read's invocation, so its read of a bit overlaps none
-- either
pub record Alone (own : Writes) (mine part : Reader) (bit_of : ℕ → ℕ) : Type 0 where
  pub writing : own.writing ≡ None
  pub last : own.last ≡ mine.fresh
  pub overlaps : part.overlaps ≡ []
  pub fresh : part.fresh ≡ bit_of mine.fresh

-- what each task of a reader says of its read, if no write overlaps the read
abbrev pub ReaderIn : TwoBitsTask → Writes → Reader → Reader → Reader → Type 0
ReaderIn (WriteHigh v) own mine high low = Unit {0}
ReaderIn (WriteLow v) own mine high low = Unit {0}
ReaderIn (ReadHigh who) own mine high low = mine.overlaps ≡ [] → Alone own mine high high_of
ReaderIn (ReadLow who x) own mine high low = mine.overlaps ≡ [] → (x ≡ high_of mine.fresh) × Alone own mine low low_of

-- what a reader's task says of its read, if no write overlaps it
abbrev pub ReaderSays : Option (TaskInProgress TwoBitsTask) → Writes → Reader → Reader → Reader → Type 0
ReaderSays None own mine high low = Unit {0}
ReaderSays (Some n) own mine high low = ReaderIn n.task own mine high low

-- in view j: what a task of reader r says of r's read, if no write overlaps the read
abbrev pub ReaderAt : Seen → View TwoBitsTask → Option (TaskInProgress TwoBitsTask) → ℕ → Type 0
ReaderAt u j task r = ReaderSays task (writes u) (reader r u) (reader r (j.parts 0)) (reader r (j.parts 1))

-- in view j: what the writer's task says of the writes of the register and of both bits
abbrev pub WriterAt : Seen → View TwoBitsTask → Option (TaskInProgress TwoBitsTask) → Type 0
WriterAt u j task = WriterSays task (writes u) (writes (j.parts 0)) (writes (j.parts 1))

-- the invariant: what the tasks of the writer and of all readers say
pub record TwoBitsInv (u : Seen) (j : View TwoBitsTask) : Type 0 where
  pub writer : WriterAt u j (j.tasks 0)
  pub readers : (r : ℕ) → 1 ≤ r → ReaderAt u j (j.tasks r) r

-- reads of bits that overlap no write are fresh, and the invariant holds
abbrev pub two_bits_watch : Watch TwoBitsTask Seen
two_bits_watch = record { Good = IsFreshAlone; Inv = TwoBitsInv }

-- what holds after a write that ended holds after each outcome that it can have, and what holds
-- after a read that gave any value holds after each outcome that it can have
by_write : (v : ℕ) (Q : Outcome → Type 0) (o : Outcome) → Answers 2 (Write v) o → IsNotSpent o → Q Written → Q o
by_write v Q Written answers on q = q
by_write v Q (Value x) answers on q = absurd answers
by_write v Q (Spent layer) answers on q = absurd on

by_read : (Q : Outcome → Type 0) (o : Outcome) → Answers 2 Read o → IsNotSpent o → ((x : ℕ) → Q (Value x)) → Q o
by_read Q (Value x) answers on q = q x
by_read Q Written answers on q = absurd answers
by_read Q (Spent layer) answers on q = absurd on

-- while no write is in progress, both bits are idle, and hold the bits of the value written last
still : (task : Option (TaskInProgress TwoBitsTask)) (own high low : Writes) → WriterSays task own high low → own.writing ≡ None → Still own high low
still None own high low h e = h
still (Some n) own high low h e = in_task n.task h
  where
    in_task : (task : TwoBitsTask) → WriterIn task own high low → Still own high low
    in_task (WriteHigh v) h = let w : own.writing ≡ Some v = h.writing in let f : ⊥ = cc in absurd f
    in_task (WriteLow v) h = let w : own.writing ≡ Some v = h.writing in let f : ⊥ = cc in absurd f
    in_task (ReadHigh who) h = absurd h
    in_task (ReadLow who x) h = absurd h

-- if a write overlaps a read, what the reader's task says holds, whatever the bits show
overlapped : (task : Option (TaskInProgress TwoBitsTask)) (own : Writes) (mine high low : Reader) → (mine.overlaps ≡ [] → ⊥) → ReaderSays task own mine high low
overlapped None own mine high low busy = tt
overlapped (Some n) own mine high low busy = in_task n.task
  where
    in_task : (task : TwoBitsTask) → ReaderIn task own mine high low
    in_task (WriteHigh v) = tt
    in_task (WriteLow v) = tt
    in_task (ReadHigh who) = λ o. absurd (busy o)
    in_task (ReadLow who x) = λ o. absurd (busy o)

-- while a write is in progress, it overlaps every pending read, so what a reader's task says keeps
-- holding, whatever the bits then show
busy : (v : ℕ) (task : Option (TaskInProgress TwoBitsTask)) (own to : Writes) (mine high low high' low' : Reader) → own.writing ≡ Some v → ReaderSays task own mine high low → ReaderSays task to mine high' low'
busy v None own to mine high low high' low' w h = tt
busy v (Some n) own to mine high low high' low' w h = in_task n.task h
  where
    alone : (part : Reader) (bit_of : ℕ → ℕ) → Alone own mine part bit_of → ⊥
    alone part bit_of a = let e : own.writing ≡ None = a.writing in cc

    in_task : (task : TwoBitsTask) → ReaderIn task own mine high low → ReaderIn task to mine high' low'
    in_task (WriteHigh v) h = tt
    in_task (WriteLow v) h = tt
    in_task (ReadHigh who) h = λ o. absurd (alone high high_of (h o))
    in_task (ReadLow who x) h = λ o. absurd (alone low low_of (h o).1)

-- the invocation of a read by p changes nothing of another process's last read
other_reader : (p r : ℕ) (s : Seen) → (r ≡ p → ⊥) → reader r s ≡ reader r (sees (Some (Invoke p Read)) s)
other_reader p r s ne = λ i. record { fresh = sym (put_other p r s.last s.fresh ne) i; overlaps = sym (put_other p r (in_progress s.writing) s.overlaps ne) i }

-- the high and the low bit of a value give the value again
value_of_bits : (v : ℕ) → 2 * high_of v + low_of v ≡ v
value_of_bits v = by_test (nat_le 2 v) refl
  where
    by_test : (c : Bool) → nat_le 2 v ≡ c → 2 * (if c then 1 else 0) + (if c then v - 2 else v) ≡ v
    by_test true e = let big : 2 ≤ v = grind (arith, nat_tests, e) in omega (arith, big)
    by_test false e = omega arith

module _ (processes : ℕ) where
  abbrev table : Table TwoBitsTask
  table = two_bits_table processes

  -- the invariant of the view with the writer's task changed
  set_writer : (u : Seen) (j : View TwoBitsTask) (p : ℕ) (n : Option (TaskInProgress TwoBitsTask)) → p ≡ 0 → WriterAt u j n → ((r : ℕ) → 1 ≤ r → ReaderAt u j (j.tasks r) r) → TwoBitsInv u (record j { tasks = put p n j.tasks })
  set_writer u j p n zp wr rs = record {
    writer = subst (WriterAt u j) (sym (put_zero p n j.tasks zp)) wr;
    readers = put_all (λ r y. 1 ≤ r → ReaderAt u j y r) p n j.tasks (λ l. absurd (omega (arith, l, zp))) (λ r ne l. rs r l);
  }

  -- the invariant of the view with the task of reader p changed
  set_reader : (u : Seen) (j : View TwoBitsTask) (p : ℕ) (n : Option (TaskInProgress TwoBitsTask)) → 1 ≤ p → WriterAt u j (j.tasks 0) → ((r : ℕ) → 1 ≤ r → (r ≡ p → ⊥) → ReaderAt u j (j.tasks r) r) → ReaderAt u j n p
      → TwoBitsInv u (record j { tasks = put p n j.tasks })
  set_reader u j p n lo wr rs me = record {
    writer = subst (WriterAt u j) (sym (put_other p 0 n j.tasks (λ e. omega (arith, e, lo)))) wr;
    readers = put_all (λ r y. 1 ≤ r → ReaderAt u j y r) p n j.tasks (λ l. me) (λ r ne l. rs r l ne);
  }

  -- a write that has written both bits ends, and keeps the invariant
  write_ends : (v p : ℕ) (op : Op) (Out : Option Event → Seen → Type 0) (u : Seen) (j : View TwoBitsTask) → p ≡ 0 → InLow v None (writes u) (writes (j.parts 0)) (writes (j.parts 1)) → (j.parts 1).last ≡ low_of v
      → ((r : ℕ) → 1 ≤ r → ReaderAt u j (j.tasks r) r) → Out (Some (Wrote p)) (sees (Some (Wrote p)) u) → Runs table two_bits_watch p op Out (Ends Written) j
  write_ends v p op Out u j zp h low rs oe =
      let z : Seen = sees (Some (Wrote p)) u in
      let last : v ≡ z.last = sym (ap (λ o. now_last o u.last) h.writing) in
      let idle : WriterAt z j None = record { writing = refl; high_last = h.high_last ∙ ap high_of last; low_last = low ∙ ap low_of last; high_idle = h.high_idle; low_idle = h.here } in
      (z, (oe, set_writer z j p None zp idle (λ r l. busy v (j.tasks r) (writes u) (writes z) (reader r u) (reader r (j.parts 0)) (reader r (j.parts 1)) (reader r (j.parts 0)) (reader r (j.parts 1)) h.writing (rs r l))))

  -- the rest of a write that has written the high bit keeps the invariant
  writes_low : (v p : ℕ) (op : Op) (Out : Option Event → Seen → Type 0) (u : Seen) (j : View TwoBitsTask) → p ≡ 0 → InLow v None (writes u) (writes (j.parts 0)) (writes (j.parts 1))
      → ((r : ℕ) → 1 ≤ r → ReaderAt u j (j.tasks r) r) → Out None u → Out (Some (Wrote p)) (sees (Some (Wrote p)) u) → Runs table two_bits_watch p op Out (write_low v) j
  writes_low v p op Out u j zp h rs on oe =
      let s : Seen = sees (Some (Invoke 0 (Write (low_of v)))) (j.parts 1) in
      let mid : View TwoBitsTask = record j { parts = put 1 s j.parts } in
      let end : View TwoBitsTask = record j { parts = put 1 (sees (Some (Wrote 0)) s) j.parts } in
      let here : WriterAt u mid (Some (record { op = op; task = WriteLow v })) = record { writing = h.writing; high_last = h.high_last; high_idle = h.high_idle; here = refl } in
      let done : InLow v None (writes u) (writes (end.parts 0)) (writes (end.parts 1)) = record { writing = h.writing; high_last = h.high_last; high_idle = h.high_idle; here = refl } in
      let now : (r : ℕ) → 1 ≤ r → ReaderAt u mid (j.tasks r) r =
      λ r l. busy v (j.tasks r) (writes u) (writes u) (reader r u) (reader r (j.parts 0)) (reader r (j.parts 1)) (reader r (j.parts 0)) (reader r s) h.writing (rs r l) in (
        (u, (on, set_writer u mid p (Some (record { op = op; task = WriteLow v })) zp here now)),
        λ o answers pass good. by_write (low_of v) (λ o. Runs table two_bits_watch p op Out (Ends Written) (record j { parts = put 1 (sees (Some (end_event 0 o)) s) j.parts })) o answers pass
            (write_ends v p op Out u end zp done refl now oe),
      )

  -- a write from its invocation on keeps the invariant
  begins_write : (u : Seen) (j : View TwoBitsTask) (p v : ℕ) → TwoBitsInv u j → j.tasks p ≡ None → p ≡ 0
      → Runs table two_bits_watch p (Write v) (λ e. IsGoodStep IsFreshAlone u (in_order (Some (Invoke p (Write v))) e)) (two_bits_program p (Write v)) j
  begins_write u j p v h free zp =
      let Out : Option Event → Seen → Type 0 = λ e. IsGoodStep IsFreshAlone u (in_order (Some (Invoke p (Write v))) e) in
      let idle : WriterAt u j None = subst (WriterAt u j) (sym (ap j.tasks zp) ∙ free) h.writer in
      let z : Seen = sees (Some (Invoke p (Write v))) u in
      let s : Seen = sees (Some (Invoke 0 (Write (high_of v)))) (j.parts 0) in
      let mid : View TwoBitsTask = record j { parts = put 0 s j.parts } in
      let end : View TwoBitsTask = record j { parts = put 0 (sees (Some (Wrote 0)) s) j.parts } in
      let here : WriterAt z mid (Some (record { op = Write v; task = WriteHigh v })) = record { writing = refl; here = refl; low_idle = idle.low_idle } in
      let done : InLow v None (writes z) (writes (end.parts 0)) (writes (end.parts 1)) = record { writing = refl; high_last = refl; high_idle = refl; here = idle.low_idle } in
      let now : (r : ℕ) → 1 ≤ r → ReaderAt z mid (j.tasks r) r = λ r l. overlapped (j.tasks r) (writes z) (reader r z) (reader r s) (reader r (j.parts 1)) (λ o. cc) in
      let on : Out None z = good_begun IsFreshAlone p (Write v) None u refl tt in
      let oe : Out (Some (Wrote p)) (sees (Some (Wrote p)) z) = good_begun IsFreshAlone p (Write v) (Some (Wrote p)) u refl tt in (
        (z, (on, set_writer z mid p (Some (record { op = Write v; task = WriteHigh v })) zp here now)),
        λ o answers pass good. by_write (high_of v) (λ o. Runs table two_bits_watch p (Write v) Out (write_low v) (record j { parts = put 0 (sees (Some (end_event 0 o)) s) j.parts })) o answers pass
            (writes_low v p (Write v) Out z end zp done now on oe),
      )

  -- a read of a bit that no write of the bit overlaps gives the fresh value
  bit_given : (p x : ℕ) (s : Seen) → IsFreshAlone (record { reader = p; value = x; fresh = s.fresh p; overlaps = s.overlaps p }) → s.overlaps p ≡ [] → x ≡ s.fresh p
  bit_given p x s g o = fresh_value (record { reader = p; value = x; fresh = s.fresh p; overlaps = s.overlaps p }) (g o)

  -- a read that got these two bits ends, and keeps the invariant
  read_ends : (p high low : ℕ) (op : Op) (Out : Option Event → Seen → Type 0) (u : Seen) (j : View TwoBitsTask) → 1 ≤ p → WriterAt u j (j.tasks 0) → ((r : ℕ) → 1 ≤ r → (r ≡ p → ⊥) → ReaderAt u j (j.tasks r) r)
      → ReaderAt u j (Some (record { op = op; task = ReadLow p high })) p → IsFreshAlone (record { reader = p; value = low; fresh = (j.parts 1).fresh p; overlaps = (j.parts 1).overlaps p })
      → ((x : ℕ) → IsFreshAlone (record { reader = p; value = x; fresh = u.fresh p; overlaps = u.overlaps p }) → Out (Some (Got p x)) u)
      → Runs table two_bits_watch p op Out (Ends (Value (2 * high + low))) j
  read_ends p high low op Out u j lo wr rs me good oe =
      let x : ℕ = 2 * high + low in
      let right : u.overlaps p ≡ [] → x ≡ u.fresh p = λ o.
      (let f = me o in ap (λ b. 2 * b + low) f.0 ∙ ap (λ b. 2 * high_of (u.fresh p) + b) (bit_given p low (j.parts 1) good f.1.overlaps ∙ f.1.fresh) ∙ value_of_bits (u.fresh p)) in
      (u, (oe x (λ o. is_fresh (record { reader = p; value = x; fresh = u.fresh p; overlaps = u.overlaps p }) (right o)), set_reader u j p None lo wr rs tt))

  -- the rest of a read that got this high bit keeps the invariant
  reads_low : (p high : ℕ) (op : Op) (Out : Option Event → Seen → Type 0) (u : Seen) (j : View TwoBitsTask) → 1 ≤ p → WriterAt u j (j.tasks 0) → ((r : ℕ) → 1 ≤ r → (r ≡ p → ⊥) → ReaderAt u j (j.tasks r) r)
      → ReaderAt u j (Some (record { op = op; task = ReadHigh p })) p → IsFreshAlone (record { reader = p; value = high; fresh = (j.parts 0).fresh p; overlaps = (j.parts 0).overlaps p })
      → Out None u → ((x : ℕ) → IsFreshAlone (record { reader = p; value = x; fresh = u.fresh p; overlaps = u.overlaps p }) → Out (Some (Got p x)) u)
      → Runs table two_bits_watch p op Out (read_low p high) j
  reads_low p high op Out u j lo wr rs me good on oe =
      let n : TaskInProgress TwoBitsTask = record { op = op; task = ReadLow p high } in
      let q : Seen = j.parts 1 in
      let s : Seen = sees (Some (Invoke p Read)) q in
      let mid : View TwoBitsTask = record j { parts = put 1 s j.parts } in
      let others : (r : ℕ) → 1 ≤ r → (r ≡ p → ⊥) → ReaderAt u mid (j.tasks r) r =
      λ r l ne. subst (ReaderSays (j.tasks r) (writes u) (reader r u) (reader r (j.parts 0))) (other_reader p r q ne) (rs r l ne) in
      let mine : ReaderAt u mid (Some n) p = λ o.
      (let f = me o in
      let st : Still (writes u) (writes (j.parts 0)) (writes q) = still (j.tasks 0) (writes u) (writes (j.parts 0)) (writes q) wr f.writing in (
        bit_given p high (j.parts 0) good f.overlaps ∙ f.fresh,
        record {
          writing = f.writing;
          last = f.last;
          overlaps = put_same p (in_progress q.writing) q.overlaps ∙ ap in_progress st.low_idle;
          fresh = put_same p q.last q.fresh ∙ st.low_last ∙ ap low_of f.last;
        },
      )) in (
        (u, (on, set_reader u mid p (Some n) lo wr others mine)),
        λ o answers pass good. by_read (λ o. AllByRecursion IsFreshAlone (got (Some (end_event p o)) s) → Runs table two_bits_watch p op Out (with_bit (λ low. Ends (Value (2 * high + low))) o) (record j { parts = put 1 (sees (Some (end_event p o)) s) j.parts }))
            o answers pass (λ low good. read_ends p high low op Out u mid lo wr others mine good.0 oe) good,
      )

  -- a read from its invocation on keeps the invariant
  begins_read : (u : Seen) (j : View TwoBitsTask) (p : ℕ) → TwoBitsInv u j → 1 ≤ p
      → Runs table two_bits_watch p Read (λ e. IsGoodStep IsFreshAlone u (in_order (Some (Invoke p Read)) e)) (two_bits_program p Read) j
  begins_read u j p h lo =
      let Out : Option Event → Seen → Type 0 = λ e. IsGoodStep IsFreshAlone u (in_order (Some (Invoke p Read)) e) in
      let n : TaskInProgress TwoBitsTask = record { op = Read; task = ReadHigh p } in
      let q : Seen = j.parts 0 in
      let z : Seen = sees (Some (Invoke p Read)) u in
      let s : Seen = sees (Some (Invoke p Read)) q in
      let mid : View TwoBitsTask = record j { parts = put 0 s j.parts } in
      let others : (r : ℕ) → 1 ≤ r → (r ≡ p → ⊥) → ReaderAt z mid (j.tasks r) r = λ r l ne.
      subst (λ y. ReaderSays (j.tasks r) (writes z) (reader r z) y (reader r (j.parts 1))) (other_reader p r q ne)
      (subst (λ y. ReaderSays (j.tasks r) (writes u) y (reader r q) (reader r (j.parts 1))) (other_reader p r u ne) (h.readers r l)) in
      let mine : ReaderAt z mid (Some n) p = λ o.
      (let none : u.writing ≡ None = none_in_progress u.writing (sym (put_same p (in_progress u.writing) u.overlaps) ∙ o) in
      let st : Still (writes u) (writes q) (writes (j.parts 1)) = still (j.tasks 0) (writes u) (writes q) (writes (j.parts 1)) h.writer none in
      let last : u.last ≡ z.fresh p = sym (put_same p u.last u.fresh) in record {
        writing = none;
        last = last;
        overlaps = put_same p (in_progress q.writing) q.overlaps ∙ ap in_progress st.high_idle;
        fresh = put_same p q.last q.fresh ∙ st.high_last ∙ ap high_of last;
      }) in
      let on : Out None z = good_begun IsFreshAlone p Read None u refl tt in (
        (z, (on, set_reader z mid p (Some n) lo h.writer others mine)),
        λ o answers pass good. by_read (λ o. AllByRecursion IsFreshAlone (got (Some (end_event p o)) s) → Runs table two_bits_watch p Read Out (with_bit (read_low p) o) (record j { parts = put 0 (sees (Some (end_event p o)) s) j.parts }))
            o answers pass (λ high good. reads_low p high Read Out z mid lo h.writer others mine good.0 on (λ x g. good_begun IsFreshAlone p Read (Some (Got p x)) u refl (g, tt))) good,
      )

  -- an operation from its invocation on keeps the invariant
  begins : (u : Seen) (j : View TwoBitsTask) (p : ℕ) (op : Op) → TwoBitsInv u j → j.tasks p ≡ None → one_writer 4 processes p op ≡ true
      → Runs table two_bits_watch p op (λ e. IsGoodStep IsFreshAlone u (in_order (Some (Invoke p op)) e)) (two_bits_program p op) j
  begins u j p (Write v) h free s = begins_write u j p v h free (writer.writer_zero 4 processes p v s)
  begins u j p Read h free s = begins_read u j p h (writer.reader_is_not_zero 4 processes p s)

  -- the run of p's operation once its task has ended with this outcome
  abbrev RunsAfterTask : Seen → View TwoBitsTask → ℕ → Op → Option (ℕ × Bool) → TwoBitsTask → Outcome → Type 0
  RunsAfterTask u j p op chosen task o =
      Answers 2 (table.asks task).op o → IsNotSpent o → AllByRecursion IsFreshAlone (got (Some (end_event (table.asks task).who o)) (j.parts (table.asks task).part))
      → Runs table two_bits_watch p op (λ e. IsGoodStep IsFreshAlone u (in_order (chosen_of p chosen) e)) (two_bits_rest task o)
      (record j { parts = put (table.asks task).part (sees (Some (end_event (table.asks task).who o)) (j.parts (table.asks task).part)) j.parts })

  -- an operation's run from each of its four tasks keeps the invariant
  goes_write_high : (u : Seen) (j : View TwoBitsTask) (p v : ℕ) (op : Op) (chosen : Option (ℕ × Bool)) (o : Outcome) → TwoBitsInv u j → p ≡ 0 → InHigh v (writes u) (writes (j.parts 0)) (writes (j.parts 1))
      → RunsAfterTask u j p op chosen (WriteHigh v) o
  goes_write_high u j p v op chosen o h zp wr = λ answers pass good.
      let Out : Option Event → Seen → Type 0 = λ e. IsGoodStep IsFreshAlone u (in_order (chosen_of p chosen) e) in
      let e : Seen = sees (Some (Wrote 0)) (j.parts 0) in
      let done : InLow v None (writes u) (writes e) (writes (j.parts 1)) = record {
        writing = wr.writing;
        high_last = ap (λ o. now_last o (j.parts 0).last) wr.here;
        high_idle = refl;
        here = wr.low_idle;
      } in
      by_write (high_of v) (λ o. Runs table two_bits_watch p op Out (write_low v) (record j { parts = put 0 (sees (Some (end_event 0 o)) (j.parts 0)) j.parts })) o answers pass
      (writes_low v p op Out u (record j { parts = put 0 e j.parts }) zp done h.readers
      (good_gone IsFreshAlone p chosen None u refl tt) (good_gone IsFreshAlone p chosen (Some (Wrote p)) u refl tt))

  goes_write_low : (u : Seen) (j : View TwoBitsTask) (p v : ℕ) (op : Op) (chosen : Option (ℕ × Bool)) (o : Outcome) → TwoBitsInv u j → p ≡ 0 → InLow v (Some (low_of v)) (writes u) (writes (j.parts 0)) (writes (j.parts 1))
      → RunsAfterTask u j p op chosen (WriteLow v) o
  goes_write_low u j p v op chosen o h zp wr = λ answers pass good.
      let Out : Option Event → Seen → Type 0 = λ e. IsGoodStep IsFreshAlone u (in_order (chosen_of p chosen) e) in
      let e : Seen = sees (Some (Wrote 0)) (j.parts 1) in
      let done : InLow v None (writes u) (writes (j.parts 0)) (writes e) = record { writing = wr.writing; high_last = wr.high_last; high_idle = wr.high_idle; here = refl } in
      by_write (low_of v) (λ o. Runs table two_bits_watch p op Out (Ends Written) (record j { parts = put 1 (sees (Some (end_event 0 o)) (j.parts 1)) j.parts })) o answers pass
      (write_ends v p op Out u (record j { parts = put 1 e j.parts }) zp done (ap (λ o. now_last o (j.parts 1).last) wr.here) h.readers
      (good_gone IsFreshAlone p chosen (Some (Wrote p)) u refl tt))

  goes_read_high : (u : Seen) (j : View TwoBitsTask) (p : ℕ) (chosen : Option (ℕ × Bool)) (o : Outcome) → TwoBitsInv u j → 1 ≤ p → j.tasks p ≡ Some (record { op = Read; task = ReadHigh p })
      → RunsAfterTask u j p Read chosen (ReadHigh p) o
  goes_read_high u j p chosen o h lo at = λ answers pass good.
      let Out : Option Event → Seen → Type 0 = λ e. IsGoodStep IsFreshAlone u (in_order (chosen_of p chosen) e) in
      by_read (λ o. AllByRecursion IsFreshAlone (got (Some (end_event p o)) (j.parts 0)) → Runs table two_bits_watch p Read Out (with_bit (read_low p) o) (record j { parts = put 0 (sees (Some (end_event p o)) (j.parts 0)) j.parts }))
      o answers pass (λ high good. reads_low p high Read Out u (record j { parts = put 0 (j.parts 0) j.parts }) lo h.writer (λ r l ne. h.readers r l) (subst (λ y. ReaderAt u j y p) at (h.readers p lo)) good.0
      (good_gone IsFreshAlone p chosen None u refl tt) (λ x g. good_gone IsFreshAlone p chosen (Some (Got p x)) u refl (g, tt))) good

  goes_read_low : (u : Seen) (j : View TwoBitsTask) (p high : ℕ) (chosen : Option (ℕ × Bool)) (o : Outcome) → TwoBitsInv u j → 1 ≤ p → j.tasks p ≡ Some (record { op = Read; task = ReadLow p high })
      → RunsAfterTask u j p Read chosen (ReadLow p high) o
  goes_read_low u j p high chosen o h lo at = λ answers pass good.
      let Out : Option Event → Seen → Type 0 = λ e. IsGoodStep IsFreshAlone u (in_order (chosen_of p chosen) e) in
      by_read (λ o. AllByRecursion IsFreshAlone (got (Some (end_event p o)) (j.parts 1)) → Runs table two_bits_watch p Read Out (with_bit (λ low. Ends (Value (2 * high + low))) o) (record j { parts = put 1 (sees (Some (end_event p o)) (j.parts 1)) j.parts }))
      o answers pass (λ low good. read_ends p high low Read Out u (record j { parts = put 1 (j.parts 1) j.parts }) lo h.writer (λ r l ne. h.readers r l) (subst (λ y. ReaderAt u j y p) at (h.readers p lo)) good.0
      (λ x g. good_gone IsFreshAlone p chosen (Some (Got p x)) u refl (g, tt))) good

  -- the rest of an operation, once its task has ended, keeps the invariant
  goes : (u : Seen) (j : View TwoBitsTask) (p : ℕ) (op : Op) (task : TwoBitsTask) (chosen : Option (ℕ × Bool)) (o : Outcome) → TwoBitsInv u j → j.tasks p ≡ Some (record { op = op; task = task })
      → TwoBitsMayBeAt processes p op task → RunsAfterTask u j p op chosen task o
  goes u j p (Write w) (WriteHigh v) chosen o h at may = goes_write_high u j p v (Write w) chosen o h may.0 (subst (WriterAt u j) (sym (ap j.tasks may.0) ∙ at) h.writer)
  goes u j p (Write w) (WriteLow v) chosen o h at may = goes_write_low u j p v (Write w) chosen o h may.0 (subst (WriterAt u j) (sym (ap j.tasks may.0) ∙ at) h.writer)
  goes u j p Read (ReadHigh r) chosen o h at may =
      subst (λ r. RunsAfterTask u j p Read chosen (ReadHigh r) o) (sym may.0)
      (goes_read_high u j p chosen o h may.1 (at ∙ ap (λ r. Some (record { op = Read; task = ReadHigh r })) may.0))
  goes u j p Read (ReadLow r high) chosen o h at may =
      subst (λ r. RunsAfterTask u j p Read chosen (ReadLow r high) o) (sym may.0)
      (goes_read_low u j p high chosen o h may.1 (at ∙ ap (λ r. Some (record { op = Read; task = ReadLow r high })) may.0))
  goes u j p _ _ chosen o h at may = absurd may

  -- the invariant holds at first
  holds_at_first : (v : ℕ) (j : View TwoBitsTask) → ((p : ℕ) → j.tasks p ≡ None) → j.parts 0 ≡ opening (high_of v) → j.parts 1 ≡ opening (low_of v) → TwoBitsInv (opening v) j
  holds_at_first v j free high low = record {
    writer = subst (WriterAt (opening v) j) (sym (free 0)) (record {
      writing = refl;
      high_last = ap (λ s. s.last) high;
      low_last = ap (λ s. s.last) low;
      high_idle = ap (λ s. s.writing) high;
      low_idle = ap (λ s. s.writing) low;
    });
    readers = λ r l. subst (λ y. ReaderAt (opening v) j y r) (sym (free r)) tt;
  }

  -- the invariant holds at first, every step keeps it, and a returned read that overlaps no write
  -- is fresh
  pub two_bits_kept : IsKept table (TwoBitsMayBeAt processes) two_bits_watch opening (IsGoodStep IsFreshAlone)
  two_bits_kept = record {
    initial = λ v l j words free parts. holds_at_first v j free (parts 0 (omega arith)) (parts 1 (omega arith));
    passes = good_passes two_bits_watch IsFreshAlone;
    begins = begins;
    goes = λ u j p n chosen o h at may. goes u j p n.op n.task chosen o h at may;
  }

  -- each process acts as itself on both bits
  pub two_bits_user : IsUser table (TwoBitsMayBeAt processes) (λ part who. who)
  two_bits_user p (Write w) (WriteHigh v) may = sym may.0
  two_bits_user p (Write w) (WriteLow v) may = sym may.0
  two_bits_user p Read (ReadHigh r) may = may.0
  two_bits_user p Read (ReadLow r high) may = may.0
  two_bits_user p _ _ may = absurd may

-- two safe bits are a safe register
pub two_bits_over_safe : {P : Type 0} (b : Behaviour P) (Holds : Memory → Type 0) (Reaches : ℕ → Op → P → Type 0) (processes : ℕ) (left : TwoBitsTask → ℕ) → IsLawful b Holds Reaches
    → IsSoundTable (two_bits_table processes) (TwoBitsMayBeAt processes) left → FitsBelow (two_bits_table processes) b → IsSafe b → IsSafe (layered (two_bits_table processes) b)
two_bits_over_safe b Holds Reaches processes left lawful sound fit safe =
    layer_promises (over lawful sound fit) (λ part who. who) (two_bits_user processes) IsFreshAlone two_bits_watch fresh_alike fresh_alike (λ who o h. h) safe (two_bits_kept processes)
