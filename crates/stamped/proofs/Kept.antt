-- A stamped register over a regular one is atomic: its returned reads can be numbered.
use Rattle.std.proofs.Common.{◌≡◌, ℕ, suc, Bool, true, false, Option, Some, None, ◌<◌, ◌≤◌, ◌==◌, ◌+◌, ◌*◌, IsTrue, refl, sym, ap, ◌∙◌, subst, arith, List, inl, inr}
use Rattle.std.specs.Prelude.{◌||◌, ◌%◌, max, if◌then◌else◌}
use Rattle.std.specs.List.{AllByRecursion}
use Rattle.std.proofs.lemmas.Bool.{eqb-true, cases_lt, cases_eq}
use Rattle.std.proofs.lemmas.Nat.{mod-mul-add}
use Rattle.std.proofs.Math.Nat.{mul-le-mul_right, suc-mul}
use Rattle.safe_bit.specs.Memory.{Memory}
use Rattle.frames.specs.declared.types.Op.{Op}
use Rattle.frames.specs.declared.types.Op.TheVariants.{Read, Write}
use Rattle.frames.specs.declared.types.Layer.TheVariants.{Stamped}
use Rattle.frames.specs.declared.types.Outcome.{Outcome}
use Rattle.frames.specs.declared.types.Outcome.TheVariants.{Value, Written, Spent}
use Rattle.frames.specs.declared.types.Event.{Event}
use Rattle.frames.specs.declared.types.Event.TheVariants.{Invoke, Got, Wrote, Chosen}
use Rattle.frames.specs.declared.types.Step.{Step}
use Rattle.frames.specs.Behaviour.{Behaviour, IsLawful, Answers}
use Rattle.frames.specs.Configuration.{in_order, chosen_of, history}
use Rattle.frames.specs.OneWriter.{one_writer}
use Rattle.frames.specs.laws.OneWriter as writer
use Rattle.frames.specs.Recorded.{AllFit, first_configuration}
use Rattle.frames.specs.correctness.Regularity.{in_progress, IsRegular, NotStray}
use Rattle.frames.proofs.Seen.{Seen, Returned, among, opening, sees, got, now_last, IsNotStray, refuses, end_event, Allowed}
use Rattle.frames.proofs.KnownAndSeen.{stray_alike}
use Rattle.frames.proofs.OneWriterPromises.{always_seen}
use Rattle.frames.specs.correctness.Regularity.{IsAtomic}
use Rattle.frames.proofs.VerdictFacts.{fresh_or_overlapping}
use Rattle.frames.proofs.Pointwise.{put, put_same, put_other}
use Rattle.frames.proofs.Numbering.{numbered_atomic}
use Rattle.layers.specs.Sound.{LayerHolds, LayerReaches}
use Rattle.layers.specs.laws.Layered.{layer_lawful}
use Rattle.frames.proofs.Counted.{Counted, uncounted, TakesCount, NumberedIf, NumberedStep}
use Rattle.layers.specs.Nested.{Ends, Asks, Sets, Table, layered}
use Rattle.layers.specs.Sound.{IsNotSpent, IsSoundTable, FitsBelow}
use Rattle.layers.specs.laws.Over.{over}
use Rattle.layers.proofs.Law.{View, Watch, Runs, IsKept, IsUser}
use Rattle.layers.proofs.LayerLaw.{layer_law}
use Rattle.stamped.specs.declared.task.StampedTask.{StampedTask}
use Rattle.stamped.specs.declared.task.StampedTask.TheVariants.{Writing, Reading}
use Rattle.stamped.specs.Program.{stamped_program, stamped_rest, stamped_table, stamped_code_count, StampedMayBeAt}

-- the code of write n, given the number of values
abbrev pub code_of_write : ℕ → Counted → ℕ → ℕ
code_of_write V c n = n * V + c.value n

-- y is the code of a write whose value the reader's last read may return
abbrev pub MayBeRead : ℕ → Counted → ℕ → Type 0
MayBeRead V c y = (n : ℕ) × ((c.low ≤ n) × ((n ≤ c.begun) × (y ≡ code_of_write V c n)))

-- the write below that is in progress writes the code of the last write begun; without one, all
-- writes have returned
abbrev pub WritesBelow : ℕ → Counted → Option ℕ → Type 0
WritesBelow V c None = c.done ≡ c.begun
WritesBelow V c (Some y) = y ≡ code_of_write V c c.begun

-- what the register below and both words show, in codes of the writes numbered in c, whose numbers
-- are their stamps
pub record Stamps (V : ℕ) (c : Counted) (s : Seen) (stamp best : ℕ) : Type 0 where
  pub small : (n : ℕ) → n ≤ c.begun → c.value n < V
  pub stamp_is : stamp ≡ c.begun
  pub best_is : best ≡ code_of_write V c c.floor
  pub floor : c.floor ≤ c.begun
  pub low : c.low ≤ c.done
  pub done : c.done ≤ c.begun
  pub last : s.last ≡ code_of_write V c c.done
  pub writing : WritesBelow V c s.writing
  pub fresh : s.fresh 1 ≡ code_of_write V c c.low
  pub overlaps : (y : ℕ) → IsTrue (among y (s.overlaps 1)) → MayBeRead V c y

-- the numbered writes once a write of v has begun
abbrev pub with_write_begun : ℕ → Counted → Counted
with_write_begun v c = record c { value = put (c.begun + 1) v c.value; begun = (c.begun + 1) }

-- the codes of earlier writes stay the same when one more write begins
same_code : (V v n : ℕ) (c : Counted) → n ≤ c.begun → code_of_write V c n ≡ code_of_write V (with_write_begun v c) n
same_code V v n c l = ap (λ x. n * V + x) (sym (put_other (c.begun + 1) n v c.value (λ e. omega (arith, e, l))))

-- `Stamps` holds at first: the initial value is its own code, with stamp 0
pub stamps_at_first : (V v : ℕ) (s : Seen) (stamp best : ℕ) → v < V → s ≡ opening v → stamp ≡ 0 → best ≡ v → Stamps V (uncounted v) s stamp best
stamps_at_first V v s stamp best l opened zero same =
    let zero_code : v ≡ code_of_write V (uncounted v) 0 = omega arith in
    subst (λ s. Stamps V (uncounted v) s stamp best) (sym opened) (record {
      small = λ n k. l;
      stamp_is = zero;
      best_is = same ∙ zero_code;
      floor = omega arith;
      low = omega arith;
      done = omega arith;
      last = zero_code;
      writing = refl;
      fresh = zero_code;
      overlaps = λ y m. (let n : ⊥ = cc in absurd n);
    })

-- `Stamps` holds after a write of v begins, and with it the write below of its code
pub stamps_after_write_begins : (V v p q : ℕ) (c : Counted) (s : Seen) (stamp best : ℕ) → Stamps V c s stamp best → s.writing ≡ None → v < V
    → Stamps V (with_write_begun v c) (sees (Some (Invoke q (Write ((stamp + 1) * V + v)))) s) (stamp + 1) best
stamps_after_write_begins V v p q c s stamp best h idle lv =
    let d : Counted = with_write_begun v c in
    let hl : c.low ≤ c.done = h.low in
    let hd : c.done ≤ c.begun = h.done in
    let hf : c.floor ≤ c.begun = h.floor in
    let new : (stamp + 1) * V + v ≡ code_of_write V d d.begun = ap (λ x. (x + 1) * V + v) h.stamp_is ∙ ap (λ x. (c.begun + 1) * V + x) (sym (put_same (c.begun + 1) v c.value)) in
    record {
      small = λ n l. elim (cases_eq n (c.begun + 1)) [
        | inl e ↦ subst (λ x. x < V) (sym (ap (put (c.begun + 1) v c.value) e ∙ put_same (c.begun + 1) v c.value)) lv
        | inr ne ↦ subst (λ x. x < V) (sym (put_other (c.begun + 1) n v c.value ne)) (h.small n (omega (arith, l, ne)))
      ];
      stamp_is = ap (λ x. x + 1) h.stamp_is;
      best_is = h.best_is ∙ same_code V v c.floor c hf;
      floor = omega (arith, hf);
      low = hl;
      done = omega (arith, hd);
      last = h.last ∙ same_code V v c.done c hd;
      writing = new;
      fresh = h.fresh ∙ same_code V v c.low c (omega (arith, hl, hd));
      overlaps = λ y m. go y ((stamp + 1) * V + v == y) refl m new;
    }
  where
    go : (y : ℕ) (b : Bool) → ((stamp + 1) * V + v == y) ≡ b → IsTrue (b || among y (s.overlaps 1)) → (stamp + 1) * V + v ≡ code_of_write V (with_write_begun v c) (c.begun + 1) → MayBeRead V (with_write_begun v c) y
    go y true e m new =
        let hl : c.low ≤ c.done = h.low in
        let hd : c.done ≤ c.begun = h.done in
        ((c.begun + 1), (omega (arith, hl, hd), (omega arith, sym (eqb-true ((stamp + 1) * V + v) y e) ∙ new)))
    go y false e m new =
        let o = h.overlaps y m in
        let l : o.0 ≤ c.begun = o.1.1.0 in
        (o.0, (o.1.0, (omega (arith, l), o.1.1.1 ∙ same_code V v o.0 c l)))

-- once the write in progress has returned, what was written last is the code of the last write
-- begun
now_last_is_begun : (V : ℕ) (c : Counted) (w : Option ℕ) (last : ℕ) → WritesBelow V c w → last ≡ code_of_write V c c.done → now_last w last ≡ code_of_write V c c.begun
now_last_is_begun V c None last w l = l ∙ ap (code_of_write V c) w
now_last_is_begun V c (Some y) last w l = w

-- `Stamps` holds after the write in progress has returned, if there is one
pub stamps_after_write_ends : (V q : ℕ) (c : Counted) (s : Seen) (stamp best : ℕ) → Stamps V c s stamp best → Stamps V (record c { done = c.begun }) (sees (Some (Wrote q)) s) stamp best
stamps_after_write_ends V q c s stamp best h =
    let hl : c.low ≤ c.done = h.low in
    let hd : c.done ≤ c.begun = h.done in
    record {
      small = h.small;
      stamp_is = h.stamp_is;
      best_is = h.best_is;
      floor = h.floor;
      low = omega (arith, hl, hd);
      done = omega arith;
      last = now_last_is_begun V c s.writing s.last h.writing h.last;
      writing = refl;
      fresh = h.fresh;
      overlaps = λ y m. h.overlaps y m;
    }

-- `Stamps` holds after a read returns the value of write n, whose code is now `best`: n becomes the
-- floor
pub stamps_after_read_ends : (V n : ℕ) (c : Counted) (s : Seen) (stamp best most : ℕ) → Stamps V c s stamp best → n ≤ c.begun → most ≡ code_of_write V c n → Stamps V (record c { floor = n }) s stamp most
stamps_after_read_ends V n c s stamp best most h few is = record {
  small = h.small;
  stamp_is = h.stamp_is;
  best_is = is;
  floor = few;
  low = h.low;
  done = h.done;
  last = h.last;
  writing = says s.writing h.writing;
  fresh = h.fresh;
  overlaps = λ y m. h.overlaps y m;
}
  where
    says : (o : Option ℕ) → WritesBelow V c o → WritesBelow V (record c { floor = n }) o
    says None k = k
    says (Some y) k = k

-- a value that is being written below is the code of the last write begun
writing_is_begun : (V : ℕ) (c : Counted) (w : Option ℕ) (y : ℕ) → WritesBelow V c w → IsTrue (among y (in_progress w)) → y ≡ code_of_write V c c.begun
writing_is_begun V c None y w m = let n : ⊥ = cc in absurd n
writing_is_begun V c (Some x) y w m = go (x == y) refl m
  where
    go : (b : Bool) → (x == y) ≡ b → IsTrue (b || false) → y ≡ code_of_write V c c.begun
    go true e k = sym (eqb-true x y e) ∙ w
    go false e k = let n : ⊥ = cc in absurd n

-- `Stamps` holds after a read begins, and with it the read below
pub stamps_after_read_begins : (V : ℕ) (c : Counted) (s : Seen) (stamp best : ℕ) → Stamps V c s stamp best → Stamps V (record c { low = c.done }) (sees (Some (Invoke 1 Read)) s) stamp best
stamps_after_read_begins V c s stamp best h = record {
  small = h.small;
  stamp_is = h.stamp_is;
  best_is = h.best_is;
  floor = h.floor;
  low = omega arith;
  done = h.done;
  last = h.last;
  writing = h.writing;
  fresh = h.last;
  overlaps = λ y m. (c.begun, (h.done, (omega arith, writing_is_begun V c s.writing y h.writing m)));
}

-- if the read below isn't stray, it gives the code of a write whose value the read may return
pub may_be_read_from_not_stray : (V x : ℕ) (c : Counted) (s : Seen) (stamp best : ℕ) → Stamps V c s stamp best → IsNotStray (record { reader = 1; value = x; fresh = s.fresh 1; overlaps = s.overlaps 1 }) → MayBeRead V c x
may_be_read_from_not_stray V x c s stamp best h g =
    let y : Returned = record { reader = 1; value = x; fresh = s.fresh 1; overlaps = s.overlaps 1 } in
    let hl : c.low ≤ c.done = h.low in
    let hd : c.done ≤ c.begun = h.done in
    elim (fresh_or_overlapping y g) [
      | inl e ↦ (c.low, (omega arith, (omega (arith, hl, hd), e ∙ h.fresh)))
      | inr m ↦ h.overlaps x m
    ]

-- the code of an earlier write is at most that of a later one
earlier_code_at_most : (V n m a b : ℕ) → n < m → a < V → n * V + a ≤ m * V + b
earlier_code_at_most V n m a b l la = let e : suc n * V ≤ m * V = mul-le-mul_right V (omega (arith, l)) in omega (arith, e, suc-mul n V, la)

-- the greater of `best` and a code x that the read may give is that of a write n that the read may
-- return, no earlier than the write that the read before returned
pub greater_may_be_read : (V x : ℕ) (c : Counted) (s : Seen) (stamp best : ℕ) → Stamps V c s stamp best → MayBeRead V c x
    → (n : ℕ) × ((c.low ≤ n) × ((n ≤ c.begun) × ((c.floor ≤ n) × (max best x ≡ code_of_write V c n))))
greater_may_be_read V x c s stamp best h y =
    let n : ℕ = y.0 in
    let ln : c.low ≤ n = y.1.0 in
    let nb : n ≤ c.begun = y.1.1.0 in
    let xe : x ≡ code_of_write V c n = y.1.1.1 in
    let fb : c.floor ≤ c.begun = h.floor in
    let be : best ≡ code_of_write V c c.floor = h.best_is in
    elim (cases_lt c.floor n) [
      | inl lt ↦
          let le : code_of_write V c c.floor ≤ code_of_write V c n = earlier_code_at_most V c.floor n (c.value c.floor) (c.value n) lt (h.small c.floor fb) in
          (n, (ln, (nb, (omega (arith, lt), omega (arith, le, be, xe)))))
      | inr ge ↦
          let le : code_of_write V c n ≤ code_of_write V c c.floor = elim (cases_eq n c.floor) [
            | inl e ↦ (let q : code_of_write V c n ≡ code_of_write V c c.floor = ap (code_of_write V c) e in omega (arith, q))
            | inr ne ↦ earlier_code_at_most V n c.floor (c.value n) (c.value c.floor) (omega (arith, ge, ne)) (h.small n nb)
          ] in
          (c.floor, (omega (arith, ge, ln), (fb, (omega arith, omega (arith, le, be, xe)))))
    ]

-- the invariant: what is shown of codes and stamps, and while the writer is idle no write below is
-- in progress
pub record StampedInv (V : ℕ) (c : Counted) (j : View StampedTask) : Type 0 where
  pub stamps : Stamps V c (j.parts 0) (j.words 0) (j.words 1)
  pub idle : j.tasks 0 ≡ None → (j.parts 0).writing ≡ None

-- reads below aren't stray, and the invariant holds
abbrev pub stamped_watch : ℕ → Watch StampedTask Counted
stamped_watch V = record { Good = IsNotStray; Inv = StampedInv V }

-- a bit action, at which p's operation may end, numbers operations as `NumberedStep` says
numbered_go : (p : ℕ) (chosen : Option (ℕ × Bool)) (end : Option Event) (c z : Counted) → refuses end ≡ false → TakesCount end c z → NumberedStep c (in_order (chosen_of p chosen) end) z
numbered_go p None end c z f k = (f, (z, (k, refl)))
numbered_go p (Some x) end c z f k = (refl, subst (λ b. NumberedIf b c (record { first = Some (Chosen p x.0 x.1); second = end }) z) (sym f) (c, (refl, k)))

module _ (V last : ℕ) where
  abbrev table : Table StampedTask
  table = stamped_table V last

  abbrev watch : Watch StampedTask Counted
  watch = stamped_watch V

  -- the rest of a read, once the read below has given x, keeps the invariant
  runs_read_rest : (x : ℕ) (op : Op) (Out : Option Event → Counted → Type 0) (c : Counted) (j : View StampedTask) → StampedInv V c (record j { tasks = put 1 None j.tasks }) → MayBeRead V c x
      → ((y : ℕ) (z : Counted) → TakesCount (Some (Got 1 y)) c z → Out (Some (Got 1 y)) z) → Runs table watch 1 op Out (stamped_rest V Reading (Value x)) j
  runs_read_rest x op Out c j h y og =
      let g = greater_may_be_read V x c (j.parts 0) (j.words 0) (j.words 1) h.stamps y in
      let n : ℕ = g.0 in
      let nb : n ≤ c.begun = g.1.1.0 in
      let is : max (j.words 1) x ≡ code_of_write V c n = g.1.1.1.1 in
      let z : Counted = record c { floor = n } in
      let value : c.value n ≡ max (j.words 1) x % V = sym (ap (λ k. k % V) is ∙ mod-mul-add n V (c.value n) (h.stamps.small n nb)) in (
        z,
        (
          og (max (j.words 1) x % V) z (n, (value, (g.1.0, (nb, (g.1.1.1.0, refl))))),
          record {
            stamps = stamps_after_read_ends V n c (j.parts 0) (j.words 0) (j.words 1) (max (j.words 1) x) h.stamps nb is;
            idle = h.idle;
          },
        ),
      )

  -- a write from its invocation on keeps the invariant
  begins_write : (c : Counted) (j : View StampedTask) (v : ℕ) → StampedInv V c j → j.tasks 0 ≡ None → v < V
      → Runs table watch 0 (Write v) (λ e. NumberedStep c (in_order (Some (Invoke 0 (Write v))) e)) (stamped_program V last 0 (Write v)) j
  begins_write c j v h free lv = go (j.words 0 == last)
    where
      z : Counted
      z = with_write_begun v c

      s : Seen
      s = sees (Some (Invoke 0 (Write ((j.words 0 + 1) * V + v)))) (j.parts 0)

      a : Stamps V (with_write_begun v c) (sees (Some (Invoke 0 (Write ((j.words 0 + 1) * V + v)))) (j.parts 0)) (j.words 0 + 1) (j.words 1)
      a = stamps_after_write_begins V v 0 0 c (j.parts 0) (j.words 0) (j.words 1) h.stamps (h.idle free) lv

      go : (d : Bool) → Runs table watch 0 (Write v) (λ e. NumberedStep c (in_order (Some (Invoke 0 (Write v))) e))
          (if d then Ends (Spent Stamped) else Sets 0 (j.words 0 + 1) (Asks (Writing v ((j.words 0 + 1) * V + v)) Ends)) j
      go true = (c, ((refl, (tt, refl)), record { stamps = h.stamps; idle = λ k. h.idle free }))
      go false = (
        (with_write_begun v c, ((refl, (with_write_begun v c, (refl, refl))), record { stamps = a; idle = λ k. (let n : ⊥ = cc in absurd n) })),
        λ o ans pass good. ends o ans pass,
      )
        where
          ends : (o : Outcome) → Answers (stamped_code_count V last) (Write ((j.words 0 + 1) * V + v)) o → IsNotSpent o
              → Runs table watch 0 (Write v) (λ e. NumberedStep c (in_order (Some (Invoke 0 (Write v))) e)) (Ends o)
              (record { words = put 0 (j.words 0 + 1) j.words; tasks = j.tasks; parts = put 0 (sees (Some (end_event 0 o)) (sees (Some (Invoke 0 (Write ((j.words 0 + 1) * V + v)))) (j.parts 0))) j.parts })
          ends (Value x) ans pass = absurd ans
          ends (Spent l) ans pass = absurd pass
          ends Written ans pass =
              (record (with_write_begun v c) { done = c.begun + 1 }, ((refl, (with_write_begun v c, (refl, refl))), record { stamps = stamps_after_write_ends V 0 (with_write_begun v c) _ (j.words 0 + 1) (j.words 1) a; idle = λ k. refl }))

  -- a read from its invocation on keeps the invariant
  begins_read : (c : Counted) (j : View StampedTask) → StampedInv V c j
      → Runs table watch 1 Read (λ e. NumberedStep c (in_order (Some (Invoke 1 Read)) e)) (stamped_program V last 1 Read) j
  begins_read c j h =
      let a = stamps_after_read_begins V c (j.parts 0) (j.words 0) (j.words 1) h.stamps in (
        (record c { low = c.done }, ((refl, (record c { low = c.done }, (refl, refl))), record { stamps = a; idle = h.idle })),
        λ o ans pass good. ends o ans pass good a,
      )
    where
      ends : (o : Outcome) → Answers (stamped_code_count V last) Read o → IsNotSpent o → AllByRecursion IsNotStray (got (Some (end_event 1 o)) (sees (Some (Invoke 1 Read)) (j.parts 0)))
          → Stamps V (record c { low = c.done }) (sees (Some (Invoke 1 Read)) (j.parts 0)) (j.words 0) (j.words 1)
          → Runs table watch 1 Read (λ e. NumberedStep c (in_order (Some (Invoke 1 Read)) e)) (stamped_rest V Reading o)
          (record { words = j.words; tasks = j.tasks; parts = put 0 (sees (Some (end_event 1 o)) (sees (Some (Invoke 1 Read)) (j.parts 0))) j.parts })
      ends Written ans pass good a = absurd ans
      ends (Spent l) ans pass good a = absurd pass
      ends (Value x) ans pass good a =
          runs_read_rest x Read (λ e. NumberedStep c (in_order (Some (Invoke 1 Read)) e)) (record c { low = c.done })
          (record { words = j.words; tasks = j.tasks; parts = put 0 (sees (Some (Invoke 1 Read)) (j.parts 0)) j.parts })
          (record { stamps = a; idle = h.idle })
          (may_be_read_from_not_stray V x (record c { low = c.done }) (sees (Some (Invoke 1 Read)) (j.parts 0)) (j.words 0) (j.words 1) a good.0)
          (λ y z k. (refl, (record c { low = c.done }, (refl, k))))

  -- an operation from its invocation on keeps the invariant
  begins : (c : Counted) (j : View StampedTask) (p : ℕ) (op : Op) → StampedInv V c j → j.tasks p ≡ None → one_writer V 2 p op ≡ true
      → Runs table watch p op (λ e. NumberedStep c (in_order (Some (Invoke p op)) e)) (stamped_program V last p op) j
  begins c j p (Write v) h free s =
      let zp = writer.writer_zero V 2 p v s in
      let lv = writer.no_other_value V 2 p v s in
      subst (λ q. Runs table watch q (Write v) (λ e. NumberedStep c (in_order (Some (Invoke q (Write v))) e)) (stamped_program V last q (Write v)) j) (sym zp)
      (begins_write c j v h (sym (ap j.tasks zp) ∙ free) lv)
  begins c j p Read h free s =
      subst (λ q. Runs table watch q Read (λ e. NumberedStep c (in_order (Some (Invoke q Read)) e)) (stamped_program V last q Read) j) (sym (let lo = writer.reader_is_not_zero V 2 p s in let hi = writer.reader_below_processes V 2 p s in omega (arith, lo, hi)))
      (begins_read c j h)

  -- the rest of an operation, once its task has ended, keeps the invariant
  goes : (c : Counted) (j : View StampedTask) (p : ℕ) (op : Op) (task : StampedTask) (chosen : Option (ℕ × Bool)) (o : Outcome) → StampedInv V c j
      → StampedMayBeAt V last p op task → Answers (stamped_code_count V last) (table.asks task).op o → IsNotSpent o
      → AllByRecursion IsNotStray (got (Some (end_event (table.asks task).who o)) (j.parts (table.asks task).part))
      → Runs table watch p op (λ e. NumberedStep c (in_order (chosen_of p chosen) e)) (stamped_rest V task o)
      (record j { parts = put (table.asks task).part (sees (Some (end_event (table.asks task).who o)) (j.parts (table.asks task).part)) j.parts })
  goes c j p (Write v) (Writing x k) chosen (Value y) h s ans pass good = absurd ans
  goes c j p (Write v) (Writing x k) chosen (Spent l) h s ans pass good = absurd pass
  goes c j p (Write v) (Writing x k) chosen Written h s ans pass good = (
    record c { done = c.begun },
    (
      numbered_go p chosen (Some (Wrote p)) c (record c { done = c.begun }) refl refl,
      record { stamps = stamps_after_write_ends V 0 c (j.parts 0) (j.words 0) (j.words 1) h.stamps; idle = λ k. refl },
    ),
  )
  goes c j p Read Reading chosen Written h s ans pass good = absurd ans
  goes c j p Read Reading chosen (Spent l) h s ans pass good = absurd pass
  goes c j p Read Reading chosen (Value x) h s ans pass good =
      let y : MayBeRead V c x = may_be_read_from_not_stray V x c (j.parts 0) (j.words 0) (j.words 1) h.stamps good.0 in
      subst (λ r. Runs table watch r Read (λ e. NumberedStep c (in_order (chosen_of r chosen) e)) (stamped_rest V Reading (Value x)) (record j { parts = put 0 (j.parts 0) j.parts })) (sym s)
      (runs_read_rest x Read (λ e. NumberedStep c (in_order (chosen_of 1 chosen) e)) c (record j { parts = put 0 (j.parts 0) j.parts }) (record { stamps = h.stamps; idle = h.idle }) y
      (λ y z k. numbered_go 1 chosen (Some (Got 1 y)) c z refl k))
  goes c j p (Write v) Reading chosen o h s ans pass good = absurd s
  goes c j p Read (Writing x k) chosen o h s ans pass good = absurd s

  -- the invariant holds at first
  holds_at_first : (v : ℕ) → v < V → (j : View StampedTask) → j.words 0 ≡ 0 → j.words 1 ≡ v → j.parts 0 ≡ opening v → StampedInv V (uncounted v) j
  holds_at_first v l j e0 e1 ep = record { stamps = stamps_at_first V v (j.parts 0) (j.words 0) (j.words 1) l ep e0 e1; idle = λ k. ap (λ s. s.writing) ep }

  -- the invariant holds at first, and each step keeps it and numbers its operations as
  -- `NumberedStep` says
  pub stamped_kept : IsKept table (StampedMayBeAt V last) watch uncounted NumberedStep
  stamped_kept = record {
    initial = λ v l j ew et ep. holds_at_first v l j (ew 0 (omega arith)) (ew 1 (omega arith)) (ep 0 (omega arith));
    passes = record {
      void = λ c p reason. (refl, (c, (refl, refl)));
      stop = λ c p. (refl, (c, (refl, refl)));
      still = λ c j p chosen h. (c, (numbered_go p chosen None c c refl refl, h));
    };
    begins = begins;
    goes = λ c j p n chosen o h mine s ans pass good. goes c j p n.op n.task chosen o h s ans pass good;
  }

  -- each process acts as itself on the only part
  pub stamped_user : IsUser table (StampedMayBeAt V last) (λ part who. who)
  stamped_user p (Write v) (Writing x k) s = sym s.0
  stamped_user p Read Reading s = sym s
  stamped_user p (Write v) Reading s = absurd s
  stamped_user p Read (Writing x k) s = absurd s

-- the history of a stamped register over a regular one can be numbered, step by step
pub stamped_numbered : {P : Type 0} (b : Behaviour P) (Holds : Memory → Type 0) (Reaches : ℕ → Op → P → Type 0) (V last : ℕ) (left : StampedTask → ℕ) → IsLawful b Holds Reaches
    → IsSoundTable (stamped_table V last) (StampedMayBeAt V last) left → FitsBelow (stamped_table V last) b → IsRegular b
    → (v : ℕ) (steps : List Step) → v < V → AllFit (layered (stamped_table V last) b) steps
    → Allowed NumberedStep (uncounted v) (history (layered (stamped_table V last) b) (first_configuration (layered (stamped_table V last) b) v) steps)
stamped_numbered b Holds Reaches V last left lawful sound fit regular v steps l f =
    layer_law (over lawful sound fit) (λ part who. who) (stamped_user V last) (stamped_watch V) uncounted NumberedStep
    (always_seen NotStray IsNotStray stray_alike b regular.one_writer Holds Reaches lawful regular) (stamped_kept V last) v steps l f

-- a stamped register over a regular one is atomic
pub stamped_over_regular : {P : Type 0} (b : Behaviour P) (Holds : Memory → Type 0) (Reaches : ℕ → Op → P → Type 0) (V last : ℕ) (left : StampedTask → ℕ) → IsLawful b Holds Reaches
    → IsSoundTable (stamped_table V last) (StampedMayBeAt V last) left → FitsBelow (stamped_table V last) b → IsRegular b → IsAtomic (layered (stamped_table V last) b)
stamped_over_regular b Holds Reaches V last left lawful sound fit regular =
    numbered_atomic (layered (stamped_table V last) b) (λ who o h. h) refl (LayerHolds (stamped_table V last) b Holds) (LayerReaches (stamped_table V last) (StampedMayBeAt V last) Reaches)
    (layer_lawful (over lawful sound fit)) (stamped_numbered b Holds Reaches V last left lawful sound fit regular)
