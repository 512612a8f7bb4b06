-- Copies of a safe register are safe.
use Rattle.std.proofs.Common.{◌≡◌, ℕ, zero, suc, Bool, true, Option, Some, None, ◌<◌, ◌≤◌, ◌+◌, ◌-◌, refl, sym, ap, ◌∙◌, subst, arith, [], inl, inr}
use Rattle.std.specs.List.{AllByRecursion}
use Rattle.std.proofs.lemmas.Bool.{cases_eq}
use Rattle.safe_bit.specs.Memory.{Memory}
use Rattle.frames.specs.declared.types.Op.{Op}
use Rattle.frames.specs.declared.types.Op.TheVariants.{Read, Write}
use Rattle.frames.specs.declared.types.Outcome.{Outcome}
use Rattle.frames.specs.declared.types.Outcome.TheVariants.{Value, Written, Spent}
use Rattle.frames.specs.declared.types.Event.{Event}
use Rattle.frames.specs.declared.types.Event.TheVariants.{Invoke, Got, Wrote}
use Rattle.frames.specs.Behaviour.{Behaviour, IsLawful, Answers}
use Rattle.frames.specs.Configuration.{in_order, chosen_of}
use Rattle.frames.specs.OneWriter.{one_writer}
use Rattle.frames.specs.laws.OneWriter as writer
use Rattle.frames.specs.correctness.Regularity.{in_progress, IsSafe}
use Rattle.frames.proofs.Seen.{Seen, Returned, opening, sees, got, now_last, IsFreshAlone, end_event}
use Rattle.frames.proofs.KnownAndSeen.{fresh_alike}
use Rattle.frames.proofs.VerdictFacts.{none_in_progress, is_fresh, fresh_value}
use Rattle.frames.proofs.Pointwise.{put, put_same, put_other, put_zero, put_back, put_all}
use Rattle.layers.specs.Nested.{Ends, Table, layered}
use Rattle.layers.specs.Sound.{IsNotSpent, IsSoundTable, FitsBelow}
use Rattle.layers.specs.laws.Over.{over}
use Rattle.layers.proofs.Law.{TaskInProgress, View, Watch, Runs, IsKept, IsUser}
use Rattle.layers.proofs.LayerLaw.{IsGoodStep, good_begun, good_gone, good_passes, layer_promises}
use Rattle.reader_copies.specs.declared.task.CopiesTask.{CopiesTask}
use Rattle.reader_copies.specs.declared.task.CopiesTask.TheVariants.{Writing, Reading}
use Rattle.reader_copies.specs.Program.{write_from, copies_program, copies_rest, copies_table, CopiesMayBeAt}

-- a write of v is in progress, between two copies: the copies of the readers before r hold v, and
-- no copy is being written
pub record WriteReached (m r v : ℕ) (u : Seen) (parts : ℕ → Seen) : Type 0 where
  pub writing : u.writing ≡ Some v
  pub last : (k : ℕ) → k + 1 < r → (parts k).last ≡ v
  pub quiet : (k : ℕ) → k < m → (parts k).writing ≡ None

-- a write of v is in progress: the copies of the readers before r hold v, and only reader r's copy
-- is being written
pub record WritesCopy (m r v : ℕ) (u : Seen) (parts : ℕ → Seen) : Type 0 where
  pub writing : u.writing ≡ Some v
  pub here : (parts (r - 1)).writing ≡ Some v
  pub last : (k : ℕ) → k + 1 < r → (parts k).last ≡ v
  pub quiet : (k : ℕ) → k < m → (k ≡ r - 1 → ⊥) → (parts k).writing ≡ None

-- no write is in progress, no copy is being written, and all copies hold the value written last
pub record Idle (m : ℕ) (u : Seen) (parts : ℕ → Seen) : Type 0 where
  pub writing : u.writing ≡ None
  pub last : (k : ℕ) → k < m → (parts k).last ≡ u.last
  pub quiet : (k : ℕ) → k < m → (parts k).writing ≡ None

-- what each task of the writer says of the register and of the copies
abbrev pub WriterIn : ℕ → CopiesTask → Seen → (ℕ → Seen) → Type 0
WriterIn m (Writing v r) u parts = WritesCopy m r v u parts
WriterIn m (Reading r) u parts = ⊥

-- what the writer's task says; if it has none, all copies are idle and hold the value written last
abbrev pub WriterSays : ℕ → Option (TaskInProgress CopiesTask) → Seen → (ℕ → Seen) → Type 0
WriterSays m None u parts = Idle m u parts
WriterSays m (Some n) u parts = WriterIn m n.task u parts

-- if a reader's last read overlaps no write, it overlaps no write of the reader's copy, the fresh
-- value is the same on both, and no write is in progress
abbrev pub AloneReadsAgree : ℕ → Seen → (ℕ → Seen) → Type 0
AloneReadsAgree m u parts = (r : ℕ) → 1 ≤ r → r ≤ m → u.overlaps r ≡ [] → ((parts (r - 1)).overlaps 1 ≡ []) × (((parts (r - 1)).fresh 1 ≡ u.fresh r) × (u.writing ≡ None))

-- the invariant: reads that no write overlaps, and what the writer's task says
pub record CopiesInv (m : ℕ) (u : Seen) (j : View CopiesTask) : Type 0 where
  pub alone : AloneReadsAgree m u j.parts
  pub writer : WriterSays m (j.tasks 0) u j.parts

-- reads of copies that overlap no write are fresh, and the invariant holds
abbrev pub copies_watch : ℕ → Watch CopiesTask Seen
copies_watch m = record { Good = IsFreshAlone; Inv = CopiesInv m }

-- while a write is in progress, every last read overlaps it, so `AloneReadsAgree` holds whatever
-- the copies show
agree_while_writing : (m v : ℕ) (u z : Seen) (parts to : ℕ → Seen) → u.writing ≡ Some v → AloneReadsAgree m u parts → ((r : ℕ) → z.overlaps r ≡ u.overlaps r) → AloneReadsAgree m z to
agree_while_writing m v u z parts to e h o r lo hi k =
    let n : u.writing ≡ None = (h r lo hi (sym (o r) ∙ k)).1.1 in
    let f : ⊥ = cc in
    absurd f

-- while no write is in progress, no copy is being written, and all hold the value written last
writer_idle : (m : ℕ) (task : Option (TaskInProgress CopiesTask)) (u : Seen) (parts : ℕ → Seen) → WriterSays m task u parts → u.writing ≡ None → Idle m u parts
writer_idle m None u parts h e = h
writer_idle m (Some n) u parts h e = at n.task h
  where
    at : (task : CopiesTask) → WriterIn m task u parts → Idle m u parts
    at (Writing v r) h = let q : u.writing ≡ Some v = h.writing in let f : ⊥ = cc in absurd f
    at (Reading r) h = absurd h

-- what the writer's task says depends only on the values written last and being written
writer_says_same : (m : ℕ) (task : Option (TaskInProgress CopiesTask)) (u z : Seen) (parts to : ℕ → Seen) → u.last ≡ z.last → u.writing ≡ z.writing → ((k : ℕ) → (parts k).last ≡ (to k).last) → ((k : ℕ) → (parts k).writing ≡ (to k).writing)
    → WriterSays m task u parts → WriterSays m task z to
writer_says_same m None u z parts to ul uw l w h = record { writing = sym uw ∙ h.writing; last = λ k lk. sym (l k) ∙ h.last k lk ∙ ul; quiet = λ k lk. sym (w k) ∙ h.quiet k lk }
writer_says_same m (Some n) u z parts to ul uw l w h = at n.task h
  where
    at : (task : CopiesTask) → WriterIn m task u parts → WriterIn m task z to
    at (Writing v r) h = record { writing = sym uw ∙ h.writing; here = sym (w (r - 1)) ∙ h.here; last = λ k lk. sym (l k) ∙ h.last k lk; quiet = λ k lk ne. sym (w k) ∙ h.quiet k lk ne }
    at (Reading r) h = h

-- the process that acts on a copy: the writer, or the copy's reader
abbrev pub copies_user_of : ℕ → ℕ → ℕ
copies_user_of k zero = zero
copies_user_of k (suc q) = suc k

module _ (m values : ℕ) where
  abbrev table : Table CopiesTask
  table = copies_table m values

  abbrev watch : Watch CopiesTask Seen
  watch = copies_watch m

  -- a write of v keeps the invariant from the copy of reader r on, if it has these copies left
  runs_writes : (copies_left r v p : ℕ) (op : Op) (Out : Option Event → Seen → Type 0) (u : Seen) (j : View CopiesTask) → p ≡ 0 → 1 ≤ r → r + copies_left ≡ m + 1 → WriteReached m r v u j.parts → AloneReadsAgree m u j.parts
      → Out None u → Out (Some (Wrote p)) (sees (Some (Wrote p)) u) → Runs table watch p op Out (write_from v r copies_left) j
  runs_writes zero r v p op Out u j zp lo room h a on oe =
      let z : Seen = sees (Some (Wrote p)) u in (
        z,
        (
          oe,
          record {
            alone = agree_while_writing m v u z j.parts j.parts h.writing a (λ r. refl);
            writer = subst (λ y. WriterSays m y z j.parts) (sym (put_zero p None j.tasks zp)) (record {
              writing = refl;
              last = λ k lk. h.last k (omega (arith, lk, room)) ∙ sym (ap (λ o. now_last o u.last) h.writing);
              quiet = h.quiet;
            });
          },
        ),
      )
  runs_writes (suc copies_left) r v p op Out u j zp lo room h a on oe =
      let i : ℕ = r - 1 in
      let n : Option (TaskInProgress CopiesTask) = Some (record { op = op; task = Writing v r }) in
      let s : Seen = sees (Some (Invoke 0 (Write v))) (j.parts i) in
      let e : Seen = sees (Some (Wrote 0)) s in (
        (
          u,
          (
            on,
            record {
              alone = agree_while_writing m v u u j.parts (put i s j.parts) h.writing a (λ r. refl);
              writer = subst (λ y. WriterSays m y u (put i s j.parts)) (sym (put_zero p n j.tasks zp)) (record {
                writing = h.writing;
                here = ap (λ x. x.writing) (put_same i s j.parts);
                last = λ k lk. ap (λ x. x.last) (put_other i k s j.parts (λ q. omega (arith, q, lk, lo))) ∙ h.last k lk;
                quiet = λ k lk ne. ap (λ x. x.writing) (put_other i k s j.parts ne) ∙ h.quiet k lk;
              });
            },
          ),
        ),
        λ o ans pass good. elim o as (λ o. Answers values (Write v) o → IsNotSpent o → Runs table watch p op Out (write_from v (r + 1) copies_left) (record j { parts = put i (sees (Some (end_event 0 o)) s) j.parts })) [
          | Value x ↦ λ ans pass. absurd ans
          | Written ↦ λ ans pass. runs_writes copies_left (r + 1) v p op Out u (record j { parts = put i e j.parts }) zp (omega (arith, lo)) (omega (arith, room))
              (record {
                writing = h.writing;
                last = put_all (λ k x. k + 1 < r + 1 → x.last ≡ v) i e j.parts (λ lk. refl) (λ k ne lk. h.last k (omega (arith, lk, ne, lo)));
                quiet = put_all (λ k x. k < m → x.writing ≡ None) i e j.parts (λ lk. refl) (λ k ne lk. h.quiet k lk);
              }) (agree_while_writing m v u u j.parts (put i e j.parts) h.writing a (λ r. refl)) on oe
          | Spent l ↦ λ ans pass. absurd pass
        ] ans pass,
      )

  -- a write from its invocation on keeps the invariant
  begins_write : (u : Seen) (j : View CopiesTask) (p v : ℕ) → CopiesInv m u j → j.tasks p ≡ None → p ≡ 0
      → Runs table watch p (Write v) (λ e. IsGoodStep IsFreshAlone u (in_order (Some (Invoke p (Write v))) e)) (write_from v 1 m) j
  begins_write u j p v h free zp =
      let idle : Idle m u j.parts = subst (λ y. WriterSays m y u j.parts) (sym (ap j.tasks zp) ∙ free) h.writer in
      let z : Seen = sees (Some (Invoke p (Write v))) u in
      runs_writes m 1 v p (Write v) (λ e. IsGoodStep IsFreshAlone u (in_order (Some (Invoke p (Write v))) e)) z j zp (omega arith) (omega arith)
      (record { writing = refl; last = λ k lk. (let f : ⊥ = omega (arith, lk) in absurd f); quiet = idle.quiet })
      (λ r lo hi k. (let f : ⊥ = cc in absurd f))
      (good_begun IsFreshAlone p (Write v) None u refl tt) (good_begun IsFreshAlone p (Write v) (Some (Wrote p)) u refl tt)

  -- if a read that overlaps no write gives what its copy's read gave, this is the fresh value
  gives_fresh : (r x : ℕ) (u s : Seen) → (u.overlaps r ≡ [] → (s.overlaps 1 ≡ []) × ((s.fresh 1 ≡ u.fresh r) × (u.writing ≡ None)))
      → IsFreshAlone (record { reader = 1; value = x; fresh = s.fresh 1; overlaps = s.overlaps 1 }) → IsFreshAlone (record { reader = r; value = x; fresh = u.fresh r; overlaps = u.overlaps r })
  gives_fresh r x u s a g o =
      let y : Returned = record { reader = 1; value = x; fresh = s.fresh 1; overlaps = s.overlaps 1 } in
      let f = a o in
      is_fresh (record { reader = r; value = x; fresh = u.fresh r; overlaps = u.overlaps r }) (fresh_value y (g f.0) ∙ f.1.0)

  -- a read from its invocation on keeps the invariant
  begins_read : (u : Seen) (j : View CopiesTask) (p : ℕ) → CopiesInv m u j → 1 ≤ p → p ≤ m
      → Runs table watch p Read (λ e. IsGoodStep IsFreshAlone u (in_order (Some (Invoke p Read)) e)) (copies_program m p Read) j
  begins_read u j p h lo hi =
      let i : ℕ = p - 1 in
      let li : i < m = omega (arith, lo, hi) in
      let z : Seen = sees (Some (Invoke p Read)) u in
      let s : Seen = sees (Some (Invoke 1 Read)) (j.parts i) in
      let mid : ℕ → Seen = put i s j.parts in
      let zo : z.overlaps p ≡ in_progress u.writing = put_same p (in_progress u.writing) u.overlaps in
      let zf : z.fresh p ≡ u.last = put_same p u.last u.fresh in
      let me : mid i ≡ s = put_same i s j.parts in
      let says : WriterSays m (j.tasks 0) z mid =
      writer_says_same m (j.tasks 0) u z j.parts mid refl refl (put_all (λ k x. (j.parts k).last ≡ x.last) i s j.parts refl (λ k ne. refl)) (put_all (λ k x. (j.parts k).writing ≡ x.writing) i s j.parts refl (λ k ne. refl)) h.writer in
      let alone : AloneReadsAgree m z mid = λ r rl rh. elim (cases_eq r p) as (λ c. z.overlaps r ≡ [] → ((mid (r - 1)).overlaps 1 ≡ []) × (((mid (r - 1)).fresh 1 ≡ z.fresh r) × (z.writing ≡ None))) [
        | inl e ↦ λ o.
            let n : u.writing ≡ None = none_in_progress u.writing (sym zo ∙ sym (ap (λ x. z.overlaps x) e) ∙ o) in
            let st : Idle m u j.parts = writer_idle m (j.tasks 0) u j.parts h.writer n in (
              ap (λ x. (mid (x - 1)).overlaps 1) e ∙ ap (λ x. x.overlaps 1) me ∙ ap in_progress (st.quiet i li),
              (ap (λ x. (mid (x - 1)).fresh 1) e ∙ ap (λ x. x.fresh 1) me ∙ st.last i li ∙ sym zf ∙ sym (ap (λ x. z.fresh x) e), n),
            )
        | inr ne ↦ λ o.
            let np : r - 1 ≡ i → ⊥ = λ q. ne (omega (arith, q, rl, lo)) in
            let f = h.alone r rl rh (sym (put_other p r (in_progress u.writing) u.overlaps ne) ∙ o) in (
              ap (λ x. x.overlaps 1) (put_other i (r - 1) s j.parts np) ∙ f.0,
              (ap (λ x. x.fresh 1) (put_other i (r - 1) s j.parts np) ∙ f.1.0 ∙ sym (put_other p r u.last u.fresh ne), f.1.1),
            )
      ] in (
        (
          z,
          (
            good_begun IsFreshAlone p Read None u refl tt,
            record {
              alone = alone;
              writer = subst (λ y. WriterSays m y z mid) (sym (put_other p 0 (Some (record { op = Read; task = Reading p })) j.tasks (λ q. omega (arith, q, lo)))) says;
            },
          ),
        ),
        λ o ans pass good. elim o as (λ o. Answers values Read o → IsNotSpent o → AllByRecursion IsFreshAlone (got (Some (end_event 1 o)) s)
            → Runs table watch p Read (λ e. IsGoodStep IsFreshAlone u (in_order (Some (Invoke p Read)) e)) (Ends o) (record j { parts = put i (sees (Some (end_event 1 o)) s) j.parts })) [
              | Value x ↦ λ ans pass good. (
                z,
                (
                  good_begun IsFreshAlone p Read (Some (Got p x)) u refl
                      (gives_fresh p x z s (λ o. let f = alone p lo hi o in (sym (ap (λ x. x.overlaps 1) me) ∙ f.0, (sym (ap (λ x. x.fresh 1) me) ∙ f.1.0, f.1.1))) good.0, tt),
                  record {
                    alone = alone;
                    writer = subst (λ y. WriterSays m y z mid) (sym (put_other p 0 None j.tasks (λ q. omega (arith, q, lo)))) says;
                  },
                ),
              )
              | Written ↦ λ ans pass good. absurd ans
              | Spent l ↦ λ ans pass good. absurd pass
            ] ans pass good,
      )

  -- an operation from its invocation on keeps the invariant
  begins : (u : Seen) (j : View CopiesTask) (p : ℕ) (op : Op) → CopiesInv m u j → j.tasks p ≡ None → one_writer values (m + 1) p op ≡ true
      → Runs table watch p op (λ e. IsGoodStep IsFreshAlone u (in_order (Some (Invoke p op)) e)) (copies_program m p op) j
  begins u j p (Write v) h free s = begins_write u j p v h free (writer.writer_zero values (m + 1) p v s)
  begins u j p Read h free s = let lo = writer.reader_is_not_zero values (m + 1) p s in let hi = writer.reader_below_processes values (m + 1) p s in begins_read u j p h lo (omega (arith, hi))

  -- the rest of an operation, once its task has ended, keeps the invariant
  goes : (u : Seen) (j : View CopiesTask) (p : ℕ) (op : Op) (task : CopiesTask) (chosen : Option (ℕ × Bool)) (o : Outcome) → CopiesInv m u j → j.tasks p ≡ Some (record { op = op; task = task })
      → CopiesMayBeAt m values p op task
      → Answers values (table.asks task).op o → IsNotSpent o → AllByRecursion IsFreshAlone (got (Some (end_event (table.asks task).who o)) (j.parts (table.asks task).part))
      → Runs table watch p op (λ e. IsGoodStep IsFreshAlone u (in_order (chosen_of p chosen) e)) (copies_rest m task o)
      (record j { parts = put (table.asks task).part (sees (Some (end_event (table.asks task).who o)) (j.parts (table.asks task).part)) j.parts })
  goes u j p (Write x) (Writing v r) chosen (Value y) h mine st ans pass good = absurd ans
  goes u j p (Write x) (Writing v r) chosen (Spent l) h mine st ans pass good = absurd pass
  goes u j p (Write x) (Writing v r) chosen Written h mine st ans pass good =
      let h0 : WritesCopy m r v u j.parts = subst (λ y. WriterSays m y u j.parts) (sym (ap j.tasks st.0) ∙ mine) h.writer in
      let i : ℕ = r - 1 in
      let e : Seen = sees (Some (Wrote 0)) (j.parts i) in
      let lo : 1 ≤ r = st.3 in
      let hi : r ≤ m = st.4 in
      runs_writes (m - r) (r + 1) v p (Write x) (λ e. IsGoodStep IsFreshAlone u (in_order (chosen_of p chosen) e)) u (record j { parts = put i e j.parts }) st.0 (omega (arith, lo)) (omega (arith, hi))
      (record {
        writing = h0.writing;
        last = put_all (λ k x. k + 1 < r + 1 → x.last ≡ v) i e j.parts (λ lk. ap (λ o. now_last o (j.parts i).last) h0.here) (λ k ne lk. h0.last k (omega (arith, lk, ne, lo)));
        quiet = put_all (λ k x. k < m → x.writing ≡ None) i e j.parts (λ lk. refl) (λ k ne lk. h0.quiet k lk ne);
      }) (agree_while_writing m v u u j.parts (put i e j.parts) h0.writing h.alone (λ r. refl))
      (good_gone IsFreshAlone p chosen None u refl tt) (good_gone IsFreshAlone p chosen (Some (Wrote p)) u refl tt)
  goes u j p Read (Reading r) chosen Written h mine st ans pass good = absurd ans
  goes u j p Read (Reading r) chosen (Spent l) h mine st ans pass good = absurd pass
  goes u j p Read (Reading r) chosen (Value x) h mine st ans pass good =
      let i : ℕ = r - 1 in
      let lo : 1 ≤ r = st.1 in
      let is : r ≡ p = st.0 in
      subst (λ f. Runs table watch p Read (λ e. IsGoodStep IsFreshAlone u (in_order (chosen_of p chosen) e)) (Ends (Value x)) (record j { parts = f })) (put_back i j.parts) (
        u,
        (
          good_gone IsFreshAlone p chosen (Some (Got p x)) u refl
              (subst (λ q. IsFreshAlone (record { reader = q; value = x; fresh = u.fresh q; overlaps = u.overlaps q })) is (gives_fresh r x u (j.parts i) (h.alone r lo st.2) good.0), tt),
          record { alone = h.alone; writer = subst (λ y. WriterSays m y u j.parts) (sym (put_other p 0 None j.tasks (λ q. omega (arith, q, lo, is)))) h.writer },
        ),
      )
  goes u j p (Write x) (Reading r) chosen o h mine st ans pass good = absurd st
  goes u j p Read (Writing v r) chosen o h mine st ans pass good = absurd st

  -- the invariant holds at first, every step keeps it, and a returned read that overlaps no write
  -- is fresh
  pub copies_kept : IsKept table (CopiesMayBeAt m values) watch opening (IsGoodStep IsFreshAlone)
  copies_kept = record {
    initial = λ v l j ew et ep. record {
      alone = λ r lo hi o. (let f = ep (r - 1) (omega (arith, lo, hi)) in (ap (λ s. s.overlaps 1) f, (ap (λ s. s.fresh 1) f, refl)));
      writer = subst (λ y. WriterSays m y (opening v) j.parts) (sym (et 0)) (record { writing = refl; last = λ k lk. ap (λ s. s.last) (ep k lk); quiet = λ k lk. ap (λ s. s.writing) (ep k lk) });
    };
    passes = good_passes watch IsFreshAlone;
    begins = begins;
    goes = λ u j p n chosen o h mine s ans pass good. goes u j p n.op n.task chosen o h mine s ans pass good;
  }

  -- the writer acts as itself on every copy, and a reader on its own copy
  pub copies_user : IsUser table (CopiesMayBeAt m values) copies_user_of
  copies_user p (Write x) (Writing v r) s = sym s.0
  copies_user p Read (Reading r) s = let lo : 1 ≤ r = s.1 in let is : r ≡ p = s.0 in omega (arith, lo, is)
  copies_user p (Write x) (Reading r) s = absurd s
  copies_user p Read (Writing v r) s = absurd s

-- copies of a safe register are safe
pub copies_over_safe : {P : Type 0} (b : Behaviour P) (Holds : Memory → Type 0) (Reaches : ℕ → Op → P → Type 0) (readers values : ℕ) (left : CopiesTask → ℕ) → IsLawful b Holds Reaches
    → IsSoundTable (copies_table readers values) (CopiesMayBeAt readers values) left → FitsBelow (copies_table readers values) b → IsSafe b → IsSafe (layered (copies_table readers values) b)
copies_over_safe b Holds Reaches readers values left lawful sound fit safe =
    layer_promises (over lawful sound fit) copies_user_of (copies_user readers values) IsFreshAlone (copies_watch readers) fresh_alike fresh_alike (λ who o h. h) safe (copies_kept readers values)
