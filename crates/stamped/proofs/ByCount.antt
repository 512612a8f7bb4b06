-- A stamped register over a regular one: no read is refused or stray, and a write is refused
-- exactly if the last stamp has been given, in the step that invokes it.
use Rattle.std.proofs.Common.{◌≡◌, ℕ, suc, Bool, true, false, Option, Some, None, ◌<◌, ◌≤◌, ◌==◌, ◌+◌, ◌*◌, IsTrue, refl, sym, ap, ◌∙◌, subst, arith, List, [], ◌∷◌, ◌++◌, append-nil, inl, inr}
use Rattle.std.specs.Prelude.{◌||◌, ◌&&◌, ◌%◌, max, if◌then◌else◌, length, ◌⊎◌, ⊤, nat_lt}
use Rattle.std.specs.List.{AllByRecursion}
use Rattle.std.proofs.lemmas.Bool.{eqb-true, eqb-false, cases_lt, cases_eq}
use Rattle.std.proofs.lemmas.Nat.{mod-mul-add}
use Rattle.std.proofs.Math.Nat.{mul-le-mul_right, suc-mul}
use Rattle.std.proofs.Common.{eq-eqb, lt-ltb, ltb-true}
use Rattle.safe_bit.specs.Memory.{Memory}
use Rattle.frames.specs.declared.types.Op.{Op}
use Rattle.frames.specs.declared.types.Op.TheVariants.{Read, Write}
use Rattle.frames.specs.declared.types.Layer.{Layer}
use Rattle.frames.specs.declared.types.Layer.TheVariants.{Stamped}
use Rattle.frames.specs.declared.types.Outcome.{Outcome}
use Rattle.frames.specs.declared.types.Outcome.TheVariants.{Value, Written, Spent}
use Rattle.frames.specs.declared.types.Event.{Event}
use Rattle.frames.specs.declared.types.Event.TheVariants.{Invoke, Got, Wrote, Chosen, Void, Stop, Refused}
use Rattle.frames.specs.declared.types.StepEvents.{StepEvents}
use Rattle.frames.specs.declared.types.Step.{Step}
use Rattle.frames.specs.Behaviour.{Behaviour, IsLawful, Answers}
use Rattle.frames.specs.Configuration.{in_order, chosen_of, history}
use Rattle.frames.specs.OneWriter.{one_writer}
use Rattle.frames.specs.laws.OneWriter as writer
use Rattle.frames.specs.Recorded.{AllFit, first_configuration}
use Rattle.frames.specs.correctness.Regularity.{in_progress, IsRegular, NotStray}
use Rattle.frames.proofs.Seen.{Seen, among, opening, sees, got, now_last, IsNotStray, refuses, refuses_none, reads, read_in, after_step, end_event, Allowed, among_here, among_more, verdict}
use Rattle.frames.proofs.KnownAndSeen.{stray_alike}
use Rattle.frames.proofs.OneWriterPromises.{always_seen}
use Rattle.frames.proofs.GoodHistories.{begun_seen, gone_seen}
use Rattle.frames.proofs.VerdictFacts.{not_stray}
use Rattle.frames.proofs.Pointwise.{put, put_same, put_other}
use Rattle.layers.specs.Nested.{Ends, Asks, Sets, Table, layered}
use Rattle.layers.specs.Sound.{IsNotSpent, IsSoundTable, FitsBelow}
use Rattle.layers.specs.laws.Over.{over}
use Rattle.layers.proofs.Law.{View, Watch, Runs, IsKept, IsUser}
use Rattle.layers.proofs.LayerLaw.{layer_law}
use Rattle.layers.proofs.Admitted.{IsAdmitted, AlwaysAdmits, OnInvoke, by_count, takes_if, refuses_if}
use Rattle.frames.proofs.Counted.{Counted, uncounted}
use Rattle.stamped.proofs.Kept.{code_of_write, MayBeRead, Stamps, with_write_begun, stamps_at_first, stamps_after_write_begins, stamps_after_write_ends, stamps_after_read_ends, stamps_after_read_begins, may_be_read_from_not_stray, greater_may_be_read, stamped_user}
use Rattle.stamped.specs.declared.task.StampedTask.{StampedTask}
use Rattle.stamped.specs.declared.task.StampedTask.TheVariants.{Writing, Reading}
use Rattle.stamped.specs.Program.{stamped_program, stamped_rest, stamped_table, stamped_code_count, StampedMayBeAt}

-- what is known of a stamped register's history: what it shows, and its writes by number
pub record SeenAndCounted : Type 0 where
  pub seen : Seen
  pub counted : Counted

-- the write in progress is the last that began, and all earlier ones have returned; without one,
-- all have
abbrev pub AgreeOnWrites : Counted → Option ℕ → Type 0
AgreeOnWrites c None = c.done ≡ c.begun
AgreeOnWrites c (Some v) = (v ≡ c.value c.begun) × (c.begun ≡ c.done + 1)

-- s, what a history shows, and c, its writes by number, are of the same writes, of which there are
-- at most `last`
pub record CountsAgree (last : ℕ) (s : Seen) (c : Counted) : Type 0 where
  pub latest : s.last ≡ c.value c.done
  pub writing : AgreeOnWrites c s.writing
  pub fresh : s.fresh 1 ≡ c.value c.low
  pub overlaps : (n : ℕ) → c.low < n → n ≤ c.begun → IsTrue (among (c.value n) (s.overlaps 1))
  pub count : length (s.overlaps 0) ≡ c.begun
  pub few : c.begun ≤ last

-- `CountsAgree` holds after a write of v begins
counts_agree_after_write_begins : (V v last stamp best : ℕ) (s p : Seen) (c : Counted) → Stamps V c p stamp best → s.writing ≡ None → c.begun < last → CountsAgree last s c → CountsAgree last (sees (Some (Invoke 0 (Write v))) s) (with_write_begun v c)
counts_agree_after_write_begins V v last stamp best s p c h idle room t =
    let hl : c.low ≤ c.done = h.low in
    let hd : c.done ≤ c.begun = h.done in
    let even : c.done ≡ c.begun = subst (AgreeOnWrites c) idle t.writing in
    record {
      latest = t.latest ∙ sym (put_other (c.begun + 1) c.done v c.value (λ e. omega (arith, e, hd)));
      writing = (sym (put_same (c.begun + 1) v c.value), omega (arith, even));
      fresh = t.fresh ∙ sym (put_other (c.begun + 1) c.low v c.value (λ e. omega (arith, e, hd, hl)));
      overlaps = λ n lo hi. elim (cases_eq n (c.begun + 1)) [
        | inl e ↦ subst (λ x. IsTrue (among x (v ∷ s.overlaps 1))) (sym (ap (put (c.begun + 1) v c.value) e ∙ put_same (c.begun + 1) v c.value)) (among_here v (s.overlaps 1))
        | inr ne ↦ subst (λ x. IsTrue (among x (v ∷ s.overlaps 1))) (sym (put_other (c.begun + 1) n v c.value ne)) (among_more (c.value n) v (s.overlaps 1) (t.overlaps n lo (omega (arith, hi, ne))))
      ];
      count = ap suc t.count ∙ (let e : suc c.begun ≡ c.begun + 1 = omega arith in e);
      few = omega (arith, room);
    }

-- `CountsAgree` holds after a read begins
counts_agree_after_read_begins : (last : ℕ) (s : Seen) (c : Counted) → CountsAgree last s c → CountsAgree last (sees (Some (Invoke 1 Read)) s) (record c { low = c.done })
counts_agree_after_read_begins last s c t = record {
  latest = t.latest;
  writing = same s.writing t.writing;
  fresh = t.latest;
  overlaps = λ n lo hi. over s.writing n lo hi t.writing;
  count = t.count;
  few = t.few;
}
  where
    same : (w : Option ℕ) → AgreeOnWrites c w → AgreeOnWrites (record c { low = c.done }) w
    same None h = h
    same (Some v) h = h

    over : (w : Option ℕ) (n : ℕ) → c.done < n → n ≤ c.begun → AgreeOnWrites c w → IsTrue (among (c.value n) (in_progress w))
    over None n lo hi h = absurd (omega (arith, lo, hi, h))
    over (Some v) n lo hi h = let b : c.begun ≡ c.done + 1 = h.1 in let e : n ≡ c.begun = omega (arith, lo, hi, b) in
        subst (λ x. IsTrue (among (c.value n) (x ∷ []))) (ap c.value e ∙ sym h.0) (among_here (c.value n) [])

-- `CountsAgree` holds after a write returns
counts_agree_after_write_ends : (last q : ℕ) (s : Seen) (c : Counted) → CountsAgree last s c → CountsAgree last (sees (Some (Wrote q)) s) (record c { done = c.begun })
counts_agree_after_write_ends last q s c t = record { latest = now s.writing t.writing t.latest; writing = refl; fresh = t.fresh; overlaps = t.overlaps; count = t.count; few = t.few }
  where
    now : (w : Option ℕ) → AgreeOnWrites c w → s.last ≡ c.value c.done → now_last w s.last ≡ c.value c.begun
    now None h e = e ∙ ap c.value h
    now (Some v) h e = h.0

-- `CountsAgree` holds after a read returns the value of write n, which becomes the floor
counts_agree_after_read_ends : (last n : ℕ) (s : Seen) (c : Counted) → CountsAgree last s c → CountsAgree last s (record c { floor = n })
counts_agree_after_read_ends last n s c t = record { latest = t.latest; writing = same s.writing t.writing; fresh = t.fresh; overlaps = t.overlaps; count = t.count; few = t.few }
  where
    same : (w : Option ℕ) → AgreeOnWrites c w → AgreeOnWrites (record c { floor = n }) w
    same None h = h
    same (Some v) h = h

-- a read that gives the value of a write from number `low` on isn't stray
not_stray_from_numbered : (last y n : ℕ) (s : Seen) (c : Counted) → CountsAgree last s c → c.low ≤ n → n ≤ c.begun → c.value n ≡ y → IsNotStray (record { reader = 1; value = y; fresh = s.fresh 1; overlaps = s.overlaps 1 })
not_stray_from_numbered last y n s c t lo hi e = elim (cases_eq n c.low) [
  | inl i ↦ not_stray (record { reader = 1; value = y; fresh = s.fresh 1; overlaps = s.overlaps 1 }) (inl (sym e ∙ ap c.value i ∙ sym t.fresh))
  | inr ne ↦ not_stray (record { reader = 1; value = y; fresh = s.fresh 1; overlaps = s.overlaps 1 }) (inr (subst (λ x. IsTrue (among x (s.overlaps 1))) e (t.overlaps n (omega (arith, lo, ne)) hi)))
]

-- whether a stamp is left after k writes
abbrev pub has_stamp_left : ℕ → ℕ → Bool
has_stamp_left last k = nat_lt k last

-- no stamp is left after `last` writes
no_stamp_left : (k last : ℕ) → k ≡ last → has_stamp_left last k ≡ false
no_stamp_left k last e = go (nat_lt k last) refl
  where
    go : (b : Bool) → nat_lt k last ≡ b → b ≡ false
    go true f = absurd (let p = ltb-true k last f in omega (arith, p, e))
    go false f = refl

-- a step with events e refuses just the writes without a stamp left, and returns no stray read; z
-- is what is shown after it
abbrev pub IsAdmittedStep : ℕ → Seen → StepEvents → Seen → Type 0
IsAdmittedStep last s e z = IsAdmitted IsNotStray (by_count (has_stamp_left last)) s e × (z ≡ after_step e s)

-- the same of what is shown, when also the numbers of writes are known
abbrev pub IsAdmittedStepCounted : ℕ → SeenAndCounted → StepEvents → SeenAndCounted → Type 0
IsAdmittedStepCounted last u e z = IsAdmittedStep last u.seen e z.seen

-- the step that invokes an operation is admitted, if a stamp is left for a write
admitted_begun : (last p : ℕ) (o : Op) (end : Option Event) (s : Seen) → refuses end ≡ false → takes_if (has_stamp_left last) o s → AllByRecursion IsNotStray (got end (sees (Some (Invoke p o)) s))
    → IsAdmittedStep last s (in_order (Some (Invoke p o)) end) (sees end (sees (Some (Invoke p o)) s))
admitted_begun last p o end s f t g = (record { first = refl; taken = λ e. t; refused = λ e. absurd (let z : true ≡ false = sym e ∙ f in cc); reads = g }, sym (begun_seen p o end s f))

-- the step that refuses an operation is admitted, if it is a write without a stamp left
admitted_refused : (last p : ℕ) (o : Op) (layer : Layer) (s : Seen) → refuses_if (has_stamp_left last) o s → IsAdmittedStep last s (in_order (Some (Invoke p o)) (Some (Refused p layer))) s
admitted_refused last p o layer s r = (record { first = refl; taken = λ e. absurd (cc e); refused = λ e. r; reads = tt }, refl)

-- the event, if there is one, is the return of an operation
abbrev IsReturnOrNone : Option Event → Type 0
IsReturnOrNone None = ⊤
IsReturnOrNone (Some (Got p x)) = ⊤
IsReturnOrNone (Some (Wrote p)) = ⊤
IsReturnOrNone (Some (Invoke p o)) = ⊥
IsReturnOrNone (Some (Refused p l)) = ⊥
IsReturnOrNone (Some (Void p r)) = ⊥
IsReturnOrNone (Some (Stop p)) = ⊥
IsReturnOrNone (Some (Chosen p b v)) = ⊥

-- a return refuses nothing, and invokes nothing
return_refuses_nothing : (last : ℕ) (end : Option Event) (s : Seen) → IsReturnOrNone end → (refuses end ≡ false) × OnInvoke (takes_if (has_stamp_left last)) end s
return_refuses_nothing last None s h = (refl, tt)
return_refuses_nothing last (Some (Got p x)) s h = (refl, tt)
return_refuses_nothing last (Some (Wrote p)) s h = (refl, tt)
return_refuses_nothing last (Some (Invoke p o)) s h = absurd h
return_refuses_nothing last (Some (Refused p l)) s h = absurd h
return_refuses_nothing last (Some (Void p r)) s h = absurd h
return_refuses_nothing last (Some (Stop p)) s h = absurd h
return_refuses_nothing last (Some (Chosen p b v)) s h = absurd h

-- a bit action is admitted, if it returns no stray read
admitted_gone : (last p : ℕ) (chosen : Option (ℕ × Bool)) (end : Option Event) (s : Seen) → IsReturnOrNone end → AllByRecursion IsNotStray (got end s) → IsAdmittedStep last s (in_order (chosen_of p chosen) end) (sees end s)
admitted_gone last p None end s h g =
    let k = return_refuses_nothing last end s h in
    (record { first = k.0; taken = λ e. k.1; refused = λ e. absurd (cc e); reads = subst (AllByRecursion IsNotStray) (sym (append-nil (got end s))) g }, sym (gone_seen p None end s k.0))
admitted_gone last p (Some x) end s h g =
    let k = return_refuses_nothing last end s h in
    (record { first = refl; taken = λ e. tt; refused = λ e. absurd (let z : true ≡ false = sym e ∙ k.0 in cc); reads = g }, sym (gone_seen p (Some x) end s k.0))

-- the invariant: that of Kept.antt, and also the stamps are numbers of writes that the history
-- shows, and while the writer is idle the history shows no write in progress
pub record ByCountInv (V last : ℕ) (u : SeenAndCounted) (j : View StampedTask) : Type 0 where
  pub stamps : Stamps V u.counted (j.parts 0) (j.words 0) (j.words 1)
  pub agree : CountsAgree last u.seen u.counted
  pub idle : j.tasks 0 ≡ None → ((j.parts 0).writing ≡ None) × (u.seen.writing ≡ None)

-- reads below aren't stray, and the invariant holds
abbrev pub by_count_watch : ℕ → ℕ → Watch StampedTask SeenAndCounted
by_count_watch V last = record { Good = IsNotStray; Inv = ByCountInv V last }

module _ (V last : ℕ) where
  abbrev table : Table StampedTask
  table = stamped_table V last

  abbrev watch : Watch StampedTask SeenAndCounted
  watch = by_count_watch V last

  -- the rest of a read, once the read below has given x, keeps the invariant
  runs_read_rest : (x : ℕ) (op : Op) (Out : Option Event → SeenAndCounted → Type 0) (u : SeenAndCounted) (j : View StampedTask) → ByCountInv V last u (record j { tasks = put 1 None j.tasks }) → MayBeRead V u.counted x
      → ((y : ℕ) (z : SeenAndCounted) → z.seen ≡ u.seen → AllByRecursion IsNotStray (got (Some (Got 1 y)) u.seen) → Out (Some (Got 1 y)) z) → Runs table watch 1 op Out (stamped_rest V Reading (Value x)) j
  runs_read_rest x op Out u j h y og =
      let c : Counted = u.counted in
      let g = greater_may_be_read V x c (j.parts 0) (j.words 0) (j.words 1) h.stamps y in
      let n : ℕ = g.0 in
      let nb : n ≤ c.begun = g.1.1.0 in
      let is : max (j.words 1) x ≡ code_of_write V c n = g.1.1.1.1 in
      let d : Counted = record c { floor = n } in
      let z : SeenAndCounted = record { seen = u.seen; counted = d } in
      let value : c.value n ≡ max (j.words 1) x % V = sym (ap (λ k. k % V) is ∙ mod-mul-add n V (c.value n) (h.stamps.small n nb)) in (
        z,
        (
          og (max (j.words 1) x % V) z refl (not_stray_from_numbered last (max (j.words 1) x % V) n u.seen c h.agree g.1.0 nb value, tt),
          record {
            stamps = stamps_after_read_ends V n c (j.parts 0) (j.words 0) (j.words 1) (max (j.words 1) x) h.stamps nb is;
            agree = counts_agree_after_read_ends last n u.seen c h.agree;
            idle = h.idle;
          },
        ),
      )

  -- a write from its invocation on keeps the invariant
  begins_write : (u : SeenAndCounted) (j : View StampedTask) (v : ℕ) → ByCountInv V last u j → j.tasks 0 ≡ None → v < V
      → Runs table watch 0 (Write v) (λ e. IsAdmittedStepCounted last u (in_order (Some (Invoke 0 (Write v))) e)) (stamped_program V last 0 (Write v)) j
  begins_write u j v h free lv = go (j.words 0 == last) refl
    where
      c : Counted
      c = u.counted

      s : Seen
      s = u.seen

      a : Stamps V (with_write_begun v c) (sees (Some (Invoke 0 (Write ((j.words 0 + 1) * V + v)))) (j.parts 0)) (j.words 0 + 1) (j.words 1)
      a = stamps_after_write_begins V v 0 0 c (j.parts 0) (j.words 0) (j.words 1) h.stamps (h.idle free).0 lv

      go : (d : Bool) → (j.words 0 == last) ≡ d → Runs table watch 0 (Write v) (λ e. IsAdmittedStepCounted last u (in_order (Some (Invoke 0 (Write v))) e))
          (if d then Ends (Spent Stamped) else Sets 0 (j.words 0 + 1) (Asks (Writing v ((j.words 0 + 1) * V + v)) Ends)) j
      go true e = (u, (admitted_refused last 0 (Write v) Stamped s (no_stamp_left (length (s.overlaps 0)) last (h.agree.count ∙ sym h.stamps.stamp_is ∙ eqb-true (j.words 0) last e)), record { stamps = h.stamps; agree = h.agree; idle = λ k. h.idle free }))
      go false e =
          let ne : j.words 0 ≡ last → ⊥ = eqb-false (j.words 0) last e in
          let st : j.words 0 ≡ c.begun = h.stamps.stamp_is in
          let fw : c.begun ≤ last = h.agree.few in
          let room : c.begun < last = omega (arith, ne, st, fw) in
          let takes : has_stamp_left last (length (s.overlaps 0)) ≡ true = (let k : length (s.overlaps 0) ≡ c.begun = h.agree.count in lt-ltb (length (s.overlaps 0)) last (omega (arith, room, k))) in
          let s1 : Seen = sees (Some (Invoke 0 (Write v))) s in
          let t1 : CountsAgree last s1 (with_write_begun v c) = counts_agree_after_write_begins V v last (j.words 0) (j.words 1) s (j.parts 0) c h.stamps (h.idle free).1 room h.agree in (
            (record { seen = s1; counted = with_write_begun v c }, (admitted_begun last 0 (Write v) None s refl takes tt, record { stamps = a; agree = t1; idle = λ k. (let n : ⊥ = cc in absurd n) })),
            λ o ans pass good. ends takes t1 o ans pass,
          )
        where
          ends : has_stamp_left last (length (s.overlaps 0)) ≡ true → CountsAgree last (sees (Some (Invoke 0 (Write v))) s) (with_write_begun v c) → (o : Outcome) → Answers (stamped_code_count V last) (Write ((j.words 0 + 1) * V + v)) o → IsNotSpent o
              → Runs table watch 0 (Write v) (λ e. IsAdmittedStepCounted last u (in_order (Some (Invoke 0 (Write v))) e)) (Ends o)
              (record { words = put 0 (j.words 0 + 1) j.words; tasks = j.tasks; parts = put 0 (sees (Some (end_event 0 o)) (sees (Some (Invoke 0 (Write ((j.words 0 + 1) * V + v)))) (j.parts 0))) j.parts })
          ends tk t1 (Value x) ans pass = absurd ans
          ends tk t1 (Spent l) ans pass = absurd pass
          ends tk t1 Written ans pass = (
            record { seen = sees (Some (Wrote 0)) (sees (Some (Invoke 0 (Write v))) s); counted = record (with_write_begun v c) { done = c.begun + 1 } },
            (admitted_begun last 0 (Write v) (Some (Wrote 0)) s refl tk tt, record { stamps = stamps_after_write_ends V 0 (with_write_begun v c) _ (j.words 0 + 1) (j.words 1) a; agree = counts_agree_after_write_ends last 0 _ (with_write_begun v c) t1; idle = λ k. (refl, refl) }),
          )

  -- a read from its invocation on keeps the invariant
  begins_read : (u : SeenAndCounted) (j : View StampedTask) → ByCountInv V last u j
      → Runs table watch 1 Read (λ e. IsAdmittedStepCounted last u (in_order (Some (Invoke 1 Read)) e)) (stamped_program V last 1 Read) j
  begins_read u j h =
      let c : Counted = u.counted in
      let a = stamps_after_read_begins V c (j.parts 0) (j.words 0) (j.words 1) h.stamps in
      let t1 = counts_agree_after_read_begins last u.seen c h.agree in (
        (record { seen = sees (Some (Invoke 1 Read)) u.seen; counted = record c { low = c.done } }, (admitted_begun last 1 Read None u.seen refl tt tt, record { stamps = a; agree = t1; idle = h.idle })),
        λ o ans pass good. ends o ans pass good a t1,
      )
    where
      ends : (o : Outcome) → Answers (stamped_code_count V last) Read o → IsNotSpent o → AllByRecursion IsNotStray (got (Some (end_event 1 o)) (sees (Some (Invoke 1 Read)) (j.parts 0)))
          → Stamps V (record u.counted { low = u.counted.done }) (sees (Some (Invoke 1 Read)) (j.parts 0)) (j.words 0) (j.words 1) → CountsAgree last (sees (Some (Invoke 1 Read)) u.seen) (record u.counted { low = u.counted.done })
          → Runs table watch 1 Read (λ e. IsAdmittedStepCounted last u (in_order (Some (Invoke 1 Read)) e)) (stamped_rest V Reading o)
          (record { words = j.words; tasks = j.tasks; parts = put 0 (sees (Some (end_event 1 o)) (sees (Some (Invoke 1 Read)) (j.parts 0))) j.parts })
      ends Written ans pass good a t1 = absurd ans
      ends (Spent l) ans pass good a t1 = absurd pass
      ends (Value x) ans pass good a t1 =
          let c1 : Counted = record u.counted { low = u.counted.done } in
          runs_read_rest x Read (λ e. IsAdmittedStepCounted last u (in_order (Some (Invoke 1 Read)) e)) (record { seen = sees (Some (Invoke 1 Read)) u.seen; counted = c1 })
          (record { words = j.words; tasks = j.tasks; parts = put 0 (sees (Some (Invoke 1 Read)) (j.parts 0)) j.parts })
          (record { stamps = a; agree = t1; idle = h.idle })
          (may_be_read_from_not_stray V x c1 (sees (Some (Invoke 1 Read)) (j.parts 0)) (j.words 0) (j.words 1) a good.0)
          (λ y z e g. subst (λ q. IsAdmittedStep last u.seen (in_order (Some (Invoke 1 Read)) (Some (Got 1 y))) q) (sym e) (admitted_begun last 1 Read (Some (Got 1 y)) u.seen refl tt g))

  -- an operation from its invocation on keeps the invariant
  begins : (u : SeenAndCounted) (j : View StampedTask) (p : ℕ) (op : Op) → ByCountInv V last u j → j.tasks p ≡ None → one_writer V 2 p op ≡ true
      → Runs table watch p op (λ e. IsAdmittedStepCounted last u (in_order (Some (Invoke p op)) e)) (stamped_program V last p op) j
  begins u j p (Write v) h free s =
      let zp = writer.writer_zero V 2 p v s in
      let lv = writer.no_other_value V 2 p v s in
      subst (λ q. Runs table watch q (Write v) (λ e. IsAdmittedStepCounted last u (in_order (Some (Invoke q (Write v))) e)) (stamped_program V last q (Write v)) j) (sym zp)
      (begins_write u j v h (sym (ap j.tasks zp) ∙ free) lv)
  begins u j p Read h free s =
      subst (λ q. Runs table watch q Read (λ e. IsAdmittedStepCounted last u (in_order (Some (Invoke q Read)) e)) (stamped_program V last q Read) j) (sym (let lo = writer.reader_is_not_zero V 2 p s in let hi = writer.reader_below_processes V 2 p s in omega (arith, lo, hi)))
      (begins_read u j h)

  -- the rest of an operation, once its task has ended, keeps the invariant
  goes : (u : SeenAndCounted) (j : View StampedTask) (p : ℕ) (op : Op) (task : StampedTask) (chosen : Option (ℕ × Bool)) (o : Outcome) → ByCountInv V last u j
      → StampedMayBeAt V last p op task → Answers (stamped_code_count V last) (table.asks task).op o → IsNotSpent o
      → AllByRecursion IsNotStray (got (Some (end_event (table.asks task).who o)) (j.parts (table.asks task).part))
      → Runs table watch p op (λ e. IsAdmittedStepCounted last u (in_order (chosen_of p chosen) e)) (stamped_rest V task o)
      (record j { parts = put (table.asks task).part (sees (Some (end_event (table.asks task).who o)) (j.parts (table.asks task).part)) j.parts })
  goes u j p (Write v) (Writing x k) chosen (Value y) h s ans pass good = absurd ans
  goes u j p (Write v) (Writing x k) chosen (Spent l) h s ans pass good = absurd pass
  goes u j p (Write v) (Writing x k) chosen Written h s ans pass good = (
    record { seen = sees (Some (Wrote p)) u.seen; counted = record u.counted { done = u.counted.begun } },
    (
      admitted_gone last p chosen (Some (Wrote p)) u.seen tt tt,
      record { stamps = stamps_after_write_ends V 0 u.counted (j.parts 0) (j.words 0) (j.words 1) h.stamps; agree = counts_agree_after_write_ends last p u.seen u.counted h.agree; idle = λ k. (refl, refl) },
    ),
  )
  goes u j p Read Reading chosen Written h s ans pass good = absurd ans
  goes u j p Read Reading chosen (Spent l) h s ans pass good = absurd pass
  goes u j p Read Reading chosen (Value x) h s ans pass good =
      let y : MayBeRead V u.counted x = may_be_read_from_not_stray V x u.counted (j.parts 0) (j.words 0) (j.words 1) h.stamps good.0 in
      subst (λ r. Runs table watch r Read (λ e. IsAdmittedStepCounted last u (in_order (chosen_of r chosen) e)) (stamped_rest V Reading (Value x)) (record j { parts = put 0 (j.parts 0) j.parts })) (sym s)
      (runs_read_rest x Read (λ e. IsAdmittedStepCounted last u (in_order (chosen_of 1 chosen) e)) u (record j { parts = put 0 (j.parts 0) j.parts }) (record { stamps = h.stamps; agree = h.agree; idle = h.idle }) y
      (λ y z e g. subst (λ q. IsAdmittedStep last u.seen (in_order (chosen_of 1 chosen) (Some (Got 1 y))) q) (sym e) (admitted_gone last 1 chosen (Some (Got 1 y)) u.seen tt g)))
  goes u j p (Write v) Reading chosen o h s ans pass good = absurd s
  goes u j p Read (Writing x k) chosen o h s ans pass good = absurd s

  -- what is known at first, if the initial value is v
  abbrev counted_at_first : ℕ → SeenAndCounted
  counted_at_first v = record { seen = opening v; counted = uncounted v }

  -- the invariant holds at first
  holds_at_first : (v : ℕ) → v < V → (j : View StampedTask) → j.words 0 ≡ 0 → j.words 1 ≡ v → j.parts 0 ≡ opening v → ByCountInv V last (counted_at_first v) j
  holds_at_first v l j e0 e1 ep =
      record {
        stamps = stamps_at_first V v (j.parts 0) (j.words 0) (j.words 1) l ep e0 e1;
        agree = record { latest = refl; writing = refl; fresh = refl; overlaps = λ n lo hi. absurd (omega (arith, lo, hi)); count = refl; few = omega arith };
        idle = λ k. (ap (λ s. s.writing) ep, refl);
      }

  -- the invariant holds at first, every step keeps it, and refuses and returns only what
  -- `IsAdmittedStep` allows
  pub by_count_kept : IsKept table (StampedMayBeAt V last) watch counted_at_first (IsAdmittedStepCounted last)
  by_count_kept = record {
    initial = λ v l j ew et ep. holds_at_first v l j (ew 0 (omega arith)) (ew 1 (omega arith)) (ep 0 (omega arith));
    passes = record {
      void = λ u p reason. (record { first = refl; taken = λ e. tt; refused = λ e. absurd (cc e); reads = tt }, refl);
      stop = λ u p. (record { first = refl; taken = λ e. tt; refused = λ e. absurd (cc e); reads = tt }, refl);
      still = λ u j p chosen h. (u, (admitted_gone last p chosen None u.seen tt tt, h));
    };
    begins = begins;
    goes = λ u j p n chosen o h mine s ans pass good. goes u j p n.op n.task chosen o h s ans pass good;
  }

-- steps that are as `IsAdmittedStepCounted` says are as `IsAdmittedStep` says
admitted_without_counts : (last : ℕ) (u : SeenAndCounted) (es : List StepEvents) → Allowed (IsAdmittedStepCounted last) u es → Allowed (IsAdmittedStep last) u.seen es
admitted_without_counts last u [] h = tt
admitted_without_counts last u (e ∷ es) h = (h.0.seen, (h.1.0, admitted_without_counts last h.0 es h.1.1))

-- a stamped register over a regular one refuses writes by their count, and no read is stray
pub stamped_admits : {P : Type 0} (b : Behaviour P) (Keeps : Memory → Type 0) (Reaches : ℕ → Op → P → Type 0) (V last : ℕ) (left : StampedTask → ℕ) → IsLawful b Keeps Reaches
    → IsSoundTable (stamped_table V last) (StampedMayBeAt V last) left → FitsBelow (stamped_table V last) b → IsRegular b
    → AlwaysAdmits IsNotStray (by_count (has_stamp_left last)) (layered (stamped_table V last) b)
stamped_admits b Keeps Reaches V last left lawful sound fit regular v steps l f =
    admitted_without_counts last (counted_at_first V last v) (history (layered (stamped_table V last) b) (first_configuration (layered (stamped_table V last) b) v) steps)
    (layer_law (over lawful sound fit) (λ part who. who) (stamped_user V last) (by_count_watch V last) (counted_at_first V last) (IsAdmittedStepCounted last)
    (always_seen NotStray IsNotStray stray_alike b regular.one_writer Keeps Reaches lawful regular) (by_count_kept V last) v steps l f)
