-- A regular bit over a safe register is regular.
use Rattle.std.proofs.Common.{◌≡◌, ℕ, Bool, true, false, Option, Some, None, ◌<◌, ◌≤◌, ◌==◌, IsTrue, refl, sym, ap, ◌∙◌, subst, arith, List, [], ◌∷◌, inl, inr}
use Rattle.std.specs.Prelude.{◌⊎◌, ◌||◌, if◌then◌else◌}
use Rattle.std.specs.List.{AllByRecursion}
use Rattle.std.proofs.lemmas.Bool.{eqb-true, eqb-false, cases_eq}
use Rattle.frames.specs.declared.types.Op.{Op}
use Rattle.frames.specs.declared.types.Op.TheVariants.{Read, Write}
use Rattle.frames.specs.declared.types.Outcome.{Outcome}
use Rattle.frames.specs.declared.types.Outcome.TheVariants.{Value, Written, Spent}
use Rattle.frames.specs.declared.types.Event.{Event}
use Rattle.frames.specs.declared.types.Event.TheVariants.{Invoke, Got, Wrote}
use Rattle.safe_bit.specs.Memory.{Memory}
use Rattle.frames.specs.Behaviour.{Behaviour, IsLawful, Answers}
use Rattle.frames.specs.Configuration.{in_order, chosen_of}
use Rattle.frames.specs.OneWriter.{one_writer}
use Rattle.frames.specs.laws.OneWriter as writer
use Rattle.frames.specs.correctness.Regularity.{in_progress, IsSafe, IsRegular}
use Rattle.frames.proofs.KnownAndSeen.{fresh_alike, stray_alike}
use Rattle.frames.proofs.Seen.{Seen, Returned, among, opening, sees, got, now_last, IsFreshAlone, IsNotStray, end_event, among_more, among_here}
use Rattle.frames.proofs.VerdictFacts.{fresh_value, not_stray}
use Rattle.frames.proofs.Pointwise.{put, put_same, put_other}
use Rattle.layers.specs.Nested.{Ends, Asks, Sets, Table, layered}
use Rattle.layers.specs.Sound.{IsNotSpent, IsSoundTable, FitsBelow}
use Rattle.layers.specs.laws.Over.{over}
use Rattle.layers.proofs.Law.{TaskInProgress, View, Watch, Runs, IsKept, IsUser}
use Rattle.layers.proofs.LayerLaw.{IsGoodStep, good_begun, good_gone, good_passes, layer_promises}
use Rattle.regular_bit.specs.declared.task.RegularTask.{RegularTask}
use Rattle.regular_bit.specs.declared.task.RegularTask.TheVariants.{Writing, Reading}
use Rattle.regular_bit.specs.Program.{regular_table, regular_program, RegularMayBeAt}

-- the word is the value of the last write below that began; during that write it differs from the
-- value written before
abbrev pub WordSays : ℕ → Option ℕ → ℕ → Type 0
WordSays word None last = word ≡ last
WordSays word (Some v) last = (word ≡ v) × ((v ≡ last → ⊥) × v < 2)

-- a read overlaps no write below, none is in progress, and its fresh value is the one written last;
-- or it overlaps a write of a value other than the fresh one
abbrev pub AloneOrOverlapsOther : ℕ → List ℕ → ℕ → Option ℕ → Type 0
AloneOrOverlapsOther fresh overlaps last writing =
    ((overlaps ≡ []) × ((fresh ≡ last) × (writing ≡ None)))
    ⊎ ((x : ℕ) × (IsTrue (among x overlaps) × ((x ≡ fresh → ⊥) × x < 2)))

-- what the bit's history shows, u, and what the history below shows, s, agree: the values written
-- last and being written and the fresh values are the same, and a read overlaps on the bit each
-- value that it overlaps below
pub record HistoriesAgree (u s : Seen) (word : ℕ) : Type 0 where
  pub last : u.last ≡ s.last
  pub writing : u.writing ≡ s.writing
  pub fresh : (r : ℕ) → u.fresh r ≡ s.fresh r
  pub overlaps : (r x : ℕ) → IsTrue (among x (s.overlaps r)) → IsTrue (among x (u.overlaps r))
  pub last_small : s.last < 2
  pub fresh_small : (r : ℕ) → s.fresh r < 2
  pub says : WordSays word s.writing s.last
  pub other : (r : ℕ) → AloneOrOverlapsOther (s.fresh r) (s.overlaps r) s.last s.writing

-- if x is among these values wherever it is among those, this is still so with v added to both
among_more_of_both : (x v : ℕ) (vs ws : List ℕ) → (IsTrue (among x vs) → IsTrue (among x ws)) → IsTrue (among x (v ∷ vs)) → IsTrue (among x (v ∷ ws))
among_more_of_both x v vs ws f h = go (v == x) h
  where
    go : (c : Bool) → IsTrue (c || among x vs) → IsTrue (c || among x ws)
    go true k = refl
    go false k = f k

-- both histories agree after a write of another value than the word begins on the bit and below
histories_agree_after_write_begins : (p q v : ℕ) (u s : Seen) (word : ℕ) → HistoriesAgree u s word → s.writing ≡ None → v < 2 → (word ≡ v → ⊥)
    → HistoriesAgree (sees (Some (Invoke p (Write v))) u) (sees (Some (Invoke q (Write v))) s) v
histories_agree_after_write_begins p q v u s word a idle l ne =
    let w : word ≡ s.last = subst (λ k. WordSays word k s.last) idle a.says in
    record {
      last = a.last;
      writing = refl;
      fresh = a.fresh;
      overlaps = λ r x. among_more_of_both x v (s.overlaps r) (u.overlaps r) (a.overlaps r x);
      last_small = a.last_small;
      fresh_small = a.fresh_small;
      says = (refl, (λ e. ne (w ∙ sym e), l));
      other = λ r. elim (a.other r) [
        | inl h ↦ inr (v, (among_here v (s.overlaps r), (λ e. ne (w ∙ sym h.1.0 ∙ sym e), l)))
        | inr h ↦ inr (h.0, (among_more h.0 v (s.overlaps r) h.1.0, h.1.1))
      ];
    }

-- once the write in progress has returned, if there is one, the value written last is below 2
now_last_small : (w : Option ℕ) (last word : ℕ) → WordSays word w last → last < 2 → now_last w last < 2
now_last_small None last word h l = l
now_last_small (Some v) last word h l = h.1.1

-- once the write in progress has returned, if there is one, the value written last is the word
now_last_is_word : (w : Option ℕ) (last word : ℕ) → WordSays word w last → word ≡ now_last w last
now_last_is_word None last word h = h
now_last_is_word (Some v) last word h = h.0

-- both histories agree after the write in progress, if there is one, has returned
histories_agree_after_write_ends : (p q : ℕ) (u s : Seen) (word : ℕ) → HistoriesAgree u s word → HistoriesAgree (sees (Some (Wrote p)) u) (sees (Some (Wrote q)) s) word
histories_agree_after_write_ends p q u s word a = record {
  last = ap (λ x. now_last u.writing x) a.last ∙ ap (λ w. now_last w s.last) a.writing;
  writing = refl;
  fresh = a.fresh;
  overlaps = a.overlaps;
  last_small = now_last_small s.writing s.last word a.says a.last_small;
  fresh_small = a.fresh_small;
  says = now_last_is_word s.writing s.last word a.says;
  other = λ r. elim (a.other r) [
    | inl h ↦ inl (h.0, (h.1.0 ∙ sym (ap (λ w. now_last w s.last) h.1.1), refl))
    | inr h ↦ inr h
  ];
}

-- both histories agree after a write of the word's value, which writes nothing below
histories_agree_after_same_write : (p v : ℕ) (u s : Seen) (word : ℕ) → HistoriesAgree u s word → s.writing ≡ None → word ≡ v → HistoriesAgree (sees (Some (Wrote p)) (sees (Some (Invoke p (Write v))) u)) s word
histories_agree_after_same_write p v u s word a idle e =
    let w : word ≡ s.last = subst (λ k. WordSays word k s.last) idle a.says in
    record {
      last = sym e ∙ w;
      writing = sym idle;
      fresh = a.fresh;
      overlaps = λ r x h. among_more x v (u.overlaps r) (a.overlaps r x h);
      last_small = a.last_small;
      fresh_small = a.fresh_small;
      says = a.says;
      other = a.other;
    }

-- a read that is invoked now overlaps no write, or one of another value than its fresh one
alone_or_overlaps_at_read : (w : Option ℕ) (last word : ℕ) → WordSays word w last → AloneOrOverlapsOther last (in_progress w) last w
alone_or_overlaps_at_read None last word h = inl (refl, (refl, refl))
alone_or_overlaps_at_read (Some v) last word h = inr (v, (among_here v [], h.1))

-- both histories agree after a read begins on the bit and below
histories_agree_after_read_begins : (p : ℕ) (u s : Seen) (word : ℕ) → HistoriesAgree u s word → HistoriesAgree (sees (Some (Invoke p Read)) u) (sees (Some (Invoke p Read)) s) word
histories_agree_after_read_begins p u s word a = record {
  last = a.last;
  writing = a.writing;
  fresh = λ r. elim (r == p) as (λ c. (if c then u.last else u.fresh r) ≡ (if c then s.last else s.fresh r)) [ true ↦ a.last | false ↦ a.fresh r ];
  overlaps = λ r x. elim (r == p) as (λ c. IsTrue (among x (if c then in_progress s.writing else s.overlaps r)) → IsTrue (among x (if c then in_progress u.writing else u.overlaps r))) [
    | true ↦ λ h. subst (λ w. IsTrue (among x (in_progress w))) (sym a.writing) h
    | false ↦ a.overlaps r x
  ];
  last_small = a.last_small;
  fresh_small = λ r. elim (r == p) as (λ c. (if c then s.last else s.fresh r) < 2) [ true ↦ a.last_small | false ↦ a.fresh_small r ];
  says = a.says;
  other = λ r. elim (r == p) as (λ c. AloneOrOverlapsOther (if c then s.last else s.fresh r) (if c then in_progress s.writing else s.overlaps r) s.last s.writing) [
    | true ↦ alone_or_overlaps_at_read s.writing s.last word a.says
    | false ↦ a.other r
  ];
}

-- if the read below is fresh, should no write overlap it, the bit's read of the same value isn't
-- stray
got_not_stray : (p : ℕ) (u s : Seen) (word x : ℕ) → HistoriesAgree u s word → x < 2 → IsFreshAlone (record { reader = p; value = x; fresh = s.fresh p; overlaps = s.overlaps p })
    → IsNotStray (record { reader = p; value = x; fresh = u.fresh p; overlaps = u.overlaps p })
got_not_stray p u s word x a l g =
    let here : Returned = record { reader = p; value = x; fresh = u.fresh p; overlaps = u.overlaps p } in
    let below : Returned = record { reader = p; value = x; fresh = s.fresh p; overlaps = s.overlaps p } in
    elim (a.other p) [
      | inl h ↦ not_stray here (inl (fresh_value below (g h.0) ∙ sym (a.fresh p)))
      | inr h ↦ elim (cases_eq x (s.fresh p)) [
        | inl e ↦ not_stray here (inl (e ∙ sym (a.fresh p)))
        | inr ne ↦
            let y : ℕ = h.0 in
            let ly : y < 2 = h.1.1.1 in
            let ny : y ≡ s.fresh p → ⊥ = h.1.1.0 in
            let lf : s.fresh p < 2 = a.fresh_small p in
            let e : y ≡ x = omega (arith, ly, ny, lf, l, ne) in
            not_stray here (inr (a.overlaps p x (subst (λ k. IsTrue (among k (s.overlaps p))) e h.1.0)))
      ]
    ]

-- the invariant: both histories agree, and while the writer is idle no write below is in progress
pub record RegularInv (u : Seen) (j : View RegularTask) : Type 0 where
  pub agree : HistoriesAgree u (j.parts 0) (j.words 0)
  pub idle : j.tasks 0 ≡ None → (j.parts 0).writing ≡ None

-- reads below that overlap no write are fresh, and the invariant holds
abbrev pub regular_watch : Watch RegularTask Seen
regular_watch = record { Good = IsFreshAlone; Inv = RegularInv }

module _ (processes : ℕ) where
  abbrev table : Table RegularTask
  table = regular_table processes

  -- the step that invokes p's operation o, and has this last event, refuses nothing, and returns no
  -- stray read
  abbrev GoodStepInvoking : Seen → ℕ → Op → Option Event → Seen → Type 0
  GoodStepInvoking u p o e = IsGoodStep IsNotStray u (in_order (Some (Invoke p o)) e)

  -- the writer has a task once it is in this one
  writer_is_busy : (p : ℕ) (n : TaskInProgress RegularTask) (f : ℕ → Option (TaskInProgress RegularTask)) → p ≡ 0 → put p (Some n) f 0 ≡ None → ⊥
  writer_is_busy p n f e k =
      let s : put p (Some n) f p ≡ Some n = put_same p (Some n) f in
      let m : put p (Some n) f p ≡ put p (Some n) f 0 = ap (put p (Some n) f) e in
      cc

  -- a write from its invocation on keeps the invariant
  begins_write : (u : Seen) (j : View RegularTask) (p v : ℕ) → RegularInv u j → j.tasks p ≡ None → p ≡ 0 → v < 2
      → Runs table regular_watch p (Write v) (GoodStepInvoking u p (Write v)) (regular_program p (Write v)) j
  begins_write u j p v h free zero_p l = go (j.words 0 == v) refl
    where
      ends : (o : Outcome) → Answers 2 (Write v) o → IsNotSpent o → HistoriesAgree (sees (Some (Invoke p (Write v))) u) (sees (Some (Invoke 0 (Write v))) (j.parts 0)) v
          → (z : Seen) × (GoodStepInvoking u p (Write v) (Some (end_event p o)) z
          × RegularInv z (record { words = put 0 v j.words; tasks = put p None j.tasks; parts = put 0 (sees (Some (end_event 0 o)) (sees (Some (Invoke 0 (Write v))) (j.parts 0))) j.parts }))
      ends (Value x) ans pass a = absurd ans
      ends (Spent s) ans pass a = absurd pass
      ends Written ans pass a = (
        sees (Some (Wrote p)) (sees (Some (Invoke p (Write v))) u),
        (
          good_begun IsNotStray p (Write v) (Some (Wrote p)) u refl tt,
          record { agree = histories_agree_after_write_ends p 0 _ _ v a; idle = λ k. refl },
        ),
      )

      go : (c : Bool) → (j.words 0 == v) ≡ c → Runs table regular_watch p (Write v) (GoodStepInvoking u p (Write v)) (if c then Ends Written else Sets 0 v (Asks (Writing v) Ends)) j
      go true e =
          let idle : (j.parts 0).writing ≡ None = h.idle (sym (ap j.tasks zero_p) ∙ free) in (
            sees (Some (Wrote p)) (sees (Some (Invoke p (Write v))) u),
            (
              good_begun IsNotStray p (Write v) (Some (Wrote p)) u refl tt,
              record { agree = histories_agree_after_same_write p v u (j.parts 0) (j.words 0) h.agree idle (eqb-true (j.words 0) v e); idle = λ k. idle },
            ),
          )
      go false e =
          let idle : (j.parts 0).writing ≡ None = h.idle (sym (ap j.tasks zero_p) ∙ free) in
          let a = histories_agree_after_write_begins p 0 v u (j.parts 0) (j.words 0) h.agree idle l (eqb-false (j.words 0) v e) in (
            (
              sees (Some (Invoke p (Write v))) u,
              (
                good_begun IsNotStray p (Write v) None u refl tt,
                record { agree = a; idle = λ k. absurd (writer_is_busy p (record { op = Write v; task = Writing v }) j.tasks zero_p k) },
              ),
            ),
            λ o ans pass good. ends o ans pass a,
          )

  -- if the writer has no task after a reader's changes, it had none before
  writer_was_idle : (p : ℕ) (n : Option (TaskInProgress RegularTask)) (f : ℕ → Option (TaskInProgress RegularTask)) → 1 ≤ p → put p n f 0 ≡ None → f 0 ≡ None
  writer_was_idle p n f l e = sym (put_other p 0 n f (λ k. omega (arith, l, k))) ∙ e

  -- a read from its invocation on keeps the invariant
  begins_read : (u : Seen) (j : View RegularTask) (p : ℕ) → RegularInv u j → 1 ≤ p → Runs table regular_watch p Read (GoodStepInvoking u p Read) (regular_program p Read) j
  begins_read u j p h l =
      let a = histories_agree_after_read_begins p u (j.parts 0) (j.words 0) h.agree in (
        (
          sees (Some (Invoke p Read)) u,
          (
            good_begun IsNotStray p Read None u refl tt,
            record { agree = a; idle = λ k. h.idle (writer_was_idle p (Some (record { op = Read; task = Reading p })) j.tasks l k) },
          ),
        ),
        λ o ans pass good. ends o ans pass good a,
      )
    where
      ends : (o : Outcome) → Answers 2 Read o → IsNotSpent o → AllByRecursion IsFreshAlone (got (Some (end_event p o)) (sees (Some (Invoke p Read)) (j.parts 0)))
          → HistoriesAgree (sees (Some (Invoke p Read)) u) (sees (Some (Invoke p Read)) (j.parts 0)) (j.words 0)
          → (z : Seen) × (GoodStepInvoking u p Read (Some (end_event p o)) z
          × RegularInv z (record { words = j.words; tasks = put p None j.tasks; parts = put 0 (sees (Some (end_event p o)) (sees (Some (Invoke p Read)) (j.parts 0))) j.parts }))
      ends Written ans pass good a = absurd ans
      ends (Spent s) ans pass good a = absurd pass
      ends (Value x) ans pass good a = (
        sees (Some (Invoke p Read)) u,
        (
          good_begun IsNotStray p Read (Some (Got p x)) u refl (got_not_stray p _ _ (j.words 0) x a ans good.0, tt),
          record { agree = a; idle = λ k. h.idle (writer_was_idle p None j.tasks l k) },
        ),
      )

  -- an operation from its invocation on keeps the invariant
  begins : (u : Seen) (j : View RegularTask) (p : ℕ) (o : Op) → RegularInv u j → j.tasks p ≡ None → one_writer 2 processes p o ≡ true
      → Runs table regular_watch p o (GoodStepInvoking u p o) (regular_program p o) j
  begins u j p (Write v) h free s = begins_write u j p v h free (writer.writer_zero 2 processes p v s) (writer.no_other_value 2 processes p v s)
  begins u j p Read h free s = begins_read u j p h (writer.reader_is_not_zero 2 processes p s)

  -- the rest of an operation, once its task has ended, keeps the invariant
  goes : (u : Seen) (j : View RegularTask) (p : ℕ) (op : Op) (task : RegularTask) (chosen : Option (ℕ × Bool)) (o : Outcome)
      → RegularInv u j → RegularMayBeAt processes p op task → Answers 2 (table.asks task).op o → IsNotSpent o
      → AllByRecursion IsFreshAlone (got (Some (end_event (table.asks task).who o)) (j.parts (table.asks task).part))
      → Runs table regular_watch p op (λ e. IsGoodStep IsNotStray u (in_order (chosen_of p chosen) e)) (Ends o)
      (record j { parts = put (table.asks task).part (sees (Some (end_event (table.asks task).who o)) (j.parts (table.asks task).part)) j.parts })
  goes u j p (Write w) (Writing v) chosen Written h s ans pass good =
      (sees (Some (Wrote p)) u, (good_gone IsNotStray p chosen (Some (Wrote p)) u refl tt, record { agree = histories_agree_after_write_ends p 0 u (j.parts 0) (j.words 0) h.agree; idle = λ k. refl }))
  goes u j p (Write w) (Writing v) chosen (Value x) h s ans pass good = absurd ans
  goes u j p (Write w) (Writing v) chosen (Spent l) h s ans pass good = absurd pass
  goes u j p Read (Reading q) chosen Written h s ans pass good = absurd ans
  goes u j p Read (Reading q) chosen (Spent l) h s ans pass good = absurd pass
  goes u j p Read (Reading q) chosen (Value x) h s ans pass good =
      let g : AllByRecursion IsFreshAlone (got (Some (Got p x)) (j.parts 0)) = subst (λ i. AllByRecursion IsFreshAlone (got (Some (Got i x)) (j.parts 0))) s.0 good in
      let l : 1 ≤ p = subst (λ i. 1 ≤ i) s.0 s.1 in (
        u,
        (
          good_gone IsNotStray p chosen (Some (Got p x)) u refl (got_not_stray p u (j.parts 0) (j.words 0) x h.agree ans g.0, tt),
          record { agree = h.agree; idle = λ k. h.idle (writer_was_idle p None j.tasks l k) },
        ),
      )
  goes u j p (Write w) (Reading q) chosen o h s ans pass good = absurd s
  goes u j p Read (Writing v) chosen o h s ans pass good = absurd s

  -- the invariant holds at first
  holds_at_first : (v : ℕ) → v < 2 → (j : View RegularTask) → j.words 0 ≡ v → j.parts 0 ≡ opening v → RegularInv (opening v) j
  holds_at_first v l j ew ep =
      let a : HistoriesAgree (opening v) (opening v) v = record {
        last = refl;
        writing = refl;
        fresh = λ r. refl;
        overlaps = λ r x h. h;
        last_small = l;
        fresh_small = λ r. l;
        says = refl;
        other = λ r. inl (refl, (refl, refl));
      } in
      record {
        agree = subst (λ w. HistoriesAgree (opening v) (j.parts 0) w) (sym ew) (subst (λ s. HistoriesAgree (opening v) s v) (sym ep) a);
        idle = λ k. ap (λ s. s.writing) ep;
      }

  -- the invariant holds at first, every step keeps it, and no returned read is stray
  pub regular_kept : IsKept table (RegularMayBeAt processes) regular_watch opening (IsGoodStep IsNotStray)
  regular_kept = record {
    initial = λ v l j ew et ep. holds_at_first v l j (ew 0 (omega arith)) (ep 0 (omega arith));
    passes = good_passes regular_watch IsNotStray;
    begins = begins;
    goes = λ u j p n chosen o h mine s ans pass good. goes u j p n.op n.task chosen o h s ans pass good;
  }

  -- each process acts as itself on the only part
  pub regular_user : IsUser table (RegularMayBeAt processes) (λ part who. who)
  regular_user p (Write w) (Writing v) s = sym s.0
  regular_user p Read (Reading q) s = s.0
  regular_user p (Write w) (Reading q) s = absurd s
  regular_user p Read (Writing v) s = absurd s

-- a regular bit over a safe register is regular
pub regular_over_safe : {P : Type 0} (b : Behaviour P) (Holds : Memory → Type 0) (Reaches : ℕ → Op → P → Type 0) (processes : ℕ) (left : RegularTask → ℕ) → IsLawful b Holds Reaches
    → IsSoundTable (regular_table processes) (RegularMayBeAt processes) left → FitsBelow (regular_table processes) b → IsSafe b → IsRegular (layered (regular_table processes) b)
regular_over_safe b Holds Reaches processes left lawful sound fit safe =
    layer_promises (over lawful sound fit) (λ part who. who) (regular_user processes) IsNotStray regular_watch fresh_alike stray_alike (λ who o h. h) safe (regular_kept processes)
