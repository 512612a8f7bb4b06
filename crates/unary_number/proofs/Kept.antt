-- A unary number built on a regular bit is regular, whatever a scan would give that finds no 1.
use Rattle.std.proofs.Common.{eq-eqb, ◌+◌, ◌-◌, ◌≡◌, ℕ, zero, suc, Bool, true, false, Option, Some, None, ◌<◌, ◌≤◌, ◌==◌, IsTrue, refl, sym, ap, ◌∙◌, subst, arith, [], inl, inr}
use Rattle.std.specs.Prelude.{if◌then◌else◌}
use Rattle.std.specs.List.{AllByRecursion}
use Rattle.std.proofs.lemmas.Bool.{ne_eqb, eqb-true, eqb-false, cases_eq}
use Rattle.frames.specs.declared.types.Op.{Op}
use Rattle.frames.specs.declared.types.Op.TheVariants.{Read, Write}
use Rattle.frames.specs.declared.types.Event.{Event}
use Rattle.frames.specs.declared.types.Event.TheVariants.{Invoke, Got, Wrote}
use Rattle.frames.specs.correctness.Regularity.{in_progress}
use Rattle.frames.proofs.Seen.{Seen, among, opening, sees, got, IsNotStray, end_event, among_here}
use Rattle.layers.proofs.Law.{TaskInProgress, View, Watch, Runs, IsKept, IsUser}
use Rattle.unary_number.specs.declared.task.UnaryTask.{UnaryTask}
use Rattle.unary_number.specs.declared.task.UnaryTask.TheVariants.{Setting, Clearing, Looking}
use Rattle.safe_bit.specs.Memory.{Memory}
use Rattle.frames.specs.declared.types.Outcome.{Outcome}
use Rattle.frames.specs.declared.types.Outcome.TheVariants.{Value, Written, Spent}
use Rattle.frames.specs.Behaviour.{Behaviour, IsLawful, Answers}
use Rattle.frames.specs.Configuration.{in_order, chosen_of}
use Rattle.frames.specs.OneWriter.{one_writer}
use Rattle.frames.specs.laws.OneWriter as writer
use Rattle.frames.specs.correctness.Regularity.{IsRegular}
use Rattle.frames.proofs.KnownAndSeen.{stray_alike}
use Rattle.frames.proofs.VerdictFacts.{not_stray}
use Rattle.frames.proofs.Pointwise.{put, put_same, put_other, put_zero, put_back, put_twice, put_all}
use Rattle.layers.specs.Nested.{Program, Ends, Asks, Table, layered}
use Rattle.layers.specs.Sound.{IsNotSpent, IsSoundTable, FitsBelow}
use Rattle.layers.specs.laws.Over.{over}
use Rattle.layers.proofs.LayerLaw.{IsGoodStep, good_begun, good_gone, good_passes, layer_promises}
use Rattle.unary_number.specs.Program.{unary_table_with, unary_program, unary_rest, clears_below, looks_above, after_look, UnaryMayBeAt}
use Rattle.unary_number.proofs.Beacons.{Beacon, being_set, being_cleared, written, MayGive, MayGiveNow, ReadHasBeacon, beacon_allows_more, beacon_after_read_begins, read_has_beacon_after_other_read, read_has_beacon_at_start, may_give_after_one, beacon_after_zero}
use Rattle.unary_number.proofs.Phases.{has_beacons_in_any_step, has_beacons_after_step, Idle, SetsBit, ClearedFrom, ClearsBit, WriterIn, WriterSays, ReaderIn, ReaderSays, HasBeacons, reader_says_still, has_beacons_after_write_begins, has_beacons_after_set_ends, has_beacons_after_clear_begins, has_beacons_after_clear_ends, has_beacons_after_write_ends, idle_after_write_ends, sets_bit_after_write_begins, cleared_after_set_ends, clears_bit_after_clear_begins, cleared_after_clear_ends}

-- the invariant: each read in progress has a beacon, and what the writer's task says holds
pub record UnaryInv (top : ℕ) (u : Seen) (j : View UnaryTask) : Type 0 where
  pub beacons : HasBeacons top 0 u j.tasks j.parts
  pub writer : WriterSays top (j.tasks 0) u j.parts

-- the scan from bit i on, upward; the last number is how many bits are above bit i
abbrev pub looks_from : Outcome → ℕ → ℕ → ℕ → Program UnaryTask
looks_from not_found who i left = Asks (Looking who i left) (λ o. after_look i (looks_above not_found who i left) o)

-- reads of bits aren't stray, and the invariant holds
abbrev pub unary_watch : ℕ → Watch UnaryTask Seen
unary_watch top = record { Good = IsNotStray; Inv = UnaryInv top }

-- the claim about the writer depends only on the bits' values and the writes in progress
writer_says_same : (top : ℕ) (u v : Seen) (parts to : ℕ → Seen) → u.last ≡ v.last → u.writing ≡ v.writing → ((k : ℕ) → (parts k).last ≡ (to k).last) → ((k : ℕ) → (parts k).writing ≡ (to k).writing)
    → (task : Option (TaskInProgress UnaryTask)) → WriterSays top task u parts → WriterSays top task v to
writer_says_same top u v parts to ul uw l w None h = record {
  writing = sym uw ∙ h.writing;
  small = subst (λ x. x ≤ top) ul h.small;
  one = subst (λ x. (to x).last ≡ 1) ul (sym (l u.last) ∙ h.one);
  zeros = λ i lt e. h.zeros i (subst (λ x. i < x) (sym ul) lt) (l i ∙ e);
  quiet = λ i li. sym (w i) ∙ h.quiet i li;
}
writer_says_same top u v parts to ul uw l w (Some n) h = at n.task h
  where
    at : (task : UnaryTask) → WriterIn top task u parts → WriterIn top task v to
    at (Setting x) h = record { writing = sym uw ∙ h.writing; small = h.small; here = sym (w x) ∙ h.here; quiet = λ i li ne. sym (w i) ∙ h.quiet i li ne }
    at (Clearing x i) f =
        record { writing = sym uw ∙ f.writing; small = f.small; low = f.low; one = sym (l x) ∙ f.one; zeros = λ k lo hi e. f.zeros k lo hi (l k ∙ e); here = sym (w i) ∙ f.here; quiet = λ k lk ne. sym (w k) ∙ f.quiet k lk ne }
    at (Looking q i left) h = h

-- what is claimed of r's read depends only on its own fresh value and overlaps, and on the bits
read_has_beacon_same : (top r i left k : ℕ) (u v : Seen) (parts : ℕ → Seen) → u.fresh r ≡ v.fresh r → u.overlaps r ≡ v.overlaps r → ReadHasBeacon top r i left k u parts → ReadHasBeacon top r i left k v parts
read_has_beacon_same top r i left k u v parts ef eo l =
    let give : (y : ℕ) → MayGive r u y → MayGive r v y = λ y m. elim m [ inl e ↦ inl (e ∙ ef) | inr e ↦ inr (subst (λ o. IsTrue (among y o)) eo e) ] in
    record { room = l.room; beacon = beacon_allows_more top i k (MayGive r u) (MayGive r v) parts give l.beacon; here = l.here; fresh_one = λ e. give i (l.fresh_one e); over_one = λ e. give i (l.over_one e) }

-- the value that is being written is that of a write in progress
writing_is_in_progress : (w : Option ℕ) (x : ℕ) → w ≡ Some x → IsTrue (among x (in_progress w))
writing_is_in_progress w x e = subst (λ z. IsTrue (among x (in_progress z))) (sym e) (among_here x [])

-- `HasBeacons` holds after p invokes a read of the number
has_beacons_after_read_begins : (top p : ℕ) (u : Seen) (tasks : ℕ → Option (TaskInProgress UnaryTask)) (parts : ℕ → Seen) → HasBeacons top p u tasks parts → HasBeacons top p (sees (Some (Invoke p Read)) u) tasks parts
has_beacons_after_read_begins top p u tasks parts l =
    let v : Seen = sees (Some (Invoke p Read)) u in
    record {
      overlap = λ r x e. elim (r == p) as (λ c. IsTrue (among x (if c then in_progress u.writing else u.overlaps r))) [ true ↦ writing_is_in_progress u.writing x e | false ↦ l.overlap r x e ];
      ready = (l.ready.0, beacon_allows_more top 0 l.ready.0 (MayGiveNow u) (MayGiveNow v) parts (λ y m. m) l.ready.1);
      readers = λ r z ne. reader_says_still top r u v parts parts
          (λ i left k h. (k, read_has_beacon_same top r i left k u v parts (sym (put_other p r u.last u.fresh ne)) (sym (put_other p r (in_progress u.writing) u.overlaps ne)) h)) (tasks r) (l.readers r z ne);
    }

-- the beacon that a read invoked now has is p's, once p has invoked a read
beacon_of_begun_read : (top p k : ℕ) (u : Seen) (parts : ℕ → Seen) → Beacon top 0 k (MayGiveNow u) parts → Beacon top 0 k (MayGive p (sees (Some (Invoke p Read)) u)) parts
beacon_of_begun_read top p k u parts b =
    let v : Seen = sees (Some (Invoke p Read)) u in
    beacon_allows_more top 0 k (MayGiveNow u) (MayGive p v) parts
    (λ y m. elim m [
      | inl e ↦ inl (e ∙ sym (put_same p u.last u.fresh))
      | inr e ↦ inr (subst (λ o. IsTrue (among y o)) (sym (put_same p (in_progress u.writing) u.overlaps)) (writing_is_in_progress u.writing y e))
    ]) b

-- `HasBeacons` holds after p begins to read a bit
has_beacons_after_bit_read_begins : (top p i : ℕ) (u : Seen) (tasks : ℕ → Option (TaskInProgress UnaryTask)) (parts : ℕ → Seen) → HasBeacons top p u tasks parts → HasBeacons top p u tasks (put i (sees (Some (Invoke p Read)) (parts i)) parts)
has_beacons_after_bit_read_begins top p i u tasks parts l = record {
  overlap = l.overlap;
  ready = (l.ready.0, beacon_after_read_begins top 0 l.ready.0 i p (MayGiveNow u) parts l.ready.1);
  readers = λ r z ne. reader_says_still top r u u parts (put i (sees (Some (Invoke p Read)) (parts i)) parts)
      (λ y left k h. (k, read_has_beacon_after_other_read top r y left k i p u u parts ne refl refl h)) (tasks r) (l.readers r z ne);
}

-- what the writer's task says still holds after p begins to read a bit
writer_says_after_bit_read_begins : (top p i : ℕ) (u : Seen) (parts : ℕ → Seen) (task : Option (TaskInProgress UnaryTask)) → WriterSays top task u parts → WriterSays top task u (put i (sees (Some (Invoke p Read)) (parts i)) parts)
writer_says_after_bit_read_begins top p i u parts task h =
    writer_says_same top u u parts (put i (sees (Some (Invoke p Read)) (parts i)) parts) refl refl
    (put_all (λ k s. (parts k).last ≡ s.last) i (sees (Some (Invoke p Read)) (parts i)) parts refl (λ k ne. refl))
    (put_all (λ k s. (parts k).writing ≡ s.writing) i (sees (Some (Invoke p Read)) (parts i)) parts refl (λ k ne. refl)) task h

-- a read that gives a value which it may give isn't stray
not_stray_from_may_give : (r : ℕ) (u : Seen) (x : ℕ) → MayGive r u x → IsNotStray (record { reader = r; value = x; fresh = u.fresh r; overlaps = u.overlaps r })
not_stray_from_may_give r u x m = not_stray (record { reader = r; value = x; fresh = u.fresh r; overlaps = u.overlaps r }) m

module _ (not_found : Outcome) (values processes : ℕ) (two : 2 ≤ values) where
  -- the index of the last bit
  abbrev top : ℕ
  top = values - 1

  abbrev table : Table UnaryTask
  table = unary_table_with not_found values processes

  abbrev watch : Watch UnaryTask Seen
  watch = unary_watch top

  -- the rest of a write that still has the bits below bit i to clear keeps the invariant
  runs_clears : (i x p : ℕ) (op : Op) (Out : Option Event → Seen → Type 0) (u : Seen) (j : View UnaryTask) → p ≡ 0 → ClearedFrom top i x u j.parts → HasBeacons top p u j.tasks j.parts
      → Out None u → Out (Some (Wrote p)) (sees (Some (Wrote p)) u) → Runs table watch p op Out (clears_below x i) j
  runs_clears zero x p op Out u j zp c l on oe = (
    sees (Some (Wrote p)) u,
    (
      oe,
      record {
        beacons = has_beacons_after_step top p (sees (Some (Wrote p)) u) None j.tasks j.parts (has_beacons_after_write_ends top p p x u j.tasks j.parts l c) (λ ne. tt);
        writer = subst (λ y. WriterSays top y (sees (Some (Wrote p)) u) j.parts) (sym (put_zero p None j.tasks zp)) (idle_after_write_ends top p x u j.parts c);
      },
    ),
  )
  runs_clears (suc i) x p op Out u j zp c l on oe =
      let n : Option (TaskInProgress UnaryTask) = Some (record { op = op; task = Clearing x i }) in
      let mid : ℕ → Seen = put i (being_cleared (j.parts i)) j.parts in
      let fall : ClearsBit top i x u mid = clears_bit_after_clear_begins top i x u j.parts c in
      let lm : HasBeacons top p u j.tasks mid = has_beacons_after_clear_begins top p i x u j.tasks j.parts l c in
      let after : ℕ → Seen = put i (written (being_cleared (j.parts i))) j.parts in
      let same : put i (written (mid i)) mid ≡ after = ap (λ s. put i (written s) mid) (put_same i (being_cleared (j.parts i)) j.parts) ∙ put_twice i (being_cleared (j.parts i)) (written (being_cleared (j.parts i))) j.parts in
      let ca : ClearedFrom top i x u after = subst (ClearedFrom top i x u) same (cleared_after_clear_ends top i x u mid fall) in
      let la : HasBeacons top p u j.tasks after = subst (HasBeacons top p u j.tasks) same (has_beacons_after_clear_ends top p i u j.tasks mid lm fall.here) in (
        (
          u,
          (
            on,
            record {
              beacons = has_beacons_after_step top p u n j.tasks mid lm (λ ne. absurd (ne zp));
              writer = subst (λ y. WriterSays top y u mid) (sym (put_zero p n j.tasks zp)) fall;
            },
          ),
        ),
        λ o ans pass good. elim o as (λ o. Answers 2 (Write 0) o → IsNotSpent o → Runs table watch p op Out (clears_below x i) (record j { parts = put i (sees (Some (end_event 0 o)) (being_cleared (j.parts i))) j.parts })) [
          | Value v ↦ λ ans pass. absurd ans
          | Written ↦ λ ans pass. runs_clears i x p op Out u (record j { parts = after }) zp ca la on oe
          | Spent s ↦ λ ans pass. absurd pass
        ] ans pass,
      )

  -- a write from its invocation on keeps the invariant
  begins_write : (u : Seen) (j : View UnaryTask) (p x : ℕ) → UnaryInv top u j → j.tasks p ≡ None → p ≡ 0 → x ≤ top
      → Runs table watch p (Write x) (λ e. IsGoodStep IsNotStray u (in_order (Some (Invoke p (Write x))) e)) (unary_program not_found values p (Write x)) j
  begins_write u j p x h free zp lx =
      let op : Op = Write x in
      let v : Seen = sees (Some (Invoke p (Write x))) u in
      let Out : Option Event → Seen → Type 0 = λ e. IsGoodStep IsNotStray u (in_order (Some (Invoke p op)) e) in
      let idle : Idle top u j.parts = subst (λ y. WriterSays top y u j.parts) (sym (ap j.tasks zp) ∙ free) h.writer in
      let n : Option (TaskInProgress UnaryTask) = Some (record { op = op; task = Setting x }) in
      let mid : ℕ → Seen = put x (being_set (j.parts x)) j.parts in
      let rise : SetsBit top x v mid = sets_bit_after_write_begins top p x u j.parts idle lx in
      let lm : HasBeacons top p v j.tasks mid = has_beacons_after_write_begins top p x u j.tasks j.parts (has_beacons_in_any_step top p u j.tasks j.parts h.beacons) idle.writing in
      let after : ℕ → Seen = put x (written (being_set (j.parts x))) j.parts in
      let same : put x (written (mid x)) mid ≡ after = ap (λ s. put x (written s) mid) (put_same x (being_set (j.parts x)) j.parts) ∙ put_twice x (being_set (j.parts x)) (written (being_set (j.parts x))) j.parts in
      let ca : ClearedFrom top x x v after = subst (ClearedFrom top x x v) same (cleared_after_set_ends top x v mid rise) in
      let la : HasBeacons top p v j.tasks after = subst (HasBeacons top p v j.tasks) same (has_beacons_after_set_ends top p x v j.tasks mid lm rise.writing rise.here) in (
        (
          v,
          (
            good_begun IsNotStray p op None u refl tt,
            record {
              beacons = has_beacons_after_step top p v n j.tasks mid lm (λ ne. absurd (ne zp));
              writer = subst (λ y. WriterSays top y v mid) (sym (put_zero p n j.tasks zp)) rise;
            },
          ),
        ),
        λ o ans pass good. elim o as (λ o. Answers 2 (Write 1) o → IsNotSpent o → Runs table watch p op (λ e. IsGoodStep IsNotStray u (in_order (Some (Invoke p op)) e)) (clears_below x x) (record j { parts = put x (sees (Some (end_event 0 o)) (being_set (j.parts x))) j.parts })) [
          | Value v ↦ λ ans pass. absurd ans
          | Written ↦ λ ans pass. runs_clears x x p op (λ e. IsGoodStep IsNotStray u (in_order (Some (Invoke p op)) e)) v (record j { parts = after }) zp ca la (good_begun IsNotStray p op None u refl tt) (good_begun IsNotStray p op (Some (Wrote p)) u refl tt)
          | Spent s ↦ λ ans pass. absurd pass
        ] ans pass,
      )

  -- the rest of a scan, once bit i was read as v, keeps the invariant
  runs_after_look : (i left k p v : ℕ) (op : Op) (Out : Option Event → Seen → Type 0) (u : Seen) (j : View UnaryTask) (on : Program UnaryTask) → (p ≡ 0 → ⊥) → v < 2 → ReadHasBeacon top p i left k u j.parts
      → HasBeacons top p u j.tasks j.parts → WriterSays top (j.tasks 0) u j.parts → IsNotStray (record { reader = p; value = v; fresh = (j.parts i).fresh p; overlaps = (j.parts i).overlaps p })
      → ((x : ℕ) → MayGive p u x → Out (Some (Got p x)) u) → (Beacon top (suc i) k (MayGive p u) j.parts → Runs table watch p op Out on j) → Runs table watch p op Out (after_look i on (Value v)) j
  runs_after_look i left k p v op Out u j on np lv look l wr good og more = go (v == 1) refl
    where
      go : (c : Bool) → (v == 1) ≡ c → Runs table watch p op Out (if c then Ends (Value i) else on) j
      go true e =
          let is : v ≡ 1 = eqb-true v 1 e in (
            u,
            (
              og i (may_give_after_one top p i left k u j.parts look (subst (λ x. IsNotStray (record { reader = p; value = x; fresh = (j.parts i).fresh p; overlaps = (j.parts i).overlaps p })) is good)),
              record {
                beacons = has_beacons_after_step top p u None j.tasks j.parts l (λ ne. tt);
                writer = subst (λ y. WriterSays top y u j.parts) (sym (put_other p 0 None j.tasks (λ z. np (sym z)))) wr;
              },
            ),
          )
      go false e =
          let ne : v ≡ 1 → ⊥ = eqb-false v 1 e in
          let is : v ≡ 0 = omega (arith, lv, ne) in
          more (beacon_after_zero top p i left k u j.parts look (subst (λ x. IsNotStray (record { reader = p; value = x; fresh = (j.parts i).fresh p; overlaps = (j.parts i).overlaps p })) is good))

  -- a scan from its read of bit i on keeps the invariant: the read is invoked, and ends at once or
  -- later
  runs_look : (i left k p : ℕ) (op : Op) (Out : Option Event → Seen → Type 0) (u : Seen) (j : View UnaryTask) (on : Program UnaryTask) → (p ≡ 0 → ⊥) → i + left ≡ top → Beacon top i k (MayGive p u) j.parts
      → HasBeacons top p u j.tasks j.parts → WriterSays top (j.tasks 0) u j.parts → Out None u → ((x : ℕ) → MayGive p u x → Out (Some (Got p x)) u)
      → ((z : View UnaryTask) → Beacon top (suc i) k (MayGive p u) z.parts → HasBeacons top p u z.tasks z.parts → WriterSays top (z.tasks 0) u z.parts → Runs table watch p op Out on z)
      → Runs table watch p op Out (Asks (Looking p i left) (λ o. after_look i on o)) j
  runs_look i left k p op Out u j on np room bk l wr out og more =
      let n : Option (TaskInProgress UnaryTask) = Some (record { op = op; task = Looking p i left }) in
      let mid : ℕ → Seen = put i (sees (Some (Invoke p Read)) (j.parts i)) j.parts in
      let z : View UnaryTask = record j { parts = mid } in
      let look : ReadHasBeacon top p i left k u mid = read_has_beacon_at_start top p i left k u j.parts room bk in
      let lm : HasBeacons top p u j.tasks mid = has_beacons_after_bit_read_begins top p i u j.tasks j.parts l in
      let wm : WriterSays top (j.tasks 0) u mid = writer_says_after_bit_read_begins top p i u j.parts (j.tasks 0) wr in
      let me : mid i ≡ sees (Some (Invoke p Read)) (j.parts i) = put_same i (sees (Some (Invoke p Read)) (j.parts i)) j.parts in (
        (
          u,
          (
            out,
            record {
              beacons = has_beacons_after_step top p u n j.tasks mid lm (λ ne. (refl, (k, look)));
              writer = subst (λ y. WriterSays top y u mid) (sym (put_other p 0 n j.tasks (λ e. np (sym e)))) wm;
            },
          ),
        ),
        λ o ans pass good. elim o as (λ o. Answers 2 Read o → IsNotSpent o → AllByRecursion IsNotStray (got (Some (end_event p o)) (sees (Some (Invoke p Read)) (j.parts i)))
            → Runs table watch p op Out (after_look i on o) (record j { parts = put i (sees (Some (end_event p o)) (sees (Some (Invoke p Read)) (j.parts i))) j.parts })) [
              | Value v ↦ λ ans pass good. runs_after_look i left k p v op Out u z on np ans look lm wm
                  (subst (λ s. IsNotStray (record { reader = p; value = v; fresh = s.fresh p; overlaps = s.overlaps p })) (sym me) good.0) og (λ bk2. more z bk2 lm wm)
              | Written ↦ λ ans pass good. absurd ans
              | Spent s ↦ λ ans pass good. absurd pass
            ] ans pass good,
      )

  -- a scan from bit i on keeps the invariant
  runs_scan : (left i k p : ℕ) (op : Op) (Out : Option Event → Seen → Type 0) (u : Seen) (j : View UnaryTask) → (p ≡ 0 → ⊥) → i + left ≡ top → Beacon top i k (MayGive p u) j.parts
      → HasBeacons top p u j.tasks j.parts → WriterSays top (j.tasks 0) u j.parts → Out None u → ((x : ℕ) → MayGive p u x → Out (Some (Got p x)) u)
      → Runs table watch p op Out (looks_from not_found p i left) j
  runs_scan zero i k p op Out u j np room bk l wr out og =
      runs_look i zero k p op Out u j (Ends not_found) np room bk l wr out og
      (λ z bk2 lz wz. let lo : suc i ≤ k = bk2.low in let hi : k ≤ top = bk2.high in let n : ⊥ = omega (arith, lo, hi, room) in absurd n)
  runs_scan (suc left) i k p op Out u j np room bk l wr out og =
      runs_look i (suc left) k p op Out u j (looks_above not_found p i (suc left)) np room bk l wr out og
      (λ z bk2 lz wz. runs_scan left (suc i) k p op Out u z np (omega (arith, room)) bk2 lz wz out og)

  -- an operation from its invocation on keeps the invariant
  begins : (u : Seen) (j : View UnaryTask) (p : ℕ) (op : Op) → UnaryInv top u j → j.tasks p ≡ None → one_writer values processes p op ≡ true
      → Runs table watch p op (λ e. IsGoodStep IsNotStray u (in_order (Some (Invoke p op)) e)) (unary_program not_found values p op) j
  begins u j p (Write x) h free s =
      let lx = writer.no_other_value values processes p x s in
      begins_write u j p x h free (writer.writer_zero values processes p x s) (omega (arith, lx, two))
  begins u j p Read h free s =
      let lp = writer.reader_is_not_zero values processes p s in
      let v : Seen = sees (Some (Invoke p Read)) u in
      let l : HasBeacons top p v j.tasks j.parts = has_beacons_after_read_begins top p u j.tasks j.parts (has_beacons_in_any_step top p u j.tasks j.parts h.beacons) in
      runs_scan top 0 h.beacons.ready.0 p Read (λ e. IsGoodStep IsNotStray u (in_order (Some (Invoke p Read)) e)) v j (λ e. omega (arith, e, lp)) (omega arith)
      (beacon_of_begun_read top p h.beacons.ready.0 u j.parts h.beacons.ready.1) l
      (writer_says_same top u v j.parts j.parts refl refl (λ k. refl) (λ k. refl) (j.tasks 0) h.writer)
      (good_begun IsNotStray p Read None u refl tt)
      (λ x m. good_begun IsNotStray p Read (Some (Got p x)) u refl (not_stray_from_may_give p v x m, tt))

  -- the rest of a write, once the writer's operation on a bit has ended, keeps the invariant
  writer_ends : (u : Seen) (j : View UnaryTask) (p : ℕ) (op : Op) (task : UnaryTask) (chosen : Option (ℕ × Bool)) (o : Outcome) → UnaryInv top u j → p ≡ 0 → WriterIn top task u j.parts
      → Answers 2 (table.asks task).op o → IsNotSpent o
      → Runs table watch p op (λ e. IsGoodStep IsNotStray u (in_order (chosen_of p chosen) e)) (unary_rest not_found task o)
      (record j { parts = put (table.asks task).part (sees (Some (end_event (table.asks task).who o)) (j.parts (table.asks task).part)) j.parts })
  writer_ends u j p op (Setting x) chosen (Value v) h zp wr ans pass = absurd ans
  writer_ends u j p op (Setting x) chosen (Spent s) h zp wr ans pass = absurd pass
  writer_ends u j p op (Setting x) chosen Written h zp wr ans pass =
      let Out : Option Event → Seen → Type 0 = λ e. IsGoodStep IsNotStray u (in_order (chosen_of p chosen) e) in
      let after : ℕ → Seen = put x (written (j.parts x)) j.parts in
      runs_clears x x p op (λ e. IsGoodStep IsNotStray u (in_order (chosen_of p chosen) e)) u (record j { parts = after }) zp (cleared_after_set_ends top x u j.parts wr)
      (has_beacons_after_set_ends top p x u j.tasks j.parts (has_beacons_in_any_step top p u j.tasks j.parts h.beacons) wr.writing wr.here)
      (good_gone IsNotStray p chosen None u refl tt) (good_gone IsNotStray p chosen (Some (Wrote p)) u refl tt)
  writer_ends u j p op (Clearing x i) chosen (Value v) h zp wr ans pass = absurd ans
  writer_ends u j p op (Clearing x i) chosen (Spent s) h zp wr ans pass = absurd pass
  writer_ends u j p op (Clearing x i) chosen Written h zp wr ans pass =
      let f : ClearsBit top i x u j.parts = wr in
      let after : ℕ → Seen = put i (written (j.parts i)) j.parts in
      runs_clears i x p op (λ e. IsGoodStep IsNotStray u (in_order (chosen_of p chosen) e)) u (record j { parts = after }) zp (cleared_after_clear_ends top i x u j.parts f)
      (has_beacons_after_clear_ends top p i u j.tasks j.parts (has_beacons_in_any_step top p u j.tasks j.parts h.beacons) f.here)
      (good_gone IsNotStray p chosen None u refl tt) (good_gone IsNotStray p chosen (Some (Wrote p)) u refl tt)
  writer_ends u j p op (Looking q i left) chosen o h zp wr ans pass = absurd wr

  -- the rest of a read, once the reader's pending read of bit i has ended, keeps the invariant
  look_ends : (u : Seen) (j : View UnaryTask) (p i left k v : ℕ) (op : Op) (chosen : Option (ℕ × Bool)) → UnaryInv top u j → (p ≡ 0 → ⊥) → ReadHasBeacon top p i left k u j.parts → v < 2
      → IsNotStray (record { reader = p; value = v; fresh = (j.parts i).fresh p; overlaps = (j.parts i).overlaps p })
      → Runs table watch p op (λ e. IsGoodStep IsNotStray u (in_order (chosen_of p chosen) e)) (unary_rest not_found (Looking p i left) (Value v)) j
  look_ends u j p i zero k v op chosen h np look lv good =
      runs_after_look i zero k p v op (λ e. IsGoodStep IsNotStray u (in_order (chosen_of p chosen) e)) u j (Ends not_found) np lv look (has_beacons_in_any_step top p u j.tasks j.parts h.beacons) h.writer good
      (λ x m. good_gone IsNotStray p chosen (Some (Got p x)) u refl (not_stray_from_may_give p u x m, tt))
      (λ bk. let lo : suc i ≤ k = bk.low in let hi : k ≤ top = bk.high in let room : i + 0 ≡ top = look.room in let n : ⊥ = omega (arith, lo, hi, room) in absurd n)
  look_ends u j p i (suc left) k v op chosen h np look lv good =
      let room : i + suc left ≡ top = look.room in
      let l : HasBeacons top p u j.tasks j.parts = has_beacons_in_any_step top p u j.tasks j.parts h.beacons in
      runs_after_look i (suc left) k p v op (λ e. IsGoodStep IsNotStray u (in_order (chosen_of p chosen) e)) u j (looks_above not_found p i (suc left)) np lv look l h.writer good
      (λ x m. good_gone IsNotStray p chosen (Some (Got p x)) u refl (not_stray_from_may_give p u x m, tt))
      (λ bk. runs_scan left (suc i) k p op (λ e. IsGoodStep IsNotStray u (in_order (chosen_of p chosen) e)) u j np (omega (arith, room)) bk l h.writer
      (good_gone IsNotStray p chosen None u refl tt)
      (λ x m. good_gone IsNotStray p chosen (Some (Got p x)) u refl (not_stray_from_may_give p u x m, tt)))

  -- the rest of a read, once the reader's operation on a bit has ended, keeps the invariant
  reader_ends : (u : Seen) (j : View UnaryTask) (p : ℕ) (op : Op) (task : UnaryTask) (chosen : Option (ℕ × Bool)) (o : Outcome) → UnaryInv top u j → (p ≡ 0 → ⊥) → ReaderIn top p task u j.parts
      → Answers 2 (table.asks task).op o → IsNotSpent o → AllByRecursion IsNotStray (got (Some (end_event (table.asks task).who o)) (j.parts (table.asks task).part))
      → Runs table watch p op (λ e. IsGoodStep IsNotStray u (in_order (chosen_of p chosen) e)) (unary_rest not_found task o)
      (record j { parts = put (table.asks task).part (sees (Some (end_event (table.asks task).who o)) (j.parts (table.asks task).part)) j.parts })
  reader_ends u j p op (Setting x) chosen o h np rd ans pass good = absurd rd
  reader_ends u j p op (Clearing x i) chosen o h np rd ans pass good = absurd rd
  reader_ends u j p op (Looking q i left) chosen Written h np rd ans pass good = absurd ans
  reader_ends u j p op (Looking q i left) chosen (Spent s) h np rd ans pass good = absurd pass
  reader_ends u j p op (Looking q i left) chosen (Value v) h np rd ans pass good =
      let g : IsNotStray (record { reader = p; value = v; fresh = (j.parts i).fresh p; overlaps = (j.parts i).overlaps p }) =
      subst (λ r. IsNotStray (record { reader = r; value = v; fresh = (j.parts i).fresh r; overlaps = (j.parts i).overlaps r })) rd.0 good.0 in
      subst (λ f. Runs table watch p op (λ e. IsGoodStep IsNotStray u (in_order (chosen_of p chosen) e)) (unary_rest not_found (Looking q i left) (Value v)) (record j { parts = f })) (put_back i j.parts)
      (subst (λ r. Runs table watch p op (λ e. IsGoodStep IsNotStray u (in_order (chosen_of p chosen) e)) (unary_rest not_found (Looking r i left) (Value v)) j) (sym rd.0)
      (look_ends u j p i left rd.1.0 v op chosen h np rd.1.1 ans g))

  -- the rest of an operation, once its task has ended, keeps the invariant
  goes : (u : Seen) (j : View UnaryTask) (p : ℕ) (n : TaskInProgress UnaryTask) (chosen : Option (ℕ × Bool)) (o : Outcome) → UnaryInv top u j → j.tasks p ≡ Some n
      → Answers 2 (table.asks n.task).op o → IsNotSpent o → AllByRecursion IsNotStray (got (Some (end_event (table.asks n.task).who o)) (j.parts (table.asks n.task).part))
      → Runs table watch p n.op (λ e. IsGoodStep IsNotStray u (in_order (chosen_of p chosen) e)) (unary_rest not_found n.task o)
      (record j { parts = put (table.asks n.task).part (sees (Some (end_event (table.asks n.task).who o)) (j.parts (table.asks n.task).part)) j.parts })
  goes u j p n chosen o h mine ans pass good =
      elim (cases_eq p 0) [
        | inl zp ↦ writer_ends u j p n.op n.task chosen o h zp (subst (λ y. WriterSays top y u j.parts) (sym (ap j.tasks zp) ∙ mine) h.writer) ans pass
        | inr np ↦ reader_ends u j p n.op n.task chosen o h np (subst (λ y. ReaderSays top p y u j.parts) mine (h.beacons.readers p np np)) ans pass good
      ]

  -- the invariant holds at first
  holds_at_first : (v : ℕ) → v < values → (j : View UnaryTask) → ((p : ℕ) → j.tasks p ≡ None) → ((k : ℕ) → k < values → j.parts k ≡ opening (if k == v then 1 else 0)) → UnaryInv top (opening v) j
  holds_at_first v l j et ep =
      let is : (k : ℕ) → k < values → (j.parts k).last ≡ (if k == v then 1 else 0) = λ k lk. ap (λ s. s.last) (ep k lk) in
      let quiet : (k : ℕ) → k < values → (j.parts k).writing ≡ None = λ k lk. ap (λ s. s.writing) (ep k lk) in
      let one : (j.parts v).last ≡ 1 = is v l ∙ ap (λ c. if c then 1 else 0) (eq-eqb v v refl) in
      let zero_below : (k : ℕ) → k < v → (j.parts k).last ≡ 1 → ⊥ = λ k lk e.
      (let lt : k < values = omega (arith, lk, l) in
      let z : (j.parts k).last ≡ 0 = is k lt ∙ ap (λ c. if c then 1 else 0) (ne_eqb k v (λ f. omega (arith, f, lk))) in
      omega (arith, z, e)) in
      record {
        beacons = record {
          overlap = λ r x e. (let n : ⊥ = cc in absurd n);
          ready = (
            v,
            record {
              low = omega arith;
              high = omega (arith, l);
              allowed = inl refl;
              lit = record { last = one; writing = inl (quiet v l) };
              below = λ i lo hi m. absurd (elim m [ inl e ↦ zero_below i hi e | inr e ↦ (let q : (j.parts i).writing ≡ None = quiet i (omega (arith, hi, l)) in let n : ⊥ = cc in n) ]);
            },
          );
          readers = λ r z ne. subst (λ y. ReaderSays top r y (opening v) j.parts) (sym (et r)) tt;
        };
        writer = subst (λ y. WriterSays top y (opening v) j.parts) (sym (et 0)) (record {
          writing = refl;
          small = omega (arith, l);
          one = one;
          zeros = zero_below;
          quiet = λ i li. quiet i (omega (arith, li));
        });
      }

  -- the invariant holds at first, every step keeps it, and no returned read is stray
  pub unary_kept : IsKept table (UnaryMayBeAt values processes) watch opening (IsGoodStep IsNotStray)
  unary_kept = record {
    initial = λ v l j ew et ep. holds_at_first v l j et ep;
    passes = good_passes watch IsNotStray;
    begins = begins;
    goes = λ u j p n chosen o h mine s ans pass good. goes u j p n chosen o h mine ans pass good;
  }

  -- each process acts as itself on every bit
  pub unary_user : IsUser table (UnaryMayBeAt values processes) (λ part who. who)
  unary_user p (Write x) (Setting y) s = sym s.0
  unary_user p (Write x) (Clearing y i) s = sym s.0
  unary_user p Read (Looking q i left) s = s.0
  unary_user p _ _ s = absurd s

-- a unary number over a regular bit is regular, whatever the answer of a scan that finds no 1
pub unary_over_regular : {P : Type 0} (b : Behaviour P) (Holds : Memory → Type 0) (Reaches : ℕ → Op → P → Type 0) (not_found : Outcome) (values processes : ℕ) (left : UnaryTask → ℕ) → 2 ≤ values → IsLawful b Holds Reaches
    → IsSoundTable (unary_table_with not_found values processes) (UnaryMayBeAt values processes) left → FitsBelow (unary_table_with not_found values processes) b → IsRegular b
    → IsRegular (layered (unary_table_with not_found values processes) b)
unary_over_regular b Holds Reaches not_found values processes left two lawful sound fit regular =
    layer_promises (over lawful sound fit) (λ part who. who) (unary_user not_found values processes two) IsNotStray (unary_watch (values - 1)) stray_alike stray_alike (λ who o h. h) regular (unary_kept not_found values processes two)
