-- Two folds over a history of one writer agree: `Known`, by events, and `Seen`, by steps.
use Rattle.std.proofs.Common.{◌≡◌, ℕ, ◌≤◌, Bool, true, false, ◌||◌, cond, List, [], ◌∷◌, ◌++◌, length, drop, Option, Some, None, inl, inr, refl, sym, ap, subst, ◌∙◌, arith, eq-eqb, append-nil, length-append}
use Rattle.std.specs.Prelude.{◌==◌, reverse, if◌then◌else◌}
use Rattle.std.specs.List.{find}
use Rattle.std.specs.Option.{unwrap_or}
use Rattle.std.proofs.lemmas.Bool.{cases_eq, ne_eqb}
use Rattle.std.proofs.lemmas.List.{reverse-append, drop-append-le}
use Rattle.std.proofs.Math.Seq.{drop-length}
use Rattle.std.proofs.lemmas.List.Folds.{list_any-append}
use Rattle.schedule_steps.specs.declared.types.Op.{Op}
use Rattle.schedule_steps.specs.declared.types.Op.TheVariants as op
use Rattle.frames.specs.declared.types.Event.TheVariants.{Invoke, Wrote}
use Rattle.frames.specs.declared.verdict.Reading.{Reading}
use Rattle.frames.specs.declared.verdict.Verdict.TheVariants.{Fresh, Overlap, Stray}
use Rattle.frames.specs.correctness.Verdicts.{Known, after, invoked_now, returning, last_read, reading, is_value, has_returned, overlaps, judged}
use Rattle.frames.specs.correctness.Regularity.{in_progress, overlapped, FreshAlone, NotStray}
use Rattle.frames.proofs.Seen.{Seen, Returned, among, verdict, now_last, sees, IsFreshAlone, IsNotStray}
use Rattle.frames.proofs.Pointwise.{put, put_same, put_other}

-- process p's read in progress is the same in both folds
pub record ReadAgrees (p : ℕ) (k : Known) (s : Seen) : Type 0 where
  pub read : Reading
  pub last : last_read p k ≡ Some read
  pub fresh : read.fresh ≡ s.fresh p
  pub since : read.since ≤ length k.returned
  pub overlaps : s.overlaps p ≡ reverse (drop read.since k.returned ++ in_progress k.writing)

-- the two folds agree, if the processes have the operations `ops` pending
pub record Agrees (ops : ℕ → Option Op) (k : Known) (s : Seen) : Type 0 where
  pub last : k.fresh ≡ s.last
  pub writing : k.writing ≡ s.writing
  pub idle : ops 0 ≡ None → k.writing ≡ None
  pub reads : (p : ℕ) → ops p ≡ Some op.Read → ReadAgrees p k s

pub agrees_same : (from to : ℕ → Option Op) (k : Known) (s : Seen) → ((p : ℕ) → from p ≡ to p) → Agrees from k s → Agrees to k s
agrees_same from to k s same a = record { last = a.last; writing = a.writing; idle = λ e. a.idle (same 0 ∙ e); reads = λ p e. a.reads p (same p ∙ e) }

-- the last match in a list to which one item was appended
pub found_last : (p : ℕ) (r : Reading) (rs : List Reading) → find (λ x. x.process == p) (reverse (rs ++ r ∷ [])) ≡ cond (r.process == p) (Some r) (find (λ x. x.process == p) (reverse rs))
found_last p r rs = ap (find (λ (x : Reading). x.process == p)) (reverse-append rs (r ∷ []))

reverse_last : (xs : List ℕ) (x : ℕ) → reverse (xs ++ x ∷ []) ≡ x ∷ reverse xs
reverse_last xs x = reverse-append xs (x ∷ [])

-- a value is in a list exactly if it is in the reversed list
among_reverse : (x : ℕ) (xs : List ℕ) → among x (reverse xs) ≡ among x xs
among_reverse x [] = refl
among_reverse x (y ∷ xs) =
    ap (among x) (reverse-append (y ∷ []) xs) ∙ list_any-append (λ v. v == x) (reverse xs) (y ∷ [])
    ∙ ap (λ b. b || ((y == x) || false)) (among_reverse x xs) ∙ either_way (among x xs) (y == x)
  where
    either_way : (a b : Bool) → (a || (b || false)) ≡ (b || a)
    either_way true true = refl
    either_way true false = refl
    either_way false true = refl
    either_way false false = refl

pub is_value_is_among : (x : ℕ) (w : Option ℕ) → is_value x w ≡ among x (in_progress w)
is_value_is_among x None = refl
is_value_is_among x (Some v) = or_false (v == x)
  where
    or_false : (b : Bool) → b ≡ (b || false)
    or_false true = refl
    or_false false = refl

-- process p's read, if it returns v when the history shows s
abbrev pub returned_of : ℕ → ℕ → Seen → Returned
returned_of p v s = record { reader = p; value = v; fresh = s.fresh p; overlaps = s.overlaps p }

reading_agrees : (p : ℕ) (k : Known) (s : Seen) (a : ReadAgrees p k s) → reading p k ≡ a.read
reading_agrees p k s a = ap (λ o. unwrap_or o (invoked_now p k)) a.last

overlaps_agree : (p : ℕ) (k : Known) (s : Seen) (a : ReadAgrees p k s) → s.overlaps p ≡ reverse (overlapped p k)
overlaps_agree p k s a = a.overlaps ∙ ap (λ (r : Reading). reverse (drop r.since k.returned ++ in_progress k.writing)) (sym (reading_agrees p k s a))

pub verdicts_agree : (p v : ℕ) (k : Known) (s : Seen) → ReadAgrees p k s → judged k p v ≡ verdict (returned_of p v s)
verdicts_agree p v k s a =
    let r = reading_agrees p k s a in
    let over : overlaps (reading p k) v k ≡ among v (s.overlaps p) =
    ap (λ b. has_returned v (reading p k).since k || b) (is_value_is_among v k.writing)
    ∙ sym (list_any-append (λ u. u == v) (drop (reading p k).since k.returned) (in_progress k.writing))
    ∙ sym (among_reverse v (overlapped p k)) ∙ sym (ap (among v) (overlaps_agree p k s a)) in
    ap (λ n. if v == n then Fresh else (if overlaps (reading p k) v k then Overlap else Stray)) (ap (λ (x : Reading). x.fresh) r ∙ a.fresh)
    ∙ ap (λ b. if v == s.fresh p then Fresh else (if b then Overlap else Stray)) over

none_overlaps_seen : (p : ℕ) (k : Known) (s : Seen) → ReadAgrees p k s → overlapped p k ≡ [] → s.overlaps p ≡ []
none_overlaps_seen p k s a e = overlaps_agree p k s a ∙ ap reverse e

none_reversed : (xs : List ℕ) → reverse xs ≡ [] → xs ≡ []
none_reversed [] e = refl
none_reversed (x ∷ xs) e = absurd (never (reverse xs) (sym (reverse-append (x ∷ []) xs) ∙ e))
  where
    never : (ys : List ℕ) → ys ++ (x ∷ []) ≡ [] → ⊥
    never [] e = cc
    never (y ∷ ys) e = cc

none_overlaps_known : (p : ℕ) (k : Known) (s : Seen) → ReadAgrees p k s → s.overlaps p ≡ [] → overlapped p k ≡ []
none_overlaps_known p k s a e = none_reversed (overlapped p k) (sym (overlaps_agree p k s a) ∙ e)

-- a claim about a read in terms of `Known`, `Says`, is the same as one in terms of `Seen`, `Good`
pub record Alike (Says : Known → ℕ → ℕ → Type 0) (Good : Returned → Type 0) : Type 0 where
  pub seen : (p v : ℕ) (k : Known) (s : Seen) → ReadAgrees p k s → Says k p v → Good (returned_of p v s)
  pub known : (p v : ℕ) (k : Known) (s : Seen) → ReadAgrees p k s → Good (returned_of p v s) → Says k p v

pub fresh_alike : Alike FreshAlone IsFreshAlone
fresh_alike = record {
  seen = λ p v k s a h e. sym (verdicts_agree p v k s a) ∙ h (none_overlaps_known p k s a e);
  known = λ p v k s a h e. verdicts_agree p v k s a ∙ h (none_overlaps_seen p k s a e);
}

pub stray_alike : Alike NotStray IsNotStray
stray_alike = record {
  seen = λ p v k s a h e. h (verdicts_agree p v k s a ∙ e);
  known = λ p v k s a h e. h (sym (verdicts_agree p v k s a) ∙ e);
}

-- the folds still agree after a write is invoked
pub agrees_write : (v : ℕ) (ops : ℕ → Option Op) (k : Known) (s : Seen) → ops 0 ≡ None → Agrees ops k s
    → Agrees (put 0 (Some (op.Write v)) ops) (after k (Invoke 0 (op.Write v))) (sees (Some (Invoke 0 (op.Write v))) s)
agrees_write v ops k s free a = record {
  last = a.last;
  writing = refl;
  idle = λ e. absurd (cc e);
  reads = λ p e. elim (cases_eq p 0) as (λ _. ReadAgrees p (after k (Invoke 0 (op.Write v))) (sees (Some (Invoke 0 (op.Write v))) s)) [
    | inl zero_p ↦ absurd (let f : put 0 (Some (op.Write v)) ops 0 ≡ Some op.Read = sym (ap (put 0 (Some (op.Write v)) ops) zero_p) ∙ e in cc)
    | inr other ↦
        let r = a.reads p (sym (put_other 0 p (Some (op.Write v)) ops other) ∙ e) in
        record {
          read = r.read;
          last = r.last;
          fresh = r.fresh;
          since = r.since;
          overlaps = ap (λ l. v ∷ l) (r.overlaps ∙ ap (λ w. reverse (drop r.read.since k.returned ++ in_progress w)) (a.idle free) ∙ ap reverse (append-nil (drop r.read.since k.returned)))
              ∙ sym (reverse_last (drop r.read.since k.returned) v);
        }
  ];
}

one_reversed : (w : Option ℕ) → in_progress w ≡ reverse (in_progress w)
one_reversed None = refl
one_reversed (Some v) = refl

-- the folds still agree after a read is invoked
pub agrees_read : (p : ℕ) (ops : ℕ → Option Op) (k : Known) (s : Seen) → ops p ≡ None → Agrees ops k s
    → Agrees (put p (Some op.Read) ops) (after k (Invoke p op.Read)) (sees (Some (Invoke p op.Read)) s)
agrees_read p ops k s free a =
    let k' : Known = after k (Invoke p op.Read) in
    let s' : Seen = sees (Some (Invoke p op.Read)) s in
    record {
      last = a.last;
      writing = a.writing;
      idle = λ e. elim (cases_eq 0 p) as (λ _. k.writing ≡ None) [
        | inl same ↦ absurd (let f : put p (Some op.Read) ops p ≡ None = sym (ap (put p (Some op.Read) ops) same) ∙ e in let g : put p (Some op.Read) ops p ≡ Some op.Read = put_same p (Some op.Read) ops in cc)
        | inr other ↦ a.idle (sym (put_other p 0 (Some op.Read) ops other) ∙ e)
      ];
      reads = λ q e. elim (cases_eq q p) as (λ _. ReadAgrees q k' s') [
        | inl same ↦ subst (λ i. ReadAgrees i k' s') (sym same) (record {
          read = invoked_now p k;
          last = found_last p (invoked_now p k) k.reads ∙ ap (λ b. cond b (Some (invoked_now p k)) (last_read p k)) (eq-eqb p p refl);
          fresh = a.last ∙ sym (put_same p s.last s.fresh);
          since = omega arith;
          overlaps = put_same p (in_progress s.writing) s.overlaps ∙ ap in_progress (sym a.writing) ∙ one_reversed k.writing
              ∙ sym (ap (λ l. reverse (l ++ in_progress k.writing)) (drop-length k.returned));
        })
        | inr other ↦
            let r = a.reads q (sym (put_other p q (Some op.Read) ops other) ∙ e) in
            record {
              read = r.read;
              last = found_last q (invoked_now p k) k.reads ∙ ap (λ b. cond b (Some (invoked_now p k)) (last_read q k)) (ne_eqb p q (λ f. other (sym f))) ∙ r.last;
              fresh = r.fresh ∙ sym (put_other p q s.last s.fresh other);
              since = r.since;
              overlaps = put_other p q (in_progress s.writing) s.overlaps other ∙ r.overlaps;
            }
      ];
    }

-- the folds still agree after process p's operation has ended
pub agrees_ended : (p : ℕ) (ops : ℕ → Option Op) (k : Known) (s : Seen) → (p ≡ 0 → k.writing ≡ None) → Agrees ops k s → Agrees (put p None ops) k s
agrees_ended p ops k s quiet a = record {
  last = a.last;
  writing = a.writing;
  idle = λ e. elim (cases_eq p 0) as (λ _. k.writing ≡ None) [
    | inl same ↦ quiet same
    | inr other ↦ a.idle (sym (put_other p 0 None ops (λ f. other (sym f))) ∙ e)
  ];
  reads = λ q e. elim (cases_eq q p) as (λ _. ReadAgrees q k s) [
    | inl same ↦ absurd (let f : put p None ops p ≡ Some op.Read = sym (ap (put p None ops) same) ∙ e in let g : put p None ops p ≡ None = put_same p None ops in cc)
    | inr other ↦ a.reads q (sym (put_other p q None ops other) ∙ e)
  ];
}

-- the folds still agree after the write in progress has returned
returning_agrees : (w : Option ℕ) (ops : ℕ → Option Op) (k : Known) (s : Seen) → k.writing ≡ w → Agrees ops k s
    → Agrees ops (returning w k) (record s { last = now_last w s.last; writing = None })
returning_agrees None ops k s e a = record {
  last = a.last;
  writing = e;
  idle = a.idle;
  reads = λ p h. let r = a.reads p h in record { read = r.read; last = r.last; fresh = r.fresh; since = r.since; overlaps = r.overlaps };
}
returning_agrees (Some v) ops k s e a = record {
  last = refl;
  writing = refl;
  idle = λ h. refl;
  reads = λ p h.
      let r = a.reads p h in
      record {
        read = r.read;
        last = r.last;
        fresh = r.fresh;
        since = (let l = r.since in omega (arith, l, length-append k.returned (v ∷ [])));
        overlaps = r.overlaps ∙ ap (λ w. reverse (drop r.read.since k.returned ++ in_progress w)) e
            ∙ ap reverse (sym (drop-append-le r.read.since k.returned (v ∷ []) r.since) ∙ sym (append-nil (drop r.read.since (k.returned ++ v ∷ []))));
      };
}

pub returning_none : (w : Option ℕ) (k : Known) → k.writing ≡ w → (returning w k).writing ≡ None
returning_none None k e = e
returning_none (Some v) k e = refl

pub agrees_wrote : (p : ℕ) (ops : ℕ → Option Op) (k : Known) (s : Seen) → Agrees ops k s → Agrees ops (after k (Wrote p)) (sees (Some (Wrote p)) s)
agrees_wrote p ops k s a =
    subst (λ w. Agrees ops (after k (Wrote p)) (record s { last = now_last w s.last; writing = None })) a.writing (returning_agrees k.writing ops k s refl a)

pub no_write_after_wrote : (p : ℕ) (k : Known) → (after k (Wrote p)).writing ≡ None
no_write_after_wrote p k = returning_none k.writing k refl
