use Rattle.std.proofs.Common.{◌≡◌, ℕ, ◌+◌, ◌-◌, ◌<◌, ◌&&◌, ◌||◌, nat_eq, nat_lt, nat_le, List, length, slice_get, refl, inl, inr, sym, ap, ◌∙◌, arith}
use Rattle.std.proofs.lemmas.Bool.{eqb-true, ltb-true, ltb-false, lt-ltb, le-leb, lt-leb, cases_lt, and_parts, and_from, and_right, false_from_ne_true}
use Rattle.std.proofs.lemmas.Option.{slice_get_past, slice_get_read}
use Rattle.branch_terms.specs.declared.limb.Limb.{Limb}
use Rattle.branch_terms.specs.Limbs.{may_share, is_own_of}
use Rattle.branch_terms.proofs.limb.may_share.Goals as goal
use Rattle.branch_terms.proofs.limb.may_share.Goals.{else-limb-eq0-via-then-limb-eq0+else-limb-eq0-2, else-limb-eq0-via-else-limb-eq0}

-- unless a limb's `from` and `shared` are both 0, the limb at index `from` decides the result
may_share_by_stem : (earlier : List Limb) (l : Limb) → (l.from ≡ 0 → l.shared ≡ 0 → ⊥)
    → is_own_of (slice_get earlier l.from) l.shared ≡ may_share earlier l
may_share_by_stem earlier l some =
    let not_none = false_from_ne_true (nat_eq l.from 0 && nat_eq l.shared 0)
    (λ e.
    let p = and_parts (nat_eq l.from 0) (nat_eq l.shared 0) e in
    some (eqb-true l.from 0 p.0) (eqb-true l.shared 0 p.1)) in
    sym (ap (λ b. b || is_own_of (slice_get earlier l.from) l.shared) not_none)

own_within : (a k n : ℕ) → a < k → nat_le (k - a) n ≡ (nat_lt a k && nat_le k (a + n))
own_within a k n less = elim (cases_lt n (k - a)) [
  | inl h ↦
      lt-leb (k - a) n h
      ∙ sym (and_right (nat_lt a k) (nat_le k (a + n)) (lt-leb k (a + n) (omega arith)))
  | inr h ↦
      le-leb (k - a) n h
      ∙ sym (and_from (nat_lt a k) (nat_le k (a + n)) (lt-ltb a k less) (le-leb k (a + n) (omega arith)))
]

pub returns-in_default : goal.returns-in_default
returns-in_default c =
    let ls = c.args.limbs.now in
    let l = c.args.limb.now in
    let some : l.from ≡ 0 → l.shared ≡ 0 → ⊥ = elim c.else-limb-eq0.branch [
      | else-limb-eq0-via-then-limb-eq0+else-limb-eq0-2 w ↦ λ a b. w.if-limb-eq0-2.false b
      | else-limb-eq0-via-else-limb-eq0 w ↦ λ a b. w.if-limb-eq0.false a
    ] in
    let past = ltb-false l.from (length ls) (sym c.in_default.ensures.lookup.0) in
    sym (ap (λ o. is_own_of o l.shared) (slice_get_past ls l.from past)) ∙ may_share_by_stem ls l some

pub returns-then-parent-limb : goal.returns-then-parent-limb
returns-then-parent-limb c =
    let ls = c.args.limbs.now in
    let l = c.args.limb.now in
    let p = c.in-Some.parent.now in
    let some : l.from ≡ 0 → l.shared ≡ 0 → ⊥ = elim c.else-limb-eq0.branch [
      | else-limb-eq0-via-then-limb-eq0+else-limb-eq0-2 w ↦ λ a b. w.if-limb-eq0-2.false b
      | else-limb-eq0-via-else-limb-eq0 w ↦ λ a b. w.if-limb-eq0.false a
    ] in
    let found = c.in-Some.ensures.lookup in
    let there = slice_get_read ls (length ls) l.from p refl (ltb-true l.from (length ls) (sym found.0)) found.1 in
    ap (λ steps. nat_le (l.shared - p.shared) (length steps)) c.as_slice.ensures
    ∙ own_within p.shared l.shared (length p.steps) c.if-parent-limb.true
    ∙ sym (ap (λ o. is_own_of o l.shared) there)
    ∙ may_share_by_stem ls l some
