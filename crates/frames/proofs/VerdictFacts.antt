-- What a verdict says about a read's value, and what follows if no write is in progress.
use Rattle.std.proofs.Common.{◌≡◌, ℕ, Bool, true, false, [], Option, Some, None, refl, sym, ap, ◌∙◌, inl, inr, IsTrue, eq-eqb}
use Rattle.std.specs.Prelude.{◌==◌, ◌⊎◌, if◌then◌else◌}
use Rattle.std.proofs.lemmas.Bool.{eqb-true}
use Rattle.frames.specs.declared.verdict.Verdict.TheVariants.{Fresh, Overlap, Stray}
use Rattle.frames.specs.correctness.Regularity.{in_progress}
use Rattle.frames.proofs.Seen.{Returned, among, verdict, IsNotStray}

pub none_in_progress : (w : Option ℕ) → in_progress w ≡ [] → w ≡ None
none_in_progress None e = refl
none_in_progress (Some v) e = let f : ⊥ = cc in absurd f

pub is_fresh : (x : Returned) → x.value ≡ x.fresh → verdict x ≡ Fresh
is_fresh x e = ap (λ c. if c then Fresh else if among x.value x.overlaps then Overlap else Stray) (eq-eqb x.value x.fresh e)

pub fresh_value : (x : Returned) → verdict x ≡ Fresh → x.value ≡ x.fresh
fresh_value x h = go (x.value == x.fresh) refl h
  where
    not_fresh : (d : Bool) → (if d then Overlap else Stray) ≡ Fresh → ⊥
    not_fresh true e = cc
    not_fresh false e = cc

    go : (c : Bool) → (x.value == x.fresh) ≡ c → (if c then Fresh else if among x.value x.overlaps then Overlap else Stray) ≡ Fresh → x.value ≡ x.fresh
    go true e k = eqb-true x.value x.fresh e
    go false e k = absurd (not_fresh (among x.value x.overlaps) k)

-- a read that gives the fresh value, or that of a write that it overlaps, isn't stray
pub not_stray : (x : Returned) → (x.value ≡ x.fresh) ⊎ IsTrue (among x.value x.overlaps) → IsNotStray x
not_stray x (inl e) h =
    let k : Fresh ≡ Stray = sym (ap (λ c. if c then Fresh else if among x.value x.overlaps then Overlap else Stray) (eq-eqb x.value x.fresh e)) ∙ h in
    cc
not_stray x (inr m) h = go (x.value == x.fresh) (sym (ap (λ d. if x.value == x.fresh then Fresh else if d then Overlap else Stray) m) ∙ h)
  where
    go : (b : Bool) → (if b then Fresh else if true then Overlap else Stray) ≡ Stray → ⊥
    go true e = cc
    go false e = cc

-- a read that isn't stray gives the fresh value, or that of a write that it overlaps
pub fresh_or_overlapping : (x : Returned) → IsNotStray x → (x.value ≡ x.fresh) ⊎ IsTrue (among x.value x.overlaps)
fresh_or_overlapping x h = go (x.value == x.fresh) refl (among x.value x.overlaps) refl h
  where
    go : (c : Bool) → (x.value == x.fresh) ≡ c → (d : Bool) → among x.value x.overlaps ≡ d → ((if c then Fresh else if d then Overlap else Stray) ≡ Stray → ⊥)
        → (x.value ≡ x.fresh) ⊎ IsTrue (among x.value x.overlaps)
    go true e d f k = inl (eqb-true x.value x.fresh e)
    go false e true f k = inr f
    go false e false f k = absurd (k refl)
