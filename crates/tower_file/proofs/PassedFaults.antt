-- A call that returns the fault e of another call as its own: what holds of its result r.
use Rattle.std.proofs.Common.{◌≡◌, ℕ, true, false, List, Result, Ok, Err, refl, sym, ap, subst, ◌∙◌, true≢false}
use Rattle.std.specs.Prelude.{IsOk}
use Rattle.std.specs.Result.{IsErr, IsErrAnd}
use Rattle.tower_file.specs.declared.fault.FaultKind.{FaultKind}
use Rattle.tower_file.specs.declared.fault.FaultKind.TheVariants.{NotAscii, BadHeader, UnknownTower, BadField, BadStep, BadSize, BadBranch, Tangled, Memory}
use Rattle.tower_file.specs.declared.fault.FileFault.{FileFault}
use Rattle.tower_file.specs.Faults.{Fails, Gives, MemoryOnlyIf, fault}
use Rattle.frames.specs.declared.types.Step.{Step}

-- a result without a fault has a value
pub ok_value : {X : Type 0} (r : Result X FileFault) → IsOk r → (x : X) × (r ≡ Ok x)
ok_value (Ok x) h = (x, refl)
ok_value (Err e) h = absurd (true≢false (sym h))

-- a call that fails as the part does fails as the whole does, if each fault of the part is a fault
-- of the whole
fails_too : {X Y : Type 0} (k : FaultKind) (e : FileFault) (part : Result X FileFault) (whole : Result Y FileFault) → Fails k e part → (part ≡ Err e → whole ≡ Err e) → Fails k e whole
fails_too NotAscii e part whole h on = on h
fails_too BadHeader e part whole h on = on h
fails_too UnknownTower e part whole h on = on h
fails_too BadField e part whole h on = on h
fails_too BadStep e part whole h on = on h
fails_too BadSize e part whole h on = on h
fails_too BadBranch e part whole h on = on h
fails_too Tangled e part whole h on = on h
fails_too Memory e part whole h on = h

module _ {X Y Z : Type 0} (r : Result X FileFault) (e : FileFault) (Is : FileFault → Type 0) (failed : IsErr r) (is : IsErrAnd r Is) (same : (x : FileFault) → Is x → x ≡ e) where
  -- if e is the fault that the definitions give for a part, and so for the whole, the call has the
  -- result that they give for the whole
  pub passes_fault_on : (view : X → Z) (part : Result Y FileFault) (whole : Result Z FileFault) → Fails e.kind e part → (part ≡ Err e → whole ≡ Err e) → Gives view r whole
  passes_fault_on view part whole h on = by r failed is
    where
      by : (q : Result X FileFault) → IsErr q → IsErrAnd q Is → Gives view q whole
      by (Ok x) f i = absurd i
      by (Err x) f i = subst (λ (y : FileFault). Fails y.kind y whole) (sym (same x i)) (fails_too e.kind e part whole h on)

module _ {X : Type 0} (r : Result X FileFault) (e : FileFault) (Is : FileFault → Type 0) (failed : IsErr r) (is : IsErrAnd r Is) (same : (x : FileFault) → Is x → x ≡ e) where
  -- if e is a BadStep, and the definitions give e, the call has the result that they give
  pub given_fault : (view : X → List Step) (total : Result (List Step) FileFault) (n : ℕ) → e ≡ fault BadStep n → total ≡ Err e → Gives view r total
  given_fault view total n bad t = by r failed is
    where
      by : (q : Result X FileFault) → IsErr q → IsErrAnd q Is → Gives view q total
      by (Ok x) f i = absurd i
      by (Err x) f i = subst (λ (y : FileFault). Fails y.kind y total) (sym (same x i ∙ bad)) (t ∙ ap (λ (y : FileFault). Err y) bad)

  -- if P holds whenever e is Memory, the call reports Memory only if P holds
  pub memory_only : (P : Type 0) → (e.kind ≡ Memory → P) → MemoryOnlyIf r P
  memory_only P h = by r failed is
    where
      by : (q : Result X FileFault) → IsErr q → IsErrAnd q Is → MemoryOnlyIf q P
      by (Ok x) f i = absurd i
      by (Err x) f i = λ k. h (ap (λ (y : FileFault). y.kind) (sym (same x i)) ∙ k)

  -- if the call's fault isn't Memory, the call reports Memory only if P holds, for any P
  pub known_fault : (P : Type 0) → (e.kind ≡ Memory → ⊥) → MemoryOnlyIf r P
  known_fault P known = memory_only P (λ k. absurd (known k))

-- a fault BadStep isn't Memory
pub bad_step_is_not_memory : (e : FileFault) (n : ℕ) → e ≡ fault BadStep n → e.kind ≡ Memory → ⊥
bad_step_is_not_memory e n bad k =
    let clash : BadStep ≡ Memory = sym (ap (λ (y : FileFault). y.kind) bad) ∙ k in
    absurd cc
