-- The refusals of a chart's calls: those passed up from the trie, and Memory.
use Rattle.std.proofs.Common.{◌≡◌, Result, Ok, Err, IsOk, IfErr, refl, sym, subst, inr}
use Rattle.std.specs.Result.{IsErrAnd}
use Rattle.schedule_trie.specs.declared.refusal.Refusal.{Refusal}
use Rattle.schedule_trie.specs.declared.refusal.Refusal.TheVariants.{Memory}
use Rattle.schedule_trie.specs.Forest.{Forest, IsRefused}

-- P holds of an error that is passed up, if P follows from what holds of that error
passed_up : {T E : Type 0} {Is : E → Type 0} (r : Result T E) (P : E → Type 0) → ((e : E) → Is e → P e) → IsErrAnd r Is → IfErr r P
passed_up (Ok x) P f h = absurd h
passed_up (Err e) P f h = f e h

-- a refusal that the trie's call gives is one of the chart's call
pub refused_still : {T : Type 0} {w : Result Forest Refusal} {f : Refusal} (r : Result T Refusal) → IsRefused w f → IsErrAnd r (λ e. e ≡ f) → IfErr r (IsRefused w)
refused_still {w = w} r why = passed_up r (IsRefused w) (λ e h. subst (IsRefused w) (sym h) why)

-- if the call isn't refused, only Memory is an error
pub out_of_memory : {T : Type 0} {w : Result Forest Refusal} {f : Forest} (r : Result T Refusal) → w ≡ Ok f → IsErrAnd r (λ e. e ≡ Memory) → IfErr r (IsRefused w)
out_of_memory {w = w} r ok = passed_up r (IsRefused w) (λ e h. inr (h, subst IsOk (sym ok) refl))
