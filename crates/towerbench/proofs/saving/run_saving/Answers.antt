use Rattle.std.proofs.Common.{◌≡◌, ℕ, true, List, Option, Result, Ok, Err, inl, inr, refl}
use Rattle.std.specs.Prelude.{⊤, IfErr, OnErr}
use Rattle.std.specs.declared.alloc.Global.{Global}
use Rattle.std.specs.declared.vec.Vec.{Vec}
use Rattle.std.proofs.lemmas.Result.{on_ok_weaker}
use Rattle.branch_terms.specs.declared.limits.Limits.{Limits}
use Rattle.tower_file.specs.Benches.{Bench}
use Rattle.tower_file.specs.Parsed.{as_bench}
use Rattle.conversation.specs.Streams.{Streams}
use Rattle.conversation.specs.Conversations.{WrotePrefix}
use Rattle.towerbench.specs.declared.fault.Fault.{Fault}
use Rattle.towerbench.specs.declared.fault.Fault.TheVariants.{Save}
use Rattle.towerbench.specs.BenchSources.{opened_bench}
use Rattle.towerbench.specs.RunEndings.{EndsOver, RanLeaving, RanSavingInto}
use Rattle.towerbench.proofs.saving.run_saving.Goals as goal

-- a run that ended well, and reported these bytes, left the branches that the bytes spell
ran_leaving : (file : Option (List ℕ)) (limits : Limits) (b : Bench) (bytes : Vec ℕ Global) (before after : Streams) → opened_bench file ≡ Ok b → EndsOver true limits b before after (Ok bytes)
    → RanLeaving file limits bytes.items before after
ran_leaving file limits b bytes before after is h = record { bench = b; left = h.0; opens = is; leaves = h.1; spells = h.2 }

-- if writing to the saver failed, the saver took a prefix of the bytes, as `RanSavingInto` says
ran_saving_into : (r : Result ⊤ Fault) (file : Option (List ℕ)) (limits : Limits) (before after : Streams) (kept saved : Option (List ℕ)) (bytes : List ℕ)
    → RanLeaving file limits bytes before after → OnErr r (WrotePrefix kept saved bytes) → IfErr r (λ e. e ≡ Save) → IfErr r (RanSavingInto file limits before after kept saved)
ran_saving_into (Ok done) file limits before after kept saved bytes leaving front is = tt
ran_saving_into (Err e) file limits before after kept saved bytes leaving front is = inr (is, (bytes, leaving, front))

pub returns-in-Err-clause-fault : goal.returns-in-Err-clause-fault
returns-in-Err-clause-fault g c = inl (inl (c.in-Err.ensures.err, refl), refl)

pub returns-in-Ok-run_setup-clause-done : goal.returns-in-Ok-run_setup-clause-done
returns-in-Ok-run_setup-clause-done g c =
    let leaving = ran_leaving _ _ (as_bench c.in-Ok.bench) c.in-Ok-run_setup.bytes _ _ c.in-Ok.ensures.ok c.in-Ok-run_setup.ensures in
    on_ok_weaker c.save.result (λ wrote. (c.in-Ok-run_setup.bytes.items, leaving, wrote)) (rw c.deref.ensures.value at c.save.ensures.written)

pub returns-in-Ok-run_setup-clause-fault : goal.returns-in-Ok-run_setup-clause-fault
returns-in-Ok-run_setup-clause-fault g c =
    let leaving = ran_leaving _ _ (as_bench c.in-Ok.bench) c.in-Ok-run_setup.bytes _ _ c.in-Ok.ensures.ok c.in-Ok-run_setup.ensures in
    ran_saving_into c.save.result _ _ _ _ _ _ c.in-Ok-run_setup.bytes.items leaving (rw c.deref.ensures.value at c.save.ensures.front) c.save.ensures.fault

pub returns-in-Err-run_setup-clause-fault : goal.returns-in-Err-run_setup-clause-fault
returns-in-Err-run_setup-clause-fault g c = inl (inr (as_bench c.in-Ok.bench, (c.in-Ok.ensures.ok, c.in-Err-run_setup.ensures)), refl)
