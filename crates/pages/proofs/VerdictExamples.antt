-- Verdicts on histories that were worked out by hand.
use Rattle.std.specs.Prelude.{ℕ, ◌≡◌, List, [], ◌∷◌, false, true}
use Rattle.std.proofs.Common.{refl}
use Rattle.frames.specs.declared.types.Op.TheVariants.{Write, Read}
use Rattle.frames.specs.declared.types.Layer.TheVariants.{Stamped}
use Rattle.frames.specs.declared.types.Event.{Event}
use Rattle.frames.specs.declared.types.Event.TheVariants.{Invoke, Got, Wrote, Refused, Stop, Chosen}
use Rattle.frames.specs.declared.verdict.ReadVerdict.{ReadVerdict}
use Rattle.frames.specs.declared.verdict.Verdict.{Verdict}
use Rattle.frames.specs.declared.verdict.Verdict.TheVariants.{Fresh, Overlap, Stray}
use Rattle.frames.specs.correctness.Verdicts.{verdicts}

-- the verdict on a read of process p that returned v in the step with index i
read_verdict : ℕ → ℕ → ℕ → Verdict → ReadVerdict
read_verdict i p v verdict = record { step = i; process = p; value = v; verdict = verdict }

-- a read that a write overlaps, and that returns after the write has
overlapped_read : List (ℕ × Event)
overlapped_read = (0, Invoke 0 (Write 1)) ∷ (2, Invoke 1 Read) ∷ (4, Wrote 0) ∷ (5, Chosen 1 0 false) ∷ (5, Got 1 0) ∷ []

overlapped_read_is_fresh : verdicts 0 overlapped_read ≡ read_verdict 5 1 0 Fresh ∷ []
unfolding overlapped_read read_verdict
overlapped_read_is_fresh = refl

-- a number in unary that is read while it is written
unary_overlap : List (ℕ × Event)
unary_overlap = (0, Invoke 0 (Write 3)) ∷ (3, Invoke 1 Read) ∷ (6, Chosen 1 1 true) ∷ (12, Got 1 3) ∷ []

unary_overlap_is_seen : verdicts 0 unary_overlap ≡ read_verdict 12 1 3 Overlap ∷ []
unfolding unary_overlap read_verdict
unary_overlap_is_seen = refl

-- a safe bit gives anything while it is written
safe_stray : List (ℕ × Event)
safe_stray = (0, Invoke 0 (Write 0)) ∷ (2, Invoke 1 Read) ∷ (4, Chosen 1 0 true) ∷ (4, Got 1 1) ∷ []

safe_stray_is_seen : verdicts 0 safe_stray ≡ read_verdict 4 1 1 Stray ∷ []
unfolding safe_stray read_verdict
safe_stray_is_seen = refl

-- the writer stops, and its write stays pending
stopped_regular : List (ℕ × Event)
stopped_regular =
    (0, Invoke 0 (Write 1)) ∷ (3, Stop 0) ∷ (4, Invoke 1 Read) ∷ (6, Got 1 1) ∷ (7, Invoke 2 Read) ∷ (9, Got 2 0) ∷ []

stopped_regular_is_seen : verdicts 0 stopped_regular ≡ read_verdict 6 1 1 Overlap ∷ read_verdict 9 2 0 Fresh ∷ []
unfolding stopped_regular read_verdict
stopped_regular_is_seen = refl

-- a refused write counts for nothing
refused_write : ℕ → List (ℕ × Event)
refused_write v =
    (0, Invoke 0 (Write 1)) ∷ (4, Wrote 0) ∷ (5, Invoke 0 (Write 0)) ∷ (5, Refused 0 Stamped) ∷ (6, Invoke 1 Read) ∷ (10, Got 1 v) ∷ []

refused_write_is_stray : verdicts 0 (refused_write 0) ≡ read_verdict 10 1 0 Stray ∷ []
unfolding refused_write read_verdict
refused_write_is_stray = refl

write_before_refused_is_fresh : verdicts 0 (refused_write 1) ≡ read_verdict 10 1 1 Fresh ∷ []
unfolding refused_write read_verdict
write_before_refused_is_fresh = refl

-- a write that is refused after a read returned its value: a unary number of 3 values over stamped
-- registers of 2 values with last stamp 1
late_refusal : List (ℕ × Event)
late_refusal =
    (0, Invoke 1 Read) ∷ (3, Invoke 0 (Write 0)) ∷ (7, Wrote 0) ∷ (8, Invoke 0 (Write 1)) ∷ (13, Chosen 1 4 false) ∷ (19, Got 1 1) ∷ (20, Refused 0 Stamped) ∷ []

late_refusal_is_stray : verdicts 2 late_refusal ≡ read_verdict 19 1 1 Stray ∷ []
unfolding late_refusal read_verdict
late_refusal_is_stray = refl

-- the same over stamped registers of 2 values with last stamp 2
later_refusal : List (ℕ × Event)
later_refusal =
    (0, Invoke 0 (Write 0)) ∷ (4, Wrote 0) ∷ (61, Invoke 0 (Write 1)) ∷ (69, Wrote 0) ∷ (122, Invoke 1 Read) ∷ (133, Invoke 0 (Write 2)) ∷ (148, Chosen 1 9 false) ∷ (158, Got 1 2) ∷ (159, Refused 0 Stamped) ∷ []

later_refusal_is_stray : verdicts 1 later_refusal ≡ read_verdict 158 1 2 Stray ∷ []
unfolding later_refusal read_verdict
later_refusal_is_stray = refl
