-- A history that refuses nothing is accepted whole.
use Rattle.std.proofs.Common.{◌≡◌, ℕ, true, false, List, [], ◌∷◌, refl, ap, ◌∙◌}
use Rattle.std.specs.Prelude.{if◌then◌else◌}
use Rattle.std.specs.List.{list_any}
use Rattle.std.proofs.lemmas.Bool.{or_parts}
use Rattle.schedule_steps.specs.declared.types.Op.TheVariants as op
use Rattle.frames.specs.declared.types.Event.{Event}
use Rattle.frames.specs.declared.types.Event.TheVariants.{Invoke, Refused}
use Rattle.frames.specs.correctness.Verdicts.{refused_by, is_refused, counts, accepted}
use Rattle.frames.specs.correctness.Regularity.{is_refusal, NoneRefused}

-- an event that counts is accepted, if the write in progress after it isn't refused
pub accepted_if_counts : (i : ℕ) (e : Event) (rest : List (ℕ × Event)) → is_refused rest ≡ false → counts e false ≡ true → accepted ((i, e) ∷ rest) ≡ (i, e) ∷ accepted rest
accepted_if_counts i e rest none c = ap (λ b. if counts e b then (i, e) ∷ accepted rest else accepted rest) none ∙ ap (λ b. if b then (i, e) ∷ accepted rest else accepted rest) c

-- an event that isn't a refusal counts, and refuses no write in progress before it, if no later
-- event refuses that write
unrefused : (e : Event) → is_refusal e ≡ false → (refused_by e false ≡ false) × (counts e false ≡ true)
unrefused (Refused p layer) n = absurd (cc n)
unrefused (Invoke p (op.Write v)) n = (refl, refl)
unrefused _ n = (refl, refl)

pub none_is_refused : (events : List (ℕ × Event)) → NoneRefused events → is_refused events ≡ false
none_is_refused [] n = refl
none_is_refused (e ∷ es) n =
    let parts = or_parts (is_refusal e.1) (list_any (λ x. is_refusal x.1) es) n in
    ap (refused_by e.1) (none_is_refused es parts.1) ∙ (unrefused e.1 parts.0).0

pub all_accepted : (events : List (ℕ × Event)) → NoneRefused events → accepted events ≡ events
all_accepted [] n = refl
all_accepted (e ∷ es) n =
    let parts = or_parts (is_refusal e.1) (list_any (λ x. is_refusal x.1) es) n in
    accepted_if_counts e.0 e.1 es (none_is_refused es parts.1) (unrefused e.1 parts.0).1 ∙ ap (λ l. e ∷ l) (all_accepted es parts.1)
