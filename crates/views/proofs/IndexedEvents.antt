-- Events with the indices of their steps, added after others.
use Rattle.std.proofs.Common.{◌≡◌, ◌∙◌, ℕ, suc, ◌+◌, List, [], ◌∷◌, ◌++◌, length, sym, ap, arith, append_assoc}
use Rattle.std.proofs.lemmas.List.{length-append}
use Rattle.frames.specs.declared.types.Event.{Event}
use Rattle.frames.specs.declared.types.StepEvents.{StepEvents}
use Rattle.frames.specs.Recorded.{at_index, indexed}

indexed-append : (i : ℕ) (steps later : List StepEvents) → indexed i (steps ++ later) ≡ indexed i steps ++ indexed (i + length steps) later
indexed-append i [] later =
    let same : i ≡ i + 0 = omega arith in
    ap (λ n. indexed n later) same
indexed-append i (events ∷ steps) later =
    let own : List (ℕ × Event) = at_index i events.first ++ at_index i events.second in
    let next_index : (i + 1) + length steps ≡ i + suc (length steps) = omega arith in
    ap (λ l. own ++ l) (indexed-append (i + 1) steps later)
    ∙ sym (append_assoc own (indexed (i + 1) steps) (indexed ((i + 1) + length steps) later))
    ∙ ap (λ n. (own ++ indexed (i + 1) steps) ++ indexed n later) next_index

-- `all` has the events of these steps, each with its step's index; `index` is that of the next step
pub record IsIndexed (all : List (ℕ × Event)) (index : ℕ) (steps : List StepEvents) : Type 0 where
  pub reported : all ≡ indexed 0 steps
  pub following : index ≡ length steps

pub indexed_more : (all more : List (ℕ × Event)) (index next : ℕ) (steps later both : List StepEvents) → all ≡ indexed 0 steps → index ≡ length steps
    → more ≡ all ++ indexed index later → next ≡ index + length later → both ≡ steps ++ later → IsIndexed more next both
indexed_more all more index next steps later both is_all is_index is_more is_next is_both =
    let place : index ≡ 0 + length steps = omega (arith, is_index) in
    record {
      reported = is_more ∙ ap (λ l. l ++ indexed index later) is_all ∙ ap (λ n. indexed 0 steps ++ indexed n later) place
          ∙ sym (ap (indexed 0) is_both ∙ indexed-append 0 steps later);
      following = is_next ∙ ap (λ n. n + length later) is_index ∙ sym (ap length is_both ∙ length-append steps later);
    }
