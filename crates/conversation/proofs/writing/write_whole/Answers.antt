use Rattle.std.proofs.Common.{◌≡◌, ◌++◌, ◌-◌, ℕ, List, length, take, drop, sym, ap, ◌∙◌, append_assoc, take-append-drop}
use Rattle.std.proofs.lemmas.List.{take_rest}
use Rattle.std.proofs.KnownBytes.{Appends-trans}
use Rattle.conversation.proofs.writing.write_whole.Goals as goal

-- the bytes `front` and `rest` are also `front`, the first n bytes of `rest`, and the others
written_more : (bytes front rest : List ℕ) (n : ℕ) → bytes ≡ front ++ rest → bytes ≡ (front ++ take n rest) ++ take (length rest - n) (drop n rest)
written_more bytes front rest n e =
    e ∙ ap (λ xs. front ++ xs) (sym (take-append-drop n rest)) ∙ sym (append_assoc front (take n rest) (drop n rest))
    ∙ ap (λ xs. (front ++ take n rest) ++ xs) (sym (take_rest rest n))

pub writes-preserved : goal.writes-preserved
writes-preserved g c =
    let so_far = c.writes.invariant in
    (so_far.0 ++ take c.in-Ok.n c.writes.rest.now, written_more c.args.bytes.now so_far.0 c.writes.rest.now c.in-Ok.n so_far.1, Appends-trans _ _ _ _ _ so_far.2 c.in-Ok.ensures.bytes)
