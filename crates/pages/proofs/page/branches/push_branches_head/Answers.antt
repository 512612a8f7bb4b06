use Rattle.std.proofs.Common.{◌≡◌, ◌++◌, ◌∙◌, List, ℕ, ap, append_assoc}
use Rattle.std.specs.Prelude.{codes}
use Rattle.std.specs.Fmt.{decimal}
use Rattle.std.proofs.lemmas.Result.{on_ok_weaker}
use Rattle.pages.specs.page.Head.{line_end}
use Rattle.pages.proofs.page.branches.push_branches_head.Goals as goal

-- if a text is `out` and `pieces`, the text and one more piece are `out`, `pieces` and that piece
one_more_piece : (out pieces piece text : List ℕ) → text ≡ out ++ pieces → text ++ piece ≡ out ++ (pieces ++ piece)
one_more_piece out pieces piece text e = ap (λ x. x ++ piece) e ∙ append_assoc out pieces piece

eight_pieces : (out a b c d e f g h : List ℕ) → out ++ a ++ b ++ c ++ d ++ e ++ f ++ g ++ h ≡ out ++ (a ++ b ++ c ++ d ++ e ++ f ++ g ++ h)
eight_pieces out a b c d e f g h =
    one_more_piece out (a ++ b ++ c ++ d ++ e ++ f ++ g) h _
    (one_more_piece out (a ++ b ++ c ++ d ++ e ++ f) g _
    (one_more_piece out (a ++ b ++ c ++ d ++ e) f _
    (one_more_piece out (a ++ b ++ c ++ d) e _ (one_more_piece out (a ++ b ++ c) d _ (one_more_piece out (a ++ b) c _ (append_assoc out a b))))))

pub returns : goal.returns
returns c =
    let edits = decimal c.args.edits in
    let made = decimal c.args.made in
    let count = decimal c.args.count in
    on_ok_weaker c.push_edits_and_made.result
    (λ h. h
    ∙ ap (λ x. x ++ codes " edits " ++ edits ++ codes " made " ++ made ++ line_end)
    (c.in_ok-push_labelled.ensures ∙ ap (λ x. x ++ codes ": branches " ++ count) (c.in_ok-push_number.ensures ∙ ap (λ n. c.args.out.now.items ++ decimal n) c.from.ensures))
    ∙ eight_pieces c.args.out.now.items (decimal c.args.session) (codes ": branches ") count (codes " edits ") edits (codes " made ") made line_end)
    c.push_edits_and_made.ensures
