use Rattle.std.proofs.Common.{◌≡◌, ◌++◌, drop}
use Rattle.pages.specs.Lines.{numbered_lines}
use Rattle.pages.proofs.page.lines.push_lines.Given as goal

-- the lines so far, and then those of the remaining items, are all lines
abbrev pub invariant-loop-index : goal.invariant-loop-index
invariant-loop-index g l =
    let line = g.L.Line.line in
    l.out.items ++ numbered_lines line l.index (drop l.index l.items) ≡ l.initial.out.items ++ numbered_lines line 0 l.items
