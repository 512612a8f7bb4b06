-- The page that shows a session's cursor and its breaks.
use Rattle.std.specs.Prelude.{ℕ, List, ◌++◌, codes, length}
use Rattle.std.specs.Fmt.{decimal}
use Rattle.std.specs.List.{flat_map}
use Rattle.pages.specs.declared.breakpoint.Break.{Break}
use Rattle.pages.specs.declared.breakpoint.Break.TheVariants.{Returns, Bit, Chosen, Void, Refused}
use Rattle.pages.specs.declared.page.cursor.CursorPage.{CursorPage}
use Rattle.pages.specs.page.Head.{line_end, page_title}

-- the text of a break: its kind, and its process or its bit and value, if it has them
abbrev pub break_text : Break → List ℕ
break_text (Returns p) = codes "returns " ++ decimal p
break_text (Bit j v) = codes "bit " ++ decimal j ++ codes " " ++ decimal v
break_text Chosen = codes "chosen"
break_text Void = codes "void"
break_text Refused = codes "refused"

-- the line of a break: two spaces, and the text of the break
abbrev pub break_line : Break → List ℕ
break_line break = codes "  " ++ break_text break ++ line_end

-- a line for each break
abbrev pub break_lines : List Break → List ℕ
break_lines breaks = flat_map break_line breaks

-- the first line of the page: the session's number, the branch and the place of the cursor, and how
-- many breaks there are
abbrev pub cursor_head : ℕ → List ℕ → ℕ → ℕ → List ℕ
cursor_head session branch place count =
    page_title session (codes "cursor") branch ++ decimal place ++ codes " breaks " ++ decimal count ++ line_end

-- the text of a page of a cursor, as the answer to the session with this number
abbrev pub cursor_text : ℕ → CursorPage → List ℕ
cursor_text session page = cursor_head session page.branch page.place (length page.breaks) ++ break_lines page.breaks
