-- Slips, the results of looks, as contracts see them.
use Rattle.std.specs.Prelude.{Option}
use Rattle.pages.specs.declared.page.Page.{Page}

-- a slip, as contracts see it: the page that is made from it; and `judged`, the register that was
-- looked at, or `None` if `Slip::of` made the slip
pub record Slipped (R : Type 0) : Type 0 where
  pub page : Page
  pub judged : Option R
