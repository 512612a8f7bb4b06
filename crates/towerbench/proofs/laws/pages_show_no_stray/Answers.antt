use Rattle.std.proofs.Common.{inl, inr}
use Rattle.towerbench.proofs.laws.pages_show_no_stray.Goals as goal

pub returns-clause-regular : goal.returns-clause-regular
returns-clause-regular c = c.never_shows_stray.ensures (inl c.regular_is_regular.ensures.regular)

pub returns-clause-unary : goal.returns-clause-unary
returns-clause-unary c = c.never_shows_stray-2.ensures (inl c.unary_is_regular.ensures.regular)

pub returns-clause-stamped : goal.returns-clause-stamped
returns-clause-stamped c = c.never_shows_stray-3.ensures (inr c.stamped_is_atomic.ensures.atomic)
