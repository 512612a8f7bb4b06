-- A page of a configuration depends on the behaviour of its register alone, not on its value.
use Rattle.std.proofs.Common.{◌≡◌}
use Rattle.std.specs.Prelude.{⊤}
use Rattle.frames.specs.Behaviour.{Behaviour}
use Rattle.frames.specs.Configuration.{Configuration}
use Rattle.frames.specs.Recorded.{without_register}
use Rattle.pages.specs.declared.query.ConfigKind.{ConfigKind}
use Rattle.pages.specs.declared.query.ConfigKind.TheVariants.{State, Process, Bits, Pending}
use Rattle.pages.specs.declared.page.head.Head.{Head}
use Rattle.pages.specs.Pages.{config_page}

pub page_alone : {R P : Type 0} (b d : Behaviour P) (kind : ConfigKind) (head : Head) (c : Configuration R P) (m : Configuration ⊤ P) → b ≡ d → without_register c ≡ m
    → config_page b kind head c ≡ config_page d kind head m
page_alone b d State head c m e f = λ i. config_page (e i) State head (f i)
page_alone b d (Process p) head c m e f = λ i. config_page (e i) (Process p) head (f i)
page_alone b d Bits head c m e f = λ i. config_page (e i) Bits head (f i)
page_alone b d Pending head c m e f = λ i. config_page (e i) Pending head (f i)
