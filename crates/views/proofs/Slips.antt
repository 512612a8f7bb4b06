-- The page that a settled place's slip gives.
use Rattle.std.proofs.Common.{◌≡◌, ℕ, ◌<◌, Bool, true, List, [], ◌∷◌, Option, Some, None, take, length, refl, sym, ap, subst, ◌∙◌}
use Rattle.std.specs.Cmp.{IsEquivalence}
use Rattle.std.specs.Option.{option_map}
use Rattle.std.specs.declared.alloc.Global.{Global}
use Rattle.std.specs.declared.sync.Arc.{Arc}
use Rattle.checkpoints.specs.Runs.{SegmentRun}
use Rattle.frames.specs.Behaviour.{Behaviour}
use Rattle.frames.specs.Configuration.{Configuration, initial_configuration}
use Rattle.frames.specs.Recorded.{indexed, configuration_after}
use Rattle.schedule_trie.specs.Forest.{len_of}
use Rattle.schedule_trie.specs.Trie.{forest}
use Rattle.cutoff.specs.Charts.{Charted, StepsFit}
use Rattle.cutoff.specs.Fitting.{RunPart, part_of}
use Rattle.cutoff.specs.Settles.{IsSettled, last_part}
use Rattle.pages.specs.declared.query.ConfigKind.{ConfigKind}
use Rattle.pages.specs.declared.query.EventsKind.{EventsKind}
use Rattle.pages.specs.declared.page.head.Head.{Head}
use Rattle.views.specs.Spots.{part_end, parts_end, IsSpotOf}
use Rattle.pages.specs.Pages.{config_page, events_page}
use Rattle.pages.specs.Strays.{Judges, JudgesFrom}
use Rattle.views.specs.RunPages.{last_page, runs_page, content_page, config_content}
use Rattle.views.specs.ChartLooks.{config_page_in, events_page_in}
use Rattle.views.specs.Looks.{steps_in}
use Rattle.views.proofs.PageAlone.{page_alone}
use Rattle.views.proofs.Spots.{spot_of}
use Rattle.views.proofs.Strays.{events_page_judges, branch_steps_fit}

-- these parts are the result of settling a branch's first steps
module _ {R P : Type 0} (E : R → R → Bool) (equal : IsEquivalence E) (is : R → Behaviour P) (alike : (x y : R) → E x y ≡ true → is x ≡ is y) (old new : Charted R P) (branch : List ℕ) (place len : ℕ)
    (parts : List (RunPart R P)) (n : ℕ) (long : Some len ≡ len_of (forest old.trie) branch) (begins : old.start ≡ initial_configuration (is old.start.register) old.start.register old.value)
    (settled : IsSettled E (is old.start.register) old new branch place parts n) where
  spot : IsSpotOf is old.start old.value (steps_in (forest old.trie) branch) place len parts
  spot = spot_of E equal is alike old new branch place len parts n long begins settled

  abbrev head_of : ℕ → Head
  head_of n = record { branch = branch; place = place; len = n }

  pub last_page_is : (kind : ConfigKind) → last_page is kind (head_of len) old.start parts ≡ config_page_in is old kind branch place
  last_page_is kind =
      ap (λ n. last_page is kind (head_of n) old.start parts) spot.counted
      ∙ page_alone (is (parts_end is old.start parts).register) (is old.start.register) kind (head_of (length (steps_in (forest old.trie) branch))) (parts_end is old.start parts)
      (configuration_after (is old.start.register) old.value (take place (steps_in (forest old.trie) branch))) spot.behaves_alike spot.reaches

  pub runs_page_is : (kind : EventsKind) → runs_page is kind (head_of len) parts ≡ events_page_in is old kind branch place
  runs_page_is kind =
      ap (λ n. runs_page is kind (head_of n) parts) spot.counted
      ∙ ap (λ events. events_page kind (head_of (length (steps_in (forest old.trie) branch))) (indexed 0 events)) spot.records

  -- any verdicts on the page of events are on what the register records on these steps
  pub runs_page_judges : (kind : EventsKind) → old.value < (is old.start.register).values → StepsFit (is old.start.register) (forest old.trie) → JudgesFrom old.value kind
      → Judges (is old.start.register) (runs_page is kind (head_of len) parts)
  runs_page_judges kind within fits judged =
      subst (Judges (is old.start.register)) (sym (runs_page_is kind))
      (events_page_judges (is old.start.register) old.value kind branch place (steps_in (forest old.trie) branch) within (branch_steps_fit (is old.start.register) (forest old.trie) branch fits) judged)

-- if no part is the last, there are no parts
no_last : {R P : Type 0} (parts : List (RunPart R P)) → last_part parts ≡ None → parts ≡ []
no_last [] e = refl
no_last (part ∷ parts) e = absurd (some_last part parts e)
  where
    some_last : {R P : Type 0} (q : RunPart R P) (qs : List (RunPart R P)) → last_part (q ∷ qs) ≡ None → ⊥
    some_last q [] f = cc
    some_last q (r ∷ qs) f = some_last r qs f

-- the configuration that parts of runs reach is the one that the last of them reaches
end_of_last : {R P : Type 0} (is : R → Behaviour P) (c : Configuration R P) (parts : List (RunPart R P)) (last : RunPart R P) → last_part parts ≡ Some last
    → parts_end is c parts ≡ part_end is last
end_of_last is c [] last e = cc
end_of_last is c (part ∷ []) last e = let same : part ≡ last = cc in ap (part_end is) same
end_of_last is c (part ∷ next ∷ parts) last e = end_of_last is (part_end is part) (next ∷ parts) last e

-- the page made from the last part alone is the page of the configuration that all parts reach
pub config_content_page : {R P : Type 0} (is : R → Behaviour P) (kind : ConfigKind) (head : Head) (first : Configuration R P) (parts : List (RunPart R P)) (last : Option (Arc (SegmentRun R P) Global × ℕ))
    → last_part parts ≡ option_map part_of last → content_page is (config_content kind head first last) ≡ last_page is kind head first parts
config_content_page is kind head first parts None e = ap (last_page is kind head first) (sym (no_last parts e))
config_content_page {R} {P} is kind head first parts (Some x) e = ap (λ (c : Configuration R P). config_page (is c.register) kind head c) (sym (end_of_last is first parts (part_of x) e))
