-- The events of steps, from their marks and the stored events.
use Rattle.std.proofs.Common.{◌≡◌, ◌∙◌, ℕ, zero, suc, List, [], ◌∷◌, ◌++◌, take, refl, sym, ap, subst, append_assoc, append-nil}
use Rattle.frames.specs.declared.types.Event.{Event}
use Rattle.frames.specs.declared.types.Step.{Step}
use Rattle.frames.specs.declared.types.StepEvents.{StepEvents}
use Rattle.checkpoints.specs.declared.mark.Mark.{Mark}
use Rattle.checkpoints.specs.MarkedSteps.{events_with, left_after, reported_events, ReportsOne, IsStepAdded}

-- whatever steps, marks and events follow, these steps have the events that `marks` and `events`
-- give, and the steps that follow have those that theirs give
abbrev pub AreReadFirst : List Step → List Mark → List Event → Type 0
AreReadFirst steps marks events = (ss : List Step) (ms : List Mark) (es : List Event) → reported_events (steps ++ ss) (marks ++ ms) (events ++ es) ≡ reported_events steps marks events ++ reported_events ss ms es

-- these marks and events give the events `all` of these steps, also if others follow
pub record AreMarksOf (steps : List Step) (marks : List Mark) (events : List Event) (all : List StepEvents) : Type 0 where
  pub reports : reported_events steps marks events ≡ all
  pub read_first : AreReadFirst steps marks events

module _ (steps : List Step) (marks : List Mark) (events : List Event) (s : Step) (mark : Mark) (kept : List Event) (one : StepEvents) (is : AreReadFirst steps marks events) (gives : ReportsOne s mark kept one) where
  abbrev pub so_far : List StepEvents
  so_far = reported_events steps marks events

  more_reported : reported_events (steps ++ s ∷ []) (marks ++ mark ∷ []) (events ++ kept) ≡ so_far ++ one ∷ []
  more_reported =
      is (s ∷ []) (mark ∷ []) kept
      ∙ ap (λ e. so_far ++ events_with s mark e ∷ []) (sym (append-nil kept))
      ∙ ap (λ e. so_far ++ e ∷ []) (gives []).0

  more_read_first : AreReadFirst (steps ++ s ∷ []) (marks ++ mark ∷ []) (events ++ kept)
  more_read_first ss ms es =
      ap (λ l. reported_events l ((marks ++ mark ∷ []) ++ ms) ((events ++ kept) ++ es)) (append_assoc steps (s ∷ []) ss)
      ∙ ap (λ l. reported_events (steps ++ s ∷ ss) l ((events ++ kept) ++ es)) (append_assoc marks (mark ∷ []) ms)
      ∙ ap (reported_events (steps ++ s ∷ ss) (marks ++ mark ∷ ms)) (append_assoc events kept es)
      ∙ is (s ∷ ss) (mark ∷ ms) (kept ++ es)
      ∙ ap (λ e. so_far ++ e ∷ reported_events ss ms (left_after mark (kept ++ es))) (gives es).0
      ∙ ap (λ l. so_far ++ one ∷ reported_events ss ms l) (gives es).1
      ∙ sym (append_assoc so_far (one ∷ []) (reported_events ss ms es))
      ∙ sym (ap (λ l. l ++ reported_events ss ms es) more_reported)

  pub one_reported : AreMarksOf (steps ++ s ∷ []) (marks ++ mark ∷ []) (events ++ kept) (so_far ++ one ∷ [])
  one_reported = record { reports = more_reported; read_first = more_read_first }

-- the marks and events of these steps, with those of one more step, are those of all these steps
pub reported_more : (steps made : List Step) (marks more : List Mark) (events later : List Event) (s : Step) (one : StepEvents) → AreReadFirst steps marks events → made ≡ steps ++ s ∷ []
    → IsStepAdded s one marks more events later → AreMarksOf made more later (reported_events steps marks events ++ one ∷ [])
reported_more steps made marks more events later s one is is_made added =
    let all : List StepEvents = reported_events steps marks events ++ one ∷ [] in
    subst (λ l. AreMarksOf l more later all) (sym is_made) (subst (λ l. AreMarksOf (steps ++ s ∷ []) l later all) (sym added.marked)
    (subst (λ l. AreMarksOf (steps ++ s ∷ []) (marks ++ added.mark ∷ []) l all) (sym added.added) (one_reported steps marks events s added.mark added.stored one is added.reports)))

-- the events of the first n steps are the first n items of the events of all steps
pub front_reported : (n : ℕ) (steps : List Step) (marks : List Mark) (events : List Event) → reported_events (take n steps) marks events ≡ take n (reported_events steps marks events)
front_reported zero steps marks events = refl
front_reported (suc n) [] marks events = refl
front_reported (suc n) (s ∷ steps) [] events = refl
front_reported (suc n) (s ∷ steps) (mark ∷ marks) events = ap (λ l. events_with s mark events ∷ l) (front_reported n steps marks (left_after mark events))
