-- How a run of the program ends, given what was answered at its desk.
use Rattle.std.proofs.Common.{◌≡◌, ◌≤◌, Ok, subst, sym, ap, ◌∙◌}
use Rattle.frames.specs.Behaviour.{Behaviour}
use Rattle.frames.specs.Configuration.{fits_step}
use Rattle.schedule_trie.specs.declared.limits.Limits.{Limits}
use Rattle.schedule_trie.specs.Limbs.{forest_of, limbs, loaded}
use Rattle.tower_file.specs.Benches.{Bench, bench_of}
use Rattle.std.specs.Io.KnownBytes.{Appends}
use Rattle.branch_terms.specs.declared.limits.TheConstants.{MOST_CELLS_MADE}
use Rattle.sessions.specs.World.{World}
use Rattle.script.specs.Answers.{answer_line}
use Rattle.conversation.specs.declared.fault.StreamFault.{StreamFault}
use Rattle.tower_file.specs.Parsed.{as_bench}
use Rattle.conversation.specs.Streams.{Streams}
use Rattle.conversation.specs.Scripts.{answers_to, lines_of}
use Rattle.conversation.specs.Conversations.{EndsWithFault, Leaves}
use Rattle.command_line.specs.Ranges.{limits_of}
use Rattle.towerbench.specs.declared.opening.Opening.{Opening}
use Rattle.towerbench.specs.Courses.{Course, course_on, course_from}
use Rattle.towerbench.specs.RunEndings.{IsEndedByFault, IsLeftBench, IsDone}
use Rattle.towerbench.proofs.UnchangedTower.{HasTowerAndLimitsOf, tower_unchanged}
use Rattle.towerbench.specs.DeskOpenings.{CanOpen, IsOnTower, opening_world}
use Rattle.towerbench.proofs.Benches.{tower_lawful}

-- How a run from an opening ends, given what was answered at its desk from the world before the
-- first line.
module _ {R P : Type 0} (is : R → Behaviour P) (o : Opening R) (can : CanOpen is o) (w : World P) (at : w ≡ opening_world is o) where
  abbrev limits_at : Limits
  limits_at = limits_of o.setup.options

  -- the course of scripts on the opening's bench is the course from w
  course_is : course_on (as_bench o.setup.bench) limits_at ≡ course_from w
  course_is = can.builds.course limits_at o.setup.bench.limbs ∙ ap course_from (sym at)

  module _ (before after : Streams) (room : loaded limits_at o.setup.bench.limbs ≡ Ok (forest_of o.setup.bench.limbs)) where
    -- a fault of the streams of a script that w answers ends the run as `IsEndedByFault` says
    pub ended_by_fault_at : (e : StreamFault) → EndsWithFault (answers_to answer_line w) e before after → IsEndedByFault limits_at (as_bench o.setup.bench) e before after
    ended_by_fault_at e h = record { room = room; ended = subst (λ (c : Course). EndsWithFault c.answering e before after) (sym course_is) h }

    -- a script was answered to its end, and left world v
    module _ (v : World P) (leaves : Leaves answer_line w v before after) where
      pub done_at : IsDone limits_at (as_bench o.setup.bench) before after
      done_at =
          let a = leaves.answered in
          record {
            room = room;
            answered = record {
              script = a.script;
              refused = a.refused;
              read = a.read;
              ended = a.ended;
              short = a.short;
              wrote = subst (λ (c : Course). Appends before.written after.written (c.answering (lines_of a.script) a.refused)) (sym course_is) a.wrote;
            };
          }

      pub left_at : (left : Bench) → left ≡ bench_of o.setup.bench.tower (limbs v.forest) → IsLeftBench limits_at (as_bench o.setup.bench) left before after
      unfolding done_at
      left_at left is_left =
          let a = leaves.answered in
          record {
            done = done_at;
            tower = ap (λ (b : Bench). b.tower) is_left;
            branches = ap (λ (b : Bench). b.limbs) is_left ∙ ap limbs (ap (λ (x : World P). x.forest) leaves.left ∙ ap (λ (c : Course). c.leaving (lines_of a.script) a.refused) (sym course_is));
          }

      same_tower : HasTowerAndLimitsOf w v
      same_tower =
          let a = leaves.answered in
          subst (HasTowerAndLimitsOf w) (sym leaves.left) (tower_unchanged w (lines_of a.script) a.refused)

      pub on_tower_at : IsOnTower o.setup.bench.tower v
      on_tower_at =
          let limits = sym (same_tower.limits ∙ ap (λ (x : World P). x.limits) at) in
          record {
            lawful = tower_lawful o.setup.bench.tower o.setup.bench.limbs o.setup.bench.lawful;
            alike = λ s. can.builds.alike s ∙ ap (λ (b : Behaviour P). fits_step b s) (sym (same_tower.tower ∙ ap (λ (x : World P). x.tower) at));
            cells = subst (λ (l : Limits). l.cells ≤ MOST_CELLS_MADE) limits can.limits.few_cells;
            branches = subst (λ (l : Limits). l.branches ≤ 1024) limits can.limits.few_branches;
          }
