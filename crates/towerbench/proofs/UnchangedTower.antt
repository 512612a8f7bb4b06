-- No line of a script changes the tower or the limits.
use Rattle.std.proofs.Common.{◌≡◌, ◌∙◌, ◌+◌, ℕ, Bool, true, false, List, [], ◌∷◌, Option, Some, None, refl}
use Rattle.std.specs.List.{fold}
use Rattle.schedule_trie.specs.Edits.{Edit}
use Rattle.schedule_trie.specs.declared.refusal.Refusal.{Refusal}
use Rattle.schedule_trie.specs.declared.refusal.Refusal.TheVariants as refusal
use Rattle.sessions.specs.declared.command.Command.{Command}
use Rattle.sessions.specs.World.{World}
use Rattle.sessions.specs.Acts.{CommandResult, accepted_world_by, answered, command_result, first_refusal, is_full, refusals, refused_world}
use Rattle.sessions.specs.Edits.{edit_of}
use Rattle.script.specs.declared.call.Request.{Request}
use Rattle.script.specs.declared.call.Request.TheVariants.{Act, Look, Fill}
use Rattle.script.specs.declared.call.Line.{Line}
use Rattle.script.specs.declared.call.Line.TheVariants as line
use Rattle.script.specs.Lines.{read_line}
use Rattle.script.specs.Answers.{carried_out, answer_line, answer_to, performed, without_memory}
use Rattle.conversation.specs.Scripts.{RefusedMemory, ScriptProgress, after_lines, beginning, next_line}

-- world v has the tower and the limits of world w
pub record HasTowerAndLimitsOf {P : Type 0} (w v : World P) : Type 0 where
  pub tower : v.tower ≡ w.tower
  pub limits : v.limits ≡ w.limits

module _ {P : Type 0} where
  unchanged : (w : World P) → HasTowerAndLimitsOf w w
  unchanged w = record { tower = refl; limits = refl }

  unchanged_then : (u v w : World P) → HasTowerAndLimitsOf u v → HasTowerAndLimitsOf v w → HasTowerAndLimitsOf u w
  unchanged_then u v w a b = record { tower = b.tower ∙ a.tower; limits = b.limits ∙ a.limits }

  after_edit : (o : Option Edit) (who : ℕ) (c : Command) (w : World P) → HasTowerAndLimitsOf w (accepted_world_by o who c w)
  after_edit (Some edit) who c w = record { tower = refl; limits = refl }
  after_edit None who c w = record { tower = refl; limits = refl }

  after_refusal : (r : Refusal) (w : World P) → HasTowerAndLimitsOf w (refused_world r w)
  after_refusal refusal.NoBranch w = record { tower = refl; limits = refl }
  after_refusal refusal.NameTaken w = record { tower = refl; limits = refl }
  after_refusal refusal.BadName w = record { tower = refl; limits = refl }
  after_refusal refusal.NoPlace w = record { tower = refl; limits = refl }
  after_refusal refusal.Full w = record { tower = refl; limits = refl }
  after_refusal refusal.LastBranch w = record { tower = refl; limits = refl }
  after_refusal refusal.TooManyBranches w = record { tower = refl; limits = refl }
  after_refusal refusal.BadStep w = record { tower = refl; limits = refl }
  after_refusal refusal.Occupied w = record { tower = refl; limits = refl }
  after_refusal refusal.NoBreak w = record { tower = refl; limits = refl }
  after_refusal refusal.NoSession w = record { tower = refl; limits = refl }
  after_refusal (refusal.Newer edits) w = record { tower = refl; limits = refl }
  after_refusal refusal.LogFull w = record { tower = refl; limits = refl }
  after_refusal refusal.BadLine w = record { tower = refl; limits = refl }
  after_refusal refusal.Memory w = record { tower = refl; limits = refl }

  after_answer : (o : Option Refusal) (who : ℕ) (c : Command) (w : World P) → HasTowerAndLimitsOf w (answered o who c w).world
  after_answer None who c w = after_edit (edit_of c) who c w
  after_answer (Some r) who c w = after_refusal r w

  after_refused_memory : (full : Bool) (own : CommandResult P) (w : World P) → HasTowerAndLimitsOf w own.world → HasTowerAndLimitsOf w (without_memory full own w).world
  after_refused_memory true own w h = h
  after_refused_memory false own w h = unchanged w

  after_act : (memory : Bool) (session : ℕ) (guard : Option ℕ) (c : Command) (w : World P) → HasTowerAndLimitsOf w (carried_out memory session guard c w).world
  after_act false session guard c w = after_answer (first_refusal (refusals session guard c w)) session c w
  after_act true session guard c w = after_refused_memory (is_full w) (command_result session guard c w) w (after_answer (first_refusal (refusals session guard c w)) session c w)

  after_request : (memory : Bool) (session : ℕ) (r : Request) (w : World P) → HasTowerAndLimitsOf w (performed memory session r w).world
  after_request memory session (Act guard c) w = after_act memory session guard c w
  after_request memory session (Look query) w = unchanged w
  after_request memory session (Fill branch) w = unchanged w

  after_line : (memory : Bool) (n : ℕ) (l : Line) (w : World P) → HasTowerAndLimitsOf w (answer_to memory n l w).world
  after_line memory n line.Blank w = unchanged w
  after_line memory n line.Bad w = unchanged w
  after_line memory n (line.Call c) w = after_request memory c.session c.request w

  after_each_line : (refused : RefusedMemory) (lines : List (List ℕ)) (p : ScriptProgress (World P)) → HasTowerAndLimitsOf p.world (fold (next_line answer_line refused) p lines).world
  after_each_line refused [] p = unchanged p.world
  after_each_line refused (text ∷ lines) p =
      let q = next_line answer_line refused p text in
      unchanged_then p.world q.world _ (after_line (refused (p.lines + 1)) (p.lines + 1) (read_line text) p.world) (after_each_line refused lines q)

  -- the world after a script's lines has the tower and the limits of the world before them
  pub tower_unchanged : (w : World P) (lines : List (List ℕ)) (refused : RefusedMemory) → HasTowerAndLimitsOf w (after_lines answer_line w lines refused).world
  tower_unchanged w lines refused = after_each_line refused lines (beginning w)
