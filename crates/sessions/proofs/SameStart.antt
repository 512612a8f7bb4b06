-- No command of a log changes the opening's register or initial value.
use Rattle.std.proofs.Common.{◌≡◌, ℕ, List, [], ◌∷◌, Option, Some, None, refl, sym, ap, ◌∙◌}
use Rattle.frames.specs.Behaviour.{Behaviour}
use Rattle.frames.specs.Configuration.{initial_configuration}
use Rattle.schedule_trie.specs.declared.refusal.Refusal.{Refusal}
use Rattle.schedule_trie.specs.declared.refusal.Refusal.TheVariants.{LogFull}
use Rattle.schedule_trie.specs.Edits.{Edit}
use Rattle.sessions.specs.declared.command.Command.{Command}
use Rattle.sessions.specs.declared.log.Entry.{Entry}
use Rattle.sessions.specs.Edits.{edit_of}
use Rattle.sessions.specs.World.{World}
use Rattle.sessions.specs.Acts.{accepted_world_by, answered, first_refusal, refusals, refused_world}
use Rattle.sessions.specs.Logs.{acted_by, world_after}
use Rattle.sessions.specs.Books.{BeginsAtOpening, BookOf, IsLegalBook, opening_of, world_of}

module _ {P : Type 0} where
  -- two worlds have the same register, with the same initial value
  abbrev HaveSameStart : World P → World P → Type 0
  HaveSameStart v w = (v.tower ≡ w.tower) × (v.value ≡ w.value)

  refused_same : (r : Refusal) (w : World P) → HaveSameStart (refused_world r w) w
  refused_same LogFull w = (refl, refl)
  refused_same r w = (refl, refl)

  accepted_same : (edit : Option Edit) (who : ℕ) (c : Command) (w : World P) → HaveSameStart (accepted_world_by edit who c w) w
  accepted_same (Some edit) who c w = (refl, refl)
  accepted_same None who c w = (refl, refl)

  answered_same : (o : Option Refusal) (who : ℕ) (c : Command) (w : World P) → HaveSameStart (answered o who c w).world w
  answered_same None who c w = accepted_same (edit_of c) who c w
  answered_same (Some r) who c w = refused_same r w

  after_same : (log : List Entry) (w : World P) → HaveSameStart (world_after w log) w
  after_same [] w = (refl, refl)
  after_same (e ∷ log) w =
      let more = after_same log (acted_by e w).world in
      let here = answered_same (first_refusal (refusals e.who e.if_at e.command w)) e.who e.command w in
      (more.0 ∙ here.0, more.1 ∙ here.1)

-- no command changes the register of a world
pub tower_after : {P : Type 0} (w : World P) (log : List Entry) → (world_after w log).tower ≡ w.tower
tower_after w log = (after_same log w).0

-- a book is still on the register that it opened with
pub same_tower : {R P : Type 0} (is : R → Behaviour P) (h : BookOf R P) → IsLegalBook is h → (opening_of is h).tower ≡ (world_of is h.now).tower
same_tower is h held = sym (ap (λ w. w.tower) held.after ∙ tower_after (opening_of is h) h.log)

-- a book's chart that begins from an initial configuration begins from that of the opening
pub begins_at_opening : {R P : Type 0} (is : R → Behaviour P) (h : BookOf R P) → IsLegalBook is h
    → h.now.chart.start ≡ initial_configuration (is h.now.chart.start.register) h.now.chart.start.register h.now.chart.value → BeginsAtOpening is h
begins_at_opening is h held begins =
    let same = after_same h.log (opening_of is h) in
    let tower : is h.now.chart.start.register ≡ (opening_of is h).tower = ap (λ w. w.tower) held.after ∙ same.0 in
    let value : h.now.chart.value ≡ (opening_of is h).value = ap (λ w. w.value) held.after ∙ same.1 in
    begins ∙ λ i. initial_configuration (tower i) h.now.chart.start.register (value i)
