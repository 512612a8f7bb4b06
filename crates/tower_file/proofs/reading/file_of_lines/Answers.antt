use Rattle.std.proofs.Common.{rules, ◌≡◌, Ok, Some, None}
use Rattle.std.specs.List.{list_all}
use Rattle.std.proofs.lemmas.Bool.{and_from}
use Rattle.words.specs.Words.{lines, after_next}
use Rattle.tower_file.specs.Towers.{is_lawful_tower}
use Rattle.tower_file.specs.Versions.{may_have}
use Rattle.tower_file.specs.Reading.{first_foreign, version_of, tower_of}
use Rattle.tower_file.specs.Spelling.{SpellsSteps}
use Rattle.tower_file.proofs.Sound.{steps_are}
use Rattle.tower_file.proofs.TowerFormat.{spells_steps}
use Rattle.tower_file.proofs.PassedFaults.{memory_only, known_fault}
use Rattle.tower_file.proofs.reading.file_of_lines.Goals as goal

pub returns-in_err-tower-clause-memory : goal.returns-in_err-tower-clause-memory
returns-in_err-tower-clause-memory c =
    known_fault c.from_residual.result _ _ c.from_residual.ensures.0 c.from_residual.ensures.1 (λ x h. h) _ c.in_err-tower.ensures.known

pub returns-in_err-steps-clause-memory : goal.returns-in_err-steps-clause-memory
returns-in_err-steps-clause-memory c =
    let v = c.in-Some.version in
    let version : version_of (lines c.args.bytes.now) ≡ Some v = search rules in
    let tower : tower_of (after_next (lines c.args.bytes.now)) ≡ Ok c.in_ok-tower.tower = search rules in
    let following : c.tower_of.new.lines ≡ after_next (after_next (lines c.args.bytes.now)) = search rules in
    memory_only c.from_residual-in_err-steps.result _ _ c.from_residual-in_err-steps.ensures.0 c.from_residual-in_err-steps.ensures.1 (λ x h. h) (first_foreign c.args.bytes.now ≡ None → SpellsSteps c.args.bytes.now)
    (λ k plain. spells_steps c.args.bytes.now v c.in_ok-tower.tower c.tower_of.new.lines plain version tower following (c.in_err-steps.ensures.memory k))

pub of_lawful-requires : goal.of_lawful-requires
of_lawful-requires c =
    let v = c.in-Some.version in
    let steps = steps_are v c.in_ok-tower.tower 3 c.tower_of.new.lines c.in_ok-steps.steps.items c.in_ok-steps.ensures.read in
    record { lawful = and_from (is_lawful_tower c.in_ok-tower.tower) (list_all (may_have v c.in_ok-tower.tower) c.in_ok-steps.steps.items) c.in_ok-tower.ensures.lawful steps.fit }
