use Rattle.std.proofs.Common.{rules, ◌≡◌, true, Ok, None}
use Rattle.words.specs.Words.{lines, after_next}
use Rattle.tower_file.specs.BenchSpelling.{bench_header, SpellsFront}
use Rattle.tower_file.specs.Reading.{first_foreign, has_header, tower_of}
use Rattle.tower_file.proofs.PassedFaults.{memory_only, known_fault}
use Rattle.tower_file.proofs.BenchFormat.{read_bench_is_lawful, spells_front}
use Rattle.tower_file.proofs.bench_reading.bench_of_lines.Goals as goal

pub returns-in_err-tower-clause-memory : goal.returns-in_err-tower-clause-memory
returns-in_err-tower-clause-memory c =
    known_fault c.from_residual.result _ _ c.from_residual.ensures.0 c.from_residual.ensures.1 (λ x h. h) _ c.in_err-tower.ensures.known

pub returns-in_err-limbs-clause-memory : goal.returns-in_err-limbs-clause-memory
returns-in_err-limbs-clause-memory c =
    let header : has_header bench_header (lines c.args.bytes.now) ≡ true = search rules in
    let tower : tower_of (after_next (lines c.args.bytes.now)) ≡ Ok c.in_ok-tower.tower = search rules in
    let following : c.tower_of.new.lines ≡ after_next (after_next (lines c.args.bytes.now)) = search rules in
    memory_only c.from_residual-in_err-limbs.result _ _ c.from_residual-in_err-limbs.ensures.0 c.from_residual-in_err-limbs.ensures.1 (λ x h. h) (first_foreign c.args.bytes.now ≡ None → SpellsFront c.args.bytes.now)
    (λ k plain. spells_front c.args.bytes.now c.in_ok-tower.tower c.tower_of.new.lines plain header tower following (c.in_err-limbs.ensures.memory k))

pub of_lawful-requires : goal.of_lawful-requires
of_lawful-requires c =
    record { lawful = read_bench_is_lawful c.in_ok-tower.tower 3 c.tower_of.new.lines c.in_ok-limbs.limbs.items c.in_ok-tower.ensures.lawful c.in_ok-limbs.ensures.read }
