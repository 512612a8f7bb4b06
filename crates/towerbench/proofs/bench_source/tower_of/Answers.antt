use Rattle.towerbench.proofs.Benches.{tower_lawful}
use Rattle.towerbench.proofs.bench_source.tower_of.Goals as goal

pub returns-clause-lawful : goal.returns-clause-lawful
returns-clause-lawful c = tower_lawful c.args.bench.now.tower c.args.bench.now.limbs c.args.bench.now.lawful
