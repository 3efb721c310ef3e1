use Rattle.std.proofs.Common.{[], refl}
use Rattle.laws_runs.specs.Cores.IsRun.{Begins}
use Rattle.fk_core.specs.Cores.Cores.{core_at}
use Rattle.fk_core.proofs.cores.turns.Core.new.Goals as goal

pub returns-clause-begins : goal.returns-clause-begins
returns-clause-begins g c = λ nesters sound ends work. record {
  first = core_at c.args.kernel c.of.result.list c.args.jobs 0;
  past = [];
  run = Begins;
  begins = record { nesters = nesters; sound = sound; ends = ends; work = work; events = refl };
}
