use Rattle.std.proofs.Common.{◌≡◌, ◌+◌, ◌%◌, ◌^◌, ◌<◌, sum, drop}
use Rattle.std.specs.List.{flat_map}
use Rattle.fk_natives.specs.Natives.{printed_by}
use Rattle.fk_report.specs.Report.{states}
use Rattle.fk_soak.proofs.line.sum_printed.Given as goal

abbrev pub invariant-loop-service : goal.invariant-loop-service
invariant-loop-service g l = (l.total < 2 ^ 64) × ((l.total + sum (flat_map printed_by (states g.S.Service.meaning (drop l.service-index l.services)))) % 2 ^ 64
    ≡ sum (flat_map printed_by (states g.S.Service.meaning l.services)) % 2 ^ 64)
