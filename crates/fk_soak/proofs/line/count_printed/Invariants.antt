use Rattle.std.proofs.Common.{◌≡◌, ◌+◌, ◌%◌, ◌^◌, length, drop}
use Rattle.std.specs.List.{flat_map}
use Rattle.fk_natives.specs.Natives.{printed_by}
use Rattle.fk_report.specs.Report.{states}
use Rattle.fk_soak.proofs.line.count_printed.Given as goal

abbrev pub invariant-loop-service : goal.invariant-loop-service
invariant-loop-service g l = (l.count + length (flat_map printed_by (states g.S.Service.meaning (drop l.service-index l.services)))) % 2 ^ 64
    ≡ length (flat_map printed_by (states g.S.Service.meaning l.services)) % 2 ^ 64
