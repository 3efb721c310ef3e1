use Rattle.std.proofs.Common.{◌≡◌, ◌++◌, drop, string_bytes}
use Rattle.std.specs.List.{flat_map}
use Rattle.fk_report.specs.Report as definitions
use Rattle.fk_report.proofs.report.push_outs.Given as goal

abbrev pub invariant-loop-service : goal.invariant-loop-service
invariant-loop-service g l =
    string_bytes l.text ++ flat_map definitions.out_line (definitions.states g.S.Service.meaning (drop l.service-index l.services))
    ≡ string_bytes l.fn.text ++ flat_map definitions.out_line (definitions.states g.S.Service.meaning l.services)
