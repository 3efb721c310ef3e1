use Rattle.std.proofs.Common.{◌≡◌, ◌++◌, drop, string_bytes}
use Rattle.std.specs.List.{flat_map}
use Rattle.fk_report.specs.Report as definitions
use Rattle.fk_report.proofs.report.push_threads.Given as goal

abbrev pub invariant-loop-thread : goal.invariant-loop-thread
invariant-loop-thread l =
    string_bytes l.text ++ flat_map definitions.thread_line (drop l.thread-index l.threads)
    ≡ string_bytes l.fn.text ++ flat_map definitions.thread_line l.threads
