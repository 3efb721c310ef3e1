use Rattle.std.proofs.Common.{◌≡◌, ◌++◌, drop, string_bytes}
use Rattle.fk_runs.specs.Recordings.Written as definitions
use Rattle.fk_trace.specs.Posts.{seen}
use Rattle.fk_runs.proofs.recordings.texts.record_text.Given as goal

-- the text so far, and the lines of the servers that are left
abbrev pub invariant-loop-service : goal.invariant-loop-service
invariant-loop-service l = record {
  text : string_bytes l.text ++ definitions.lines_from l.ports l.place (seen (drop l.service-index l.services))
      ≡ definitions.written_of l.ports (seen l.services);
  small : definitions.AreSmallTaps (seen (drop l.service-index l.services)) → definitions.AreSmallTaps (seen l.services);
}
