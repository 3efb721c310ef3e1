use Rattle.fk_record_text.specs.Lines.{ArePorts}
use Rattle.lens_text.proofs.records.bad.ports_of.Given as goal

-- so far
abbrev pub invariant-loop-one : goal.invariant-loop-one
invariant-loop-one l = ArePorts l.ports
