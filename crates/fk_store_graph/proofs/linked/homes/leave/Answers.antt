use Rattle.std.proofs.Common.{Some, refl, sym, ap, ◌∙◌, arith}
use Rattle.fk_store_graph.proofs.InLinked.HomeLaws.{left_homes, left_marks, empty_cell}
use Rattle.fk_store_graph.proofs.InLeads.ProceedLaws.{none-of}
use Rattle.fk_store_graph.proofs.linked.homes.leave.Goals as goal

pub settle-requires : goal.settle-requires
settle-requires c = λ n is. c.requires.low n (c.in-Some.is ∙ is)

pub clear-requires : goal.clear-requires
clear-requires c = record { empty = λ k. empty_cell c.args.objects.now c.in-Some.birth k (λ q in_it. c.requires.empty c.in-Some.birth q c.in-Some.is in_it) }

pub returns-in-Some-clause-homes : goal.returns-in-Some-clause-homes
returns-in-Some-clause-homes c = λ n. left_homes c.args.birth c.in-Some.birth _ _ c.in-Some.is c.settle.ensures n

pub returns-in-Some-clause-marks : goal.returns-in-Some-clause-marks
returns-in-Some-clause-marks c = λ s m. left_marks c.args.objects.now c.clear.new.self c.args.birth c.in-Some.birth c.in-Some.is c.clear.ensures.marks s m

pub returns-in_default-clause-homes : goal.returns-in_default-clause-homes
returns-in_default-clause-homes c = λ n. rw (none-of c.args.birth c.in_default.not-Some) refl

pub returns-in_default-clause-marks : goal.returns-in_default-clause-marks
returns-in_default-clause-marks c = λ s m. rw (none-of c.args.birth c.in_default.not-Some) refl
