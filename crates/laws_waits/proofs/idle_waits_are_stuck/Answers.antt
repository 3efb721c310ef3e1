use Rattle.laws_waits.proofs.Found.{idle_waits_lem, unheld_waits_lem}
use Rattle.laws_waits.proofs.idle_waits_are_stuck.Goals as goal

pub returns-clause-held : goal.returns-clause-held
returns-clause-held c = idle_waits_lem

pub returns-clause-unheld : goal.returns-clause-unheld
returns-clause-unheld c = unheld_waits_lem
