use Rattle.std.proofs.Common.{◌∷◌, [], None, refl, arith}
use Rattle.fk_model.specs.Objects.Mode.{Running}
use Rattle.examples_moves.specs.Worked.{registers_from, filled_to}
use Rattle.examples_premises.specs.Premises.{premises, within}
use Rattle.examples_owed.specs.Owed.{talk_of_moved, fault_on_page}
use Rattle.examples_owed.proofs.Worlds.{savable-register, savable-counter, savable-moved, savable-missing, savable-word}
use Rattle.examples_owed.proofs.numbers_that_an_image_holds.Goals as goal

pub returns-clause-register : goal.returns-clause-register
returns-clause-register c = savable-register

pub returns-clause-register_above : goal.returns-clause-register_above
unfolding premises
returns-clause-register_above c = λ savable.
    let h = savable.numbers.registers (within 13)
    (record { mode = Running (registers_from (0x1_0000_0000_0000_0000 ∷ [])); counter = 0; stops = 0; talk = None; fault = None }) refl in cc

pub returns-clause-counter : goal.returns-clause-counter
returns-clause-counter c = savable-counter

pub returns-clause-counter_above : goal.returns-clause-counter_above
unfolding premises
returns-clause-counter_above c = λ savable.
    let h = savable.numbers.counters (within 13)
    (record { mode = Running (registers_from []); counter = 0x1_0000_0000_0000_0000; stops = 0; talk = None; fault = None }) refl in cc

pub returns-clause-word : goal.returns-clause-word
returns-clause-word c = savable-word

pub returns-clause-word_above : goal.returns-clause-word_above
unfolding premises
returns-clause-word_above c = λ savable. let h = savable.numbers.pages (within 6) 1 (filled_to 64 (0x1_0000_0000_0000_0000 ∷ [])) refl in cc

pub returns-clause-moved : goal.returns-clause-moved
returns-clause-moved c = savable-moved

pub returns-clause-moved_above : goal.returns-clause-moved_above
unfolding premises
returns-clause-moved_above c = λ savable. let h = savable.numbers.moved (within 13) (talk_of_moved 65536) refl in absurd (omega (arith, h))

pub returns-clause-missing : goal.returns-clause-missing
returns-clause-missing c = savable-missing

pub returns-clause-missing_above : goal.returns-clause-missing_above
unfolding premises
returns-clause-missing_above c = λ savable. let h = savable.numbers.missing (within 13) (fault_on_page 256) refl in absurd (omega (arith, h))
