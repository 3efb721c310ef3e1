-- Lones: the machine that a thread is which runs beside the world that has its memory.
use Rattle.fk_model.specs.World.{World}
use Rattle.fk_lone.specs.declared.lone.Lone.{Lone}
use Rattle.fk_lone.specs.LoneThread.{memory_of}
use Rattle.fk_lone.specs.Machine.{State}

-- a lone thread with the memory of a world
abbrev pub lone_state : World → Lone → State
lone_state w lone = record { registers = lone.registers; counter = lone.counter; halted = lone.halted; memory = memory_of w }
