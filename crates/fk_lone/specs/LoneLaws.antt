-- What the machine of `exec` has to do with the abstract machine.
use Rattle.std.specs.Prelude.{◌≡◌, ℕ, true, List, [], Option, None, is_none}
use Rattle.fk_model.specs.declared.moves.Ask.TheVariants as asks
use Rattle.fk_model.specs.declared.stage.Stage.{Stage}
use Rattle.fk_model.specs.Calls.{todo_of}
use Rattle.fk_model.specs.Holds.{is_free}
use Rattle.fk_model.specs.Moves as moves
use Rattle.fk_model.specs.Moves.{stepped}
use Rattle.fk_model.specs.Objects.{Thread, holds}
use Rattle.fk_model.specs.Searches.{thread_at}
use Rattle.fk_model.specs.World.{World}
use Rattle.fk_user.specs.Running.{run_at}
use Rattle.fk_lone.specs.LoneThread.{alone, IsAlone, registers_of, state_of}
use Rattle.fk_lone.specs.Machine.{step}

-- where there is no kernel, no registers name a call
abbrev pub no_call : List ℕ → Option (List Stage)
no_call g = None

-- the world after an instruction of the thread that stands alone, by the abstract machine's row of instructions
abbrev pub lone_move : World → World
lone_move w = (stepped w (run_at no_call w alone)).world

-- a thread that stands alone still does after its instruction
abbrev pub LoneMoveStaysAlone : Type 0
LoneMoveStaysAlone = (w : World) → IsAlone w → IsAlone (lone_move w)

-- which is one of the machine of `exec`
abbrev pub LoneMoveIsInstruction : Type 0
LoneMoveIsInstruction = (w : World) → IsAlone w → state_of (lone_move w) ≡ step (state_of w)

-- the thread is free to go on
abbrev pub IsFreeAlone : World → Type 0
IsFreeAlone w = holds (is_free w []) (thread_at w alone) ≡ true

-- its registers name no call
abbrev pub NamesNoCall : World → Type 0
NamesNoCall w = holds (λ (t : Thread). is_none (todo_of (registers_of t.mode))) (thread_at w alone) ≡ true

-- so is its move in the abstract machine, with all its calls
abbrev pub MachineMovesLone : Type 0
MachineMovesLone = (w : World) → IsAlone w → IsFreeAlone w → NamesNoCall w → (moves.step w alone None asks.Run).world ≡ lone_move w
