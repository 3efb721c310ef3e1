-- Threads: what becomes of a thread, or of a mutex, where it stands.
use Rattle.std.specs.Prelude.{ℕ, Bool, ◌+◌, List, Option, min, option_map}
use Rattle.fk_model.specs.declared.limits.TheConstants.{MOST_MOVED}
use Rattle.fk_model.specs.declared.body.Body.{Body}
use Rattle.fk_model.specs.declared.body.Body.TheVariants.{Mutex, Cond, Mapping, Region, Port, Portset, Space, Thread, Reference}
use Rattle.fk_model.specs.declared.thread.Fault.{Fault}
use Rattle.fk_model.specs.declared.thread.Mode.{Mode}
use Rattle.fk_model.specs.declared.thread.Talk.{Talk}
use Rattle.fk_model.specs.declared.thread.Thread.{Thread as State}
use Rattle.fk_model.specs.declared.thread.Turn.{Turn}

-- a change of a thread; what is no thread stays as it is
abbrev pub on_thread : (State → State) → Body → Body
on_thread f (Mutex locked) = Mutex locked
on_thread f Cond = Cond
on_thread f (Mapping first count offset write region) = Mapping first count offset write region
on_thread f (Region first count write keeper) = Region first count write keeper
on_thread f (Port set served) = Port set served
on_thread f Portset = Portset
on_thread f (Space birth holder) = Space birth holder
on_thread f (Thread thread) = Thread (f thread)
on_thread f (Reference to) = Reference to

-- a mutex is locked or unlocked; what is no mutex stays as it is
abbrev pub on_mutex : Bool → Body → Body
on_mutex locked (Mutex old) = Mutex locked
on_mutex locked Cond = Cond
on_mutex locked (Mapping first count offset write region) = Mapping first count offset write region
on_mutex locked (Region first count write keeper) = Region first count write keeper
on_mutex locked (Port set served) = Port set served
on_mutex locked Portset = Portset
on_mutex locked (Space birth holder) = Space birth holder
on_mutex locked (Thread thread) = Thread thread
on_mutex locked (Reference to) = Reference to

-- a thread that is at something else, with these registers and this counter
abbrev pub going : List ℕ → ℕ → Mode → State → State
going registers counter mode t = record t { regs = registers; pc = counter; mode = mode }

-- a talk that has moved so many words more
abbrev pub counted : ℕ → Talk → Talk
counted words talk = record talk { moved = min MOST_MOVED (talk.moved + words) }

-- a talk in which it is the turn of a side, and no words have been moved
abbrev pub passed : Turn → Talk → Talk
passed turn talk = record talk { turn = turn; moved = 0 }

-- a thread whose talk has moved so many words more
abbrev pub counting : ℕ → State → State
counting words t = record t { talk = option_map (counted words) t.talk }

-- a thread in whose talk it is this side's turn
abbrev pub passing : Turn → State → State
passing turn t = record t { talk = option_map (passed turn) t.talk }

-- a thread that is stopped so often
abbrev pub stopping : ℕ → State → State
stopping stops t = record t { stops = stops }

-- a thread with this fault, or with none
abbrev pub faulting : Option Fault → State → State
faulting fault t = record t { fault = fault }
