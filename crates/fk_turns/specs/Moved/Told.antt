-- Told: what is told of a move of the machine, and what it leaves of a store's user threads.
use Rattle.std.specs.Prelude.{◌≡◌, ◌≤◌, ◌||◌, ◌&&◌, ℕ, Bool, true, false, not, List, ◌∷◌, Option, Some, None, is_none, if◌then◌else◌}
use Rattle.fk_model.specs.declared.moves.Ask.{Ask}
use Rattle.fk_model.specs.declared.moves.Ask.TheVariants as asks
use Rattle.fk_model.specs.declared.names.Who.{Who}
use Rattle.fk_model.specs.Moves.{outcome, step, IsReady}
use Rattle.fk_model.specs.Objects.{Mode, Thread, holds}
use Rattle.fk_model.specs.Objects.Mode.{Calling, Halted, Native, Running}
use Rattle.fk_model.specs.Outcomes.{Outcome, listed}
use Rattle.fk_model.specs.Places.{Path, same_path}
use Rattle.fk_model.specs.Searches.{depth, thread_at}
use Rattle.fk_model.specs.Valid.{is_fit, IsValid}
use Rattle.fk_model.specs.Who.{space_born}
use Rattle.fk_model.specs.World.{Change}
use Rattle.fk_model.specs.World.Change.{Move}
use Rattle.fk_store.specs.Store.Contents.{Contents}
use Rattle.fk_store.specs.Store.Names.{at}
use Rattle.fk_store.specs.Store.Paths.{path, place}
use Rattle.fk_store.specs.Store.World.{world, place_of}
use Rattle.fk_turns.specs.Moved.Kept.{is_user_at}
use Rattle.fk_turns.specs.Moved.Moved.{now_named, IsMoved}
use Rattle.fk_waits.specs.Causes.Names.{is_same}
use Rattle.fk_plans.specs.declared.wakes.touching.Touched.{Touched}
use Rattle.fk_plans.specs.declared.wakes.touching.Touched.TheVariants.{Few}
use Rattle.fk_plans.specs.Wakes.Touches.{is_touched, leave, MovesFirst}
use Rattle.fk_turns.specs.declared.whys.whys.Why.{Why}
use Rattle.fk_turns.specs.declared.whys.whys.Why.TheVariants as whys
use Rattle.fk_turns.specs.Whys.Whys.{IsWhy}
use Rattle.laws_moves.specs.Machine.Frame.{name_body}
use Rattle.laws_waits.specs.Touching.{is_reachable}

-- what a store holds, as its type keeps it
pub record IsStored (m : Contents) : Type 0 where
  pub valid : IsValid (world m)
  pub born : path m ≡ space_born (world m)
  pub few : (world m).next ≤ depth

-- what a mover's ask comes to
abbrev pub comes_to : Contents → Who → Option Path → Ask → Outcome
comes_to m mover pick ask = outcome (world m) (place_of m mover) pick ask

-- a fit move that is ready leads from what one store holds to what another does
pub record IsMadeTo (m n : Contents) (mover : Who) (pick : Option Path) (ask : Ask) : Type 0 where
  pub fit : is_fit (world m) (place_of m mover) ask ≡ true
  pub ready : IsReady (world m) (place_of m mover) pick ask
  pub step : world n ≡ (step (world m) (place_of m mover) pick ask).world

-- all that it changes, makes and takes from its place is told
pub record IsToldOf (m : Contents) (mover : Who) (pick : Option Path) (ask : Ask) (touched : Touched) : Type 0 where
  pub names : (x : Path) → name_body (world m) (listed (comes_to m mover pick ask)) x ≡ true →
      (same_path x (place_of m mover) || is_touched (path m) touched x) ≡ true
  pub leaves : leave (path m) touched (listed (comes_to m mover pick ask)) ≡ true
  pub moves : MovesFirst (path m) touched (comes_to m mover pick ask)

-- then the lists have what they want
abbrev pub ToldMovesLeave : Type 0
ToldMovesLeave = (m n : Contents) (mover : Who) (pick : Option Path) (ask : Ask) (touched : Touched) → IsStored m → IsStored n →
    IsMadeTo m n mover pick ask → IsToldOf m mover pick ask touched → IsMoved m n mover touched

-- ---- an instruction

-- a thread runs
pub record IsRunning (m : Contents) (who : Who) : Type 0 where
  pub thread : Thread
  pub registers : List ℕ
  pub there : thread_at (world m) (place_of m who) ≡ Some thread
  pub mode : thread.mode ≡ Running registers

abbrev pub is_going : Mode → Bool
is_going (Running registers) = true
is_going (Calling todo rest) = false
is_going (Halted registers code) = false
is_going (Native registers) = false

-- it runs on, without a fault
abbrev pub runs_on_at : Contents → Who → Bool
runs_on_at n who = holds (λ (t : Thread). is_going t.mode && is_none t.fault) (thread_at (world n) (place_of n who))

-- it runs, or is at a stage at which no other thread reaches it
abbrev pub is_quiet_mode : Mode → Bool
is_quiet_mode (Running registers) = true
is_quiet_mode (Calling todo rest) = not (is_reachable (Calling todo rest))
is_quiet_mode (Halted registers code) = false
is_quiet_mode (Native registers) = false

-- so it is, without a fault
abbrev pub goes_quietly : Thread → Bool
goes_quietly t = is_quiet_mode t.mode && is_none t.fault

abbrev pub goes_quietly_at : Contents → Who → Bool
goes_quietly_at n who = holds goes_quietly (thread_at (world n) (place_of n who))

-- a move of one leaves the reason of every other, but of whom any change may free
pub record IsQuietTo (m n : Contents) (mover : Who) : Type 0 where
  pub quiet : (who : Who) (why : Why) → is_same mover who ≡ false → is_user_at m who ≡ true → (why ≡ whys.Barred → ⊥) →
      IsWhy (world m) (path m) (place_of m who) why → IsWhy (world n) (path n) (place_of n who) why

-- so does an instruction after which the thread runs on
abbrev pub ToldQuiet : Type 0
ToldQuiet = (m n : Contents) (mover : Who) (pick : Option Path) → IsStored m → IsStored n → IsMadeTo m n mover pick asks.Run →
    IsToldOf m mover pick asks.Run (Few None None None) → IsRunning m mover → runs_on_at n mover ≡ true → IsQuietTo m n mover

-- so does one after which it runs, or is at such a stage
abbrev pub EntersQuietly : Type 0
EntersQuietly = (m n : Contents) (mover : Who) (pick : Option Path) → IsStored m → IsStored n → IsMadeTo m n mover pick asks.Run →
    IsToldOf m mover pick asks.Run (Few None None None) → IsRunning m mover → goes_quietly_at n mover ≡ true → IsQuietTo m n mover

-- ---- names

-- the name of who moved, after the move: another slot of its space where the move gives it one
abbrev pub moved_name : (ℕ → Path) → Who → List Change → Who
moved_name p mover (Move x slot ∷ cs) = if same_path x (place p mover) then at mover.space slot else mover
moved_name p mover other = mover

abbrev pub name_after : Contents → Who → Option Path → Ask → Who
name_after m mover pick ask = moved_name (path m) mover (listed (comes_to m mover pick ask))

-- it is as is told
abbrev pub ToldNames : Type 0
ToldNames = (m : Contents) (mover : Who) (pick : Option Path) (ask : Ask) (touched : Touched) → IsStored m → is_fit (world m) (place_of m mover) ask ≡ true →
    IsReady (world m) (place_of m mover) pick ask → IsToldOf m mover pick ask touched → now_named mover touched ≡ name_after m mover pick ask
