-- What bursts have to do with moves.
use Rattle.std.specs.Prelude.{◌≡◌, ℕ, true, ◌&&◌, List, [], ◌∷◌, replicate, Some, None, option_map, if◌then◌else◌}
use Rattle.fk_model.specs.declared.moves.Ask.TheVariants as asks
use Rattle.fk_model.specs.Holds.{is_free}
use Rattle.fk_model.specs.Moves.{step}
use Rattle.fk_model.specs.Objects.{Thread}
use Rattle.fk_model.specs.Objects.Mode.{Running}
use Rattle.fk_model.specs.Outcomes.Said.{Nothing}
use Rattle.fk_model.specs.Places.{Path, same_path, parent}
use Rattle.fk_model.specs.Runs.{Event, after, run, IsLegal}
use Rattle.fk_model.specs.Searches.{thread_at}
use Rattle.fk_model.specs.Valid.{IsPaged}
use Rattle.fk_model.specs.World.{World, at_path, edited}
use Rattle.fk_model.specs.World.Edit.{Proceed}
use Rattle.laws_bursts.specs.Bursts.{Burst, made}

-- the thread at a path is free, and runs with the burst's registers at its counter
pub record IsWhereItBegan (w : World) (x : Path) (b : Burst) : Type 0 where
  pub thread : Thread
  pub there : thread_at w x ≡ Some thread
  pub free : is_free w (parent x) thread ≡ true
  pub mode : thread.mode ≡ Running b.registers
  pub counter : thread.counter ≡ b.counter

-- the pages that c has used are in the thread's own space as b has them
abbrev pub HasPages : World → Path → Burst → Burst → Type 0
HasPages w x c b = (page : ℕ) → c.used page ≡ true → w.page (parent x) page ≡ b.page page

-- a world with what a burst has made of its thread, and of the pages that it has used
abbrev pub committed : World → Path → Burst → World
committed w x c = record (at_path x (option_map (edited (Proceed (Running c.registers) c.counter))) w) {
  page = λ s page. if same_path s (parent x) && c.used page then c.page page else w.page s page;
}

-- a move of the thread
abbrev pub move_of : Path → Event
move_of x = record { mover = x; pick = None; ask = asks.Run }

-- events tell nothing, each at its place
abbrev pub AreQuiet : World → List Event → Type 0
AreQuiet w [] = Unit {0}
AreQuiet w (e ∷ es) = ((step w e.mover e.pick e.ask).said ≡ Nothing) × AreQuiet (after w e) es

-- events lead from one world to another, each ready at its place, and tell nothing
pub record LeadQuietly (w : World) (es : List Event) (v : World) : Type 0 where
  pub legal : IsLegal w es
  pub quiet : AreQuiet w es
  pub world : run w es ≡ v

-- so many instructions of a burst are as many moves of its thread
abbrev pub BurstsAreMoves : Type 0
BurstsAreMoves = (w : World) (slot : ℕ) (space : Path) (n : ℕ) (b c : Burst) →
    IsPaged w → IsWhereItBegan w (slot ∷ space) b → made n b ≡ Some c → HasPages w (slot ∷ space) c b →
    LeadQuietly w (replicate n (move_of (slot ∷ space))) (committed w (slot ∷ space) c)
