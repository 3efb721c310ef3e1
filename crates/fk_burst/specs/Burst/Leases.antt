-- Leases: who may be leased, and with what a lease begins.
use Rattle.std.specs.Prelude.{◌≡◌, ℕ, ◌-◌, ◌^◌, min, true, None, Some}
use Rattle.fk_model.specs.declared.moves.Ask.TheVariants as asks
use Rattle.fk_model.specs.declared.names.Who.{Who}
use Rattle.fk_model.specs.Moves.{IsReady}
use Rattle.fk_model.specs.Objects.{Thread}
use Rattle.fk_model.specs.Objects.Mode.{Running}
use Rattle.fk_model.specs.Places.{Path, parent}
use Rattle.fk_model.specs.Searches.{thread_at}
use Rattle.fk_model.specs.Who.{named}
use Rattle.fk_model.specs.World.{World}
use Rattle.fk_model.specs.declared.thread.Thread.{Thread as StoredThread}
use Rattle.fk_plans.specs.Plans.Effects.{is_running}
use Rattle.fk_store.specs.Store.Bodies.{thread_by}
use Rattle.fk_store.specs.Store.Contents.{Contents}
use Rattle.fk_store.specs.Store.Paths.{path, place}
use Rattle.fk_store.specs.Store.World.{world}
use Rattle.laws_bursts.specs.Bursts.{Burst}
use Rattle.fk_burst.specs.Copies.Copies.{burst_of, begun}
use Rattle.fk_burst.specs.Burst.Lease.{Lease}

-- the thread of this name is ready in running mode
abbrev pub IsReadyToRun : World → Who → Type 0
IsReadyToRun w who = (is_running (thread_at w (named w who)) ≡ true) × IsReady w (named w who) None asks.Run

-- the thread at a path runs with a burst's registers at its counter
pub record HasWords (w : World) (x : Path) (b : Burst) : Type 0 where
  pub thread : Thread
  pub there : thread_at w x ≡ Some thread
  pub mode : thread.mode ≡ Running b.registers
  pub counter : thread.counter ≡ b.counter

-- so much is copied of the thread in a slot of a store
pub record IsCopied (m : Contents) (who : Who) (l : Lease) : Type 0 where
  pub there : StoredThread
  pub is : Some (thread_by (path m) there) ≡ thread_at (world m) (place (path m) who)
  pub thread : l.thread ≡ who
  pub taken : burst_of l.taken ≡ begun (world m) (path m who.space) there.regs there.pc
  pub copy : l.copy ≡ l.taken
  pub count : l.count ≡ 0

-- a lease that begins: a copy of the thread's words and of the pages near its counter
pub record IsLeased (w : World) (who : Who) (l : Lease) : Type 0 where
  pub thread : l.thread ≡ who
  pub words : HasWords w (named w who) (burst_of l.taken)
  pub pages : burst_of l.taken ≡ begun w (parent (named w who)) (burst_of l.taken).registers (burst_of l.taken).counter
  pub copy : l.copy ≡ l.taken
  pub count : l.count ≡ 0

-- the most instructions of a run: 64, or as many as a count of 64 bits has room for
abbrev pub most : ℕ → ℕ
most count = min 64 (2 ^ 64 - 1 - count)
