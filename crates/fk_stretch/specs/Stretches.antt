-- Stretches: instructions of a thread on the pages of its space where they stand.
use Rattle.std.specs.Prelude.{◌≡◌, ℕ, ◌/◌, ◌%◌, true, List, Some, IsSome, slice_index, slice_set}
use Rattle.fk_model.specs.declared.limits.TheConstants.{PAGE_WORDS}
use Rattle.fk_model.specs.declared.thread.Thread.{Thread as StoredThread}
use Rattle.fk_model.specs.Holds.{is_free}
use Rattle.fk_model.specs.Objects.{Thread}
use Rattle.fk_model.specs.Objects.Mode.{Running as RunsWith}
use Rattle.fk_model.specs.Places.{Path, parent}
use Rattle.fk_model.specs.Searches.{thread_at}
use Rattle.fk_model.specs.Valid.{IsPaged}
use Rattle.fk_model.specs.World.{World, apply}
use Rattle.fk_model.specs.World.Change.{Alter, PutPage}
use Rattle.fk_model.specs.World.Edit.{Proceed}
use Rattle.fk_store.specs.Store.Bodies.{mode_by}
use Rattle.laws_bursts.specs.Bursts.{Burst, instructed, made, store, with_page}
use Rattle.laws_bursts.specs.Laws.{IsWhereItBegan, HasPages, committed}
use Rattle.fk_stretch.specs.declared.running.Running.{Running}
use Rattle.fk_stretch.specs.declared.running.Rest.{Rest}
use Rattle.fk_stretch.specs.declared.running.Rest.TheVariants as rests

-- the burst that a thread with these words is in a world: it has all pages of its space, and may have used each of them
abbrev pub burst_in : World → Path → Running → Burst
burst_in w space t = record { registers = t.registers; counter = t.counter; page = λ page. w.page space page; used = λ page. true }

-- ---- one instruction

-- the word at an address of a space, whose page is there
pub record HasWord (w : World) (space : Path) (address word : ℕ) : Type 0 where
  pub words : List ℕ
  pub there : w.page space (address / PAGE_WORDS) ≡ Some words
  pub is : word ≡ slice_index words (address % PAGE_WORDS)

-- it got a value
pub record IsWritten (w : World) (space : Path) (address value : ℕ) (v : World) : Type 0 where
  pub words : List ℕ
  pub there : w.page space (address / PAGE_WORDS) ≡ Some words
  pub becomes : v ≡ apply (PutPage space (address / PAGE_WORDS) (slice_set words (address % PAGE_WORDS) value)) w

-- the next instruction of a burst stores a value at an address
abbrev pub StoresNext : Burst → ℕ → ℕ → Type 0
StoresNext b address value = instructed b ≡ with_page (address / PAGE_WORDS) (store address value) b

-- an instruction was made where nothing is left to be done, and what is left is said where it stores; else nothing was made
abbrev pub IsBegun : Burst → Burst → Rest → Type 0
IsBegun b c rests.Nothing = instructed b ≡ Some c
IsBegun b c (rests.Stores address value) = (c ≡ b) × StoresNext b address value
IsBegun b c (rests.Loads register address) = c ≡ b
IsBegun b c (rests.Halts code) = c ≡ b
IsBegun b c rests.Calls = c ≡ b

-- ---- several

-- pages of a space that are there have got other words, one after the other
pub data Rewrites (space : Path) (w : World) : World → Type 0 where
  Stays : Rewrites space w w
  Writes : (u v : World) (page : ℕ) (words : List ℕ) → Rewrites space w u → IsSome (u.page space page) → v ≡ apply (PutPage space page words) u →
      Rewrites space w v

-- a thread in the store runs with these words
pub record RunsSo (t : StoredThread) (r : Running) : Type 0 where
  pub mode : mode_by t.mode t.regs ≡ RunsWith r.registers
  pub counter : t.pc ≡ r.counter

-- so many instructions of the thread at a path, which runs and is free to, lead from one world to another
pub record IsStretch (w : World) (x : Path) (n : ℕ) (v : World) : Type 0 where
  pub thread : Thread
  pub there : thread_at w x ≡ Some thread
  pub free : is_free w (parent x) thread ≡ true
  pub from : Running
  pub to : Running
  pub mode : thread.mode ≡ RunsWith from.registers
  pub counter : thread.counter ≡ from.counter
  -- the world with the pages that they wrote
  pub middle : World
  pub rewrites : Rewrites (parent x) w middle
  pub makes : made n (burst_in w (parent x) from) ≡ Some (burst_in middle (parent x) to)
  pub goes : v ≡ apply (Alter x (Proceed (RunsWith to.registers) to.counter)) middle

-- so many instructions of a burst that begins where the thread at a path stands, which is free, lead from one world to another
pub record IsBurst (w : World) (x : Path) (n : ℕ) (v : World) : Type 0 where
  pub from : Burst
  pub to : Burst
  pub paged : IsPaged w
  pub began : IsWhereItBegan w x from
  pub makes : made n from ≡ Some to
  pub pages : HasPages w x to from
  pub becomes : v ≡ committed w x to
