-- Kept: what holds of every store.
use Rattle.std.specs.Prelude.{◌≡◌, ℕ, ◌<◌, Bool, true, List, length, Some, is_some}
use Rattle.fk_model.specs.declared.limits.TheConstants.{PAGE_WORDS}
use Rattle.std.specs.FinMap.{get}
use Rattle.fk_model.specs.declared.names.Who.{Who}
use Rattle.fk_model.specs.declared.body.Body.{Body}
use Rattle.fk_model.specs.declared.body.Body.TheVariants.{Mutex, Cond, Mapping, Region, Port, Portset, Space, Thread, Reference}
use Rattle.fk_model.specs.declared.thread.Mode.{Mode}
use Rattle.fk_model.specs.declared.thread.Mode.TheVariants as modes
use Rattle.fk_model.specs.Calls.{todo_of}
use Rattle.fk_model.specs.Records.{is_page_range}
use Rattle.fk_store.specs.Store.Contents.{Contents, birth_there, home, is_live}
use Rattle.fk_store.specs.Store.Named.{OnNamed}

-- an object stands there
abbrev pub is_there : Contents → Who → Bool
is_there m who = is_some (get m.bodies who)

-- a calling thread's first register holds the code of a call
abbrev pub HasCall : Mode → List ℕ → Type 0
HasCall modes.Running g = Unit {0}
HasCall modes.Calling g = is_some (todo_of g) ≡ true
HasCall (modes.Halted code) g = Unit {0}
HasCall modes.Native g = Unit {0}

-- the pages of a mapping or a region are pages that a space has, and a thread has its 16 registers, and a call's code where it calls
abbrev pub IsSized : Body → Type 0
IsSized (Mutex locked) = Unit {0}
IsSized Cond = Unit {0}
IsSized (Mapping first count offset write region) = is_page_range first count ≡ true
IsSized (Region first count write keeper) = is_page_range first count ≡ true
IsSized (Port set served) = Unit {0}
IsSized Portset = Unit {0}
IsSized (Space birth holder) = Unit {0}
IsSized (Thread thread) = (length thread.regs ≡ 16) × HasCall thread.mode thread.regs
IsSized (Reference to) = Unit {0}

pub record IsWellFormed (m : Contents) : Type 0 where
  -- the root is born
  pub begun : 0 < m.next
  -- no two spaces have one birth number
  pub alone : (who : Who) (n : ℕ) → birth_there m who ≡ Some n → home m n ≡ Some who
  -- a space is younger than the one in which it lies, and is born
  pub younger : (who : Who) (n : ℕ) → birth_there m who ≡ Some n → who.space < n
  pub born : (who : Who) (n : ℕ) → birth_there m who ≡ Some n → n < m.next
  -- each object stands in a slot of a live space, and each page belongs to one
  pub slots : (who : Who) → is_there m who ≡ true → who.slot < 256
  pub housed : (who : Who) → is_there m who ≡ true → is_live m who.space ≡ true
  pub paged : (space page : ℕ) → is_some (get m.pages (space, page)) ≡ true → is_live m space ≡ true
  -- what a body names is there
  pub leads : (who : Who) (b : Body) → get m.bodies who ≡ Some b → OnNamed (λ other. is_there m other ≡ true) b
  pub sized : (who : Who) (b : Body) → get m.bodies who ≡ Some b → IsSized b
  -- a page has all its words
  pub full : (space page : ℕ) (words : List ℕ) → get m.pages (space, page) ≡ Some words → length words ≡ PAGE_WORDS
