-- Alone: a world with one thread in slot 0 of the root, and the machine that it is.
use Rattle.std.specs.Prelude.{◌≡◌, ℕ, zero, suc, ◌<◌, ◌*◌, Bool, true, false, ◌&&◌, nat_lt, List, [], ◌∷◌, ◌++◌, length, take, drop, Option, Some}
use Rattle.std.specs.Prelude.{None, if◌then◌else◌}
use Rattle.fk_model.specs.declared.limits.TheConstants.{PAGES, PAGE_WORDS}
use Rattle.fk_model.specs.Places.{Path, same_path}
use Rattle.fk_model.specs.Objects.{Mode, Thread, holds}
use Rattle.fk_model.specs.Objects.Mode.{Running, Calling, Halted, Native}
use Rattle.fk_model.specs.World.{World}
use Rattle.fk_model.specs.Reach.{words_at}
use Rattle.fk_store.specs.Store.World.{first_world}
use Rattle.fk_lone.specs.Machine.{State}
use Rattle.fk_model.specs.Searches.{thread_at}

-- where the thread stands
abbrev pub alone : Path
alone = 0 ∷ []

-- the thread runs or has halted
abbrev pub is_in_no_call : Mode → Bool
is_in_no_call (Running g) = true
is_in_no_call (Calling todo rest) = false
is_in_no_call (Halted g code) = true
is_in_no_call (Native g) = false

-- such a thread stands there, and each page of the root is there, with 64 words
pub record IsAlone (w : World) : Type 0 where
  pub thread : holds (λ (t : Thread). is_in_no_call t.mode) (thread_at w alone) ≡ true
  pub pages : (page : ℕ) → page < PAGES → length (words_at w [] page) ≡ PAGE_WORDS

abbrev pub registers_of : Mode → List ℕ
registers_of (Running g) = g
registers_of (Calling todo rest) = []
registers_of (Halted g code) = g
registers_of (Native g) = g

-- with what code a thread has halted, if it has
abbrev pub code_of : Mode → Option ℕ
code_of (Running g) = None
code_of (Calling todo rest) = None
code_of (Halted g code) = Some code
code_of (Native g) = None

-- the words of the first n pages, one page after the other
unfoldable pub joined : ℕ → (ℕ → List ℕ) → List ℕ
joined zero words = []
joined (suc n) words = joined n words ++ words n

-- the machine of a thread with these words in its memory
abbrev pub state_by : List ℕ → Option Thread → State
state_by memory None = record { registers = []; counter = 0; halted = None; memory = memory }
state_by memory (Some t) = record { registers = registers_of t.mode; counter = t.counter; halted = code_of t.mode; memory = memory }

-- the words of the root's pages
abbrev pub memory_of : World → List ℕ
memory_of w = joined PAGES (words_at w [])

-- the machine that the world is
unfoldable pub state_of : World → State
state_of w = state_by (memory_of w) (thread_at w alone)

-- the mode of a thread with these registers that runs, or has halted with a code
abbrev pub lone_mode : Option ℕ → List ℕ → Mode
lone_mode None g = Running g
lone_mode (Some code) g = Halted g code

-- page by page of these words
abbrev pub page_of : List ℕ → ℕ → List ℕ
page_of words page = take PAGE_WORDS (drop (page * PAGE_WORDS) words)

-- the root alone, with the first n pages of these words
unfoldable pub filled : ℕ → List ℕ → World
filled n words = record first_world { page = λ s page. if same_path s [] && nat_lt page n then Some (page_of words page) else None }
