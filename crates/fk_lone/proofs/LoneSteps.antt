-- Alone: an instruction over the store is an instruction of the machine.
use Rattle.std.proofs.Common.{◌≡◌, ℕ, ◌<◌, ◌/◌, ◌%◌, Bool, true, false, cond, nat_lt, ◌==◌, List, [], length, Option, Some, None, option_map, is_some}
use Rattle.std.proofs.Common.{unwrap_or, slice_index, slice_set, refl, sym, ap, ◌∙◌, arith}
use Rattle.std.proofs.lemmas.Bool.{ltb-true}
use Rattle.std.proofs.lemmas.List.{length-set}
use Rattle.fk_model.specs.declared.instruction.Act.{Act}
use Rattle.fk_model.specs.declared.instruction.Act.TheVariants.{Put, Jump, Load, Store, Halt, Call}
use Rattle.fk_model.specs.declared.thread.Mode as modes_of
use Rattle.fk_model.specs.declared.thread.Mode.TheVariants as modes
use Rattle.fk_model.specs.declared.thread.Thread as threads_of
use Rattle.fk_model.specs.Places.{same_path}
use Rattle.fk_model.specs.Instructions.{act, next}
use Rattle.fk_model.specs.Objects.{Mode, Thread, Body, thread_of, and_then, holds}
use Rattle.fk_model.specs.Objects.Mode.{Running, Calling, Halted, Native}
use Rattle.fk_model.specs.Objects.Body.{Mutex, Cond, Mapping, Region, Port, Portset, Space, Thread_of, Reference}
use Rattle.fk_model.specs.World.{World, edited, at_mode, apply, apply_all}
use Rattle.fk_model.specs.World.Edit.{Proceed}
use Rattle.fk_model.specs.Reach.{Reach, reach_word, words_at}
use Rattle.fk_model.specs.Reach.Reach.{Home}
use Rattle.fk_model.specs.Readers.{accessed}
use Rattle.fk_model.specs.Outcomes.{Outcome}
use Rattle.fk_model.specs.Moves.{stepped}
use Rattle.fk_model.specs.UserRows.{proceeds, halts_with, word_at, loads, stores, performs, executes, run_row_by}
use Rattle.fk_store_graph.specs.Leads.Names.{at}
use Rattle.fk_store.specs.Store.Contents.{Contents}
use Rattle.fk_store.specs.Store.Bodies.{mode_by, thread_by}
use Rattle.fk_store.specs.Store.Paths.{path, place}
use Rattle.fk_store.specs.Store.World.{world}
use Rattle.fk_store.proofs.InStore.finding.Walks.{path-root}
use Rattle.fk_store.proofs.InStore.changing.WordLaws.{reach_word_there}
use Rattle.fk_user.specs.Running.{run_in_mode, run_of_thread, run_at}
use Rattle.fk_lone.specs.LoneLaws.{no_call}
use Rattle.fk_lone.specs.LoneThread.{alone, is_in_no_call, IsAlone, registers_of, code_of, joined, memory_of, state_by, state_of}
use Rattle.fk_lone.specs.Machine as machines
use Rattle.fk_lone.specs.Machine.{State}
use Rattle.fk_lone.proofs.Joined.{joined-same, page_low, word_of, word_set}
use Rattle.fk_model.specs.Searches.{thread_at}

-- the thread once it has gone on
proceeded : (o : Option Body) (mode : Mode) (counter : ℕ) →
    and_then thread_of (option_map (edited (Proceed mode counter)) o) ≡ option_map (λ t. at_mode t mode counter) (and_then thread_of o)
unfolding edited
proceeded None mode counter = refl
proceeded (Some (Mutex locked)) mode counter = refl
proceeded (Some Cond) mode counter = refl
proceeded (Some (Mapping window)) mode counter = refl
proceeded (Some (Region extent)) mode counter = refl
proceeded (Some (Port set served)) mode counter = refl
proceeded (Some Portset) mode counter = refl
proceeded (Some (Space birth holder)) mode counter = refl
proceeded (Some (Thread_of t)) mode counter = refl
proceeded (Some (Reference to)) mode counter = refl

-- the world is alone, and is this machine
abbrev pub IsMachine : World → State → Type 0
IsMachine w s = IsAlone w × (state_of w ≡ s)

-- with another thread and the same pages
with_thread : (w : World) (t : Thread) → thread_at w alone ≡ Some t →
    is_in_no_call t.mode ≡ true → ((page : ℕ) → page < 256 → length (words_at w [] page) ≡ 64) → IsMachine w (state_by (memory_of w) (Some t))
unfolding state_of
with_thread w t there idle pages = (record { thread = rw there idle; pages = pages }, ap (state_by (joined 256 (words_at w []))) there)

-- a page that is there and has 64 words
pub there : (w : World) (page : ℕ) → length (words_at w [] page) ≡ 64 → is_some (w.page [] page) ≡ true
there w page long = by (w.page [] page) long
  where
    by : (o : Option (List ℕ)) → length (unwrap_or o []) ≡ 64 → is_some o ≡ true
    by None long = absurd (omega (arith, long))
    by (Some words) long = refl

-- where the word at an address is
reached : (w : World) (address : ℕ) (write : Bool) →
    ((page : ℕ) → page < 256 → length (words_at w [] page) ≡ 64) → address < 16384 → reach_word w [] address write ≡ Home [] (address / 64)
reached w address write pages low =
    sym (reach_word_there w [] address write low (there w (address / 64) (pages (address / 64) (page_low (words_at w []) pages address low))))

module _ (w : World) (t : Thread) (stands : thread_at w alone ≡ Some t) (pages : (page : ℕ) → page < 256 → length (words_at w [] page) ≡ 64) where
  -- the thread goes on
  pub goes_on : (mode : Mode) (counter : ℕ) → is_in_no_call mode ≡ true → IsMachine (stepped w (proceeds alone mode counter)).world
      (record { registers = registers_of mode; counter = counter; halted = code_of mode; memory = memory_of w })
  unfolding apply_all apply same_path
  goes_on mode counter idle =
      with_thread (stepped w (proceeds alone mode counter)).world
      (at_mode t mode counter) (proceeded (w.body alone) mode counter ∙ ap (option_map (λ t. at_mode t mode counter)) stands) idle pages

  -- a word is stored, and the thread goes on
  stored : (g : List ℕ) (counter address value : ℕ) → address < 16384 →
      IsMachine (stepped w (stores w alone g counter address value [] (address / 64))).world
      (record { registers = g; counter = next counter; halted = None; memory = slice_set (memory_of w) address value })
  unfolding apply_all apply same_path
  stored g counter address value low = (machine.0, machine.1 ∙ ap (λ memory. state_by memory (Some (at_mode t (Running g) (next counter)))) memory)
    where
      page : ℕ
      page = address / 64

      words : List ℕ
      words = slice_set (words_at w [] page) (address % 64) value

      after : World
      after = (stepped w (stores w alone g counter address value [] page)).world

      at : (other : ℕ) → words_at after [] other ≡ cond (other == page) words (words_at w [] other)
      at other = by (other == page)
        where
          by : (t : Bool) → unwrap_or (cond t (Some words) (w.page [] other)) [] ≡ cond t words (words_at w [] other)
          by true = refl
          by false = refl

      long : (other : ℕ) → other < 256 → length (words_at after [] other) ≡ 64
      long other less = ap length (at other) ∙ by (other == page) refl
        where
          by : (t : Bool) → other == page ≡ t → length (cond t words (words_at w [] other)) ≡ 64
          by true e = length-set (words_at w [] page) (address % 64) value ∙ pages page (page_low (words_at w []) pages address low)
          by false e = pages other less

      machine : IsMachine after (state_by (memory_of after) (Some (at_mode t (Running g) (next counter))))
      machine = with_thread after (at_mode t (Running g) (next counter))
          (proceeded (w.body alone) (Running g) (next counter) ∙ ap (option_map (λ t. at_mode t (Running g) (next counter))) stands) refl long

      memory : joined 256 (words_at after []) ≡ slice_set (joined 256 (words_at w [])) address value
      memory = joined-same 256 (words_at after []) _ (λ other less. at other) ∙ sym (word_set (words_at w []) pages address low value)

  -- what an act does
  acted : (g : List ℕ) (counter : ℕ) (a : Act) → IsMachine (stepped w (performs no_call w [] alone g counter a)).world
      (machines.apply (record { registers = g; counter = counter; halted = None; memory = memory_of w }) a)
  acted g counter (Put register value) = goes_on (Running (slice_set g register value)) (next counter) refl
  acted g counter (Jump to) = goes_on (Running g) to refl
  acted g counter (Halt code) = goes_on (Halted g code) counter refl
  acted g counter Call = goes_on (Running (slice_set g 0 1)) (next counter) refl
  acted g counter (Load register address) = by (nat_lt address 16384) refl
    where
      s : State
      s = record { registers = g; counter = counter; halted = None; memory = memory_of w }

      outcome : Reach → Outcome
      outcome r = accessed alone false (halts_with alone g counter) (loads w alone g counter register address) r

      by : (low : Bool) → nat_lt address 16384 ≡ low → IsMachine (stepped w (outcome (reach_word w [] address false))).world
          (cond low (machines.put s register (slice_index s.memory address)) (machines.halt s 2))
      by false high = rw high (goes_on (Halted g 2) counter refl)
      by true low =
          rw (reached w address false pages (ltb-true address 16384 low), word_of (words_at w []) pages address (ltb-true address 16384 low))
          (goes_on (Running (slice_set g register (word_at w [] (address / 64) address))) (next counter) refl)
  acted g counter (Store address value) = by (nat_lt address 16384) refl
    where
      s : State
      s = record { registers = g; counter = counter; halted = None; memory = memory_of w }

      outcome : Reach → Outcome
      outcome r = accessed alone true (halts_with alone g counter) (stores w alone g counter address value) r

      by : (low : Bool) → nat_lt address 16384 ≡ low → IsMachine (stepped w (outcome (reach_word w [] address true))).world
          (cond low (record s { memory = slice_set s.memory address value; counter = next s.counter }) (machines.halt s 2))
      by false high = rw high (goes_on (Halted g 2) counter refl)
      by true low = rw (reached w address true pages (ltb-true address 16384 low)) (stored g counter address value (ltb-true address 16384 low))

  -- what an instruction does
  instructed : (g : List ℕ) (counter : ℕ) → IsMachine (stepped w (run_row_by no_call w [] 0 g counter)).world
      (machines.instructed (record { registers = g; counter = counter; halted = None; memory = memory_of w }))
  unfolding run_row_by
  instructed g counter = by (nat_lt counter 16384) refl
    where
      s : State
      s = record { registers = g; counter = counter; halted = None; memory = memory_of w }

      outcome : Reach → Outcome
      outcome r = accessed alone false (halts_with alone g counter) (executes no_call w [] alone g counter) r

      by : (low : Bool) → nat_lt counter 16384 ≡ low → IsMachine (stepped w (outcome (reach_word w [] counter false))).world
          (cond low (machines.apply s (act (slice_index s.memory counter) g counter)) (machines.halt s 2))
      by false high = rw high (goes_on (Halted g 2) counter refl)
      by true low =
          rw (reached w counter false pages (ltb-true counter 16384 low), word_of (words_at w []) pages counter (ltb-true counter 16384 low))
          (acted g counter (act (word_at w [] (counter / 64) counter) g counter))

-- an instruction of the thread is one of the machine
pub run_at-machine : (w : World) → IsAlone w → IsMachine (stepped w (run_at no_call w alone)).world (machines.step (state_of w))
unfolding run_at state_of
run_at-machine w is = by (thread_at w alone) refl is.thread
  where
    in_mode : (t : Thread) (m : Mode) → thread_at w alone ≡ Some t → t.mode ≡ m → is_in_no_call m ≡ true →
        IsMachine (stepped w (run_in_mode no_call w alone t.counter m)).world
        (machines.step (record { registers = registers_of m; counter = t.counter; halted = code_of m; memory = memory_of w }))
    in_mode t (Running g) stands mode idle = instructed w t stands is.pages g t.counter
    in_mode t (Calling todo rest) stands mode idle = absurd (cc)
    in_mode t (Halted g code) stands mode idle = (
      is,
      ap (state_by (memory_of w)) stands
          ∙ ap (λ m. record { registers = registers_of m; counter = t.counter; halted = code_of m; memory = memory_of w }) mode,
    )
    in_mode t (Native g) stands mode idle = absurd (cc)

    by : (o : Option Thread) → thread_at w alone ≡ o → holds (λ (t : Thread). is_in_no_call t.mode) o ≡ true →
        IsMachine (stepped w (run_of_thread no_call w alone o)).world (machines.step (state_by (memory_of w) o))
    by None stands idle = absurd (cc)
    by (Some t) stands idle = in_mode t t.mode stands refl idle

-- ---- what is read of a store's thread

module _ (m : Contents) (is : IsAlone (world m)) where
  -- it is there
  pub never-none : None ≡ thread_at (world m) (place (path m) (at 0 0)) → ⊥
  never-none none =
      let nobody : None ≡ thread_at (world m) alone = rw (path-root m) at none in
      let no = rw (← nobody) at is.thread in
      absurd (cc)

  pub read-halted : (t : threads_of.Thread) →
      Some (thread_by (path m) t) ≡ thread_at (world m) (place (path m) (at 0 0)) → code_of (mode_by t.mode t.regs) ≡ (state_of (world m)).halted
  unfolding state_of
  read-halted t there = let stands : Some (thread_by (path m) t) ≡ thread_at (world m) alone = rw (path-root m) at there in
      ap (λ o. (state_by (memory_of (world m)) o).halted) stands

  pub read-registers : (t : threads_of.Thread) →
      Some (thread_by (path m) t) ≡ thread_at (world m) (place (path m) (at 0 0)) → t.regs ≡ (state_of (world m)).registers
  unfolding state_of
  read-registers t there = by t.mode refl ∙ ap (λ o. (state_by (memory_of (world m)) o).registers) stands
    where
      stands : Some (thread_by (path m) t) ≡ thread_at (world m) alone
      stands = rw (path-root m) at there

      idle : is_in_no_call (mode_by t.mode t.regs) ≡ true
      idle = rw (← stands) at is.thread

      by : (mode : modes_of.Mode) → t.mode ≡ mode → t.regs ≡ registers_of (mode_by mode t.regs)
      by modes.Running e = refl
      by modes.Calling e = let no = rw e at idle in absurd (cc)
      by (modes.Halted code) e = refl
      by modes.Native e = refl
