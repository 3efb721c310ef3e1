-- Lones: a thread that runs beside the store that has its memory.
use Rattle.std.proofs.Common.{◌≡◌, ℕ, ◌<◌, ◌/◌, ◌%◌, Bool, true, false, cond, ◌==◌, List, [], length, Option, Some, None, IsSome, is_some, unwrap_or}
use Rattle.std.proofs.Common.{slice_index, slice_set, refl, sym, ap, subst, ◌∙◌}
use Rattle.std.proofs.lemmas.List.{length-set}
use Rattle.fk_model.specs.declared.thread.Thread as threads_of
use Rattle.fk_model.specs.Objects.{Thread, holds}
use Rattle.fk_model.specs.Places.{same_path}
use Rattle.fk_model.specs.World.{World, apply, apply_all}
use Rattle.fk_model.specs.World.Change.{Alter, PutPage}
use Rattle.fk_model.specs.World.Edit.{Proceed}
use Rattle.fk_model.specs.Reach.{words_at}
use Rattle.fk_model.specs.Searches.{thread_at}
use Rattle.fk_store_graph.specs.Leads.Names.{at}
use Rattle.fk_store.specs.Store.Contents.{Contents}
use Rattle.fk_store.specs.Store.Bodies.{mode_by, thread_by}
use Rattle.fk_store.specs.Store.Paths.{path, place}
use Rattle.fk_store.specs.Store.World.{world, IsSpace}
use Rattle.fk_store.proofs.InStore.finding.Walks.{path-root}
use Rattle.fk_lone.specs.LoneThread.{alone, is_in_no_call, IsAlone, code_of, memory_of, lone_mode, state_by, state_of}
use Rattle.fk_lone.specs.Machine.{State}
use Rattle.fk_lone.proofs.Joined.{joined-same, page_low, word_of, word_set}
use Rattle.fk_lone.proofs.LoneSteps.{IsMachine, there, goes_on, read-registers}

abbrev pub machine_of : List ℕ → ℕ → Option ℕ → List ℕ → State
machine_of registers counter halted memory = record { registers = registers; counter = counter; halted = halted; memory = memory }

module _ (m : Contents) (is : IsAlone (world m)) where
  -- the root is there, and each of its pages
  pub root_there : IsSpace m 0
  unfolding world
  root_there = rw (path-root m) refl

  pub page_there : (page : ℕ) → page < 256 → IsSome ((world m).page (path m 0) page)
  page_there page low = rw (path-root m) (there (world m) page (is.pages page low))

  pub page_never_none : (page : ℕ) → page < 256 → None ≡ (world m).page (path m 0) page → ⊥
  page_never_none page low none =
      let some : is_some ((world m).page [] page) ≡ true = there (world m) page (is.pages page low) in
      let here : None ≡ (world m).page [] page = rw (path-root m) at none in
      let no = rw (← here) at some in
      absurd (cc)

  -- a word of a page that is there is that of the memory
  pub word_there : (address : ℕ) (words : List ℕ) → address < 16384 →
      Some words ≡ (world m).page (path m 0) (address / 64) → slice_index words (address % 64) ≡ slice_index (memory_of (world m)) address
  word_there address words low stands =
      let here : Some words ≡ (world m).page [] (address / 64) = rw (path-root m) at stands in
      ap (λ o. slice_index (unwrap_or o []) (address % 64)) here ∙ sym (word_of (words_at (world m) []) is.pages address low)

  -- a word of the memory is written
  pub written : (n : Contents) (address value : ℕ) → address < 16384 →
      world n ≡ apply (PutPage (path m 0) (address / 64) (slice_set (words_at (world m) (path m 0) (address / 64)) (address % 64) value)) (world m) →
      IsAlone (world n) × (memory_of (world n) ≡ slice_set (memory_of (world m)) address value)
  unfolding apply same_path
  written n address value low made = subst (λ w. IsAlone w × (memory_of w ≡ slice_set (memory_of (world m)) address value))
      (sym same) (record { thread = is.thread; pages = long }, memory)
    where
      page : ℕ
      page = address / 64

      words : List ℕ
      words = slice_set (words_at (world m) [] page) (address % 64) value

      after : World
      after = apply (PutPage [] page words) (world m)

      same : world n ≡ after
      same = made ∙ rw (path-root m) refl

      at_page : (other : ℕ) → words_at after [] other ≡ cond (other == page) words (words_at (world m) [] other)
      at_page other = by (other == page)
        where
          by : (t : Bool) → unwrap_or (cond t (Some words) ((world m).page [] other)) [] ≡ cond t words (words_at (world m) [] other)
          by true = refl
          by false = refl

      long : (other : ℕ) → other < 256 → length (words_at after [] other) ≡ 64
      long other less = ap length (at_page other) ∙ by (other == page)
        where
          by : (t : Bool) → length (cond t words (words_at (world m) [] other)) ≡ 64
          by true = length-set (words_at (world m) [] page) (address % 64) value ∙ is.pages page (page_low (words_at (world m) []) is.pages address low)
          by false = is.pages other less

      memory : memory_of after ≡ slice_set (memory_of (world m)) address value
      memory = joined-same 256 (words_at after []) _ (λ other less. at_page other) ∙ sym (word_set (words_at (world m) []) is.pages address low value)

  -- the thread is put back
  pub back : (n : Contents) (halted : Option ℕ) (registers : List ℕ) (counter : ℕ) →
      world n ≡ apply (Alter (place (path m) (at 0 0)) (Proceed (lone_mode halted registers) counter)) (world m) →
      IsAlone (world n) × (state_of (world n) ≡ machine_of registers counter halted (memory_of (world m)))
  unfolding apply_all
  back n halted registers counter made = by (thread_at (world m) alone) refl is.thread
    where
      gone_on : (t : Thread) → thread_at (world m) alone ≡ Some t → (halted : Option ℕ) →
          world n ≡ apply (Alter alone (Proceed (lone_mode halted registers) counter)) (world m) →
          IsMachine (world n) (machine_of registers counter halted (memory_of (world m)))
      gone_on t stands None made = rw made (goes_on (world m) t stands is.pages (lone_mode None registers) counter refl)
      gone_on t stands (Some code) made = rw made (goes_on (world m) t stands is.pages (lone_mode (Some code) registers) counter refl)

      by : (o : Option Thread) → thread_at (world m) alone ≡ o → holds (λ (t : Thread). is_in_no_call t.mode) o ≡ true →
          IsMachine (world n) (machine_of registers counter halted (memory_of (world m)))
      by None stands idle = absurd (cc)
      by (Some t) stands idle = gone_on t stands halted (rw (path-root m) at made)

  -- the thread is taken out
  pub out : (t : threads_of.Thread) (halted : Option ℕ) →
      Some (thread_by (path m) t) ≡ thread_at (world m) (place (path m) (at 0 0)) →
      halted ≡ code_of (mode_by t.mode t.regs) → machine_of t.regs t.pc halted (memory_of (world m)) ≡ state_of (world m)
  unfolding state_of
  out t halted stands code = rw code (
      ap (λ g. machine_of g t.pc (code_of (mode_by t.mode t.regs)) memory) (read-registers m is t stands)
      ∙ subst (λ o. machine_of (state_by memory o).registers t.pc (code_of (mode_by t.mode t.regs)) memory ≡ state_by memory o) here refl
      )
    where
      memory : List ℕ
      memory = memory_of (world m)

      here : Some (thread_by (path m) t) ≡ thread_at (world m) alone
      here = rw (path-root m) at stands
