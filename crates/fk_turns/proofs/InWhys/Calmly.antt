-- Calmly: an instruction after which a thread runs on, or is at a stage at which no other reaches it, touches no reason of another.
use Rattle.std.proofs.Common.{◌≡◌, ◌&&◌, ◌||◌, ◌/◌, ℕ, zero, suc, Bool, true, false, is_some, is_none, List, [], ◌∷◌, Option, Some, None, if◌then◌else◌}
use Rattle.std.proofs.Common.{refl, sym, ap, subst, ◌∙◌}
use Rattle.std.specs.Prelude.{nat_lt}
use Rattle.fk_model.specs.declared.instruction.Act.{Act}
use Rattle.fk_model.specs.declared.instruction.Act.TheVariants as acts_of
use Rattle.fk_model.specs.declared.limits.TheConstants.{MAPPINGS, PAGE_WORDS, SPACE_WORDS}
use Rattle.fk_model.specs.declared.moves.Ask.TheVariants as asks
use Rattle.fk_model.specs.declared.stage.Stage.{Stage}
use Rattle.fk_model.specs.Calls.{todo_of}
use Rattle.fk_model.specs.Holds.{is_free}
use Rattle.fk_model.specs.Instructions.{act}
use Rattle.fk_model.specs.Moves.{goes_on, outcome, step, stepped, user_move, with_pick}
use Rattle.fk_model.specs.Objects.{Body, Mode, Thread, Window, and_then, holds, thread_of}
use Rattle.fk_model.specs.Objects.Body.{Thread_of}
use Rattle.fk_model.specs.Objects.Mode.{Calling, Halted, Native, Running}
use Rattle.fk_model.specs.Outcomes.{Outcome, listed, when}
use Rattle.fk_model.specs.Outcomes.Outcome.{Goes, Refused, Waits}
use Rattle.fk_model.specs.Places.{Path, Ptr}
use Rattle.fk_model.specs.Reach.{Reach, at_home, followed, led_by, mapped, mapping_at, reach, reach_within, reach_word}
use Rattle.fk_model.specs.Reach.Reach.{Bad, Home, Missing}
use Rattle.fk_model.specs.Readers.{accessed, missed}
use Rattle.fk_model.specs.Searches.{thread_at}
use Rattle.fk_model.specs.UserRows.{enters, executes, halts_with, loads, performs, proceeds, run_row, run_row_by, stores, word_at}
use Rattle.fk_model.specs.World.{World, apply, apply_all, edited}
use Rattle.fk_model.specs.World.Change.{Alter}
use Rattle.fk_model.specs.World.Edit.{Proceed, SetFault}
use Rattle.fk_model.proofs.walks.PlaceLaws.{same_path_refl}
use Rattle.laws_moves.proofs.InMachine.safety.Reads.{body-thread_of}
use Rattle.fk_turns.specs.Moved.Told.{is_quiet_mode}
use Rattle.laws_waits.specs.Calm.{AreCalm, IsCalm}
use Rattle.laws_waits.specs.Touching.{is_reachable}

-- a thread runs or is at such a stage, and has no fault
abbrev pub is_on : Thread → Bool
is_on t = is_quiet_mode t.mode && is_none t.fault

-- ---- where a word is there is a page

abbrev IsThere : World → Reach → Type 0
IsThere w (Home s page) = is_some (w.page s page) ≡ true
IsThere w (Missing s page port) = Unit {0}
IsThere w Bad = Unit {0}

home_there : (w : World) (s : Path) (page : ℕ) (away : Reach) → IsThere w away → IsThere w (at_home (Home s page) away (w.page s page))
home_there w s page away there = by (w.page s page) refl
  where
    by : (o : Option (List ℕ)) → w.page s page ≡ o → IsThere w (at_home (Home s page) away o)
    by None e = there
    by (Some words) e = ap is_some e

mapped_there : (w : World) (go : Window → Reach) (missing : Reach) (o : Option Window) → IsThere w missing → ((m : Window) → IsThere w (go m)) →
    IsThere w (mapped go missing o)
mapped_there w go missing None here there = here
mapped_there w go missing (Some m) here there = there m

followed_there : (w : World) (go : Path → ℕ → Reach) (o : Option (Path × ℕ)) → ((s : Path) (page : ℕ) → IsThere w (go s page)) → IsThere w (followed go o)
followed_there w go None there = tt
followed_there w go (Some place) there = there place.0 place.1

within_there : (w : World) (n : ℕ) (s : Path) (page : ℕ) (write : Bool) → IsThere w (reach_within n w s page write)
unfolding reach_within
within_there w zero s page write = home_there w s page _ (mapped_there w (λ m. Bad) _ (mapping_at w s page) tt (λ m. tt))
within_there w (suc n) s page write =
    home_there w s page _ (mapped_there w _ _ (mapping_at w s page) tt
    (λ m. followed_there w _ (led_by w m page write m.region) (λ t other. within_there w n t other write)))

word_there : (w : World) (s : Path) (address : ℕ) (write : Bool) → IsThere w (reach_word w s address write)
unfolding reach
word_there w s address write = by (nat_lt address SPACE_WORDS)
  where
    by : (t : Bool) → IsThere w (if t then reach w s (address / PAGE_WORDS) write else Bad)
    by true = within_there w MAPPINGS s (address / PAGE_WORDS) write
    by false = tt

-- ---- an instruction

module _ (w : World) (me : Path) (t : Thread) (g : List ℕ) (there : thread_at w me ≡ Some t) (mode : t.mode ≡ Running g) where
  body_is : w.body me ≡ Some (Thread_of t)
  body_is = by (w.body me) refl there
    where
      by : (o : Option Body) → w.body me ≡ o → thread_at w me ≡ Some t → w.body me ≡ Some (Thread_of t)
      by None e h = let off = rw e at h in absurd (cc)
      by (Some b) e h = e ∙ ap (λ (c : Body). Some c) (body-thread_of b t (rw e at h))

  proceeded : (v : World) (m : Mode) (c : ℕ) → v.body me ≡ Some (Thread_of t) →
      holds is_on (thread_at (apply (Alter me (Proceed m c)) v) me) ≡ (is_quiet_mode m && is_none t.fault)
  unfolding apply edited
  proceeded v m c at = rw (same_path_refl me, at) refl

  faulted : (v : World) (f : _) → v.body me ≡ Some (Thread_of t) → holds is_on (thread_at (apply (Alter me (SetFault (Some f))) v) me) ≡ (is_quiet_mode t.mode && false)
  unfolding apply edited
  faulted v f at = rw (same_path_refl me, at) refl

  quiet : (v : World) (h : List ℕ) (c : ℕ) → v.body me ≡ Some (Thread_of t) → IsCalm v me (Alter me (Proceed (Running h) c))
  quiet v h c at = record {
    edit = Proceed (Running h) c;
    thread = t;
    is = refl;
    there = ap (and_then thread_of) at;
    quiet = rw mode refl;
    plain = (refl, refl, refl);
  }

  entering : (v : World) (todo : List Stage) (rest : List ℕ) (c : ℕ) → v.body me ≡ Some (Thread_of t) → is_reachable (Calling todo rest) ≡ false →
      IsCalm v me (Alter me (Proceed (Calling todo rest) c))
  entering v todo rest c at off = record {
    edit = Proceed (Calling todo rest) c;
    thread = t;
    is = refl;
    there = ap (and_then thread_of) at;
    quiet = rw (mode, off) refl;
    plain = (refl, refl, refl);
  }

  -- calm, where the thread runs on after it, or is at such a stage
  record Fine (o : Outcome) : Type 0 where
    calm : holds is_on (thread_at (stepped w o).world me) ≡ true → AreCalm w me (listed o)

  never_on : {X : Type 0} (b : Bool) → (b && false) ≡ true → X
  never_on true is = absurd (cc)
  never_on false is = absurd (cc)

  proceeds_fine : (m : Mode) (c : ℕ) → Fine (proceeds me m c)
  unfolding apply_all
  proceeds_fine (Running h) c = record { calm = λ after. (quiet w h c body_is, tt) }
  proceeds_fine (Calling todo rest) c = record { calm = λ after. by (is_reachable (Calling todo rest)) refl after }
    where
      by : (b : Bool) → is_reachable (Calling todo rest) ≡ b →
          holds is_on (thread_at (apply_all (Alter me (Proceed (Calling todo rest) c) ∷ []) w) me) ≡ true →
          AreCalm w me (Alter me (Proceed (Calling todo rest) c) ∷ [])
      by false e after = (entering w todo rest c body_is e, tt)
      by true e after =
          let off : false ≡ true = sym (proceeded w (Calling todo rest) c body_is ∙ rw e refl) ∙ after in absurd (cc)
  proceeds_fine (Halted h code) c = record { calm = λ after. let off : false ≡ true = sym (proceeded w (Halted h code) c body_is) ∙ after in absurd (cc) }
  proceeds_fine (Native h) c = record { calm = λ after. let off : false ≡ true = sym (proceeded w (Native h) c body_is) ∙ after in absurd (cc) }

  stores_fine : (counter address value : ℕ) (s : Path) (page : ℕ) → is_some (w.page s page) ≡ true → Fine (stores w me g counter address value s page)
  unfolding apply
  stores_fine counter address value s page present = record { calm = λ after. (present, (quiet _ g _ body_is, tt)) }

  missed_fine : (otherwise : Outcome) (page : ℕ) (write : Bool) (port : Option Ptr) → Fine otherwise → Fine (missed otherwise me page write port)
  unfolding apply_all
  missed_fine otherwise page write None fine = fine
  missed_fine otherwise page write (Some port) fine =
      record { calm = λ after. never_on (is_quiet_mode t.mode) (sym (faulted w (record { page = page; write = write; port = port; taker = None }) body_is) ∙ after) }

  access_fine : (write : Bool) (halts : ℕ → Outcome) (go : Path → ℕ → Outcome) (r : Reach) → IsThere w r → ((n : ℕ) → Fine (halts n)) →
      ((s : Path) (page : ℕ) → is_some (w.page s page) ≡ true → Fine (go s page)) → Fine (accessed me write halts go r)
  access_fine write halts go (Home s page) is stop moves = moves s page is
  access_fine write halts go (Missing s page port) is stop moves = missed_fine _ page write port (stop _)
  access_fine write halts go Bad is stop moves = stop _

  enters_fine : (counter : ℕ) (o : Option (List Stage)) → Fine (enters me g counter o)
  enters_fine counter None = proceeds_fine _ _
  enters_fine counter (Some todo) = proceeds_fine _ _

  performs_fine : (space : Path) (counter : ℕ) (a : Act) → Fine (performs todo_of w space me g counter a)
  performs_fine space counter (acts_of.Put register value) = proceeds_fine _ _
  performs_fine space counter (acts_of.Jump to) = proceeds_fine _ _
  performs_fine space counter (acts_of.Load register address) =
      access_fine false (halts_with me g counter) (loads w me g counter register address) (reach_word w space address false)
      (word_there w space address false) (λ n. proceeds_fine _ _) (λ s page is. proceeds_fine _ _)
  performs_fine space counter (acts_of.Store address value) =
      access_fine true (halts_with me g counter) (stores w me g counter address value) (reach_word w space address true)
      (word_there w space address true) (λ n. proceeds_fine _ _) (λ s page is. stores_fine counter address value s page is)
  performs_fine space counter (acts_of.Halt code) = proceeds_fine _ _
  performs_fine space counter acts_of.Call = enters_fine counter (todo_of g)

  when_fine : (b : Bool) (o : Outcome) → Fine o → Fine (when b o)
  when_fine true o fine = fine
  when_fine false o fine = record { calm = λ after. tt }

  picked_fine : (pick : Option Path) (o : Outcome) → Fine o → Fine (with_pick false pick o)
  picked_fine pick (Refused status) fine = when_fine (is_none pick) (Refused status) fine
  picked_fine pick Waits fine = fine
  picked_fine pick (Goes changes said) fine = when_fine (false || is_none pick) (Goes changes said) fine

run_fine : (w : World) (k : ℕ) (s : Path) (t : Thread) (g : List ℕ) (there : thread_at w (k ∷ s) ≡ Some t) (mode : t.mode ≡ Running g) (counter : ℕ) →
    Fine w (k ∷ s) t g there mode (run_row w s k g counter)
unfolding run_row_by
run_fine w k s t g there mode counter =
    access_fine w (k ∷ s) t g there mode false (halts_with (k ∷ s) g counter) (executes todo_of w s (k ∷ s) g counter) (reach_word w s counter false)
    (word_there w s counter false) (λ n. proceeds_fine w (k ∷ s) t g there mode _ _)
    (λ space page is. performs_fine w (k ∷ s) t g there mode s counter (act (word_at w space page counter) g counter))

-- an instruction after which the thread runs on, or is at such a stage, is calm
pub instructions_calm : (w : World) (k : ℕ) (s : Path) (pick : Option Path) (t : Thread) (g : List ℕ) → thread_at w (k ∷ s) ≡ Some t → t.mode ≡ Running g →
    holds is_on (thread_at (step w (k ∷ s) pick asks.Run).world (k ∷ s)) ≡ true → AreCalm w (k ∷ s) (listed (outcome w (k ∷ s) pick asks.Run))
unfolding outcome step
instructions_calm w k s pick t g there mode after = all.calm after
  where
    moved : Fine w (k ∷ s) t g there mode (user_move w (k ∷ s) pick (Some t))
    moved = when_fine w (k ∷ s) t g there mode (is_free w s t) (goes_on w (k ∷ s) pick t t.mode)
        (subst (λ (m : Mode). Fine w (k ∷ s) t g there mode (goes_on w (k ∷ s) pick t m)) (sym mode)
        (picked_fine w (k ∷ s) t g there mode pick (run_row w s k g t.counter) (run_fine w k s t g there mode t.counter)))

    all : Fine w (k ∷ s) t g there mode (user_move w (k ∷ s) pick (thread_at w (k ∷ s)))
    all = subst (λ (o : Option Thread). Fine w (k ∷ s) t g there mode (user_move w (k ∷ s) pick o)) (sym there) moved
